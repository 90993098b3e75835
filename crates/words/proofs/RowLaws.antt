-- What follows from a call's promise by its row alone, and the promise from what its code knows.
use mathlib.Core.Path.{◌≡◌, refl, ap, ◌∙◌, sym}
use mathlib.Core.Bool.{Bool, true, false, ◌&&◌}
use mathlib.Core.List.{List, [], ◌∷◌}
use Prim.Native.Nat.{ℕ, zero, suc, ◌<◌, ◌≤◌}
use native.Mathlib.Omega.{arith}
use lib.Dec.{leb, eqb}
use lib.ListN.{length, get_or}
use borrow.Author.Tests.{eq-eqb, ne_eqb, eqb-true, eqb-false, leb-true}
use Rattle.words.specs.declared.Outcome.{Outcome}
use Rattle.words.specs.Refusals.{Refusal, decide, numbers, NoneApplies}
use Rattle.words.specs.Rows.{refusal, values, accepted, leaves, Row, number_of, outcome_of, Promised, after, Exactly, refusal_order, among, in_order}
use Rattle.words.proofs.Cases.{by-test, and-true, true-and, true-false}
use Rattle.words.proofs.RefusalLaws.{applies-answers, answers-applies, none_answers, answers-none}

-- none of the numbers is 0
unfoldable positive : List ℕ → Bool
positive [] = true
positive (n ∷ ns) = leb 1 n && positive ns

positive-at : (ns : List ℕ) → positive ns ≡ true → (k : ℕ) → k < length ns → get_or ns k 0 ≡ 0 → ⊥
unfolding positive
positive-at [] t k h e = omega arith
positive-at (n ∷ ns) t zero h e = let p : 1 ≤ n = leb-true _ _ (and-true (leb 1 n) (positive ns) t).0 in omega arith
positive-at (n ∷ ns) t (suc k) h e = positive-at ns (and-true (leb 1 n) (positive ns) t).1 k (omega arith) e

among-positive : (ks ns : List ℕ) → positive ks ≡ true → among ks ns ≡ true → positive ns ≡ true
unfolding positive among
among-positive [] [] p t = refl
among-positive [] (n ∷ ns) p t = true-false false t refl
among-positive (k ∷ ks) [] p t = refl
among-positive (k ∷ ks) (n ∷ ns) p t =
    let q = and-true (leb 1 k) (positive ks) p in
    by-test (eqb k n)
    (λ y. true-and (leb 1 n) (positive ns) (ap (leb 1) (sym (eqb-true k n y)) ∙ q.0) (among-positive ks ns q.1 (rw (y, among) at t)))
    (λ o. among-positive ks (n ∷ ns) q.1 (rw (o, among) at t))

ordered-positive : (rs : List (Refusal ℕ)) → in_order rs ≡ true → positive (numbers rs) ≡ true
unfolding in_order positive refusal_order
ordered-positive rs t = among-positive refusal_order _ all t
  where
    all : positive refusal_order ≡ true
    all = refl

-- no refusal applies where the number is 0
pub zero-none : (rs : List (Refusal ℕ)) → in_order rs ≡ true → decide rs 0 ≡ 0 → NoneApplies rs
zero-none rs o e = answers-none rs (positive-at _ (ordered-positive rs o)) e

pub exactly : (rs : List (Refusal ℕ)) → in_order rs ≡ true → Exactly rs (decide rs 0)
exactly rs o =
    record {
      refused = λ n w. applies-answers n rs w;
      only = λ n nz e. answers-applies n nz rs e;
      accepts = λ w. none_answers rs w;
      none = λ e. zero-none rs o e;
    }

-- what a call leaves, by its number
pub kept : {A : Type 0} (n : ℕ) (new old : A) → (n ≡ 0 → ⊥) → old ≡ leaves n new old
unfolding leaves
kept n new old z = rw (ne_eqb _ _ z, leaves)

pub renewed : {A : Type 0} (n : ℕ) (new old : A) → n ≡ 0 → new ≡ leaves n new old
unfolding leaves
renewed n new old z = rw (eq-eqb _ _ z, leaves)

module _ {A : Type 0} (w : Row A) where
  pub refused-is : (number_of w ≡ 0 → ⊥) → outcome_of w ≡ refusal (number_of w)
  unfolding outcome_of
  refused-is n = rw (ne_eqb _ _ n, outcome_of)

  pub accepted-is : number_of w ≡ 0 → outcome_of w ≡ values w.first w.second
  unfolding outcome_of
  accepted-is z = rw (eq-eqb _ _ z, outcome_of)

  -- the outcome has the row's number
  pub number_is : (outcome_of w).number ≡ number_of w
  number_is =
      by-test (eqb (number_of w) 0)
      (λ y. let z = eqb-true _ _ y in ap (λ (o : Outcome). o.number) (accepted-is z) ∙ sym z)
      (λ y. ap (λ (o : Outcome). o.number) (refused-is (eqb-false _ _ y)))

  pub none_number : NoneApplies w.refusals → number_of w ≡ 0
  unfolding number_of
  none_number f = none_answers w.refusals f

  -- a promise is kept in one way, and always can be
  pub promised : (old : A) → Promised w old (outcome_of w) (leaves (number_of w) w.new old)
  promised old = record { answers = refl; leaves-new = refl }

-- a refusal judged before the others that does not apply changes nothing
module _ {A : Type 0} (n : ℕ) (w : Row A) (old : A) (o : Outcome) (left : A) where
  pub with-before : Promised w old o left → Promised (after (record { when = false; answer = n } ∷ []) w) old o left
  unfolding outcome_of number_of after decide
  with-before d = record { answers = d.answers; leaves-new = d.leaves-new }

  pub without-before : Promised (after (record { when = false; answer = n } ∷ []) w) old o left → Promised w old o left
  unfolding outcome_of number_of after decide
  without-before d = record { answers = d.answers; leaves-new = d.leaves-new }

-- what a promise says
module _ {A : Type 0} (w : Row A) (old : A) (o : Outcome) (left : A) (d : Promised w old o left) where
  pub promised-number : o.number ≡ number_of w
  promised-number = ap (λ (x : Outcome). x.number) d.answers ∙ number_is w

  pub refused-zeros : accepted o ≡ false → o ≡ refusal o.number
  refused-zeros f =
      let e = promised-number in
      d.answers ∙ refused-is w (λ z. eqb-false _ _ f (e ∙ z)) ∙ ap refusal (sym e)

  pub refused-leaves : accepted o ≡ false → left ≡ old
  refused-leaves f = d.leaves-new ∙ sym (kept (number_of w) w.new old (λ z. eqb-false _ _ f (promised-number ∙ z)))

  pub accepted-leaves : accepted o ≡ true → left ≡ w.new
  accepted-leaves t = d.leaves-new ∙ sym (renewed (number_of w) w.new old (sym promised-number ∙ eqb-true _ _ t))

  module _ (i : in_order w.refusals ≡ true) where
    pub promised-exactly : Exactly w.refusals o.number
    unfolding number_of
    promised-exactly = rw promised-number (exactly w.refusals i)

    pub accepted-none : accepted o ≡ true → NoneApplies w.refusals
    accepted-none t = promised-exactly.none (eqb-true _ _ t)

-- rows with the same values and number
pub same_outcome : {A : Type 0} (w v : Row A) → w.first ≡ v.first → w.second ≡ v.second → number_of w ≡ number_of v → outcome_of w ≡ outcome_of v
same_outcome w v a b e =
    by-test (eqb (number_of v) 0)
    (λ y. let z = eqb-true _ _ y in accepted-is w (e ∙ z) ∙ ap (λ (n : ℕ). values n w.second) a ∙ ap (values v.first) b ∙ sym (accepted-is v z))
    (λ y. let n = eqb-false _ _ y in refused-is w (λ z. n (sym e ∙ z)) ∙ ap refusal e ∙ sym (refused-is v n))
