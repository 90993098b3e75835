-- What holds of the three calls: their refusals come in order and alter nothing, and what an insertion or a removal leaves is found by a lookup.
use mathlib.Core.Path.{◌≡◌, refl, sym, ap, ◌∙◌}
use mathlib.Core.Bool.{true, false, not}
use mathlib.Core.List.{List, [], ◌∷◌, ◌++◌}
use Prim.Native.Nat.{ℕ, ◌≤◌}
use native.Mathlib.Omega.{arith}
use lib.Dec.{ltb, eqb}
use lib.ListN.{length}
use borrow.Author.Tests.{ltb-true, ltb-false, eqb-true, eqb-false, le-ltb, not-false}
use Rattle.words.specs.declared.Outcome.{Outcome}
use Rattle.words.specs.Refusals.{Refusal, decide, numbers, here, later, NoneApplies, done, next}
use Rattle.words.specs.Rows.{Row, number_of, outcome_of, refusal_order, among, in_order}
use Rattle.words.proofs.Cases.{by-test}
use Rattle.words.proofs.RefusalLaws.{applies-answers, none_answers}
use Rattle.words.proofs.RowLaws.{zero-none, exactly, refused-is, accepted-is, number_is, refused-zeros, refused-leaves}
use Rattle.trees.specs.declared.Range.{Range}
use Rattle.trees.specs.Ranges.{page_value, look_list, held, insert_list, remove_list, holds_base, overlaps, beside_refusals, proper}
use Rattle.trees.specs.Nodes.{root_in}
use Rattle.trees.specs.Trees.{Rooted, contents, tree_words, tree_at, height_of, tree_of, contents_of}
use Rattle.trees.specs.Lawful.{Lawful}
use Rattle.trees.specs.Insertion.{insert_tree}
use Rattle.trees.specs.Removal.{remove_tree}
use Rattle.trees.specs.Calls.{buffer_refusals, past_pages, insert_call, remove_call, lookup_call}
use Rattle.trees.specs.Inner.Spans.{Between, Proper}
use Rattle.trees.specs.Inner.Walk.{lawful}
use Rattle.trees.specs.Statements.{LawfulExactly, InsertionFixed, RemovalFixed, KeepsDemands, CallsKeepDemands, Answers, SameAnswer, AcceptedLeavesLawful, LookupWithinFour, InsertedIsFound, RemovedIsGone, InsertedThenRemoved}
use Rattle.trees.specs.Inner.Holding.{Valid}
use Rattle.trees.proofs.RangeLaws.{is-proper, look-high, look-held, around, between_le, page-in}
use Rattle.trees.proofs.ContentsLaws.{look-inserted, held-inserted, holds-inserted, remove-inserted, look-removed, held-removed}
use Rattle.trees.proofs.CallLaws.{goes_on, proper-fine, taken-range}
use Rattle.trees.proofs.InsertionLaws.{insert-contents}
use Rattle.trees.proofs.InsertValidLaws.{insert-valid}
use Rattle.trees.proofs.RemoveValidLaws.{remove-contents, remove-valid}
use Rattle.trees.proofs.ListLaws.{valid-lawful, lawful-valid-tree}
use Rattle.trees.proofs.WordsLaws.{words-holding}
use Rattle.trees.proofs.LawfulLaws.{height-le}
use Rattle.trees.proofs.SearchLaws.{path-levels}
use Rattle.trees.proofs.ExactLaws.{lawful-valid, valid-words, lawful-exactly}

-- Refusals in order

insert-order : (b : List ℕ) (r : Range) → in_order (insert_call b r).refusals ≡ true
unfolding insert_call buffer_refusals beside_refusals in_order numbers refusal_order among
insert-order b r = refl

remove-order : (b : List ℕ) (base : ℕ) → in_order (remove_call b base).refusals ≡ true
unfolding remove_call buffer_refusals past_pages in_order numbers refusal_order among
remove-order b base = refl

lookup-order : (b : List ℕ) (p : ℕ) → in_order (lookup_call b p).refusals ≡ true
unfolding lookup_call buffer_refusals past_pages in_order numbers refusal_order among
lookup-order b p = refl

keeps-demands : (w : Row (List ℕ)) → in_order w.refusals ≡ true → KeepsDemands w
unfolding number_of
keeps-demands w i = record { ordered = i; exactly = rw (number_is w) (exactly w.refusals i); alters-nothing = λ old o left d f. (refused-zeros w old o left d f, refused-leaves w old o left d f) }

pub calls-keep-demands : CallsKeepDemands
unfolding CallsKeepDemands
calls-keep-demands b = (λ r. keeps-demands (insert_call b r) (insert-order b r), (λ base. keeps-demands (remove_call b base) (remove-order b base), λ p. keeps-demands (lookup_call b p) (lookup-order b p)))

-- A buffer that holds a lawful tree with the ranges rs
pub record Holds (b : List ℕ) (rs : List Range) : Type 0 where
  pub size : length b ≡ 1537
  pub is : lawful b ≡ true
  pub ranges : contents_of b ≡ rs
  pub between : Between 0 rs 1024
  pub propers : Proper rs

lawful-holds : (b : List ℕ) → length b ≡ 1537 → lawful b ≡ true → Holds b (contents_of b)
unfolding contents_of tree_of
lawful-holds b size is = let v = lawful-valid b is in record { size = size; is = is; ranges = refl; between = v.between; propers = v.propers }

accepted-buffer : (b : List ℕ) (qs : List (Refusal ℕ)) → NoneApplies (buffer_refusals b ++ qs) → Holds b (contents_of b) × NoneApplies qs
unfolding buffer_refusals
accepted-buffer b qs (next s (next l q)) = (lawful-holds b (eqb-true _ _ (not-false _ s)) (not-false _ l), q)

pub words-hold : (t : Rooted) → Valid t → Holds (tree_words t) (contents t.height t.tree)
unfolding contents_of tree_of
words-hold t v =
    let w = valid-words t v in
    record { size = (words-holding t v).size; is = w.0; ranges = ap (λ (x : Rooted). contents x.height x.tree) w.1; between = v.between; propers = v.propers }

-- A lookup in it

abbrev page_refusals : List Range → ℕ → List (Refusal ℕ)
page_refusals rs p = past_pages p ∷ record { when = not (held rs p); answer = 12 } ∷ []

module _ {b : List ℕ} {rs : List Range} (h : Holds b rs) (p : ℕ) where
  lookup-number : number_of (lookup_call b p) ≡ decide (page_refusals rs p) 0
  unfolding number_of lookup_call
  lookup-number = goes_on b (page_refusals (contents_of b) p) h.size h.is ∙ rw h.ranges

  lookup_first : (lookup_call b p).first ≡ look_list rs p
  unfolding lookup_call
  lookup_first = rw h.ranges

  held-page : held rs p ≡ true → p ≤ 1023
  held-page t =
      by-test (ltb 1023 p)
      (λ e. let l = ltb-true _ _ e in let a = look-high p l h.between in let c = look-held p h.propers t in absurd (omega arith))
      (λ e. ltb-false _ _ e)

  pub lookup-found : held rs p ≡ true → Answers b p 0 (look_list rs p)
  unfolding past_pages
  lookup-found t =
      let z : number_of (lookup_call b p) ≡ 0 = lookup-number ∙ none_answers _ (next (le-ltb 1023 p (held-page t)) (next (ap not t) done)) in
      (number_is (lookup_call b p) ∙ z, ap (λ (o : Outcome). o.first) (accepted-is (lookup_call b p) z) ∙ lookup_first)

  pub lookup-missing : p ≤ 1023 → held rs p ≡ false → Answers b p 12 0
  unfolding past_pages
  lookup-missing l t =
      let z : number_of (lookup_call b p) ≡ 12 = lookup-number ∙ applies-answers 12 _ (later (le-ltb 1023 p l) (here refl (ap not t))) in
      (number_is (lookup_call b p) ∙ z, ap (λ (o : Outcome). o.first) (refused-is (lookup_call b p) (λ y. omega arith)))

same_first : (w v : Row (List ℕ)) → number_of w ≡ number_of v → w.first ≡ v.first → (outcome_of w).first ≡ (outcome_of v).first
same_first w v e f =
    by-test (eqb (number_of v) 0)
    (λ y. let z = eqb-true _ _ y in ap (λ (o : Outcome). o.first) (accepted-is w (e ∙ z)) ∙ f ∙ sym (ap (λ (o : Outcome). o.first) (accepted-is v z)))
    (λ y. let n = eqb-false _ _ y in ap (λ (o : Outcome). o.first) (refused-is w (λ z. n (sym e ∙ z))) ∙ sym (ap (λ (o : Outcome). o.first) (refused-is v n)))

same_answer : {b b' : List ℕ} {rs rs' : List Range} → Holds b rs → Holds b' rs' → (p : ℕ) → held rs' p ≡ held rs p → look_list rs' p ≡ look_list rs p → SameAnswer b b' p
same_answer {b} {b'} h h' p e f =
    let n : number_of (lookup_call b' p) ≡ number_of (lookup_call b p) = lookup-number h' p ∙ rw e (sym (lookup-number h p)) in
    (number_is (lookup_call b' p) ∙ n ∙ sym (number_is (lookup_call b p)), same_first (lookup_call b' p) (lookup_call b p) n (lookup_first h' p ∙ f ∙ sym (lookup_first h p)))

-- Removal

pub removal-fixed : RemovalFixed
unfolding RemovalFixed
removal-fixed t base l k =
    let v = lawful-valid-tree t l in
    (valid-lawful (remove_tree base t) (remove-valid base t v k), remove-contents base t v k)

module _ (b : List ℕ) (base : ℕ) where
  remove-accepted : number_of (remove_call b base) ≡ 0 → Holds b (contents_of b) × (holds_base base (contents_of b) ≡ true)
  unfolding number_of remove_call
  remove-accepted e = let a = accepted-buffer b _ (zero-none _ (remove-order b base) e) in (a.0, go a.1)
    where
      go : NoneApplies (past_pages base ∷ record { when = not (holds_base base (contents_of b)); answer = 12 } ∷ []) → holds_base base (contents_of b) ≡ true
      go (next l (next k done)) = not-false _ k

  module _ {rs : List Range} (h : Holds b rs) (k : holds_base base rs ≡ true) where
    remove-accepts : base ≤ 1023 → number_of (remove_call b base) ≡ 0
    unfolding number_of remove_call past_pages
    remove-accepts l = goes_on b _ h.size h.is ∙ none_answers _ (next (le-ltb 1023 base l) (next (ap not (ap (holds_base base) h.ranges ∙ k)) done))

    removed : Holds (remove_call b base).new (remove_list base rs)
    unfolding remove_call contents_of tree_of
    removed =
        let v = lawful-valid b h.is in
        let t = tree_of b in
        let c : contents t.height t.tree ≡ rs = h.ranges in
        let g : holds_base base (contents t.height t.tree) ≡ true = rw c k in
        rw (remove-contents base t v g, c) at (words-hold (remove_tree base t) (remove-valid base t v g))

pub removed-is-gone : RemovedIsGone
unfolding RemovedIsGone
removed-is-gone b xs q ys e z p =
    let a = remove-accepted b q.base z in
    let h = a.0 in
    let m = h.between in
    let g = removed b q.base h a.1 in
    let w = around 0 xs q ys 1024 (rw e at m) in (
      λ t. lookup-missing g p (let l = between_le w.right in let u = (page-in q p t).1 in omega arith) (held-removed m q.base xs q ys e refl p ∙ rw t),
      λ t. same_answer h g p (held-removed m q.base xs q ys e refl p ∙ rw t) (look-removed m q.base xs q ys e refl p ∙ rw t),
    )

-- Insertion

pub insertion-fixed : InsertionFixed
unfolding InsertionFixed
insertion-fixed t r l e =
    let v = lawful-valid-tree t l in
    let k = taken-range r (contents t.height t.tree) e in
    (valid-lawful (insert_tree r t) (insert-valid r t v k.0 k.1), insert-contents r t 0 1024 v.between)

module _ (b : List ℕ) (r : Range) where
  insert-accepted : number_of (insert_call b r) ≡ 0 → Holds b (contents_of b) × ((proper r ≡ true) × (overlaps r (contents_of b) ≡ false))
  unfolding number_of insert_call
  insert-accepted e = let a = accepted-buffer b _ (zero-none _ (insert-order b r) e) in (a.0, taken-range r (contents_of b) (none_answers _ a.1))

  module _ {rs : List Range} (h : Holds b rs) (is : proper r ≡ true) (apart : overlaps r rs ≡ false) where
    pub insert-accepts : number_of (insert_call b r) ≡ 0
    unfolding number_of insert_call
    insert-accepts = goes_on b _ h.size h.is ∙ proper-fine r (contents_of b) is (ap (overlaps r) h.ranges ∙ apart)

    pub inserted : Holds (insert_call b r).new (insert_list r rs)
    unfolding insert_call contents_of tree_of
    inserted =
        let v = lawful-valid b h.is in
        let t = tree_of b in
        let c : contents t.height t.tree ≡ rs = h.ranges in
        let g : overlaps r (contents t.height t.tree) ≡ false = rw c apart in
        rw (insert-contents r t 0 1024 v.between, c) at (words-hold (insert_tree r t) (insert-valid r t v is g))

pub inserted-is-found : InsertedIsFound
unfolding InsertedIsFound
inserted-is-found b r z p =
    let a = insert-accepted b r z in
    let h = a.0 in
    let apart = a.1.1 in
    let g = inserted b r h a.1.0 apart in
    let rs = contents_of b in (
      λ t. let l : look_list (insert_list r rs) p ≡ page_value r p = look-inserted r p rs apart ∙ rw t in rw l at (lookup-found g p (held-inserted r p rs ∙ rw t)),
      λ t. same_answer h g p (held-inserted r p rs ∙ rw t) (look-inserted r p rs apart ∙ rw t),
    )

pub inserted-then-removed : InsertedThenRemoved
unfolding InsertedThenRemoved
inserted-then-removed b r z =
    let a = insert-accepted b r z in
    let h = a.0 in
    let q = is-proper r a.1.0 in
    let some = q.pages in let top = q.top in
    let g = inserted b r h a.1.0 a.1.1 in
    let k = holds-inserted r (contents_of b) in
    (remove-accepts (insert_call b r).new r.base g k (omega arith), (removed (insert_call b r).new r.base g k).ranges ∙ remove-inserted r (omega arith) a.1.1 h.between)

-- What is left is lawful

holds-lawful : (b : List ℕ) (rs : List Range) → Holds b rs → Lawful b
unfolding LawfulExactly
holds-lawful b rs h = (lawful-exactly b h.size).0 h.is

pub accepted-leaves-lawful : AcceptedLeavesLawful
unfolding AcceptedLeavesLawful
accepted-leaves-lawful b = (
  λ r z. let a = insert-accepted b r z in let g = inserted b r a.0 a.1.0 a.1.1 in (holds-lawful _ _ g, g.ranges),
  λ base z. let a = remove-accepted b base z in let g = removed b base a.0 a.1 in (holds-lawful _ _ g, g.ranges),
)

pub lookup-within-four : LookupWithinFour
unfolding LookupWithinFour
lookup-within-four b p =
    by-test (eqb (number_of (lookup_call b p)) 0)
    (λ t. let z = eqb-true _ _ t in let e = ap (λ (o : Outcome). o.second) (accepted-is (lookup_call b p) z) in let f = found-four z in omega arith)
    (λ t. let e = ap (λ (o : Outcome). o.second) (refused-is (lookup_call b p) (eqb-false _ _ t)) in omega arith)
  where
    found-four : number_of (lookup_call b p) ≡ 0 → (lookup_call b p).second ≤ 4
    found-four z = unfold lookup_call in (let l = path-levels p (height_of b) (tree_at b (height_of b) (root_in b)) in let h = height-le b in omega arith)
