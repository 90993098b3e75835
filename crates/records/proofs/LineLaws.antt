-- The bytes of a line.
use mathlib.Core.Path.{◌≡◌, refl, ap, sym, subst, ◌∙◌}
use mathlib.Core.List.{List, [], ◌∷◌, ◌++◌, append_assoc}
use Prim.Native.Nat.{ℕ, zero, suc, ◌+◌, ◌-◌, ◌^◌, ◌≤◌, ◌<◌}
use native.Mathlib.Nat.{pow-le-pow_right, lt_of_not-le, le_antisymm, le_of_suc-le-suc}
use native.Mathlib.Numerals.{add-one}
use native.Mathlib.Omega.{arith}
use lib.ListN.{length, take, drop, set, length-append}
use lib.Seq.{paste, length_paste_head, length-take-le, take_at, set_at, drop-cons, drop-drop, drop-append-add}
use lib.Dec.{ltb}
use borrow.Rule.Slice.PartMut.{put_mid}
use borrow.Author.Tests.{ltb-true, ltb-false}
use Rattle.words.proofs.Cases.{by-test}
use Rattle.io.specs.Digits.{last_digits, IsDigitCount}
use Rattle.words.specs.declared.Outcome.{Outcome}
use Rattle.records.specs.Lines.{places_from, decimal, written, cell, line}

-- the fewest places that hold n are the first that do
module _ (n k : ℕ) (fewest : IsDigitCount 10 1 n k) where
  not-before : (j : ℕ) → 1 ≤ j → j < k → 10 ^ j ≤ n
  not-before j h l =
      let p : 10 ^ (k - 1) ≤ n = fewest.2 (omega arith) in
      let q : 10 ^ j ≤ 10 ^ (k - 1) = pow-le-pow_right (omega arith) (omega arith) in
      omega arith

  first : (j : ℕ) → 1 ≤ j → j ≤ k → n < 10 ^ j → j ≡ k
  first j h l holds = le_antisymm l (le_of_suc-le-suc (lt_of_not-le (λ m. let a : 10 ^ j ≤ n = not-before j h m in omega arith)))

  more : (j : ℕ) → j ≤ k → 10 ^ j ≤ n → suc j ≤ k
  more j l less = lt_of_not-le (λ m. let e : k ≡ j = omega arith in let a : n < 10 ^ j = subst (λ (i : ℕ). n < 10 ^ i) e fewest.1 in omega arith)

  places_is : (f j : ℕ) → 1 ≤ j → j ≤ k → k ≤ j + f → places_from f j n ≡ k
  unfolding places_from
  places_is zero j h l m = omega arith
  places_is (suc f) j h l m =
      by-test (ltb n (10 ^ j))
      (λ t. rw t (first j h l (ltb-true _ _ t)))
      (λ e. rw e (places_is f (suc j) (omega arith) (more j l (ltb-false _ _ e)) (omega arith)))

  -- a 64-bit number has at most 20 digits
  pub twenty : n < 18446744073709551616 → k ≤ 20
  twenty h = le_of_suc-le-suc (lt_of_not-le (λ m. let a : 10 ^ 20 ≤ n = not-before 20 (omega arith) m in let v : 10 ^ 20 ≡ 100000000000000000000 = refl in omega arith))

  digits_are : k ≤ 20 → last_digits 10 k n ≡ decimal n
  unfolding decimal
  digits_are h = ap (λ (j : ℕ). last_digits 10 j n) (sym (places_is 19 1 (omega arith) fewest.0 (omega arith)))

-- bytes copied to a place
pub pasted : (out text mid : List ℕ) (at k : ℕ) → mid ≡ take k text → put_mid at (at + k - at) out mid ≡ paste out at text k
pasted out text mid at k e =
    let count : at + k - at ≡ k = omega arith in
    ap (λ (j : ℕ). put_mid at j out mid) count
    ∙ ap (λ (l : List ℕ). take at out ++ (l ++ drop k (drop at out))) e
    ∙ ap (λ (l : List ℕ). take at out ++ (take k text ++ l)) (drop-drop k at out)
    ∙ sym (append_assoc (take at out) (take k text) (drop (at + k) out))

-- a number put at a place, and the byte after it
module _ (out text next : List ℕ) (at n k after : ℕ) (fewest : IsDigitCount 10 1 n k) (k-fits : k ≤ 20) (copied : next ≡ paste out at text k) (spelt : take k text ≡ last_digits 10 k n) (at-fits : at + k < length out) (text-fits : k ≤ length text) where
  text-is : take k text ≡ decimal n
  text-is = spelt ∙ digits_are n k fewest k-fits

  cell-length : length (cell n after) ≡ k + 1
  unfolding cell
  cell-length = length-append (decimal n) (after ∷ []) ∙ ap (λ (j : ℕ). j + 1) (ap length (sym text-is) ∙ length-take-le k text text-fits)

  pub put-ends : at + k + 1 ≡ at + length (cell n after)
  put-ends = rw cell-length (omega arith)

  rest-is : suc (at + k) ≡ at + length (cell n after)
  rest-is = sym (add-one (at + k)) ∙ put-ends

  pub put_is : set next (at + k) after ≡ written at (cell n after) out
  unfolding written cell
  put_is =
      ap (λ (x : List ℕ). set x (at + k) after) copied
      ∙ ap (λ (x : List ℕ). set (take at out ++ take k text ++ x) (at + k) after) (drop-cons out (at + k) 0 at-fits)
      ∙ set_at (take at out ++ take k text) _ _ after (at + k) (length_paste_head out at text k (omega arith) text-fits)
      ∙ append_assoc (take at out) (take k text) (after ∷ drop (suc (at + k)) out)
      ∙ ap (λ (x : List ℕ). take at out ++ (x ++ (after ∷ drop (suc (at + k)) out))) text-is
      ∙ ap (λ (i : ℕ). take at out ++ (decimal n ++ (after ∷ drop i out))) rest-is
      ∙ ap (λ (x : List ℕ). take at out ++ x) (sym (append_assoc (decimal n) (after ∷ []) (drop (at + length (cell n after)) out)))

-- the text so far: l, from the place on, and the place after it
pub record Text (at : ℕ) (l before out : List ℕ) (r : ℕ) : Type 0 where
  pub ends : r ≡ at + length l
  pub is : out ≡ written at l before

pub begun : (at : ℕ) (l before out : List ℕ) (r : ℕ) → out ≡ written at l before → r ≡ at + length l → Text at l before out r
begun at l before out r e f = record { ends = f; is = e }

-- what is written right behind l belongs to one text with it
module _ (at : ℕ) (l m out : List ℕ) (h : at ≤ length out) where
  head-ends : length (take at out ++ l) ≡ at + length l
  head-ends = length-append (take at out) l ∙ ap (λ (i : ℕ). i + length l) (length-take-le at out h)

  ends-both : at + length l + length m ≡ at + length (l ++ m)
  ends-both = rw (length-append l m) (omega arith)

  rest : List ℕ
  rest = drop (at + length l) out

  both-written : written (at + length l) m (written at l out) ≡ written at (l ++ m) out
  unfolding written rest
  both-written =
      ap (λ (x : List ℕ). take (at + length l) x ++ (m ++ drop (at + length l + length m) x)) (sym (append_assoc (take at out) l rest))
      ∙ ap (λ (x : List ℕ). x ++ (m ++ drop (at + length l + length m) ((take at out ++ l) ++ rest))) (take_at (take at out ++ l) rest (at + length l) head-ends)
      ∙ ap (λ (i : ℕ). (take at out ++ l) ++ (m ++ drop (i + length m) ((take at out ++ l) ++ rest))) (sym head-ends)
      ∙ ap (λ (x : List ℕ). (take at out ++ l) ++ (m ++ x)) (drop-append-add (take at out ++ l) rest (length m) ∙ drop-drop (length m) (at + length l) out)
      ∙ append_assoc (take at out) l (m ++ drop (at + length l + length m) out)
      ∙ ap (λ (x : List ℕ). take at out ++ x) (sym (append_assoc l m (drop (at + length l + length m) out)))
      ∙ ap (λ (i : ℕ). take at out ++ ((l ++ m) ++ drop i out)) ends-both

module _ (at : ℕ) (l m before out next : List ℕ) (there r : ℕ) (h : at ≤ length before) where
  pub goes_on : Text at l before out there → next ≡ written there m out → r ≡ there + length m → Text at (l ++ m) before next r
  goes_on t e f =
      record {
        ends = f ∙ ap (λ (i : ℕ). i + length m) t.ends ∙ ends-both at l m before h;
        is = e ∙ ap (λ (i : ℕ). written i m out) t.ends ∙ ap (written (at + length l) m) t.is ∙ both-written at l m before h;
      }

-- five of them are a line
module _ (at number kind : ℕ) (o : Outcome) (before out : List ℕ) (r : ℕ) where
  pub line-is : Text at (cell number 32 ++ cell kind 32 ++ cell o.number 32 ++ cell o.first 32 ++ cell o.second 10) before out r → Text at (line number kind o) before out r
  unfolding line
  line-is t = t
