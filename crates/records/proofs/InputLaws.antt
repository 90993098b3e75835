-- The record that the bytes begin with, whatever comes behind it.
use mathlib.Core.Path.{◌≡◌, refl, ap, sym, subst, ◌∙◌}
use mathlib.Core.Bool.{Bool, true, false, cond}
use mathlib.Core.List.{List}
use Prim.Native.Nat.{ℕ, ◌+◌, ◌-◌, ◌≤◌, ◌<◌}
use native.Mathlib.Nat.{add_comm}
use native.Mathlib.Omega.{arith}
use lib.Dec.{eqb, ltb}
use lib.ListN.{length, get_or, take, drop, length-drop}
use lib.Seq.{length-take-le, get_or-take, take-add, drop-drop, drop_at}
use borrow.Author.Tests.{lt-ltb, le-ltb, eq-eqb, ne_eqb, ltb-false, eqb-true, eqb-false}
use Rattle.words.proofs.Cases.{by-test}
use Rattle.std.specs.Prelude.{Option, Some, None, MatchOption, unwrap_or}
use Rattle.records.specs.declared.Window.{Window}
use Rattle.records.specs.declared.Next.TheVariants.{End, Cut, Whole}
use Rattle.records.specs.Records.{word_at, Meaning, meaning}
use Rattle.records.specs.Input.{waiting, standing, record_of, next_of, behind}

-- a length that is not 0 passed both tests
not-refused : (p q : Bool) (n : ℕ) → (cond p 0 (cond q 0 n) ≡ 0 → ⊥) → cond p 0 (cond q 0 n) ≡ n
not-refused true q n f = absurd (f refl)
not-refused false true n f = absurd (f refl)
not-refused false false n f = refl

-- the length of the record at the front
module _ (b : List ℕ) where
  pub no-head : length b < 2 → standing b ≡ 0
  unfolding standing
  no-head h = rw (lt-ltb (length b) 2 h)

  module _ (h : 2 ≤ length b) where
    pub part_of : length b < word_at b 0 + 2 → standing b ≡ 0
    unfolding standing
    part_of l = rw (le-ltb (length b) 2 h, lt-ltb (length b) (word_at b 0 + 2) l)

    pub stands : word_at b 0 + 2 ≤ length b → standing b ≡ word_at b 0 + 2
    unfolding standing
    stands l = rw (le-ltb (length b) 2 h, le-ltb (length b) (word_at b 0 + 2) l)

  pub stands-so : (standing b ≡ 0 → ⊥) → standing b ≡ word_at b 0 + 2
  unfolding standing
  stands-so f = not-refused (ltb (length b) 2) (ltb (length b) (word_at b 0 + 2)) (word_at b 0 + 2) f

-- an answer of the length, as a number
pub amount : (o : Option ℕ) (s : ℕ) → MatchOption o (s ≡ 0) (λ n. (n ≡ s) × (2 ≤ n)) → unwrap_or o 0 ≡ s
amount None s e = sym e
amount (Some n) s e = e.0

-- what the bytes give
module _ (b : List ℕ) where
  pub none_left : length b ≡ 0 → End ≡ next_of b
  unfolding next_of
  none_left e = rw (eq-eqb (length b) 0 e)

  module _ (some : length b ≡ 0 → ⊥) where
    pub cut_short : standing b ≡ 0 → Cut ≡ next_of b
    unfolding next_of
    cut_short e = rw (ne_eqb (length b) 0 some, eq-eqb (standing b) 0 e)

    module _ (n : ℕ) (is : n ≡ standing b) (whole : 2 ≤ n) where
      stands-there : standing b ≡ 0 → ⊥
      stands-there e = omega arith

      less-head : n - 2 ≡ word_at b 0
      less-head = let e = stands-so b stands-there in omega arith

      pub all_there : (m : Meaning) → m ≡ meaning (take (n - 2) (drop 2 b)) → Whole m ≡ next_of b
      unfolding next_of record_of
      all_there m e = rw (ne_eqb (length b) 0 some, ne_eqb (standing b) 0 stands-there) (ap Whole (e ∙ ap (λ (k : ℕ). meaning (take k (drop 2 b))) less-head))

pub within : (b : List ℕ) → standing b ≤ length b
unfolding standing
within b =
    by-test (ltb (length b) 2)
    (λ t. rw t (omega arith))
    (λ f. rw f (by-test (ltb (length b) (word_at b 0 + 2)) (λ t. rw t (omega arith)) (λ g. rw g (ltb-false _ _ g))))

pub whole-stands : (b : List ℕ) (m : Meaning) → next_of b ≡ Whole m → standing b ≡ 0 → ⊥
whole-stands b m e z =
    by-test (eqb (length b) 0)
    (λ t. let n : End ≡ next_of b = none_left b (eqb-true _ _ t) in let y : ◌≡◌ {A = ℕ} 0 1 = cc in omega arith)
    (λ f. let n : Cut ≡ next_of b = cut_short b (eqb-false _ _ f) z in let y : ◌≡◌ {A = ℕ} 0 1 = cc in omega arith)

-- bytes x that begin with the whole record at the front of b
module _ (b x : List ℕ) (whole : standing b ≡ 0 → ⊥) (same : take (standing b) x ≡ take (standing b) b) (long : standing b ≤ length x) where
  with-head : standing b ≡ word_at b 0 + 2
  with-head = stands-so b whole

  same_byte : (i : ℕ) → i < standing b → get_or x i 0 ≡ get_or b i 0
  same_byte i h = sym (get_or-take (standing b) x i 0 h) ∙ ap (λ (l : List ℕ). get_or l i 0) same ∙ get_or-take (standing b) b i 0 h

  same_head : word_at b 0 ≡ word_at x 0
  same_head = let e = with-head in rw (same_byte 0 (omega arith), same_byte 1 (omega arith))

  pub same-standing : standing x ≡ standing b
  same-standing = let e = with-head in let h = same_head in stands x (omega arith) (omega arith) ∙ ap (λ (n : ℕ). n + 2) (sym h) ∙ sym e

  -- the record's bytes are those of the front without its head
  bytes_of : (y : List ℕ) → 2 ≤ length y → take (word_at b 0) (drop 2 y) ≡ drop 2 (take (2 + word_at b 0) y)
  bytes_of y h = sym (ap (drop 2) (take-add 2 (word_at b 0) y) ∙ drop_at (take 2 y) (take (word_at b 0) (drop 2 y)) 2 (length-take-le 2 y h))

  same-front : take (2 + word_at b 0) x ≡ take (2 + word_at b 0) b
  same-front = let e : standing b ≡ 2 + word_at b 0 = with-head ∙ add_comm (word_at b 0) 2 in subst (λ (k : ℕ). take k x ≡ take k b) e same

  same-record : record_of x ≡ record_of b
  unfolding record_of
  same-record =
      let e = with-head in
      let w = within b in
      ap (λ (k : ℕ). take k (drop 2 x)) (sym same_head)
      ∙ bytes_of x (omega arith)
      ∙ ap (drop 2) same-front
      ∙ sym (bytes_of b (omega arith))

  pub same_next : next_of x ≡ next_of b
  unfolding next_of
  same_next =
      let e = with-head in
      let w = within b in
      let s = same-standing in
      rw (ne_eqb (length x) 0 (λ z. omega arith), ne_eqb (standing x) 0 (λ z. whole (sym s ∙ z)), ne_eqb (length b) 0 (λ z. omega arith), ne_eqb (standing b) 0 whole, same-record)

-- behind the record at the front of a window
module _ (w : Window) (buffer : List ℕ) (ordered : w.from ≤ w.to) (inside : w.to ≤ length buffer) where
  tail : List ℕ
  tail = drop w.from buffer

  long : length tail ≡ length buffer - w.from
  unfolding tail
  long = length-drop w.from buffer

  holds : (k : ℕ) → k ≤ length (take (w.to - w.from) tail) → k ≤ w.to - w.from
  holds k h = let l = long in let e : length (take (w.to - w.from) tail) ≡ w.to - w.from = length-take-le (w.to - w.from) tail (omega arith) in omega arith

  shorter-by : (k : ℕ) → k ≤ w.to - w.from → take (w.to - (w.from + k)) (drop (w.from + k) buffer) ≡ drop k (take (w.to - w.from) tail)
  unfolding tail
  shorter-by k h =
      let l = long in
      let e : k + (w.to - (w.from + k)) ≡ w.to - w.from = omega arith in
      ap (take (w.to - (w.from + k))) (sym (drop-drop k w.from buffer))
      ∙ sym (drop_at (take k (drop w.from buffer)) (take (w.to - (w.from + k)) (drop k (drop w.from buffer))) k (length-take-le k (drop w.from buffer) (omega arith)))
      ∙ ap (drop k) (sym (take-add k (w.to - (w.from + k)) (drop w.from buffer)))
      ∙ ap (λ (n : ℕ). drop k (take n (drop w.from buffer))) e

  pub waits-within : standing (waiting w buffer) ≤ w.to - w.from
  unfolding waiting tail
  waits-within = holds _ (within (take (w.to - w.from) (drop w.from buffer)))

  pub waits-behind : waiting (behind w buffer) buffer ≡ drop (standing (waiting w buffer)) (waiting w buffer)
  unfolding waiting behind tail
  waits-behind = shorter-by (standing (take (w.to - w.from) (drop w.from buffer))) (holds _ (within (take (w.to - w.from) (drop w.from buffer))))
