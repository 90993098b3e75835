-- Writing a node, as the code does it word by word.
use mathlib.Core.Path.{◌≡◌, refl, sym, ap, ◌∙◌}
use mathlib.Core.Bool.{Bool, true, false}
use mir.Val.{bool_byte}
use mathlib.Core.List.{List}
use Prim.Native.Nat.{ℕ, ◌+◌, ◌-◌, ◌*◌, ◌/◌, ◌%◌, ◌≤◌, ◌<◌}
use native.Mathlib.Omega.{arith}
use native.Mathlib.Decide.{ℕ_discrete}
use lib.Dec.{eqb}
use lib.ListN.{length, get_or, set}
use lib.Seq.{get_or-set_same, get_or-set_other}
use borrow.Author.Tests.{lt-ltb, le-ltb, eq-eqb, ne_eqb}
use Rattle.words.specs.Inner.{Filled}
use Rattle.words.proofs.Cases.{by-dec}
use Rattle.trees.specs.declared.Range.{Range}
use Rattle.trees.specs.Nodes.{count_in, leaf_word, field_of}
use Rattle.trees.specs.Inner.Walk.{kids}
use Rattle.trees.specs.Inner.Places.{row_word, opened}
use Rattle.trees.specs.Inner.Standing.{Put, free_list, free_number, free_count}
use Rattle.trees.proofs.PassingLaws.{passing-first, passing-none}

module _ (r : Range) (q : ℕ) where
  pub field-0 : q ≡ 0 → r.base ≡ field_of r q
  unfolding field_of
  field-0 e = rw (eq-eqb q 0 e)

  pub field-1 : q ≡ 1 → r.limit ≡ field_of r q
  unfolding field_of
  field-1 e = rw (ne_eqb q 0 (λ d. omega arith), eq-eqb q 1 e)

  pub field-2 : q ≡ 2 → r.offset ≡ field_of r q
  unfolding field_of
  field-2 e = rw (ne_eqb q 0 (λ d. omega arith), ne_eqb q 1 (λ d. omega arith), eq-eqb q 2 e)

  pub field-3 : (q ≡ 0 → ⊥) → (q ≡ 1 → ⊥) → (q ≡ 2 → ⊥) → r.rights ≡ field_of r q
  unfolding field_of
  field-3 a b c = rw (ne_eqb q 0 a, ne_eqb q 1 b, ne_eqb q 2 c)

-- a flag as a number
pub byte-leaf : (leaf : Bool) → bool_byte leaf ≡ leaf_word leaf
unfolding leaf_word
byte-leaf true = refl
byte-leaf false = refl

module _ (leaf : Bool) (k : ℕ) (r : ℕ → Range) (c : ℕ → ℕ) (j : ℕ) where
  pub row_count : j ≡ 0 → k ≡ row_word leaf k r c j
  unfolding row_word
  row_count e = rw (eq-eqb j 0 e)

  pub row-flag : j ≡ 1 → leaf_word leaf ≡ row_word leaf k r c j
  unfolding row_word
  row-flag e = rw (ne_eqb j 0 (λ d. omega arith), eq-eqb j 1 e)

  module _ (two : 2 ≤ j) where
    pub row-no-range : j < 18 → k ≤ (j - 2) / 4 → 0 ≡ row_word leaf k r c j
    unfolding row_word
    row-no-range h l = rw (ne_eqb j 0 (λ d. omega arith), ne_eqb j 1 (λ d. omega arith), lt-ltb j 18 h, le-ltb ((j - 2) / 4) k l)

    pub row-range : j < 18 → (j - 2) / 4 < k → field_of (r ((j - 2) / 4)) ((j - 2) % 4) ≡ row_word leaf k r c j
    unfolding row_word
    row-range h l = rw (ne_eqb j 0 (λ d. omega arith), ne_eqb j 1 (λ d. omega arith), lt-ltb j 18 h, lt-ltb ((j - 2) / 4) k l)

    pub row-no-child : 18 ≤ j → kids leaf k ≤ j - 18 → 0 ≡ row_word leaf k r c j
    unfolding row_word
    row-no-child h l = rw (ne_eqb j 0 (λ d. omega arith), ne_eqb j 1 (λ d. omega arith), le-ltb j 18 h, le-ltb (j - 18) (kids leaf k) l)

    pub row-child : 18 ≤ j → j - 18 < kids leaf k → c (j - 18) ≡ row_word leaf k r c j
    unfolding row_word
    row-child h l = rw (ne_eqb j 0 (λ d. omega arith), ne_eqb j 1 (λ d. omega arith), le-ltb j 18 h, lt-ltb (j - 18) (kids leaf k) l)

-- the first j words are written
pub record PutTo (b : List ℕ) (n : ℕ) (f : ℕ → ℕ) (j : ℕ) (b' : List ℕ) : Type 0 where
  pub inside : (i : ℕ) → i < j → get_or b' (1 + n * 24 + i) 0 ≡ f i
  pub below : (g : ℕ) → g < 1 + n * 24 → get_or b' g 0 ≡ get_or b g 0
  pub above : (g : ℕ) → 1 + n * 24 + j ≤ g → get_or b' g 0 ≡ get_or b g 0

module _ (b : List ℕ) (n : ℕ) (f : ℕ → ℕ) where
  pub put-none : PutTo b n f 0 b
  put-none = record { inside = λ i h. absurd (omega arith); below = λ g h. refl; above = λ g h. refl }

  pub put-more : (j w : ℕ) (b' : List ℕ) → PutTo b n f j b' → 1 + n * 24 + j < length b' → w ≡ f j → PutTo b n f (j + 1) (set b' (1 + n * 24 + j) w)
  put-more j w b' q h e = record {
    inside = λ i l. by-dec (ℕ_discrete i j)
        (λ d. rw d (get_or-set_same b' (1 + n * 24 + j) w 0 h ∙ e))
        (λ d. get_or-set_other b' (1 + n * 24 + j) (1 + n * 24 + i) w 0 (λ x. d (omega arith)) ∙ q.inside i (omega arith));
    below = λ g l. get_or-set_other b' (1 + n * 24 + j) g w 0 (λ x. omega arith) ∙ q.below g l;
    above = λ g l. get_or-set_other b' (1 + n * 24 + j) g w 0 (λ x. omega arith) ∙ q.above g (omega arith);
  }

  pub put_all : (j : ℕ) (b' : List ℕ) → j ≡ 24 → PutTo b n f j b' → Put b n f b'
  put_all j b' e q = record { inside = λ i l. q.inside i (omega arith); below = q.below; above = λ g l. q.above g (omega arith) }

-- a stretch of zeros over a node
pub put-zeros : (b : List ℕ) (n : ℕ) (b' : List ℕ) → Filled b (1 + n * 24) (1 + n * 24 + 24) 0 b' → Put b n (λ j. 0) b'
put-zeros b n b' q = record { inside = λ j l. q.inside (1 + n * 24 + j) (omega arith) (omega arith); below = q.below; above = q.above }

pub none_free : (b : List ℕ) → ((m : ℕ) → m < 64 → count_in b m ≡ 0 → ⊥) → free_count b ≡ 0
unfolding free_list
none_free b h = ap length (passing-none 64 0 (λ m. eqb (count_in b m) 0) (λ m lo hi. ne_eqb (count_in b m) 0 (h m (omega arith))))

pub first-free : (b : List ℕ) (x : ℕ) → x ≤ 63 → count_in b x ≡ 0 → ((m : ℕ) → m < x → count_in b m ≡ 0 → ⊥) → x ≡ free_number b 0
unfolding free_number free_list
first-free b x l z low = sym (passing-first 64 0 x (λ m. eqb (count_in b m) 0) 64 (omega arith) (omega arith) (eq-eqb (count_in b x) 0 z) (λ m lo hi. ne_eqb (count_in b m) 0 (low m hi)))

module _ {A : Type 0} (T : ℕ → A) (s : ℕ) (a : A) (j : ℕ) where
  pub opened-is : j ≡ s → a ≡ opened T s a j
  unfolding opened
  opened-is e = rw (le-ltb j s (omega arith), eq-eqb j s e)

  pub opened-is-high : s ≤ j → (j ≡ s → ⊥) → T (j - 1) ≡ opened T s a j
  unfolding opened
  opened-is-high h n = rw (le-ltb j s h, ne_eqb j s n)
