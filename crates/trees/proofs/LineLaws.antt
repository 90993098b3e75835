-- Rows read into a line, as the code of a removal does it.
use mathlib.Core.Path.{◌≡◌, ap, ◌∙◌}
use mathlib.Core.Bool.{Bool, true, false, ◌||◌}
use mathlib.Core.List.{List}
use Prim.Native.Nat.{ℕ, ◌+◌, ◌-◌, ◌*◌, ◌≤◌, ◌<◌}
use native.Mathlib.Omega.{arith}
use lib.Dec.{ltb, eqb}
use lib.ListN.{get_or}
use borrow.Author.Tests.{ltb-true, ltb-false, eq-eqb}
use Rattle.words.proofs.Cases.{by-test, or-false}
use Rattle.trees.specs.declared.Range.{Range}
use Rattle.trees.specs.Nodes.{count_in, range_in, child_in, no_range}
use Rattle.trees.specs.Inner.Walk.{zeros_in}
use Rattle.trees.specs.Inner.Places.{placed, closed, row_word}
use Rattle.trees.specs.Inner.Standing.{Put, NodeIs}
use Rattle.trees.specs.Inner.Shrinking.{JoinedRanges, JoinedChildren, JoinedLine, ClosedLine, PlacedLine, Trimmed, Ranged, Merged, Shared}
use Rattle.words.specs.Inner.{same_in}
use Rattle.words.proofs.SearchLaws.{at-all_from}
use Rattle.trees.proofs.StandingLaws.{put_is, put_other, zeros-same}
use Rattle.trees.proofs.WidenLaws.{node-is-ext, node-is-same, same-trans}

-- whether one of two nodes is thin
module _ (a c : ℕ) where
  pub thin-yes : a ≤ 4 → c ≤ 4 → (ltb a 2 || ltb c 2) ≡ true → a + c ≤ 5
  thin-yes l u t = by-test (ltb a 2) (λ e. let k : a < 2 = ltb-true _ _ e in omega arith) (λ e. let k : c < 2 = ltb-true _ _ (rw e at t) in omega arith)

  pub thin-no : (ltb a 2 || ltb c 2) ≡ false → (2 ≤ a) × (2 ≤ c)
  thin-no t = let p = or-false (ltb a 2) (ltb c 2) t in (ltb-false _ _ p.0, ltb-false _ _ p.1)

-- Nodes written from a line

pub placed-is : {A : Type 0} (T : ℕ → A) (s : ℕ) (a : A) (j : ℕ) → j ≡ s → a ≡ placed T s a j
unfolding placed
placed-is T s a j e = rw (eq-eqb j s e)

pub placed-ext : {A : Type 0} (T U : ℕ → A) (s : ℕ) (a : A) (j : ℕ) → T j ≡ U j → placed T s a j ≡ placed U s a j
unfolding placed
placed-ext T U s a j e = by-test (eqb j s) (λ t. rw t) (λ t. rw t e)

line-is : (b₀ b' : List ℕ) (leaf : Bool) (m from k : ℕ) (ranges : List Range) (below : List ℕ) (r : ℕ → Range) (c : ℕ → ℕ) → k ≤ 4 → ((j : ℕ) → j < k → get_or ranges (from + j) no_range ≡ r j) → ((j : ℕ) → j ≤ k → get_or below (from + j) 0 ≡ c j)
    → Put b₀ m (row_word leaf k (λ i. get_or ranges (from + i) no_range) (λ i. get_or below (from + i) 0)) b' → NodeIs b' leaf m k r c
line-is b₀ b' leaf m from k ranges below r c few e d put =
    node-is-ext b' leaf m k (λ i. get_or ranges (from + i) no_range) r (λ i. get_or below (from + i) 0) c e d (put_is leaf k (λ i. get_or ranges (from + i) no_range) (λ i. get_or below (from + i) 0) b₀ m b' few put)

at0 : {A : Type 0} (f : ℕ → A) (j : ℕ) → f (0 + j) ≡ f j
at0 f j = let z : 0 + j ≡ j = omega arith in ap f z

pub trimmed : (b b' : List ℕ) (leaf : Bool) (n i c : ℕ) (ranges : List Range) (below : List ℕ) → c ≡ count_in b n → 1 ≤ c → c ≤ 4 → ClosedLine b n i ranges below → Put b n (row_word leaf (c - 1) (λ x. get_or ranges (0 + x) no_range) (λ x. get_or below (0 + x) 0)) b' → Trimmed b leaf n i b'
trimmed b b' leaf n i c ranges below e lo hi line put = record {
  node = rw (← e) (line-is b b' leaf n 0 (c - 1) ranges below (closed (range_in b n) i) (closed (child_in b n) (i + 1)) (omega arith) (λ j l. at0 (λ x. get_or ranges x no_range) j ∙ line.range j (omega arith)) (λ j l. at0 (λ x. get_or below x 0) j ∙ line.child j (omega arith)) put);
  others = λ m d. put_other b n (row_word leaf (c - 1) (λ x. get_or ranges (0 + x) no_range) (λ x. get_or below (0 + x) 0)) b' put m d;
  root = put.below 0 (omega arith);
}

pub ranged : (b b' : List ℕ) (leaf : Bool) (n i c : ℕ) (s : Range) (ranges : List Range) (below : List ℕ) → c ≡ count_in b n → c ≤ 4 → PlacedLine b n i s ranges below → Put b n (row_word leaf c (λ x. get_or ranges (0 + x) no_range) (λ x. get_or below (0 + x) 0)) b' → Ranged b leaf n i s b'
ranged b b' leaf n i c s ranges below e hi line put = record {
  node = rw (← e) (line-is b b' leaf n 0 c ranges below (placed (range_in b n) i s) (child_in b n) hi (λ j l. at0 (λ x. get_or ranges x no_range) j ∙ line.range j (omega arith)) (λ j l. at0 (λ x. get_or below x 0) j ∙ line.child j (omega arith)) put);
  others = λ m d. put_other b n (row_word leaf c (λ x. get_or ranges (0 + x) no_range) (λ x. get_or below (0 + x) 0)) b' put m d;
  root = put.below 0 (omega arith);
}

pub cleared : (b b' : List ℕ) (n : ℕ) → Put b n (λ j. 0) b' → zeros_in b' n 0 24 ≡ true
unfolding zeros_in same_in
cleared b b' n put = at-all_from 24 (1 + n * 24 + 0) (λ g. eqb (get_or b' g 0) 0) (λ g lo hi. let x : g ≡ 1 + n * 24 + (g - (1 + n * 24)) = omega arith in eq-eqb _ _ (ap (λ (z : ℕ). get_or b' z 0) x ∙ put.inside (g - (1 + n * 24)) (omega arith)))

module _ (b : List ℕ) (leaf : Bool) (n j x y : ℕ) (xn : x ≡ n → ⊥) (yn : y ≡ n → ⊥) (xy : x ≡ y → ⊥) (ranges : List Range) (below : List ℕ) (line : JoinedLine b x (range_in b n j) y ranges below) where
  pub merged : (b₁ b₂ b₃ : List ℕ) (k c : ℕ) (rest : List Range) (kids : List ℕ) → k ≡ count_in b x + 1 + count_in b y → k ≤ 4 → c ≡ count_in b n → 1 ≤ c → c ≤ 4 → ClosedLine b n j rest kids
      → Put b x (row_word leaf k (λ i. get_or ranges (0 + i) no_range) (λ i. get_or below (0 + i) 0)) b₁ → Put b₁ y (λ i. 0) b₂ → Put b₂ n (row_word false (c - 1) (λ i. get_or rest (0 + i) no_range) (λ i. get_or kids (0 + i) 0)) b₃ → Merged b leaf n j x y b₃
  merged b₁ b₂ b₃ k c rest kids e few f lo hi cl p q r =
      let qs = put_other b₁ y (λ i. 0) b₂ q in
      let rs = put_other b₂ n (row_word false (c - 1) (λ i. get_or rest (0 + i) no_range) (λ i. get_or kids (0 + i) 0)) b₃ r in
      let ps = put_other b x (row_word leaf k (λ i. get_or ranges (0 + i) no_range) (λ i. get_or below (0 + i) 0)) b₁ p in
      record {
        left = rw (← e) (node-is-same b₁ b₃ leaf x k (JoinedRanges b x (range_in b n j) y) (JoinedChildren b x y) few (same-trans (qs x xy) (rs x xn))
            (line-is b b₁ leaf x 0 k ranges below (JoinedRanges b x (range_in b n j) y) (JoinedChildren b x y) few (λ i l. at0 (λ z. get_or ranges z no_range) i ∙ line.range i (omega arith)) (λ i l. at0 (λ z. get_or below z 0) i ∙ line.child i (omega arith)) p));
        gone = zeros-same b₂ b₃ y (rs y yn) 0 24 (omega arith) (cleared b₁ b₂ y q);
        node = rw (← f) (line-is b₂ b₃ false n 0 (c - 1) rest kids (closed (range_in b n) j) (closed (child_in b n) (j + 1)) (omega arith) (λ i l. at0 (λ z. get_or rest z no_range) i ∙ cl.range i (omega arith)) (λ i l. at0 (λ z. get_or kids z 0) i ∙ cl.child i (omega arith)) r);
        others = λ m a d g. same-trans (same-trans (ps m d) (qs m g)) (rs m a);
        root = r.below 0 (omega arith) ∙ q.below 0 (omega arith) ∙ p.below 0 (omega arith);
      }

  pub shared : (b₁ b₂ b₃ : List ℕ) (k c : ℕ) (rest : List Range) (kids : List ℕ) → k ≡ count_in b x + count_in b y - 2 → 2 ≤ k → k ≤ 3 → c ≡ count_in b n → c ≤ 4 → PlacedLine b n j (get_or ranges 2 no_range) rest kids
      → Put b x (row_word leaf 2 (λ i. get_or ranges (0 + i) no_range) (λ i. get_or below (0 + i) 0)) b₁ → Put b₁ y (row_word leaf k (λ i. get_or ranges (3 + i) no_range) (λ i. get_or below (3 + i) 0)) b₂ → Put b₂ n (row_word false c (λ i. get_or rest (0 + i) no_range) (λ i. get_or kids (0 + i) 0)) b₃ → Shared b leaf n j x y b₃
  shared b₁ b₂ b₃ k c rest kids e two three f hi pl p q r =
      let qs = put_other b₁ y (row_word leaf k (λ i. get_or ranges (3 + i) no_range) (λ i. get_or below (3 + i) 0)) b₂ q in
      let rs = put_other b₂ n (row_word false c (λ i. get_or rest (0 + i) no_range) (λ i. get_or kids (0 + i) 0)) b₃ r in
      let ps = put_other b x (row_word leaf 2 (λ i. get_or ranges (0 + i) no_range) (λ i. get_or below (0 + i) 0)) b₁ p in
      let mid : get_or ranges 2 no_range ≡ JoinedRanges b x (range_in b n j) y 2 = line.range 2 (omega arith) in
      record {
        left = node-is-same b₁ b₃ leaf x 2 (JoinedRanges b x (range_in b n j) y) (JoinedChildren b x y) (omega arith) (same-trans (qs x xy) (rs x xn))
            (line-is b b₁ leaf x 0 2 ranges below (JoinedRanges b x (range_in b n j) y) (JoinedChildren b x y) (omega arith) (λ i l. at0 (λ z. get_or ranges z no_range) i ∙ line.range i (omega arith)) (λ i l. at0 (λ z. get_or below z 0) i ∙ line.child i (omega arith)) p);
        right = rw (← e) (node-is-same b₂ b₃ leaf y k (λ i. JoinedRanges b x (range_in b n j) y (3 + i)) (λ i. JoinedChildren b x y (3 + i)) (omega arith) (rs y yn)
            (line-is b₁ b₂ leaf y 3 k ranges below (λ i. JoinedRanges b x (range_in b n j) y (3 + i)) (λ i. JoinedChildren b x y (3 + i)) (omega arith) (λ i l. line.range (3 + i) (omega arith)) (λ i l. line.child (3 + i) (omega arith)) q));
        node = rw (← f, ← mid) (line-is b₂ b₃ false n 0 c rest kids (placed (range_in b n) j (get_or ranges 2 no_range)) (child_in b n) hi (λ i l. at0 (λ z. get_or rest z no_range) i ∙ pl.range i (omega arith)) (λ i l. at0 (λ z. get_or kids z 0) i ∙ pl.child i (omega arith)) r);
        others = λ m a d g. same-trans (same-trans (ps m d) (qs m g)) (rs m a);
        root = r.below 0 (omega arith) ∙ q.below 0 (omega arith) ∙ p.below 0 (omega arith);
      }
