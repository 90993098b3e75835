-- From the words that are written to what Widened and NewRoot say.
use mathlib.Core.Path.{◌≡◌, sym, ap, ◌∙◌}
use mathlib.Core.Bool.{Bool, cond}
use mathlib.Core.List.{List}
use Prim.Native.Nat.{ℕ, zero, suc, ◌+◌, ◌*◌, ◌≤◌, ◌<◌}
use native.Mathlib.Omega.{arith}
use lib.Dec.{eqb}
use lib.ListN.{length, get_or, set}
use lib.Seq.{get_or-set_same, get_or-set_other}
use Rattle.std.specs.Prelude.{Option, Some, None}
use Rattle.trees.specs.declared.Range.{Range}
use Rattle.trees.specs.declared.Up.{Up}
use Rattle.trees.specs.Nodes.{count_in, range_in, child_in, no_range, SameNode}
use Rattle.trees.specs.Inner.Walk.{kids}
use Rattle.trees.specs.Inner.Places.{row_word, opened}
use Rattle.trees.specs.Inner.Standing.{Put, NodeIs, OpenedLine, Widened, NewRoot, free_number}
use Rattle.trees.proofs.CheckLaws.{kids-le}
use Rattle.trees.proofs.StandingLaws.{put_other, put_is, count_same, leaf-same, range_same, child-same, zeros-same}

pub node-is-ext : (b : List ℕ) (leaf : Bool) (n k : ℕ) (r q : ℕ → Range) (c d : ℕ → ℕ) → ((i : ℕ) → i < k → r i ≡ q i) → ((i : ℕ) → i ≤ k → c i ≡ d i) → NodeIs b leaf n k r c → NodeIs b leaf n k q d
node-is-ext b leaf n k r q c d e f s = record {
  amount = s.amount;
  flag = s.flag;
  ranges = λ i h. s.ranges i h ∙ e i h;
  children = λ i h. let l = kids-le leaf k in s.children i h ∙ f i (omega arith);
  no-ranges = s.no-ranges;
  no-children = s.no-children;
}

pub same-trans : {b c d : List ℕ} {m : ℕ} → SameNode b c m → SameNode c d m → SameNode b d m
same-trans p q = record { same = λ j h. q.same j h ∙ p.same j h }

pub node-is-same : (b b' : List ℕ) (leaf : Bool) (n k : ℕ) (r : ℕ → Range) (c : ℕ → ℕ) → k ≤ 4 → SameNode b b' n → NodeIs b leaf n k r c → NodeIs b' leaf n k r c
node-is-same b b' leaf n k r c few s q =
    let l = kids-le leaf k in
    record {
      amount = count_same b b' n s ∙ q.amount;
      flag = leaf-same b b' n s ∙ q.flag;
      ranges = λ i h. range_same b b' n s i (omega arith) ∙ q.ranges i h;
      children = λ i h. child-same b b' n s i (omega arith) ∙ q.children i h;
      no-ranges = zeros-same b b' n s (2 + k * 4) 18 (omega arith) q.no-ranges;
      no-children = zeros-same b b' n s (18 + kids leaf k) 24 (omega arith) q.no-children;
    }

module _ (b : List ℕ) (leaf : Bool) (n i : ℕ) (s : Range) (x : ℕ) (ranges : List Range) (below : List ℕ) (line : OpenedLine b n i s x ranges below) where
  abbrev R : ℕ → ℕ → Range
  R from j = get_or ranges (from + j) no_range

  abbrev K : ℕ → ℕ → ℕ
  K from j = get_or below (from + j) 0

  part-is : (b₀ b' : List ℕ) (m from k : ℕ) → k ≤ 4 → from + k ≤ 5 → Put b₀ m (row_word leaf k (R from) (K from)) b' → NodeIs b' leaf m k (λ j. opened (range_in b n) i s (from + j)) (λ j. opened (child_in b n) (i + 1) x (from + j))
  part-is b₀ b' m from k few fits put =
      node-is-ext b' leaf m k (R from) (λ j. opened (range_in b n) i s (from + j)) (K from) (λ j. opened (child_in b n) (i + 1) x (from + j)) (λ j h. line.range (from + j) (omega arith)) (λ j h. line.child (from + j) (omega arith))
      (put_is leaf k (R from) (K from) b₀ m b' few put)

  at_zero : (b' : List ℕ) (m k : ℕ) → NodeIs b' leaf m k (λ j. opened (range_in b n) i s (0 + j)) (λ j. opened (child_in b n) (i + 1) x (0 + j)) → NodeIs b' leaf m k (opened (range_in b n) i s) (opened (child_in b n) (i + 1) x)
  at_zero b' m k q =
      node-is-ext b' leaf m k (λ j. opened (range_in b n) i s (0 + j)) (opened (range_in b n) i s) (λ j. opened (child_in b n) (i + 1) x (0 + j)) (opened (child_in b n) (i + 1) x)
      (λ j h. let z : 0 + j ≡ j = omega arith in ap (opened (range_in b n) i s) z) (λ j h. let z : 0 + j ≡ j = omega arith in ap (opened (child_in b n) (i + 1) x) z) q

  pub widened-fits : (o : Option Up) (b' : List ℕ) (k : ℕ) → k ≡ count_in b n → k < 4 → o ≡ None → Put b n (row_word leaf (k + 1) (R 0) (K 0)) b' → Widened b leaf n i s x o b'
  widened-fits o b' k e few none put = record {
    fits = λ h. record {
      nothing = none;
      node = rw (← e) (at_zero b' n (k + 1) (part-is b b' n 0 (k + 1) (omega arith) (omega arith) put));
      others = λ m d. put_other b n (row_word leaf (k + 1) (R 0) (K 0)) b' put m d;
      root = put.below 0 (omega arith);
    };
    over = λ h. absurd (omega arith);
  }

  pub widened-over : (u : Up) (b₁ b' : List ℕ) (m : ℕ) → 4 ≤ count_in b n → u.node ≡ m → u.range ≡ get_or ranges 2 no_range → m ≤ 63 → count_in b m ≡ 0 → m ≡ free_number b 0
      → Put b n (row_word leaf 2 (R 0) (K 0)) b₁ → Put b₁ m (row_word leaf 2 (R 3) (K 3)) b' → Widened b leaf n i s x (Some u) b'
  widened-over u b₁ b' m four is mid small free low put₁ put₂ = record {
    fits = λ h. absurd (omega arith);
    over = λ h.
        let ne : n ≡ m → ⊥ = λ d. let z = ap (count_in b) d in omega arith in
        record {
          range = mid ∙ line.range 2 (omega arith);
          number = omega arith;
          taken = rw is free;
          lowest = is ∙ low;
          left = node-is-same b₁ b' leaf n 2 (opened (range_in b n) i s) (opened (child_in b n) (i + 1) x) (omega arith) (put_other b₁ m (row_word leaf 2 (R 3) (K 3)) b' put₂ n ne) (at_zero b₁ n 2 (part-is b b₁ n 0 2 (omega arith) (omega arith) put₁));
          right = rw is (part-is b₁ b' m 3 2 (omega arith) (omega arith) put₂);
          others = λ j d f. same-trans (put_other b n (row_word leaf 2 (R 0) (K 0)) b₁ put₁ j d) (put_other b₁ m (row_word leaf 2 (R 3) (K 3)) b' put₂ j (λ z. f (z ∙ sym is)));
          root = put₂.below 0 (omega arith) ∙ put₁.below 0 (omega arith);
        };
  }

-- the root's number is no word of a node
pub root-set : (b : List ℕ) (v m : ℕ) → SameNode b (set b 0 v) m
root-set b v m = record { same = λ j l. get_or-set_other b 0 (1 + m * 24 + j) v 0 (λ e. omega arith) }

-- a node of one range and two children is written, and its number as the root's
pub root-made : (b b₁ : List ℕ) (leaf : Bool) (s : Range) (x y m : ℕ) (ranges : List Range) (below : List ℕ) → m ≤ 63 → count_in b m ≡ 0 → m ≡ free_number b 0 → length b₁ ≡ 1537 → get_or ranges 0 no_range ≡ s → get_or below 0 0 ≡ x → get_or below 1 0 ≡ y
    → Put b m (row_word leaf 1 (λ i. get_or ranges (0 + i) no_range) (λ i. get_or below (0 + i) 0)) b₁ → NewRoot b leaf s x y (set b₁ 0 m)
root-made b b₁ leaf s x y m ranges below num free low len er e0 e1 put = record {
  place = m;
  number = num;
  unused = free;
  lowest = low;
  node = node-is-same b₁ (set b₁ 0 m) leaf m 1 (λ j. s) (λ j. cond (eqb j 0) x y) (omega arith) (root-set b₁ m m)
      (node-is-ext b₁ leaf m 1 (λ i. get_or ranges (0 + i) no_range) (λ j. s) (λ i. get_or below (0 + i) 0) (λ j. cond (eqb j 0) x y) (λ i l. let z : i ≡ 0 = omega arith in rw z er)
      (λ i l. two i l) (put_is leaf 1 (λ i. get_or ranges (0 + i) no_range) (λ i. get_or below (0 + i) 0) b m b₁ (omega arith) put));
  others = λ k d. same-trans (put_other b m (row_word leaf 1 (λ i. get_or ranges (0 + i) no_range) (λ i. get_or below (0 + i) 0)) b₁ put k d) (root-set b₁ m k);
  root = get_or-set_same b₁ 0 m 0 (omega arith);
}
  where
    two : (i : ℕ) → i ≤ 1 → get_or below (0 + i) 0 ≡ cond (eqb i 0) x y
    two zero l = e0
    two (suc zero) l = e1
    two (suc (suc i)) l = absurd (omega arith)
