-- The free blocks of Blocks are the maximal wholly free blocks around their frames.
use mathlib.Core.Path.{◌≡◌, refl, ap, ◌∙◌, sym}
use mathlib.Core.Bool.{Bool, true, not}
use Prim.Native.Nat.{ℕ, suc, ◌+◌, ◌/◌, ◌%◌, ◌^◌, ◌-◌, ◌<◌, ◌≤◌, zero-le}
use native.Mathlib.Decide.{dec_le}
use native.Mathlib.Omega.{arith}
use lib.Pow.{pow_pos}
use borrow.Author.Tests.{leb-true, le-leb, eqb-true, eq-eqb, not-true}
use Rattle.words.proofs.Cases.{by-test, by-dec, true-false, and-true, true-and, both_ways}
use Rattle.words.proofs.SearchLaws.{all_from_at, at-all_from, any_at, at-any}
use Rattle.blocks.specs.Blocks.{past_multiple, is_block, lies_in, size_for, wholly_free, in_larger, free_block}
use Rattle.blocks.specs.Inner.Around.{start_of, around}
use Rattle.blocks.proofs.AroundLaws.{mod-start, start-mod, start-start, start-in, coarser, in-block, block_in, around-at, at-around, around-same, around-ext, Maximal, order-here, maximal-same}

multiple : (k s : ℕ) → past_multiple k s ≡ 0 → s % 2 ^ k ≡ 0
multiple k s e = omega arith

module _ (F : ℕ) (free : ℕ → Bool) where
  -- s is the first frame of a free block of order k
  pub record BlockAt (k s : ℕ) : Type 0 where
    pub inside : s < F
    pub maximal : Maximal F free k s
    pub aligned : start_of k s ≡ s

  pub whole-at : (k s : ℕ) → wholly_free F free k s ≡ true → (k ≤ 10) × (start_of k s ≡ s) × (around F free s k ≡ true)
  unfolding wholly_free is_block
  whole-at k s t =
      let p = and-true _ _ t in
      let b = and-true _ _ p.0 in
      let q = and-true _ _ p.1 in
      let st : start_of k s ≡ s = mod-start k s (multiple k s (eqb-true _ _ b.1)) in
      let room : size_for k s ≤ F = leb-true _ _ q.0 in (
        leb-true _ _ b.0,
        st,
        at-around F free k s (λ g e.
            let r = in-block k s g e in
            let lo = r.0 in
            let hi = r.1 in
            (omega arith, all_from_at (2 ^ k) s free q.1 g (omega arith) (omega arith))),
      )

  pub at-whole : (k s : ℕ) → k ≤ 10 → start_of k s ≡ s → around F free s k ≡ true → wholly_free F free k s ≡ true
  unfolding wholly_free is_block
  at-whole k s h st t =
      let pos : 0 < 2 ^ k = pow_pos k in
      let mine : (g : ℕ) → s ≤ g → g < s + 2 ^ k → (g < F) × (free g ≡ true) = λ g lo hi. around-at F free k s t g (block_in k s g (omega arith) (omega arith)) in
      let last : s + (2 ^ k - 1) < F = (mine (s + (2 ^ k - 1)) (omega arith) (omega arith)).0 in
      true-and _ _ (true-and _ _ (le-leb k 10 h) (eq-eqb _ _ (start-mod k s st)))
      (true-and _ _ (le-leb (s + 2 ^ k) F (omega arith)) (at-all_from (2 ^ k) s free (λ g lo hi. (mine g lo hi).1)))

  -- the larger blocks that hold it are those around it
  larger-at : (k s : ℕ) → start_of k s ≡ s → in_larger F free k s ≡ true → (m : ℕ) × (k < m) × (m ≤ 10) × (around F free s m ≡ true)
  unfolding in_larger lies_in
  larger-at k s st t =
      let r = any_at (10 - k) (suc k) _ t in
      let m : ℕ = r.0 in
      let lo = r.1 in
      let hi = r.2 in
      let q = any_at F 0 _ r.3 in
      let u : ℕ = q.0 in
      let p = and-true _ _ q.3 in
      let l = and-true _ _ p.0 in
      let us : u ≤ s = leb-true _ _ l.0 in
      let se : s + 2 ^ k ≤ u + 2 ^ m = leb-true _ _ l.1 in
      let w = whole-at m u p.1 in
      let ust = w.1 in
      let pos : 0 < 2 ^ k = pow_pos k in
      (m, omega arith, omega arith, around-same F free m u s (block_in m u s (omega arith) (omega arith)) w.2)

  at-larger : (k m s : ℕ) → start_of k s ≡ s → k < m → m ≤ 10 → around F free s m ≡ true → in_larger F free k s ≡ true
  unfolding in_larger lies_in
  at-larger k m s st km hm t =
      let u : ℕ = start_of m s in
      let pos : 0 < 2 ^ k = pow_pos k in
      let mine : (s + (2 ^ k - 1)) / 2 ^ k ≡ s / 2 ^ k = block_in k s (s + (2 ^ k - 1)) (omega arith) (omega arith) in
      let last = in-block m s (s + (2 ^ k - 1)) (coarser (s + (2 ^ k - 1)) s k m (omega arith) mine) in
      let here = in-block m s s refl in
      let lo = here.0 in
      let hi = last.1 in
      let inside = (around-at F free m s t u (start-in m s)).0 in
      let w : wholly_free F free m u ≡ true = at-whole m u hm (start-start m s) (around-same F free m s u (start-in m s) t) in
      at-any (10 - k) (suc k) _ m (omega arith) (omega arith)
      (at-any F 0 _ u zero-le (omega arith)
      (true-and _ _ (true-and _ _ (le-leb u s lo) (le-leb (s + 2 ^ k) (u + 2 ^ m) (omega arith))) w))

  pub free-block-at : (k s : ℕ) → free_block F free k s ≡ true → BlockAt k s
  unfolding free_block
  free-block-at k s t =
      let p = and-true _ _ t in
      let w = whole-at k s p.0 in
      record {
        inside = (around-at F free k s w.2 s refl).0;
        maximal = record {
          small = w.0;
          whole = w.2;
          alone = λ m km hm. by-test (around F free s m)
              (λ y. true-false (in_larger F free k s) (at-larger k m s w.1 km hm y) (not-true _ p.1))
              (λ y. y);
        };
        aligned = w.1;
      }

  pub at-free-block : (k s : ℕ) → BlockAt k s → free_block F free k s ≡ true
  unfolding free_block
  at-free-block k s b =
      let m = b.maximal in
      true-and _ _ (at-whole k s m.small b.aligned m.whole)
      (ap not (by-test (in_larger F free k s)
      (λ t. let r = larger-at k s b.aligned t in true-false (around F free s r.0) r.3 (m.alone r.0 r.1 r.2))
      (λ t. t)))

  -- a wholly free block lies in a free block
  pub in-block-at : (k f : ℕ) → k ≤ 10 → around F free f k ≡ true → (j : ℕ) × (k ≤ j) × (j ≤ 10) × BlockAt j (start_of j f)
  in-block-at k f hk t =
      let p = around-at F free k f t f refl in
      let q = order-here F free f p.0 p.1 in
      let j : ℕ = q.0 in
      let m : Maximal F free j f = q.2 in
      let s = around-at F free j f m.whole (start_of j f) (start-in j f) in
      let kj : k ≤ j = by-dec (dec_le k j) (λ le. le) (λ gt. true-false (around F free f k) t (m.alone k (omega arith) hk)) in
      (j, kj, m.small, record { inside = s.0; maximal = maximal-same F free j f (start_of j f) (start-in j f) m; aligned = start-start j f })

-- which blocks are wholly free, and which are free, depends only on which frames below F are free

whole-half : (F : ℕ) (p q : ℕ → Bool) → ((g : ℕ) → g < F → p g ≡ q g) → (k s : ℕ) → wholly_free F p k s ≡ true → wholly_free F q k s ≡ true
whole-half F p q same k s t = let w = whole-at F p k s t in at-whole F q k s w.0 w.1 (sym (around-ext F p q same s k) ∙ w.2)

free-block-half : (F : ℕ) (p q : ℕ → Bool) → ((g : ℕ) → g < F → p g ≡ q g) → (k s : ℕ) → free_block F p k s ≡ true → free_block F q k s ≡ true
free-block-half F p q same k s t =
    let b = free-block-at F p k s t in
    let m = b.maximal in
    at-free-block F q k s (record {
      inside = b.inside;
      maximal = record {
        small = m.small;
        whole = sym (around-ext F p q same s k) ∙ m.whole;
        alone = λ j lt hi. sym (around-ext F p q same s j) ∙ m.alone j lt hi;
      };
      aligned = b.aligned;
    })

pub whole-ext : (F : ℕ) (p q : ℕ → Bool) → ((g : ℕ) → g < F → p g ≡ q g) → (k s : ℕ) → wholly_free F p k s ≡ wholly_free F q k s
whole-ext F p q same k s = both_ways _ _ (whole-half F p q same k s) (whole-half F q p (λ g h. sym (same g h)) k s)

pub free-block-ext : (F : ℕ) (p q : ℕ → Bool) → ((g : ℕ) → g < F → p g ≡ q g) → (k s : ℕ) → free_block F p k s ≡ free_block F q k s
free-block-ext F p q same k s = both_ways _ _ (free-block-half F p q same k s) (free-block-half F q p (λ g h. sym (same g h)) k s)
