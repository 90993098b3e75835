-- The used entries of a lawful range table are as many as the longest runs of at least 8 pages, and have four words each.
use mathlib.Core.Path.{◌≡◌, refl, ap, ◌∙◌, sym}
use mathlib.Core.Bool.{Bool, true, false, not}
use mathlib.Core.List.{List, ◌∷◌, ◌++◌}
use Prim.Native.Nat.{ℕ, zero, suc, ◌+◌, ◌-◌, ◌*◌, ◌<◌, ◌≤◌}
use native.Mathlib.Omega.{arith}
use lib.Dec.{eqb}
use lib.ListN.{length, replicate, length-append}
use borrow.Author.Tests.{eq-eqb, ne_eqb, eqb-true}
use Rattle.words.specs.Counts.{count, one-if}
use Rattle.words.specs.Searches.{any_from}
use Rattle.words.proofs.Cases.{by-test, true-false}
use Rattle.words.proofs.CountLaws.{count-split, count-ext, count-add-one, none_pass}
use Rattle.words.proofs.SearchLaws.{at-any, any_none}
use Rattle.words.proofs.TableLaws.{all-default}
use Rattle.runs.specs.Walk.{entries, range_words}
use Rattle.runs.proofs.WalkLaws.{entries-few}
use Rattle.runs.proofs.RunsLaws.{table_is}
use Rattle.runs.specs.Runs.{Longest, Table, nothing, entry, Has, here, later, RangesSound, used_entry, range_count, RangeFrom, RangesCounted}

-- used entries

unused-zeros : (n k : ℕ) → used_entry (replicate n 0) k ≡ false
unfolding used_entry
unused-zeros n k = any_none 4 (4 * k) _ (λ i lo hi. ap (λ (w : ℕ). not (eqb w 0)) (all-default n i 0))

-- an entry whose LIMIT is not 0 is used
used-first : (x y o r : ℕ) (more : List ℕ) → 1 ≤ y → used_entry (x ∷ y ∷ o ∷ r ∷ more) 0 ≡ true
unfolding used_entry
used-first x y o r more h = at-any 4 (4 * 0) _ 1 (omega arith) (omega arith) (ap not (ne_eqb y 0 (λ e. omega arith)))

-- entries behind the first
used-later : (x y o r : ℕ) (more : List ℕ) (k j : ℕ) → j ≡ 1 + k → used_entry (x ∷ y ∷ o ∷ r ∷ more) j ≡ used_entry more k
unfolding used_entry any_from
used-later x y o r more k j next = let e : 4 * j ≡ suc (suc (suc (suc (4 * k)))) = omega arith in rw e

one-used : (x y o r : ℕ) (more : List ℕ) → 1 ≤ y → count 1 (used_entry (x ∷ y ∷ o ∷ r ∷ more)) ≡ 1
unfolding count one-if
one-used x y o r more h = rw (used-first x y o r more h)

count-later : (n x y o r : ℕ) (more : List ℕ) → 1 ≤ y → count (suc n) (used_entry (x ∷ y ∷ o ∷ r ∷ more)) ≡ suc (count n (used_entry more))
count-later n x y o r more h =
    let all = used_entry (x ∷ y ∷ o ∷ r ∷ more) in
    let e : 1 + n ≡ suc n = omega arith in
    let parts : count (suc n) all ≡ count 1 all + count n (λ k. all (1 + k)) = rw e at (count-split 1 n all) in
    omega (arith, one-used x y o r more h, count-ext n (λ k. all (1 + k)) (used_entry more) (λ k hk. used-later x y o r more k (1 + k) refl))

module _ (ws : List ℕ) where
  -- an entry of the table has BASE z
  unfoldable base_in : {a : ℕ} {l : List ℕ} → Table ws a l → ℕ → Bool
  base_in nothing z = false
  base_in (entry x y o r lo eight g w t) z = elim (eqb z x) [ true ↦ true | false ↦ base_in t z ]

  base-range : {a : ℕ} {l : List ℕ} (t : Table ws a l) (z : ℕ) → base_in t z ≡ true → RangeFrom ws z
  unfolding base_in
  base-range nothing z b = true-false false b refl
  base-range (entry x y o r lo eight g w t) z b =
      by-test (eqb z x)
      (λ e. rw (eqb-true z x e) (record { end = y; longest = g; eight = omega arith }))
      (λ e. base-range t z (rw (e, base_in) at b))

  has_base : {a : ℕ} {l : List ℕ} (t : Table ws a l) (z y : ℕ) → Has z y l → base_in t z ≡ true
  unfolding base_in
  has_base (nothing {a = a}) z e h = elim h [ ]
  has_base (entry x y o r lo eight g w t) z e here = rw (eq-eqb z z refl, base_in)
  has_base (entry x y o r lo eight g w t) z e (later h) =
      by-test (eqb z x)
      (λ s. rw (s, base_in))
      (λ s. rw (s, base_in) (has_base t z e h))

  -- no BASE lies below the table's bound
  below_none : {a : ℕ} {l : List ℕ} (t : Table ws a l) (z : ℕ) → z < a → base_in t z ≡ false
  unfolding base_in
  below_none nothing z h = refl
  below_none (entry x y o r lo eight g w t) z h = rw (ne_eqb z x (λ e. omega arith), base_in) (below_none t z (omega arith))

  one_more : {a : ℕ} (x y o r : ℕ) {more : List ℕ} (lo : a ≤ x) (eight : x + 8 ≤ y) (g : Longest ws x y) (w : _) (t : Table ws (suc x) more)
      → count (length ws) (base_in (entry x y o r lo eight g w t)) ≡ suc (count (length ws) (base_in t))
  unfolding base_in
  one_more x y o r lo eight g w t =
      count-add-one (length ws) (base_in t) (base_in (entry x y o r lo eight g w t)) x (omega (arith, g.run.some, g.run.fits))
      (below_none t x (omega arith))
      (rw (eq-eqb x x refl, base_in))
      (λ i hi ne. rw (ne_eqb i x ne, base_in))

  used-bases : {a : ℕ} {l : List ℕ} (t : Table ws a l) (u n : ℕ) → length l ≤ 4 * n → count n (used_entry (l ++ replicate u 0)) ≡ count (length ws) (base_in t)
  unfolding base_in
  used-bases nothing u n h = none_pass n _ (λ k hk. unused-zeros u k) ∙ sym (none_pass (length ws) _ (λ k hk. refl))
  used-bases (entry x y o r {more} lo eight g w t) u zero h = absurd (omega arith)
  used-bases (entry x y o r {more} lo eight g w t) u (suc n) h =
      let first : count (suc n) (used_entry (x ∷ y ∷ o ∷ r ∷ more ++ replicate u 0)) ≡ suc (count n (used_entry (more ++ replicate u 0))) = count-later n x y o r (more ++ replicate u 0) (omega arith) in
      first ∙ ap suc (used-bases t u n (omega arith)) ∙ sym (one_more x y o r lo eight g w t)

  -- four words for each used entry
  four-each : {a : ℕ} {l : List ℕ} → Table ws a l → (u n : ℕ) → length l ≤ 4 * n → length l ≡ 4 * count n (used_entry (l ++ replicate u 0))
  four-each nothing u n h = let none = none_pass n _ (λ k hk. unused-zeros u k) in omega (arith, none)
  four-each (entry x y o r {more} lo eight g w t) u zero h = absurd (omega arith)
  four-each (entry x y o r {more} lo eight g w t) u (suc n) h =
      let first : count (suc n) (used_entry (x ∷ y ∷ o ∷ r ∷ more ++ replicate u 0)) ≡ suc (count n (used_entry (more ++ replicate u 0))) = count-later n x y o r (more ++ replicate u 0) (omega arith) in
      omega (arith, first, four-each t u n (omega arith))

  -- the entries take at most 512 words, four for each used one
  pub entries-counted : (k : ℕ) → length ws ≡ 1024 → k ≡ length (entries ws) → (k ≤ 512) × (k ≡ 4 * range_count (range_words ws))
  unfolding range_count range_words
  entries-counted k size e = let few = entries-few ws size in (omega arith, e ∙ four-each (table_is ws (omega arith)) (512 - length (entries ws)) 128 (omega arith))

  pub ranges-counted : (rs : List ℕ) (n : ℕ) → length rs ≡ 512 → RangesSound ws rs → n ≡ range_count rs → RangesCounted ws n
  unfolding range_count
  ranges-counted rs n room s e =
      record {
        begins = base_in s.listed;
        yes = base-range s.listed;
        no = λ x f r. true-false _ (has_base s.listed x r.end (s.all x r.end r.longest (omega (arith, r.eight)))) f;
        counted = e ∙ rw s.split (used-bases s.listed s.unused 128 (omega (arith, room, ap length s.split, length-append s.used (replicate s.unused 0))));
      }

  -- there is one such number
  pub one_number : (n m : ℕ) → RangesCounted ws n → RangesCounted ws m → n ≡ m
  one_number n m a b = a.counted ∙ count-ext (length ws) a.begins b.begins (λ x h. agree x) ∙ sym b.counted
    where
      agree : (x : ℕ) → a.begins x ≡ b.begins x
      agree x =
          by-test (a.begins x)
          (λ s. by-test (b.begins x) (λ t. s ∙ sym t) (λ t. absurd (b.no x t (a.yes x s))))
          (λ s. by-test (b.begins x) (λ t. absurd (a.no x s (b.yes x t))) (λ t. s ∙ sym t))
