-- What a walk carries is the running length: page by page, and at each page of a stretch.
use mathlib.Core.Path.{◌≡◌, refl, ap, ◌∙◌, sym}
use mathlib.Core.Bool.{true, false}
use mathlib.Core.List.{List}
use Prim.Native.Nat.{ℕ, zero, suc, ◌+◌, ◌<◌, ◌≤◌}
use native.Mathlib.Nat.{add-zero}
use native.Mathlib.Numerals.{add-one}
use native.Mathlib.Decide.{dec_le}
use native.Mathlib.Omega.{arith}
use lib.Dec.{ltb}
use lib.ListN.{length, get_or}
use borrow.Author.Tests.{lt-ltb, le-ltb}
use Rattle.words.proofs.Cases.{by-test, by-dec, true-false}
use Rattle.words.proofs.CountLaws.{one-if-le}
use Rattle.runs.specs.PageWords.{mapped}
use Rattle.runs.specs.Running.{RunningLength, in-none, Carries, start, after, RunningAlong, by_one, at_zero}
use Rattle.runs.specs.Walk.{joins, goes_on}
use Rattle.runs.specs.Inner.{Empty, Onward, Along, nowhere, empty, onward}
use Rattle.runs.proofs.WordLaws.{zero-unmapped, joins_at, join, goes-join, goes-new, ahead-joins}
use Rattle.runs.proofs.WalkLaws.{word_before, run_before, before-suc, before-le, before-none, last-mapped, last_none}
use Rattle.runs.proofs.RunsLaws.{running-before, running-is}

module _ (ws : List ℕ) where
  -- what is carried is what `run_before` and `word_before` compute
  pub carries-is : (i n v : ℕ) → i ≤ length ws → Carries ws i n v → (n ≡ run_before ws i) × (v ≡ word_before ws i)
  unfolding run_before word_before
  carries-is i n v h start = (refl, refl)
  carries-is i n v h (after {p} {n = m} r) = rw (add-one p) (running-is ws p m (omega arith) r, refl)

  pub carries-le : (i n v : ℕ) → i ≤ length ws → Carries ws i n v → n ≤ i
  carries-le i n v h c = omega (arith, (carries-is i n v h c).0, before-le ws i)

  module _ (i n v : ℕ) (h : i < length ws) (c : Carries ws i n v) where
    next-is : goes_on n v (get_or ws i 0) ≡ run_before ws (suc i)
    next-is = let s = carries-is i n v (omega arith) c in rw (s.0, s.1) (sym (before-suc ws i))

    -- one page further `goes_on` is the running length, and no other number is
    pub running-next : (w m : ℕ) → w ≡ get_or ws i 0 → m ≡ goes_on n v w → RunningLength ws i m
    running-next w m e g = let s : m ≡ run_before ws (suc i) = g ∙ rw e next-is in rw s (running-before ws i h)

    pub running-only : (w m : ℕ) → w ≡ get_or ws i 0 → RunningLength ws i m → m ≡ goes_on n v w
    running-only w m e r = rw e (running-is ws i m h r ∙ sym next-is)

    -- the run goes on at page i where the running length is above 1; where it is not, the run before it has ended
    pub running-joins : (w m : ℕ) → w ≡ get_or ws i 0 → RunningLength ws i m → ltb 1 m ≡ joins v w
    running-joins w m e r =
        let g = running-only w m e r in
        let s = carries-is i n v (omega arith) c in
        by-test (joins v w)
        (λ t.
        let some : 1 ≤ n = by-dec (dec_le 1 n) (λ y. y) (λ z. true-false (mapped v) (joins_at v w t).this (ap mapped s.1 ∙ last_none ws i (omega (arith, s.0)))) in
        lt-ltb 1 m (omega (arith, goes-join n v w t)) ∙ sym t)
        (λ t. le-ltb 1 m (omega (arith, goes-new n v w t, one-if-le (mapped w))) ∙ sym t)

  -- a page is mapped where the running length is above 0
  pub running-mapped : (p n : ℕ) → p < length ws → RunningLength ws p n → ltb 0 n ≡ mapped (get_or ws p 0)
  unfolding word_before
  running-mapped p n h r =
      let e = running-is ws p n h r in
      by-dec (dec_le 1 n)
      (λ some. lt-ltb 0 n some ∙ sym (last-mapped ws (suc p) (omega arith)))
      (λ none. le-ltb 0 n (omega arith) ∙ sym (last_none ws (suc p) (omega arith)))

  -- after page i
  pub carries-page : (i m w : ℕ) → RunningLength ws i m → w ≡ get_or ws i 0 → Carries ws (i + 1) m w
  carries-page i m w r e = rw e (after r)

  page-carried : (i p n v : ℕ) → i ≡ p + 1 → Carries ws i n v → RunningLength ws p n
  page-carried i p n v e start = absurd (omega arith)
  page-carried i p n v e (after {p = q} r) = let s : p ≡ q = omega arith in rw s r

  -- over words that count up
  carries-onward : (i n v k : ℕ) → i + k ≤ length ws → mapped v ≡ true → Carries ws i n v → Onward ws i v k → Carries ws (i + k) (n + k) (v + k)
  carries-onward i n v zero h m c o = rw (add-zero i, add-zero n, add-zero v) c
  carries-onward i n v (suc k) h m c o =
      let room = o.room in
      let frames = o.frames in
      let before = carries-onward i n v k (omega arith) m c (record { room = omega arith; frames = omega arith; next = λ j lt. o.next j (omega arith) }) in
      let word : v + (k + 1) ≡ get_or ws (i + k) 0 = sym (o.next k (omega arith)) in
      let on : n + k + 1 ≡ goes_on (n + k) (v + k) (v + (k + 1)) = sym (goes-join (n + k) _ _ (join _ _ (ahead-joins v k m (omega arith)))) in
      let here = carries-page (i + k) (n + k + 1) (v + (k + 1)) (running-next (i + k) (n + k) (v + k) (omega arith) before _ _ word on) word in
      let a : i + suc k ≡ i + k + 1 = omega arith in
      let b : n + suc k ≡ n + k + 1 = omega arith in
      let d : v + suc k ≡ v + (k + 1) = omega arith in
      rw (a, b, d) here

  -- a page that is not mapped is in no run
  unmapped-running : (q : ℕ) → mapped (get_or ws q 0) ≡ false → RunningLength ws q 0
  unmapped-running q f = in-none (λ x y r lo hi. true-false _ (r.maps q lo hi) f)

  carries-empty : (i k : ℕ) → Carries ws i 0 0 → Empty ws i k → Carries ws (i + k) 0 0
  carries-empty i zero c e = rw (add-zero i) c
  carries-empty i (suc k) c e =
      let z : get_or ws (i + k) 0 ≡ 0 = e.zero (i + k) (omega arith) (omega arith) in
      let a : i + suc k ≡ i + k + 1 = omega arith in
      rw a (carries-page (i + k) 0 0 (unmapped-running (i + k) (zero-unmapped _ z)) (sym z))

  -- where the word before is 0, so is the running length
  pub no_run : (i n v : ℕ) → i ≤ length ws → Carries ws i n v → v ≡ 0 → n ≡ 0
  no_run i n v h c z = let s = carries-is i n v h c in s.0 ∙ before-none ws i (ap mapped (sym s.1) ∙ zero-unmapped v z)

  -- over a stretch: at its end, and at each of its pages
  pub carries-along : (i n v p m : ℕ) → i + p ≤ length ws → Carries ws i n v → Along ws i v p m → Carries ws (i + p) (n + m) (v + m)
  carries-along i n v p m h c nowhere = rw (add-zero i, add-zero n, add-zero v) c
  carries-along i n v p m h c (empty z e) = let r = no_run i n v (omega arith) c z in rw (r, z) (carries-empty i p (rw (r, z) at c) e)
  carries-along i n v p m h c (onward t o) = carries-onward i n v p h t c o

  pub running-along : (i n v p m : ℕ) → i + p ≤ length ws → Carries ws i n v → Along ws i v p m → RunningAlong ws i n p (n + m)
  running-along i n v p m h c nowhere = by_one (λ j lt. absurd (omega arith))
  running-along i n v p m h c (empty z e) =
      let r = no_run i n v (omega arith) c z in
      rw r (at_zero refl (λ j lt. unmapped-running (i + j) (zero-unmapped _ (e.zero (i + j) (omega arith) (omega arith)))))
  running-along i n v p m h c (onward t o) =
      by_one (λ j lt.
      let room = o.room in
      let frames = o.frames in
      let part : Onward ws i v (j + 1) = record { room = omega arith; frames = omega arith; next = λ k less. o.next k (omega arith) } in
      page-carried (i + (j + 1)) (i + j) (n + (j + 1)) (v + (j + 1)) (omega arith) (carries-onward i n v (j + 1) (omega arith) t c part))
