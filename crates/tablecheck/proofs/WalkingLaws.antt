-- The walk over a space's page words, and over the four spaces.
use mathlib.Core.Path.{◌≡◌, refl, ap, sym, ◌∙◌}
use mathlib.Core.Bool.{Bool, true, false, ◌||◌, not}
use mathlib.Core.List.{List}
use Prim.Native.Nat.{ℕ, ◌+◌, ◌-◌, ◌*◌, ◌<◌, ◌≤◌}
use native.Mathlib.Nat.{add-zero}
use native.Mathlib.Omega.{arith}
use lib.ListN.{length, get_or, take, drop}
use borrow.Author.Tests.{not-true, eq-eqb}
use Rattle.words.specs.Counts.{count, one-if}
use Rattle.words.specs.Searches.{all_from, every}
use Rattle.words.specs.Tables.{part}
use Rattle.words.specs.Inner.{counts_beside, PassTo}
use Rattle.words.proofs.Cases.{true-false, by-test, and-true, true-and}
use Rattle.words.proofs.SearchLaws.{at-all_from, all-step, all-steps, every-at, at_every, every-all}
use Rattle.words.proofs.ScanLaws.{beside_at}
use Rattle.words.proofs.CountLaws.{count-step, one-if-le, count-ext, count-split, none_pass, all_pass}
use Rattle.runs.specs.PageWords.{mapped, frame_in}
use Rattle.runs.specs.Walk.{lawful_ranges}
use Rattle.runs.specs.Inner.{Along, nowhere, empty, onward}
use Rattle.runs.proofs.WordLaws.{zero-unmapped, ahead}
use Rattle.runs.proofs.StepLaws.{along-room}
use Rattle.control.specs.Control.{is_open}
use Rattle.layout.specs.Pointing.{page_ok}
use Rattle.layout.proofs.PointingLaws.{page-unmapped, page-names}
use Rattle.layout.specs.Tables.{space_pages, space_ranges}
use Rattle.layout.proofs.SpaceLaws.{part_at}
use Rattle.layout.proofs.SoundLaws.{space-room}
use Rattle.tablecheck.specs.Inner.{page_mapped, page_fits, part_sound, space_sound, Named}

-- one page

module _ (opened : Bool) (fs : List ℕ) (F i w : ℕ) where
  pub fits-open : opened ≡ true → page_ok fs F i w ≡ page_fits opened fs F i w
  unfolding page_fits
  fits-open t = rw t

  pub fits-closed : opened ≡ false → (m : Bool) → m ≡ mapped w → not m ≡ page_fits opened fs F i w
  unfolding page_fits
  fits-closed f m e = by-test (mapped w) (λ t. rw (f, e, t)) (λ t. rw (f, e, t) (page-unmapped fs F i w t))

  pub fits-says : page_fits opened fs F i w ≡ true → (opened ≡ false → mapped w ≡ false) × (page_ok fs F i w ≡ true)
  unfolding page_fits
  fits-says t =
      let a = and-true (opened || not (mapped w)) (page_ok fs F i w) t in
      (λ f. not-true (mapped w) (rw f at a.0), a.1)

  pub says-fits : (opened ≡ false → mapped w ≡ false) → page_ok fs F i w ≡ true → page_fits opened fs F i w ≡ true
  unfolding page_fits
  says-fits n o = by-test opened (λ t. rw t o) (λ f. rw (f, n f) o)

-- one space

pub fits-start : (opened : Bool) (fs : List ℕ) (F a : ℕ) (ws : List ℕ) → length ws ≡ 1024 → every (page_fits opened fs F) a ws ≡ all_from 1024 0 (λ p. page_fits opened fs F (a + p) (get_or ws p 0))
fits-start opened fs F a ws l = rw l at (every-all (page_fits opened fs F) 0 ws a)

module _ (opened : Bool) (fs : List ℕ) (F a : ℕ) (ws xs : List ℕ) where
  pub part-unlawful : false ≡ lawful_ranges ws xs → false ≡ part_sound opened fs F a ws xs
  unfolding part_sound
  part-unlawful e = rw (← e)

  pub part-wrong : false ≡ every (page_fits opened fs F) a ws → false ≡ part_sound opened fs F a ws xs
  unfolding part_sound
  part-wrong e = by-test (lawful_ranges ws xs) (λ t. rw (t, ← e)) (λ f. rw f)

  pub part-lawful : true ≡ every (page_fits opened fs F) a ws → (r : Bool) → r ≡ lawful_ranges ws xs → r ≡ part_sound opened fs F a ws xs
  unfolding part_sound
  part-lawful e r q = by-test (lawful_ranges ws xs) (λ t. rw (q, t, ← e)) (λ f. rw (q, f))

  pub part_says : part_sound opened fs F a ws xs ≡ true → (lawful_ranges ws xs ≡ true) × ((p : ℕ) → p < length ws → page_fits opened fs F (a + p) (get_or ws p 0) ≡ true)
  unfolding part_sound
  part_says t = let q = and-true _ _ t in (q.0, every-at (page_fits opened fs F) 0 ws a q.1)

  pub says-part : lawful_ranges ws xs ≡ true → ((p : ℕ) → p < length ws → page_fits opened fs F (a + p) (get_or ws p 0) ≡ true) → part_sound opened fs F a ws xs ≡ true
  unfolding part_sound
  says-part t h = true-and _ _ t (at_every (page_fits opened fs F) 0 ws a h)

-- a stretch of pages

-- read beside the words of their pages
pub named-scanned : (ws : List ℕ) (a v : ℕ) (fs : List ℕ) (F f i most r : ℕ) → f + most < F → PassTo (counts_beside ws a v fs (f + 1) (i + 1)) 0 most r → Named fs F f i r
named-scanned ws a v fs F f i most r h x =
    let to = x.to in
    record {
      below = λ j lt. omega arith;
      names = λ j lt.
          let place : f + 1 + j ≡ f + (j + 1) = omega arith in
          let sum : i + 1 + j ≡ i + j + 1 = omega arith in
          rw place at ((beside_at ws a v fs (f + 1) (i + 1) j (x.pass j (omega arith) lt)).1 ∙ sum);
    }

pub named_none : (fs : List ℕ) (F f i k : ℕ) → k ≡ 0 → Named fs F f i k
named_none fs F f i k e = record { below = λ j lt. absurd (omega arith); names = λ j lt. absurd (omega arith) }

module _ (opened : Bool) (fs : List ℕ) (F a : ℕ) (ws : List ℕ) where
  -- each of its pages fits, where the word before it does
  fits_along : (i w b p m : ℕ) → page_fits opened fs F b w ≡ true → Along ws i w p m → Named fs F (frame_in w) (a + i) m → (q : ℕ) → i ≤ q → q < i + p → page_fits opened fs F (a + q) (get_or ws q 0) ≡ true
  fits_along i w b p m t nowhere named q lo hi = absurd (omega arith)
  fits_along i w b p m t (empty z e) named q lo hi =
      let none : mapped (get_or ws q 0) ≡ false = zero-unmapped _ (e.zero q lo hi) in
      says-fits opened fs F (a + q) (get_or ws q 0) (λ f. none) (sym (page-unmapped fs F (a + q) (get_or ws q 0) none))
  fits_along i w b p m t (onward maps o) named q lo hi =
      let frames = o.frames in
      let j : ℕ = q - i in
      let word : get_or ws q 0 ≡ w + (j + 1) = let e : i + j ≡ q = omega arith in rw e at (o.next j (omega arith)) in
      let place : a + i + j + 1 ≡ a + q + 1 = omega arith in
      let here = ahead w (j + 1) maps (omega arith) in
      let low : frame_in (w + (j + 1)) < F = rw here.frame (named.below j (omega arith)) in
      let name : get_or fs (frame_in (w + (j + 1))) 0 ≡ a + q + 1 = rw here.frame (named.names j (omega arith) ∙ place) in
      let ok : page_ok fs F (a + q) (w + (j + 1)) ≡ true = sym (page-names fs F (a + q) (w + (j + 1)) here.maps low) ∙ eq-eqb _ _ name in
      rw word (says-fits opened fs F (a + q) (w + (j + 1)) (λ f. true-false (mapped w) maps ((fits-says opened fs F b w t).0 f)) ok)

  -- the walk's turn: page i, with word w, and the stretch after it
  pub fits-turn : (all : Bool) (i w p m j : ℕ) → all ≡ all_from (1024 - i) i (λ q. page_fits opened fs F (a + q) (get_or ws q 0)) → w ≡ get_or ws i 0 → i < 1024 → page_fits opened fs F (a + i) w ≡ true → Along ws (i + 1) w p m
      → Named fs F (frame_in w) (a + (i + 1)) m → j ≡ i + 1 + p → all ≡ all_from (1024 - j) j (λ q. page_fits opened fs F (a + q) (get_or ws q 0))
  fits-turn all i w p m j e word h t along named jj =
      let room = along-room ws (i + 1) w p m (omega arith) along in
      rw jj (e ∙ all-step _ i 1024 h (rw word at t) ∙ all-steps _ p (i + 1) 1024 (omega (arith, room.0)) (at-all_from p (i + 1) _ (fits_along (i + 1) w (a + i) p m t along named)))

-- mapped pages, counted

module _ (ws : List ℕ) where
  pub count-start : 0 ≡ count 0 (page_mapped ws)
  unfolding count
  count-start = refl

  count-along : (i w p m c : ℕ) → c ≡ count i (page_mapped ws) → Along ws i w p m → c + m ≡ count (i + p) (page_mapped ws)
  unfolding page_mapped
  count-along i w p m c e nowhere = rw (add-zero c, add-zero i) e
  count-along i w p m c e (empty z x) = rw (add-zero c) (e ∙ sym (count-split i p (page_mapped ws) ∙ omega (arith, none_pass p (λ k. page_mapped ws (i + k)) (λ k h. zero-unmapped _ (x.zero (i + k) (omega arith) (omega arith))))))
  count-along i w p m c e (onward t o) = rw e (sym (count-split i p (page_mapped ws) ∙ ap (λ (x : ℕ). count i (page_mapped ws) + x) (all_pass p (λ k. page_mapped ws (i + k)) (λ k h. ap mapped (o.next k h) ∙ (ahead w (k + 1) t (omega (arith, o.frames))).maps))))

  -- the walk's turn
  pub count_turn : (i w p m c r j : ℕ) → c ≡ count i (page_mapped ws) → r ≡ one-if (mapped (get_or ws i 0)) → Along ws (i + 1) w p m → j ≡ i + 1 + p → c + (r + m) ≡ count j (page_mapped ws)
  unfolding page_mapped
  count_turn i w p m c r j e q along jj =
      let s : c + (r + m) ≡ c + r + m = omega arith in
      rw (jj, s) (count-along (i + 1) w p m (c + r) (count-step (page_mapped ws) i c r e q) along)

pub one-small : (b : Bool) (r : ℕ) → r ≡ one-if b → r ≤ 1
one-small b r e = let q = one-if-le b in omega arith

-- those of a space and of the spaces before it
module _ (ps : List ℕ) (l : length ps ≡ 4096) (s : ℕ) (h : s ≤ 3) where
  pub count-space : (m r : ℕ) → m ≡ count (1024 * s) (page_mapped ps) → r ≡ count 1024 (page_mapped (space_pages ps s)) → m + r ≡ count (1024 * (s + 1)) (page_mapped ps)
  unfolding page_mapped space_pages
  count-space m r e q =
      let sum : 1024 * (s + 1) ≡ 1024 * s + 1024 = omega arith in
      let here : count 1024 (page_mapped (space_pages ps s)) ≡ count 1024 (λ p. page_mapped ps (1024 * s + p)) =
      count-ext 1024 _ _ (λ p lt. ap mapped (part_at (1024 * s) 1024 ps (omega (arith, l, space-room 1024 s h)) p lt))
      in
      let all : count (1024 * s + 1024) (page_mapped ps) ≡ count (1024 * s) (page_mapped ps) + count 1024 (λ p. page_mapped ps (1024 * s + p)) = count-split (1024 * s) 1024 (page_mapped ps) in
      rw sum (omega (arith, e, q, here, all))

-- the parts as they are lent

pages-lent : (ps : List ℕ) (s : ℕ) → take (1024 * s + 1024 - 1024 * s) (drop (1024 * s) ps) ≡ space_pages ps s
unfolding space_pages part
pages-lent ps s = let n : 1024 * s + 1024 - 1024 * s ≡ 1024 = omega arith in rw n

ranges-lent : (rs : List ℕ) (s : ℕ) → take (512 * s + 512 - 512 * s) (drop (512 * s) rs) ≡ space_ranges rs s
unfolding space_ranges part
ranges-lent rs s = let n : 512 * s + 512 - 512 * s ≡ 512 = omega arith in rw n

pub space-lent : (mask : ℕ) (fs : List ℕ) (F : ℕ) (ps rs : List ℕ) (s : ℕ) (opened r : Bool) → opened ≡ is_open mask s
    → r ≡ part_sound opened fs F (1024 * s) (take (1024 * s + 1024 - 1024 * s) (drop (1024 * s) ps)) (take (512 * s + 512 - 512 * s) (drop (512 * s) rs)) → r ≡ space_sound mask fs F ps rs s
unfolding space_sound
space-lent mask fs F ps rs s opened r o e = rw (o, pages-lent ps s, ranges-lent rs s) at e

pub count-lent : (ps : List ℕ) (s r : ℕ) → r ≡ count 1024 (page_mapped (take (1024 * s + 1024 - 1024 * s) (drop (1024 * s) ps))) → r ≡ count 1024 (page_mapped (space_pages ps s))
count-lent ps s r e = rw (pages-lent ps s) at e
