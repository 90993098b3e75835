-- Frame and page words that point at each other pair the mapped pages with the held frames.
use mathlib.Core.Path.{◌≡◌, refl, ap, ◌∙◌, sym}
use mathlib.Core.Bool.{Bool, true, false, not, ◌&&◌}
use mathlib.Core.List.{List}
use Prim.Native.Nat.{ℕ, ◌+◌, ◌-◌, ◌≤◌, ◌<◌}
use native.Mathlib.Nat.{zero-add}
use native.Mathlib.Decide.{dec_le, dec_lt}
use native.Mathlib.Omega.{arith}
use lib.Dec.{ltb, eqb}
use lib.ListN.{length, get_or}
use borrow.Author.Tests.{lt-ltb, le-ltb, ltb-true, eqb-true, eq-eqb, ne_eqb}
use Rattle.blocks.proofs.Published.{test-owner, owner-test, owner-low, owner-high}
use Rattle.words.specs.Counts.{count}
use Rattle.words.specs.Searches.{every}
use Rattle.words.proofs.Cases.{by-test, by-dec, true-false, and-true, true-and}
use Rattle.words.proofs.SearchLaws.{every-at, at_every}
use Rattle.words.proofs.CountLaws.{count-ext, count-all, count-not, count-pairs}
use Rattle.blocks.specs.FrameWords.{is_owner, owner_of, owners_of, free_of, free_in, owned_in}
use Rattle.runs.specs.PageWords.{mapped, frame_in}
use Rattle.layout.specs.Pointing.{maps_to, page_ok, frame_ok, pointed}

-- one word

pub at-maps-to : (w f : ℕ) → mapped w ≡ true → frame_in w ≡ f → maps_to w f ≡ true
unfolding maps_to
at-maps-to w f m e = true-and _ _ m (eq-eqb _ _ e)

pub maps-to-at : (w f : ℕ) → maps_to w f ≡ true → (mapped w ≡ true) × (frame_in w ≡ f)
unfolding maps_to
maps-to-at w f t = let a = and-true _ _ t in (a.0, eqb-true _ _ a.1)

pub page-unmapped : (fs : List ℕ) (F i w : ℕ) → mapped w ≡ false → true ≡ page_ok fs F i w
unfolding page_ok
page-unmapped fs F i w m = rw (m, page_ok)

module _ (fs : List ℕ) (F i w : ℕ) (m : mapped w ≡ true) where
  pub page-over : F ≤ frame_in w → false ≡ page_ok fs F i w
  unfolding page_ok
  page-over h = rw (m, page_ok, le-ltb _ _ h)

  pub page-names : frame_in w < F → eqb (get_or fs (frame_in w) 0) (i + 1) ≡ page_ok fs F i w
  unfolding page_ok
  page-names h = rw (m, page_ok, lt-ltb _ _ h)

  page-says : page_ok fs F i w ≡ true → (frame_in w < F) × (get_or fs (frame_in w) 0 ≡ i + 1)
  unfolding page_ok
  page-says t = let a = and-true _ _ (rw (m, page_ok) at t) in (ltb-true _ _ a.0, eqb-true _ _ a.1)

frame-over : (ps : List ℕ) (F f v : ℕ) → F ≤ f → true ≡ frame_ok ps F f v
unfolding frame_ok
frame-over ps F f v h = rw (le-ltb f F h, frame_ok)

frame-free : (ps : List ℕ) (F f v : ℕ) → (1 ≤ v → v ≤ 4096 → ⊥) → true ≡ frame_ok ps F f v
unfolding frame_ok
frame-free ps F f v no_one =
    by-test (is_owner v)
    (λ o. let b = owner-test v o in absurd (no_one b.0 b.1))
    (λ o. by-test (ltb f F) (λ t. rw (t, o, frame_ok)) (λ t. rw (t, frame_ok)))

frame-held : (ps : List ℕ) (F f v : ℕ) → f < F → is_owner v ≡ true → maps_to (get_or ps (v - 1) 0) f ≡ frame_ok ps F f v
unfolding frame_ok
frame-held ps F f v h o = rw (lt-ltb f F h, o, frame_ok)

owner-word : (v i : ℕ) → owner_of v ≡ i + 1 → v ≡ i + 1
owner-word v i e =
    by-dec (dec_le v 4096)
    (λ le. sym (owner-low v le) ∙ e)
    (λ gt. absurd (omega (arith, e, owner-high v (omega arith))))

-- a frame is free or has an owner
free-not : (fs : List ℕ) (f : ℕ) → free_in fs f ≡ not (owned_in fs f)
unfolding owned_in free_in free_of owners_of owner_of
free-not fs f =
    by-test (is_owner (get_or fs f 0))
    (λ o. let b = (owner-test (get_or fs f 0) o).0 in rw (o, owner_of) (ne_eqb (get_or fs f 0) 0 (λ z. omega arith)))
    (λ o. rw (o, owner_of))

-- a mapped page word has a frame below F, whose word names its place
page-each : (fs ps : List ℕ) (F : ℕ) → length ps ≡ 4096 → every (page_ok fs F) 0 ps ≡ true → (i : ℕ) → i < 4096 → mapped (get_or ps i 0) ≡ true
    → (frame_in (get_or ps i 0) < F) × (get_or fs (frame_in (get_or ps i 0)) 0 ≡ i + 1)
page-each fs ps F pages t i h m = page-says fs F i (get_or ps i 0) m (rw (zero-add i) at (every-at (page_ok fs F) 0 ps 0 t i (omega arith)))

module _ (fs ps : List ℕ) (F : ℕ) (t : pointed fs ps F ≡ true) (frames : length fs ≡ 4096) (pages : length ps ≡ 4096) where
  pub pages-pass : every (page_ok fs F) 0 ps ≡ true
  unfolding pointed
  pages-pass = (and-true (every (page_ok fs F) 0 ps) (every (frame_ok ps F) 0 fs) t).0

  pub page-at : (i : ℕ) → i < 4096 → mapped (get_or ps i 0) ≡ true → (frame_in (get_or ps i 0) < F) × (get_or fs (frame_in (get_or ps i 0)) 0 ≡ i + 1)
  page-at = page-each fs ps F pages pages-pass

  -- an owner below F names a place that is mapped with its frame
  pub frame_at : (f : ℕ) → f < F → f < 4096 → is_owner (get_or fs f 0) ≡ true → (mapped (get_or ps (get_or fs f 0 - 1) 0) ≡ true) × (frame_in (get_or ps (get_or fs f 0 - 1) 0) ≡ f)
  unfolding pointed
  frame_at f h h' o =
      let a = and-true (every (page_ok fs F) 0 ps) (every (frame_ok ps F) 0 fs) t in
      let b : frame_ok ps F f (get_or fs f 0) ≡ true = rw (zero-add f) at (every-at (frame_ok ps F) 0 fs 0 a.1 f (omega arith)) in
      maps-to-at _ _ (frame-held ps F f (get_or fs f 0) h o ∙ b)

  -- no two pages hold one frame
  pub no-two : (i j : ℕ) → i < 4096 → j < 4096 → mapped (get_or ps i 0) ≡ true → mapped (get_or ps j 0) ≡ true → frame_in (get_or ps i 0) ≡ frame_in (get_or ps j 0) → i ≡ j
  no-two i j hi hj mi mj e =
      let a = (page-at i hi mi).1 in
      let b = (page-at j hj mj).1 in
      let c : get_or fs (frame_in (get_or ps i 0)) 0 ≡ get_or fs (frame_in (get_or ps j 0)) 0 = ap (λ (x : ℕ). get_or fs x 0) e in
      omega (arith, a, b, c)

  module _ (small : F ≤ 4096) where
    -- the owner of a frame below F is the place that is mapped with it
    pub place-owns : (i f : ℕ) → i < 4096 → maps_to (get_or ps i 0) f ≡ true → owners_of fs f ≡ i + 1
    unfolding owners_of
    place-owns i f h e =
        let a = maps-to-at (get_or ps i 0) f e in
        let b : get_or fs f 0 ≡ i + 1 = rw a.1 at (page-at i h a.0).1 in
        rw b (owner-low (i + 1) (omega arith))

    pub owner-holds : (i f : ℕ) → i < 4096 → f < F → owners_of fs f ≡ i + 1 → maps_to (get_or ps i 0) f ≡ true
    unfolding owners_of
    owner-holds i f hi h e =
        let w : get_or fs f 0 ≡ i + 1 = owner-word (get_or fs f 0) i e in
        let p : get_or fs f 0 - 1 ≡ i = omega arith in
        let r = frame_at f h (omega arith) (rw w (test-owner (i + 1) (omega arith) (omega arith))) in
        at-maps-to (get_or ps i 0) f (rw p at r.0) (rw p at r.1)

    -- as many pages are mapped as frames are held
    pub mapped-held : count 4096 (λ i. mapped (get_or ps i 0)) ≡ count F (owned_in fs)
    unfolding owned_in
    mapped-held =
        count-pairs 4096 F (λ i. mapped (get_or ps i 0)) (owned_in fs) (λ i. frame_in (get_or ps i 0)) (λ f. get_or fs f 0 - 1)
        (record {
          there = λ i h m.
              let s = page-at i h m in
              let n = s.1 in
              (s.0, rw n (test-owner (i + 1) (omega arith) (omega arith)), omega (arith, n));
          back = λ f h o.
              let s = frame_at f h (omega arith) o in
              let b = owner-test (get_or fs f 0) o in
              (omega (arith, b.0, b.1), s.0, s.1);
        })

    -- free frames counted singly and mapped pages are all frames of the pool
    pub balance : count F (free_in fs) + count 4096 (λ i. mapped (get_or ps i 0)) ≡ F
    balance =
        let a = count-not F (owned_in fs) in
        let b : count F (free_in fs) ≡ count F (λ f. not (owned_in fs f)) = count-ext F (free_in fs) _ (λ f h. free-not fs f) in
        omega (arith, a, b, mapped-held)

-- words point at each other as soon as a place is mapped with a frame exactly where it is the owner of that frame
module _ (fs ps : List ℕ) (F : ℕ) (frames : length fs ≡ 4096) (pages : length ps ≡ 4096)
    (there : (i f : ℕ) → i < 4096 → maps_to (get_or ps i 0) f ≡ true → (f < F) × (owners_of fs f ≡ i + 1))
    (back : (i f : ℕ) → i < 4096 → f < F → owners_of fs f ≡ i + 1 → maps_to (get_or ps i 0) f ≡ true) where
  page-passes : (i : ℕ) → i < 4096 → page_ok fs F i (get_or ps i 0) ≡ true
  unfolding owners_of
  page-passes i h =
      by-test (mapped (get_or ps i 0))
      (λ m.
      let r = there i (frame_in (get_or ps i 0)) h (at-maps-to (get_or ps i 0) (frame_in (get_or ps i 0)) m refl) in
      sym (page-names fs F i (get_or ps i 0) m r.0) ∙ eq-eqb _ _ (owner-word _ i r.1))
      (λ m. sym (page-unmapped fs F i (get_or ps i 0) m))

  frame-passes : (f : ℕ) → frame_ok ps F f (get_or fs f 0) ≡ true
  unfolding owners_of
  frame-passes f =
      by-dec (dec_lt f F)
      (λ lt. by-test (is_owner (get_or fs f 0))
      (λ o.
      let b = owner-test (get_or fs f 0) o in
      let lo : 1 ≤ get_or fs f 0 = b.0 in
      let hi : get_or fs f 0 ≤ 4096 = b.1 in
      sym (frame-held ps F f (get_or fs f 0) lt o) ∙ back (get_or fs f 0 - 1) f (omega arith) lt (omega (arith, owner-low (get_or fs f 0) hi)))
      (λ o. sym (frame-free ps F f (get_or fs f 0) (λ lo hi. true-false (is_owner (get_or fs f 0)) (test-owner (get_or fs f 0) lo hi) o))))
      (λ ge. sym (frame-over ps F f (get_or fs f 0) (omega arith)))

  pub at-pointed : pointed fs ps F ≡ true
  unfolding pointed
  at-pointed =
      true-and _ _ (at_every (page_ok fs F) 0 ps 0 (λ k h. rw (zero-add k) (page-passes k (omega arith))))
      (at_every (frame_ok ps F) 0 fs 0 (λ k h. rw (zero-add k) (frame-passes k)))

-- Counting in place of the way back: the frames that mapped pages name are held ones, each named by one page. So where as many pages are mapped as frames are held, each held frame is named.
module _ (fs ps : List ℕ) (F : ℕ) (frames : length fs ≡ 4096) (pages : length ps ≡ 4096) (small : F ≤ 4096) where
  -- the word of frame f names a page that is mapped with it
  named : ℕ → Bool
  named f = is_owner (get_or fs f 0) && maps_to (get_or ps (get_or fs f 0 - 1) 0) f

  module _ (t : every (page_ok fs F) 0 ps ≡ true) where
    named-mapped : count 4096 (λ i. mapped (get_or ps i 0)) ≡ count F named
    unfolding named
    named-mapped =
        count-pairs 4096 F (λ i. mapped (get_or ps i 0)) named (λ i. frame_in (get_or ps i 0)) (λ f. get_or fs f 0 - 1)
        (record {
          there = λ i h m.
              let s = page-each fs ps F pages t i h m in
              let n = s.1 in
              let back : get_or fs (frame_in (get_or ps i 0)) 0 - 1 ≡ i = omega arith in
              let owns : is_owner (get_or fs (frame_in (get_or ps i 0)) 0) ≡ true = rw n (test-owner (i + 1) (omega arith) (omega arith)) in
              let has : maps_to (get_or ps (get_or fs (frame_in (get_or ps i 0)) 0 - 1) 0) (frame_in (get_or ps i 0)) ≡ true = rw back (at-maps-to (get_or ps i 0) (frame_in (get_or ps i 0)) m refl) in
              (s.0, true-and _ _ owns has, back);
          back = λ f h o.
              let a = and-true _ _ o in
              let b = owner-test (get_or fs f 0) a.0 in
              let s = maps-to-at _ _ a.1 in
              (omega (arith, b.0, b.1), s.0, s.1);
        })

    all_named : count 4096 (λ i. mapped (get_or ps i 0)) ≡ count F (owned_in fs) → (f : ℕ) → f < F → is_owner (get_or fs f 0) ≡ true → named f ≡ true
    unfolding named owned_in
    all_named e = count-all F named (owned_in fs) (λ f h o. (and-true _ _ o).0) (sym named-mapped ∙ e)

    frames-pass : count 4096 (λ i. mapped (get_or ps i 0)) ≡ count F (owned_in fs) → (f : ℕ) → frame_ok ps F f (get_or fs f 0) ≡ true
    unfolding named
    frames-pass e f =
        by-dec (dec_lt f F)
        (λ lt. by-test (is_owner (get_or fs f 0))
        (λ o. sym (frame-held ps F f (get_or fs f 0) lt o) ∙ (and-true (is_owner (get_or fs f 0)) _ (all_named e f lt o)).1)
        (λ o. sym (frame-free ps F f (get_or fs f 0) (λ lo hi. true-false (is_owner (get_or fs f 0)) (test-owner (get_or fs f 0) lo hi) o))))
        (λ ge. sym (frame-over ps F f (get_or fs f 0) (omega arith)))

  pub by_count : every (page_ok fs F) 0 ps ≡ true → count 4096 (λ i. mapped (get_or ps i 0)) ≡ count F (owned_in fs) → pointed fs ps F ≡ true
  unfolding pointed
  by_count t e = true-and _ _ t (at_every (frame_ok ps F) 0 fs 0 (λ k h. rw (zero-add k) (frames-pass t e k)))
