-- The steps of the judgement, put together.
use mathlib.Core.Path.{◌≡◌, refl, sym, ◌∙◌}
use mathlib.Core.Bool.{Bool, true, false}
use mathlib.Core.List.{List}
use Prim.Native.Nat.{ℕ, ◌+◌, ◌*◌, ◌/◌, ◌%◌, ◌≤◌, zero-le}
use native.Mathlib.Nat.{zero-add}
use native.Mathlib.Decide.{ℕ_discrete}
use native.Mathlib.Omega.{arith}
use lib.Dec.{eqb}
use lib.ListN.{length, get_or}
use borrow.Author.Tests.{eq-eqb, ne_eqb}
use Rattle.words.specs.Counts.{count}
use Rattle.words.specs.Searches.{all_from, every}
use Rattle.words.proofs.Cases.{by-test, by-dec, true-false}
use Rattle.words.proofs.SearchLaws.{all_from_at, at-all_from, every-at, at_every}
use Rattle.blocks.specs.FrameWords.{owned_in, lawful}
use Rattle.blocks.proofs.Published.{size-test}
use Rattle.control.specs.Control.{control_buffer_words, pool_size, open_mask, is_open, lawful_control}
use Rattle.control.proofs.ControlLaws.{lawful-says}
use Rattle.layout.specs.Pointing.{page_ok}
use Rattle.layout.proofs.PointingLaws.{pages-pass, mapped-held, by_count}
use Rattle.layout.specs.Tables.{Tables, tables, right_lengths, space_pages, space_ranges}
use Rattle.layout.specs.Sound.{sound}
use Rattle.layout.proofs.SpaceLaws.{part_at}
use Rattle.layout.proofs.SoundLaws.{Lengths, lengths-at, space-room, pages-long, Parts, sound-parts, parts-sound, none-at, at_none, closed_at, at-closed}
use Rattle.tablecheck.specs.Inner.{page_mapped, space_sound}
use Rattle.tablecheck.proofs.WalkingLaws.{fits-says, says-fits, part_says, says-part}

-- lengths

pub wrong-lengths : (T : Tables) → (Lengths T → ⊥) → false ≡ right_lengths T
wrong-lengths T n = by-test (right_lengths T) (λ t. absurd (n (lengths-at T t))) (λ t. sym t)

pub lengths-last : (c fs ps rs : List ℕ) → length c ≡ control_buffer_words → length fs ≡ 4096 → length ps ≡ 4096 → eqb (length rs) 2048 ≡ right_lengths (tables c fs ps rs)
unfolding right_lengths
lengths-last c fs ps rs x y z = rw (eq-eqb _ _ x, eq-eqb _ _ y, eq-eqb _ _ z)

pub pool-small : (c : List ℕ) (F : ℕ) → F ≡ pool_size c → lawful_control c ≡ true → F ≤ 4096
pool-small c F e t = let p = size-test _ (lawful-says c t).pool in omega (arith, p.1)

-- in sound tables every page of the four spaces fits; where every page fits, and as many pages are mapped as frames are held, they are sound

module _ (T : Tables) (l : Lengths T) where
  abbrev space : ℕ → Bool
  space = space_sound (open_mask T.control) T.frames (pool_size T.control) T.pages T.ranges

  sound-spaces : Parts T → all_from 4 0 space ≡ true
  unfolding space_sound space_pages
  sound-spaces x =
      at-all_from 4 0 space (λ s lo hi.
      let h : s ≤ 3 = omega arith in
      let long : length (space_pages T.pages s) ≡ 1024 = pages-long T l s h in
      let room = space-room 1024 s h in
      says-part (is_open (open_mask T.control) s) T.frames (pool_size T.control) (1024 * s) (space_pages T.pages s) (space_ranges T.ranges s) (x.spaces s h) (λ p hp.
      let word : get_or (space_pages T.pages s) p 0 ≡ get_or T.pages (1024 * s + p) 0 = part_at (1024 * s) 1024 T.pages (omega (arith, l.pages)) p (omega arith) in
      let ok = every-at (page_ok T.frames (pool_size T.control)) 0 T.pages 0 (pages-pass _ _ _ x.points l.frames l.pages) (1024 * s + p) (omega (arith, l.pages)) in
      says-fits _ _ _ _ _ (λ f. none-at (space_pages T.pages s) (closed_at T s (x.closed s h) f) p hp) (rw word (rw (zero-add (1024 * s + p)) at ok))))

  -- place k is page k % 1024 of space k / 1024
  pages-point : all_from 4 0 space ≡ true → every (page_ok T.frames (pool_size T.control)) 0 T.pages ≡ true
  unfolding space_sound space_pages
  pages-point t =
      at_every (page_ok T.frames (pool_size T.control)) 0 T.pages 0 (λ k h.
      let s : ℕ = k / 1024 in
      let p : ℕ = k % 1024 in
      let hs : s ≤ 3 = omega (arith, l.pages) in
      let k-is : 1024 * s + p ≡ k = omega arith in
      let long : length (space_pages T.pages s) ≡ 1024 = pages-long T l s hs in
      let word : get_or (space_pages T.pages s) p 0 ≡ get_or T.pages (1024 * s + p) 0 = part_at (1024 * s) 1024 T.pages (omega (arith, l.pages, space-room 1024 s hs)) p (omega arith) in
      let fits = (part_says _ _ _ _ _ _ (all_from_at 4 0 space t s zero-le (omega arith))).1 p (omega arith) in
      let ok : page_ok T.frames (pool_size T.control) (1024 * s + p) (get_or T.pages (1024 * s + p) 0) ≡ true = rw word at (fits-says _ _ _ _ _ fits).1 in
      rw (zero-add k) (rw k-is at ok))

  spaces-sound : lawful_control T.control ≡ true → lawful (pool_size T.control) T.frames ≡ true → all_from 4 0 space ≡ true
      → count 4096 (page_mapped T.pages) ≡ count (pool_size T.control) (owned_in T.frames) → sound T ≡ true
  unfolding space_sound page_mapped
  spaces-sound c u t e =
      let at : (s : ℕ) → s ≤ 3 → space s ≡ true = λ s h. all_from_at 4 0 space t s zero-le (omega arith) in
      parts-sound T (record {
        control = c;
        frames = u;
        spaces = λ s h. (part_says _ _ _ _ _ _ (at s h)).0;
        closed = λ s h. at-closed T s (λ f. at_none (space_pages T.pages s) (λ p hp. (fits-says _ _ _ _ _ ((part_says _ _ _ _ _ _ (at s h)).1 p hp)).0 f));
        points = by_count T.frames T.pages (pool_size T.control) l.frames l.pages (pool-small T.control _ refl c) (pages-point t) e;
      })

module _ (c fs ps rs : List ℕ) where
  pub bad-control : lawful_control c ≡ false → false ≡ sound (tables c fs ps rs)
  unfolding sound
  bad-control f = rw f

  module _ (F : ℕ) (e : F ≡ pool_size c) (t : lawful_control c ≡ true) where
    pub bad-frames : lawful F fs ≡ false → false ≡ sound (tables c fs ps rs)
    unfolding sound
    bad-frames f = rw (t, ← e, f)

    module _ (l : Lengths (tables c fs ps rs)) (u : lawful F fs ≡ true) (mask : ℕ) (m : mask ≡ open_mask c) where
      pub bad-spaces : all_from 4 0 (space_sound mask fs F ps rs) ≡ false → false ≡ sound (tables c fs ps rs)
      bad-spaces f =
          by-test (sound (tables c fs ps rs))
          (λ y. true-false (all_from 4 0 (space_sound mask fs F ps rs)) (rw (m, e) (sound-spaces (tables c fs ps rs) l (sound-parts _ y))) f)
          (λ n. sym n)

      pub by-counting : all_from 4 0 (space_sound mask fs F ps rs) ≡ true → (p q : ℕ) → p ≡ count 4096 (page_mapped ps) → q ≡ count F (owned_in fs) → eqb p q ≡ sound (tables c fs ps rs)
      unfolding page_mapped
      by-counting v p q ep eq =
          by-dec (ℕ_discrete p q)
          (λ y. eq-eqb p q y ∙ sym (spaces-sound (tables c fs ps rs) l t (rw e at u) (rw (m, e) at v) (rw e at (sym ep ∙ y ∙ eq))))
          (λ n. ne_eqb p q n ∙ by-test (sound (tables c fs ps rs))
          (λ y. absurd (n (ep ∙ mapped-held fs ps F (rw (← e) at (sound-parts _ y).points) l.frames l.pages (pool-small c F e t) ∙ sym eq)))
          (λ z. sym z))
