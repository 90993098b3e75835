-- What a preview asks of its try and promises after it, and the try itself, which maps in a copy xs of the page words ws that are lent to it.
use mathlib.Core.Path.{◌≡◌, refl, ap, ◌∙◌, sym}
use mathlib.Core.Bool.{Bool, true, false}
use mathlib.Core.List.{List}
use mathlib.Core.Option.{none, some}
use Prim.Native.Nat.{ℕ, zero, suc, ◌+◌, ◌-◌, ◌*◌, ◌<◌, ◌≤◌}
use native.Mathlib.Omega.{arith}
use lib.ListN.{length, get_or, take, drop}
use Rattle.words.specs.Rows.{values, number_of}
use Rattle.words.specs.Counts.{count}
use Rattle.words.proofs.Cases.{by-test}
use Rattle.blocks.specs.FrameWords.{owners_of, free_of, free_in, lawful}
use Rattle.blocks.specs.Choice.{frames_for, block_count, HeldBefore}
use Rattle.blocks.proofs.Published.{free-says, lawful-facts}
use Rattle.runs.specs.PageWords.{mapped, frame_in, allowed_rights}
use Rattle.runs.specs.Runs.{range_count}
use Rattle.runs.specs.Walk.{range_words}
use Rattle.control.specs.Control.{pool_size}
use Rattle.layout.specs.declared.TableCall.TheVariants.{Map, Preview}
use Rattle.layout.specs.Tables.{Tables, space_pages, owner_at}
use Rattle.layout.specs.Plain.{Valid, plain_of}
use Rattle.layout.specs.Changes.{wish_past, wish_before, map_words}
use Rattle.layout.specs.Calls.{row, Called}
use Rattle.layout.proofs.SoundLaws.{lengths-at, pages-long}
use Rattle.layout.proofs.SpaceLaws.{lent-part}
use Rattle.layout.proofs.PlainLaws.{sound-valid}
use Rattle.layout.proofs.CallLaws.{Mapping, pool-lawful, pool-enough}
use Rattle.layout.proofs.PreviewLaws.{preview-done}
use Rattle.steps.specs.Inner.{wish_number}

-- in sound tables the frame before the wish is held: by the page before the span
module _ (T : Tables) (v : Valid (plain_of T)) (F s : ℕ) (hs : s ≤ 3) (small : F ≤ 4096) where
  page-held : (p f : ℕ) → p < 1024 → mapped (get_or (space_pages T.pages s) p 0) ≡ true → frame_in (get_or (space_pages T.pages s) p 0) ≡ f → free_in T.frames f ≡ false
  unfolding plain_of free_in owner_at
  page-held p f hp m e =
      let o : owners_of T.frames f ≡ 1 + 1024 * s + p = ap (owners_of T.frames) (sym e) ∙ (v.to-frame s p hs hp m).1 in
      by-test (free_of (owners_of T.frames) f) (λ t. let z = free-says (owners_of T.frames) f t in absurd (omega arith)) (λ t. t)

  held-before : (first : ℕ) → first ≤ 1024 → HeldBefore F (free_in T.frames) (wish_number (wish_before (space_pages T.pages s) first))
  unfolding wish_before wish_past wish_number
  held-before zero h = record { held = λ f e lt. absurd (omega arith) }
  held-before (suc p) h = go (mapped (get_or (space_pages T.pages s) p 0)) refl
    where
      go : (there : Bool) → mapped (get_or (space_pages T.pages s) p 0) ≡ there
          → HeldBefore F (free_in T.frames) (wish_number (elim there [ true ↦ some (frame_in (get_or (space_pages T.pages s) p 0) + 1) | false ↦ none ]))
      go true m = record { held = λ f e lt. page-held p f (omega arith) m (omega arith) }
      go false m = record { held = λ f e lt. absurd (omega arith) }

-- the try in a copy
module _ (ws xs : List ℕ) (xe : xs ≡ ws) where
  pub copy-held : (F : ℕ) (free : ℕ → Bool) (first : ℕ) → HeldBefore F free (wish_number (wish_before ws first)) → HeldBefore F free (wish_number (wish_before xs first))
  copy-held F free first h = rw xe h

  pub copy-cost : (F : ℕ) (free : ℕ → Bool) (first n rights m k : ℕ)
      → (m ≡ block_count F free (wish_before xs first) n) × (k ≡ range_count (range_words (map_words xs first n rights (frames_for F free (wish_before xs first) n))))
      → (m ≡ block_count F free (wish_before ws first) n) × (k ≡ range_count (range_words (map_words ws first n rights (frames_for F free (wish_before ws first) n))))
  copy-cost F free first n rights m k w = rw xe at w

module _ (T : Tables) (F s first n rights : ℕ) (fe : F ≡ pool_size T.control) where
  -- the space's part of the page buffer as it is lent
  abbrev lent : List ℕ
  lent = take ((1024 * s + 1024) - 1024 * s) (drop (1024 * s) T.pages)

  lent_is : lent ≡ space_pages T.pages s
  unfolding space_pages
  lent_is = lent-part 1024 s T.pages

  pub try-asks : Mapping T s first n rights
      → (lawful F T.frames ≡ true)
      × ((length lent ≡ 1024) × (HeldBefore F (free_in T.frames) (wish_number (wish_before lent first)) × ((n ≤ count F (free_in T.frames)) × ((first + n ≤ 1024) × (allowed_rights rights ≡ true)))))
  try-asks q =
      let w = q.spans in
      let lw = pool-lawful T F s first n rights fe q in
      let v = sound-valid T w.judged.lengths w.judged.tables in
      let held = held-before T v F s w.space (lawful-facts F T.frames lw).small first (omega (arith, w.room)) in
      let long = ap length lent_is ∙ pages-long T (lengths-at T w.judged.lengths) s w.space in
      (lw, (long, (rw lent_is held, (pool-enough T F s first n rights fe q, (w.room, q.allowed)))))

  pub try-done : 0 ≡ number_of (row T (Map s first n rights)) → (m k : ℕ)
      → (m ≡ block_count F (free_in T.frames) (wish_before lent first) n) × (k ≡ range_count (range_words (map_words lent first n rights (frames_for F (free_in T.frames) (wish_before lent first) n))))
      → Called (Preview s first n rights) T (values m k) T
  try-done e m k w =
      let v : (m ≡ block_count (pool_size T.control) (free_in T.frames) (wish_before (space_pages T.pages s) first) n)
      × (k ≡ range_count (range_words (map_words (space_pages T.pages s) first n rights (frames_for (pool_size T.control) (free_in T.frames) (wish_before (space_pages T.pages s) first) n)))) = rw (fe, lent_is) at w
      in
      preview-done s first n rights T e m k v.0 v.1
