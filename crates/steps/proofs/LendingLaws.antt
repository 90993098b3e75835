-- A space's part of the page and range buffers, lent and given back.
use mathlib.Core.Path.{◌≡◌, refl, ap, ◌∙◌}
use mathlib.Core.List.{List, ◌++◌}
use Prim.Native.Nat.{ℕ, ◌+◌, ◌-◌, ◌*◌, ◌≤◌}
use native.Mathlib.Omega.{arith}
use lib.ListN.{length, take, drop}
use Rattle.words.proofs.TableLaws.{length-imap}
use Rattle.runs.specs.Walk.{with_bits, range_words}
use Rattle.runs.proofs.WalkLaws.{length-with_bits}
use Rattle.blocks.specs.FrameWords.{owners_of, free_in, frame_words}
use Rattle.blocks.specs.Choice.{frames_for, block_count}
use Rattle.blocks.specs.Owners.{give}
use Rattle.layout.specs.Tables.{space_pages, owner_at}
use Rattle.layout.specs.Changes.{Rewritten, wish_before, map_words, unmap_words, mapped_in, protect_words, differing}
use Rattle.layout.proofs.SoundLaws.{space-room}
use Rattle.layout.proofs.SpaceLaws.{part_length, lent-part}
use Rattle.layout.proofs.PlainLaws.{range_words-long}
use Rattle.layout.proofs.StepLaws.{lent_is}
use Rattle.steps.specs.Inner.{MapStep, UnmapStep, ProtectStep}

-- the parts are those from a to e and from b to f
module _ (ps rs : List ℕ) (lp : length ps ≡ 4096) (lr : length rs ≡ 2048) (s : ℕ) (h : s ≤ 3) (a e b f : ℕ) (ae : a ≡ 1024 * s) (ee : e ≡ 1024 * s + 1024) (be : b ≡ 512 * s) (fe : f ≡ 512 * s + 512) (ws es ps' rs' : List ℕ)
    (pe : ps' ≡ take a ps ++ (ws ++ drop (e - a) (drop a ps)))
    (re : rs' ≡ take b rs ++ (es ++ drop (f - b) (drop b rs))) where
  lent-is-space : take (e - a) (drop a ps) ≡ space_pages ps s
  unfolding space_pages
  lent-is-space = rw (ae, ee) (lent-part 1024 s ps)

  space-long : length (space_pages ps s) ≡ 1024
  unfolding space_pages
  space-long = part_length (1024 * s) 1024 ps (omega (arith, space-room 1024 s h, lp))

  rewritten : (xs : List ℕ) → length xs ≡ 1024 → ws ≡ with_bits xs → es ≡ range_words xs → Rewritten s xs ps rs ps' rs'
  rewritten xs len we ese =
      let wl : length ws ≡ 1024 = ap length we ∙ length-with_bits xs ∙ len in
      let el : length es ≡ 512 = ap length ese ∙ range_words-long xs len in
      let p = (rw (ae, ee) at pe) ∙ lent_is 1024 ps ws s h lp wl _ _ refl refl in
      let r = (rw (be, fe) at re) ∙ lent_is 512 rs es s h lr el _ _ refl refl in
      record { pages = rw we at p; ranges = rw ese at r }

  pub mapped-pages : (F : ℕ) (fs fs' : List ℕ) (first n rights m : ℕ) → MapStep F fs (take (e - a) (drop a ps)) (1 + 1024 * s + first) first n rights m fs' ws es
      → (m ≡ block_count F (free_in fs) (wish_before (space_pages ps s) first) n) × ((fs' ≡ frame_words F (give (owners_of fs) (owner_at s first) (frames_for F (free_in fs) (wish_before (space_pages ps s) first) n)))
      × Rewritten s (map_words (space_pages ps s) first n rights (frames_for F (free_in fs) (wish_before (space_pages ps s) first) n)) ps rs ps' rs')
  unfolding map_words owner_at
  mapped-pages F fs fs' first n rights m w =
      let w2 : MapStep F fs (space_pages ps s) (1 + 1024 * s + first) first n rights m fs' ws es = rw lent-is-space at w in
      (w2.value, (w2.frames, rewritten _ (length-imap _ 0 (space_pages ps s) ∙ space-long) w2.pages w2.ranges))

  pub unmapped-pages : (first n m : ℕ) → UnmapStep (take (e - a) (drop a ps)) first n m ws es
      → (m ≡ mapped_in (space_pages ps s) first n) × Rewritten s (unmap_words (space_pages ps s) first n) ps rs ps' rs'
  unfolding unmap_words
  unmapped-pages first n m w =
      let w2 : UnmapStep (space_pages ps s) first n m ws es = rw lent-is-space at w in
      (w2.value, rewritten _ (length-imap _ 0 (space_pages ps s) ∙ space-long) w2.pages w2.ranges)

  pub protected-pages : (first n rights m : ℕ) → ProtectStep (take (e - a) (drop a ps)) first n rights m ws es
      → (m ≡ differing (space_pages ps s) first n rights) × Rewritten s (protect_words (space_pages ps s) first n rights) ps rs ps' rs'
  unfolding protect_words
  protected-pages first n rights m w =
      let w2 : ProtectStep (space_pages ps s) first n rights m ws es = rw lent-is-space at w in
      (w2.value, rewritten _ (length-imap _ 0 (space_pages ps s) ∙ space-long) w2.pages w2.ranges)
