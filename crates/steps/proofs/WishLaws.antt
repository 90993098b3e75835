-- The wish of a map's first block, as the code has it.
use mathlib.Core.Path.{◌≡◌, refl, ap, ◌∙◌, sym, subst}
use mathlib.Core.Bool.{Bool, true, false}
use mathlib.Core.List.{List}
use mathlib.Core.Option.{Option, none, some}
use Prim.Native.Nat.{ℕ, zero, suc, ◌+◌, ◌-◌, ◌<◌, ◌≤◌}
use native.Mathlib.Omega.{arith}
use lib.ListN.{length, get_or}
use Rattle.blocks.specs.Choice.{frames_of, blocks_for, frames_for, block_count, HeldBefore}
use Rattle.blocks.specs.FrameWords.{frame_words}
use Rattle.blocks.specs.Owners.{give}
use Rattle.blocks.proofs.Published.{blocks-past}
use Rattle.runs.specs.PageWords.{mapped, frame_in}
use Rattle.runs.proofs.WordLaws.{frame-lt}
use Rattle.layout.specs.Changes.{wish_past, wish_before, map_words}
use Rattle.steps.specs.Inner.{wish_number}

-- the number serves as the wish does
module _ (F : ℕ) (free : ℕ → Bool) (n : ℕ) (small : F ≤ 4096) where
  blocks-wished : (wish : Option ℕ) → blocks_for F free (some (wish_number wish)) n ≡ blocks_for F free wish n
  unfolding wish_number
  blocks-wished none = blocks-past F free 4096 n small
  blocks-wished (some s) = refl

  pub count-wished : (wish : Option ℕ) (w : ℕ) → w ≡ wish_number wish → block_count F free (some w) n ≡ block_count F free wish n
  unfolding block_count
  count-wished wish w e = ap (λ (x : ℕ). block_count F free (some x) n) e ∙ ap length (blocks-wished wish)

  pub frames-wished : (wish : Option ℕ) (w : ℕ) → w ≡ wish_number wish → frames_for F free (some w) n ≡ frames_for F free wish n
  unfolding frames_for
  frames-wished wish w e = ap (λ (x : ℕ). frames_for F free (some x) n) e ∙ ap frames_of (blocks-wished wish)

-- what the frames given make of frame words and page words
module _ (fs gs : List ℕ) (e : fs ≡ gs) where
  pub given-same : (F : ℕ) (owner : ℕ → ℕ) (o : ℕ) (b : List ℕ) → b ≡ frame_words F (give owner o fs) → b ≡ frame_words F (give owner o gs)
  given-same F owner o b w = w ∙ ap (λ (l : List ℕ). frame_words F (give owner o l)) e

  pub mapped-same : (ws : List ℕ) (first n rights : ℕ) (xs : List ℕ) → xs ≡ map_words ws first n rights fs → xs ≡ map_words ws first n rights gs
  mapped-same ws first n rights xs w = w ∙ ap (map_words ws first n rights) e

pub held_at : (F : ℕ) (free : ℕ → Bool) (v w : ℕ) → w ≡ v → HeldBefore F free v → HeldBefore F free w
held_at F free v w e h = subst (HeldBefore F free) (sym e) h

pub frame-fits : (w f : ℕ) → f ≡ frame_in w → f < 4096
frame-fits w f e = omega (arith, frame-lt w)

-- the wish by cases, as the code decides it

pub wish-none : (ws : List ℕ) (p : ℕ) → p ≡ 0 → 4096 ≡ wish_number (wish_before ws p)
unfolding wish_before wish_number
wish-none ws zero e = refl
wish-none ws (suc q) e = absurd (omega arith)

module _ (ws : List ℕ) (p : ℕ) (some-page : p ≡ 0 → ⊥) where
  -- by the word of the page before
  word-wish : wish_past (get_or ws (p - 1) 0) ≡ wish_before ws p
  unfolding wish_before
  word-wish = go p some-page
    where
      go : (q : ℕ) → (q ≡ 0 → ⊥) → wish_past (get_or ws (q - 1) 0) ≡ wish_before ws q
      go zero n = absurd (n refl)
      go (suc q) n = let e : suc q - 1 ≡ q = omega arith in ap (λ (x : ℕ). wish_past (get_or ws x 0)) e

  pub wish-unmapped : mapped (get_or ws (p - 1) 0) ≡ false → 4096 ≡ wish_number (wish_before ws p)
  unfolding wish_past wish_number
  wish-unmapped f = sym (ap (λ (there : Bool). wish_number (elim there [ true ↦ some (frame_in (get_or ws (p - 1) 0) + 1) | false ↦ none ])) f) ∙ ap wish_number word-wish

  pub wish-mapped : (f : ℕ) → mapped (get_or ws (p - 1) 0) ≡ true → f ≡ frame_in (get_or ws (p - 1) 0) → f + 1 ≡ wish_number (wish_before ws p)
  unfolding wish_past wish_number
  wish-mapped f t e =
      ap (λ (x : ℕ). x + 1) e ∙ sym (ap (λ (there : Bool). wish_number (elim there [ true ↦ some (frame_in (get_or ws (p - 1) 0) + 1) | false ↦ none ])) t) ∙ ap wish_number word-wish
