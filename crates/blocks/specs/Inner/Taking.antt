-- Taking one block after another: "Blocks go to ascending pages until none are left." Each step takes one block, and hands on what is known once it is taken.
use Rattle.std.specs.Prelude.{◌≡◌, Bool, false, List, [], ◌∷◌, ℕ, ◌<◌, ◌≤◌}
use Rattle.std.proofs.Math.Option.{none, some}
use Rattle.blocks.specs.declared.Bound.{Bound}
use Rattle.blocks.specs.declared.Chosen.{Chosen}
use Rattle.blocks.specs.Blocks.{largest_order, free_block}
use Rattle.blocks.specs.FrameWords.{owners_of, free_in, frame_words}
use Rattle.blocks.specs.Choice.{lowest, take_block, frames_of, frames_for, block_count}
use Rattle.blocks.specs.Owners.{give}

-- no free block of order k starts below f
pub record Clear (F : ℕ) (free : ℕ → Bool) (k f : ℕ) : Type 0 where
  pub none-at : (s : ℕ) → s < f → free_block F free k s ≡ false

-- what earlier searches have shown: no free block has an order above the limit, and none of that order starts below `from`
pub record Searched (F : ℕ) (free : ℕ → Bool) (x : Bound) : Type 0 where
  pub small : x.limit ≤ largest_order
  pub above : (k : ℕ) → x.limit < k → k ≤ largest_order → lowest F free k ≡ none
  pub before : Clear F free x.limit x.from.0

-- before the first search
abbrev pub nothing_known : Bound
nothing_known = record { limit = largest_order; from = record { 0 = 0 } }

-- the block that the rule takes with this wish for the pages left is given to the owners o, o + 1, .., and what is then known holds of the words left
pub record BlockTaken (F : ℕ) (b : List ℕ) (o wish left : ℕ) (r : Chosen) (b' : List ℕ) : Type 0 where
  pub chosen : take_block F (free_in b) (some wish) left ≡ some r.block
  pub words : b' ≡ frame_words F (give (owners_of b) o (frames_of (r.block ∷ [])))
  pub searched : Searched F (free_in b') r.known

-- what `take_frames`, which allocate calls once it has judged the request, answers and leaves
pub record FramesTaken (F : ℕ) (b : List ℕ) (o wish n r : ℕ) (b' out' : List ℕ) : Type 0 where
  pub blocks : r ≡ block_count F (free_in b) (some wish) n
  pub words : b' ≡ frame_words F (give (owners_of b) o (frames_for F (free_in b) (some wish) n))
  pub frames : out' ≡ frames_for F (free_in b) (some wish) n
