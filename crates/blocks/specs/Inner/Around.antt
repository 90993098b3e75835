-- The free block around a frame, found from the frame: a faster description, for inner functions, of what Blocks and FrameWords define, as the laws of AroundLaws say.
use Rattle.std.specs.Prelude.{Bool, true, false, ◌&&◌, ℕ, suc, ◌+◌, ◌*◌, ◌/◌, ◌^◌, leb, eqb}
use Rattle.std.proofs.Math.Option.{Option, none, some}
use Rattle.words.specs.Searches.{all_from, largest}
use Rattle.blocks.specs.Blocks.{largest_order}
use Rattle.blocks.specs.FrameWords.{first_of, other_free}

-- the first frame of the block of order k that holds frame f
unfoldable pub start_of : ℕ → ℕ → ℕ
start_of k f = f / 2 ^ k * 2 ^ k

-- the block of order k around frame f lies in the pool of F frames and is wholly free
unfoldable pub around : ℕ → (ℕ → Bool) → ℕ → ℕ → Bool
around F free f k = leb (start_of k f + 2 ^ k) F && all_from (2 ^ k) (start_of k f) free

-- the order of the largest wholly free block around f
unfoldable pub free_order : ℕ → (ℕ → Bool) → ℕ → Option ℕ
free_order F free f = largest largest_order (around F free f)

-- the word of a free frame f whose free block has the order given
unfoldable pub order_word : ℕ → Option ℕ → ℕ
order_word f none = other_free
order_word f (some k) = elim (eqb (start_of k f) f) [ true ↦ first_of k | false ↦ other_free ]

-- the start of the other half of the block of order k + 1 around s: the block of order k around s is one half of it
unfoldable pub other_half : ℕ → ℕ → ℕ
other_half k s = elim (eqb (start_of (suc k) s) (start_of k s)) [ true ↦ start_of k s + 2 ^ k | false ↦ start_of (suc k) s ]
