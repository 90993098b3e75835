-- Blocks of frames, as a buddy allocator splits and merges them. Document 01, Frames, first paragraph. `free` says of each frame number whether the frame is free.
use Rattle.std.specs.Prelude.{Bool, ◌&&◌, not, ℕ, suc, ◌+◌, ◌-◌, ◌%◌, ◌^◌, leb, ltb, eqb}
use Rattle.words.specs.Searches.{all_from, any_from}
use Rattle.blocks.specs.declared.Block.{Block}

-- the block of order k at frame s, as the code has it
abbrev pub block : ℕ → ℕ → Block
block k s = record { start = record { 0 = s }; order = k }

-- how far s lies past a multiple of 2 to the power k
abbrev pub past_multiple : ℕ → ℕ → ℕ
past_multiple k s = s % 2 ^ k

-- "order k, 0 to 10"
abbrev pub largest_order : ℕ
largest_order = 10

-- how many orders there are
abbrev pub orders : ℕ
orders = 11

-- "A block of order k, 0 to 10, is 2 to the power k frames starting at a multiple of that."
unfoldable pub is_block : ℕ → ℕ → Bool
is_block k s = leb k largest_order && eqb (past_multiple k s) 0

-- frame g is one of the block of order k at s
unfoldable pub in_block : ℕ → ℕ → ℕ → Bool
in_block k s g = leb s g && ltb g (s + 2 ^ k)

-- every frame of the block of order k at s is one of the block of order m at t
unfoldable pub lies_in : ℕ → ℕ → ℕ → ℕ → Bool
lies_in k s m t = leb t s && leb (s + 2 ^ k) (t + 2 ^ m)

-- the size from which on a pool has the block of order k at s inside
abbrev pub size_for : ℕ → ℕ → ℕ
size_for k s = s + 2 ^ k

-- "the wholly free blocks inside the pool"
unfoldable pub wholly_free : ℕ → (ℕ → Bool) → ℕ → ℕ → Bool
wholly_free F free k s = is_block k s && (leb (size_for k s) F && all_from (2 ^ k) s free)

-- the block of order k at s lies in a larger such block
unfoldable pub in_larger : ℕ → (ℕ → Bool) → ℕ → ℕ → Bool
in_larger F free k s = any_from (largest_order - k) (suc k) (λ m. any_from F 0 (λ t. lies_in k s m t && wholly_free F free m t))

-- "Free blocks are exactly the wholly free blocks inside the pool that lie in no larger such block."
unfoldable pub free_block : ℕ → (ℕ → Bool) → ℕ → ℕ → Bool
free_block F free k s = wholly_free F free k s && not (in_larger F free k s)
