-- Which blocks a request takes. Document 01, Frames, second paragraph, and document 02, Change 6. "The search over orders stops at the first order that serves": `largest` and `first_from` stop at the first that passes.
use Rattle.std.specs.Prelude.{◌≡◌, Bool, true, false, ◌&&◌, not, List, [], ◌∷◌, ◌++◌, ℕ, zero, suc, ◌+◌, ◌-◌, ◌^◌, ◌<◌, leb, ltb, length}
use Rattle.std.proofs.Math.Option.{Option, none, some}
use Rattle.words.specs.Tables.{tab_from}
use Rattle.words.specs.Searches.{first_from, largest, is_some}
use Rattle.blocks.specs.declared.Block.{Block}
use Rattle.blocks.specs.Blocks.{largest_order, orders, block, in_block, wholly_free, free_block}

-- the lowest start of a free block of order k
unfoldable pub lowest : ℕ → (ℕ → Bool) → ℕ → Option ℕ
lowest F free k = first_from F 0 (free_block F free k)

-- the smallest order from i on that has a free block
unfoldable pub serving : ℕ → (ℕ → Bool) → ℕ → Option ℕ
serving F free i = first_from (orders - i) i (λ j. is_some (lowest F free j))

-- 2 to the power i is at most the pages left, and some free block has order i or above
unfoldable pub is_served : ℕ → (ℕ → Bool) → ℕ → ℕ → Bool
is_served F free left i = leb (2 ^ i) left && is_some (serving F free i)

-- "the order i is the largest with 2 to the power i at most the pages left and some free block of order i or above"
unfoldable pub order_for : ℕ → (ℕ → Bool) → ℕ → Option ℕ
order_for F free left = largest largest_order (is_served F free left)

-- "split, keeping the lower half, until order i": the lower half starts where the block does
unfoldable pub cut_at : ℕ → Option ℕ → Option Block
cut_at i none = none
cut_at i (some s) = some (block i s)

-- the lowest block of order j, cut to order i
unfoldable pub take_from : ℕ → (ℕ → Bool) → ℕ → Option ℕ → Option Block
take_from F free i none = none
take_from F free i (some j) = cut_at i (lowest F free j)

-- "Take from the smallest such order, lowest start; split, keeping the lower half, until order i": the choice of document 01, which Change 6 calls the old one
unfoldable pub old_choice : ℕ → (ℕ → Bool) → ℕ → Option Block
old_choice F free i = take_from F free i (serving F free i)

-- "Taking a block gains a wished frame"; there may be none. "If a block of the chosen order starting there lies in the pool and is wholly free, it is taken; otherwise the old choice stands."
unfoldable pub take_order : ℕ → (ℕ → Bool) → Option ℕ → ℕ → Option Block
take_order F free none i = old_choice F free i
take_order F free (some s) i = elim (wholly_free F free i s) [ true ↦ some (block i s) | false ↦ old_choice F free i ]

-- the block that is taken while so many pages are left. "Each order is chosen by the old rule from what is then free."
unfoldable pub take_block : ℕ → (ℕ → Bool) → Option ℕ → ℕ → Option Block
take_block F free wish left = elim (order_for F free left) [ none ↦ none | some i ↦ take_order F free wish i ]

-- what is free once the block of order k at s is taken
unfoldable pub without : (ℕ → Bool) → ℕ → ℕ → ℕ → Bool
without free k s g = free g && not (in_block k s g)

-- the pages left once block b is taken
abbrev pub left_after : ℕ → Block → ℕ
left_after left b = left - 2 ^ b.order

-- the frame after block b
abbrev pub end_of : Block → ℕ
end_of b = b.start.0 + 2 ^ b.order

-- "the one after the preceding block": the wish of the next block, wherever b was
unfoldable pub wish_after : Block → Option ℕ
wish_after b = some (end_of b)

-- "Blocks go to ascending pages until none are left." At most `most` blocks: no request takes more blocks than it has pages. `wish` is that of the first block
unfoldable pub take_blocks : ℕ → ℕ → (ℕ → Bool) → Option ℕ → ℕ → List Block
take_blocks zero F free wish left = []
take_blocks (suc most) F free wish left =
    elim (take_block F free wish left) [
      | none ↦ []
      | some b ↦ b ∷ take_blocks most F (without free b.order b.start.0) (wish_after b) (left_after left b)
    ]

-- the frames of a list of blocks, in page order
unfoldable pub frames_of : List Block → List ℕ
frames_of [] = []
frames_of (b ∷ bs) = tab_from (2 ^ b.order) b.start.0 (λ f. f) ++ frames_of bs

-- to map n pages with this wish for the first block: the blocks, their frames in page order, and how many blocks they are
unfoldable pub blocks_for : ℕ → (ℕ → Bool) → Option ℕ → ℕ → List Block
blocks_for F free wish n = take_blocks n F free wish n

unfoldable pub frames_for : ℕ → (ℕ → Bool) → Option ℕ → ℕ → List ℕ
frames_for F free wish n = frames_of (blocks_for F free wish n)

unfoldable pub block_count : ℕ → (ℕ → Bool) → Option ℕ → ℕ → ℕ
block_count F free wish n = length (blocks_for F free wish n)

-- the wish that a number says, where the pool is told one: a number that names no frame of the pool is no wish
unfoldable pub wish_of : ℕ → ℕ → Option ℕ
wish_of F w = elim (ltb w F) [ true ↦ some w | false ↦ none ]

-- the frame before the wish is not free: so no free block begins before the wish and holds it. The inner steps of a preview ask that of their wish; no promise of a call names it
pub record HeldBefore (F : ℕ) (free : ℕ → Bool) (wish : ℕ) : Type 0 where
  pub held : (f : ℕ) → wish ≡ f + 1 → wish < F → free f ≡ false
