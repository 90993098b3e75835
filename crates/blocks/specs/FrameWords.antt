-- The frame buffer. Document 01, What the host lends: "Frames, 4,096 words: held = 1 + 1,024 × space + page; first frame of a free block = 16,384 + order;
-- other free frame = 8,192; at or above F = 65,535." An owner is the number 1 + 1,024 × space + page, from 1 to 4,096; the pool gives it no other meaning.
use Rattle.std.specs.Prelude.{Bool, true, false, ◌&&◌, ◌||◌, List, ℕ, ◌+◌, leb, ltb, eqb, length, get_or}
use Rattle.std.proofs.Math.Option.{Option, none, some}
use Rattle.words.specs.Tables.{tabulate}
use Rattle.words.specs.Searches.{every, first_from}
use Rattle.blocks.specs.Blocks.{orders, free_block}

-- "Frames, 4,096 words"
abbrev pub frame_buffer_words : ℕ
frame_buffer_words = 4096

-- "pool size F (1 to 4,096)"
abbrev pub largest_pool : ℕ
largest_pool = 4096

-- 1 + 1,024 × space + page, of the last page of the last space
abbrev pub largest_owner : ℕ
largest_owner = 4096

unfoldable pub is_pool_size : ℕ → Bool
is_pool_size F = leb 1 F && leb F largest_pool

unfoldable pub is_owner : ℕ → Bool
is_owner w = leb 1 w && leb w largest_owner

-- the owner that a word names, 0 where it names none
unfoldable pub owner_of : ℕ → ℕ
owner_of w = elim (is_owner w) [ true ↦ w | false ↦ 0 ]

-- the owner of each frame of a buffer
unfoldable pub owners_of : List ℕ → ℕ → ℕ
owners_of b f = owner_of (get_or b f 0)

-- a frame without an owner; it is a free frame where it lies below F and the words are lawful
unfoldable pub free_of : (ℕ → ℕ) → ℕ → Bool
free_of owner f = eqb (owner f) 0

unfoldable pub free_in : List ℕ → ℕ → Bool
free_in b = free_of (owners_of b)

-- a frame whose word names an owner
unfoldable pub owned_in : List ℕ → ℕ → Bool
owned_in b f = is_owner (get_or b f 0)

-- "first frame of a free block = 16,384 + order"
abbrev pub first_of : ℕ → ℕ
first_of order = 16384 + order

-- "other free frame = 8,192"
abbrev pub other_free : ℕ
other_free = 8192

-- "at or above F = 65,535"
abbrev pub outside : ℕ
outside = 65535

unfoldable pub first_or_other : Option ℕ → ℕ
first_or_other (some k) = first_of k
first_or_other none = other_free

-- the word of a free frame
unfoldable pub free_word : ℕ → (ℕ → Bool) → ℕ → ℕ
free_word F free f = first_or_other (first_from orders 0 (λ k. free_block F free k f))

-- w can stand at place f: an owner or the free frame's word below F, and 65,535 at or above F
unfoldable pub lawful_at : ℕ → (ℕ → Bool) → ℕ → ℕ → Bool
lawful_at F free f w = elim (ltb f F) [ true ↦ is_owner w || eqb w (free_word F free f) | false ↦ eqb w outside ]

-- the frame buffer's part of what document 01 calls sound. An owner may stand at several frames here:
-- that it stands at one only follows from "frame and page words .. point at each other", which is for the tables above
unfoldable pub lawful : ℕ → List ℕ → Bool
lawful F b = eqb (length b) frame_buffer_words && (is_pool_size F && every (lawful_at F (free_in b)) 0 b)

-- the word of frame f, where owner g is the owner of frame g and 0 says that it is free
unfoldable pub frame_word : ℕ → (ℕ → ℕ) → ℕ → ℕ
frame_word F owner f =
    elim (ltb f F) [
      | true ↦ elim (eqb (owner f) 0) [ true ↦ free_word F (free_of owner) f | false ↦ owner f ]
      | false ↦ outside
    ]

-- the whole buffer
unfoldable pub frame_words : ℕ → (ℕ → ℕ) → List ℕ
frame_words F owner = tabulate frame_buffer_words (frame_word F owner)
