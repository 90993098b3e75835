-- The control buffer. Document 01, What the host lends: "Control, 195 words: pool size F (1 to 4,096); count C of removal records; open mask (space s is 2 to the power s; at most 15);
-- 64 removal records of three words: space (0 to 3), first page, page count (at least 1, ending by page 1,023). Record m (from 1 to C) stands in place m mod 64. Unused places are zero."
-- The removal records are an invalidation log, kept as a ring of 64 places.
-- Only the accessors, the three writers and fresh_control know where a word stands; everything else goes by their laws, but for the edge cases, which type whole buffers.
use Rattle.std.specs.Prelude.{Bool, true, false, ◌&&◌, ◌||◌, List, ◌∷◌, ℕ, ◌+◌, ◌-◌, ◌*◌, ◌%◌, ◌^◌, leb, eqb, get_or, set, replicate}
use Rattle.runs.specs.PageWords.{last_space, pages_in_space}
use Rattle.words.specs.Searches.{all_from}
use Rattle.words.specs.Bits.{has_bit}
use Rattle.blocks.specs.FrameWords.{is_pool_size}

-- "Control, 195 words"
abbrev pub control_buffer_words : ℕ
control_buffer_words = 195

-- where the removal records begin, behind F, C and the open mask
abbrev pub records_from : ℕ
records_from = 3

-- "of three words"
abbrev pub words_in_record : ℕ
words_in_record = 3

-- "64 removal records": the places of the log
abbrev pub log_places : ℕ
log_places = 64

-- "open mask (space s is 2 to the power s; at most 15)"
abbrev pub all_open : ℕ
all_open = 15

-- F
unfoldable pub pool_size : List ℕ → ℕ
pool_size c = get_or c 0 0

-- C, how many removal records there have been
unfoldable pub removals : List ℕ → ℕ
removals c = get_or c 1 0

unfoldable pub open_mask : List ℕ → ℕ
open_mask c = get_or c 2 0

-- the first word of place j
unfoldable pub word_of_place : ℕ → ℕ
word_of_place j = records_from + words_in_record * j

unfoldable pub record_space : List ℕ → ℕ → ℕ
record_space c j = get_or c (word_of_place j) 0

unfoldable pub record_first : List ℕ → ℕ → ℕ
record_first c j = get_or c (word_of_place j + 1) 0

unfoldable pub record_count : List ℕ → ℕ → ℕ
record_count c j = get_or c (word_of_place j + 2) 0

-- the writers
unfoldable pub with_removals : List ℕ → ℕ → List ℕ
with_removals c n = set c 1 n

unfoldable pub with_mask : List ℕ → ℕ → List ℕ
with_mask c m = set c 2 m

unfoldable pub with_record : List ℕ → ℕ → ℕ → ℕ → ℕ → List ℕ
with_record c j space first count = set (set (set c (word_of_place j) space) (word_of_place j + 1) first) (word_of_place j + 2) count

-- "Record m (from 1 to C) stands in place m mod 64."
abbrev pub record_place : ℕ → ℕ
record_place m = m % log_places

-- some record stands in place j, for j below 64
unfoldable pub used : ℕ → ℕ → Bool
used C j = leb log_places C || (leb 1 j && leb j C)

-- "space (0 to 3), first page, page count (at least 1, ending by page 1,023)"; "unused places are zero"
unfoldable pub record_ok : Bool → ℕ → ℕ → ℕ → Bool
record_ok u space first count =
    elim u [
      | true ↦ leb space last_space && (leb 1 count && leb (first + count) pages_in_space)
      | false ↦ eqb space 0 && (eqb first 0 && eqb count 0)
    ]

unfoldable pub record_fits : List ℕ → ℕ → Bool
record_fits c j = record_ok (used (removals c) j) (record_space c j) (record_first c j) (record_count c j)

-- the control buffer's part of what document 01 calls sound
unfoldable pub lawful_control : List ℕ → Bool
lawful_control c = is_pool_size (pool_size c) && (leb (open_mask c) all_open && all_from log_places 0 (record_fits c))

-- "space s is 2 to the power s"
unfoldable pub is_open : ℕ → ℕ → Bool
is_open mask s = has_bit mask s

-- "Open and close a space.": the control words with space s open, or closed
unfoldable pub with_opened : List ℕ → ℕ → List ℕ
with_opened c s = with_mask c (open_mask c + 2 ^ s)

unfoldable pub with_closed : List ℕ → ℕ → List ℕ
with_closed c s = with_mask c (open_mask c - 2 ^ s)

-- one removal record more
unfoldable pub appended : List ℕ → ℕ → ℕ → ℕ → List ℕ
appended c space first count = with_record (with_removals c (removals c + 1)) (record_place (removals c + 1)) space first count

-- after set up pool: "no space open, C = 0, .. records zero"
unfoldable pub fresh_control : ℕ → List ℕ
fresh_control F = F ∷ replicate (control_buffer_words - 1) 0
