-- Page words. Document 01, What the host lends: "Pages, 4,096 words, 1,024 for each of spaces 0 to 3: 0 = unmapped; else 65,536 + 32,768 × range bit + 4,096 × rights + frame.
-- Rights add read 1, write 2, execute 4; 0 to 7 are allowed."; 02, Change 4: "a writable page must be readable. Rights 2 and 6 are therefore no longer allowed in map, protect, page words, range entries or units".
use Rattle.std.specs.Prelude.{◌≡◌, Bool, ◌&&◌, ◌||◌, not, ℕ, ◌+◌, ◌*◌, ◌/◌, ◌%◌, leb, eqb}
use Rattle.words.specs.Counts.{one-if}

-- "spaces 0 to 3"
abbrev pub spaces : ℕ
spaces = 4

abbrev pub last_space : ℕ
last_space = 3

-- "1,024 for each of spaces 0 to 3": pages 0 to 1,023
abbrev pub pages_in_space : ℕ
pages_in_space = 1024

abbrev pub last_page : ℕ
last_page = 1023

-- "65,536 + 32,768 × range bit + 4,096 × rights + frame"
abbrev pub mapped_part : ℕ
mapped_part = 65536

abbrev pub range_bit_factor : ℕ
range_bit_factor = 32768

abbrev pub rights_factor : ℕ
rights_factor = 4096

-- "Rights add read 1, write 2, execute 4": eight values
abbrev pub rights_values : ℕ
rights_values = 8

-- "0 to 7 are allowed"; "6 rights above 7"
abbrev pub largest_rights : ℕ
largest_rights = 7

-- 02, Change 4, "Write without read is reserved": "rights 2 or 6"
unfoldable pub reserved_rights : ℕ → Bool
reserved_rights r = eqb r 2 || eqb r 6

-- neither 2 nor 6, for statements
abbrev pub NotReserved : ℕ → Type 0
NotReserved r = (r ≡ 2 → ⊥) × (r ≡ 6 → ⊥)

-- 01, "0 to 7 are allowed"; 02, Change 4, "Rights 2 and 6 are therefore no longer allowed": the test of rights in page words and in the entries of units. A call's rights are judged by its two parts, as 6 and 17; an entry of a range table has the rights of its pages
unfoldable pub allowed_rights : ℕ → Bool
allowed_rights r = leb r largest_rights && not (reserved_rights r)

unfoldable pub page_word : Bool → ℕ → ℕ → ℕ
page_word bit rights frame = mapped_part + range_bit_factor * one-if bit + rights_factor * rights + frame

-- what a word says; range bit, rights and frame are those of a mapped page
unfoldable pub mapped : ℕ → Bool
mapped w = eqb (w / mapped_part) 1

unfoldable pub range_bit : ℕ → Bool
range_bit w = eqb (w / range_bit_factor % 2) 1

unfoldable pub rights_in : ℕ → ℕ
rights_in w = w / rights_factor % rights_values

-- the frame is what is left below the rights
unfoldable pub frame_in : ℕ → ℕ
frame_in w = w % rights_factor

-- a word of the layout
unfoldable pub is_page_word : ℕ → Bool
is_page_word w = eqb w 0 || (mapped w && allowed_rights (rights_in w))
