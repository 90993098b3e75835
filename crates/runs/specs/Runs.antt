-- Runs and ranges of one space; a range is a range translation of Redundant Memory Mappings. Document 01, Ranges and What the host lends; 02, Change 2. `ws` are the space's 1,024 page words, `rs` its 512 range words.
use Rattle.std.specs.Prelude.{◌≡◌, Bool, true, false, not, List, [], ◌∷◌, ◌++◌, ℕ, suc, ◌+◌, ◌-◌, ◌*◌, ◌^◌, ◌≤◌, ◌<◌, eqb, length, get_or, replicate}
use Rattle.words.specs.Counts.{count}
use Rattle.words.specs.Searches.{any_from}
use Rattle.words.specs.Wrapping.{word_bits, wrap_add}
use Rattle.runs.specs.PageWords.{mapped, range_bit, rights_in, frame_in, is_page_word}

-- "the longest runs of at least 8 pages"
abbrev pub smallest_range : ℕ
smallest_range = 8

-- "128 entries of four words for each space"
abbrev pub ranges_in_space : ℕ
ranges_in_space = 128

abbrev pub words_in_table_entry : ℕ
words_in_table_entry = 4

abbrev pub range_words_in_space : ℕ
range_words_in_space = 512

-- "A run is consecutive mapped pages with consecutive frames and equal rights": pages x up to y, y left out
pub record Run (ws : List ℕ) (x y : ℕ) : Type 0 where
  pub some : x < y
  pub fits : y ≤ length ws
  pub maps : (p : ℕ) → x ≤ p → p < y → mapped (get_or ws p 0) ≡ true
  pub frames : (p : ℕ) → x ≤ p → p < y → frame_in (get_or ws p 0) ≡ frame_in (get_or ws x 0) + (p - x)
  pub rights : (p : ℕ) → x ≤ p → p < y → rights_in (get_or ws p 0) ≡ rights_in (get_or ws x 0)

-- a longest run: no run holds its pages and more
pub record Longest (ws : List ℕ) (x y : ℕ) : Type 0 where
  pub run : Run ws x y
  pub alone : (a b : ℕ) → a ≤ x → y ≤ b → Run ws a b → (a ≡ x) × (b ≡ y)

-- page p is in a range: in one of "the longest runs of at least 8 pages"
pub record InRange (ws : List ℕ) (p : ℕ) : Type 0 where
  pub first : ℕ
  pub end : ℕ
  pub longest : Longest ws first end
  pub eight : first + smallest_range ≤ end
  pub from : first ≤ p
  pub to : p < end

-- "OFFSET is a 32-bit word: frame = page + OFFSET modulo 4,294,967,296"
unfoldable pub frame_by : ℕ → ℕ → ℕ
frame_by offset p = wrap_add word_bits p offset

-- so o gives the frame, and r the rights, of each page from x up to y
pub record Gives (ws : List ℕ) (x y o r : ℕ) : Type 0 where
  pub word : o < 2 ^ word_bits
  pub frame : (p : ℕ) → x ≤ p → p < y → frame_in (get_or ws p 0) ≡ wrap_add word_bits p o
  pub rights : (p : ℕ) → x ≤ p → p < y → rights_in (get_or ws p 0) ≡ r

-- "128 entries of four words for each space: BASE, LIMIT, OFFSET, rights. LIMIT is not covered." "Entries ascend by BASE":
-- each entry is a longest run of at least 8 pages, and no BASE lies below a
pub data Table (ws : List ℕ) : ℕ → List ℕ → Type 0 where
  nothing : {a : ℕ} → Table ws a []
  entry : {a : ℕ} (x y o r : ℕ) {more : List ℕ} → a ≤ x → x + smallest_range ≤ y → Longest ws x y → Gives ws x y o r → Table ws (suc x) more → Table ws a (x ∷ y ∷ o ∷ r ∷ more)

-- an entry has BASE x and LIMIT y
pub data Has (x y : ℕ) : List ℕ → Type 0 where
  here : {o r : ℕ} {more : List ℕ} → Has x y (x ∷ y ∷ o ∷ r ∷ more)
  later : {a b o r : ℕ} {more : List ℕ} → Has x y more → Has x y (a ∷ b ∷ o ∷ r ∷ more)

-- "The range table lists exactly the longest runs of at least 8 pages; the range bit marks their pages."
pub record RangesSound (ws rs : List ℕ) : Type 0 where
  pub words : (p : ℕ) → p < length ws → is_page_word (get_or ws p 0) ≡ true
  -- the range bit of a mapped page is set exactly where the page is in a range
  pub marks : (p : ℕ) → InRange ws p → range_bit (get_or ws p 0) ≡ true
  pub marked : (p : ℕ) → mapped (get_or ws p 0) ≡ true → range_bit (get_or ws p 0) ≡ true → InRange ws p
  -- "unused ones are zero": the used entries come first, zeros follow
  pub used : List ℕ
  pub unused : ℕ
  pub split : rs ≡ used ++ replicate unused 0
  -- each used entry is a range, and each range has its entry
  pub listed : Table ws 0 used
  pub all : (x y : ℕ) → Longest ws x y → x + smallest_range ≤ y → Has x y used

-- "unused ones are zero": entry k of the range table is used where one of its words is not zero
unfoldable pub used_entry : List ℕ → ℕ → Bool
used_entry rs k = any_from words_in_table_entry (words_in_table_entry * k) (λ i. not (eqb (get_or rs i 0) 0))

-- "the space's count of ranges": the used entries (statement, in layout: `CountIsOfRanges`)
unfoldable pub range_count : List ℕ → ℕ
range_count rs = count ranges_in_space (used_entry rs)

-- page x is the first page of one of "the longest runs of at least 8 pages"
pub record RangeFrom (ws : List ℕ) (x : ℕ) : Type 0 where
  pub end : ℕ
  pub longest : Longest ws x end
  pub eight : x + smallest_range ≤ end

-- a space has n of "the longest runs of at least 8 pages": as many as there are pages at which one begins, for no two begin at one page
pub record RangesCounted (ws : List ℕ) (n : ℕ) : Type 0 where
  pub begins : ℕ → Bool
  pub yes : (x : ℕ) → begins x ≡ true → RangeFrom ws x
  pub no : (x : ℕ) → begins x ≡ false → RangeFrom ws x → ⊥
  pub counted : n ≡ count (length ws) begins
