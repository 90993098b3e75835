-- What the steps of the table check decide.
use Rattle.std.specs.Prelude.{◌≡◌, Bool, ◌&&◌, ◌||◌, not, List, ℕ, ◌+◌, ◌*◌, ◌<◌, get_or}
use Rattle.words.specs.Searches.{every}
use Rattle.runs.specs.PageWords.{pages_in_space, mapped}
use Rattle.runs.specs.Walk.{lawful_ranges}
use Rattle.control.specs.Control.{is_open}
use Rattle.layout.specs.Pointing.{page_ok}
use Rattle.layout.specs.Tables.{space_pages, space_ranges}

-- page p is mapped, by a space's words
unfoldable pub page_mapped : List ℕ → ℕ → Bool
page_mapped ws p = mapped (get_or ws p 0)

-- page word w at place i of the page buffer: mapped in an open space only, and then the word of its frame names place i
unfoldable pub page_fits : Bool → List ℕ → ℕ → ℕ → ℕ → Bool
page_fits opened fs F i w = (opened || not (mapped w)) && page_ok fs F i w

-- the page words ws, from place a of the page buffer on, and range words xs of a space that is open or not
unfoldable pub part_sound : Bool → List ℕ → ℕ → ℕ → List ℕ → List ℕ → Bool
part_sound opened fs F a ws xs = lawful_ranges ws xs && every (page_fits opened fs F) a ws

unfoldable pub space_sound : ℕ → List ℕ → ℕ → List ℕ → List ℕ → ℕ → Bool
space_sound mask fs F ps rs s = part_sound (is_open mask s) fs F (pages_in_space * s) (space_pages ps s) (space_ranges rs s)

-- the k frames after frame f are below F, and their words name the places i, i + 1, .. of the page buffer
pub record Named (fs : List ℕ) (F f i k : ℕ) : Type 0 where
  pub below : (j : ℕ) → j < k → f + (j + 1) < F
  pub names : (j : ℕ) → j < k → get_or fs (f + (j + 1)) 0 ≡ i + j + 1
