-- Frame and page words that point at each other. Document 01, Who can be refused, and by what: tables are unsound if "frame and page words do not point at each other".
-- Place i of the page buffer, 1,024 × space + page, is named by the frame word i + 1, and the frames of mapped words are below F.
use Rattle.std.specs.Prelude.{Bool, true, false, ◌&&◌, List, ℕ, ◌+◌, ◌-◌, ltb, eqb, get_or}
use Rattle.words.specs.Searches.{every}
use Rattle.blocks.specs.FrameWords.{is_owner}
use Rattle.runs.specs.PageWords.{mapped, frame_in}

-- page word w maps its page to frame f
unfoldable pub maps_to : ℕ → ℕ → Bool
maps_to w f = mapped w && eqb (frame_in w) f

-- page word w at place i: where it is mapped, its frame is below F and the word of that frame names place i
unfoldable pub page_ok : List ℕ → ℕ → ℕ → ℕ → Bool
page_ok fs F i w = elim (mapped w) [ true ↦ ltb (frame_in w) F && eqb (get_or fs (frame_in w) 0) (i + 1) | false ↦ true ]

-- frame word v at place f: where f is below F and v names a page, that page is mapped with frame f
unfoldable pub frame_ok : List ℕ → ℕ → ℕ → ℕ → Bool
frame_ok ps F f v = elim (ltb f F && is_owner v) [ true ↦ maps_to (get_or ps (v - 1) 0) f | false ↦ true ]

unfoldable pub pointed : List ℕ → List ℕ → ℕ → Bool
pointed fs ps F = every (page_ok fs F) 0 ps && every (frame_ok ps F) 0 fs
