-- Ranges in a list: what a range tree holds. Document 01, What the host lends: "BASE, LIMIT, OFFSET, rights. LIMIT is not covered. OFFSET is a 32-bit word: frame = page + OFFSET modulo 4,294,967,296. Entries ascend by BASE".
use Rattle.std.specs.Prelude.{Bool, false, cond, not, ◌&&◌, ◌||◌, List, [], ◌∷◌, ℕ, ◌+◌, ◌-◌, ◌*◌, ◌<◌, leb, ltb, eqb}
use Rattle.words.specs.Searches.{all_from}
use Rattle.words.specs.Refusals.{Refusal}
use Rattle.blocks.specs.FrameWords.{largest_pool}
use Rattle.runs.specs.PageWords.{pages_in_space, rights_factor, largest_rights, reserved_rights, allowed_rights}
use Rattle.runs.specs.Runs.{smallest_range, frame_by}
use Rattle.trees.specs.declared.Range.{Range}

-- "LIMIT is not covered."
unfoldable pub covers : Range → ℕ → Bool
covers r p = leb r.base p && ltb p r.limit

-- 02, Change 7: "Lookup gives 4,096 × rights + frame"
unfoldable pub page_value : Range → ℕ → ℕ
page_value r p = rights_factor * r.rights + frame_by r.offset p

-- given where no range has the page; above every value that a range gives
abbrev pub no_value : ℕ
no_value = 65536

-- "as a list of the same ranges would": by the first range that covers the page
unfoldable pub look_list : List Range → ℕ → ℕ
look_list [] p = no_value
look_list (r ∷ rs) p = cond (covers r p) (page_value r p) (look_list rs p)

-- a range has the page
unfoldable pub held : List Range → ℕ → Bool
held [] p = false
held (r ∷ rs) p = covers r p || held rs p

-- the ranges with r among them: before the first that has a higher BASE
unfoldable pub insert_list : Range → List Range → List Range
insert_list r [] = r ∷ []
insert_list r (q ∷ qs) = cond (ltb r.base q.base) (r ∷ q ∷ qs) (q ∷ insert_list r qs)

-- "removal by BASE": the ranges without the first whose BASE is b
unfoldable pub remove_list : ℕ → List Range → List Range
remove_list b [] = []
remove_list b (q ∷ qs) = cond (eqb q.base b) qs (q ∷ remove_list b qs)

-- a range of that BASE is held
unfoldable pub holds_base : ℕ → List Range → Bool
holds_base b [] = false
holds_base b (q ∷ qs) = eqb q.base b || holds_base b qs

-- a page of r is in q, where both have pages
unfoldable pub overlapping : Range → Range → Bool
overlapping r q = ltb r.base q.limit && ltb q.base r.limit

-- "overlap with a held range"
unfoldable pub overlaps : Range → List Range → Bool
overlaps r [] = false
overlaps r (q ∷ qs) = overlapping r q || overlaps r qs

-- every page from BASE up to LIMIT has a frame of at most 4,095
unfoldable pub frames_fit : Range → Bool
frames_fit r = all_from (r.limit - r.base) r.base (λ p. ltb (frame_by r.offset p) largest_pool)

-- "8 a range under 8 pages, past page 1,023 or with a frame above 4,095"; a LIMIT at or below BASE is under 8 pages too
unfoldable pub misplaced : Range → Bool
misplaced r = ltb r.limit (r.base + smallest_range) || (ltb pages_in_space r.limit || not (frames_fit r))

-- by what insertion refuses a range beside others: "6 and 17 rights; 8 a range ..; 11 overlap with a held range"
unfoldable pub beside_refusals : Range → List Range → List (Refusal ℕ)
beside_refusals r others =
    record { when = ltb largest_rights r.rights; answer = 6 }
    ∷ record { when = reserved_rights r.rights; answer = 17 }
    ∷ record { when = misplaced r; answer = 8 }
    ∷ record { when = overlaps r others; answer = 11 }
    ∷ []

-- a range that insertion takes if it overlaps none
unfoldable pub proper : Range → Bool
proper r = allowed_rights r.rights && not (misplaced r)

-- "Entries ascend by BASE"
pub data Ascends : List Range → Type 0 where
  nothing : Ascends []
  single : {r : Range} → Ascends (r ∷ [])
  higher : {q r : Range} {rs : List Range} → q.base < r.base → Ascends (r ∷ rs) → Ascends (q ∷ r ∷ rs)
