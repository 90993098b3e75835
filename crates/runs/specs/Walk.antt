-- The computed form of Runs: the runs are found in one walk from page 0 that carries the running length. Law `ranges-exactly` says that `lawful_ranges` holds exactly where `RangesSound` does.
use Rattle.std.specs.Prelude.{Bool, true, false, ◌&&◌, List, [], ◌∷◌, ◌++◌, ℕ, suc, ◌+◌, ◌-◌, leb, eqb, length, replicate}
use Rattle.words.specs.Counts.{one-if}
use Rattle.words.specs.Searches.{every}
use Rattle.words.specs.Wrapping.{word_bits, wrap_sub}
use Rattle.runs.specs.PageWords.{page_word, mapped, rights_in, frame_in, is_page_word}
use Rattle.runs.specs.Runs.{smallest_range, range_words_in_space}

-- "consecutive mapped pages with consecutive frames and equal rights": word w, of the next page, extends the run of word v
unfoldable pub joins : ℕ → ℕ → Bool
joins v w = mapped v && (mapped w && (eqb (frame_in w) (frame_in v + 1) && eqb (rights_in w) (rights_in v)))

-- the running length at word w, where it is n at the word v before
unfoldable pub goes_on : ℕ → ℕ → ℕ → ℕ
goes_on n v w = elim (joins v w) [ true ↦ n + 1 | false ↦ one-if (mapped w) ]

-- how many of the words ws, from the first on, extend the run of v
unfoldable pub run_after : ℕ → List ℕ → ℕ
run_after v [] = 0
run_after v (w ∷ ws) = elim (joins v w) [ true ↦ suc (run_after w ws) | false ↦ 0 ]

-- a mapped page's word with the range bit given, 0 for any other
unfoldable pub bit_word : Bool → ℕ → ℕ
bit_word b w = elim (mapped w) [ true ↦ page_word b (rights_in w) (frame_in w) | false ↦ 0 ]

-- the words ws with their range bits, where the running length is n at the word v before them
unfoldable pub bits_from : ℕ → ℕ → List ℕ → List ℕ
bits_from n v [] = []
bits_from n v (w ∷ ws) = bit_word (leb smallest_range (goes_on n v w + run_after w ws)) w ∷ bits_from (goes_on n v w) w ws

-- "the range bit marks their pages"
unfoldable pub with_bits : List ℕ → List ℕ
with_bits ws = bits_from 0 0 ws

-- "BASE, LIMIT, OFFSET, rights": the entry of the run of n pages that ends before page b, at word v
unfoldable pub entry_of : ℕ → ℕ → ℕ → List ℕ
entry_of b n v = (b - n) ∷ b ∷ wrap_sub word_bits (frame_in v) (b - 1) ∷ rights_in v ∷ []

-- "longest runs of at least 8 pages": what is listed before page b, an entry where a run ends there and is long enough
unfoldable pub ended : Bool → ℕ → ℕ → ℕ → List ℕ
ended on b n v = elim on [ true ↦ [] | false ↦ elim (leb smallest_range n) [ true ↦ entry_of b n v | false ↦ [] ] ]

-- the entries of the runs whose LIMIT is b or above, where the running length is n at the word v before it
unfoldable pub entries_from : ℕ → ℕ → ℕ → List ℕ → List ℕ
entries_from b n v [] = ended false b n v
entries_from b n v (w ∷ ws) = ended (joins v w) b n v ++ entries_from (suc b) (goes_on n v w) w ws

unfoldable pub entries : List ℕ → List ℕ
entries ws = entries_from 0 0 0 ws

-- "128 entries of four words for each space"; "unused ones are zero"
unfoldable pub range_words : List ℕ → List ℕ
range_words ws = entries ws ++ replicate (range_words_in_space - length (entries ws)) 0

-- two lists are the same
unfoldable pub same : List ℕ → List ℕ → Bool
same [] [] = true
same [] (y ∷ ys) = false
same (x ∷ xs) [] = false
same (x ∷ xs) (y ∷ ys) = elim (eqb x y) [ true ↦ same xs ys | false ↦ false ]

-- each word is of the layout
unfoldable pub all_page_words : List ℕ → Bool
all_page_words ws = every (λ i w. is_page_word w) 0 ws

-- the page words of a space are of the layout, and its page words and range words are as its frames and rights say
unfoldable pub lawful_ranges : List ℕ → List ℕ → Bool
lawful_ranges ws rs = all_page_words ws && (same ws (with_bits ws) && same rs (range_words ws))
