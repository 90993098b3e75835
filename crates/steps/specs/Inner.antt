-- What the steps that alter pages promise, said of one space: ws are its page words, ws' and rs' the page words and range words left.
use Rattle.std.specs.Prelude.{◌≡◌, Bool, true, false, List, ℕ, ◌+◌, get_or}
use Rattle.words.specs.Tables.{imap}
use Rattle.words.specs.Counts.{count}
use Rattle.blocks.specs.Owners.{in_span}
use Rattle.steps.specs.declared.rewriting.Change.{Change}
use Rattle.std.proofs.Math.Option.{Option, none, some}
use Rattle.blocks.specs.FrameWords.{largest_pool, owners_of, free_in, frame_words}
use Rattle.blocks.specs.Choice.{frames_for, block_count}
use Rattle.blocks.specs.Owners.{give}
use Rattle.runs.specs.Walk.{with_bits, range_words}
use Rattle.layout.specs.Changes.{wish_before, map_words, unmap_words, mapped_in, protect_words, differing}

-- n pages from `first` on mapped to the frames that the map rule takes, where the frame words are b and the pages' owners count up from o; b' are the frame words left
pub record MapStep (F : ℕ) (b ws : List ℕ) (o first n rights r : ℕ) (b' ws' rs' : List ℕ) : Type 0 where
  pub value : r ≡ block_count F (free_in b) (wish_before ws first) n
  pub frames : b' ≡ frame_words F (give (owners_of b) o (frames_for F (free_in b) (wish_before ws first) n))
  pub pages : ws' ≡ with_bits (map_words ws first n rights (frames_for F (free_in b) (wish_before ws first) n))
  pub ranges : rs' ≡ range_words (map_words ws first n rights (frames_for F (free_in b) (wish_before ws first) n))

-- a wish as the code has it: a number, where 4,096, which is no frame of any pool, is none
unfoldable pub wish_number : Option ℕ → ℕ
wish_number none = largest_pool
wish_number (some s) = s

-- n pages from `first` on unmapped
pub record UnmapStep (ws : List ℕ) (first n r : ℕ) (ws' rs' : List ℕ) : Type 0 where
  pub value : r ≡ mapped_in ws first n
  pub pages : ws' ≡ with_bits (unmap_words ws first n)
  pub ranges : rs' ≡ range_words (unmap_words ws first n)

-- n pages from `first` on given the rights
pub record ProtectStep (ws : List ℕ) (first n rights r : ℕ) (ws' rs' : List ℕ) : Type 0 where
  pub value : r ≡ differing ws first n rights
  pub pages : ws' ≡ with_bits (protect_words ws first n rights)
  pub ranges : rs' ≡ range_words (protect_words ws first n rights)

-- a call makes `word` of a word, and counts it where `counts` holds of it
abbrev pub Gives : (ℕ → Change → Type 0) → (ℕ → ℕ) → (ℕ → Bool) → Type 0
Gives post word counts = (w : ℕ) (c : Change) → post w c → (c.word ≡ word w) × (c.counts ≡ counts w)

-- the words of the span changed
unfoldable pub on_span : ℕ → ℕ → (ℕ → ℕ) → List ℕ → List ℕ
on_span first n word ws = imap (λ p w. elim (in_span first n p) [ true ↦ word w | false ↦ w ]) 0 ws

-- n pages from `first` on changed so, and those that count counted
pub record RewriteStep (word : ℕ → ℕ) (counts : ℕ → Bool) (ws : List ℕ) (first n r : ℕ) (ws' rs' : List ℕ) : Type 0 where
  pub value : r ≡ count n (λ t. counts (get_or ws (first + t) 0))
  pub pages : ws' ≡ with_bits (on_span first n word ws)
  pub ranges : rs' ≡ range_words (on_span first n word ws)
