-- What the inner functions of the crates above promise: each a step of the walk over one space.
use Rattle.std.specs.Prelude.{◌≡◌, Bool, true, false, List, ◌++◌, ℕ, ◌+◌, ◌-◌, ◌≤◌, ◌<◌, leb, length, get_or, take, replicate}
use Rattle.std.proofs.lemmas.List.Edits.{sets}
use Rattle.words.specs.Tables.{part}
use Rattle.words.specs.Inner.{ChangedTo}
use Rattle.runs.specs.PageWords.{pages_in_space, rights_factor, mapped, range_bit, frame_in, is_page_word}
use Rattle.runs.specs.Runs.{smallest_range, words_in_table_entry}
use Rattle.runs.specs.Walk.{bit_word, entry_of, ended}

-- a test that decides a statement
pub record Decides (r : Bool) (P : Type 0) : Type 0 where
  pub yes : r ≡ true → P
  pub no : r ≡ false → P → ⊥

-- Stretches that a walk passes at once

-- k pages from page i on are unmapped, with the word 0
pub record Empty (ws : List ℕ) (i k : ℕ) : Type 0 where
  pub room : i + k ≤ pages_in_space
  pub zero : (q : ℕ) → i ≤ q → q < i + k → get_or ws q 0 ≡ 0

-- k pages from page i on have the words v + 1, v + 2, ..: where v is a mapped word, they extend its run
pub record Onward (ws : List ℕ) (i v k : ℕ) : Type 0 where
  pub room : i + k ≤ pages_in_space
  pub frames : frame_in v + k < rights_factor
  pub next : (j : ℕ) → j < k → get_or ws (i + j) 0 ≡ v + (j + 1)

-- a stretch of pages from page i on, after word w, and how many of them are mapped
pub data Along (ws : List ℕ) (i w : ℕ) : ℕ → ℕ → Type 0 where
  nowhere : Along ws i w 0 0
  empty : {k : ℕ} → w ≡ 0 → Empty ws i k → Along ws i w k 0
  onward : {k : ℕ} → mapped w ≡ true → Onward ws i w k → Along ws i w k k

-- Rebuilding

-- the mapped ones of n pages from page a on have the range bit given, the unmapped ones the word 0, and every other is as it was
abbrev pub Marked : Bool → List ℕ → ℕ → ℕ → List ℕ → Type 0
Marked bit xs a n ys = ChangedTo (λ q w. bit_word bit w) xs a (a + n) ys

-- the words xs with zeros from place `at` on
unfoldable pub zero_from : List ℕ → ℕ → List ℕ
zero_from xs at = take at xs ++ replicate (length xs - at) 0

-- how many pages get their range bit where a run of n pages ends, or goes on
unfoldable pub marked_pages : Bool → ℕ → ℕ
marked_pages on n = elim on [ true ↦ 0 | false ↦ n ]

-- before page b the run of n pages ends, or goes on: r is the place of the next entry
pub record EndedRun (xs rs : List ℕ) (on : Bool) (at b n v r : ℕ) (xs' rs' : List ℕ) : Type 0 where
  pub place : r ≡ at + length (ended on b n v)
  pub table : rs' ≡ sets rs at (ended on b n v)
  pub pages : Marked (leb smallest_range n) xs (b - n) (marked_pages on n) xs'

-- Checking

-- where the run of n pages ends before page b, at word v: the range bit of its last page is right, and so is the entry at place `at`
pub record EndFits (rs : List ℕ) (on : Bool) (at b n v : ℕ) : Type 0 where
  pub bit : on ≡ false → range_bit v ≡ leb smallest_range n
  pub entry : on ≡ false → smallest_range ≤ n → part at words_in_table_entry rs ≡ entry_of b n v

-- word w after word v is of the layout, and if mapped has the range bit of v where it extends the run
pub record WordFits (on : Bool) (v w : ℕ) : Type 0 where
  pub layout : is_page_word w ≡ true
  pub bit : on ≡ true → mapped w ≡ true → range_bit w ≡ range_bit v
