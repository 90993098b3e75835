-- The running length. Document 02, Change 3: the table check "shall carry the running length from page to page, shown to be at each page the number of pages of its longest run up to there, 0 where it is in none".
-- `ws` are a space's page words.
use Rattle.std.specs.Prelude.{◌≡◌, List, ℕ, ◌+◌, ◌-◌, ◌≤◌, ◌<◌, get_or}
use Rattle.runs.specs.Runs.{Run, Longest}

-- "at each page the number of pages of its longest run up to there": from the run's first page to p, both included; "0 where it is in none". Each page has one such number and no other (laws `running-before`, `running-is`)
pub data RunningLength (ws : List ℕ) (p : ℕ) : ℕ → Type 0 where
  in-run : {x y : ℕ} → Longest ws x y → x ≤ p → p < y → RunningLength ws p (p + 1 - x)
  in-none : ((x y : ℕ) → Run ws x y → x ≤ p → p < y → ⊥) → RunningLength ws p 0

-- "carry the running length from page to page": before page i a walk has the running length at the page before, and that page's word; both are 0 before page 0
pub data Carries (ws : List ℕ) : ℕ → ℕ → ℕ → Type 0 where
  start : Carries ws 0 0 0
  after : {p n : ℕ} → RunningLength ws p n → Carries ws (p + 1) n (get_or ws p 0)

-- "at each page", also where k pages from page i on are passed at once: from n, which is carried before them, the running length rises by one at each of them; or n is 0, and so is the running length at each. The last argument is what is carried after them
pub data RunningAlong (ws : List ℕ) (i n k : ℕ) : ℕ → Type 0 where
  by_one : ((j : ℕ) → j < k → RunningLength ws (i + j) (n + (j + 1))) → RunningAlong ws i n k (n + k)
  at_zero : n ≡ 0 → ((j : ℕ) → j < k → RunningLength ws (i + j) 0) → RunningAlong ws i n k 0
