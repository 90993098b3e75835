-- Rows by place: functions that give the range and the child at each place.
use Rattle.std.specs.Prelude.{Bool, true, false, cond, ℕ, zero, suc, ◌+◌, ◌-◌, ◌/◌, ◌%◌, ◌≤◌, ◌<◌, ltb, eqb}
use Rattle.trees.specs.declared.Range.{Range}
use Rattle.trees.specs.Nodes.{leaf_word, field_of}
use Rattle.trees.specs.Inner.Walk.{kids}

-- with a at place s
unfoldable pub placed : {A : Type 0} → (ℕ → A) → ℕ → A → ℕ → A
placed T s a j = cond (eqb j s) a (T j)

-- with a put in at place s, and what stood there and behind it one place further
unfoldable pub opened : {A : Type 0} → (ℕ → A) → ℕ → A → ℕ → A
opened T s a j = cond (ltb j s) (T j) (cond (eqb j s) a (T (j - 1)))

-- i is the first of k places where what stands there passes, or the place behind them; `passes` says what a test answers
pub record FirstPlace {A : Type 0} (passes : A → Bool → Type 0) (r : ℕ → A) (k i : ℕ) : Type 0 where
  pub within : i ≤ k
  pub before : (j : ℕ) → j < i → passes (r j) false
  pub there : i < k → passes (r i) true

-- the first of k places from i on that passes, or the place behind them
unfoldable pub first_at : (ℕ → Bool) → ℕ → ℕ → ℕ
first_at t zero i = i
first_at t (suc k) i = cond (t i) i (first_at t k (suc i))

-- the first of k places from i on whose range has a higher BASE than b
abbrev pub slot_by : (ℕ → Range) → ℕ → ℕ → ℕ → ℕ
slot_by r b k i = first_at (λ j. ltb b (r j).base) k i

-- word j of a node of k ranges
unfoldable pub row_word : Bool → ℕ → (ℕ → Range) → (ℕ → ℕ) → ℕ → ℕ
row_word leaf k r c j =
    cond (eqb j 0) k
    (cond (eqb j 1) (leaf_word leaf)
    (cond (ltb j 18) (cond (ltb ((j - 2) / 4) k) (field_of (r ((j - 2) / 4)) ((j - 2) % 4)) 0)
    (cond (ltb (j - 18) (kids leaf k)) (c (j - 18)) 0)))

-- the sum over the first n places
unfoldable pub sum : ℕ → (ℕ → ℕ) → ℕ
sum zero f = 0
sum (suc n) f = sum n f + f n

-- without what stands at place s, and what stood behind it one place nearer
unfoldable pub closed : {A : Type 0} → (ℕ → A) → ℕ → ℕ → A
closed T s j = cond (ltb j s) (T j) (T (j + 1))

-- c of T, and then U
unfoldable pub behind : {A : Type 0} → (ℕ → A) → ℕ → (ℕ → A) → ℕ → A
behind T c U j = cond (ltb j c) (T j) (U (j - c))
