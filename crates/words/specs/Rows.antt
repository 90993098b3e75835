-- A call as a row: the refusals that it is judged by, the values that it answers and what it leaves. Document 01, Who can be refused, and by what: "Lowest applying number first. Each returns its number and zeros; buffers and unit stay untouched".
use Rattle.std.specs.Prelude.{◌≡◌, Bool, true, false, List, [], ◌∷◌, ◌++◌, ℕ, eqb}
use Rattle.words.specs.declared.Outcome.{Outcome}
use Rattle.words.specs.Refusals.{Refusal, decide, numbers, Applies, NoneApplies}

-- "its number and zeros"
abbrev pub refusal : ℕ → Outcome
refusal n = record { number = n; first = 0; second = 0 }

-- "Values when accepted (answer 0), first then second"
abbrev pub values : ℕ → ℕ → Outcome
values a b = record { number = 0; first = a; second = b }

abbrev pub accepted : Outcome → Bool
accepted o = eqb o.number 0

-- "buffers and unit stay untouched": the new where the number is 0, else the old
unfoldable pub leaves : {A : Type 0} → ℕ → A → A → A
leaves n new old = elim (eqb n 0) [ true ↦ new | false ↦ old ]

-- a call on something it may alter: its refusals in order, and where none applies its two values and what it leaves
pub record Row (A : Type 0) : Type 0 where
  pub refusals : List (Refusal ℕ)
  pub first : ℕ
  pub second : ℕ
  pub new : A

-- the number of the first refusal that applies, 0 where none does
unfoldable pub number_of : {A : Type 0} → Row A → ℕ
number_of w = decide w.refusals 0

unfoldable pub outcome_of : {A : Type 0} → Row A → Outcome
outcome_of w = elim (eqb (number_of w) 0) [ true ↦ values w.first w.second | false ↦ refusal (number_of w) ]

-- what a call promises, by its row: it was lent `old`, answers o and leaves `left`
pub record Promised {A : Type 0} (w : Row A) (old : A) (o : Outcome) (left : A) : Type 0 where
  pub answers : o ≡ outcome_of w
  pub leaves-new : left ≡ leaves (number_of w) w.new old

-- the row with refusals that are judged before its own
unfoldable pub after : {A : Type 0} → List (Refusal ℕ) → Row A → Row A
after rs w = record { refusals = rs ++ w.refusals; first = w.first; second = w.second; new = w.new }

-- "each refusal comes when its condition holds and none before it applies, and at no other time", acceptance exactly when none holds
pub record Exactly (rs : List (Refusal ℕ)) (number : ℕ) : Type 0 where
  pub refused : (n : ℕ) → Applies n rs → number ≡ n
  pub only : (n : ℕ) → (n ≡ 0 → ⊥) → number ≡ n → Applies n rs
  pub accepts : NoneApplies rs → number ≡ 0
  pub none : number ≡ 0 → NoneApplies rs

-- "Lowest applying number first.": the order in which conditions are judged; 02, Change 4: "17 .. after 6 and before 7"
unfoldable pub refusal_order : List ℕ
refusal_order = 1 ∷ 2 ∷ 3 ∷ 4 ∷ 5 ∷ 6 ∷ 17 ∷ 7 ∷ 8 ∷ 9 ∷ 10 ∷ 11 ∷ 12 ∷ 13 ∷ 14 ∷ 15 ∷ []

-- numbers of the first list, in its order, each at most once
unfoldable pub among : List ℕ → List ℕ → Bool
among [] [] = true
among [] (n ∷ ns) = false
among (k ∷ ks) [] = true
among (k ∷ ks) (n ∷ ns) = elim (eqb k n) [ true ↦ among ks ns | false ↦ among ks (n ∷ ns) ]

unfoldable pub in_order : List (Refusal ℕ) → Bool
in_order rs = among refusal_order (numbers rs)
