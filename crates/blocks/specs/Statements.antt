-- Demands 1 and 2 of the calls on the pool, over what each of them promises; and where a block is taken that is wished for.
use Rattle.std.specs.Prelude.{◌≡◌, Bool, true, false, List, [], ℕ, ◌+◌, ◌%◌, ◌^◌, ◌<◌, ◌≤◌, length, Result}
use Rattle.std.proofs.Math.Option.{none, some}
use Rattle.words.specs.declared.answers.Values.{Values}
use Rattle.words.specs.declared.answers.Refused.{Refused}
use Rattle.words.specs.Answers.{outcome}
use Rattle.words.specs.Rows.{refusal, accepted, Exactly, in_order}
use Rattle.blocks.specs.declared.PoolCall.{PoolCall}
use Rattle.blocks.specs.declared.PoolCall.TheVariants.{SetUp, Check, Count, Allocate, Free}
use Rattle.blocks.specs.Blocks.{block}
use Rattle.blocks.specs.FrameWords.{lawful}
use Rattle.blocks.specs.Choice.{order_for, take_block}
use Rattle.blocks.specs.Calls.{PoolWords, lent, row, Called}

-- Demand 1: "on refusal returns the refusal's number with zeros and alters nothing that was lent"
unfoldable pub RefusedAltersNothing : Type 0
RefusedAltersNothing =
    (c : PoolCall) (P : PoolWords) (r : Result Values Refused) (P' : PoolWords) → Called c P (outcome r) P' → accepted (outcome r) ≡ false → (outcome r ≡ refusal (outcome r).number) × (P' ≡ P)

-- Demand 2: "each refusal comes when its condition holds and none before it applies, and at no other time"
unfoldable pub RefusedExactly : Type 0
RefusedExactly = (c : PoolCall) (P : PoolWords) (r : Result Values Refused) (P' : PoolWords) → Called c P (outcome r) P' → Exactly (row P c).refusals (outcome r).number

-- "Lowest applying number first."
unfoldable pub LowestFirst : Type 0
LowestFirst = (c : PoolCall) (P : PoolWords) → in_order (row P c).refusals ≡ true

-- the pool size that a call is told
abbrev pub size_of : PoolCall → ℕ
size_of (SetUp F) = F
size_of (Check F) = F
size_of (Count F) = F
size_of (Allocate F o w) = F
size_of (Free F o n) = F

-- words that an accepted call leaves are lawful
unfoldable pub AcceptedLeavesLawful : Type 0
AcceptedLeavesLawful =
    (c : PoolCall) (P : PoolWords) (r : Result Values Refused) (P' : PoolWords) → Called c P (outcome r) P' → accepted (outcome r) ≡ true → lawful (size_of c) P'.frames ≡ true

-- "a span mapped and then unmapped by the next call, both accepted, gives back the same frame .. tables": of owners to whom frames are allocated, and who then free them
unfoldable pub AllocatedThenFreed : Type 0
AllocatedThenFreed =
    (F o w : ℕ) (b b' b'' out out' : List ℕ) (r q : Result Values Refused)
    → Called (Allocate F o w) (lent b out) (outcome r) (lent b' out') → accepted (outcome r) ≡ true
    → Called (Free F o (length out)) (lent b' []) (outcome q) (lent b'' []) → accepted (outcome q) ≡ true → b'' ≡ b

-- Change 6, its third sentence, without the test that defines it. The block of order i at frame s: it starts at a multiple of its size, "lies in the pool and is wholly free"
pub record FreeThere (F : ℕ) (free : ℕ → Bool) (i s : ℕ) : Type 0 where
  pub multiple : s % 2 ^ i ≡ 0
  pub inside : s + 2 ^ i ≤ F
  pub whole : (g : ℕ) → s ≤ g → g < s + 2 ^ i → free g ≡ true

-- "it is taken; otherwise the old choice stands": where i is the order chosen, and s the wished frame
unfoldable pub WishDecides : Type 0
WishDecides =
    (F : ℕ) (free : ℕ → Bool) (s left i : ℕ) → order_for F free left ≡ some i
    → (FreeThere F free i s → take_block F free (some s) left ≡ some (block i s)) × ((FreeThere F free i s → ⊥) → take_block F free (some s) left ≡ take_block F free none left)
