use Rattle.std.proofs.Common.{◌≡◌, ◌≤◌, ◌+◌, ℕ, Bool, slice_index}
use Rattle.words.specs.Counts.{count}
use Rattle.steps.specs.Inner.{Gives}
use Rattle.steps.proofs.StepLaws.{Changed}
use Rattle.steps.proofs.rewriting.rewrite_span.Given as goal

abbrev pub invariant-loop-k : goal.invariant-loop-k
invariant-loop-k g l =
    (l.n ≤ l.k)
    × ((word : ℕ → ℕ) (counts : ℕ → Bool) → Gives (goal.F-post g l.change) word counts
    → (l.n ≡ count l.k (λ t. counts (slice_index l.initial.part (l.start + t)))) × Changed (λ p w. word w) l.initial.part l.start l.k l.part)
