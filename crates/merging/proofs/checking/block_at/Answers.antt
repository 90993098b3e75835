use mathlib.Core.Path.{sym, ◌∙◌}
use Prim.Native.Nat.{ℕ, ◌-◌}
use native.Mathlib.Omega.{arith}
use lib.ListN.{get_or}
use borrow.Author.Tests.{eqb-true, eqb-false}
use Rattle.blocks.proofs.SettleLaws.{check-none, check-order, check-start, check-end, check-larger, check-others, check-largest, block-free}
use Rattle.merging.proofs.checking.block_at.Goals as goal
use Rattle.merging.proofs.checking.block_at.Goals.{then-w-lt-FREE_FIRST-via-then-w-lt-FREE_FIRST, then-w-lt-FREE_FIRST-via-else-w-lt-FREE_FIRST+then-w, then-pool-end-via-then-pool-end, then-pool-end-via-else-pool-end+then-not-all_same, else-k-lt10-via-then-k-lt10+else-grows, else-k-lt10-via-else-k-lt10}

pub returns-then-w-lt-FREE_FIRST : goal.returns-then-w-lt-FREE_FIRST
returns-then-w-lt-FREE_FIRST c =
    check-none _ _ _ c.requires.f_lt_pool c.requires.edge c.requires.f_value (λ k small e. elim c.then-w-lt-FREE_FIRST.branch [
      | then-w-lt-FREE_FIRST-via-then-w-lt-FREE_FIRST w ↦ omega (arith, w.if-w-lt-FREE_FIRST.true)
      | then-w-lt-FREE_FIRST-via-else-w-lt-FREE_FIRST+then-w w ↦ omega (arith, w.if-w.true)
    ])

pub returns-then-not-can_start : goal.returns-then-not-can_start
returns-then-not-can_start c = check-start _ _ _ c.requires.f_lt_pool c.requires.edge c.requires.f_value _ (omega arith) (eqb-false _ _ (sym c.can_start.ensures ∙ c.if-not-can_start.true))

pub returns-then-pool-end : goal.returns-then-pool-end
returns-then-pool-end c = let k : ℕ = get_or c.args.frames.now c.args.f.0 0 - 16384 in
    elim c.then-pool-end.branch [
      | then-pool-end-via-then-pool-end w ↦ check-end _ _ _ c.requires.f_lt_pool c.requires.edge c.requires.f_value k _ c.size_of.ensures (omega arith) w.if-pool-end.true
      | then-pool-end-via-else-pool-end+then-not-all_same w ↦ check-order _ _ _ c.requires.f_lt_pool c.requires.edge c.requires.f_value k (omega arith) (λ e.
          check-others _ _ _ c.requires.f_lt_pool c.requires.edge k c.requires.f_value e _ c.size_of.ensures (sym w.all_same.ensures ∙ w.if-not-all_same.true))
    ]

pub grows-requires-clause-k_value : goal.grows-requires-clause-k_value
grows-requires-clause-k_value c = block-free _ _ _ c.requires.f_lt_pool c.requires.edge c.requires.f_value _ _ c.size_of.ensures (eqb-true _ _ (sym c.can_start.ensures ∙ c.if-not-can_start.false)) c.if-pool-end.false (sym c.all_same.ensures ∙ c.if-not-all_same.false)

pub returns-then-grows : goal.returns-then-grows
returns-then-grows c = check-larger _ _ _ c.requires.f_lt_pool c.requires.edge c.requires.f_value _ c.if-k-lt10.true (omega arith) (sym c.grows.ensures ∙ c.if-grows.true)

pub returns : goal.returns
returns c =
    check-largest _ _ _ c.requires.f_lt_pool c.requires.edge c.requires.f_value _ _ c.size_of.ensures (omega arith) (omega arith) (eqb-true _ _ (sym c.can_start.ensures ∙ c.if-not-can_start.false)) c.if-pool-end.false (sym c.all_same.ensures ∙ c.if-not-all_same.false) (λ h. elim c.else-k-lt10.branch [
      | else-k-lt10-via-then-k-lt10+else-grows w ↦ sym w.grows.ensures ∙ w.if-grows.false
      | else-k-lt10-via-else-k-lt10 w ↦ absurd (omega (arith, w.if-k-lt10.false))
    ])
