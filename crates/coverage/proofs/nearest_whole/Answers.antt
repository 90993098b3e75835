use borrow.Author.Rules.{rules}
use native.Mathlib.Nat.{mod-lt}
use native.Mathlib.Omega.{arith}
use Rattle.layout.proofs.RoundingLaws.{beside-rounded, only-nearest}
use Rattle.coverage.proofs.CoverageLaws.{room-above}
use Rattle.coverage.proofs.nearest_whole.Goals as goal

pub overflow_sub-lacking : goal.overflow_sub-lacking
overflow_sub-lacking c = let l = mod-lt c.args.a c.requires in search rules

pub returns-then-past-lacking : goal.returns-then-past-lacking
returns-then-past-lacking c = let t = c.if-past-lacking.true in
    let l = mod-lt c.args.a c.requires in
    only-nearest _ _ c.requires _ (beside-rounded _ _ c.requires _ (omega arith) (omega arith) (λ e. omega arith) (λ e. omega arith) (λ e. omega arith))

pub overflow_add-result : goal.overflow_add-result
overflow_add-result c = let h = room-above c.args.a c.args.m c.requires (omega (arith, c.if-lacking-past.true)) in search rules

pub returns-then-lacking-past : goal.returns-then-lacking-past
returns-then-lacking-past c = let t = c.if-lacking-past.true in
    let l = mod-lt c.args.a c.requires in
    only-nearest _ _ c.requires _ (beside-rounded _ _ c.requires _ (omega arith) (omega arith) (λ e. omega arith) (λ e. omega arith) (λ e. omega arith))

pub overflow_add-result-2 : goal.overflow_add-result-2
overflow_add-result-2 c = let h = room-above c.args.a c.args.m c.requires (omega (arith, c.if-past-lacking.false)) in search rules

pub returns : goal.returns
returns c = let f = c.if-past-lacking.false in
    let g = c.if-lacking-past.false in
    only-nearest _ _ c.requires _ (beside-rounded _ _ c.requires _ (omega arith) (omega arith) (λ e. omega arith) (λ e. omega arith) (λ e. omega arith))
