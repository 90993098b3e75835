use mathlib.Core.Path.{◌≡◌}
use native.Mathlib.Omega.{arith}
use Rattle.tablecheck.specs.Inner.{page_mapped}
use Rattle.coverage.specs.Inner.{page_in_range}
use Rattle.coverage.proofs.CoverageLaws.{count-nothing, mapped-more, in-range-more, one-more}
use Rattle.coverage.proofs.count_pages.Goals as goal

pub loop-w-init : goal.loop-w-init
loop-w-init c = (count-nothing _, count-nothing _)

pub overflow_add-n : goal.overflow_add-n
overflow_add-n c = record { fits = omega (arith, one-more _ _ _ (page_mapped c.args.part.now) _ c.loop-w.invariant.0 c.from-n.ensures) }

pub overflow_add-m : goal.overflow_add-m
overflow_add-m c = record { fits = omega (arith, one-more _ _ _ (page_in_range c.args.part.now) _ c.loop-w.invariant.1 c.from-m.ensures) }

pub loop-w-preserved : goal.loop-w-preserved
loop-w-preserved c = (mapped-more _ _ _ _ _ c.from-n.ensures c.loop-w.invariant.0 c.mapped.ensures, in-range-more _ _ _ _ _ c.from-m.ensures c.loop-w.invariant.1 c.in_range.ensures)

pub returns : goal.returns
returns c = let e : c.loop-w.w-index ≡ 1024 = omega arith in let it = rw e at c.loop-w.invariant in record { mapped_value = it.0; within_value = it.1 }
