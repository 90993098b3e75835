use native.Mathlib.Omega.{arith}
use mathlib.Core.Path.{ap}
use Rattle.words.specs.Counts.{one-if}
use Rattle.sv39.proofs.LeafLaws.{leaf-sum}
use Rattle.sv39.proofs.entries.leaf.Goals as goal

pub overflow_mul-entry : goal.overflow_mul-entry
overflow_mul-entry c = omega (arith, c.requires.rights_bound)

pub overflow_add-entry : goal.overflow_add-entry
overflow_add-entry c = omega (arith, c.requires.rights_bound)

pub overflow_mul-entry-2 : goal.overflow_mul-entry-2
overflow_mul-entry-2 c = omega (arith, c.requires.f_bound)

pub overflow_add-entry-2 : goal.overflow_add-entry-2
overflow_add-entry-2 c = omega (arith, c.requires.rights_bound, c.requires.f_bound)

pub overflow_add-result : goal.overflow_add-result
overflow_add-result c = omega (arith, c.requires.rights_bound, c.requires.f_bound)

pub returns-then-range : goal.returns-then-range
unfolding one-if
returns-then-range c = let p = c.requires in omega (arith, leaf-sum c.args.range _ c.args.f.0 p.rights_bound, ap one-if c.if-range.true)

pub returns : goal.returns
unfolding one-if
returns c = let p = c.requires in omega (arith, leaf-sum c.args.range _ c.args.f.0 p.rights_bound, ap one-if c.if-range.false)
