use Rattle.trees.proofs.NodeLaws.{none_free, first-free}
use native.Mathlib.Omega.{arith}
use mathlib.Core.Path.{sym, ◌∙◌}
use Rattle.treenodes.proofs.writing.unused.Goals as goal

pub returns-then-count_at-eq0 : goal.returns-then-count_at-eq0
returns-then-count_at-eq0 c = let z = sym c.count_at.ensures ∙ c.if-count_at-eq0.true in
    (omega arith, (z, (c.loop-n.invariant, first-free _ _ (omega arith) z c.loop-n.invariant)))

pub returns : goal.returns
returns c = let e = none_free c.args.tree.now (λ m h. c.loop-n.invariant m (omega arith)) in let r = c.requires.bound in absurd (omega arith)
