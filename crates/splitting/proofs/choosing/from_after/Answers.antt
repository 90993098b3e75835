use mathlib.Core.Path.{◌∙◌, ap}
use Prim.Native.Nat.{ℕ, ◌+◌}
use Rattle.blocks.specs.Blocks.{block}
use Rattle.blocks.proofs.SearchedLaws.{from-met, from_old}
use Rattle.splitting.proofs.choosing.from_after.Goals as goal

pub returns-then-start-wish : goal.returns-then-start-wish
returns-then-start-wish c = c.scan_from.ensures ∙ from-met _ (block _ _) _ c.if-start-wish.true

pub returns : goal.returns
returns c = ap (λ (size : ℕ). c.args.start.0 + size) c.size_of.ensures ∙ from_old _ (block _ _) _ c.if-start-wish.false
