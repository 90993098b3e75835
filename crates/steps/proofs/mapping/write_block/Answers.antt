use mathlib.Core.Path.{◌≡◌}
use Prim.Native.Nat.{◌^◌}
use native.Mathlib.Omega.{arith}
use Rattle.blocks.proofs.Published.{block-frames}
use Rattle.steps.proofs.StepLaws.{change-none, change-more, all-mapped, next-mapped}
use Rattle.steps.proofs.mapping.write_block.Goals as goal

pub loop-k-init : goal.loop-k-init
loop-k-init c = change-none _ _ _

pub loop-k-preserved : goal.loop-k-preserved
loop-k-preserved c = change-more _ _ _ _ _ _ (omega arith) c.loop-k.invariant (next-mapped _ _ _ _ _ _ c.page_word.ensures)

pub returns : goal.returns
returns c = let e : c.loop-k.k ≡ 2 ^ c.args.b.order = omega (arith, c.size_of-size.ensures) in
    all-mapped _ _ _ _ _ _ _ (block-frames _) (rw e at c.loop-k.invariant)
