use mathlib.Core.Path.{ap, ◌∙◌}
use native.Mathlib.Omega.{arith}
use Rattle.std.proofs.lemmas.List.{get_or-take, length-take-le}
use Rattle.blocks.specs.FrameWords.{owner_of}
use Rattle.blocks.proofs.FreeLaws.{marks-none, marks-turn}
use Rattle.framewords.proofs.owners.mark_held.Goals as goal

pub loop-w-init : goal.loop-w-init
loop-w-init c = marks-none _ _ _ _ c.requires.unmarked

pub loop-w-preserved : goal.loop-w-preserved
loop-w-preserved c =
    let lt = length-take-le c.args.pool c.args.frames.now (omega arith) in
    marks-turn _ _ _ _ _ _ _ c.loop-w.invariant (c.owner_of.ensures ∙ ap owner_of (get_or-take c.args.pool c.args.frames.now c.loop-w.w-index 0 (omega arith))) c.mark_one.ensures
