use mathlib.Core.Path.{◌≡◌, refl, ap, ◌∙◌}
use Prim.Native.Nat.{ℕ}
use native.Mathlib.Omega.{arith}
use lib.Dec.{eqb}
use Rattle.std.proofs.lemmas.List.{get_or-take, length-take-le}
use Rattle.words.specs.Counts.{count, one-if}
use Rattle.words.proofs.CountLaws.{count-le, count-step}
use Rattle.blocks.specs.FrameWords.{owner_of, owners_of, free_of, free_in}
use Rattle.framewords.proofs.owners.count_free.Goals as goal

pub loop-w-init : goal.loop-w-init
unfolding count
loop-w-init c = refl

pub overflow_add-n : goal.overflow_add-n
overflow_add-n c = omega (arith, c.loop-w.invariant, count-le c.loop-w.w-index (free_in c.args.frames.now), c.one_if_free-n.ensures.upper_bound, length-take-le c.args.pool c.args.frames.now)

pub loop-w-preserved : goal.loop-w-preserved
unfolding free_in free_of owners_of
loop-w-preserved c =
    let lt = length-take-le c.args.pool c.args.frames.now (omega arith) in
    count-step _ _ _ _ c.loop-w.invariant (c.one_if_free-n.ensures.value ∙ ap (λ (w : ℕ). one-if (eqb (owner_of w) 0)) (get_or-take c.args.pool c.args.frames.now c.loop-w.w-index 0 (omega arith)))

pub returns : goal.returns
returns c = let e : c.loop-w.w-index ≡ c.args.pool = omega (arith, length-take-le c.args.pool c.args.frames.now) in rw (← e) c.loop-w.invariant
