use Rattle.std.proofs.Common.{ℕ, sym, arith, length-take-le}
use Rattle.control.proofs.ControlLaws.{fresh-front}
use Rattle.control.proofs.fresh_control.Goals as goal

pub slice_bounds-fill-end-2 : goal.slice_bounds-fill-end-2
slice_bounds-fill-end-2 c = sym (length-take-le {A = ℕ} _ _ (omega arith))

pub returns : goal.returns
returns c = fresh-front _ c.args.control.now c.fill.new.self c.requires (c.fill.ensures.after (λ y e. e))
