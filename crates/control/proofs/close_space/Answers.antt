use mathlib.Core.Path.{refl}
use native.Mathlib.Omega.{arith}
use Rattle.control.specs.Control.{with_mask, with_closed}
use Rattle.control.proofs.MaskLaws.{bit_below}
use Rattle.control.proofs.close_space.Goals as goal

pub overflow_sub-control : goal.overflow_sub-control
overflow_sub-control c = omega (arith, bit_below _ _ c.requires.s_value)

pub returns : goal.returns
unfolding with_closed with_mask
returns c = rw (c.open_mask-mask.ensures, c.bit_of.ensures.value) refl
