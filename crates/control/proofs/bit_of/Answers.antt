use Rattle.words.proofs.PowerLaws.{shift_one}
use native.Mathlib.Omega.{arith}
use Rattle.control.proofs.MaskLaws.{bit-size}
use Rattle.control.proofs.bit_of.Goals as goal

pub returns : goal.returns
returns c = let b = bit-size c.args.s c.requires in let e = shift_one 32 c.args.s (omega arith) in record { value = e; lower_bound = omega arith; upper_bound = omega arith }
