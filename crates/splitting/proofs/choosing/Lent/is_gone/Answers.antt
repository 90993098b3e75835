use mathlib.Core.Path.{refl}
use Rattle.words.specs.Bits.{has_bit}
use Rattle.blocks.specs.Inner.Marks.{gone_at}
use Rattle.splitting.proofs.choosing.Lent.is_gone.Goals as goal

pub returns : goal.returns
unfolding gone_at has_bit
returns c = rw c.mark_at-word.ensures refl
