use mathlib.Core.Path.{refl}
use Rattle.records.specs.Input.{waiting}
use Rattle.records.proofs.Window.of.Goals as goal

pub returns : goal.returns
unfolding waiting
returns c = refl
