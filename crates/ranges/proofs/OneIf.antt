-- A test as a number.
use Rattle.std.proofs.Common.{◌≡◌, Bool, true, false, refl}
use Rattle.std.specs.Int.{from_bool}
use Rattle.words.specs.Counts.{one-if}

pub from-one-if : (b : Bool) → from_bool b ≡ one-if b
unfolding one-if
from-one-if true = refl
from-one-if false = refl
