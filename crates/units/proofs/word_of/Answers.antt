use mathlib.Core.Path.{sym}
use native.Mathlib.Omega.{arith}
use Rattle.layout.proofs.Published.{page-place}
use Rattle.units.proofs.word_of.Goals as goal

pub returns : goal.returns
returns c = sym (page-place c.args.pages.now (omega arith) c.args.space c.args.p.0 (omega arith) (omega arith))
