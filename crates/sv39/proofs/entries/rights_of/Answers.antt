use mathlib.Core.Path.{sym}
use Rattle.sv39.proofs.LeafLaws.{rights-from}
use Rattle.sv39.proofs.entries.rights_of.Goals as goal

pub returns : goal.returns
returns c = sym (rights-from c.args.entry)
