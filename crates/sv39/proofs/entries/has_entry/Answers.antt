use Rattle.sv39.proofs.EntryLaws.{entry-test}
use Rattle.sv39.proofs.entries.has_entry.Goals as goal

pub returns : goal.returns
returns c = rw (c.mapped.ensures, c.allowed_rights.ensures, c.rights_in-rights.ensures) (entry-test c.args.word c.requires)
