use Rattle.sv39.proofs.EntryLaws.{word-test}
use Rattle.sv39.proofs.entries.has_word.Goals as goal

pub returns : goal.returns
returns c = rw (c.wrong_flags.ensures, c.allowed_rights.ensures, c.rights_of-given.ensures) (word-test c.args.entry c.requires c.ranges.entry.fits)
