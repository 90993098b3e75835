use Rattle.sv39.proofs.EntryLaws.{flags-test}
use Rattle.sv39.proofs.entries.wrong_flags.Goals as goal

pub returns : goal.returns
returns c = rw (c.has_bit.ensures, c.has_bit-2.ensures, c.has_bit-3.ensures, c.has_bit-4.ensures, c.has_bit-5.ensures, c.has_bit-6.ensures) (flags-test c.args.entry)
