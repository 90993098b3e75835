use Rattle.records.specs.Lines.{header}
use borrow.Author.Rules.{rules}
use Rattle.records.proofs.lines.heading.Goals as goal

pub returns : goal.returns
unfolding header
returns c = search rules
