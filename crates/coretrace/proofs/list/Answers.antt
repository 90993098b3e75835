use Rattle.layout.specs.Tables.{zeroed}
use Rattle.coretrace.proofs.RunLaws.{with-header}
use borrow.Author.Rules.{rules}
use Rattle.coretrace.proofs.list.Goals as goal

pub returns : goal.returns
unfolding zeroed
returns g c = search (rules, with-header)
