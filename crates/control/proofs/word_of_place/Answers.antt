use borrow.Author.Rules.{rules}
use Rattle.control.specs.Control.{word_of_place}
use Rattle.control.proofs.word_of_place.Goals as goal

pub returns : goal.returns
unfolding word_of_place
returns c = search rules
