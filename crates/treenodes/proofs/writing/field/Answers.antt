use Rattle.trees.proofs.NodeLaws.{field-0, field-1, field-2, field-3}
use borrow.Author.Rules.{rules}
use Rattle.treenodes.proofs.writing.field.Goals as goal

pub returns-in-0 : goal.returns-in-0
returns-in-0 c = field-0 _ _ c.in-0.is

pub returns-in-1 : goal.returns-in-1
returns-in-1 c = field-1 _ _ c.in-1.is

pub returns-in-2 : goal.returns-in-2
returns-in-2 c = field-2 _ _ c.in-2.is

pub returns-in_default : goal.returns-in_default
returns-in_default c = field-3 _ _ (search rules) (search rules) (search rules)
