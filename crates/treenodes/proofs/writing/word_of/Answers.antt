use Rattle.trees.proofs.CheckLaws.{kids-le}
use Rattle.trees.proofs.NodeLaws.{byte-leaf, row_count, row-flag, row-no-range, row-range, row-no-child, row-child}
use native.Mathlib.Omega.{arith}
use mathlib.Core.Path.{◌∙◌}
use borrow.Author.Rules.{rules}
use Rattle.treenodes.proofs.writing.word_of.Goals as goal

pub returns-then-j-eq0 : goal.returns-then-j-eq0
returns-then-j-eq0 c = row_count _ _ _ _ _ c.if-j-eq0.true

pub returns-then-j-eq1 : goal.returns-then-j-eq1
returns-then-j-eq1 c = c.from.ensures ∙ byte-leaf _ ∙ row-flag _ _ _ _ _ c.if-j-eq1.true

pub returns-then-k-i : goal.returns-then-k-i
returns-then-k-i c = row-no-range _ _ _ _ _ (omega arith) (omega arith) (omega arith)

pub returns-then-j-lt18 : goal.returns-then-j-lt18
returns-then-j-lt18 c = c.field.ensures ∙ row-range _ _ _ _ _ (omega arith) (omega arith) (omega arith)

pub returns-then-c-i : goal.returns-then-c-i
returns-then-c-i c = let e = c.kid_count-c.ensures in row-no-child _ _ _ _ _ (omega arith) (omega arith) (omega arith)

pub bounds-line-from-2 : goal.bounds-line-from-2
bounds-line-from-2 c = let e = c.kid_count-c.ensures in let k = kids-le c.args.leaf c.args.k in search rules

pub returns : goal.returns
returns c = let e = c.kid_count-c.ensures in row-child _ _ _ _ _ (omega arith) (omega arith) (omega arith)
