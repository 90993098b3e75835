use mathlib.Core.Path.{sym, ◌∙◌}
use Rattle.trees.proofs.CallLaws.{wrong-length, unlawful, fine}
use Rattle.rangetree.proofs.judging.judge_buffer.Goals as goal

pub returns-then-tree-ne-TREE_WORDS : goal.returns-then-tree-ne-TREE_WORDS
returns-then-tree-ne-TREE_WORDS c = wrong-length _ c.if-tree-ne-TREE_WORDS.true

pub returns-then-not-lawful : goal.returns-then-not-lawful
returns-then-not-lawful c = unlawful _ c.if-tree-ne-TREE_WORDS.false (sym c.lawful.ensures ∙ c.if-not-lawful.true)

pub returns : goal.returns
returns c = fine _ c.if-tree-ne-TREE_WORDS.false (sym c.lawful.ensures ∙ c.if-not-lawful.false)
