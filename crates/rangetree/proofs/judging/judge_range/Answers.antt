use mathlib.Core.Path.{sym, ◌∙◌}
use borrow.Author.Tests.{not-true, not-false}
use Rattle.trees.proofs.CallLaws.{rights-too-high, rights-reserved, range-misplaced, range-overlaps, range-fine}
use Rattle.rangetree.proofs.judging.judge_range.Goals as goal

pub returns-then-reserved_rights : goal.returns-then-reserved_rights
returns-then-reserved_rights c = rights-reserved _ _ (sym c.reserved_rights.ensures ∙ c.if-reserved_rights.true)

pub returns-then-not-allowed_rights : goal.returns-then-not-allowed_rights
returns-then-not-allowed_rights c = rights-too-high _ _ (sym c.allowed_rights.ensures ∙ c.if-not-allowed_rights.true) (sym c.reserved_rights.ensures ∙ c.if-reserved_rights.false)

pub returns-then-not-well_placed : goal.returns-then-not-well_placed
returns-then-not-well_placed c = range-misplaced _ _ (sym c.allowed_rights.ensures ∙ c.if-not-allowed_rights.false) (not-false _ (sym c.well_placed.ensures ∙ c.if-not-well_placed.true))

pub overlaps_held-requires : goal.overlaps_held-requires
overlaps_held-requires c = record { tree_len = c.requires.tree_len; lawful_tree = (c.requires.lawful_tree, not-true _ (sym c.well_placed.ensures ∙ c.if-not-well_placed.false)) }

pub returns-then-overlaps_held : goal.returns-then-overlaps_held
returns-then-overlaps_held c = range-overlaps _ _ (sym c.allowed_rights.ensures ∙ c.if-not-allowed_rights.false) (not-true _ (sym c.well_placed.ensures ∙ c.if-not-well_placed.false)) (sym c.overlaps_held.ensures ∙ c.if-overlaps_held.true)

pub returns : goal.returns
returns c = range-fine _ _ (sym c.allowed_rights.ensures ∙ c.if-not-allowed_rights.false) (not-true _ (sym c.well_placed.ensures ∙ c.if-not-well_placed.false)) (sym c.overlaps_held.ensures ∙ c.if-overlaps_held.false)
