use mathlib.Core.Path.{◌∙◌, sym}
use Rattle.trees.specs.Ranges.{proper}
use Rattle.treecheck.proofs.checking.proper_range.Goals as goal

pub returns-then-allowed_rights : goal.returns-then-allowed_rights
unfolding proper
returns-then-allowed_rights c = let e = sym c.allowed_rights.ensures ∙ c.if-allowed_rights.true in c.well_placed.ensures ∙ rw e

pub returns-else-allowed_rights : goal.returns-else-allowed_rights
unfolding proper
returns-else-allowed_rights c = let e = sym c.allowed_rights.ensures ∙ c.if-allowed_rights.false in c.if-allowed_rights.false ∙ rw e
