use Rattle.std.proofs.Common.{sym, ◌∙◌, ap, not}
use Rattle.runs.proofs.CheckLaws.{says-no, says-yes, word_none, word-wrong, word_on, word-new}
use Rattle.ranges.proofs.lawful.word_fits.Goals as goal

pub returns-then-not-mapped : goal.returns-then-not-mapped
returns-then-not-mapped c = word_none _ _ _ (sym c.mapped.ensures ∙ c.if-not-mapped.true)

pub returns-then-not-on : goal.returns-then-not-on
returns-then-not-on c = says-yes _ (ap not c.if-not-on.true)
    (word-new _ _ _ _ (sym c.mapped.ensures ∙ c.if-not-mapped.false) c.rights_in.ensures (sym c.allowed_rights.ensures ∙ c.if-allowed_rights.true) c.if-not-on.true)

pub returns-else-not-on : goal.returns-else-not-on
returns-else-not-on c = word_on _ _ _ _ _ _ (sym c.mapped.ensures ∙ c.if-not-mapped.false)
    c.rights_in.ensures
    (sym c.allowed_rights.ensures ∙ c.if-allowed_rights.true)
    c.if-not-on.false
    c.range_bit.ensures
    c.range_bit-else-not-on.ensures

pub returns-else-allowed_rights : goal.returns-else-allowed_rights
returns-else-allowed_rights c = says-no _ c.if-allowed_rights.false
    (word-wrong _ _ _ _ (sym c.mapped.ensures ∙ c.if-not-mapped.false) c.rights_in.ensures (sym c.allowed_rights.ensures ∙ c.if-allowed_rights.false))
