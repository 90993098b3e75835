use Rattle.std.proofs.Common.{sym, ◌∙◌, arith}
use borrow.Author.Tests.{not-true, not-false}
use Rattle.sv39.proofs.EntryLaws.{from_zero, from-none, from-leaf, entry-says, entry_lt, entry-rights}
use Rattle.sv39.proofs.from_sv39.Goals as goal

pub returns-then-entry-eq0 : goal.returns-then-entry-eq0
returns-then-entry-eq0 c = rw c.from.ensures (sym (from_zero _ c.if-entry-eq0.true))

pub returns-then-not-has_word : goal.returns-then-not-has_word
returns-then-not-has_word c = sym (from-none _ (not-false _ (sym c.has_word.ensures ∙ c.if-not-has_word.true)))

pub frame_of-requires : goal.frame_of-requires
frame_of-requires c = let l = entry-says c.args.entry c.if-entry-eq0.false (not-true _ (sym c.has_word.ensures ∙ c.if-not-has_word.false)) in
    omega (arith, entry_lt c.args.entry (omega (arith, c.ranges.entry)) l)

pub page_word-word-requires : goal.page_word-word-requires
page_word-word-requires c = let l = entry-says c.args.entry c.if-entry-eq0.false (not-true _ (sym c.has_word.ensures ∙ c.if-not-has_word.false)) in
    record { rights_value = rw c.rights_of.ensures (entry-rights c.args.entry l); f_bound = omega (arith, c.frame_of.ensures, l.fits) }

pub returns : goal.returns
returns c = let has = not-true _ (sym c.has_word.ensures ∙ c.if-not-has_word.false) in
    rw (c.from-2.ensures, c.page_word-word.ensures, c.in_range.ensures, c.rights_of.ensures, c.frame_of.ensures) (sym (from-leaf _ c.if-entry-eq0.false has))
