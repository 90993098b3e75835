use Rattle.std.proofs.Common.{sym, ◌∙◌, arith}
use borrow.Author.Tests.{not-true, not-false}
use Rattle.runs.specs.PageWords.{rights_in}
use Rattle.runs.proofs.WordLaws.{frame-lt}
use Rattle.sv39.proofs.EntryLaws.{to-zero, to_none, to-leaf}
use Rattle.sv39.proofs.to_sv39.Goals as goal

pub returns-then-word-eq0 : goal.returns-then-word-eq0
returns-then-word-eq0 c = rw c.from.ensures (sym (to-zero _ c.if-word-eq0.true))

pub returns-then-not-has_entry : goal.returns-then-not-has_entry
returns-then-not-has_entry c = sym (to_none _ (not-false _ (sym c.has_entry.ensures ∙ c.if-not-has_entry.true)))

pub leaf-entry-requires : goal.leaf-entry-requires
unfolding rights_in
leaf-entry-requires c = record { rights_bound = omega (arith, c.rights_in.ensures); f_bound = omega (arith, c.frame_in.ensures, frame-lt c.args.word) }

pub returns : goal.returns
returns c = let has = not-true _ (sym c.has_entry.ensures ∙ c.if-not-has_entry.false) in
    rw (c.from-2.ensures, c.leaf-entry.ensures, c.range_bit.ensures, c.rights_in.ensures, c.frame_in.ensures) (sym (to-leaf _ c.if-word-eq0.false has))
