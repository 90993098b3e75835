use mathlib.Core.Path.{◌∙◌, sym}
use native.Mathlib.Omega.{arith}
use Rattle.blocks.proofs.ChoosingLaws.{some-cut}
use Rattle.blocks.proofs.MarkLaws.{block-ahead, cut-facts, block-cut}
use Rattle.splitting.proofs.marking.mark_block.Goals as goal

pub returns-then-mark_at-ne0 : goal.returns-then-mark_at-ne0
returns-then-mark_at-ne0 c = block-ahead _ _ _ _ _ _ _ (λ z. c.if-mark_at-ne0.true (c.mark_at.ensures ∙ z)) c.requires.le_left c.order_within-order.ensures

pub unwrap-cut-requires : goal.unwrap-cut-requires
unwrap-cut-requires c = let p = c.requires.previewed in
    some-cut _ _ _ _ _ _ _ c.choose.ensures p.words (p.marking.stands (sym c.mark_at.ensures ∙ c.if-mark_at-ne0.false)) p.searched c.requires.le_left p.enough

pub mark_cut-requires : goal.mark_cut-requires
mark_cut-requires c = let it = cut-facts _ _ _ _ _ _ _ (sym c.mark_at.ensures ∙ c.if-mark_at-ne0.false) c.requires.previewed (rw c.unwrap-cut.ensures at c.choose.ensures) in
    record { marks_len = c.requires.marks_len; order_le_top = it.0; start_lt_largest_pool = it.1.0; start_value = it.1.1 }

pub chosen_by-requires : goal.chosen_by-requires
chosen_by-requires c = let it = cut-facts _ _ _ _ _ _ _ (sym c.mark_at.ensures ∙ c.if-mark_at-ne0.false) c.requires.previewed (rw c.unwrap-cut.ensures at c.choose.ensures) in
    omega (arith, it.1.0)

pub returns : goal.returns
returns c = block-cut _ _ _ _ _ _ _ _ (sym c.mark_at.ensures ∙ c.if-mark_at-ne0.false) (rw c.unwrap-cut.ensures at c.choose.ensures) c.mark_cut.ensures _ c.chosen_by.ensures.block_value c.chosen_by.ensures.known_value
