use mathlib.Core.Path.{sym, ◌∙◌}
use Prim.Native.Nat.{◌+◌}
use native.Mathlib.Omega.{arith}
use lib.ListN.{length-set}
use Rattle.blocks.proofs.WordLaws.{is_free}
use Rattle.blocks.proofs.SettleLaws.{held-step, level-fits, free-step-by}
use Rattle.merging.proofs.settling.settle_at.Goals as goal

pub returns-then-owner_of-ne0 : goal.returns-then-owner_of-ne0
returns-then-owner_of-ne0 c = held-step _ _ _ c.requires.f_lt_pool c.requires.edge (λ e. c.if-owner_of-ne0.true (c.owner_of.ensures ∙ e))

pub grow-k-requires : goal.grow-k-requires
grow-k-requires c = record { frames_len = c.requires.frames_len; pool_le_largest_pool = c.requires.pool_le_largest_pool; f_lt_pool = c.requires.f_lt_pool; f_value = is_free _ _ (sym c.owner_of.ensures ∙ c.if-owner_of-ne0.false); edge = c.requires.edge }

pub size_of-requires : goal.size_of-requires
size_of-requires c = let w = level-fits _ _ _ c.requires.f_lt_pool c.requires.edge _ (is_free _ _ (sym c.owner_of.ensures ∙ c.if-owner_of-ne0.false)) c.grow-k.ensures in w.1

pub overflow_add-end : goal.overflow_add-end
overflow_add-end c = let w = level-fits _ _ _ c.requires.f_lt_pool c.requires.edge _ (is_free _ _ (sym c.owner_of.ensures ∙ c.if-owner_of-ne0.false)) c.grow-k.ensures in omega (arith, w.0)

pub overflow_add-frames : goal.overflow_add-frames
overflow_add-frames c = let w = level-fits _ _ _ c.requires.f_lt_pool c.requires.edge _ (is_free _ _ (sym c.owner_of.ensures ∙ c.if-owner_of-ne0.false)) c.grow-k.ensures in omega (arith, w.1)

pub overflow_cast-end : goal.overflow_cast-end
overflow_cast-end c = let w = level-fits _ _ _ c.requires.f_lt_pool c.requires.edge _ (is_free _ _ (sym c.owner_of.ensures ∙ c.if-owner_of-ne0.false)) c.grow-k.ensures in omega (arith, w.0)

pub fill-requires : goal.fill-requires
fill-requires c = let w = level-fits _ _ _ c.requires.f_lt_pool c.requires.edge _ (is_free _ _ (sym c.owner_of.ensures ∙ c.if-owner_of-ne0.false)) c.grow-k.ensures in
    record { end_in_bounds = simp length-set (omega (arith, w.0)); from_le_end = omega (arith, w.2) }

pub shape_of-frames : goal.shape_of-frames
shape_of-frames c = c.fill.auto.words ∙ length-set c.args.frames.now c.args.f.0 (16384 + c.grow-k.result)

pub returns : goal.returns
returns c = free-step-by _ _ _ c.requires.f_lt_pool c.requires.edge _ _ _ c.size_of.ensures (omega arith) (is_free _ _ (sym c.owner_of.ensures ∙ c.if-owner_of-ne0.false)) c.grow-k.ensures c.fill.ensures
