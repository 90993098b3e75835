use mathlib.Core.Path.{ap, sym, ◌∙◌}
use mathlib.Core.Bool.{not}
use native.Mathlib.Omega.{arith}
use lib.Pow.{pow_pos}
use Rattle.blocks.specs.Inner.Around.{start_of}
use Rattle.blocks.proofs.AroundLaws.{order-size, start-start}
use Rattle.blocks.proofs.WordLaws.{lawful-is}
use Rattle.blocks.proofs.SearchedLaws.{tried-small}
use Rattle.blocks.proofs.ChoosingLaws.{starts-if, starts-gone, none_tried, scan-starts, scan-goes-on, start-after, scan-passes, word-chosen, order-skipped, none-chosen}
use Rattle.splitting.proofs.choosing.Lent.search.Goals as goal

pub loop-t-init : goal.loop-t-init
loop-t-init c = none_tried _ _ _ _ _ _

pub start_of-from-requires : goal.start_of-from-requires
start_of-from-requires c = tried-small _ _ _ _ c.requires.limit_le_largest_order c.order_at-k.ensures

pub loop-f-init : goal.loop-f-init
loop-f-init c = let e = c.start_of-from.ensures in (ap (start_of _) e ∙ start-start _ _ ∙ sym e, scan-starts _ _ _ _ _ _ _ c.scan_from.ensures e)

pub next_first-requires : goal.next_first-requires
next_first-requires c = record { k_le_largest_order = tried-small _ _ _ _ c.requires.limit_le_largest_order c.order_at-k.ensures; from_value = c.loop-f.invariant.0 }

pub size_of-requires : goal.size_of-requires
size_of-requires c = tried-small _ _ _ _ c.requires.limit_le_largest_order c.order_at-k.ensures

pub overflow_add-from : goal.overflow_add-from
overflow_add-from c = let z = order-size _ (tried-small _ _ _ _ c.requires.limit_le_largest_order c.order_at-k.ensures) in
    omega (arith, z, (lawful-is _ _ c.args.self.now.sound).small, c.in-Some.ensures.there, c.size_of.ensures)

pub loop-f-smaller : goal.loop-f-smaller
loop-f-smaller c = omega (arith, c.in-Some.ensures.there, c.size_of.ensures, pow_pos c.order_at-k.result)

pub loop-f-preserved : goal.loop-f-preserved
loop-f-preserved c = let hk = tried-small _ _ _ _ c.requires.limit_le_largest_order c.order_at-k.ensures in
    let there = c.in-Some.ensures.there in
    let gone = sym c.is_gone.ensures ∙ c.if-not-is_gone.false in
    (start-after _ _ _ c.size_of.ensures there.2.starts, scan-goes-on _ _ _ _ _ _ _ hk c.size_of.ensures (scan-passes _ _ _ _ _ _ _ hk there.2 c.loop-f.invariant.1) there.0 (starts-gone _ _ _ _ gone))

pub loop-t-preserved : goal.loop-t-preserved
loop-t-preserved c = let hk = tried-small _ _ _ _ c.requires.limit_le_largest_order c.order_at-k.ensures in
    let past = c.in_default.ensures.not_there in
    order-skipped _ _ _ _ _ _ c.loop-t.invariant _ _ c.order_at-k.ensures (scan-passes _ _ _ _ _ _ _ hk past.2 c.loop-f.invariant.1) past.1

pub returns-then-not-is_gone : goal.returns-then-not-is_gone
returns-then-not-is_gone c = let ke = c.order_at-k.ensures in
    let hk = tried-small _ _ _ _ c.requires.limit_le_largest_order ke in
    let there = c.in-Some.ensures.there in
    let starts = sym (starts-if _ _ _ _ there.1) ∙ ap not (sym c.is_gone.ensures ∙ c.if-not-is_gone.true) in
    word-chosen _ _ _ _ _ _ c.loop-t.invariant _ _ _ _ (omega arith) hk ke c.min.ensures (scan-passes _ _ _ _ _ _ _ hk there.2 c.loop-f.invariant.1) there.0 starts (c.cut_at.ensures.block_value, c.cut_at.ensures.top_value)

pub returns-after-loop-t : goal.returns-after-loop-t
returns-after-loop-t c = none-chosen _ _ _ _ _ _ c.loop-t.invariant (omega arith)
