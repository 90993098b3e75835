use native.Mathlib.Omega.{arith}
use Rattle.blocks.proofs.SearchedLaws.{top-is, top-low}
use Rattle.blocks.proofs.ChoosingLaws.{top-chosen, low-chosen, old-low, old-top, old-none}
use Rattle.splitting.proofs.choosing.Lent.choose.Goals as goal

pub wished-requires : goal.wished-requires
wished-requires c = omega (arith, top-low _ _ _ c.requires.le_left c.top_order-top.ensures, c.requires.limit_le_largest_order)

pub returns-in-Some : goal.returns-in-Some
returns-in-Some c = let q = top-is _ _ _ c.requires.le_left c.top_order-top.ensures in
    top-chosen _ _ _ _ _ _ _ _ q.1 q.2 _ _ c.in-Some.ensures (c.cut_at.ensures.block_value, c.cut_at.ensures.top_value)

pub search-requires-clause-top_le_limit : goal.search-requires-clause-top_le_limit
search-requires-clause-top_le_limit c = top-low _ _ _ c.requires.le_left c.top_order-top.ensures

pub returns-in_err-old : goal.returns-in_err-old
returns-in_err-old c = let q = top-is _ _ _ c.requires.le_left c.top_order-top.ensures in
    rw c.from_residual.ensures (old-none _ _ _ _ _ _ _ _ q.1 q.2 c.requires.le_left c.in_err-old.ensures)

pub wished-requires-then-order-top : goal.wished-requires-then-order-top
wished-requires-then-order-top c = omega (arith, top-low _ _ _ c.requires.le_left c.top_order-top.ensures, c.requires.limit_le_largest_order)

pub returns-in-Some-wished : goal.returns-in-Some-wished
returns-in-Some-wished c = let q = top-is _ _ _ c.requires.le_left c.top_order-top.ensures in
    low-chosen _ _ _ _ _ _ _ _ q.1 q.2 _ c.in_ok-old.ensures _ _ c.in-Some-wished.ensures (c.cut_at-in-Some-wished.ensures.block_value, c.cut_at-in-Some-wished.ensures.top_value)

pub returns-in_default-wished : goal.returns-in_default-wished
returns-in_default-wished c = let q = top-is _ _ _ c.requires.le_left c.top_order-top.ensures in
    old-low _ _ _ _ _ _ _ _ q.1 q.2 _ c.in_ok-old.ensures c.in_default-wished.ensures

pub returns-else-order-top : goal.returns-else-order-top
returns-else-order-top c = let q = top-is _ _ _ c.requires.le_left c.top_order-top.ensures in
    old-top _ _ _ _ _ _ _ _ q.1 q.2 _ c.in_ok-old.ensures c.in_default.ensures c.if-order-top.false
