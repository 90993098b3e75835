use mathlib.Core.Path.{◌∙◌, sym}
use native.Mathlib.Omega.{arith}
use Rattle.blocks.proofs.WordLaws.{lawful-is}
use Rattle.blocks.proofs.ChoosingLaws.{wish-past, wish-held, wish-small, wish-off}
use Rattle.splitting.proofs.choosing.Lent.wished.Goals as goal

pub returns-then-self-at : goal.returns-then-self-at
returns-then-self-at c = wish-past _ _ _ _ _ c.if-self-at.true

pub bounds-self-at : goal.bounds-self-at
bounds-self-at c = let l = lawful-is _ _ c.args.self.now.sound in omega (arith, l.small, l.len)

pub returns-then-word-le-LARGEST_OWNER : goal.returns-then-word-le-LARGEST_OWNER
returns-then-word-le-LARGEST_OWNER c = wish-held _ _ _ _ _ c.args.self.now.sound c.if-word-le-LARGEST_OWNER.true

pub returns-then-word-k : goal.returns-then-word-k
returns-then-word-k c = wish-small _ _ _ _ _ c.args.self.now.sound c.if-word-ge-FREE_FIRST.true c.if-word-k.true

pub returns-then-start-at : goal.returns-then-start-at
returns-then-start-at c = wish-off _ _ _ _ _ (λ e. c.if-start-at.true (c.start_of-start.ensures ∙ e))

pub order_around-requires : goal.order_around-requires
order_around-requires c = record { wish_lt_pool = omega arith; wish_value = sym c.start_of-start.ensures ∙ c.if-start-at.false; k_le_largest_order = c.requires }
