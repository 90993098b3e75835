use Prim.Native.Nat.{ℕ}
use native.Mathlib.Omega.{arith}
use mathlib.Core.Bool.{Bool, true, false}
use Rattle.std.proofs.Common.{◌≡◌, rules, tests}
use Rattle.std.proofs.lemmas.Iterator.{first_from_Range, serves_from_Range}
use Rattle.blocks.specs.Inner.Around.{start_of}
use Rattle.blocks.specs.Inner.Marks.{starts_by}
use Rattle.blocks.proofs.ChoosingLaws.{wish-first}
use Rattle.splitting.proofs.choosing.Lent.order_around.Goals as goal

pub find-requires : goal.find-requires
find-requires c = record { can = tt; finite = tt; callable = serves_from_Range (λ x q k. search (rules, tests)) (λ x low high y e. (c.requires.wish_lt_pool, omega (arith, e, high))) }

pub returns : goal.returns
returns c = let around : ℕ → Bool = λ j. starts_by c.args.self.now.frames.now c.args.self.now.marks.now j (start_of j c.args.wish.0) in
    wish-first _ _ _ _ _ c.requires.wish_lt_pool c.requires.wish_value _ (first_from_Range _ _ _ _ (λ j. around j ≡ true) (λ j. around j ≡ false) c.find.ensures.ran
    (λ x q k. search (rules, tests))
    (λ x q k. search (rules, tests)))
