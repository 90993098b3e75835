use Rattle.trees.proofs.TakeLaws.{within-mid, within-last}
use Rattle.words.proofs.Cases.{by-dec}
use native.Mathlib.Omega.{arith}
use native.Mathlib.Decide.{dec_lt}
use mathlib.Core.Path.{◌≡◌, ◌∙◌}
use Prim.Native.Nat.{◌-◌}
use Rattle.treeremove.proofs.taking.place_within.Goals as goal

pub returns : goal.returns
returns c =
    let p = c.requires in let e = c.min.ensures in
    by-dec (dec_lt c.args.i c.args.count)
    (λ l. (let m : c.min.result ≡ c.args.i = omega arith in m ∙ within-mid c.args.count c.args.i l, omega arith))
    (λ l. (let m : c.min.result ≡ c.args.count - 1 = omega arith in m ∙ within-last c.args.count c.args.i (omega arith), omega arith))
