use Prim.Native.Nat.{◌≤◌}
use native.Mathlib.Omega.{arith}
use lib.ListN.{length}
use Rattle.records.proofs.LineLaws.{begun, goes_on, line-is}
use Rattle.records.proofs.lines.line.Goals as goal

pub returns : goal.returns
returns c = let h : c.args.at ≤ length c.args.out.now = omega (arith, c.requires) in
    let t1 = begun _ _ _ _ _ c.put-a.ensures.out_after c.put-a.ensures.value in
    let t2 = goes_on _ _ _ _ _ _ _ _ h t1 c.put-b.ensures.out_after c.put-b.ensures.value in
    let t3 = goes_on _ _ _ _ _ _ _ _ h t2 c.put-c.ensures.out_after c.put-c.ensures.value in
    let t4 = goes_on _ _ _ _ _ _ _ _ h t3 c.put-d.ensures.out_after c.put-d.ensures.value in
    let t = line-is _ _ _ _ _ _ _ (goes_on _ _ _ _ _ _ _ _ h t4 c.put.ensures.out_after c.put.ensures.value) in
    record { out_after = t.is; value = t.ends; upper_bound = omega (arith, c.put-a.ensures.upper_bound, c.put-b.ensures.upper_bound, c.put-c.ensures.upper_bound, c.put-d.ensures.upper_bound, c.put.ensures.upper_bound) }
