use native.Mathlib.Omega.{arith}
use Rattle.records.proofs.LineLaws.{twenty, pasted, put_is, put-ends}
use Rattle.records.proofs.lines.put.Goals as goal

pub returns : goal.returns
returns c =
    let d = c.decimal-k.ensures in
    let k = twenty _ _ d.len (omega arith) in
    let copied = pasted c.args.out.now _ _ c.args.at _ c.copy_from_slice.ensures.after in
    record { out_after = put_is _ _ _ _ _ _ _ d.len k copied d.digits (omega arith) d.in_bounds.0; value = put-ends _ _ _ _ _ _ _ d.len k copied d.digits (omega arith) d.in_bounds.0; upper_bound = omega arith }
