use native.Mathlib.Omega.{arith}
use Rattle.records.proofs.InputLaws.{no-head, part_of, stands, within}
use Rattle.records.proofs.input.standing.Goals as goal

pub returns-then-bytes-lt2 : goal.returns-then-bytes-lt2
returns-then-bytes-lt2 c = record { value = no-head _ c.if-bytes-lt2.true; upper_bound = within _; bytes_len_bound = λ z. omega arith }

pub returns-then-bytes-n : goal.returns-then-bytes-n
returns-then-bytes-n c = record { value = part_of _ (omega arith) (omega arith); upper_bound = within _; bytes_len_bound = λ z. omega arith }

pub returns : goal.returns
returns c = let s = stands c.args.bytes.now (omega arith) (omega arith) in
    record { value = (omega arith, omega arith); upper_bound = within _; bytes_len_bound = λ z. omega arith }
