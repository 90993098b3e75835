use Rattle.std.proofs.Common.{◌≡◌, ◌+◌, slice_index, rules, bit_or, bit_xor, arith}
use Rattle.words.specs.Inner.{counts_beside}
use Rattle.words.proofs.ScanLaws.{beside-test, pass_on, pass-further}
use Rattle.words.proofs.scans.counts_beside.Goals as goal

pub returns-then-near-lt8 : goal.returns-then-near-lt8
returns-then-near-lt8 c =
    let near = c.words_to-near.ensures.first_other (counts_beside c.args.a.now c.args.i c.args.v c.args.b.now c.args.j c.args.u) (λ k r lo hi differs.
    let e : r ≡ bit_or (bit_xor (slice_index c.args.a.now (c.args.i + k)) (c.args.v + k)) (bit_xor (slice_index c.args.b.now (c.args.j + k)) (c.args.u + k)) = search rules in
    rw e (beside-test _ _ _ _ _ _ k)) in
    pass-further _ _ _ _ _ near.passed (omega (arith, c.min-short.ensures))

pub returns : goal.returns
returns c =
    let passes = counts_beside c.args.a.now c.args.i c.args.v c.args.b.now c.args.j c.args.u in
    let near = c.words_to-near.ensures.first_other passes (λ k r lo hi differs.
    let e : r ≡ bit_or (bit_xor (slice_index c.args.a.now (c.args.i + k)) (c.args.v + k)) (bit_xor (slice_index c.args.b.now (c.args.j + k)) (c.args.u + k)) = search rules in
    rw e (beside-test _ _ _ _ _ _ k)) in
    let far = c.chunks_to-far.ensures.pass_to passes (λ k r lo hi differs.
    let e : r ≡ bit_or (bit_xor (slice_index c.args.a.now (c.args.i + k)) (c.args.v + k)) (bit_xor (slice_index c.args.b.now (c.args.j + k)) (c.args.u + k)) = search rules in
    rw e (beside-test _ _ _ _ _ _ k)) in
    let rest = c.words_to.ensures.first_other passes (λ k r lo hi differs.
    let e : r ≡ bit_or (bit_xor (slice_index c.args.a.now (c.args.i + k)) (c.args.v + k)) (bit_xor (slice_index c.args.b.now (c.args.j + k)) (c.args.u + k)) = search rules in
    rw e (beside-test _ _ _ _ _ _ k)) in
    pass_on _ _ _ _ _ (pass_on _ _ _ _ _ (pass-further _ _ _ _ _ near.passed (omega (arith, c.min-short.ensures))) far) rest.passed
