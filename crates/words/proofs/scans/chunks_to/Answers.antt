use Rattle.std.proofs.Common.{◌≡◌, ◌+◌, ◌*◌, ◌-◌, ◌/◌, ◌≤◌, sym, ◌∙◌, arith}
use borrow.Author.Tests.{eq-eqb}
use Rattle.words.proofs.ScanLaws.{pass-none, pass-chunk, chunk-fits}
use Rattle.words.proofs.scans.chunks_to.Goals as goal

pub loop-c-init : goal.loop-c-init
loop-c-init g c = let z : c.args.from + g.row.N * 0 ≡ c.args.from = omega arith in rw z (c.requires.from_le_end, λ p told. pass-none p _ _ c.requires.from_le_end)

pub gathered-requires-clause-callable : goal.gathered-requires-clause-callable
gathered-requires-clause-callable g c = λ k lo hi.
    let fits = chunk-fits g.row.N c.loop-c.c _ c.loop-c-test.true in
    c.requires.callable k (omega arith) (omega arith)

pub loop-c-preserved : goal.loop-c-preserved
loop-c-preserved g c =
    let fits = chunk-fits g.row.N c.loop-c.c _ c.loop-c-test.true in
    let e : c.args.from + g.row.N * c.loop-c.c + g.row.N ≡ c.args.from + g.row.N * (c.loop-c.c + 1) = omega arith in
    let to : c.args.from + g.row.N * c.loop-c.c + g.row.N ≤ c.args.end = omega arith in
    rw (← e) (
      to,
      λ p told.
          let all = c.gathered.ensures p (λ k r lo hi. told k r (omega arith) (omega arith)) in
          pass-chunk p _ _ _ g.row.N (c.loop-c.invariant.1 p told) to (sym all ∙ eq-eqb _ _ c.if-gathered-ne0.false),
    )

pub returns : goal.returns
returns g c = let e : c.loop-c.c ≡ (c.args.end - c.args.from) / g.row.N = omega arith in let to = c.loop-c.invariant.0 in rw (← e) record { from_le_result = omega arith; result_le_end = to; pass_to = c.loop-c.invariant.1 }
