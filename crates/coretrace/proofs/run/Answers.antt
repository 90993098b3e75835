use borrow.Author.Tests.{not-true, not-false}
use mathlib.Core.Path.{refl}
use native.Mathlib.Omega.{arith}
use borrow.Author.Rules.{rules}
use Rattle.coretrace.proofs.RunLaws.{starts, runs-out, stops-there, turned, with-units}
use Rattle.coretrace.proofs.run.Goals as goal

pub loop-s-init : goal.loop-s-init
loop-s-init g c = (refl, (refl, (refl, (refl, (refl, starts _ _ _ _ c.fresh_units-units.ensures)))))

pub ahead-s-requires : goal.ahead-s-requires
ahead-s-requires g c = let l = c.loop-s in
    record { lies = l.invariant.1.1.1.1.1.lies; number_lt_last = c.loop-s-test.true }

pub step-s-requires : goal.step-s-requires
step-s-requires g c = c.ahead-s.ensures.ready

pub loop-s-smaller : goal.loop-s-smaller
loop-s-smaller g c = let t = c.loop-s-test.true in omega (arith, c.step-s.ensures.turned.number, c.ahead-s.ensures.number_value, t)

pub loop-s-preserved : goal.loop-s-preserved
loop-s-preserved g c = let l = c.loop-s in
    let ah = c.ahead-s in
    let st = c.step-s in
    (omega (arith, l, st), (omega (arith, l, st), (omega (arith, l, st), (omega (arith, l, st), (omega (arith, l, st), with-units _ _ _ _ _ _ _ (turned _ _ _ _ _ _ _ _ _ _ _ _ l.invariant.1.1.1.1.1 ah.ensures.ready ah.ensures.number_value ah.ensures.held_value st.ensures.turned st.ensures.lies (omega (arith, st)) (not-false _ c.if-not-s.false)) (search rules))))))

pub returns-after-loop-s : goal.returns-after-loop-s
returns-after-loop-s g c = let l = c.loop-s in
    record { upper_bound = omega (arith, l, l.invariant.1.1.1.1.1.lies.held); ran = runs-out _ _ _ _ _ _ l.invariant.1.1.1.1.1 c.loop-s-test.false }

pub shape_of-control-then-not-s : goal.shape_of-control-then-not-s
shape_of-control-then-not-s g c = omega (arith, c.loop-s, c.step-s)

pub shape_of-frames-then-not-s : goal.shape_of-frames-then-not-s
shape_of-frames-then-not-s g c = omega (arith, c.loop-s, c.step-s)

pub shape_of-pages-then-not-s : goal.shape_of-pages-then-not-s
shape_of-pages-then-not-s g c = omega (arith, c.loop-s, c.step-s)

pub shape_of-ranges-then-not-s : goal.shape_of-ranges-then-not-s
shape_of-ranges-then-not-s g c = omega (arith, c.loop-s, c.step-s)

pub returns-then-not-s : goal.returns-then-not-s
returns-then-not-s g c = let l = c.loop-s in
    let ah = c.ahead-s in
    let st = c.step-s in
    record { upper_bound = omega (arith, l, st.ensures.lies.held); ran = stops-there _ _ _ _ _ _ _ _ _ _ _ _ l.invariant.1.1.1.1.1 ah.ensures.ready ah.ensures.number_value ah.ensures.held_value st.ensures.turned (not-true _ c.if-not-s.true) }
