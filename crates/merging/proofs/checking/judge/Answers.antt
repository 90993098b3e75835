use mathlib.Core.Path.{◌≡◌, refl, ap, ◌∙◌}
use native.Mathlib.Omega.{arith}
use mathlib.Core.Bool.{Bool, true, false}
use Prim.Native.Nat.{ℕ}
use Rattle.std.specs.Prelude.{is_some}
use Rattle.std.specs.Bool.{then_some}
use Rattle.words.proofs.CountLaws.{count-le}
use Rattle.blocks.specs.FrameWords.{owned_in}
use Rattle.blocks.proofs.WordLaws.{lawful-no}
use Rattle.blocks.proofs.SettleLaws.{at-start, one-turn, held-turn, lawful-wrong, lawful-tail}
use Rattle.blocks.proofs.HeldLaws.{held_start, count_held, count-block}
use Rattle.merging.proofs.checking.judge.Goals as goal
use Rattle.merging.proofs.checking.judge.Goals.{then-frames-ne-BUFFER_WORDS-via-then-frames-ne-BUFFER_WORDS, then-frames-ne-BUFFER_WORDS-via-else-frames-ne-BUFFER_WORDS+then-pool-lt1, then-frames-ne-BUFFER_WORDS-via-else-frames-ne-BUFFER_WORDS+else-pool-lt1+then-pool-gt-LARGEST_POOL}

pub returns-then-frames-ne-BUFFER_WORDS-clause-lawful_value : goal.returns-then-frames-ne-BUFFER_WORDS-clause-lawful_value
returns-then-frames-ne-BUFFER_WORDS-clause-lawful_value c =
    lawful-no _ _ (λ l. elim c.then-frames-ne-BUFFER_WORDS.branch [
      | then-frames-ne-BUFFER_WORDS-via-then-frames-ne-BUFFER_WORDS w ↦ w.if-frames-ne-BUFFER_WORDS.true l.len
      | then-frames-ne-BUFFER_WORDS-via-else-frames-ne-BUFFER_WORDS+then-pool-lt1 w ↦ omega (arith, l.pos, w.if-pool-lt1.true)
      | then-frames-ne-BUFFER_WORDS-via-else-frames-ne-BUFFER_WORDS+else-pool-lt1+then-pool-gt-LARGEST_POOL w ↦ omega (arith, l.small, w.if-pool-gt-LARGEST_POOL.true)
    ])

pub loop-f-init : goal.loop-f-init
loop-f-init c = (held-turn _ _ _ _ (at-start _ _) c.held_to-f.ensures.held_to, (omega (arith, count_held _ _ _ _ 0 (held_start _) c.held_to-f.ensures.held_to), c.held_to-f.ensures.result_value))

pub returns-in_err-after-clause-lawful_value : goal.returns-in_err-after-clause-lawful_value
returns-in_err-after-clause-lawful_value c = ap is_some c.from_residual.ensures ∙ lawful-wrong _ _ (omega arith) c.in_err-after.ensures

pub overflow_add-held : goal.overflow_add-held
overflow_add-held c = omega (arith, c.loop-f.invariant.1.0, c.loop-f.invariant.0.fits, c.held_to-f-in-loop-f.ensures.held_to.to, count-le c.loop-f.f (owned_in c.args.frames.now))

pub loop-f-preserved : goal.loop-f-preserved
loop-f-preserved c = let s = c.in_ok-after.ensures in
    (held-turn _ _ _ _ (one-turn _ _ _ _ _ _ c.loop-f.invariant.0 refl s.settled) c.held_to-f-in-loop-f.ensures.held_to, (count_held _ _ _ _ _ (count-block _ _ _ _ _ s c.loop-f.invariant.1.0) c.held_to-f-in-loop-f.ensures.held_to, c.held_to-f-in-loop-f.ensures.result_value))

pub overflow_cast-held : goal.overflow_cast-held
overflow_cast-held c = omega (arith, c.loop-f.invariant.1.0, c.loop-f.invariant.0.fits, count-le c.loop-f.f (owned_in c.args.frames.now))

some-then : (t : Bool) (n : ℕ) → is_some (then_some t n) ≡ t
some-then true n = refl
some-then false n = refl

pub returns-clause-lawful_value : goal.returns-clause-lawful_value
returns-clause-lawful_value c = ap is_some c.then_some.ensures ∙ some-then _ _ ∙ c.all_same.ensures ∙ lawful-tail _ _ _ c.if-frames-ne-BUFFER_WORDS.false (omega arith) (omega arith) c.loop-f-test.false c.loop-f.invariant.0
