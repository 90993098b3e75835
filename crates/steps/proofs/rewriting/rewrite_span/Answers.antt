use Rattle.std.proofs.Common.{◌≡◌, refl, ap, ◌∙◌, arith}
use Rattle.words.specs.Counts.{count}
use Rattle.runs.specs.Walk.{with_bits, range_words}
use Rattle.steps.proofs.StepLaws.{change-none, change-more, change-next, count-step, counted, byte-le, all-changed}
use Rattle.steps.proofs.rewriting.rewrite_span.Goals as goal

pub loop-k-init : goal.loop-k-init
unfolding count
loop-k-init g c = (omega arith, λ word counts gives. (refl, change-none _ _ _))

pub loop-k-preserved : goal.loop-k-preserved
loop-k-preserved g c = (
  omega (arith, c.loop-k.invariant.0, c.from-n.ensures, byte-le c.change-changed.result.counts),
  λ word counts gives.
      let s = c.loop-k.invariant.1 word counts gives in
      let same = change-next _ _ _ _ _ s.1 in
      let q = gives _ _ c.change-changed.ensures in
      (count-step counts _ _ _ _ _ _ s.0 same (counted _ _ _ c.from-n.ensures q.1), change-more _ _ _ _ _ _ (omega arith) s.1 (q.0 ∙ ap word same)),
)

pub returns : goal.returns
returns g c = λ word counts gives.
    let e : c.loop-k.k ≡ c.args.count = omega arith in
    let s = c.loop-k.invariant.1 word counts gives in
    let all = all-changed _ _ word _ _ (rw e at s.1) in
    record { value = rw e at s.0; pages = c.renew.ensures.part_after ∙ ap with_bits all; ranges = c.renew.ensures.ranges_after ∙ ap range_words all }
