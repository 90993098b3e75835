use Rattle.std.proofs.Common.{◌≡◌, refl, arith}
use Rattle.words.specs.Searches.{all_from}
use Rattle.words.proofs.ScanLaws.{differs-on}
use Rattle.words.proofs.scans.gathered.Goals as goal

pub loop-k-init : goal.loop-k-init
unfolding all_from
loop-k-init g c = λ p told. refl

pub loop-k-preserved : goal.loop-k-preserved
loop-k-preserved g c = λ p told. differs-on p _ _ _ _ (c.loop-k.invariant p (λ k r lo hi. told k r lo (omega arith))) (told _ _ (omega arith) (omega arith) c.differs-bits.ensures)

pub returns : goal.returns
returns g c = let e : c.loop-k.k ≡ c.args.n = omega arith in rw e at c.loop-k.invariant
