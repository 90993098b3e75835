use Rattle.unitwords.proofs.EntryLaws.{none_written, one_written, all-written}
use native.Mathlib.Omega.{arith}
use Prim.Native.Nat.{ℕ, ◌*◌}
use mathlib.Core.Path.{refl, ap, ◌∙◌}
use Rattle.unitwords.proofs.write_entries.Goals as goal

pub loop-k-init : goal.loop-k-init
loop-k-init g c = none_written g.E.EntryWords.in_words g.E.EntryWords.WORDS g.met.E.EntryWords.as_many _ _

pub loop-k-preserved : goal.loop-k-preserved
loop-k-preserved g c =
    let k : ℕ = c.loop-k.k in
    one_written g.E.EntryWords.in_words g.E.EntryWords.WORDS g.met.E.EntryWords.as_many _ _ k _ _ c.index-entries-k.result _ _ _ c.loop-k-test.true (ap (λ (w : ℕ). w * k) c.WORDS.ensures) (omega (arith, c.WORDS-in-loop-k.ensures)) c.loop-k.invariant c.index-entries-k.is c.write.ensures

pub returns : goal.returns
returns g c = c.loop-k.invariant ∙ all-written g.E.EntryWords.in_words g.E.EntryWords.WORDS g.met.E.EntryWords.as_many _ _ _ _ (omega arith) refl c.requires
