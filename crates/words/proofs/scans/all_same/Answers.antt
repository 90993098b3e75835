use Rattle.std.proofs.Common.{◌≡◌, slice_index, rules, ◌∙◌, bit_xor}
use Rattle.words.specs.Inner.{same_in}
use Rattle.words.proofs.ScanLaws.{xor-none, same_test, pass_all}
use Rattle.words.proofs.scans.all_same.Goals as goal

pub returns : goal.returns
returns c =
    let other = c.first_other-last.ensures.first_other (same_in c.args.words.now c.args.v) (λ k r lo hi differs. let e : r ≡ bit_xor (slice_index c.args.words.now k) c.args.v = search rules in rw e (xor-none _ _ ∙ same_test c.args.words.now c.args.v k)) in
    pass_all _ _ _ _ c.requires.from_le_end other.passed other.fails
