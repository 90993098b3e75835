use Rattle.std.proofs.Common.{◌≡◌, slice_index, rules}
use Rattle.words.specs.Inner.{same_in}
use Rattle.words.proofs.ScanLaws.{same_test}
use Rattle.words.proofs.scans.zero_to.Goals as goal

pub returns : goal.returns
returns c =
    let other = c.first_other.ensures.first_other (same_in c.args.words.now 0) (λ k r lo hi differs. let e : r ≡ slice_index c.args.words.now k = search rules in rw e (same_test c.args.words.now 0 k)) in
    record { pass_to = other.passed; result_value = other.fails }
