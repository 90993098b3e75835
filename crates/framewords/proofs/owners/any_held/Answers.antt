use Rattle.std.proofs.Common.{◌≡◌, get_or, rules, not}
use Rattle.words.specs.Counts.{one-if}
use Rattle.words.proofs.ScanLaws.{pass_on}
use Rattle.blocks.specs.FrameWords.{owner_of, owners_of}
use Rattle.blocks.specs.Owners.{in_span}
use Rattle.blocks.proofs.FreeLaws.{span_test, any-scanned}
use Rattle.framewords.proofs.owners.any_held.Goals as goal

pub returns : goal.returns
unfolding one-if
returns c =
    let b = c.args.frames.now in
    let o = c.args.owner in
    let n = c.args.n in
    let far = c.chunks_to-far.ensures.pass_to (λ g. not (in_span o n (owners_of b g))) (λ k r lo hi bit. let e : r ≡ one-if (in_span o n (owner_of (get_or b k 0))) = search rules in span_test b o n k r e) in
    let other = c.words_to.ensures.first_other (λ g. not (in_span o n (owners_of b g))) (λ k r lo hi bit. let e : r ≡ one-if (in_span o n (owner_of (get_or b k 0))) = search rules in span_test b o n k r e) in
    any-scanned b o n _ _ (pass_on _ _ _ _ _ far other.passed) other.fails
