use Rattle.std.proofs.Common.{◌≡◌, get_or, rules}
use Rattle.words.proofs.ScanLaws.{pass_on, pass_all}
use Rattle.blocks.specs.FrameWords.{owner_of, free_in}
use Rattle.blocks.proofs.HeldLaws.{free_test}
use Rattle.framewords.proofs.buffer.all_free.Goals as goal

pub returns-then-end-from-lt16 : goal.returns-then-end-from-lt16
returns-then-end-from-lt16 c =
    let b = c.args.frames.now in
    let other = c.words_to.ensures.first_other (free_in b) (λ k r lo hi held. let e : r ≡ owner_of (get_or b k 0) = search rules in free_test _ k r e) in
    pass_all _ _ _ _ c.requires.from_le_end other.passed other.fails

pub returns : goal.returns
returns c =
    let b = c.args.frames.now in
    let other = c.words_to-2.ensures.first_other (free_in b) (λ k r lo hi held. let e : r ≡ owner_of (get_or b k 0) = search rules in free_test _ k r e) in
    pass_all _ _ _ _ c.requires.from_le_end (pass_on _ _ _ _ _ c.free_chunks-far.ensures other.passed) other.fails
