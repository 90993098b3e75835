use Rattle.std.proofs.Common.{◌≡◌, get_or, rules}
use Rattle.blocks.specs.FrameWords.{owner_of, free_in}
use Rattle.blocks.proofs.HeldLaws.{free_test}
use Rattle.framewords.proofs.buffer.free_chunks.Goals as goal

pub returns : goal.returns
returns c = let b = c.args.frames.now in c.chunks_to.ensures.pass_to (free_in b) (λ k r lo hi held. let e : r ≡ owner_of (get_or b k 0) = search rules in free_test _ k r e)
