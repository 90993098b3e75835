use Rattle.std.proofs.Common.{◌≡◌, get_or, rules, not, eqb}
use Rattle.words.specs.Counts.{one-if}
use Rattle.blocks.specs.FrameWords.{owner_of, free_in}
use Rattle.blocks.proofs.HeldLaws.{held_test}
use Rattle.framewords.proofs.buffer.held_chunks.Goals as goal

pub returns : goal.returns
returns c = let b = c.args.frames.now in c.chunks_to.ensures.pass_to (λ g. not (free_in b g)) (λ k r lo hi free. let e : r ≡ one-if (eqb (owner_of (get_or b k 0)) 0) = search rules in held_test _ k r e)
