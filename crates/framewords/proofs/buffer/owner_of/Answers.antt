use mathlib.Core.Path.{sym}
use Rattle.blocks.proofs.WordLaws.{owner-low, owner-high}
use Rattle.framewords.proofs.buffer.owner_of.Goals as goal

pub returns-then-w-le-LARGEST_OWNER : goal.returns-then-w-le-LARGEST_OWNER
returns-then-w-le-LARGEST_OWNER c = sym (owner-low _ c.if-w-le-LARGEST_OWNER.true)

pub returns-else-w-le-LARGEST_OWNER : goal.returns-else-w-le-LARGEST_OWNER
returns-else-w-le-LARGEST_OWNER c = sym (owner-high _ c.if-w-le-LARGEST_OWNER.false)
