use Rattle.std.proofs.Common.{le-leb}
use borrow.Author.Tests.{lt-leb}
use Rattle.runs.specs.PageWords.{allowed_rights}
use Rattle.ranges.proofs.page_words.allowed_rights.Goals as goal

pub returns-then-rights-le-LARGEST_RIGHTS : goal.returns-then-rights-le-LARGEST_RIGHTS
unfolding allowed_rights
returns-then-rights-le-LARGEST_RIGHTS c = rw (le-leb _ _ c.if-rights-le-LARGEST_RIGHTS.true, c.reserved_rights.ensures)

pub returns-else-rights-le-LARGEST_RIGHTS : goal.returns-else-rights-le-LARGEST_RIGHTS
unfolding allowed_rights
returns-else-rights-le-LARGEST_RIGHTS c = rw (lt-leb _ _ c.if-rights-le-LARGEST_RIGHTS.false)
