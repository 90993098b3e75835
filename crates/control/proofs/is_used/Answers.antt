use Rattle.std.proofs.Common.{◌∙◌}
use borrow.Author.Tests.{le-leb, lt-leb}
use Rattle.control.proofs.ControlLaws.{used_all, used-zero, used_low}
use Rattle.control.proofs.is_used.Goals as goal

pub returns-then-c-ge-PLACES : goal.returns-then-c-ge-PLACES
returns-then-c-ge-PLACES c = le-leb 64 c.args.c c.if-c-ge-PLACES.true ∙ used_all c.args.c c.args.j c.if-c-ge-PLACES.true

pub returns-then-j-ge1 : goal.returns-then-j-ge1
returns-then-j-ge1 c = used_low c.args.c c.args.j c.if-c-ge-PLACES.false c.if-j-ge1.true

pub returns-else-j-ge1 : goal.returns-else-j-ge1
returns-else-j-ge1 c = lt-leb 1 c.args.j c.if-j-ge1.false ∙ used-zero c.args.c c.args.j c.if-c-ge-PLACES.false c.if-j-ge1.false
