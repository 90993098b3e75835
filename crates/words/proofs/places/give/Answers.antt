use Rattle.words.proofs.PlaceLaws.{given, not-given}
use Rattle.words.proofs.places.give.Goals as goal

pub returns-then-values-ne-VALUES : goal.returns-then-values-ne-VALUES
returns-then-values-ne-VALUES c = not-given c.args.o c.args.values.now c.if-values-ne-VALUES.true

pub returns : goal.returns
returns c = given c.args.o c.args.values.now c.if-values-ne-VALUES.false
