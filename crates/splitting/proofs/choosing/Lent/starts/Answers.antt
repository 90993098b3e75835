use mathlib.Core.Path.{ap, ◌∙◌, sym}
use mathlib.Core.Bool.{not}
use native.Mathlib.Omega.{arith}
use borrow.Author.Tests.{ne_eqb}
use Rattle.blocks.proofs.WordLaws.{lawful-is}
use Rattle.blocks.proofs.ChoosingLaws.{starts-if, starts_other}
use Rattle.splitting.proofs.choosing.Lent.starts.Goals as goal

pub bounds-self-s : goal.bounds-self-s
bounds-self-s c = let l = lawful-is _ _ c.args.self.now.sound in omega (arith, l.small, l.len, c.requires.s_lt_pool)

pub returns-then-self-s : goal.returns-then-self-s
returns-then-self-s c = ap not c.is_gone.ensures ∙ starts-if _ _ _ _ c.if-self-s.true

pub returns-else-self-s : goal.returns-else-self-s
returns-else-self-s c = ne_eqb _ _ c.if-self-s.false ∙ sym (starts_other c.args.self.now.frames.now c.args.self.now.marks.now c.args.k c.args.s.0 c.if-self-s.false)
