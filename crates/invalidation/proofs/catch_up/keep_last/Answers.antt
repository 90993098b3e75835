use mathlib.Core.Path.{sym, ◌∙◌}
use native.Mathlib.Omega.{arith}
use Rattle.history.specs.Units.{no_range}
use Rattle.invalidation.proofs.KeepLaws.{last-beyond, last-kept}
use Rattle.invalidation.proofs.catch_up.keep_last.Goals.{in_default-via-in-Some+else-is_named, in_default-via-in_default}
use Rattle.invalidation.proofs.catch_up.keep_last.Goals as goal

pub returns-in_default : goal.returns-in_default
returns-in_default c = elim c.in_default.branch [
  | in_default-via-in-Some+else-is_named w ↦
      let (some, at, there, within, same) = w.in-Some.ensures.lookup in
      last-kept _ _ _ (rw (same (omega arith) no_range) at (sym w.is_named.ensures ∙ w.if-is_named.false))
  | in_default-via-in_default w ↦ let (some, at, there, beyond, same) = w.in_default.ensures.lookup in last-beyond _ _ _ beyond
]
