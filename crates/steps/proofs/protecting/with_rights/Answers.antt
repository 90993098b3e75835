use mathlib.Core.Path.{ap, ◌∙◌}
use mathlib.Core.Bool.{false}
use Prim.Native.Nat.{ℕ}
use native.Mathlib.Omega.{arith}
use Rattle.runs.specs.PageWords.{page_word}
use Rattle.runs.proofs.WordLaws.{frame-lt}
use Rattle.steps.proofs.protecting.with_rights.Goals as goal

pub page_word-requires : goal.page_word-requires
page_word-requires c = record { rights_value = c.requires; f_bound = omega (arith, c.frame_in.ensures, frame-lt c.args.w) }

pub returns : goal.returns
returns c = c.page_word.ensures ∙ ap (λ (f : ℕ). page_word false c.args.rights f) c.frame_in.ensures
