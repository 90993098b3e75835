use mathlib.Core.Path.{refl, sym, ◌∙◌}
use native.Mathlib.Omega.{arith}
use Rattle.words.proofs.SearchLaws.{all_end}
use Rattle.blocks.proofs.SettleLaws.{start-zero, check-larger, check-largest}
use Rattle.merging.proofs.checking.single_at.Goals as goal

pub grows-requires-clause-k_value : goal.grows-requires-clause-k_value
grows-requires-clause-k_value c = start-zero _ _ _ c.requires.edge c.requires.f_lt_pool c.requires.f_value

pub returns-then-grows : goal.returns-then-grows
returns-then-grows c = check-larger _ _ _ c.requires.f_lt_pool c.requires.edge c.requires.f_value 0 (omega arith) (omega arith) (sym c.grows.ensures ∙ c.if-grows.true)

pub returns : goal.returns
returns c = check-largest _ _ _ c.requires.f_lt_pool c.requires.edge c.requires.f_value 0 1 refl (omega arith) (omega arith) (c.requires.edge.starts 0 (omega arith) (start-zero _ _ _ c.requires.edge c.requires.f_lt_pool c.requires.f_value)) (omega arith) (sym (all_end _ _ _ (omega arith))) (λ h. sym c.grows.ensures ∙ c.if-grows.false)
