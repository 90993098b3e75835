use Rattle.std.proofs.Common.{ℕ, ◌-◌, refl, ap, ◌∙◌}
use Rattle.words.specs.Wrapping.{wrap_sub}
use Rattle.runs.specs.Walk.{entry_of}
use Rattle.ranges.proofs.renew.entry.Goals as goal

pub returns : goal.returns
unfolding entry_of
returns c = let o = c.offset.ensures ∙ ap (λ (x : ℕ). wrap_sub 32 x (c.args.end.limit - 1)) c.frame_in.ensures in rw (o, c.rights_in.ensures) refl
