use mathlib.Core.Path.{sym, ◌∙◌}
use native.Mathlib.Omega.{arith}
use Rattle.std.proofs.lemmas.Result.{err_from_is_err_and}
use Rattle.blocks.proofs.WordLaws.{lawful-is}
use Rattle.blocks.proofs.CallLaws.{passed, owners-in, free-stopped, free-span, free-missing, free-done, free_more}
use Rattle.frames.proofs.free.Goals as goal

pub returns-in_err-judge : goal.returns-in_err-judge
returns-in_err-judge c = let p = err_from_is_err_and c.from_residual.result c.from_residual.ensures.1 in rw (p.1, p.2) (free-stopped _ _ _ c.in_err-judge.ensures _ _)

pub returns-then-not-in_owners : goal.returns-then-not-in_owners
returns-then-not-in_owners c = free-span _ _ _ _ (passed _ _ c.in_ok-judge.ensures) (sym c.in_owners.ensures ∙ c.if-not-in_owners.true)

pub all_held-requires : goal.all_held-requires
all_held-requires c = let l = lawful-is _ _ (passed _ _ c.in_ok-judge.ensures) in
    let w = owners-in _ _ (sym c.in_owners.ensures ∙ c.if-not-in_owners.false) in
    record { frames_len = l.len; pool_le_largest_pool = l.small; n_le_largest_owner = omega (arith, w.1, w.2) }

pub returns-then-not-all_held : goal.returns-then-not-all_held
returns-then-not-all_held c = free-missing _ _ _ _ (passed _ _ c.in_ok-judge.ensures) (sym c.in_owners.ensures ∙ c.if-not-in_owners.false) (sym c.all_held.ensures ∙ c.if-not-all_held.true)

pub count_free-before-requires : goal.count_free-before-requires
count_free-before-requires c = let l = lawful-is _ _ (passed _ _ c.in_ok-judge.ensures) in
    record { frames_len = l.len; pool_le_largest_pool = l.small }

pub release-requires : goal.release-requires
release-requires c = let l = lawful-is _ _ (passed _ _ c.in_ok-judge.ensures) in
    let w = owners-in _ _ (sym c.in_owners.ensures ∙ c.if-not-in_owners.false) in
    record { frames_len = l.len; pool_le_largest_pool = l.small; le_owner = w.1; n_bound = w.2 }

pub count_free-after-requires : goal.count_free-after-requires
count_free-after-requires c = let l = lawful-is _ _ (passed _ _ c.in_ok-judge.ensures) in
    record { frames_len = c.release.auto.frames ∙ l.len; pool_le_largest_pool = l.small }

pub overflow_sub-after : goal.overflow_sub-after
overflow_sub-after c = let m = free_more _ _ _ _ (passed _ _ c.in_ok-judge.ensures) (sym c.in_owners.ensures ∙ c.if-not-in_owners.false) _ c.release.ensures in
    omega (arith, m, c.count_free-before.ensures, c.count_free-after.ensures)

pub returns : goal.returns
returns c = free-done _ _ _ _ (passed _ _ c.in_ok-judge.ensures) (sym c.in_owners.ensures ∙ c.if-not-in_owners.false) _ _ _ (sym c.all_held.ensures ∙ c.if-not-all_held.false) c.release.ensures c.count_free-before.ensures c.count_free-after.ensures _ c.from.ensures
