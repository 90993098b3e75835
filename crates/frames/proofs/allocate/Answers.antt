use mathlib.Core.Path.{sym, ◌∙◌}
use native.Mathlib.Omega.{arith}
use Rattle.std.proofs.lemmas.Result.{err_from_is_err_and}
use Rattle.blocks.proofs.WordLaws.{lawful-is}
use Rattle.blocks.proofs.CallLaws.{passed, owners-in, allocate-stopped, allocate-span, allocate-held, allocate-few, allocate-done}
use Rattle.frames.proofs.allocate.Goals as goal

pub returns-in_err-judge : goal.returns-in_err-judge
returns-in_err-judge c = let p = err_from_is_err_and c.from_residual.result c.from_residual.ensures.1 in rw (p.1, p.2) (allocate-stopped _ _ _ c.in_err-judge.ensures _ _ _)

pub returns-then-not-in_owners : goal.returns-then-not-in_owners
returns-then-not-in_owners c = allocate-span _ _ _ _ _ (passed _ _ c.in_ok-judge.ensures) (sym c.in_owners.ensures ∙ c.if-not-in_owners.true)

pub overflow_cast-n : goal.overflow_cast-n
overflow_cast-n c = let w = owners-in _ _ (sym c.in_owners.ensures ∙ c.if-not-in_owners.false) in omega (arith, w.2)

pub any_held-requires : goal.any_held-requires
any_held-requires c = let l = lawful-is _ _ (passed _ _ c.in_ok-judge.ensures) in
    record { frames_len = l.len; pool_le_largest_pool = l.small }

pub returns-then-any_held : goal.returns-then-any_held
returns-then-any_held c = allocate-held _ _ _ _ _ (passed _ _ c.in_ok-judge.ensures) (sym c.in_owners.ensures ∙ c.if-not-in_owners.false) (sym c.any_held.ensures ∙ c.if-any_held.true)

pub count_free-requires : goal.count_free-requires
count_free-requires c = let l = lawful-is _ _ (passed _ _ c.in_ok-judge.ensures) in
    record { frames_len = l.len; pool_le_largest_pool = l.small }

pub overflow_cast-n-2 : goal.overflow_cast-n-2
overflow_cast-n-2 c = let w = owners-in _ _ (sym c.in_owners.ensures ∙ c.if-not-in_owners.false) in omega (arith, w.2)

pub returns-then-count_free-n : goal.returns-then-count_free-n
returns-then-count_free-n c = allocate-few _ _ _ _ _ (passed _ _ c.in_ok-judge.ensures) (sym c.in_owners.ensures ∙ c.if-not-in_owners.false) (sym c.any_held.ensures ∙ c.if-any_held.false) (omega (arith, c.count_free.ensures, c.if-count_free-n.true))

pub take_frames-blocks-requires : goal.take_frames-blocks-requires
take_frames-blocks-requires c = let w = owners-in _ _ (sym c.in_owners.ensures ∙ c.if-not-in_owners.false) in
    record { frames_value = passed _ _ c.in_ok-judge.ensures; out_len_bound = omega (arith, c.count_free.ensures, c.if-count_free-n.false); le_owner = w.1; out_bound = w.2 }

pub returns : goal.returns
returns c = allocate-done _ _ _ _ _ (passed _ _ c.in_ok-judge.ensures) (sym c.in_owners.ensures ∙ c.if-not-in_owners.false) (sym c.any_held.ensures ∙ c.if-any_held.false) _ _ _ (omega (arith, c.count_free.ensures, c.if-count_free-n.false)) c.take_frames-blocks.ensures _ c.from.ensures
