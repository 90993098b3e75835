use Rattle.std.proofs.Common.{ℕ, ◌-◌, sym, ap, ◌∙◌, arith}
use Rattle.trees.proofs.CheckLaws.{is-entered, visit-bottom, visit-not, visit-in, from_none, from_last, from_stop, from_next}
use Rattle.trees.specs.Nodes.{count_in}
use Rattle.trees.specs.Inner.Walk.{passed as has_passed, visit as visited, visit_from}
use Rattle.trees.specs.declared.Walk.{Walk}
use Rattle.treecheck.proofs.checking.+visit_visit_from.Goals as goal

pub visit-returns-then-level-eq0 : goal.visit-returns-then-level-eq0
visit-returns-then-level-eq0 t c = visit-bottom _ _ _ _ _ c.if-level-eq0.true

pub visit-returns-then-not-enters : goal.visit-returns-then-not-enters
visit-returns-then-not-enters t c = visit-not _ _ _ _ _ (omega arith) (sym c.enters.ensures ∙ c.if-not-enters.true)

pub visit-count_at-count-requires-clause-n_bound : goal.visit-count_at-count-requires-clause-n_bound
visit-count_at-count-requires-clause-n_bound t c = (is-entered _ _ _ _ _ (sym c.enters.ensures ∙ c.if-not-enters.false)).number

pub visit-met-requires : goal.visit-met-requires
visit-met-requires t c = (is-entered _ _ _ _ _ (sym c.enters.ensures ∙ c.if-not-enters.false)).number

pub visit-visit_from-requires : goal.visit-visit_from-requires
visit-visit_from-requires t c =
    let q = is-entered _ _ _ _ _ (sym c.enters.ensures ∙ c.if-not-enters.false) in
    let n = q.number in
    let f = q.fits.few in
    let e = c.count_at-count.ensures in
    (omega arith, (c.requires, (n, omega arith)))

pub visit-returns : goal.visit-returns
visit-returns t c =
    c.visit_from.ensures
    ∙ ap (λ (x : ℕ). visit_from (visited c.args.tree.now (c.args.level - 1) 2) c.args.tree.now c.args.n x 0 c.met.result) c.count_at-count.ensures
    ∙ ap (λ (x : Walk). visit_from (visited c.args.tree.now (c.args.level - 1) 2) c.args.tree.now c.args.n (count_in c.args.tree.now c.args.n) 0 x) c.met.ensures
    ∙ visit-in _ _ _ _ _ (omega arith) (sym c.enters.ensures ∙ c.if-not-enters.false)

pub visit_from-returns-in_err-below : goal.visit_from-returns-in_err-below
visit_from-returns-in_err-below t c = c.from_residual.ensures ∙ from_none _ _ _ _ _ _ (sym (c.visit.ensures ∙ ap (λ (x : ℕ). visited c.args.tree.now c.args.level 2 x c.args.walk) c.child_at-child.ensures) ∙ c.in_err-below.was)

pub visit_from-returns-then-k-eq0 : goal.visit_from-returns-then-k-eq0
visit_from-returns-then-k-eq0 t c = from_last _ _ _ _ _ _ _ (sym (c.visit.ensures ∙ ap (λ (x : ℕ). visited c.args.tree.now c.args.level 2 x c.args.walk) c.child_at-child.ensures) ∙ c.in_ok-below.was) c.if-k-eq0.true

pub visit_from-returns-in_err-next : goal.visit_from-returns-in_err-next
visit_from-returns-in_err-next t c =
    c.from_residual-in_err-next.ensures
    ∙ from_stop _ _ _ _ _ _ _ (sym (c.visit.ensures ∙ ap (λ (x : ℕ). visited c.args.tree.now c.args.level 2 x c.args.walk) c.child_at-child.ensures) ∙ c.in_ok-below.was) (omega arith)
    (sym (c.passed.ensures ∙ ap (has_passed c.in_ok-below.below) c.range_at.ensures) ∙ c.in_err-next.was)

pub visit_from-returns : goal.visit_from-returns
visit_from-returns t c =
    c.visit_from.ensures
    ∙ from_next _ _ _ _ _ _ _ (sym (c.visit.ensures ∙ ap (λ (x : ℕ). visited c.args.tree.now c.args.level 2 x c.args.walk) c.child_at-child.ensures) ∙ c.in_ok-below.was) (omega arith) _
    (sym (c.passed.ensures ∙ ap (has_passed c.in_ok-below.below) c.range_at.ensures) ∙ c.in_ok-next.was)
