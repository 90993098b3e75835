use Rattle.std.proofs.Common.{ℕ, ◌+◌, ◌-◌, sym, ap, ◌∙◌, arith, rules}
use Rattle.trees.specs.Nodes.{child_in}
use Rattle.trees.specs.Trees.{height_from}
use Rattle.trees.proofs.LawfulLaws.{height-from-le}
use Rattle.trees.proofs.CheckLaws.{height-bottom, height-outside, height-leaf, height-deeper}
use Rattle.treecheck.proofs.checking.+height_from.Goals as goal

pub returns-then-k-eq0 : goal.returns-then-k-eq0
returns-then-k-eq0 t c = height-bottom _ _ _ c.if-k-eq0.true

pub returns-then-n-gt63 : goal.returns-then-n-gt63
returns-then-n-gt63 t c = height-outside _ _ _ (omega arith) c.if-n-gt63.true

pub returns-then-leaf-eq1 : goal.returns-then-leaf-eq1
returns-then-leaf-eq1 t c = height-leaf _ _ _ (omega arith) (omega arith) (sym c.leaf_at-leaf.ensures ∙ c.if-leaf-eq1.true)

pub overflow_add-result : goal.overflow_add-result
overflow_add-result t c =
    let l = height-from-le c.args.tree.now (c.args.k - 1) (child_in c.args.tree.now c.args.n 0) in
    let e = c.height_from.ensures in
    let d = c.child_at-c.ensures in
    let u = ap (λ (x : ℕ). height_from c.args.tree.now (c.args.k - 1) x) c.child_at-c.ensures in
    search rules

pub returns : goal.returns
returns t c =
    ap (λ (x : ℕ). x + 1) (c.height_from.ensures ∙ ap (λ (x : ℕ). height_from c.args.tree.now (c.args.k - 1) x) c.child_at-c.ensures)
    ∙ height-deeper _ _ _ (omega arith) (omega arith) (λ e. c.if-leaf-eq1.false (c.leaf_at-leaf.ensures ∙ e))
