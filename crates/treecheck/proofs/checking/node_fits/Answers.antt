use Rattle.trees.proofs.CheckLaws.{fits_not, fits_in, in-fits, kids-le}
use Rattle.trees.proofs.NodeLaws.{byte-leaf}
use Rattle.words.proofs.Cases.{both_ways, true-false}
use Rattle.trees.specs.Nodes.{count_in}
use Rattle.trees.specs.Inner.Walk.{zeros_in, kids}
use Prim.Native.Nat.{ℕ, ◌+◌, ◌*◌}
use native.Mathlib.Omega.{arith}
use mathlib.Core.Path.{◌≡◌, sym, ap, ◌∙◌}
use borrow.Author.Rules.{rules}
use Rattle.treecheck.proofs.checking.node_fits.Goals as goal

pub returns-then-count-least : goal.returns-then-count-least
returns-then-count-least c = fits_not _ _ _ _ (λ q. let h = q.enough in omega arith)

pub returns-then-count-gt4 : goal.returns-then-count-gt4
returns-then-count-gt4 c = fits_not _ _ _ _ (λ q. let h = q.few in omega arith)

pub returns-then-leaf_at-from : goal.returns-then-leaf_at-from
returns-then-leaf_at-from c = fits_not _ _ _ _ (λ q. c.if-leaf_at-from.true (c.leaf_at.ensures ∙ q.flag ∙ sym (c.from.ensures ∙ byte-leaf _)))

pub overflow_add-kid_count : goal.overflow_add-kid_count
overflow_add-kid_count c = let k = kids-le c.args.leaf c.count_at-count.result in let e = c.kid_count.ensures in omega arith

pub zeros_at-requires-then-zeros_at-clause-n_bound : goal.zeros_at-requires-then-zeros_at-clause-n_bound
zeros_at-requires-then-zeros_at-clause-n_bound c = let k = kids-le c.args.leaf c.count_at-count.result in let e = c.kid_count.ensures in search rules

pub returns-then-zeros_at : goal.returns-then-zeros_at
returns-then-zeros_at c = let z : zeros_in c.args.tree.now c.args.n (18 + c.kid_count.result) 24 ≡ zeros_in c.args.tree.now c.args.n (18 + kids c.args.leaf (count_in c.args.tree.now c.args.n)) 24 = ap (λ (x : ℕ). zeros_in c.args.tree.now c.args.n (18 + x) 24) (c.kid_count.ensures ∙ ap (kids c.args.leaf) c.count_at-count.ensures) in
    both_ways _ _
    (λ t. in-fits _ _ _ _ (record {
      enough = omega arith;
      few = omega arith;
      flag = sym c.leaf_at.ensures ∙ c.if-leaf_at-from.false ∙ c.from.ensures ∙ byte-leaf _;
      ranges = ap (λ (x : ℕ). zeros_in c.args.tree.now c.args.n (2 + x * 4) 18) (sym c.count_at-count.ensures) ∙ sym c.zeros_at.ensures ∙ c.if-zeros_at.true;
      children = sym z ∙ sym c.zeros_at-then-zeros_at.ensures ∙ t;
    }))
    (λ t. c.zeros_at-then-zeros_at.ensures ∙ z ∙ (fits_in _ _ _ _ t).children)

pub returns-else-zeros_at : goal.returns-else-zeros_at
returns-else-zeros_at c = c.if-zeros_at.false ∙ fits_not _ _ _ _ (λ q. true-false _ (ap (λ (x : ℕ). zeros_in c.args.tree.now c.args.n (2 + x * 4) 18) c.count_at-count.ensures ∙ q.ranges) (sym c.zeros_at.ensures ∙ c.if-zeros_at.false))
