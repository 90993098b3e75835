use Rattle.std.proofs.Common.{ap, ◌∙◌, arith}
use Rattle.trees.specs.declared.Range.{Range}
use Rattle.trees.specs.Nodes.{count_in, range_in}
use Rattle.trees.specs.Inner.Search.{nowhere, hit, further, or_else}
use Rattle.trees.proofs.SearchLaws.{behind-le, search-nodes, or-nodes, search-bottom, search-end, search-before, search-found, stands-level}
use Rattle.treecheck.proofs.search.+descend_search_node.Goals as goal

pub search_node-returns-then-level-eq0 : goal.search_node-returns-then-level-eq0
unfolding nowhere
search_node-returns-then-level-eq0 t c = search-bottom _ _ _ _ c.if-level-eq0.true

pub search_node-descend-requires : goal.search_node-descend-requires
search_node-descend-requires t c =
    let l = behind-le (range_in c.args.tree.now c.args.n) c.args.page.0 (count_in c.args.tree.now c.args.n) 0 in
    let e = c.slot_behind-i.ensures in
    (omega arith, (c.requires.tree_len, (stands-level c.args.tree.now c.args.level c.args.n (omega arith) c.requires.stands, omega arith)))

pub search_node-one_further-requires : goal.search_node-one_further-requires
search_node-one_further-requires t c = let l = search-nodes _ _ _ _ c.descend.ensures in omega arith

pub search_node-returns-then-count-i : goal.search_node-returns-then-count-i
search_node-returns-then-count-i t c =
    let e = c.count_at-count.ensures in
    c.one_further.ensures ∙ search-end _ _ _ _ (omega arith) _ c.slot_behind-i.ensures (omega arith) _ c.descend.ensures

pub search_node-one_further-requires-then-page-r : goal.search_node-one_further-requires-then-page-r
search_node-one_further-requires-then-page-r t c =
    let l = search-nodes _ _ _ _ c.descend-then-page-r.ensures in
    let e = or-nodes _ _ _ c.or_else.ensures in
    let f = c.ranges.level in
    omega arith

pub search_node-returns-then-page-r : goal.search_node-returns-then-page-r
search_node-returns-then-page-r t c =
    let e = c.count_at-count.ensures in
    let g = ap (λ (x : Range). x.base) c.range_at-r.ensures in
    c.one_further-then-page-r.ensures
    ∙ ap further (c.or_else.ensures ∙ ap (λ (x : Range). or_else x c.descend-then-page-r.result) c.range_at-r.ensures)
    ∙ search-before _ _ _ _ (omega arith) _ c.slot_behind-i.ensures (omega arith) (omega arith) _ c.descend-then-page-r.ensures

pub search_node-returns : goal.search_node-returns
unfolding hit further
search_node-returns t c =
    let e = c.count_at-count.ensures in
    let g = ap (λ (x : Range). x.base) c.range_at-r.ensures in
    ap (λ (x : Range). further (hit x)) c.range_at-r.ensures ∙ search-found _ _ _ _ (omega arith) _ c.slot_behind-i.ensures (omega arith) (omega arith)
