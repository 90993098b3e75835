use mathlib.Core.Path.{◌∙◌}
use Rattle.trees.proofs.TopLaws.{top-searched, searched-from}
use Rattle.rangetree.proofs.judging.search.Goals as goal

pub search_node-requires : goal.search_node-requires
search_node-requires c = record { tree_len = c.requires.tree_len; stands = top-searched _ c.requires.lawful_tree _ _ c.height-h.ensures c.root_at-root.ensures }

pub returns : goal.returns
returns c = c.search_node.ensures ∙ searched-from _ _ _ c.args.page.0 c.height-h.ensures c.root_at-root.ensures
