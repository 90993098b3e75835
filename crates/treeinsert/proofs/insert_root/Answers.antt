use Rattle.trees.proofs.GrowTopLaws.{ready-here, whole_here, take-here, root-here}
use Rattle.trees.specs.Nodes.{root_in}
use mathlib.Core.Path.{refl}
use borrow.Author.Rules.{rules}
use Rattle.treeinsert.proofs.insert_root.Goals as goal

pub insert_node-requires : goal.insert_node-requires
insert_node-requires c = record { tree_len = c.requires.tree_len; ready = ready-here _ _ c.requires.lawful_tree c.requires.proper_range c.requires.no_overlap _ _ c.requires.h_value c.root_at-root.ensures }

pub returns-in_default : goal.returns-in_default
returns-in_default c = let it = whole_here _ _ c.requires.lawful_tree c.requires.proper_range c.requires.no_overlap _ _ c.requires.h_value c.root_at-root.ensures _ _ c.insert_node.ensures c.in_default.is (search rules) in record { holding = it.0; others_stay = it.1 }

pub new_root-requires : goal.new_root-requires
new_root-requires c = record { tree_len = search rules; bound = take-here _ _ c.requires.lawful_tree c.requires.proper_range c.requires.no_overlap _ _ c.requires.h_value c.root_at-root.ensures _ _ c.insert_node.ensures _ c.in-Some.is }

pub returns : goal.returns
unfolding root_in
returns c = let it = root-here _ _ c.requires.lawful_tree c.requires.proper_range c.requires.no_overlap _ _ c.requires.h_value c.root_at-root.ensures _ _ c.insert_node.ensures _ c.in-Some.is _ _ refl c.new_root.ensures (search rules) in record { holding = it.0; others_stay = it.1 }
