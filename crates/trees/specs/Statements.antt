-- What holds of range trees and of the three calls. Document 02, Change 7.
use Rattle.std.specs.Prelude.{◌≡◌, true, false, List, [], ◌∷◌, ◌++◌, ◌↔◌, ◌⊎◌, ℕ, zero, suc, ◌+◌, ◌*◌, ◌≤◌, ◌<◌, length, get_or, replicate}
use Rattle.words.specs.declared.Outcome.{Outcome}
use Rattle.words.specs.Tables.{tabulate}
use Rattle.words.specs.Refusals.{decide}
use Rattle.words.specs.Rows.{Row, accepted, refusal, number_of, outcome_of, Promised, Exactly, in_order}
use Rattle.runs.specs.PageWords.{pages_in_space, rights_factor, rights_in, frame_in}
use Rattle.runs.specs.Runs.{InRange, RangesSound, range_words_in_space, range_count}
use Rattle.trees.specs.declared.Range.{Range}
use Rattle.trees.specs.Ranges.{held, covers, page_value, insert_list, remove_list, holds_base, beside_refusals}
use Rattle.trees.specs.Nodes.{words_in_tree, no_root}
use Rattle.trees.specs.Trees.{Branch, Tree, Rooted, contents, tree_words, tree_of, contents_of, path_length}
use Rattle.trees.specs.Lawful.{LawfulTree, Lawful}
use Rattle.trees.specs.Insertion.{insert_tree}
use Rattle.trees.specs.Removal.{remove_tree}
use Rattle.trees.specs.Calls.{insert_call, remove_call, lookup_call}
use Rattle.trees.specs.Inner.Walk.{lawful}

-- What is a lawful tree

-- the test that the calls make finds just the lawful buffers
unfoldable pub LawfulExactly : Type 0
LawfulExactly = (b : List ℕ) → length b ≡ words_in_tree → (lawful b ≡ true) ↔ Lawful b

-- what is read out of a buffer is the tree whose words it has
unfoldable pub TreeReadBack : Type 0
TreeReadBack = (t : Rooted) → LawfulTree t → tree_of (tree_words t) ≡ t

-- "64 if empty": the empty tree, which is lawful (docs/DECISIONS.md, 120)
unfoldable pub empty_tree : List ℕ
empty_tree = no_root ∷ replicate 1536 0

unfoldable pub EmptyLawful : Type 0
EmptyLawful = Lawful empty_tree

-- a lawful tree has at most four levels, so that a path is "never above four"
unfoldable pub NeverAboveFour : Type 0
NeverAboveFour = (t : Rooted) → LawfulTree t → (t.height ≤ 4) × ((p : ℕ) → path_length p t.height t.tree ≤ 4)

-- one of these branches has page p in its range
pub data InBranch {A : Type 0} (p : ℕ) : List (Branch A) → Type 0 where
  this-range : {x : Branch A} {xs : List (Branch A)} → covers x.range p ≡ true → InBranch p (x ∷ xs)
  later-range : {x : Branch A} {xs : List (Branch A)} → InBranch p xs → InBranch p (x ∷ xs)

-- one of the children behind these ranges is as P says
pub data InChild {A : Type 0} (P : A → Type 0) : List (Branch A) → Type 0 where
  this-child : {x : Branch A} {xs : List (Branch A)} → P x.child → InChild P (x ∷ xs)
  later-child : {x : Branch A} {xs : List (Branch A)} → InChild P xs → InChild P (x ∷ xs)

-- from the topmost node down to the one whose range has page p there are d nodes, both counted
abbrev pub StandsAt : ℕ → (h : ℕ) → Tree h → ℕ → Type 0
StandsAt p zero t d = ⊥
StandsAt p (suc h) t zero = ⊥
StandsAt p (suc h) t (suc zero) = InBranch p t.row.rest
StandsAt p (suc h) t (suc (suc d)) = StandsAt p h t.row.first (suc d) ⊎ InChild (λ (c : Tree h). StandsAt p h c (suc d)) t.row.rest

-- "the count of nodes on its path from the root": down to the node that has the page's range, if one has it
unfoldable pub PathLeadsThere : Type 0
PathLeadsThere = (t : Rooted) → LawfulTree t → (p : ℕ) →
    ((d : ℕ) → StandsAt p t.height t.tree d → path_length p t.height t.tree ≡ d)
    × (held (contents t.height t.tree) p ≡ true → StandsAt p t.height t.tree (path_length p t.height t.tree))

-- "its contents are fixed"

-- an insertion that is not refused gives a lawful tree, so that there was a node to take, with the range among the others
unfoldable pub InsertionFixed : Type 0
InsertionFixed = (t : Rooted) (r : Range) → LawfulTree t → decide (beside_refusals r (contents t.height t.tree)) 0 ≡ 0
    → LawfulTree (insert_tree r t) × (contents (insert_tree r t).height (insert_tree r t).tree ≡ insert_list r (contents t.height t.tree))

-- a removal gives a lawful tree without the range
unfoldable pub RemovalFixed : Type 0
RemovalFixed = (t : Rooted) (base : ℕ) → LawfulTree t → holds_base base (contents t.height t.tree) ≡ true
    → LawfulTree (remove_tree base t) × (contents (remove_tree base t).height (remove_tree base t).tree ≡ remove_list base (contents t.height t.tree))

-- The calls

-- a call's row keeps demands 1 and 2: "on refusal returns the refusal's number with zeros and alters nothing that was lent"; "each refusal comes when its condition holds and none before it applies, and at no other time"
pub record KeepsDemands (w : Row (List ℕ)) : Type 0 where
  pub ordered : in_order w.refusals ≡ true
  pub exactly : Exactly w.refusals (outcome_of w).number
  pub alters-nothing : (old : List ℕ) (o : Outcome) (left : List ℕ) → Promised w old o left → accepted o ≡ false → (o ≡ refusal o.number) × (left ≡ old)

unfoldable pub CallsKeepDemands : Type 0
CallsKeepDemands = (b : List ℕ) → ((r : Range) → KeepsDemands (insert_call b r)) × (((base : ℕ) → KeepsDemands (remove_call b base)) × ((p : ℕ) → KeepsDemands (lookup_call b p)))

-- an accepted insertion or removal leaves a lawful buffer with these contents
unfoldable pub AcceptedLeavesLawful : Type 0
AcceptedLeavesLawful = (b : List ℕ) →
    ((r : Range) → number_of (insert_call b r) ≡ 0 → Lawful (insert_call b r).new × (contents_of (insert_call b r).new ≡ insert_list r (contents_of b)))
    × ((base : ℕ) → number_of (remove_call b base) ≡ 0 → Lawful (remove_call b base).new × (contents_of (remove_call b base).new ≡ remove_list base (contents_of b)))

-- the second value of a lookup is "never above four"
unfoldable pub LookupWithinFour : Type 0
LookupWithinFour = (b : List ℕ) (p : ℕ) → (outcome_of (lookup_call b p)).second ≤ 4

-- what a lookup answers, without the count of nodes
abbrev pub Answers : List ℕ → ℕ → ℕ → ℕ → Type 0
Answers b p number value = ((outcome_of (lookup_call b p)).number ≡ number) × ((outcome_of (lookup_call b p)).first ≡ value)

-- two buffers give page p the same number and value
abbrev pub SameAnswer : List ℕ → List ℕ → ℕ → Type 0
SameAnswer b b' p = Answers b' p (outcome_of (lookup_call b p)).number (outcome_of (lookup_call b p)).first

-- after an accepted insertion the pages of the range are found, and all others are as before, but for the count of nodes
unfoldable pub InsertedIsFound : Type 0
InsertedIsFound = (b : List ℕ) (r : Range) → number_of (insert_call b r) ≡ 0 → (p : ℕ) →
    (covers r p ≡ true → Answers (insert_call b r).new p 0 (page_value r p)) × (covers r p ≡ false → SameAnswer b (insert_call b r).new p)

-- after an accepted removal the pages of the range of that BASE are not found (12), and all others are as before, but for the count of nodes; where a removal is accepted, such a range is held
unfoldable pub RemovedIsGone : Type 0
RemovedIsGone = (b : List ℕ) (xs : List Range) (q : Range) (ys : List Range) → contents_of b ≡ xs ++ q ∷ ys → number_of (remove_call b q.base) ≡ 0 → (p : ℕ) →
    (covers q p ≡ true → Answers (remove_call b q.base).new p 12 0) × (covers q p ≡ false → SameAnswer b (remove_call b q.base).new p)

-- a range inserted and then removed: both are accepted, and the contents are as before; the words may differ, where a node was parted
unfoldable pub InsertedThenRemoved : Type 0
InsertedThenRemoved = (b : List ℕ) (r : Range) → number_of (insert_call b r) ≡ 0
    → (number_of (remove_call (insert_call b r).new r.base) ≡ 0) × (contents_of (remove_call (insert_call b r).new r.base).new ≡ contents_of b)

-- From a space's range table; `ws` are the space's page words, `rs` its range words

-- entry k of the range table
unfoldable pub entry_in : List ℕ → ℕ → Range
entry_in rs k = record { base = get_or rs (4 * k) 0; limit = get_or rs (4 * k + 1) 0; offset = get_or rs (4 * k + 2) 0; rights = get_or rs (4 * k + 3) 0 }

-- its used entries, which come first
unfoldable pub entries_of : List ℕ → List Range
entries_of rs = tabulate (range_count rs) (entry_in rs)

-- a buffer into which ranges are inserted one after the other
unfoldable pub filled_with : List Range → List ℕ → List ℕ
filled_with [] b = b
filled_with (r ∷ rs) b = filled_with rs (insert_call b r).new

-- each of these insertions is accepted
pub data AllTaken : List Range → List ℕ → Type 0 where
  no_more : {b : List ℕ} → AllTaken [] b
  one-taken : {r : Range} {rs : List Range} {b : List ℕ} → number_of (insert_call b r) ≡ 0 → AllTaken rs (insert_call b r).new → AllTaken (r ∷ rs) b

-- a tree that is filled, from the empty one and in the table's order, with the entries of a sound range table takes every one, holds just these, and answers every page of the space as the table does: a page of a range with its frame and rights, any other with 12
unfoldable pub TableFills : Type 0
TableFills = (ws rs : List ℕ) → length ws ≡ pages_in_space → length rs ≡ range_words_in_space → RangesSound ws rs
    → AllTaken (entries_of rs) empty_tree
    × ((contents_of (filled_with (entries_of rs) empty_tree) ≡ entries_of rs)
    × ((p : ℕ) → p < pages_in_space
    → (InRange ws p → Answers (filled_with (entries_of rs) empty_tree) p 0 (rights_factor * rights_in (get_or ws p 0) + frame_in (get_or ws p 0)))
    × ((InRange ws p → ⊥) → Answers (filled_with (entries_of rs) empty_tree) p 12 0)))
