-- The words of a tree's buffer. Document 02, Change 7: "a lent buffer of 1,537 words: the root's number (64 if empty), then 64 nodes of 24 words, each holding range count, 1 for a leaf or else 0, four ranges as in the list, five child numbers, and a zero."
use Rattle.std.specs.Prelude.{◌≡◌, Bool, cond, List, ℕ, ◌+◌, ◌-◌, ◌*◌, ◌/◌, ◌%◌, ◌<◌, ltb, eqb, length, get_or}
use Rattle.trees.specs.declared.Range.{Range}

abbrev pub words_in_tree : ℕ
words_in_tree = 1537

-- "64 if empty"
abbrev pub no_root : ℕ
no_root = 64

abbrev pub no_range : Range
no_range = record { base = 0; limit = 0; offset = 0; rights = 0 }

-- word q of a range: "BASE, LIMIT, OFFSET, rights"
unfoldable pub field_of : Range → ℕ → ℕ
field_of r q = cond (eqb q 0) r.base (cond (eqb q 1) r.limit (cond (eqb q 2) r.offset r.rights))

-- "1 for a leaf or else 0"
unfoldable pub leaf_word : Bool → ℕ
leaf_word leaf = cond leaf 1 0

-- word j of a node with these ranges and child numbers; "Unused words are zero"
unfoldable pub node_word : Bool → List Range → List ℕ → ℕ → ℕ
node_word leaf rs cs j =
    cond (eqb j 0) (length rs)
    (cond (eqb j 1) (leaf_word leaf)
    (cond (ltb j 18) (field_of (get_or rs ((j - 2) / 4) no_range) ((j - 2) % 4))
    (get_or cs (j - 18) 0)))

-- Reading a buffer: the root's number, and the count, leaf word, ranges and child numbers of node n, whatever the words are

unfoldable pub root_in : List ℕ → ℕ
root_in b = get_or b 0 0

unfoldable pub count_in : List ℕ → ℕ → ℕ
count_in b n = get_or b (1 + n * 24) 0

unfoldable pub leaf_in : List ℕ → ℕ → ℕ
leaf_in b n = get_or b (1 + n * 24 + 1) 0

unfoldable pub range_in : List ℕ → ℕ → ℕ → Range
range_in b n i = record { base = get_or b (1 + n * 24 + 2 + i * 4) 0; limit = get_or b (1 + n * 24 + 2 + i * 4 + 1) 0; offset = get_or b (1 + n * 24 + 2 + i * 4 + 2) 0; rights = get_or b (1 + n * 24 + 2 + i * 4 + 3) 0 }

unfoldable pub child_in : List ℕ → ℕ → ℕ → ℕ
child_in b n i = get_or b (1 + n * 24 + 18 + i) 0

-- node m has the same words
pub record SameNode (b b' : List ℕ) (m : ℕ) : Type 0 where
  pub same : (j : ℕ) → j < 24 → get_or b' (1 + m * 24 + j) 0 ≡ get_or b (1 + m * 24 + j) 0
