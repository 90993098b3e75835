-- The check that the calls make of a buffer: one walk in order from the root, that marks each node met and carries the lowest BASE that may follow; then every node not met is zero. That it finds just the lawful buffers is the statement `LawfulExactly`.
use Rattle.std.specs.Prelude.{Bool, true, false, cond, not, ◌&&◌, ◌||◌, List, Option, Some, None, option_and_then, ℕ, zero, suc, ◌+◌, ◌-◌, ◌*◌, leb, eqb, get_or, set, replicate}
use Rattle.words.specs.Searches.{all_from}
use Rattle.words.specs.Inner.{same_in}
use Rattle.trees.specs.declared.Range.{Range}
use Rattle.trees.specs.declared.Walk.{Walk}
use Rattle.trees.specs.Ranges.{proper}
use Rattle.trees.specs.Nodes.{root_in, leaf_word, count_in, leaf_in, range_in, child_in}
use Rattle.trees.specs.Trees.{height_of}

-- words k up to m of node n are zero
unfoldable pub zeros_in : List ℕ → ℕ → ℕ → ℕ → Bool
zeros_in b n k m = all_from (m - k) (1 + n * 24 + k) (same_in b 0)

-- a leaf has no children
unfoldable pub kids : Bool → ℕ → ℕ
kids leaf k = cond leaf 0 (k + 1)

-- node n, a leaf or not, has from `least` to four ranges, and zeros where it has nothing
unfoldable pub node_fits : List ℕ → Bool → ℕ → ℕ → Bool
node_fits b leaf least n =
    leb least (count_in b n)
    && (leb (count_in b n) 4
    && (eqb (leaf_in b n) (leaf_word leaf)
    && (zeros_in b n (2 + count_in b n * 4) 18
    && zeros_in b n (18 + kids leaf (count_in b n)) 24)))

-- node n is met
unfoldable pub met : Walk → ℕ → Walk
met w n = record { low = w.low; seen = set w.seen n true }

-- range r follows, if it may: a walk that finds something unlawful ends with none
unfoldable pub passed : Walk → Range → Option Walk
passed w r = cond (leb w.low r.base && proper r) (Some (record { low = r.limit; seen = w.seen })) None

-- node n may stand here: it is one of the 64, not yet met, and its words fit
unfoldable pub enters : List ℕ → Bool → ℕ → ℕ → Walk → Bool
enters b leaf least n w = leb n 63 && (not (get_or w.seen n false) && node_fits b leaf least n)

-- k ranges of node n from the i-th on, each after the child to its left, and the last child; g walks a child
unfoldable pub visit_from : (ℕ → Walk → Option Walk) → List ℕ → ℕ → ℕ → ℕ → Walk → Option Walk
visit_from g b n zero i w = g (child_in b n i) w
visit_from g b n (suc k) i w = option_and_then (λ v. option_and_then (λ x. visit_from g b n k (suc i) x) (passed v (range_in b n i))) (g (child_in b n i) w)

-- the subtree of a height at node n
unfoldable pub visit : List ℕ → ℕ → ℕ → ℕ → Walk → Option Walk
visit b zero least n w = Some w
visit b (suc h) least n w = cond (enters b (eqb h 0) least n w) (visit_from (visit b h 2) b n (count_in b n) 0 (met w n)) None

unfoldable pub start : Walk
start = record { low = 0; seen = replicate 64 false }

-- the walk over the whole tree; the root may have one range
unfoldable pub walked : List ℕ → Option Walk
walked b = visit b (height_of b) 1 (root_in b) start

-- a node that was not met is zero
unfoldable pub free_fits : List ℕ → List Bool → ℕ → Bool
free_fits b seen n = get_or seen n false || zeros_in b n 0 24

-- a walk that came through, and every node that it did not meet is zero
unfoldable pub came_through : List ℕ → Option Walk → Bool
came_through b None = false
came_through b (Some w) = all_from 64 0 (free_fits b w.seen)

unfoldable pub lawful : List ℕ → Bool
lawful b = came_through b (walked b)
