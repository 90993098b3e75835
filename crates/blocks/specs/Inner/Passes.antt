-- What the inner functions of the pool promise, and nothing else does: each a step of a pass over the buffer, said of single words.
use Rattle.std.specs.Prelude.{◌≡◌, Bool, true, false, ◌&&◌, List, ℕ, ◌+◌, ◌-◌, ◌^◌, ◌<◌, ◌≤◌, leb, ltb, eqb, min, get_or}
use Rattle.std.proofs.Math.Option.{Option, some}
use Rattle.words.specs.Counts.{one-if}
use Rattle.words.specs.Searches.{any_from, largest}
use Rattle.words.specs.Inner.{ChangedTo}
use Rattle.blocks.specs.declared.Block.{Block}
use Rattle.blocks.specs.declared.Bound.{Bound}
use Rattle.blocks.specs.Blocks.{largest_order, in_block}
use Rattle.blocks.specs.FrameWords.{owners_of, free_in, owned_in, first_of, frame_word}
use Rattle.blocks.specs.Owners.{cleared}
use Rattle.blocks.specs.Choice.{end_of}
use Rattle.blocks.specs.Inner.Around.{start_of, around, other_half}

-- Settling and checking, block after block

-- no wholly free block holds f and a frame below it
pub record Edge (F : ℕ) (free : ℕ → Bool) (f : ℕ) : Type 0 where
  pub starts : (m : ℕ) → m ≤ largest_order → around F free f m ≡ true → start_of m f ≡ f

-- the words from f up to r are those that the owners ask for, and every other is as it was; a free block starts at r or none holds it
pub record SettledTo (F : ℕ) (b : List ℕ) (f r : ℕ) (b' : List ℕ) : Type 0 where
  pub on : f < r
  pub inside : r ≤ F
  pub words : (g : ℕ) → f ≤ g → g < r → get_or b' g 0 ≡ frame_word F (owners_of b) g
  pub below : (g : ℕ) → g < f → get_or b' g 0 ≡ get_or b g 0
  pub above : (g : ℕ) → r ≤ g → get_or b' g 0 ≡ get_or b g 0
  pub edge : Edge F (free_in b) r

-- r is the frame after the free block at f, and the words of that are lawful
pub record Checked (F : ℕ) (b : List ℕ) (f r : ℕ) : Type 0 where
  pub settled : SettledTo F b f r b
  pub free : (g : ℕ) → f ≤ g → g < r → owned_in b g ≡ false

-- a word below F is not lawful
pub record Wrong (F : ℕ) (b : List ℕ) : Type 0 where
  pub place : ℕ
  pub below : place < F
  pub differs : get_or b place 0 ≡ frame_word F (owners_of b) place → ⊥

-- the frames from s up to r, r left out and at most e, are held
pub record HeldTo (b : List ℕ) (s e r : ℕ) : Type 0 where
  pub from : s ≤ r
  pub to : r ≤ e
  pub held : (g : ℕ) → s ≤ g → g < r → free_in b g ≡ false

-- Choosing: the orders in the sequence in which they are tried, so that the first that has a free block decides

-- the largest order, at most 10, whose size is at most the pages left
unfoldable pub order_within : ℕ → Option ℕ
order_within left = largest largest_order (λ i. leb (2 ^ i) left)

-- from top up to limit, then from below top down to 0
unfoldable pub order_at : ℕ → ℕ → ℕ → ℕ
order_at limit top t = elim (leb (top + t) limit) [ true ↦ top + t | false ↦ limit - t ]

-- r is the largest order up to limit whose size is at most the pages left
pub record TopOrder (left limit r : ℕ) : Type 0 where
  pub is-least : (L : ℕ) → order_within left ≡ some L → r ≡ min L limit

-- where the scan for order k starts
unfoldable pub scan_from : Bound → ℕ → ℕ
scan_from x k = elim (eqb k x.limit) [ true ↦ x.from.0 | false ↦ 0 ]

-- r is f or a later start of a block of order k, and no start from f on before it has the word of a free block of that order
pub record PassedTo (b : List ℕ) (k f r : ℕ) : Type 0 where
  pub on : f ≤ r
  pub starts : start_of k r ≡ r
  pub none_first : (g : ℕ) → f ≤ g → g < r → start_of k g ≡ g → get_or b g 0 ≡ first_of k → ⊥

-- the frame from which the next scan for the order of block b starts, where no larger free block is left: behind b where it lies elsewhere than at the wish, for then it was the lowest; at the wish it need not be, so where the scan would have started before
unfoldable pub from_after : Bound → Block → ℕ → ℕ
from_after x b wish = elim (eqb b.start.0 wish) [ true ↦ scan_from x b.order | false ↦ end_of b ]

-- what is known once block b is taken with this wish while so many pages are left: where a block of the next order fits too, none of a larger order is free
unfoldable pub bound_after : Bound → Block → ℕ → ℕ → Bound
bound_after x b wish left = elim (ltb b.order largest_order && leb (2 ^ (b.order + 1)) left) [ true ↦ record { limit = b.order; from = record { 0 = from_after x b wish } } | false ↦ x ]

-- Taking

-- of the free block of order j around s, the other halves of orders i up to j, j left out, have their first words
pub record Halved (b : List ℕ) (s i j : ℕ) (b' : List ℕ) : Type 0 where
  pub halves : (m : ℕ) → i ≤ m → m < j → get_or b' (other_half m s) 0 ≡ first_of m
  pub others : (g : ℕ) → ((m : ℕ) → i ≤ m → m < j → g ≡ other_half m s → ⊥) → get_or b' g 0 ≡ get_or b g 0

-- the block of order i at s is a part of the free block of order j around it, which the words say
pub record PartOf (F : ℕ) (b : List ℕ) (s i j : ℕ) : Type 0 where
  pub starts : start_of i s ≡ s
  pub below : i ≤ j
  pub inside : start_of j s < F
  pub first : get_or b (start_of j s) 0 ≡ first_of j

-- the owners when the block of order i at s is given to o, o + 1, ..
unfoldable pub handed : (ℕ → ℕ) → ℕ → ℕ → ℕ → ℕ → ℕ
handed owner i s o g = elim (in_block i s g) [ true ↦ o + (g - s) | false ↦ owner g ]

-- Freeing

-- the words below m are without the n owners from o on, and every other is as it was
abbrev pub ClearedTo : List ℕ → ℕ → ℕ → ℕ → List ℕ → Type 0
ClearedTo b o n m b' = ChangedTo (λ g w. cleared o n w) b 0 m b'

-- the mark of owner w is 1 if it is one of the n owners from o on, and the other marks are as they were
pub record MarkedOne (o n w : ℕ) (m m' : List ℕ) : Type 0 where
  pub this : (t : ℕ) → t < n → w ≡ o + t → get_or m' t 0 ≡ 1
  pub other : (t : ℕ) → t < n → (w ≡ o + t → ⊥) → get_or m' t 0 ≡ get_or m t 0

-- the mark of each of the n owners from o on is 1 if it holds a frame below m, else 0
pub record MarkedTo (b : List ℕ) (o n m : ℕ) (marks : List ℕ) : Type 0 where
  pub mark : (t : ℕ) → t < n → get_or marks t 0 ≡ one-if (any_from m 0 (λ g. eqb (owners_of b g) (o + t)))
