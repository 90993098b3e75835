-- Marks: what a preview notes of the blocks that it has chosen, so that it need not write frame words.
use Rattle.std.specs.Prelude.{◌≡◌, Bool, true, false, ◌&&◌, ◌||◌, not, List, ℕ, ◌+◌, ◌-◌, ◌/◌, ◌%◌, ◌^◌, ◌<◌, ◌≤◌, eqb, min, get_or, Option, IfSome, IfNone, MatchOption}
use Rattle.std.proofs.Math.Option.{none, some}
use Rattle.words.specs.Bits.{has_bit}
use Rattle.words.specs.Counts.{count}
use Rattle.blocks.specs.declared.Bound.{Bound}
use Rattle.blocks.specs.declared.Chosen.{Chosen}
use Rattle.blocks.specs.declared.Cut.{Cut}
use Rattle.blocks.specs.Blocks.{largest_order, wholly_free}
use Rattle.blocks.specs.FrameWords.{largest_pool, free_in, first_of, lawful}
use Rattle.blocks.specs.Choice.{take_block, end_of, HeldBefore}
use Rattle.blocks.specs.Inner.Around.{start_of}
use Rattle.blocks.specs.Inner.Taking.{Searched, BlockTaken}
use Rattle.blocks.specs.Inner.Passes.{order_within}

-- word 0: whether the rest of the call's pages come from the wished frame on; then a bit for each frame: the free block that starts there in the words lent is left no more
abbrev pub mark_words : ℕ
mark_words = 1 + 128

abbrev pub ahead_of : List ℕ → ℕ
ahead_of m = get_or m 0 0

unfoldable pub gone_at : List ℕ → ℕ → Bool
gone_at m s = has_bit (get_or m (1 + s / 32) 0) (s % 32)

-- by the words lent and the marks, a free block of order k starts at s
unfoldable pub starts_by : List ℕ → List ℕ → ℕ → ℕ → Bool
starts_by b m k s = eqb (get_or b s 0) (first_of k) && not (gone_at m s)

-- the words lent are b, and with the marks m they say the free blocks of w, the words that a map which writes would have by now
pub record Stands (F : ℕ) (b m w : List ℕ) : Type 0 where
  pub lawful : lawful F w ≡ true
  pub firsts : (k s : ℕ) → k ≤ largest_order → s < F → eqb (get_or w s 0) (first_of k) ≡ starts_by b m k s
  -- a frame that is free in w is free in the words lent
  pub free : (g : ℕ) → g < F → free_in w g ≡ true → free_in b g ≡ true

-- whatever words the marks stand for: r is the old choice, or none where that is none, where top is the largest order that can be chosen, and begins a free block of the order that r says
pub record Finds (F : ℕ) (b m : List ℕ) (top : ℕ) (known : Bound) (r : Option Cut) : Type 0 where
  pub block : (w : List ℕ) (left L : ℕ) → Stands F b m w → Searched F (free_in w) known → order_within left ≡ some L → top ≡ min L known.limit
      → MatchOption r (take_block F (free_in w) none left ≡ none) (λ c. take_block F (free_in w) none left ≡ some c.block)
  pub first : (w : List ℕ) → Stands F b m w → Searched F (free_in w) known → IfSome r (λ c. (c.block.order ≤ c.top) × (c.block.start.0 < F) × (get_or w c.block.start.0 0 ≡ first_of c.top))

-- whatever words the marks stand for: r is the order of the free block that holds the block of order k at the wish, or none where the wish is not met
pub record Wished (F : ℕ) (b m : List ℕ) (wish k : ℕ) (r : Option ℕ) : Type 0 where
  pub met : (w : List ℕ) → Stands F b m w → IfSome r (λ j. (wholly_free F (free_in w) k wish ≡ true) × (k ≤ j) × (start_of j wish < F) × (get_or w (start_of j wish) 0 ≡ first_of j))
  pub not-met : (w : List ℕ) → Stands F b m w → IfNone r (wholly_free F (free_in w) k wish ≡ false)

-- whatever words the marks stand for: r is the block that the rule takes of them with this wish, or none where it takes none, and a part of the free block of the order that r says around it
pub record Chooses (F : ℕ) (b m : List ℕ) (wish left : ℕ) (known : Bound) (r : Option Cut) : Type 0 where
  pub block : (w : List ℕ) → Stands F b m w → Searched F (free_in w) known
      → MatchOption r (take_block F (free_in w) (some wish) left ≡ none) (λ c. take_block F (free_in w) (some wish) left ≡ some c.block)
  pub first : (w : List ℕ) → Stands F b m w → Searched F (free_in w) known
      → IfSome r (λ c. (c.block.order ≤ c.top) × (start_of c.top c.block.start.0 < F) × (get_or w (start_of c.top c.block.start.0) 0 ≡ first_of c.top))

-- the block of some order at the wish is wholly free, and has at least as many frames as pages are left: all of them come from it
pub record Ahead (F : ℕ) (free : ℕ → Bool) (wish left : ℕ) : Type 0 where
  pub order : ℕ
  pub whole : wholly_free F free order wish ≡ true
  pub enough : left ≤ 2 ^ order

-- the marks are of a map that would have the words w by now and so many pages left. A block that is cut from a larger one leaves more above it than pages are left: then only that is marked
pub record Marking (F : ℕ) (b m w : List ℕ) (wish left : ℕ) : Type 0 where
  pub before : HeldBefore F (free_in w) wish
  pub lawful : lawful F w ≡ true
  pub ahead : (ahead_of m ≡ 0 → ⊥) → 1 ≤ left → Ahead F (free_in w) wish left
  pub stands : ahead_of m ≡ 0 → Stands F b m w

-- the marks are of some words, of which `known` holds and in which as many frames are free as pages are left
pub record Previewed (F : ℕ) (b m : List ℕ) (wish left : ℕ) (known : Bound) : Type 0 where
  pub words : List ℕ
  pub marking : Marking F b m words wish left
  pub searched : Searched F (free_in words) known
  pub enough : left ≤ count F (free_in words)

-- whatever words the marks were of, the block that the rule takes of them is chosen, and the marks are now of the words that are left when it is taken, by owners from any o on
pub record BlockMarked (F : ℕ) (b m : List ℕ) (wish left : ℕ) (known : Bound) (r : Chosen) (m' : List ℕ) : Type 0 where
  pub marked : (w : List ℕ) (o : ℕ) → Marking F b m w wish left → Searched F (free_in w) known → left ≤ count F (free_in w) → 1 ≤ o → o + left ≤ 4097
      → (w' : List ℕ) × BlockTaken F w o wish left r w' × Marking F b m' w' (end_of r.block) (left - 2 ^ r.block.order)

-- no free block lent starts at s any more
pub record GoneMarked (m : List ℕ) (s : ℕ) (m' : List ℕ) : Type 0 where
  pub gone : (g : ℕ) → g < largest_pool → gone_at m' g ≡ (gone_at m g || eqb g s)
  pub ahead : ahead_of m' ≡ ahead_of m

-- the block of order i at s is chosen, out of a free block of order j: that is left no more, or what is left of it is ahead
pub data CutMarked (m : List ℕ) (s i j : ℕ) (m' : List ℕ) : Type 0 where
  the-whole : i ≡ j → GoneMarked m s m' → CutMarked m s i j m'
  more-above : i < j → (ahead_of m' ≡ 0 → ⊥) → CutMarked m s i j m'
