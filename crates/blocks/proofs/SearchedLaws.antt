-- The first order tried that has a free block gives the old choice, and what is known after it.
use mathlib.Core.Path.{◌≡◌, refl, ap, ◌∙◌, sym}
use mathlib.Core.Bool.{Bool, true, false}
use mathlib.Core.List.{List}
use mathlib.Core.Option.{Option, none, some}
use Prim.Native.Nat.{ℕ, ◌+◌, ◌*◌, ◌^◌, ◌-◌, ◌<◌, ◌≤◌, min, zero-le}
use native.Mathlib.Decide.{dec_lt, dec_le, ℕ_discrete}
use native.Mathlib.Omega.{arith}
use lib.Dec.{eqb, leb, ltb}
use lib.ListN.{get_or}
use lib.Pow.{pow_mono}
use borrow.Author.Tests.{leb-true, le-leb, lt-leb, eqb-true, eq-eqb, ne_eqb, lt-ltb, le-ltb}
use Rattle.words.specs.Searches.{largest, first_from, is_some}
use Rattle.words.proofs.Cases.{by-test, by-dec, true-false, and-false, none-some, not_there}
use Rattle.words.proofs.SearchLaws.{First, found, missing, first_from-is, first-unique, first-none, Largest, greatest, nothing, largest-is, largest-unique, largest-none, some_is, none_is}
use Rattle.words.proofs.PowerLaws.{double}
use Rattle.blocks.specs.declared.Block.{Block}
use Rattle.blocks.specs.declared.Bound.{Bound}
use Rattle.blocks.specs.Blocks.{block, free_block}
use Rattle.blocks.specs.FrameWords.{free_in, lawful}
use Rattle.blocks.specs.Choice.{lowest, serving, is_served, order_for, cut_at, take_from, old_choice, take_order, take_block, end_of, without}
use Rattle.blocks.specs.Inner.Around.{start_of, around}
use Rattle.blocks.specs.Inner.Taking.{Clear, Searched, nothing_known}
use Rattle.blocks.specs.Inner.Passes.{order_within, order_at, TopOrder, scan_from, from_after, bound_after}
use Rattle.blocks.proofs.AroundLaws.{start-next, in-block, block_in, start-same, start-start, around-at, at-around, without-free, without-out}
use Rattle.blocks.proofs.FreeBlockLaws.{BlockAt, free-block-at, at-free-block, in-block-at}
use Rattle.blocks.proofs.WordLaws.{lawful-is, word-block, no_block}
use Rattle.blocks.proofs.ChoiceLaws.{lowest-at, at-lowest, serving-at, at-serving, at-served, old-choice}

-- the order that fits the pages left

pub record Within (left top : ℕ) : Type 0 where
  pub small : top ≤ 10
  pub fits : 2 ^ top ≤ left
  pub no_more : (m : ℕ) → top < m → m ≤ 10 → leb (2 ^ m) left ≡ false

pub within : (left top : ℕ) → order_within left ≡ some top → Within left top
unfolding order_within
within left top e = go (largest 10 (λ i. leb (2 ^ i) left)) e (largest-is 10 (λ i. leb (2 ^ i) left))
  where
    go : (o : Option ℕ) → o ≡ some top → Largest 10 (λ i. leb (2 ^ i) left) o → Within left top
    go o e (greatest j hi y m) =
        let s : j ≡ top = cc in
        record { small = omega arith; fits = rw (← s) (leb-true _ _ y); no_more = λ i lt le. m i (omega arith) le }
    go o e (nothing m) = none-some top none refl e

-- the orders tried

pub tried-up : (limit top t : ℕ) → top + t ≤ limit → top + t ≡ order_at limit top t
unfolding order_at
tried-up limit top t h = rw (le-leb _ _ h, order_at)

pub tried-down : (limit top t : ℕ) → limit < top + t → limit - t ≡ order_at limit top t
unfolding order_at
tried-down limit top t h = rw (lt-leb _ _ h, order_at)

pub tried-small : (limit top t k : ℕ) → limit ≤ 10 → k ≡ order_at limit top t → k ≤ 10
tried-small limit top t k h e =
    by-dec (dec_le (top + t) limit)
    (λ le. let q = tried-up limit top t le in omega arith)
    (λ gt. let q = tried-down limit top t (omega arith) in omega arith)

-- the largest order up to a limit

-- some order fits
order-there : (left : ℕ) → 1 ≤ left → (L : ℕ) × (order_within left ≡ some L)
unfolding order_within
order-there left pos = go (largest 10 (λ i. leb (2 ^ i) left)) refl (largest-is 10 (λ i. leb (2 ^ i) left))
  where
    go : (o : Option ℕ) → largest 10 (λ i. leb (2 ^ i) left) ≡ o → Largest 10 (λ i. leb (2 ^ i) left) o → (L : ℕ) × (largest 10 (λ i. leb (2 ^ i) left) ≡ some L)
    go o e (greatest j hi y m) = (j, e)
    go o e (nothing m) = true-false (leb 1 left) (le-leb 1 left pos) (m 0 zero-le)

-- as the code finds it: k is the logarithm of the pages left, rounded down
pub top-found : (left limit k r : ℕ) → limit ≤ 10 → 2 ^ k ≤ left → left < 2 * 2 ^ k → r ≡ min k limit → TopOrder left limit r
top-found left limit k r cap fits less re = record {
  is-least = λ L o.
      let w = within left L o in
      let up : (m : ℕ) → m ≤ k → m ≤ 10 → m ≤ L =
      λ m lo hi. by-dec (dec_le m L) (λ le. le) (λ gt. let p : 2 ^ m ≤ 2 ^ k = pow_mono lo in true-false (leb (2 ^ m) left) (le-leb (2 ^ m) left (omega arith)) (w.no_more m (omega arith) hi))
      in
      let down : L ≤ k = by-dec (dec_le L k) (λ le. le) (λ gt. let p : 2 ^ (k + 1) ≤ 2 ^ L = pow_mono (omega arith) in absurd (omega (arith, double k, p, w.fits))) in
      omega (arith, up (min k 10) (omega arith) (omega arith), down, w.small, cap, re);
}

module _ (left limit top : ℕ) (pos : 1 ≤ left) (found : TopOrder left limit top) where
  pub top-is : (L : ℕ) × (order_within left ≡ some L) × (top ≡ min L limit)
  top-is = let q = order-there left pos in (q.0, q.1, found.is-least q.0 q.1)

  pub top-low : top ≤ limit
  top-low = omega (arith, top-is.2)

  -- up to the largest order of all it is the one that fits
  pub top-fits : 10 ≤ limit → order_within left ≡ some top
  top-fits all =
      let q = top-is in
      let w = within left q.0 q.1 in
      let same : q.0 ≡ top = omega (arith, all, w.small, q.2) in
      q.1 ∙ ap some same

-- no order tried before t has a free block
pub NoneTried : ℕ → (ℕ → Bool) → ℕ → ℕ → ℕ → Type 0
NoneTried F free limit top t = (u : ℕ) → u < t → lowest F free (order_at limit top u) ≡ none

module _ (F : ℕ) (free : ℕ → Bool) (limit top : ℕ) where
  pub none-zero : NoneTried F free limit top 0
  unfolding NoneTried
  none-zero u h = absurd (omega arith)

  none_more : (t : ℕ) → NoneTried F free limit top t → lowest F free (order_at limit top t) ≡ none → NoneTried F free limit top (t + 1)
  unfolding NoneTried
  none_more t n e u h = by-dec (ℕ_discrete u t) (λ x. rw x e) (λ ne. n u (omega arith))

  -- an order at least top, and one below it
  none-up : (t j : ℕ) → NoneTried F free limit top t → top ≤ j → j ≤ limit → j < top + t → lowest F free j ≡ none
  unfolding NoneTried
  none-up t j n lo hi lt =
      let e : top + (j - top) ≡ j = omega arith in
      let o : order_at limit top (j - top) ≡ j = sym (tried-up limit top (j - top) (omega arith)) ∙ e in
      ap (lowest F free) (sym o) ∙ n (j - top) (omega arith)

  none-down : (t j : ℕ) → top ≤ limit → NoneTried F free limit top t → j < top → limit < t + j → lowest F free j ≡ none
  unfolding NoneTried
  none-down t j tl n lo lt =
      let e : limit - (limit - j) ≡ j = omega arith in
      let o : order_at limit top (limit - j) ≡ j = sym (tried-down limit top (limit - j) (omega arith)) ∙ e in
      ap (lowest F free) (sym o) ∙ n (limit - j) (omega arith)

-- no free block has an order above limit
unfoldable pub NoneAbove : ℕ → (ℕ → Bool) → ℕ → Type 0
NoneAbove F free limit = (k : ℕ) → limit < k → k ≤ 10 → lowest F free k ≡ none

module _ (F : ℕ) (free : ℕ → Bool) (left : ℕ) where
  taken : (i j s : ℕ) → i ≤ 10 → 2 ^ i ≤ left → serving F free i ≡ some j → lowest F free j ≡ some s
      → ((m : ℕ) → i < m → m ≤ 10 → is_served F free left m ≡ false) → take_block F free none left ≡ some (block i s)
  unfolding take_block order_for take_order
  taken i j s hi fits a b more =
      let o : largest 10 (is_served F free left) ≡ some i = largest-unique 10 (is_served F free left) i hi (at-served F free left i fits (some_is (serving F free i) j a)) more in
      ap (λ (o : Option ℕ). elim o [ none ↦ none | some i ↦ old_choice F free i ]) o ∙ old-choice F free i j s a b

  pub too_large : (m : ℕ) → leb (2 ^ m) left ≡ false → is_served F free left m ≡ false
  unfolding is_served
  too_large m e = rw (e, is_served)

  -- an order that nothing serves
  unserved : (m : ℕ) → ((j : ℕ) → m ≤ j → j ≤ 10 → lowest F free j ≡ none) → m ≤ 10 → is_served F free left m ≡ false
  unfolding is_served serving
  unserved m n hi =
      let z : first_from (11 - m) m (λ j. is_some (lowest F free j)) ≡ none = first-none (11 - m) m _ (λ j lo up. none_is _ (n j lo (omega arith))) in
      by-test (leb (2 ^ m) left)
      (λ t. rw (t, is_served) (none_is _ z))
      (λ t. rw (t, is_served))

  module _ (limit top L : ℕ) (cap : limit ≤ 10) (above : NoneAbove F free limit) (w : Within left L) (te : top ≡ min L limit) where
    -- an order above top does not fit, or nothing is free of it or above
    none-served : (m : ℕ) → top < m → m ≤ 10 → is_served F free left m ≡ false
    unfolding NoneAbove
    none-served m lt hi =
        by-dec (dec_le m L)
        (λ mL. unserved m (λ j lo h. above j (omega arith) h) hi)
        (λ gt. too_large m (w.no_more m (omega arith) hi))

    first-order : (t s : ℕ) → t ≤ limit → NoneTried F free limit top t → lowest F free (order_at limit top t) ≡ some s
        → take_block F free none left ≡ some (block (min (order_at limit top t) top) s)
    unfolding serving NoneAbove
    first-order t s ht n e =
        let topL : top ≤ L = omega arith in
        let topl : top ≤ limit = omega arith in
        let f = w.fits in
        let fm : 2 ^ top ≤ 2 ^ L = pow_mono topL in
        by-dec (dec_le (top + t) limit)
        (λ le.
        let o : order_at limit top t ≡ top + t = sym (tried-up limit top t le) in
        let a : lowest F free (top + t) ≡ some s = ap (lowest F free) (sym o) ∙ e in
        let l : min (order_at limit top t) top ≡ top = omega arith in
        let sv : serving F free top ≡ some (top + t) =
        first-unique (11 - top) top (λ j. is_some (lowest F free j)) (top + t) (omega arith) (omega arith) (some_is _ s a)
        (λ j lo hi. none_is _ (none-up F free limit top t j n lo (omega arith) hi))
        in
        rw l (taken top (top + t) s (omega arith) (omega arith) sv a none-served))
        (λ gt.
        let k : ℕ = limit - t in
        let o : order_at limit top t ≡ k = sym (tried-down limit top t (omega arith)) in
        let a : lowest F free k ≡ some s = ap (lowest F free) (sym o) ∙ e in
        let l : min (order_at limit top t) top ≡ k = omega arith in
        let up : (j : ℕ) → k < j → j ≤ 10 → lowest F free j ≡ none =
        λ j lo hi. by-dec (dec_lt limit j) (λ x. above j x hi)
        (λ x. by-dec (dec_le top j) (λ ge. none-up F free limit top t j n ge (omega arith) (omega arith)) (λ lt. none-down F free limit top t j topl n (omega arith) (omega arith)))
        in
        let sv : serving F free k ≡ some k =
        first-unique (11 - k) k (λ j. is_some (lowest F free j)) k (omega arith) (omega arith) (some_is _ s a)
        (λ j lo hi. absurd (omega arith))
        in
        let m : 2 ^ k ≤ 2 ^ top = pow_mono (omega arith) in
        rw l (taken k k s (omega arith) (omega arith) sv a (λ m lt hi. unserved m (λ j lo h. up j (omega arith) h) hi)))

    no-order : NoneTried F free limit top (limit + 1) → take_block F free none left ≡ none
    unfolding take_block order_for take_order NoneAbove
    no-order n =
        let topl : top ≤ limit = omega arith in
        let all : (j : ℕ) → j ≤ 10 → lowest F free j ≡ none =
        λ j hi. by-dec (dec_lt limit j) (λ x. above j x hi)
        (λ x. by-dec (dec_le top j) (λ ge. none-up F free limit top (limit + 1) j n ge (omega arith) (omega arith)) (λ lt. none-down F free limit top (limit + 1) j topl n (omega arith) (omega arith)))
        in
        let o : largest 10 (is_served F free left) ≡ none = largest-none 10 (is_served F free left) (λ m hi. unserved m (λ j lo h. all j h) hi) in
        ap (λ (o : Option ℕ). elim o [ none ↦ none | some i ↦ old_choice F free i ]) o

-- the scan for one order

module _ (F : ℕ) (free : ℕ → Bool) (k f : ℕ) where
  -- no block of order k starts inside the one at f
  clear-more : Clear F free k f → start_of k f ≡ f → free_block F free k f ≡ false → Clear F free k (f + 2 ^ k)
  clear-more c st n = record {
    none-at = λ s h. by-dec (dec_lt s f)
        (λ lt. c.none-at s lt)
        (λ ge. by-test (free_block F free k s)
        (λ t.
        let own : start_of k s ≡ s = (free-block-at F free k s t).aligned in
        let one : start_of k s ≡ start_of k f = start-same k f s (block_in k f s (omega arith) (omega arith)) in
        let same : s ≡ f = omega arith in
        rw same n)
        (λ t. t));
  }

  clear_none : Clear F free k f → F ≤ f → lowest F free k ≡ none
  unfolding lowest
  clear_none c h = first-none F 0 (free_block F free k) (λ j lo hi. c.none-at j (omega arith))

  clear-found : Clear F free k f → f < F → free_block F free k f ≡ true → lowest F free k ≡ some f
  unfolding lowest
  clear-found c h t = first-unique F 0 (free_block F free k) f zero-le (omega arith) t (λ j lo hi. c.none-at j hi)

  found-clear : lowest F free k ≡ some f → Clear F free k f
  unfolding lowest
  found-clear e = go (first_from F 0 (free_block F free k)) e (first_from-is F 0 (free_block F free k))
    where
      go : (o : Option ℕ) → o ≡ some f → First F 0 (free_block F free k) o → Clear F free k f
      go o e (found x lo hi t m) = let xf : x ≡ f = cc in record { none-at = λ s h. m s zero-le (omega arith) }
      go o e (missing m) = none-some f none refl e

-- no free block of order k was missed below the frame from which it is scanned
pub from-clear : (F : ℕ) (free : ℕ → Bool) (x : Bound) (k s : ℕ) → Searched F free x → s ≡ scan_from x k → Clear F free k s
unfolding scan_from
from-clear F free x k s known e =
    by-test (eqb k x.limit)
    (λ t. let kl : k ≡ x.limit = eqb-true _ _ t in let sf : s ≡ x.from.0 = rw (t, scan_from) at e in rw (kl, sf) known.before)
    (λ t. let sz : s ≡ 0 = rw (t, scan_from) at e in record { none-at = λ g h. absurd (omega arith) })

-- the scan starts at the start of the block that holds this frame
pub scan-start : (F : ℕ) (free : ℕ → Bool) (x : Bound) (k s f : ℕ) → Searched F free x → s ≡ scan_from x k → f ≡ start_of k s → Clear F free k f × (start_of k f ≡ f)
scan-start F free x k s f known e fe =
    let low : start_of k s ≤ s = (in-block k s s refl).0 in
    (record { none-at = λ g h. (from-clear F free x k s known e).none-at g (omega arith) }, rw fe (start-start k s))

pub scan-same : (x : Bound) (k : ℕ) → k ≡ x.limit → x.from.0 ≡ scan_from x k
unfolding scan_from
scan-same x k e = rw (eq-eqb _ _ e, scan_from)

pub scan-other : (x : Bound) (k : ℕ) → (k ≡ x.limit → ⊥) → 0 ≡ scan_from x k
unfolding scan_from
scan-other x k n = rw (ne_eqb _ _ n, scan_from)

above_of : (F : ℕ) (free : ℕ → Bool) (x : Bound) → Searched F free x → NoneAbove F free x.limit
unfolding NoneAbove
above_of F free x known = known.above

-- the order that is chosen, where earlier searches have shown x: at most the least of its limit and the order that fits
module _ (F : ℕ) (free : ℕ → Bool) (left : ℕ) (x : Bound) (L top : ℕ) (o : order_within left ≡ some L) (te : top ≡ min L x.limit) (known : Searched F free x) where
  pub above-top : (m : ℕ) → top < m → m ≤ 10 → is_served F free left m ≡ false
  above-top = none-served F free left x.limit top L known.small (above_of F free x known) (within left L o) te

  pub order-low : (i : ℕ) → order_for F free left ≡ some i → i ≤ top
  unfolding order_for
  order-low i e = go (largest 10 (is_served F free left)) e (largest-is 10 (is_served F free left))
    where
      go : (c : Option ℕ) → c ≡ some i → Largest 10 (is_served F free left) c → i ≤ top
      go c ce (greatest j hi t m) =
          let ji : j ≡ i = cc in
          by-dec (dec_le j top) (λ le. omega arith) (λ gt. true-false (is_served F free left j) t (above-top j (omega arith) hi))
      go c ce (nothing m) = none-some i none refl ce

-- what the search ends with

module _ (F : ℕ) (b : List ℕ) (lw : lawful F b ≡ true) (left : ℕ) (x : Bound) (L top t : ℕ) (o : order_within left ≡ some L) (te : top ≡ min L x.limit) (known : Searched F (free_in b) x) where
  pub chosen : (k f m : ℕ) → t < x.limit + 1 → k ≡ order_at x.limit top t → NoneTried F (free_in b) x.limit top t → Clear F (free_in b) k f → f < F → get_or b f 0 ≡ 16384 + k
      → m ≡ min k top → take_block F (free_in b) none left ≡ some (block m f)
  chosen k f m ht ke n cl h e me =
      let is : lowest F (free_in b) k ≡ some f = clear-found F (free_in b) k f cl h (at-free-block F (free_in b) k f (word-block F b (lawful-is F b lw) k f h e)) in
      let took : take_block F (free_in b) none left ≡ some (block (min (order_at x.limit top t) top) f) =
      first-order F (free_in b) left x.limit top L known.small (above_of F (free_in b) x known) (within left L o) te t f (omega arith) n (rw (← ke) is)
      in
      let mm : m ≡ min (order_at x.limit top t) top = rw (← ke) me in
      rw mm took

  pub chosen_none : NoneTried F (free_in b) x.limit top t → t ≡ x.limit + 1 → take_block F (free_in b) none left ≡ none
  chosen_none n e = no-order F (free_in b) left x.limit top L known.small (above_of F (free_in b) x known) (within left L o) te (rw e at n)

-- the scan for an order has passed the pool
pub skipped : (F : ℕ) (free : ℕ → Bool) (limit top t k f : ℕ) → k ≡ order_at limit top t → NoneTried F free limit top t → Clear F free k f → F ≤ f → NoneTried F free limit top (t + 1)
skipped F free limit top t k f ke n cl h = none_more F free limit top t n (rw (← ke) (clear_none F free k f cl h))

-- the scan goes one block on
pub passed : (F : ℕ) (b : List ℕ) → lawful F b ≡ true → (k f z : ℕ) → z ≡ 2 ^ k → Clear F (free_in b) k f × (start_of k f ≡ f) → f < F → (get_or b f 0 ≡ 16384 + k → ⊥)
    → Clear F (free_in b) k (f + z) × (start_of k (f + z) ≡ f + z)
passed F b lw k f z e (cl, st) h n = rw e (clear-more F (free_in b) k f cl st (no_block F b (lawful-is F b lw) k f h n), start-next k f st)

-- what is known after a block was taken

module _ (F : ℕ) (free : ℕ → Bool) where
  pub nothing_known_lem : Searched F free nothing_known
  nothing_known_lem = record { small = omega arith; above = λ k lo hi. absurd (omega arith); before = record { none-at = λ s h. absurd (omega arith) } }

  cut-is : (i : ℕ) (x : Block) (o : Option ℕ) → cut_at i o ≡ some x → (x.order ≡ i) × (o ≡ some x.start.0)
  unfolding cut_at
  cut-is i x none e = none-some x none refl e
  cut-is i x (some s) e = let q : block i s ≡ x = cc in (sym (ap (λ (y : Block). y.order) q), ap (λ (y : Block). some y.start.0) q)

  pub from_is : (i : ℕ) (x : Block) (o : Option ℕ) → take_from F free i o ≡ some x → (x.order ≡ i) × ((j : ℕ) × (o ≡ some j) × (lowest F free j ≡ some x.start.0))
  unfolding take_from
  from_is i x none e = none-some x none refl e
  from_is i x (some j) e = let q = cut-is i x (lowest F free j) e in (q.0, (j, refl, q.1))

  -- the free block that is cut: it has the smallest order that serves, and is the lowest of it
  pub cut-from : (left : ℕ) (x : Block) → take_block F free none left ≡ some x → (j : ℕ) × (serving F free x.order ≡ some j) × (lowest F free j ≡ some x.start.0)
  unfolding take_block take_order old_choice
  cut-from left x e = go (order_for F free left) e
    where
      go : (o : Option ℕ) → ◌≡◌ {A = Option Block} (elim o [ none ↦ none | some i ↦ old_choice F free i ]) (some x) → (j : ℕ) × (serving F free x.order ≡ some j) × (lowest F free j ≡ some x.start.0)
      go none eo = none-some x none refl eo
      go (some i) eo = let p = from_is i x (serving F free i) eo in (p.1.0, ap (serving F free) p.0 ∙ p.1.1, p.1.2)

  -- where a block of the next order fits too, none of a larger order is free
  pub none-larger : (left i : ℕ) → order_for F free left ≡ some i → 2 ^ (i + 1) ≤ left → NoneAbove F free i
  unfolding order_for NoneAbove
  none-larger left i e fits = go (largest 10 (is_served F free left)) e (largest-is 10 (is_served F free left))
    where
      go : (o : Option ℕ) → o ≡ some i → Largest 10 (is_served F free left) o → (k : ℕ) → i < k → k ≤ 10 → lowest F free k ≡ none
      go o oe (nothing n) k lo hk = none-some i none refl oe
      go o oe (greatest j hi y more) k lo hk =
          let ji : j ≡ i = cc in
          not_there (lowest F free k) (λ s es.
          let served = at-served F free left (i + 1) fits (at-serving F free (i + 1) k s (omega arith) hk (lowest-at F free k s es)) in
          true-false (is_served F free left (i + 1)) served (more (i + 1) (omega arith) (omega arith)))

  -- then the old choice is the first of its order
  pub first-of-order : (left : ℕ) (x : Block) → x.order ≤ 10 → NoneAbove F free x.order → take_block F free none left ≡ some x → lowest F free x.order ≡ some x.start.0
  unfolding NoneAbove
  first-of-order left x small none-up e =
      let q = cut-from left x e in
      let j : ℕ = q.0 in
      let s = serving-at F free x.order j small q.1 in
      let up : x.order ≤ j = s.0 in
      let same : j ≡ x.order = by-dec (dec_lt x.order j)
      (λ lt. none-some x.start.0 (lowest F free j) (none-up j lt s.1) q.2)
      (λ le. omega arith) in
      rw same at q.2

  -- what is known stays known when frames are taken
  pub stays : (i s : ℕ) (x : Bound) → Searched F free x → Searched F (without free i s) x
  stays i s x known = record {
    small = known.small;
    above = λ k lo hi. not_there (lowest F (without free i s) k) (λ t et.
        let q = larger k t hi (free_of_lem k t (lowest-at F (without free i s) k t et).maximal.whole) in
        let kq = q.1 in
        let r = at-lowest F free q.0 (start_of q.0 t) q.3 in
        none-some r.0 (lowest F free q.0) (known.above q.0 (omega arith) q.2) r.1);
    before = record { none-at = λ t ht. by-test (free_block F (without free i s) x.limit t) (λ y. gone t ht (free-block-at F (without free i s) x.limit t y)) (λ y. y) };
  }
    where
      free_of_lem : (k t : ℕ) → around F (without free i s) t k ≡ true → around F free t k ≡ true
      free_of_lem k t y = at-around F free k t (λ g e. let r = around-at F (without free i s) k t y g e in (r.0, without-free free i s g r.1))

      larger : (k t : ℕ) → k ≤ 10 → around F free t k ≡ true → (j : ℕ) × (k ≤ j) × (j ≤ 10) × BlockAt F free j (start_of j t)
      larger k t hi y = in-block-at F free k t hi y

      gone : (t : ℕ) → t < x.from.0 → BlockAt F (without free i s) x.limit t → free_block F (without free i s) x.limit t ≡ false
      gone t ht b =
          let q = larger x.limit t known.small (free_of_lem x.limit t b.maximal.whole) in
          let lq = q.1 in
          let r = at-lowest F free q.0 (start_of q.0 t) q.3 in
          by-dec (dec_lt x.limit q.0)
          (λ up. none-some r.0 (lowest F free q.0) (known.above q.0 up q.2) r.1)
          (λ le.
          let same : q.0 ≡ x.limit = omega arith in
          let st : start_of q.0 t ≡ t = rw (← same) at b.aligned in
          let here : BlockAt F free x.limit t = rw (st, same) at q.3 in
          true-false (free_block F free x.limit t) (at-free-block F free x.limit t here) (known.before.none-at t ht))

-- what is known then, by cases, as the code decides it

module _ (x : Bound) (b : Block) (wish : ℕ) where
  pub from-met : b.start.0 ≡ wish → scan_from x b.order ≡ from_after x b wish
  unfolding from_after
  from-met e = rw (eq-eqb _ _ e, from_after)

  pub from_old : (b.start.0 ≡ wish → ⊥) → end_of b ≡ from_after x b wish
  unfolding from_after
  from_old n = rw (ne_eqb _ _ n, from_after)

  module _ (left : ℕ) where
    pub bound-same : (b.order < 10 → left < 2 ^ (b.order + 1)) → x ≡ bound_after x b wish left
    unfolding bound_after
    bound-same h =
        by-dec (dec_lt b.order 10)
        (λ lt. rw (and-false (ltb b.order 10) _ (lt-leb _ _ (h lt)), bound_after))
        (λ ge. rw (le-ltb b.order 10 (omega arith), bound_after))

    pub bound-down : (from : ℕ) → b.order < 10 → 2 ^ (b.order + 1) ≤ left → from ≡ from_after x b wish → record { limit = b.order; from = record { 0 = from } } ≡ bound_after x b wish left
    unfolding bound_after
    bound-down from h fits e = rw (e, lt-ltb _ _ h, le-leb _ _ fits, bound_after)

-- what is known where no block of a larger order than that of block b is free
module _ (F : ℕ) (free : ℕ → Bool) (b : Block) (small : b.order < 10) (none-up : NoneAbove F free b.order) where
  -- the search for its order has come to f
  pub known-to : (f : ℕ) → Clear F free b.order f → Searched F free (record { limit = b.order; from = record { 0 = f } })
  unfolding NoneAbove
  known-to f clear = record { small = omega arith; above = none-up; before = clear }

  -- it is the lowest of its order, and is taken
  pub known_behind : start_of b.order b.start.0 ≡ b.start.0 → lowest F free b.order ≡ some b.start.0
      → Searched F (without free b.order b.start.0) (record { limit = b.order; from = record { 0 = end_of b } })
  known_behind st is =
      let rest = stays F free b.order b.start.0 _ (known-to b.start.0 (found-clear F free b.order b.start.0 is)) in
      record { small = rest.small; above = rest.above; before = clear-more F (without free b.order b.start.0) b.order b.start.0 rest.before st gone }
    where
      gone : free_block F (without free b.order b.start.0) b.order b.start.0 ≡ false
      gone =
          by-test (free_block F (without free b.order b.start.0) b.order b.start.0)
          (λ t.
          let whole = (free-block-at F (without free b.order b.start.0) b.order b.start.0 t).maximal.whole in
          absurd (without-out free b.order b.start.0 b.start.0 st (around-at F (without free b.order b.start.0) b.order b.start.0 whole b.start.0 refl).1 refl))
          (λ f. f)
