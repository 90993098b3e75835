-- The blocks that a request takes: there is one while pages are left and a frame is free; what they hold is free, in the pool and given once.
use mathlib.Core.Path.{◌≡◌, refl, ap, ◌∙◌, sym, subst}
use mathlib.Core.Bool.{Bool, true, false, not, ◌&&◌}
use mathlib.Core.List.{List, [], ◌∷◌, ◌++◌}
use mathlib.Core.Option.{Option, none, some}
use Prim.Native.Nat.{ℕ, zero, suc, ◌+◌, ◌/◌, ◌^◌, ◌-◌, ◌<◌, ◌≤◌, zero-le}
use native.Mathlib.Nat.{not-suc-le-zero}
use native.Mathlib.Decide.{dec_lt, ℕ_discrete}
use native.Mathlib.Omega.{arith}
use lib.Dec.{leb, ltb}
use lib.ListN.{length, get_or, length-append, get_or-append}
use lib.Seq.{get_or-append-add}
use lib.Pow.{pow_pos}
use borrow.Author.Tests.{leb-true, le-leb, ltb-false}
use Rattle.words.specs.Tables.{tab_from}
use Rattle.words.specs.Counts.{count, one-if}
use Rattle.words.specs.Searches.{largest, is_some}
use Rattle.words.proofs.Cases.{by-test, by-dec, true-false, and-true, true-and}
use Rattle.words.proofs.TableLaws.{length-tab_from, get_or-tab_from}
use Rattle.words.proofs.CountLaws.{count-or, count-range, count-some}
use Rattle.words.proofs.SearchLaws.{First, found, missing, first_from-is, first-ext, Largest, greatest, nothing, largest-is, largest-ext, is-some-at, some_is}
use Rattle.blocks.specs.declared.Block.{Block}
use Rattle.blocks.specs.Blocks.{block, in_block, wholly_free, free_block}
use Rattle.blocks.specs.Choice.{lowest, serving, is_served, order_for, cut_at, take_from, old_choice, take_order, take_block, without, left_after, wish_after, take_blocks, frames_of, wish_of}
use Rattle.blocks.specs.Inner.Around.{start_of}
use Rattle.blocks.proofs.AroundLaws.{finer, start-in, coarser, in-block, block_in, in_block-is, is-in_block, not-in_block, around-at, free-around, without-free, without-out}
use Rattle.blocks.proofs.FreeBlockLaws.{BlockAt, whole-at, free-block-at, at-free-block, in-block-at, whole-ext, free-block-ext}

module _ (F : ℕ) (free : ℕ → Bool) where
  -- "lowest start": no free block of the order starts lower
  pub lowest_start : (k : ℕ) → First F 0 (free_block F free k) (lowest F free k)
  unfolding lowest
  lowest_start k = first_from-is F 0 (free_block F free k)

  -- "the smallest such order": no order from i up to it has a free block
  pub smallest-order : (i : ℕ) → First (11 - i) i (λ j. is_some (lowest F free j)) (serving F free i)
  unfolding serving
  smallest-order i = first_from-is (11 - i) i (λ j. is_some (lowest F free j))

  -- what the searches find
  pub lowest-at : (k s : ℕ) → lowest F free k ≡ some s → BlockAt F free k s
  lowest-at k s e = go (lowest F free k) e (lowest_start k)
    where
      go : (o : Option ℕ) → o ≡ some s → First F 0 (free_block F free k) o → BlockAt F free k s
      go o e (found x lo hi t m) = let xs : x ≡ s = cc in rw xs at (free-block-at F free k x t)
      go o e (missing m) = let z : ◌≡◌ {A = ℕ} 0 1 = cc in absurd (omega arith)

  pub at-lowest : (k s : ℕ) → BlockAt F free k s → (t : ℕ) × (lowest F free k ≡ some t)
  at-lowest k s b = go (lowest F free k) refl (lowest_start k)
    where
      go : (o : Option ℕ) → lowest F free k ≡ o → First F 0 (free_block F free k) o → (t : ℕ) × (lowest F free k ≡ some t)
      go o e (found x lo hi t m) = (x, e)
      go o e (missing m) = true-false (free_block F free k s) (at-free-block F free k s b) (m s zero-le (omega (arith, b.inside)))

  pub serving-at : (i j : ℕ) → i ≤ 10 → serving F free i ≡ some j → (i ≤ j) × (j ≤ 10) × ((s : ℕ) × (lowest F free j ≡ some s))
  serving-at i j hi e = go (serving F free i) e (smallest-order i)
    where
      go : (o : Option ℕ) → o ≡ some j → First (11 - i) i (λ j. is_some (lowest F free j)) o → (i ≤ j) × (j ≤ 10) × ((s : ℕ) × (lowest F free j ≡ some s))
      go o e (found x lo up t m) = let xj : x ≡ j = cc in (omega arith, omega arith, rw xj at (is-some-at (lowest F free x) t))
      go o e (missing m) = let z : ◌≡◌ {A = ℕ} 0 1 = cc in absurd (omega arith)

  pub at-serving : (i k s : ℕ) → i ≤ k → k ≤ 10 → BlockAt F free k s → is_some (serving F free i) ≡ true
  at-serving i k s ik hk b = go (serving F free i) refl (smallest-order i)
    where
      go : (o : Option ℕ) → serving F free i ≡ o → First (11 - i) i (λ j. is_some (lowest F free j)) o → is_some (serving F free i) ≡ true
      go o e (found x lo up t m) = some_is (serving F free i) x e
      go o e (missing m) =
          let q = at-lowest k s b in
          true-false (is_some (lowest F free k)) (some_is (lowest F free k) q.0 q.1) (m k ik (omega arith))

  -- the block that is taken: it lies in a free block
  pub record Took (left : ℕ) (b : Block) : Type 0 where
    pub fits : 2 ^ b.order ≤ left
    pub starts : start_of b.order b.start.0 ≡ b.start.0
    pub top : ℕ
    pub below : b.order ≤ top
    pub from : BlockAt F free top (start_of top b.start.0)

  served-at : (left i : ℕ) → is_served F free left i ≡ true → (2 ^ i ≤ left) × (is_some (serving F free i) ≡ true)
  unfolding is_served
  served-at left i t = let p = and-true _ _ t in (leb-true _ _ p.0, p.1)

  pub at-served : (left i : ℕ) → 2 ^ i ≤ left → is_some (serving F free i) ≡ true → is_served F free left i ≡ true
  unfolding is_served
  at-served left i h t = true-and _ _ (le-leb _ _ h) t

  pub old-choice : (i j s : ℕ) → serving F free i ≡ some j → lowest F free j ≡ some s → old_choice F free i ≡ some (block i s)
  unfolding old_choice take_from cut_at
  old-choice i j s a b = rw (a, take_from, b)

  -- the old choice of an order that is served
  take-old : (left i : ℕ) → i ≤ 10 → 2 ^ i ≤ left → is_some (serving F free i) ≡ true → (b : Block) × (old_choice F free i ≡ some b) × Took left b
  take-old left i hi h t =
      let j = is-some-at (serving F free i) t in
      let q = serving-at i j.0 hi j.1 in
      let s = q.2 in
      let b : Block = block i s.0 in
      let from = lowest-at j.0 s.0 s.1 in (
        b,
        old-choice i j.0 s.0 j.1 s.1,
        record {
          fits = h;
          starts = finer i j.0 s.0 q.0 from.aligned;
          top = j.0;
          below = q.0;
          from = subst (BlockAt F free j.0) (sym from.aligned) from;
        },
      )

  -- a block is taken, or no page is left or no frame is free
  pub data Taking (left : ℕ) : Option Block → Type 0 where
    one : (b : Block) → Took left b → Taking left (some b)
    end : ((f : ℕ) → f < F → free f ≡ true → 1 ≤ left → ⊥) → Taking left none

  -- the wish decides
  module _ (s i : ℕ) where
    pub order-met : wholly_free F free i s ≡ true → take_order F free (some s) i ≡ some (block i s)
    unfolding take_order
    order-met t = ap (λ (met : Bool). elim met [ true ↦ some (block i s) | false ↦ old_choice F free i ]) t

    pub order-not-met : wholly_free F free i s ≡ false → take_order F free (some s) i ≡ take_order F free none i
    unfolding take_order
    order-not-met f = ap (λ (met : Bool). elim met [ true ↦ some (block i s) | false ↦ old_choice F free i ]) f

  -- of an order that is served a block is taken, wished for or not
  old-taken : (left i : ℕ) → i ≤ 10 → 2 ^ i ≤ left → is_some (serving F free i) ≡ true → Taking left (take_order F free none i)
  unfolding take_order
  old-taken left i hi h t = let q = take-old left i hi h t in subst (Taking left) (sym q.1) (one q.0 q.2)

  order-taken : (wish : Option ℕ) (left i : ℕ) → i ≤ 10 → 2 ^ i ≤ left → is_some (serving F free i) ≡ true → Taking left (take_order F free wish i)
  order-taken none left i hi h t = old-taken left i hi h t
  order-taken (some s) left i hi h t =
      by-test (wholly_free F free i s)
      (λ y.
      let w = whole-at F free i s y in
      let q = in-block-at F free i s hi w.2 in
      subst (Taking left) (sym (order-met s i y)) (one (block i s) (record { fits = h; starts = w.1; top = q.0; below = q.1; from = q.3 })))
      (λ n. subst (Taking left) (sym (order-not-met s i n)) (old-taken left i hi h t))

  pub taking : (wish : Option ℕ) (left : ℕ) → Taking left (take_block F free wish left)
  unfolding take_block order_for
  taking wish left = go (largest 10 (is_served F free left)) (largest-is 10 (is_served F free left))
    where
      go : (o : Option ℕ) → Largest 10 (is_served F free left) o → Taking left (elim o [ none ↦ none | some i ↦ take_order F free wish i ])
      go o (greatest i hi t m) = let p = served-at left i t in order-taken wish left i hi p.0 p.1
      go o (nothing m) =
          end (λ f h t l.
          let a = in-block-at F free 0 f zero-le (free-around F free f h t) in
          true-false (is_served F free left 0) (at-served left 0 (omega arith) (at-serving 0 a.0 _ zero-le a.2 a.3)) (m 0 zero-le))

  -- the frames of the block taken are in the pool and free
  pub took-free : (left : ℕ) (b : Block) → Took left b → (g : ℕ) → g / 2 ^ b.order ≡ b.start.0 / 2 ^ b.order → (g < F) × (free g ≡ true)
  took-free left b w g e =
      around-at F free w.top _ w.from.maximal.whole g (coarser g b.start.0 b.order w.top w.below e ∙ sym (start-in w.top b.start.0))

split_one : (a b : Bool) → (b ≡ true → a ≡ true) → one-if a ≡ one-if (a && not b) + one-if b
unfolding one-if
split_one true true h = refl
split_one true false h = refl
split_one false true h = true-false false (h refl) refl
split_one false false h = refl

-- a block that is taken takes as many as it has
pub took-count : (F : ℕ) (free : ℕ → Bool) (left : ℕ) (b : Block) → Took F free left b
    → count F free ≡ count F (without free b.order b.start.0) + 2 ^ b.order
unfolding without
took-count F free left b w =
    let i : ℕ = b.order in
    let s : ℕ = b.start.0 in
    let st : start_of i s ≡ s = w.starts in
    let pos : 0 < 2 ^ i = pow_pos i in
    let last = took-free F free left b w (s + (2 ^ i - 1)) (block_in i s _ (omega arith) (omega arith)) in
    let mine : ℕ → Bool = in_block i s in
    let size : count F mine ≡ 2 ^ i =
    count-range F s (2 ^ i) mine (omega (arith, last.0))
    (λ g lo hi. is-in_block i s g st (block_in i s g (omega arith) (omega arith)))
    (λ g lo. not-in_block i s g st (λ e. let q = in-block i s g e in omega (arith, q.0)))
    (λ g hi. not-in_block i s g st (λ e. let q = in-block i s g e in omega (arith, q.1)))
    in
    let parts : count F free ≡ count F (without free i s) + count F mine = count-or F (without free i s) mine free (λ g h. part g) in
    rw size at parts
  where
    part : (g : ℕ) → one-if (free g) ≡ one-if (without free b.order b.start.0 g) + one-if (in_block b.order b.start.0 g)
    part g =
        split_one (free g) (in_block b.order b.start.0 g)
        (λ t. (took-free F free left b w g (in_block-is b.order b.start.0 g w.starts t)).1)

-- all the blocks of a request

-- the frames of one block
unfoldable pub own : Block → List ℕ
own b = tab_from (2 ^ b.order) b.start.0 (λ f. f)

pub length-own : (b : Block) → length (own b) ≡ 2 ^ b.order
unfolding own
length-own b = length-tab_from (2 ^ b.order) b.start.0 (λ f. f)

pub frames-cons : (b : Block) (bs : List Block) → frames_of (b ∷ bs) ≡ own b ++ frames_of bs
unfolding frames_of own
frames-cons b bs = refl

pub length-frames : (b : Block) (bs : List Block) → length (frames_of (b ∷ bs)) ≡ 2 ^ b.order + length (frames_of bs)
length-frames b bs = rw (frames-cons, length-append, length-own)

-- the frame of page t: in the first block, or in the rest
pub frame-first : (b : Block) (bs : List Block) (t : ℕ) → t < 2 ^ b.order → get_or (frames_of (b ∷ bs)) t 0 ≡ b.start.0 + t
unfolding own
frame-first b bs t h =
    let lt : t < length (own b) = omega (arith, length-own b) in
    rw (frames-cons, get_or-append (own b) (frames_of bs) 0 t lt) (get_or-tab_from (2 ^ b.order) b.start.0 (λ f. f) t 0 h)

pub frame-rest : (b : Block) (bs : List Block) (t : ℕ) → 2 ^ b.order ≤ t → get_or (frames_of (b ∷ bs)) t 0 ≡ get_or (frames_of bs) (t - 2 ^ b.order) 0
frame-rest b bs t h =
    let e : length (own b) + (t - 2 ^ b.order) ≡ t = omega (arith, length-own b) in
    let r : get_or (own b ++ frames_of bs) (length (own b) + (t - 2 ^ b.order)) 0 ≡ get_or (frames_of bs) (t - 2 ^ b.order) 0 = get_or-append-add (own b) (frames_of bs) (t - 2 ^ b.order) 0 in
    rw frames-cons (rw e at r)

-- what the frames taken are: in the pool, free, each once
pub record Good (F : ℕ) (free : ℕ → Bool) (fs : List ℕ) : Type 0 where
  pub inside : (t : ℕ) → t < length fs → (get_or fs t 0 < F) × (free (get_or fs t 0) ≡ true)
  pub once : (t u : ℕ) → t < length fs → u < length fs → get_or fs t 0 ≡ get_or fs u 0 → t ≡ u

module _ (F : ℕ) (free : ℕ → Bool) (left : ℕ) (b : Block) (bs : List Block) (w : Took F free left b) (rest : Good F (without free b.order b.start.0) (frames_of bs)) where
  -- a frame of the first block
  head_in : (t : ℕ) → t < 2 ^ b.order → (b.start.0 + t) / 2 ^ b.order ≡ b.start.0 / 2 ^ b.order
  head_in t h = let st = w.starts in block_in b.order b.start.0 (b.start.0 + t) (omega arith) (omega arith)

  -- a frame of the rest
  rest_at : (t : ℕ) → 2 ^ b.order ≤ t → t < length (frames_of (b ∷ bs))
      → (get_or (frames_of (b ∷ bs)) t 0 < F) × (without free b.order b.start.0 (get_or (frames_of (b ∷ bs)) t 0) ≡ true)
  rest_at t lo h = rw (frame-rest b bs t lo) (rest.inside (t - 2 ^ b.order) (omega (arith, length-frames b bs)))

  apart : (t u : ℕ) → t < 2 ^ b.order → 2 ^ b.order ≤ u → u < length (frames_of (b ∷ bs))
      → get_or (frames_of (b ∷ bs)) t 0 ≡ get_or (frames_of (b ∷ bs)) u 0 → ⊥
  apart t u ht lo hu e =
      let x : b.start.0 + t ≡ get_or (frames_of (b ∷ bs)) u 0 = sym (frame-first b bs t ht) ∙ e in
      without-out free b.order b.start.0 _ w.starts (rest_at u lo hu).1 (rw x at (head_in t ht))

  good-cons : Good F free (frames_of (b ∷ bs))
  good-cons = record {
    inside = λ t h. by-dec (dec_lt t (2 ^ b.order))
        (λ lt. rw (frame-first b bs t lt) (took-free F free left b w (b.start.0 + t) (head_in t lt)))
        (λ ge. let r = rest_at t (omega arith) h in (r.0, without-free free b.order b.start.0 _ r.1));
    once = λ t u ht hu e. by-dec (dec_lt t (2 ^ b.order))
        (λ tl. by-dec (dec_lt u (2 ^ b.order))
        (λ ul. omega (arith, frame-first b bs t tl, frame-first b bs u ul, e))
        (λ ug. absurd (apart t u tl (omega arith) hu e)))
        (λ tg. by-dec (dec_lt u (2 ^ b.order))
        (λ ul. absurd (apart u t ul (omega arith) ht (sym e)))
        (λ ug.
        let a = frame-rest b bs t (omega arith) in
        let c = frame-rest b bs u (omega arith) in
        let z = rest.once (t - 2 ^ b.order) (u - 2 ^ b.order) (omega (arith, length-frames b bs)) (omega (arith, length-frames b bs)) (sym a ∙ e ∙ c) in
        omega arith));
  }

good-nil : (F : ℕ) (free : ℕ → Bool) → Good F free (frames_of [])
unfolding frames_of
good-nil F free = record { inside = λ t h. absurd (not-suc-le-zero h); once = λ t u h. absurd (not-suc-le-zero h) }

pub takes-good : (n F : ℕ) (free : ℕ → Bool) (wish : Option ℕ) (left : ℕ) → Good F free (frames_of (take_blocks n F free wish left))
unfolding take_blocks
takes-good zero F free wish left = good-nil F free
takes-good (suc n) F free wish left = go (take_block F free wish left) (taking F free wish left) (λ free' wish' left'. takes-good n F free' wish' left')
  where
    go : (o : Option Block) → Taking F free left o → ((free' : ℕ → Bool) (wish' : Option ℕ) (left' : ℕ) → Good F free' (frames_of (take_blocks n F free' wish' left')))
        → Good F free (frames_of (elim o [ none ↦ [] | some b ↦ b ∷ take_blocks n F (without free b.order b.start.0) (wish_after b) (left_after left b) ]))
    go o (one b w) ih = good-cons F free left b _ w (ih _ _ _)
    go o (end x) ih = good-nil F free

-- enough free frames: as many as asked
pub takes_all : (n F : ℕ) (free : ℕ → Bool) (wish : Option ℕ) (left : ℕ) → left ≤ n → left ≤ count F free → length (frames_of (take_blocks n F free wish left)) ≡ left
unfolding take_blocks frames_of
takes_all zero F free wish left h c = omega arith
takes_all (suc n) F free wish left h c = go (take_block F free wish left) (taking F free wish left) (λ free' wish' left'. takes_all n F free' wish' left')
  where
    go : (o : Option Block) → Taking F free left o
        → ((free' : ℕ → Bool) (wish' : Option ℕ) (left' : ℕ) → left' ≤ n → left' ≤ count F free' → length (frames_of (take_blocks n F free' wish' left')) ≡ left')
        → length (frames_of (elim o [ none ↦ [] | some b ↦ b ∷ take_blocks n F (without free b.order b.start.0) (wish_after b) (left_after left b) ])) ≡ left
    go o (one b w) ih =
        let r = ih (without free b.order b.start.0) (wish_after b) (left_after left b) (omega (arith, pow_pos b.order, w.fits)) (omega (arith, took-count F free left b w, w.fits)) in
        omega (arith, r, w.fits, length-frames b (take_blocks n F (without free b.order b.start.0) (wish_after b) (left_after left b)))
    go o (end x) ih = by-dec (ℕ_discrete left 0) (λ z. sym z) (λ nz. let f = count-some F free (omega arith) in absurd (x f.0 f.1 f.2 (omega arith)))

-- enough fuel is as good as more
pub fuel : (n m F : ℕ) (free : ℕ → Bool) (wish : Option ℕ) (left : ℕ) → left ≤ n → left ≤ m → take_blocks n F free wish left ≡ take_blocks m F free wish left
unfolding take_blocks
fuel zero zero F free wish left hn hm = refl
fuel zero (suc m) F free wish left hn hm = at (take_block F free wish left) (taking F free wish left)
  where
    at : (o : Option Block) → Taking F free left o
        → ◌≡◌ {A = List Block} [] (elim o [ none ↦ [] | some b ↦ b ∷ take_blocks m F (without free b.order b.start.0) (wish_after b) (left_after left b) ])
    at o (one b w) = absurd (omega (arith, w.fits, pow_pos b.order))
    at o (end x) = refl
fuel (suc n) zero F free wish left hn hm = at (take_block F free wish left) (taking F free wish left)
  where
    at : (o : Option Block) → Taking F free left o
        → ◌≡◌ {A = List Block} (elim o [ none ↦ [] | some b ↦ b ∷ take_blocks n F (without free b.order b.start.0) (wish_after b) (left_after left b) ]) []
    at o (one b w) = absurd (omega (arith, w.fits, pow_pos b.order))
    at o (end x) = refl
fuel (suc n) (suc m) F free wish left hn hm = at (take_block F free wish left) (taking F free wish left) (λ free' wish' left'. fuel n m F free' wish' left')
  where
    at : (o : Option Block) → Taking F free left o
        → ((free' : ℕ → Bool) (wish' : Option ℕ) (left' : ℕ) → left' ≤ n → left' ≤ m → take_blocks n F free' wish' left' ≡ take_blocks m F free' wish' left')
        → ◌≡◌ {A = List Block} (elim o [ none ↦ [] | some b ↦ b ∷ take_blocks n F (without free b.order b.start.0) (wish_after b) (left_after left b) ])
        (elim o [ none ↦ [] | some b ↦ b ∷ take_blocks m F (without free b.order b.start.0) (wish_after b) (left_after left b) ])
    at o (one b w) ih = ap {B = List Block} (λ r. b ∷ r) (ih _ _ _ (omega (arith, w.fits, pow_pos b.order)) (omega (arith, w.fits, pow_pos b.order)))
    at o (end x) ih = refl

-- what is taken depends only on which frames below F are free

module _ (F : ℕ) (p q : ℕ → Bool) (same : (g : ℕ) → g < F → p g ≡ q g) where
  lowest-same : (k : ℕ) → lowest F p k ≡ lowest F q k
  unfolding lowest
  lowest-same k = first-ext F 0 (free_block F p k) (free_block F q k) (λ s lo hi. free-block-ext F p q same k s)

  serving-same : (i : ℕ) → serving F p i ≡ serving F q i
  unfolding serving
  serving-same i = first-ext (11 - i) i (λ j. is_some (lowest F p j)) (λ j. is_some (lowest F q j)) (λ j lo hi. ap is_some (lowest-same j))

  order_same : (left : ℕ) → order_for F p left ≡ order_for F q left
  unfolding order_for is_served
  order_same left = largest-ext 10 (is_served F p left) (is_served F q left) (λ i hi. ap (λ (o : Option ℕ). leb (2 ^ i) left && is_some o) (serving-same i))

  from-same : (i : ℕ) (o : Option ℕ) → take_from F p i o ≡ take_from F q i o
  unfolding take_from
  from-same i none = refl
  from-same i (some j) = ap (cut_at i) (lowest-same j)

  old-same : (i : ℕ) → old_choice F p i ≡ old_choice F q i
  unfolding old_choice
  old-same i = from-same i (serving F p i) ∙ ap (take_from F q i) (serving-same i)

  take_same : (wish : Option ℕ) (i : ℕ) → take_order F p wish i ≡ take_order F q wish i
  unfolding take_order
  take_same none i = old-same i
  take_same (some s) i = ap (λ (met : Bool). elim met [ true ↦ some (block i s) | false ↦ old_choice F p i ]) (whole-ext F p q same i s) ∙ ap (λ (o : Option Block). elim (wholly_free F q i s) [ true ↦ some (block i s) | false ↦ o ]) (old-same i)

  pub take_block-same : (wish : Option ℕ) (left : ℕ) → take_block F p wish left ≡ take_block F q wish left
  unfolding take_block
  take_block-same wish left = go (order_for F p left) ∙ ap (λ (o : Option ℕ). elim o [ none ↦ none | some i ↦ take_order F q wish i ]) (order_same left)
    where
      go : (o : Option ℕ) → ◌≡◌ {A = Option Block} (elim o [ none ↦ none | some i ↦ take_order F p wish i ]) (elim o [ none ↦ none | some i ↦ take_order F q wish i ])
      go none = refl
      go (some i) = take_same wish i

  pub without-same : (i s g : ℕ) → g < F → without p i s g ≡ without q i s g
  unfolding without
  without-same i s g h = rw (same g h)

pub take_blocks-same : (n F : ℕ) (p q : ℕ → Bool) (wish : Option ℕ) (left : ℕ) → ((g : ℕ) → g < F → p g ≡ q g) → take_blocks n F p wish left ≡ take_blocks n F q wish left
unfolding take_blocks
take_blocks-same zero F p q wish left same = refl
take_blocks-same (suc n) F p q wish left same =
    rw (take_block-same F p q same wish left, take_blocks) (go (take_block F q wish left) (λ p' q' wish' left' s. take_blocks-same n F p' q' wish' left' s))
  where
    go : (o : Option Block)
        → ((p' q' : ℕ → Bool) (wish' : Option ℕ) (left' : ℕ) → ((g : ℕ) → g < F → p' g ≡ q' g) → take_blocks n F p' wish' left' ≡ take_blocks n F q' wish' left')
        → ◌≡◌ {A = List Block} (elim o [ none ↦ [] | some b ↦ b ∷ take_blocks n F (without p b.order b.start.0) (wish_after b) (left_after left b) ])
        (elim o [ none ↦ [] | some b ↦ b ∷ take_blocks n F (without q b.order b.start.0) (wish_after b) (left_after left b) ])
    go none ih = refl
    go (some b) ih = ap {B = List Block} (λ r. b ∷ r) (ih _ _ _ _ (λ g h. without-same F p q same b.order b.start.0 g h))

-- a frame at or above F is as no wish

no-wish : (F : ℕ) (free : ℕ → Bool) (s i : ℕ) → F ≤ s → wholly_free F free i s ≡ false
no-wish F free s i h =
    by-test (wholly_free F free i s)
    (λ t. let w = whole-at F free i s t in let lt = (around-at F free i s w.2 s refl).0 in absurd (omega arith))
    (λ t. t)

past-pool-block : (F : ℕ) (free : ℕ → Bool) (s left : ℕ) → F ≤ s → take_block F free (some s) left ≡ take_block F free none left
unfolding take_block
past-pool-block F free s left h = go (order_for F free left)
  where
    go : (o : Option ℕ) → ◌≡◌ {A = Option Block} (elim o [ none ↦ none | some i ↦ take_order F free (some s) i ]) (elim o [ none ↦ none | some i ↦ take_order F free none i ])
    go none = refl
    go (some i) = order-not-met F free s i (no-wish F free s i h)

pub past-pool-blocks : (n F : ℕ) (free : ℕ → Bool) (s left : ℕ) → F ≤ s → take_blocks n F free (some s) left ≡ take_blocks n F free none left
unfolding take_blocks
past-pool-blocks zero F free s left h = refl
past-pool-blocks (suc n) F free s left h =
    ap (λ (o : Option Block). elim o [ none ↦ [] | some b ↦ b ∷ take_blocks n F (without free b.order b.start.0) (wish_after b) (left_after left b) ]) (past-pool-block F free s left h)

-- so a wish told as a number is the frame of that number, of the pool or not
pub wish-of : (F : ℕ) (free : ℕ → Bool) (w n left : ℕ) → take_blocks n F free (some w) left ≡ take_blocks n F free (wish_of F w) left
unfolding wish_of
wish-of F free w n left = go (ltb w F) refl
  where
    go : (below : Bool) → ltb w F ≡ below → take_blocks n F free (some w) left ≡ take_blocks n F free (elim below [ true ↦ some w | false ↦ none ]) left
    go true t = refl
    go false t = past-pool-blocks n F free w left (ltb-false _ _ t)
