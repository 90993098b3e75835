-- Marks in place of written frame words: after each block chosen they are of the words that are left.
use mathlib.Core.Path.{◌≡◌, refl, ap, ◌∙◌, sym, subst}
use mathlib.Core.Bool.{Bool, true, false, ◌&&◌, ◌||◌, not}
use mathlib.Core.List.{List}
use mathlib.Core.Option.{some}
use Rattle.std.specs.Prelude.{Some}
use Prim.Native.Nat.{ℕ, ◌+◌, ◌/◌, ◌%◌, ◌^◌, ◌-◌, ◌<◌, ◌≤◌}
use native.Mathlib.Decide.{dec_lt, dec_le, ℕ_discrete}
use native.Mathlib.Omega.{arith}
use lib.Dec.{eqb}
use lib.ListN.{length, get_or, set, replicate}
use lib.Seq.{get_or-set_same, get_or-set_other}
use lib.Pow.{pow_pos, pow_mono}
use borrow.Author.Tests.{eq-eqb, ne_eqb}
use Rattle.words.specs.Bits.{has_bit}
use Rattle.words.proofs.Cases.{by-test, by-dec, true-false, none-some, or-false, or-none}
use Rattle.words.proofs.TableLaws.{all-default, get_d_tabulate}
use Rattle.words.proofs.PowerLaws.{double, pow-less}
use Rattle.words.proofs.BitLaws.{no-bit, bit_added, bit-fits}
use Rattle.blocks.specs.declared.Block.{Block}
use Rattle.blocks.specs.declared.Bound.{Bound}
use Rattle.blocks.specs.declared.Chosen.{Chosen}
use Rattle.blocks.specs.declared.Cut.{Cut}
use Rattle.blocks.specs.Blocks.{block, wholly_free}
use Rattle.blocks.specs.FrameWords.{owners_of, free_in, lawful, frame_word, frame_words}
use Rattle.blocks.specs.Choice.{lowest, order_for, take_block, without, end_of, HeldBefore}
use Rattle.blocks.specs.Inner.Around.{start_of, around}
use Rattle.blocks.specs.Inner.Passes.{order_within, bound_after, PartOf, handed}
use Rattle.blocks.specs.Inner.Taking.{Searched}
use Rattle.blocks.specs.Inner.Marks.{ahead_of, gone_at, starts_by, Stands, Chooses, Ahead, Marking, Previewed, BlockMarked, GoneMarked, CutMarked, the-whole, more-above}
use Rattle.blocks.proofs.AroundLaws.{finer, start-next, coarser, in-block, block_in, start-in, around-at, at-around, smaller, Maximal, maximal-order, maximal-same, without-free, without-out, true-without}
use Rattle.blocks.proofs.FreeBlockLaws.{BlockAt, whole-at, at-whole, in-block-at}
use Rattle.blocks.proofs.WordLaws.{Lawful, lawful-is, word-block}
use Rattle.blocks.proofs.ChoiceLaws.{lowest-at, at-lowest}
use Rattle.blocks.proofs.SearchedLaws.{NoneAbove, within, too_large, cut-from, none-larger, stays}
use Rattle.blocks.proofs.WishLaws.{Taken, at-wish, as-old, taken_is, taken-order, wish-met, order-whole}
use Rattle.blocks.proofs.TakeLaws.{old-word, kept_word, word-half}
use Rattle.blocks.proofs.AllocateLaws.{chosen-small, chosen-inside, chosen-part, Rest, block-taken, chosen-same, block-searched, rest_of}
use Rattle.blocks.proofs.ChoosingLaws.{starts-gone, starts-left, first_by}

-- marks that are all 0 stand for the words lent

zero-gone : (n s : ℕ) → gone_at (replicate n 0) s ≡ false
unfolding gone_at
zero-gone n s = ap (λ (v : ℕ). has_bit v (s % 32)) (all-default n (1 + s / 32) 0) ∙ no-bit (s % 32)

and-not : (a b : Bool) → b ≡ false → (a && not b) ≡ a
and-not true b f = ap not f
and-not false b f = refl

pub nothing-taken : (F : ℕ) (b : List ℕ) (n : ℕ) → lawful F b ≡ true → Stands F b (replicate n 0) b
unfolding starts_by
nothing-taken F b n lw = record { lawful = lw; firsts = λ k s hk h. sym (and-not _ _ (zero-gone n s)); free = λ g h t. t }

pub nothing-marked : (F : ℕ) (b : List ℕ) (wish left n : ℕ) → lawful F b ≡ true → HeldBefore F (free_in b) wish → Marking F b (replicate n 0) b wish left
nothing-marked F b wish left n lw before =
    record { before = before; lawful = lw; ahead = λ nz some_left. absurd (nz (all-default n 0 0)); stands = λ z. nothing-taken F b n lw }

-- the bit of a frame

same_place : (g s : ℕ) → g / 32 ≡ s / 32 → eqb (g % 32) (s % 32) ≡ eqb g s
same_place g s word =
    by-dec (ℕ_discrete g s)
    (λ e. eq-eqb _ _ (ap (λ (x : ℕ). x % 32) e) ∙ sym (eq-eqb g s e))
    (λ ne. ne_eqb (g % 32) (s % 32) (λ bit. ne (omega arith)) ∙ sym (ne_eqb g s ne))

-- z is what the bit adds to its word
module _ (m : List ℕ) (s z : ℕ) (clear : gone_at m s ≡ false) (ze : z ≡ 2 ^ (s % 32)) where
  pub gone-fits : get_or m (1 + s / 32) 0 < 2 ^ 32 → get_or m (1 + s / 32) 0 + z < 2 ^ 32
  unfolding gone_at
  gone-fits h = rw ze (bit-fits (get_or m (1 + s / 32) 0) (s % 32) clear 32 (omega arith) h)

  pub gone-added : length m ≡ 129 → s < 4096 → GoneMarked m s (set m (1 + s / 32) (get_or m (1 + s / 32) 0 + z))
  unfolding gone_at
  gone-added len small = record {
    gone = λ g h. by-dec (ℕ_discrete (g / 32) (s / 32))
        (λ word.
        let now : get_or (set m (1 + s / 32) v) (1 + g / 32) 0 ≡ get_or m (1 + s / 32) 0 + 2 ^ (s % 32) =
        ap (λ (x : ℕ). get_or (set m (1 + s / 32) v) (1 + x) 0) word ∙ get_or-set_same m (1 + s / 32) v 0 (omega arith) ∙ ap (λ (x : ℕ). get_or m (1 + s / 32) 0 + x) ze
        in
        ap (λ (x : ℕ). has_bit x (g % 32)) now
        ∙ bit_added (get_or m (1 + s / 32) 0) (s % 32) clear (g % 32)
        ∙ ap (λ (b : Bool). has_bit (get_or m (1 + s / 32) 0) (g % 32) || b) (same_place g s word)
        ∙ ap (λ (x : ℕ). has_bit (get_or m (1 + x) 0) (g % 32) || eqb g s) (sym word))
        (λ differ.
        ap (λ (x : ℕ). has_bit x (g % 32)) (get_or-set_other m (1 + s / 32) (1 + g / 32) v 0 (λ e. differ (omega arith)))
        ∙ sym (or-none _ _ (ne_eqb g s (λ e. differ (ap (λ (x : ℕ). x / 32) e)))));
    ahead = get_or-set_other m (1 + s / 32) 0 v 0 (λ e. omega arith);
  }
    where
      v : ℕ
      v = get_or m (1 + s / 32) 0 + z

-- after a block

-- the frame before the next wish is taken
held_then : (F : ℕ) (free : ℕ → Bool) (i s : ℕ) → start_of i s ≡ s → HeldBefore F (without free i s) (s + 2 ^ i)
held_then F free i s st = record {
  held = λ p e h. by-test (without free i s p)
      (λ t. let size = pow_pos i in absurd (without-out free i s p st t (block_in i s p (omega arith) (omega arith))))
      (λ f. f);
}

-- a larger block is wholly free, so the order chosen is the largest that fits, and what is left of the pages fits into the next block of it
module _ (F : ℕ) (free : ℕ → Bool) (left i j s : ℕ) (chosen : order_for F free left ≡ some i) (more : i < j) (t : wholly_free F free j s ≡ true) where
  whole : (j ≤ 10) × (start_of j s ≡ s) × (around F free s j ≡ true)
  whole = whole-at F free j s t

  less : left < 2 ^ i + 2 ^ i
  unfolding NoneAbove
  less =
      by-dec (dec_lt left (2 ^ i + 2 ^ i)) (λ lt. lt)
      (λ ge.
      let q = in-block-at F free j s whole.0 whole.2 in
      let there = at-lowest F free q.0 (start_of q.0 s) q.3 in
      none-some there.0 (lowest F free q.0) (none-larger F free left i chosen (omega (arith, double i)) q.0 (omega (arith, q.1)) q.2) there.1)

  rest-ahead : Ahead F (without free i s) (s + 2 ^ i) (left - 2 ^ i)
  rest-ahead =
      let aligned = whole.1 in
      let st : start_of i s ≡ s = finer i j s (omega arith) aligned in
      let next = start-next i s st in
      let size = pow-less i j more in
      let beside : (s + 2 ^ i) / 2 ^ j ≡ s / 2 ^ j = block_in j s (s + 2 ^ i) (omega arith) (omega arith) in
      record {
        order = i;
        whole = at-whole F (without free i s) i (s + 2 ^ i) (omega (arith, whole.0)) next (at-around F (without free i s) i (s + 2 ^ i) (λ g e.
            let p = around-at F free j s whole.2 g (coarser g (s + 2 ^ i) i j (omega arith) e ∙ beside) in
            let from = (in-block i (s + 2 ^ i) g e).0 in
            (p.0, true-without free i s g st p.1 (λ mine. omega (arith, (in-block i s g mine).1)))));
        enough = omega (arith, less);
      }

-- the free block that is cut starts where the block chosen does
module _ (F : ℕ) (free : ℕ → Bool) (wish left : ℕ) (x : Block) (before : HeldBefore F free wish) (is : take_block F free (some wish) left ≡ some x) (j : ℕ)
    (at : BlockAt F free j (start_of j x.start.0)) where
  own : Maximal F free j x.start.0
  own = maximal-same F free j (start_of j x.start.0) x.start.0 (sym (start-in j x.start.0)) at.maximal

  -- a free block that holds the wish has none of its frames before it
  starts-at-wish : x.start.0 ≡ wish → start_of j x.start.0 ≡ x.start.0
  starts-at-wish e =
      let low : start_of j x.start.0 ≤ x.start.0 = (in-block j x.start.0 x.start.0 refl).0 in
      let inside : x.start.0 < F = (around-at F free j x.start.0 own.whole x.start.0 refl).0 in
      by-dec (dec_lt (start_of j x.start.0) x.start.0)
      (λ lt.
      let p : ℕ = x.start.0 - 1 in
      let high = (in-block j x.start.0 x.start.0 refl).1 in
      let freed = around-at F free j x.start.0 own.whole p (block_in j x.start.0 p (omega arith) (omega arith)) in
      true-false (free p) freed.1 (before.held p (omega arith) (omega arith)))
      (λ ge. omega arith)

  cut-starts : start_of j x.start.0 ≡ x.start.0
  cut-starts = go (taken_is F free wish left x is)
    where
      go : Taken F free wish left x → start_of j x.start.0 ≡ x.start.0
      go (at-wish chosen e) = starts-at-wish e
      go (as-old old) =
          let q = cut-from F free left x old in
          let first = lowest-at F free q.0 x.start.0 q.2 in
          let same : some q.0 ≡ some j = sym (maximal-order F free q.0 x.start.0 first.maximal) ∙ maximal-order F free j x.start.0 own in
          let qj : q.0 ≡ j = cc in
          rw qj at first.aligned

-- the free block that was taken whole starts no more, and every other does as it did
module _ (F : ℕ) (b m w : List ℕ) (st : Stands F b m w) (s i o : ℕ) (x : PartOf F w s i i) (pos : 1 ≤ o) (room : o + 2 ^ i ≤ 4097) (m' : List ℕ) (g : GoneMarked m s m') where
  lw : Lawful F w
  lw = lawful-is F w st.lawful

  at : BlockAt F (free_in w) i s
  at = rw x.starts at (word-block F w lw i (start_of i s) x.inside x.first)

  abbrev then : List ℕ
  then = frame_words F (handed (owners_of w) i s o)

  word-then : (t : ℕ) → t < F → get_or then t 0 ≡ frame_word F (handed (owners_of w) i s o) t
  unfolding frame_words
  word-then t h = get_d_tabulate 4096 _ t 0 (omega (arith, lw.small))

  not_first : (k t : ℕ) → t < F → t / 2 ^ i ≡ s / 2 ^ i → eqb (get_or then t 0) (16384 + k) ≡ false
  not_first k t h mine = ne_eqb _ _ (λ e. let q = word-half F w lw i i s o x pos t k mine room (sym (word-then t h) ∙ e) in omega (arith, q.0, q.1))

  taken-gone : (k : ℕ) → starts_by b m' k s ≡ false
  taken-gone k =
      let gone : gone_at m' s ≡ true =
      by-test (gone_at m' s) (λ t. t)
      (λ f. true-false (eqb s s) (eq-eqb s s refl) (or-false (gone_at m s) (eqb s s) (sym (g.gone s (omega (arith, at.inside, lw.small))) ∙ f)).1)
      in
      starts-gone b m' k s gone

  starts-kept : (k t : ℕ) → t < F → (t ≡ s → ⊥) → starts_by b m k t ≡ starts_by b m' k t
  unfolding starts_by
  starts-kept k t h ne =
      let gone : gone_at m t ≡ gone_at m' t = sym (g.gone t (omega (arith, lw.small)) ∙ or-none (gone_at m t) (eqb t s) (ne_eqb t s ne)) in
      ap (λ (y : Bool). eqb (get_or b t 0) (16384 + k) && not y) gone

  not-by : (k t : ℕ) → k ≤ 10 → t < F → t / 2 ^ i ≡ s / 2 ^ i → starts_by b m' k t ≡ false
  not-by k t hk h mine =
      by-dec (ℕ_discrete t s)
      (λ e. ap (starts_by b m' k) e ∙ taken-gone k)
      (λ ne. sym (starts-kept k t h ne) ∙ sym (st.firsts k t hk h) ∙ ne_eqb (get_or w t 0) (16384 + k) (λ e. omega (arith, old-word F w lw i s at t mine ne)))

  still-stands : lawful F then ≡ true → free_in then ≡ without (free_in w) i s → Stands F b m' then
  still-stands Lawful-then free-then = record {
    lawful = Lawful-then;
    firsts = λ k t hk h. by-dec (ℕ_discrete (t / 2 ^ i) (s / 2 ^ i))
        (λ mine. not_first k t h mine ∙ sym (not-by k t hk h mine))
        (λ out.
        ap (λ (v : ℕ). eqb v (16384 + k)) (word-then t h ∙ kept_word F w lw i i s o x pos t (omega (arith, lw.small)) out)
        ∙ st.firsts k t hk h
        ∙ starts-kept k t h (λ e. out (ap (λ (y : ℕ). y / 2 ^ i) e)));
    free = λ t h y. st.free t h (without-free (free_in w) i s t (rw free-then at y));
  }

-- one block chosen and marked

-- what holds of the words after the block, and what the marks have to say of them
marking-then : (F : ℕ) (b m' w : List ℕ) (o wish left : ℕ) (x : Block) (w' : List ℕ) → Rest F w o wish left x w' → start_of x.order x.start.0 ≡ x.start.0
    → ((ahead_of m' ≡ 0 → ⊥) → 1 ≤ left - 2 ^ x.order → Ahead F (without (free_in w) x.order x.start.0) (end_of x) (left - 2 ^ x.order))
    → (ahead_of m' ≡ 0 → Stands F b m' w') → Marking F b m' w' (end_of x) (left - 2 ^ x.order)
marking-then F b m' w o wish left x w' rest st ahead stands = record {
  before = subst (λ (free : ℕ → Bool). HeldBefore F free (end_of x)) (sym rest.free) (held_then F (free_in w) x.order x.start.0 st);
  lawful = rest.lawful;
  ahead = λ nz some_left. subst (λ (free : ℕ → Bool). Ahead F free (end_of x) (left - 2 ^ x.order)) (sym rest.free) (ahead nz some_left);
  stands = stands;
}

-- ahead, the block of the order that fits is at the wish
module _ (F : ℕ) (free : ℕ → Bool) (wish left order : ℕ) (e : order_within left ≡ some order) (a : Ahead F free wish left) where
  fits : 2 ^ order ≤ left
  fits = (within left order e).fits

  whole-ahead : wholly_free F free order wish ≡ true
  whole-ahead =
      let q = whole-at F free a.order wish a.whole in
      let below : order ≤ a.order = by-dec (dec_le order a.order) (λ le. le) (λ gt. absurd (omega (arith, fits, a.enough, pow-less a.order order (omega arith)))) in
      at-whole F free order wish (omega (arith, q.0)) (finer order a.order wish below q.1) (smaller F free order a.order wish below q.2)

  order-ahead : order_for F free left ≡ some order
  order-ahead = order-whole F free left order wish fits whole-ahead (λ m lt hi. too_large F free left m ((within left order e).no_more m lt hi))

  still-ahead : 1 ≤ left - 2 ^ order → Ahead F (without free order wish) (wish + 2 ^ order) (left - 2 ^ order)
  still-ahead more =
      let above : order < a.order = by-dec (dec_lt order a.order) (λ lt. lt) (λ ge. let size : 2 ^ a.order ≤ 2 ^ order = pow_mono (omega arith) in absurd (omega (arith, a.enough))) in
      rest-ahead F free left order a.order wish order-ahead above a.whole

pub block-ahead : (F : ℕ) (b m : List ℕ) (wish left : ℕ) (known : Bound) (order : ℕ) → (ahead_of m ≡ 0 → ⊥) → 1 ≤ left → order_within left ≡ some order
    → BlockMarked F b m wish left known (record { block = block order wish; known = known }) m
block-ahead F b m wish left known order nz some_left e = record {
  marked = λ w o mk searched enough pos room.
      let free : ℕ → Bool = free_in w in
      let a = mk.ahead nz some_left in
      let whole = whole-ahead F free wish left order e a in
      let x : Block = block order wish in
      let is : take_block F free (some wish) left ≡ some x = wish-met F free wish left order (order-ahead F free wish left order e a) whole in
      let w' : List ℕ = frame_words F (handed (owners_of w) order wish o) in
      let taken = block-taken F w mk.lawful wish left x is o pos room known (stays F free order wish known searched) w' refl in
      let rest = rest_of F w o wish left (record { block = x; known = known }) w' mk.lawful pos room enough taken in
      (w', taken, marking-then F b m w o wish left x w' rest (whole-at F free order wish whole).1 (λ _. still-ahead F free wish left order e a) (λ z. absurd (nz z)));
}

-- the block chosen is a part of a free block
module _ (F : ℕ) (b m : List ℕ) (wish left : ℕ) (known : Bound) (r : Cut) (ch : Chooses F b m wish left known (Some r))
    (w : List ℕ) (st : Stands F b m w) (searched : Searched F (free_in w) known) where
  is : take_block F (free_in w) (some wish) left ≡ some r.block
  is = ch.block w st searched

  part : PartOf F w r.block.start.0 r.block.order r.top
  part = chosen-part F w st.lawful wish left r.block is r.top (ch.first w st searched)

  cut_inside : r.block.start.0 < 4096
  cut_inside = omega (arith, chosen-inside F w st.lawful wish left r.block is, (lawful-is F w st.lawful).small, pow_pos r.block.order)

  -- a free block that is chosen whole is not marked yet
  not-gone : r.block.order ≡ r.top → gone_at m r.block.start.0 ≡ false
  not-gone e =
      let whole = subst (PartOf F w r.block.start.0 r.block.order) (sym e) part in
      let here = whole.starts in
      let first = rw here at whole.first in
      let inside = rw here at whole.inside in
      starts-left b m r.block.order r.block.start.0 (first_by F b m w st r.block.order r.block.start.0 (chosen-small F w st.lawful wish left r.block is) inside first)

  -- cut from a larger one, it leaves what is ahead
  cut-ahead : HeldBefore F (free_in w) wish → r.block.order < r.top → Ahead F (without (free_in w) r.block.order r.block.start.0) (end_of r.block) (left - 2 ^ r.block.order)
  cut-ahead before more =
      let there = word-block F w (lawful-is F w st.lawful) r.top (start_of r.top r.block.start.0) part.inside part.first in
      let starts = cut-starts F (free_in w) wish left r.block before is r.top there in
      let here = subst (BlockAt F (free_in w) r.top) starts there in
      rest-ahead F (free_in w) left r.block.order r.top r.block.start.0 (taken-order F (free_in w) wish left r.block is) more (at-whole F (free_in w) r.top r.block.start.0 here.maximal.small starts here.maximal.whole)

pub cut-facts : (F : ℕ) (b m : List ℕ) (wish left : ℕ) (known : Bound) (r : Cut) → ahead_of m ≡ 0 → Previewed F b m wish left known → Chooses F b m wish left known (Some r)
    → (r.block.order ≤ r.top) × ((r.block.start.0 < 4096) × (r.block.order ≡ r.top → gone_at m r.block.start.0 ≡ false))
cut-facts F b m wish left known r z p ch =
    let st = p.marking.stands z in (
      (part F b m wish left known r ch p.words st p.searched).below,
      (cut_inside F b m wish left known r ch p.words st p.searched, not-gone F b m wish left known r ch p.words st p.searched),
    )

pub block-cut : (F : ℕ) (b m : List ℕ) (wish left : ℕ) (known : Bound) (r : Cut) (m' : List ℕ) → ahead_of m ≡ 0 → Chooses F b m wish left known (Some r)
    → CutMarked m r.block.start.0 r.block.order r.top m' → (y : Chosen) → y.block ≡ r.block → y.known ≡ bound_after known r.block wish left → BlockMarked F b m wish left known y m'
block-cut F b m wish left known r m' z ch cut y ye ke = subst (λ (v : Chosen). BlockMarked F b m wish left known v m') (sym (chosen-same y r.block next ye ke)) (record {
  marked = λ w o mk searched enough pos room.
      let x : Block = r.block in
      let st = mk.stands z in
      let xe = is F b m wish left known r ch w st searched in
      let p = part F b m wish left known r ch w st searched in
      let w' : List ℕ = frame_words F (handed (owners_of w) x.order x.start.0 o) in
      let taken = block-searched F w mk.lawful wish left x xe o pos room known searched (record { block = x; known = next }) refl refl w' refl in
      let rest = rest_of F w o wish left (record { block = x; known = next }) w' mk.lawful pos room enough taken in (
        w',
        taken,
        marking-then F b m' w o wish left x w' rest p.starts
            (λ nz _. ahead nz (cut-ahead F b m wish left known r ch w st searched mk.before) cut)
            (λ none_ahead. stands none_ahead (λ e g. still-stands F b m w st x.start.0 x.order o (subst (PartOf F w x.start.0 x.order) (sym e) p) pos (omega (arith, rest.fits)) m' g rest.lawful rest.free) cut),
      );
})
  where
    next : Bound
    next = bound_after known r.block wish left

    ahead : {P : Type 0} → (ahead_of m' ≡ 0 → ⊥) → (r.block.order < r.top → P) → CutMarked m r.block.start.0 r.block.order r.top m' → P
    ahead nz above (the-whole e g) = absurd (nz (g.ahead ∙ z))
    ahead nz above (more-above lt n) = above lt

    stands : {P : Type 0} → ahead_of m' ≡ 0 → (r.block.order ≡ r.top → GoneMarked m r.block.start.0 m' → P) → CutMarked m r.block.start.0 r.block.order r.top m' → P
    stands none_ahead whole (the-whole e g) = whole e g
    stands none_ahead whole (more-above lt n) = absurd (n none_ahead)
