-- Taking a part of a free block: the words written are those of the owners after it.
use mathlib.Core.Path.{◌≡◌, refl, ap, ◌∙◌, sym, fun_ext}
use mathlib.Core.Bool.{Bool, true, false, ◌&&◌}
use mathlib.Core.List.{List}
use mathlib.Core.Option.{some}
use Prim.Native.Nat.{ℕ, suc, ◌+◌, ◌/◌, ◌^◌, ◌-◌, ◌<◌, ◌≤◌}
use native.Mathlib.Decide.{dec_lt, ℕ_discrete}
use native.Mathlib.Omega.{arith}
use lib.Dec.{eqb}
use lib.ListN.{length, get_or, set}
use lib.Seq.{get_or-set_same, get_or-set_other}
use lib.Pow.{pow_pos}
use borrow.Author.Tests.{ne_eqb}
use Rattle.words.proofs.Cases.{by-test, by-dec}
use Rattle.words.proofs.TableLaws.{is-tabulate}
use Rattle.words.proofs.SearchLaws.{largest-ext}
use Rattle.words.specs.Inner.{CountedUp}
use Rattle.blocks.specs.Blocks.{in_block}
use Rattle.blocks.specs.FrameWords.{owners_of, free_of, free_in, lawful, frame_word, frame_words}
use Rattle.blocks.specs.Choice.{without}
use Rattle.blocks.specs.Inner.Around.{start_of, other_half, around, free_order, order_word}
use Rattle.blocks.specs.Inner.Passes.{Halved, PartOf, handed}
use Rattle.blocks.proofs.AroundLaws.{order-size, finer, coarser, in-block, block_in, start-same, start-in, start-start, Parted, other-parted, parted-start, parted-once, parted-at, is-in_block, not-in_block, around-at, Maximal, maximal-order, maximal-same, outside, other-half-free}
use Rattle.blocks.proofs.FreeBlockLaws.{BlockAt}
use Rattle.blocks.proofs.WordLaws.{free-zero, start_word, other_word, free-frame, held_word, high_word, Lawful, lawful-is, word-block}
use Rattle.blocks.proofs.SettleLaws.{block-end}

-- first words of halves

pub halves-more : (b : List ℕ) (s i k t : ℕ) (b' : List ℕ) → i ≤ k → t ≡ other_half k s → t < length b' → Halved b s i k b' → Halved b s i (k + 1) (set b' t (16384 + k))
halves-more b s i k t b' ik e h f =
    record {
      halves = λ m lo hi. by-dec (ℕ_discrete m k)
          (λ mk. let q : other_half m s ≡ t = ap (λ (x : ℕ). other_half x s) mk ∙ sym e in rw (q, mk) (get_or-set_same b' t (16384 + k) 0 h))
          (λ ne. get_or-set_other b' t (other_half m s) (16384 + k) 0 (λ x. ne (parted-once m k (other_half m s) s (other-parted m s _ refl) (other-parted k s _ (x ∙ e))))
          ∙ f.halves m lo (omega arith));
      others = λ g n. get_or-set_other b' t g (16384 + k) 0 (λ x. n k ik (omega arith) (x ∙ e)) ∙ f.others g (λ m lo hi. n m lo (omega arith));
    }

-- a half lies in each larger block around s
pub half-inside : (k j s : ℕ) → k < j → other_half k s < start_of j s + 2 ^ j
half-inside k j s kj = (in-block j s (other_half k s) (coarser (other_half k s) s (suc k) j kj (other-parted k s _ refl).one)).1

-- owners after a part was handed out

module _ (owner : ℕ → ℕ) (i s o g : ℕ) (st : start_of i s ≡ s) where
  pub handed-in : g / 2 ^ i ≡ s / 2 ^ i → handed owner i s o g ≡ o + (g - s)
  unfolding handed
  handed-in e = rw (is-in_block i s g st e, handed)

  pub handed_out : (g / 2 ^ i ≡ s / 2 ^ i → ⊥) → handed owner i s o g ≡ owner g
  unfolding handed
  handed_out n = rw (not-in_block i s g st n, handed)

-- free are those that were and are not in the part
pub free-after : (owner : ℕ → ℕ) (i s o : ℕ) → 1 ≤ o → free_of (handed owner i s o) ≡ without (free_of owner) i s
unfolding free_of without handed
free-after owner i s o pos = fun_ext (λ g. by-test (in_block i s g)
    (λ t. rw (t, handed) (ne_eqb (o + (g - s)) 0 (λ z. omega arith) ∙ sym (and-false (eqb (owner g) 0))))
    (λ t. rw (t, handed) (sym (and_true_r (eqb (owner g) 0)))))
  where
    and-false : (a : Bool) → (a && false) ≡ false
    and-false true = refl
    and-false false = refl

    and_true_r : (a : Bool) → (a && true) ≡ a
    and_true_r true = refl
    and_true_r false = refl

-- a frame of a free block that is not its first has the word 8192
pub old-word : (F : ℕ) (b : List ℕ) → Lawful F b → (j s : ℕ) → BlockAt F (free_in b) j s → (g : ℕ) → g / 2 ^ j ≡ s / 2 ^ j → (g ≡ s → ⊥) → get_or b g 0 ≡ 8192
unfolding free_in
old-word F b l j s blk g e n =
    let p = around-at F (free_in b) j s blk.maximal.whole g e in
    let order = maximal-order F (free_in b) j g (maximal-same F (free_in b) j s g e blk.maximal) in
    l.words g (omega (arith, p.0, l.small)) ∙ free-frame F (owners_of b) g p.0 (free-zero b g p.1) ∙ ap (order_word g) order
    ∙ other_word g j (λ x. n (sym x ∙ start-same j s g e ∙ blk.aligned))

-- the words after a part is taken: those change that are the part's own, and the first ones of the halves that are left

module _ (F : ℕ) (b : List ℕ) (l : Lawful F b) (i j s o : ℕ) (x : PartOf F b s i j) (pos : 1 ≤ o) where
  whole : BlockAt F (free_in b) j (start_of j s)
  whole = word-block F b l j (start_of j s) x.inside x.first

  top : Maximal F (free_in b) j s
  top = maximal-same F (free_in b) j (start_of j s) s (sym (start-in j s)) whole.maximal

  free-then : free_of (handed (owners_of b) i s o) ≡ without (free_in b) i s
  unfolding free_in
  free-then = free-after (owners_of b) i s o pos

  -- a frame of the part has its owner
  taken_word : (f : ℕ) → f / 2 ^ i ≡ s / 2 ^ i → frame_word F (handed (owners_of b) i s o) f ≡ o + (f - s)
  taken_word f e =
      let now = handed-in (owners_of b) i s o f x.starts e in
      let p = around-at F (free_in b) j s top.whole f (coarser f s i j x.below e) in
      held_word F (handed (owners_of b) i s o) f p.0 (λ z. omega arith) ∙ now

  -- a frame outside the free block keeps its word
  pub kept_word : (f : ℕ) → f < 4096 → (f / 2 ^ j ≡ s / 2 ^ j → ⊥) → frame_word F (handed (owners_of b) i s o) f ≡ get_or b f 0
  unfolding free_order free_in
  kept_word f small away =
      by-dec (dec_lt f F)
      (λ h. by-dec (ℕ_discrete (owners_of b f) 0)
      (λ z. free-frame F (handed (owners_of b) i s o) f h (kept ∙ z) ∙ ap (order_word f) same ∙ sym (free-frame F (owners_of b) f h z))
      (λ n. held_word F (handed (owners_of b) i s o) f h (λ z. n (sym kept ∙ z)) ∙ kept ∙ sym (held_word F (owners_of b) f h n)))
      (λ ge. let le : F ≤ f = omega arith in high_word F (handed (owners_of b) i s o) f le ∙ sym (high_word F (owners_of b) f le))
      ∙ sym (l.words f small)
    where
      kept : handed (owners_of b) i s o f ≡ owners_of b f
      kept = handed_out (owners_of b) i s o f x.starts (λ e. away (coarser f s i j x.below e))

      same : free_order F (free_of (handed (owners_of b) i s o)) f ≡ free_order F (free_in b) f
      same = rw free-then (largest-ext 10 (around F (without (free_in b) i s) f) (around F (free_in b) f) (λ k hk. outside F (free_in b) i j s x.below top x.starts f k away hk))

  module _ (k : ℕ) (ik : i ≤ k) (kj : k < j) where
    -- a frame of the half of order k
    rest-word : (f : ℕ) → Parted k f s → frame_word F (handed (owners_of b) i s o) f ≡ order_word f (some k)
    rest-word f p =
        let was = around-at F (free_in b) j s top.whole f (coarser f s (suc k) j kj p.one) in
        let none_is : handed (owners_of b) i s o f ≡ 0 = handed_out (owners_of b) i s o f x.starts (λ e. p.apart (coarser f s i k ik e)) ∙ free-zero b f was.1 in
        let order = maximal-order F (without (free_in b) i s) k f (other-half-free F (free_in b) i j s x.below top x.starts f k ik kj p) in
        free-frame F (handed (owners_of b) i s o) f was.0 none_is ∙ ap (order_word f) (ap (λ (q : ℕ → Bool). free_order F q f) free-then ∙ order)

    -- the half starts a free block
    pub half-word : frame_word F (handed (owners_of b) i s o) (other_half k s) ≡ 16384 + k
    half-word = let p = other-parted k s _ refl in rest-word (other_half k s) p ∙ start_word (other_half k s) k (parted-start k s _ p)

    half-other : (f : ℕ) → Parted k f s → (f ≡ other_half k s → ⊥) → frame_word F (handed (owners_of b) i s o) f ≡ 8192
    half-other f p n = rest-word f p ∙ other_word f k (λ e. n (sym e ∙ parted-start k s f p))

  -- and in the free block nothing else does
  pub word-half : (f k : ℕ) → f / 2 ^ j ≡ s / 2 ^ j → o + 2 ^ i ≤ 4097 → frame_word F (handed (owners_of b) i s o) f ≡ 16384 + k → (i ≤ k) × (k < j) × (f ≡ other_half k s)
  word-half f k mine room e =
      by-dec (ℕ_discrete (f / 2 ^ i) (s / 2 ^ i))
      (λ part. absurd (omega (arith, taken_word f part, (in-block i s f part).1, x.starts)))
      (λ out.
      let r = parted-at i j f s out mine in
      let m : ℕ = r.0 in
      by-dec (ℕ_discrete f (other_half m s))
      (λ at.
      let w = ap (frame_word F (handed (owners_of b) i s o)) at ∙ half-word m r.1 r.2 in
      let same : m ≡ k = omega arith in
      (omega (arith, r.1), omega (arith, r.2), at ∙ ap (λ (y : ℕ). other_half y s) same))
      (λ off. absurd (omega (arith, half-other m r.1 r.2 f r.3 off))))

  taken-words : (b1 b2 : List ℕ) → length b2 ≡ 4096 → CountedUp b s (s + 2 ^ i) o b1 → Halved b1 s i j b2 → b2 ≡ frame_words F (handed (owners_of b) i s o)
  unfolding frame_words
  taken-words b1 b2 len cu hv =
      is-tabulate b2 4096 (frame_word F (handed (owners_of b) i s o)) 0 len (λ g h.
      by-dec (ℕ_discrete (g / 2 ^ i) (s / 2 ^ i)) (inner g)
      (λ out. by-dec (ℕ_discrete (g / 2 ^ j) (s / 2 ^ j)) (λ mine. rest g out (parted-at i j g s out mine)) (outer g h)))
    where
      -- the words counted up are those of the part
      as_it_was : (g : ℕ) → (g / 2 ^ i ≡ s / 2 ^ i → ⊥) → get_or b1 g 0 ≡ get_or b g 0
      as_it_was g out =
          by-dec (dec_lt g s) (cu.below g)
          (λ ge. by-dec (dec_lt g (s + 2 ^ i))
          (λ lt. absurd (out (block_in i s g (omega (arith, x.starts)) (omega (arith, x.starts)))))
          (λ past. cu.above g (omega arith)))

      inner : (g : ℕ) → g / 2 ^ i ≡ s / 2 ^ i → get_or b2 g 0 ≡ frame_word F (handed (owners_of b) i s o) g
      inner g e =
          let q = in-block i s g e in
          hv.others g (λ m im mj at. (other-parted m s g at).apart (coarser g s i m im e))
          ∙ cu.inside g (omega (arith, q.0, x.starts)) (omega (arith, q.1, x.starts)) ∙ sym (taken_word g e)

      outer : (g : ℕ) → g < 4096 → (g / 2 ^ j ≡ s / 2 ^ j → ⊥) → get_or b2 g 0 ≡ frame_word F (handed (owners_of b) i s o) g
      outer g h away =
          hv.others g (λ m im mj at. away (coarser g s (suc m) j mj (other-parted m s g at).one))
          ∙ as_it_was g (λ e. away (coarser g s i j x.below e)) ∙ sym (kept_word g h away)

      -- the first word of the free block, where it is not the part's, is that of a half
      rest : (g : ℕ) → (g / 2 ^ i ≡ s / 2 ^ i → ⊥) → (k : ℕ) × (i ≤ k) × (k < j) × Parted k g s → get_or b2 g 0 ≡ frame_word F (handed (owners_of b) i s o) g
      rest g out (k, ik, kj, p) =
          by-dec (ℕ_discrete g (other_half k s))
          (λ at. rw at (hv.halves k ik kj ∙ sym (half-word k ik kj)))
          (λ off.
          let not_first : g ≡ start_of j s → ⊥ = λ e. off (sym (finer k j g (omega arith) (ap (start_of j) e ∙ start-start j s ∙ sym e)) ∙ parted-start k s g p) in
          hv.others g (λ m im mj at. off (at ∙ ap (λ (y : ℕ). other_half y s) (parted-once m k g s (other-parted m s g at) p)))
          ∙ as_it_was g out
          ∙ old-word F b l j (start_of j s) whole g (coarser g s (suc k) j kj p.one ∙ sym (start-in j s)) not_first
          ∙ sym (half-other k ik kj g p off))

-- what the step of the code knows

pub record PartFacts (F : ℕ) (b : List ℕ) (s i j : ℕ) : Type 0 where
  pub len : length b ≡ 4096
  pub small : F ≤ 4096
  pub top_small : j ≤ 10
  pub fits : start_of j s + 2 ^ j ≤ F
  pub inside : s + 2 ^ i ≤ F
  pub size : 2 ^ i ≤ 1024

pub part-facts : (F : ℕ) (b : List ℕ) → lawful F b ≡ true → (s i j : ℕ) → PartOf F b s i j → PartFacts F b s i j
part-facts F b lw s i j x =
    let l = lawful-is F b lw in
    let k = word-block F b l j (start_of j s) x.inside x.first in
    let room = block-end F (free_in b) j (start_of j s) k.maximal k.aligned in
    let p : 0 < 2 ^ i = pow_pos i in
    let last = in-block j s (s + (2 ^ i - 1)) (coarser (s + (2 ^ i - 1)) s i j x.below (block_in i s _ (omega (arith, x.starts)) (omega (arith, x.starts)))) in
    record {
      len = l.len;
      small = l.small;
      top_small = k.maximal.small;
      fits = room;
      inside = omega (arith, last.1);
      size = order-size i (omega (arith, x.below, k.maximal.small));
    }

pub take_done : (F : ℕ) (b : List ℕ) → lawful F b ≡ true → (s i j o z : ℕ) → PartOf F b s i j → (b1 b2 : List ℕ) → 1 ≤ o → z ≡ 2 ^ i
    → length b2 ≡ 4096 → CountedUp b s (s + z) o b1 → Halved b1 s i j b2 → b2 ≡ frame_words F (handed (owners_of b) i s o)
take_done F b lw s i j o z x b1 b2 pos ze len cu hv = taken-words F b (lawful-is F b lw) i j s o x pos b1 b2 len (rw ze at cu) hv
