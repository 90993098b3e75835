-- Choosing a block by the words lent and the marks: what holds of whatever words the marks stand for.
use mathlib.Core.Path.{◌≡◌, refl, ap, ◌∙◌, sym}
use mathlib.Core.Bool.{Bool, true, false, not}
use mathlib.Core.List.{List}
use mathlib.Core.Option.{Option, none, some}
use Rattle.std.specs.Prelude.{Some, None, IsSome, MatchOption}
use Rattle.std.specs.Prelude as code
use Prim.Native.Nat.{ℕ, ◌+◌, ◌^◌, ◌-◌, ◌<◌, ◌≤◌, min}
use native.Mathlib.Decide.{dec_lt, ℕ_discrete}
use native.Mathlib.Omega.{arith}
use lib.Dec.{eqb}
use lib.ListN.{get_or}
use lib.Pow.{pow_mono}
use borrow.Author.Tests.{eq-eqb, ne_eqb, eqb-true, not-true}
use Rattle.words.specs.Counts.{count}
use Rattle.words.proofs.Cases.{by-test, by-dec, true-false, and-true, and-false, none-some, not_there}
use Rattle.blocks.specs.declared.Block.{Block}
use Rattle.blocks.specs.declared.Bound.{Bound}
use Rattle.blocks.specs.declared.Cut.{Cut}
use Rattle.blocks.specs.Blocks.{block, wholly_free, free_block}
use Rattle.blocks.specs.FrameWords.{owners_of, free_in, lawful}
use Rattle.blocks.specs.Choice.{order_for, take_block}
use Rattle.blocks.specs.Inner.Around.{start_of, around, order_word}
use Rattle.blocks.specs.Inner.Taking.{Clear, Searched}
use Rattle.blocks.specs.Inner.Passes.{order_within, order_at, scan_from, PassedTo}
use Rattle.blocks.specs.Inner.Marks.{gone_at, starts_by, Stands, Finds, Wished, Chooses}
use Rattle.blocks.proofs.AroundLaws.{in-block, block_in, start-same, start-next, start-in, around-at, at-around, around-same, smaller, order-here}
use Rattle.blocks.proofs.FreeBlockLaws.{whole-at, at-whole, in-block-at, free-block-at}
use Rattle.blocks.proofs.WordLaws.{free-zero, start_word, other_word, free-frame, Lawful, lawful-is, word-block, block-word}
use Rattle.blocks.proofs.ChoiceLaws.{Taking, one, end, taking, took-free}
use Rattle.blocks.proofs.SearchedLaws.{within, above-top, order-low, NoneTried, none-zero, scan-start, passed, skipped, chosen, chosen_none}
use Rattle.blocks.proofs.WishLaws.{wish-met, wish-not-met, old-order, order-whole}
use Rattle.blocks.proofs.AllocateLaws.{took, is_there}

-- a free block by the words lent and the marks

module _ (b m : List ℕ) (k s : ℕ) where
  pub starts-if : get_or b s 0 ≡ 16384 + k → not (gone_at m s) ≡ starts_by b m k s
  unfolding starts_by
  starts-if e = rw (eq-eqb _ _ e, starts_by)

  pub starts_other : (get_or b s 0 ≡ 16384 + k → ⊥) → starts_by b m k s ≡ false
  unfolding starts_by
  starts_other n = rw (ne_eqb _ _ n, starts_by)

  pub starts-gone : gone_at m s ≡ true → starts_by b m k s ≡ false
  unfolding starts_by
  starts-gone t = and-false (eqb (get_or b s 0) (16384 + k)) (not (gone_at m s)) (ap not t)

  starts-word : starts_by b m k s ≡ true → get_or b s 0 ≡ 16384 + k
  unfolding starts_by
  starts-word t = eqb-true _ _ (and-true (eqb (get_or b s 0) (16384 + k)) (not (gone_at m s)) t).0

  pub starts-left : starts_by b m k s ≡ true → gone_at m s ≡ false
  unfolding starts_by
  starts-left t = not-true _ (and-true (eqb (get_or b s 0) (16384 + k)) (not (gone_at m s)) t).1

module _ (F : ℕ) (b m w : List ℕ) (st : Stands F b m w) (k s : ℕ) (hk : k ≤ 10) (h : s < F) where
  by_first : starts_by b m k s ≡ true → get_or w s 0 ≡ 16384 + k
  by_first t = eqb-true _ _ (st.firsts k s hk h ∙ t)

  pub first_by : get_or w s 0 ≡ 16384 + k → starts_by b m k s ≡ true
  first_by e = sym (st.firsts k s hk h) ∙ eq-eqb _ _ e

-- a wish

-- the word of a free frame is above those that name owners
free-high : (F : ℕ) (b : List ℕ) → Lawful F b → (f : ℕ) → f < F → free_in b f ≡ true → 4096 < get_or b f 0
unfolding free_in
free-high F b l f h t =
    let q = order-here F (free_in b) f h t in
    let j : ℕ = q.0 in
    let e : get_or b f 0 ≡ order_word f (some j) = l.words f (omega (arith, l.small)) ∙ free-frame F (owners_of b) f h (free-zero b f t) ∙ ap (order_word f) q.1 in
    by-dec (ℕ_discrete (start_of j f) f)
    (λ st. omega (arith, e, start_word f j st))
    (λ off. omega (arith, e, other_word f j off))

module _ (b m : List ℕ) (wish k : ℕ) where
  -- no free block of an order from k up to top, top left out, holds the wish
  abbrev pub NoneAround : ℕ → Type 0
  NoneAround top = (j : ℕ) → k ≤ j → j < top → starts_by b m j (start_of j wish) ≡ false

module _ (F : ℕ) (b m : List ℕ) (wish k : ℕ) where
  pub wish-in : (top : ℕ) → wish < F → start_of k wish ≡ wish → k ≤ top → top ≤ 10 → starts_by b m top (start_of top wish) ≡ true → Wished F b m wish k (Some top)
  wish-in top h st kt ht t = record {
    met = λ w stands.
        let start = (in-block top wish wish refl).0 in
        let inside : start_of top wish < F = omega arith in
        let first = by_first F b m w stands top (start_of top wish) ht inside t in
        let at = word-block F w (lawful-is F w stands.lawful) top (start_of top wish) inside first in
        let whole = around-same F (free_in w) top (start_of top wish) wish (sym (start-in top wish)) at.maximal.whole in
        (at-whole F (free_in w) k wish (omega arith) st (smaller F (free_in w) k top wish kt whole), kt, inside, first);
    not-met = λ w stands. tt;
  }

  -- a wish that is met in no words which the marks stand for
  unmet : ((w : List ℕ) → Stands F b m w → wholly_free F (free_in w) k wish ≡ true → ⊥) → Wished F b m wish k None
  unmet n = record {
    met = λ w stands. tt;
    not-met = λ w stands. by-test (wholly_free F (free_in w) k wish) (λ t. absurd (n w stands t)) (λ t. t);
  }

  whole-free : (w : List ℕ) → wholly_free F (free_in w) k wish ≡ true → (wish < F) × (free_in w wish ≡ true)
  whole-free w t = around-at F (free_in w) k wish (whole-at F (free_in w) k wish t).2 wish refl

  pub wish-past : F ≤ wish → Wished F b m wish k None
  wish-past h = unmet (λ w stands t. omega (arith, (whole-free w t).0))

  pub wish-held : lawful F b ≡ true → get_or b wish 0 ≤ 4096 → Wished F b m wish k None
  wish-held lw h = unmet (λ w stands t.
      let q = whole-free w t in
      omega (arith, free-high F b (lawful-is F b lw) wish q.0 (stands.free wish q.0 q.1)))

  -- a smaller free block starts there, and no frame of it is in a larger one
  pub wish-small : lawful F b ≡ true → 16384 ≤ get_or b wish 0 → get_or b wish 0 < 16384 + k → Wished F b m wish k None
  wish-small lw lo hi = unmet (λ w stands t.
      let q = whole-at F (free_in w) k wish t in
      let lent = at-around F (free_in b) k wish (λ g e. let r = around-at F (free_in w) k wish q.2 g e in (r.0, stands.free g r.0 r.1)) in
      let j : ℕ = get_or b wish 0 - 16384 in
      let at = word-block F b (lawful-is F b lw) j wish (whole-free w t).0 (omega arith) in
      true-false (around F (free_in b) wish k) lent (at.maximal.alone k (omega arith) q.0))

  pub wish-off : (start_of k wish ≡ wish → ⊥) → Wished F b m wish k None
  wish-off n = unmet (λ w stands t. n (whole-at F (free_in w) k wish t).1)

  pub wish-out : NoneAround b m wish k 11 → Wished F b m wish k None
  wish-out n = unmet (λ w stands t.
      let q = whole-at F (free_in w) k wish t in
      let j = in-block-at F (free_in w) k wish q.0 q.2 in
      let at = j.3 in
      let first = block-word F w (lawful-is F w stands.lawful) j.0 (start_of j.0 wish) at.inside at in
      true-false (starts_by b m j.0 (start_of j.0 wish)) (first_by F b m w stands j.0 (start_of j.0 wish) j.2 at.inside first) (n j.0 j.1 (omega (arith, j.2))))

  -- the first order from k on of which a free block holds the wish
  pub wish-first : wish < F → start_of k wish ≡ wish → (r : code.Option ℕ)
      → MatchOption r (NoneAround b m wish k 11) (λ top. (k ≤ top) × (top < 11) × (starts_by b m top (start_of top wish) ≡ true) × NoneAround b m wish k top) → Wished F b m wish k r
  wish-first h st None n = wish-out n
  wish-first h st (Some top) q = wish-in top h st q.0 (omega (arith, q.1)) q.2

-- the old choice

-- whatever words the marks stand for
pub Whatever : ℕ → List ℕ → List ℕ → Bound → (List ℕ → Type 0) → Type 0
Whatever F b m x P = (w : List ℕ) → Stands F b m w → Searched F (free_in w) x → P w

-- the scan for order k has come to f
abbrev pub Scanned : ℕ → ℕ → ℕ → List ℕ → Type 0
Scanned F k f w = Clear F (free_in w) k f × (start_of k f ≡ f)

module _ (F : ℕ) (b m : List ℕ) (x : Bound) where
  -- no order is tried before the first
  pub none_tried : (limit top : ℕ) → Whatever F b m x (λ w. NoneTried F (free_in w) limit top 0)
  unfolding Whatever
  none_tried limit top w st known = none-zero F (free_in w) limit top

  pub scan-starts : (k s f : ℕ) → s ≡ scan_from x k → f ≡ start_of k s → Whatever F b m x (Scanned F k f)
  unfolding Whatever
  scan-starts k s f se fe w st known = scan-start F (free_in w) x k s f known se fe

  pub scan-goes-on : (k f z : ℕ) → k ≤ 10 → z ≡ 2 ^ k → Whatever F b m x (Scanned F k f) → f < F → starts_by b m k f ≡ false → Whatever F b m x (Scanned F k (f + z))
  unfolding Whatever
  scan-goes-on k f z hk ze sc h n w st known =
      passed F w st.lawful k f z ze (sc w st known) h (λ e. true-false (starts_by b m k f) (first_by F b m w st k f hk h e) n)

-- the words lent are scanned from start to start of a block of order k
pub start-after : (k f z : ℕ) → z ≡ 2 ^ k → start_of k f ≡ f → start_of k (f + z) ≡ f + z
start-after k f z ze st = rw ze (start-next k f st)

module _ (b : List ℕ) (k f : ℕ) where
  pub passed_none : start_of k f ≡ f → PassedTo b k f f
  passed_none st = record { on = omega arith; starts = st; none_first = λ g lo hi. absurd (omega arith) }

  pub passed-more : (g z : ℕ) → z ≡ 2 ^ k → PassedTo b k f g → (get_or b g 0 ≡ 16384 + k → ⊥) → PassedTo b k f (g + z)
  passed-more g z ze p n = rw ze (record {
    on = omega (arith, p.on);
    starts = start-next k g p.starts;
    none_first = λ h lo hi st e. by-dec (dec_lt h g)
        (λ lt. p.none_first h lo lt st e)
        (λ ge.
        let one : start_of k h ≡ start_of k g = start-same k g h (block_in k g h (omega (arith, p.starts)) (omega (arith, p.starts))) in
        let same : h ≡ g = sym st ∙ one ∙ p.starts in
        n (rw same at e));
  })

-- so no free block was passed over
pub scan-passes : (F : ℕ) (b m : List ℕ) (x : Bound) (k f r : ℕ) → k ≤ 10 → PassedTo b k f r → Whatever F b m x (Scanned F k f) → Whatever F b m x (Scanned F k r)
unfolding Whatever
scan-passes F b m x k f r hk p sc w st known = (record { none-at = λ s h. by-dec (dec_lt s f) (λ lt. (sc w st known).0.none-at s lt) (λ ge. not-there-at s h (omega arith)) }, p.starts)
  where
    not-there-at : (s : ℕ) → s < r → f ≤ s → free_block F (free_in w) k s ≡ false
    not-there-at s h lo =
        by-test (free_block F (free_in w) k s)
        (λ t.
        let at = free-block-at F (free_in w) k s t in
        let first = block-word F w (lawful-is F w st.lawful) k s at.inside at in
        absurd (p.none_first s lo h at.aligned (starts-word b m k s (first_by F b m w st k s hk at.inside first))))
        (λ n. n)

-- the block of this order at s, in the free block of order top
abbrev pub IsCut : Cut → ℕ → ℕ → ℕ → Type 0
IsCut r order s top = (r.block ≡ block order s) × (r.top ≡ top)

module _ (F : ℕ) (b m : List ℕ) (x : Bound) (top t : ℕ) (n : Whatever F b m x (λ w. NoneTried F (free_in w) x.limit top t)) where
  pub order-skipped : (k f : ℕ) → k ≡ order_at x.limit top t → Whatever F b m x (Scanned F k f) → F ≤ f → Whatever F b m x (λ w. NoneTried F (free_in w) x.limit top (t + 1))
  unfolding Whatever
  order-skipped k f ke sc h w st known = skipped F (free_in w) x.limit top t k f ke (n w st known) (sc w st known).0 h

  module _ (r : Cut) where
    -- the lowest free block of the order that is tried
    pub word-chosen : (k order f : ℕ) → t < x.limit + 1 → k ≤ 10 → k ≡ order_at x.limit top t → order ≡ min k top → Whatever F b m x (Scanned F k f) → f < F → starts_by b m k f ≡ true
        → IsCut r order f k → Finds F b m top x (Some r)
    unfolding Whatever
    word-chosen k order f ht hk ke oe sc h t' re = record {
      block = λ w left L st known o te.
          let first = by_first F b m w st k f hk h t' in
          chosen F w st.lawful left x L top t o te known k f order ht ke (n w st known) (sc w st known).0 h first oe ∙ ap some (sym re.0);
      first = λ w st known.
          let rb = re.0 in
          let rt = re.1 in
          rw (rb, rt) (omega (arith, oe), h, by_first F b m w st k f hk h t');
    }

  pub none-chosen : t ≡ x.limit + 1 → Finds F b m top x None
  unfolding Whatever
  none-chosen e = record {
    block = λ w left L st known o te. chosen_none F w st.lawful left x L top t o te known (n w st known) e;
    first = λ w st known. tt;
  }

-- the choice

-- where the old choice is none, no block is taken with any wish
none-either : (F : ℕ) (free : ℕ → Bool) (wish : Option ℕ) (left : ℕ) → 1 ≤ left → take_block F free none left ≡ none → take_block F free wish left ≡ none
none-either F free wish left pos e =
    not_there (take_block F free wish left) (λ x xe.
    let q = took-free F free left x (took F free wish left x xe) x.start.0 refl in
    go (take_block F free none left) e (taking F free none left) x.start.0 q.0 q.1)
  where
    go : (o : Option Block) → o ≡ none → Taking F free left o → (f : ℕ) → f < F → free f ≡ true → ⊥
    go o oe (one b t) f h t' = none-some b o oe refl
    go o oe (end n) f h t' = n f h t' pos

module _ (F : ℕ) (b m : List ℕ) (wish left : ℕ) (x : Bound) where
  -- the wish is met at the order that is chosen
  wish-chosen : (i high : ℕ) (r : Cut) → Whatever F b m x (λ w. order_for F (free_in w) left ≡ some i) → Wished F b m wish i (Some high) → IsCut r i wish high → Chooses F b m wish left x (Some r)
  unfolding Whatever
  wish-chosen i high r ok wd re = record {
    block = λ w st known. wish-met F (free_in w) wish left i (ok w st known) (wd.met w st).0 ∙ ap some (sym re.0);
    first = λ w st known. let rb = re.0 in let rt = re.1 in let q = wd.met w st in rw (rb, rt) (q.1, q.2, q.3);
  }

module _ (F : ℕ) (b m : List ℕ) (wish left : ℕ) (x : Bound) (L top : ℕ) (o : order_within left ≡ some L) (te : top ≡ min L x.limit) where
  -- the wish is met at the largest order that can be chosen
  pub top-chosen : (high : ℕ) (r : Cut) → Wished F b m wish top (Some high) → IsCut r top wish high → Chooses F b m wish left x (Some r)
  unfolding Whatever
  top-chosen high r wd re =
      wish-chosen F b m wish left x top high r (λ w st known.
      let size : 2 ^ top ≤ 2 ^ L = pow_mono (omega arith) in
      let fits : 2 ^ top ≤ left = omega (arith, (within left L o).fits) in
      order-whole F (free_in w) left top wish fits (wd.met w st).0 (above-top F (free_in w) left x L top o te known)) wd re

  -- the old choice is none, so no block is taken
  pub old-none : 1 ≤ left → Finds F b m top x None → Chooses F b m wish left x None
  old-none pos fd = record {
    block = λ w st known. none-either F (free_in w) (some wish) left pos (fd.block w left L st known o te);
    first = λ w st known. tt;
  }

  module _ (old : Cut) (fd : Finds F b m top x (Some old)) where
    old-is : (w : List ℕ) → Stands F b m w → Searched F (free_in w) x → take_block F (free_in w) none left ≡ some old.block
    old-is w st known = fd.block w left L st known o te

    -- it is met at the order of the old choice
    pub low-chosen : (low : ℕ) (r : Cut) → Wished F b m wish old.block.order (Some low) → IsCut r old.block.order wish low → Chooses F b m wish left x (Some r)
    unfolding Whatever
    low-chosen low r wd re = wish-chosen F b m wish left x old.block.order low r (λ w st known. old-order F (free_in w) left old.block (old-is w st known)) wd re

    -- it is not met at that order
    old-chosen : Whatever F b m x (λ w. wholly_free F (free_in w) old.block.order wish ≡ false) → Chooses F b m wish left x (Some old)
    unfolding Whatever
    old-chosen n = record {
      block = λ w st known. wish-not-met F (free_in w) wish left old.block.order (old-order F (free_in w) left old.block (old-is w st known)) (n w st known) ∙ old-is w st known;
      first = λ w st known.
          let q = fd.first w st known in
          let starts = (word-block F w (lawful-is F w st.lawful) old.top old.block.start.0 q.1 q.2).aligned in
          (q.0, rw starts q.1, rw starts q.2);
    }

    pub old-low : Wished F b m wish old.block.order None → Chooses F b m wish left x (Some old)
    unfolding Whatever
    old-low wd = old-chosen (λ w st known. wd.not-met w st)

    pub old-top : Wished F b m wish top None → top ≤ old.block.order → Chooses F b m wish left x (Some old)
    unfolding Whatever
    old-top wd ge = old-chosen (λ w st known.
        let up = order-low F (free_in w) left x L top o te known old.block.order (old-order F (free_in w) left old.block (old-is w st known)) in
        let same : old.block.order ≡ top = omega arith in
        rw same (wd.not-met w st))

-- while a page is left and enough frames are free there is a block to take
pub some-cut : (F : ℕ) (b m : List ℕ) (wish left : ℕ) (x : Bound) (r : code.Option Cut) → Chooses F b m wish left x r → (w : List ℕ) → Stands F b m w → Searched F (free_in w) x → 1 ≤ left → left ≤ count F (free_in w) → IsSome r
some-cut F b m wish left x None ch w st known pos enough = absurd (is_there F (free_in w) wish left pos enough (ch.block w st known))
some-cut F b m wish left x (Some c) ch w st known pos enough = refl
