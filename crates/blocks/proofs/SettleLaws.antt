-- The pass over the pool that settles its words, or checks them: one step, and what the whole pass leaves.
use mathlib.Core.Path.{◌≡◌, refl, ap, ◌∙◌, sym}
use mathlib.Core.Bool.{Bool, true, false}
use mathlib.Core.List.{List}
use mathlib.Core.Option.{some}
use Prim.Native.Nat.{ℕ, ◌+◌, ◌/◌, ◌^◌, ◌-◌, ◌<◌, ◌≤◌, zero-le}
use native.Mathlib.Decide.{dec_lt, dec_le, ℕ_discrete}
use native.Mathlib.Omega.{arith}
use lib.ListN.{length, get_or, set}
use lib.Seq.{get_or-set_same, get_or-set_other}
use lib.Pow.{pow_pos}
use borrow.Author.Tests.{eqb-true, eq-eqb}
use Rattle.words.specs.Searches.{all_from}
use Rattle.words.proofs.Cases.{by-test, by-dec, true-false}
use Rattle.words.proofs.TableLaws.{is-tabulate}
use Rattle.words.proofs.SearchLaws.{all_from_at, at-all_from, some-fails}
use Rattle.words.specs.Inner.{Filled, same_in}
use Rattle.words.proofs.PowerLaws.{double}
use Rattle.blocks.specs.FrameWords.{owner_of, owners_of, free_in, owned_in, lawful, frame_word, frame_words}
use Rattle.blocks.specs.Inner.Around.{start_of, around, free_order, order_word}
use Rattle.blocks.specs.Inner.Passes.{Edge, SettledTo, Checked, Wrong, HeldTo}
use Rattle.blocks.proofs.AroundLaws.{finer, coarser, in-block, block_in, start-same, around-at, at-around, around-same, smaller, around-ext, free-around, Maximal, order-here, maximal-order, maximal-same}
use Rattle.blocks.proofs.WordLaws.{not-owner, owner-low, owner-high, owners-small, free-same, free-zero, is_free, is_held, start_word, other_word, free-frame, held_word, high_word, word-ext, words-ext, owner-back, lawful-yes, lawful-no}

-- edges

pub edge-zero : (F : ℕ) (free : ℕ → Bool) → Edge F free 0
edge-zero F free = record { starts = λ m h t. let r = in-block m 0 0 refl in omega (arith, r.0) }

pub edge-held : (F : ℕ) (free : ℕ → Bool) (f : ℕ) → free f ≡ false → Edge F free (f + 1)
edge-held F free f n = record {
  starts = λ m h t.
      let r = in-block m (f + 1) (f + 1) refl in
      by-dec (ℕ_discrete (start_of m (f + 1)) (f + 1)) (λ e. e)
      (λ ne. true-false (free f) (around-at F free m (f + 1) t f (block_in m (f + 1) f (omega (arith, r.0)) (omega (arith, r.1)))).1 n);
}

pub edge-ext : (F : ℕ) (p q : ℕ → Bool) → ((g : ℕ) → g < F → p g ≡ q g) → (f : ℕ) → Edge F p f → Edge F q f
edge-ext F p q same f e = record { starts = λ m h t. e.starts m h (around-ext F p q same f m ∙ t) }

module _ (F : ℕ) (free : ℕ → Bool) (k f : ℕ) (m : Maximal F free k f) (st : start_of k f ≡ f) where
  pub block-end : f + 2 ^ k ≤ F
  block-end =
      let pos : 0 < 2 ^ k = pow_pos k in
      let last = around-at F free k f m.whole (f + (2 ^ k - 1)) (block_in k f _ (omega arith) (omega arith)) in
      omega (arith, last.0)

  pub edge-block : Edge F free (f + 2 ^ k)
  edge-block = record {
    starts = λ j h t. by-dec (ℕ_discrete (start_of j (f + 2 ^ k)) (f + 2 ^ k)) (λ e. e)
        (λ ne.
        let pos : 0 < 2 ^ k = pow_pos k in
        let r = in-block j (f + 2 ^ k) (f + 2 ^ k) refl in
        let lo = r.0 in
        let hi = r.1 in
        let last : ℕ = f + (2 ^ k - 1) in
        let mine : last / 2 ^ k ≡ f / 2 ^ k = block_in k f last (omega arith) (omega arith) in
        let next : last / 2 ^ j ≡ (f + 2 ^ k) / 2 ^ j = block_in j (f + 2 ^ k) last (omega arith) (omega arith) in
        by-dec (dec_le j k)
        (λ le. let q = in-block k f (f + 2 ^ k) (sym (coarser last (f + 2 ^ k) j k le next) ∙ mine) in absurd (omega (arith, q.1)))
        (λ gt. true-false (around F free f j)
        (around-same F free j (f + 2 ^ k) f (sym (coarser last f k j (omega arith) mine) ∙ next) t) (m.alone j (omega arith) h)));
  }

-- one step

-- the word of a held frame is its owner
held-frame : (F : ℕ) (b : List ℕ) (f : ℕ) → f < F → (owner_of (get_or b f 0) ≡ 0 → ⊥) → get_or b f 0 ≡ frame_word F (owners_of b) f
unfolding owners_of
held-frame F b f h n =
    by-dec (dec_le (get_or b f 0) 4096) (λ le. sym (owner-low _ le)) (λ gt. absurd (n (owner-high _ (omega arith))))
    ∙ sym (held_word F (owners_of b) f h n)

module _ (F : ℕ) (b : List ℕ) (f : ℕ) (h : f < F) (edge : Edge F (free_in b) f) where
  pub held-step : (owner_of (get_or b f 0) ≡ 0 → ⊥) → SettledTo F b f (f + 1) b
  held-step n =
      record {
        on = omega arith;
        inside = omega arith;
        words = λ g lo hi. let gf : g ≡ f = omega arith in rw gf (held-frame F b f h n);
        below = λ g lt. refl;
        above = λ g le. refl;
        edge = edge-held F (free_in b) f (is_held b f n);
      }

  -- the free block at f
  pub record BlockHere (k : ℕ) : Type 0 where
    pub maximal : Maximal F (free_in b) k f
    pub starts : start_of k f ≡ f
    pub first : frame_word F (owners_of b) f ≡ 16384 + k
    pub others : (g : ℕ) → f < g → g < f + 2 ^ k → frame_word F (owners_of b) g ≡ 8192

  pub block_here : (k : ℕ) → free_in b f ≡ true → free_order F (free_in b) f ≡ some k → BlockHere k
  unfolding free_in
  block_here k t e =
      let q = order-here F (free_in b) f h t in
      let same : some q.0 ≡ some k = sym q.1 ∙ e in
      let kk : q.0 ≡ k = cc in
      let m : Maximal F (free_in b) k f = rw kk at q.2 in
      let st : start_of k f ≡ f = edge.starts k m.small m.whole in
      record { maximal = m; starts = st; first = first_word m st; others = λ g lo hi. other m st g lo hi }
    where
      word_at : (g : ℕ) → g / 2 ^ k ≡ f / 2 ^ k → Maximal F (free_in b) k f → frame_word F (owners_of b) g ≡ order_word g (some k)
      word_at g e m =
          let p = around-at F (free_in b) k f m.whole g e in
          let lv : free_order F (free_in b) g ≡ some k = maximal-order F (free_in b) k g (maximal-same F (free_in b) k f g e m) in
          free-frame F (owners_of b) g p.0 (free-zero b g p.1) ∙ ap (order_word g) lv

      first_word : Maximal F (free_in b) k f → start_of k f ≡ f → frame_word F (owners_of b) f ≡ 16384 + k
      first_word m st = word_at f refl m ∙ start_word f k st

      other : Maximal F (free_in b) k f → start_of k f ≡ f → (g : ℕ) → f < g → g < f + 2 ^ k → frame_word F (owners_of b) g ≡ 8192
      other m st g lo hi =
          let e : g / 2 ^ k ≡ f / 2 ^ k = block_in k f g (omega arith) (omega arith) in
          let s = start-same k f g e in
          word_at g e m ∙ other_word g k (λ x. omega arith)

  pub free_step : (k : ℕ) (b' : List ℕ) → f < length b → free_in b f ≡ true → free_order F (free_in b) f ≡ some k
      → Filled (set b f (16384 + k)) (f + 1) (f + 2 ^ k) 8192 b' → SettledTo F b f (f + 2 ^ k) b'
  free_step k b' len t e w =
      let x = block_here k t e in
      let pos : 0 < 2 ^ k = pow_pos k in
      record {
        on = omega arith;
        inside = block-end F (free_in b) k f x.maximal x.starts;
        words = λ g lo hi. by-dec (ℕ_discrete g f)
            (λ gf. rw gf (w.below f (omega arith) ∙ get_or-set_same b f (16384 + k) 0 len ∙ sym x.first))
            (λ ne. w.inside g (omega arith) hi ∙ sym (x.others g (omega arith) hi));
        below = λ g lt. w.below g (omega arith) ∙ get_or-set_other b f g (16384 + k) 0 (λ z. omega arith);
        above = λ g le. w.above g le ∙ get_or-set_other b f g (16384 + k) 0 (λ z. omega arith);
        edge = edge-block F (free_in b) k f x.maximal x.starts;
      }

  pub free-step-by : (k z : ℕ) (b' : List ℕ) → z ≡ 2 ^ k → f < length b → free_in b f ≡ true → free_order F (free_in b) f ≡ some k
      → Filled (set b f (16384 + k)) (f + 1) (f + z) 8192 b' → SettledTo F b f (f + z) b'
  free-step-by k z b' size len t e w = rw size (free_step k b' len t e (rw size at w))

  pub level-fits : (k : ℕ) → free_in b f ≡ true → free_order F (free_in b) f ≡ some k → (f + 2 ^ k ≤ F) × (k ≤ 10) × (1 ≤ 2 ^ k)
  level-fits k t e = let x = block_here k t e in (block-end F (free_in b) k f x.maximal x.starts, x.maximal.small, pow_pos k)

-- the pass

pub record Sofar (F : ℕ) (b₀ b : List ℕ) (f : ℕ) : Type 0 where
  pub fits : f ≤ F
  pub len : length b ≡ length b₀
  pub words : (g : ℕ) → g < f → get_or b g 0 ≡ frame_word F (owners_of b₀) g
  pub rest : (g : ℕ) → f ≤ g → get_or b g 0 ≡ get_or b₀ g 0
  pub edge : Edge F (free_in b) f
  pub same : (g : ℕ) → g < F → owners_of b g ≡ owners_of b₀ g

pub at-start : (F : ℕ) (b : List ℕ) → Sofar F b b 0
at-start F b = record { fits = zero-le; len = refl; words = λ g h. absurd (omega arith); rest = λ g h. refl; edge = edge-zero F (free_in b); same = λ g h. refl }

pub one-turn : (F : ℕ) (b₀ b : List ℕ) (f r : ℕ) (b' : List ℕ) → Sofar F b₀ b f → length b' ≡ length b → SettledTo F b f r b' → Sofar F b₀ b' r
unfolding owners_of free_in
one-turn F b₀ b f r b' s len w =
    record {
      fits = w.inside;
      len = len ∙ s.len;
      words = λ g lt. by-dec (dec_lt g f)
          (λ low. w.below g low ∙ s.words g low)
          (λ high. w.words g (omega arith) lt ∙ word-ext F (owners_of b) (owners_of b₀) s.same g);
      rest = λ g le. w.above g le ∙ s.rest g (omega (arith, w.on));
      edge = edge-ext F (free_in b) (free_in b') (λ g h. free-same (owners_of b) (owners_of b') g (sym (back g h))) r w.edge;
      same = λ g h. back g h ∙ s.same g h;
    }
  where
    back : (g : ℕ) → g < F → owners_of b' g ≡ owners_of b g
    back g h =
        by-dec (dec_lt g f)
        (λ low. ap owner_of (w.below g low))
        (λ high. by-dec (dec_lt g r)
        (λ lt. ap owner_of (w.words g (omega arith) lt) ∙ owner-back F (owners_of b) g h (owners-small b g))
        (λ ge. ap owner_of (w.above g (omega arith))))

-- a stretch of held frames, whose words are lawful as they are
pub held-turn : (F : ℕ) (b : List ℕ) (s r : ℕ) → Sofar F b b s → HeldTo b s F r → Sofar F b b r
held-turn F b s r x w =
    record {
      fits = w.to;
      len = refl;
      words = λ g lt. by-dec (dec_lt g s)
          (λ low. x.words g low)
          (λ high. held-frame F b g (omega (arith, w.to)) (λ z. true-false (free_in b g) (is_free b g z) (w.held g (omega arith) lt)));
      rest = λ g le. refl;
      edge = by-dec (ℕ_discrete r s)
          (λ e. rw e x.edge)
          (λ ne.
          let last : (r - 1) + 1 ≡ r = omega (arith, w.from) in
          rw last at (edge-held F (free_in b) (r - 1) (w.held (r - 1) (omega (arith, w.from)) (omega (arith, w.from)))));
      same = λ g h. refl;
    }

pub at-end : (F : ℕ) (b₀ b : List ℕ) (f : ℕ) (b' : List ℕ) → length b₀ ≡ 4096 → F ≤ f → Sofar F b₀ b f → length b' ≡ length b → Filled b F 4096 65535 b' → b' ≡ frame_words F (owners_of b₀)
unfolding frame_words
at-end F b₀ b f b' l0 ge s len w =
    is-tabulate b' 4096 (frame_word F (owners_of b₀)) 0 (len ∙ s.len ∙ l0) (λ g h.
    by-dec (dec_lt g F)
    (λ low. w.below g low ∙ s.words g (omega arith))
    (λ high. w.inside g (omega arith) h ∙ sym (high_word F (owners_of b₀) g (omega arith))))

-- the block that grows

module _ (F : ℕ) (free : ℕ → Bool) (f : ℕ) (edge : Edge F free f) where
  pub start-zero : f < F → free f ≡ true → around F free f 0 ≡ true
  start-zero h t = free-around F free f h t

  -- no larger block: this is the free_order
  pub no_more : (k : ℕ) → k ≤ 10 → around F free f k ≡ true → (k < 10 → around F free f (k + 1) ≡ false) → free_order F free f ≡ some k
  no_more k h t stop =
      maximal-order F free k f (record {
        small = h;
        whole = t;
        alone = λ m km hm. by-test (around F free f m)
            (λ y. true-false (around F free f (k + 1)) (smaller F free (k + 1) m f (omega arith) y) (stop (omega arith)))
            (λ y. y);
      })

  -- the block of the next order
  module _ (k : ℕ) (h : k < 10) where
    pub odd-start : (start_of (k + 1) f ≡ f → ⊥) → false ≡ around F free f (k + 1)
    odd-start n = by-test (around F free f (k + 1)) (λ t. absurd (n (edge.starts (k + 1) (omega arith) t))) (λ t. sym t)

    pub past_end : (y : ℕ) → y ≡ 2 ^ (k + 1) → F < f + y → false ≡ around F free f (k + 1)
    past_end y size n =
        by-test (around F free f (k + 1))
        (λ t.
        let st = edge.starts (k + 1) (omega arith) t in
        let pos : 0 < 2 ^ (k + 1) = pow_pos (k + 1) in
        let last = around-at F free (k + 1) f t (f + (2 ^ (k + 1) - 1)) (block_in (k + 1) f _ (omega arith) (omega arith)) in
        absurd (omega (arith, last.0)))
        (λ t. sym t)

    -- its lower half is free, so its upper half decides
    pub upper-decides : (z y : ℕ) → z ≡ 2 ^ k → y ≡ 2 ^ (k + 1) → around F free f k ≡ true → start_of (k + 1) f ≡ f → f + y ≤ F
        → all_from (f + y - (f + z)) (f + z) free ≡ around F free f (k + 1)
    upper-decides z y half whole low st room =
        let d = double k in
        by-test (all_from (f + y - (f + z)) (f + z) free)
        (λ clear.
        let st0 : start_of k f ≡ f = finer k (k + 1) f (omega arith) st in
        clear ∙ sym (at-around F free (k + 1) f (λ g e.
        let r = in-block (k + 1) f g e in
        let lo = r.0 in
        let hi = r.1 in
        by-dec (dec_lt g (f + z))
        (λ lt. around-at F free k f low g (block_in k f g (omega arith) (omega arith)))
        (λ ge. (omega arith, all_from_at _ _ free clear g (omega arith) (omega arith))))))
        (λ held. by-test (around F free f (k + 1))
        (λ t. true-false (all_from (f + y - (f + z)) (f + z) free)
        (at-all_from _ _ free (λ g lo hi. (around-at F free (k + 1) f t g (block_in (k + 1) f g (omega arith) (omega arith))).1)) held)
        (λ t. held ∙ sym t))

-- one step of the check

module _ (F : ℕ) (b : List ℕ) (f : ℕ) (h : f < F) (edge : Edge F (free_in b) f) where
  module _ (k : ℕ) (t : free_in b f ≡ true) (e : free_order F (free_in b) f ≡ some k) where
    check-first : (get_or b f 0 ≡ 16384 + k → ⊥) → Wrong F b
    check-first n = let x = block_here F b f h edge k t e in record { place = f; below = h; differs = λ q. n (q ∙ x.first) }

    module _ (z : ℕ) (size : z ≡ 2 ^ k) where
      pub check-others : all_from (f + z - (f + 1)) (f + 1) (same_in b 8192) ≡ false → Wrong F b
      unfolding same_in
      check-others n =
          let x = block_here F b f h edge k t e in
          let w = level-fits F b f h edge k t e in
          search-wrong x w.0
        where
          search-wrong : BlockHere F b f h edge k → f + 2 ^ k ≤ F → Wrong F b
          search-wrong x fits =
              let r = some-fails (f + z - (f + 1)) (f + 1) (same_in b 8192) n in
              let lo = r.1 in
              let hi = r.2 in
              record { place = r.0; below = omega arith; differs = λ q. true-false (same_in b 8192 r.0) (eq-eqb _ _ (q ∙ x.others r.0 (omega arith) (omega arith))) r.3 }

      check-block : get_or b f 0 ≡ 16384 + k → all_from (f + z - (f + 1)) (f + 1) (same_in b 8192) ≡ true → Checked F b f (f + z)
      unfolding same_in owned_in
      check-block first others =
          let x = block_here F b f h edge k t e in
          let w = level-fits F b f h edge k t e in
          let room = w.0 in
          let some-z = w.2 in
          record {
            settled = record {
              on = omega arith;
              inside = omega arith;
              words = λ g lo hi. by-dec (ℕ_discrete g f)
                  (λ gf. rw gf (first ∙ sym x.first))
                  (λ ne. eqb-true _ _ (all_from_at _ _ (same_in b 8192) others g (omega arith) (omega arith)) ∙ sym (x.others g (omega arith) (omega arith)));
              below = λ g lt. refl;
              above = λ g le. refl;
              edge = rw size (edge-block F (free_in b) k f x.maximal x.starts);
            };
            free = λ g lo hi. by-dec (ℕ_discrete g f)
                (λ gf. rw gf (not-owner (get_or b f 0) (omega arith)))
                (λ ne. other-frame g (eqb-true _ _ (all_from_at _ _ (same_in b 8192) others g (omega arith) (omega arith))));
          }
        where
          other-frame : (g : ℕ) → get_or b g 0 ≡ 8192 → owned_in b g ≡ false
          other-frame g w = not-owner (get_or b g 0) (omega arith)

  -- the head word names an order
  module _ (t : free_in b f ≡ true) where
    -- none that a block can have
    pub check-none : ((k : ℕ) → k ≤ 10 → get_or b f 0 ≡ 16384 + k → ⊥) → Wrong F b
    check-none n = let q = order-here F (free_in b) f h t in check-first q.0 t q.1 (n q.0 q.2.small)

    -- one that is wrong where the block of that order is not lawful
    pub check-order : (k : ℕ) → get_or b f 0 ≡ 16384 + k → (free_order F (free_in b) f ≡ some k → Wrong F b) → Wrong F b
    check-order k w bad =
        let q = order-here F (free_in b) f h t in
        by-dec (ℕ_discrete q.0 k)
        (λ e. bad (q.1 ∙ ap some e))
        (λ ne. check-first q.0 t q.1 (λ e. ne (omega arith)))

    -- no block of that order starts here
    pub check-start : (k : ℕ) → get_or b f 0 ≡ 16384 + k → (start_of k f ≡ f → ⊥) → Wrong F b
    check-start k w n = check-order k w (λ e. absurd (n (block_here F b f h edge k t e).starts))

    pub check-end : (k z : ℕ) → z ≡ 2 ^ k → get_or b f 0 ≡ 16384 + k → F < f + z → Wrong F b
    check-end k z size w n = check-order k w (λ e. absurd (omega (arith, (level-fits F b f h edge k t e).0)))

    -- that block is half of a wholly free one
    pub check-larger : (k : ℕ) → k < 10 → get_or b f 0 ≡ 16384 + k → around F (free_in b) f (k + 1) ≡ true → Wrong F b
    check-larger k less w y = check-order k w (λ e. true-false (around F (free_in b) f (k + 1)) y ((block_here F b f h edge k t e).maximal.alone (k + 1) (omega arith) (omega arith)))

    -- the other words say that they are free
    pub block-free : (k z : ℕ) → z ≡ 2 ^ k → start_of k f ≡ f → f + z ≤ F → all_from (f + z - (f + 1)) (f + 1) (same_in b 8192) ≡ true → around F (free_in b) f k ≡ true
    unfolding same_in
    block-free k z size st room others =
        at-around F (free_in b) k f (λ g e.
        let r = in-block k f g e in
        let lo = r.0 in
        let hi = r.1 in (
          omega arith,
          by-dec (ℕ_discrete g f)
              (λ gf. rw gf t)
              (λ ne. is_free b g (let w : get_or b g 0 ≡ 8192 = eqb-true _ _ (all_from_at _ _ (same_in b 8192) others g (omega arith) (omega arith)) in owner-high _ (omega arith))),
        ))

    -- and that block is half of no wholly free one
    pub check-largest : (k z : ℕ) → z ≡ 2 ^ k → k ≤ 10 → get_or b f 0 ≡ 16384 + k → start_of k f ≡ f → f + z ≤ F
        → all_from (f + z - (f + 1)) (f + 1) (same_in b 8192) ≡ true → (k < 10 → around F (free_in b) f (k + 1) ≡ false) → Checked F b f (f + z)
    check-largest k z size small w st room others stop =
        check-block k t (no_more F (free_in b) f edge k small (block-free k z size st room others) stop) z size w others

-- a wrong word
pub lawful-wrong : (F : ℕ) (b : List ℕ) → F ≤ 4096 → Wrong F b → false ≡ lawful F b
lawful-wrong F b small w = let lt = w.below in lawful-no F b (λ l. w.differs (l.words w.place (omega arith)))

module _ (F : ℕ) (b : List ℕ) where
  pub lawful-tail : (f : ℕ) → length b ≡ 4096 → 1 ≤ F → F ≤ 4096 → F ≤ f → Sofar F b b f → all_from (4096 - F) F (same_in b 65535) ≡ lawful F b
  unfolding same_in
  lawful-tail f len pos small ge s =
      by-test (all_from (4096 - F) F (same_in b 65535))
      (λ t. t ∙ lawful-yes F b (record {
        len = len;
        pos = pos;
        small = small;
        words = λ g h. by-dec (dec_lt g F)
            (λ low. s.words g (omega arith))
            (λ high. eqb-true _ _ (all_from_at (4096 - F) F (same_in b 65535) t g (omega arith) (omega arith)) ∙ sym (high_word F (owners_of b) g (omega arith)));
      }))
      (λ t. t ∙ lawful-no F b (λ w. true-false (all_from (4096 - F) F (same_in b 65535))
      (at-all_from (4096 - F) F (same_in b 65535) (λ g lo hi. eq-eqb _ _ (w.words g (omega arith) ∙ high_word F (owners_of b) g lo))) t))

-- a buffer of zeros, settled, is that of a pool whose frames are all free
pub fresh-words : (F : ℕ) (b b1 b2 : List ℕ) → F ≤ 4096 → Filled b 0 4096 0 b1 → b2 ≡ frame_words F (owners_of b1) → b2 ≡ frame_words F (λ g. 0)
unfolding owners_of
fresh-words F b b1 b2 small w e = e ∙ words-ext F (owners_of b1) (λ g. 0) (λ g h. ap owner_of (w.inside g zero-le (omega arith)) ∙ owner-low 0 (omega arith))
