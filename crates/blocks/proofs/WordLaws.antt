-- What frame words say: owners, free blocks, and the lawful buffer as the table of its own owners.
use mathlib.Core.Path.{◌≡◌, refl, ap, ◌∙◌, sym, fun_ext}
use mathlib.Core.Bool.{Bool, true, false, ◌||◌}
use mathlib.Core.List.{List}
use mathlib.Core.Option.{Option, none, some}
use Prim.Native.Nat.{ℕ, ◌+◌, ◌<◌, ◌≤◌}
use native.Mathlib.Nat.{zero-add}
use native.Mathlib.Decide.{dec_lt, dec_le, ℕ_discrete}
use native.Mathlib.Omega.{arith}
use lib.Dec.{eqb}
use lib.ListN.{length, get_or, get_or-eq_default}
use borrow.Author.Tests.{leb-true, le-leb, eqb-true, eq-eqb, ne_eqb, lt-ltb, le-ltb}
use Rattle.words.specs.Searches.{first_from}
use Rattle.words.proofs.Cases.{by-test, by-dec, true-false, and-true, true-and}
use Rattle.words.proofs.TableLaws.{is-tabulate, tabulate-ext, length-tabulate, get_d_tabulate, get_or-tabulate-out}
use Rattle.words.proofs.SearchLaws.{every-at, at_every, First, found, missing, first_from-is}
use Rattle.blocks.specs.Blocks.{free_block}
use Rattle.blocks.specs.FrameWords.{is_pool_size, is_owner, owner_of, owners_of, free_of, free_in, first_or_other, free_word, lawful_at, lawful, frame_word, frame_words}
use Rattle.blocks.specs.Inner.Around.{start_of, free_order, order_word}
use Rattle.blocks.proofs.AroundLaws.{around-at, order-here, maximal-order, order-ext}
use Rattle.blocks.proofs.FreeBlockLaws.{BlockAt, free-block-at, at-free-block}

-- owners

pub owner-is : (w : ℕ) → 1 ≤ w → w ≤ 4096 → is_owner w ≡ true
unfolding is_owner
owner-is w lo hi = true-and _ _ (le-leb 1 w lo) (le-leb w 4096 hi)

pub is-owner : (w : ℕ) → is_owner w ≡ true → (1 ≤ w) × (w ≤ 4096)
unfolding is_owner
is-owner w t = let p = and-true _ _ t in (leb-true _ _ p.0, leb-true _ _ p.1)

pub not-owner : (w : ℕ) → 4096 < w → is_owner w ≡ false
not-owner w h = by-test (is_owner w) (λ t. absurd (omega (arith, (is-owner w t).1))) (λ t. t)

owner-true : (w : ℕ) → is_owner w ≡ true → owner_of w ≡ w
unfolding owner_of
owner-true w t = rw (t, owner_of)

pub owner-false : (w : ℕ) → is_owner w ≡ false → owner_of w ≡ 0
unfolding owner_of
owner-false w t = rw (t, owner_of)

pub owner-low : (w : ℕ) → w ≤ 4096 → owner_of w ≡ w
owner-low w h =
    by-test (is_owner w) (owner-true w)
    (λ t. by-dec (ℕ_discrete w 0) (λ z. owner-false w t ∙ sym z) (λ nz. true-false (is_owner w) (owner-is w (omega arith) h) t))

pub owner-high : (w : ℕ) → 4096 < w → owner_of w ≡ 0
owner-high w h = owner-false w (not-owner w h)

pub owner-small : (w : ℕ) → owner_of w ≤ 4096
owner-small w =
    by-dec (dec_le w 4096)
    (λ le. let e = owner-low w le in omega arith)
    (λ gt. let e = owner-high w (omega arith) in omega arith)

pub owners-small : (b : List ℕ) (f : ℕ) → owners_of b f ≤ 4096
unfolding owners_of
owners-small b f = owner-small (get_or b f 0)

pub free-at : (owner : ℕ → ℕ) (f : ℕ) → free_of owner f ≡ true → owner f ≡ 0
unfolding free_of
free-at owner f t = eqb-true _ _ t

pub at-free : (owner : ℕ → ℕ) (f : ℕ) → owner f ≡ 0 → free_of owner f ≡ true
unfolding free_of
at-free owner f e = eq-eqb _ _ e

pub held_at : (owner : ℕ → ℕ) (f : ℕ) → (owner f ≡ 0 → ⊥) → free_of owner f ≡ false
unfolding free_of
held_at owner f n = ne_eqb _ _ n

pub free-same : (o p : ℕ → ℕ) (f : ℕ) → o f ≡ p f → free_of o f ≡ free_of p f
unfolding free_of
free-same o p f e = rw e

pub free-zero : (b : List ℕ) (g : ℕ) → free_in b g ≡ true → owners_of b g ≡ 0
unfolding free_in
free-zero b g t = free-at (owners_of b) g t

pub zero-free : (b : List ℕ) (g : ℕ) → owners_of b g ≡ 0 → free_in b g ≡ true
unfolding free_in
zero-free b g e = at-free (owners_of b) g e

-- what code learns from the owner that a word names
module _ (b : List ℕ) (f : ℕ) where
  pub is_free : owner_of (get_or b f 0) ≡ 0 → free_in b f ≡ true
  unfolding owners_of
  is_free e = zero-free b f e

  pub is_held : (owner_of (get_or b f 0) ≡ 0 → ⊥) → free_in b f ≡ false
  unfolding free_in owners_of
  is_held n = held_at (owners_of b) f n

-- words of free frames

pub start_word : (f k : ℕ) → start_of k f ≡ f → order_word f (some k) ≡ 16384 + k
unfolding order_word
start_word f k e = rw (eq-eqb _ _ e, order_word)

pub other_word : (f k : ℕ) → (start_of k f ≡ f → ⊥) → order_word f (some k) ≡ 8192
unfolding order_word
other_word f k e = rw (ne_eqb _ _ e, order_word)

-- the word by the free block around the frame
free-word : (F : ℕ) (free : ℕ → Bool) (f : ℕ) → f < F → free f ≡ true → free_word F free f ≡ order_word f (free_order F free f)
unfolding free_word first_or_other
free-word F free f h t = go (first_from 11 0 (λ k. free_block F free k f)) (first_from-is 11 0 (λ k. free_block F free k f))
  where
    go : (o : Option ℕ) → First 11 0 (λ k. free_block F free k f) o → first_or_other o ≡ order_word f (free_order F free f)
    go o (found k lo hi y m) =
        let b = free-block-at F free k f y in
        sym (ap (order_word f) (maximal-order F free k f b.maximal) ∙ start_word f k b.aligned)
    go o (missing m) =
        let q = order-here F free f h t in
        let k : ℕ = q.0 in
        let small = q.2.small in
        sym (ap (order_word f) q.1 ∙ other_word f k (λ st.
        true-false (free_block F free k f) (at-free-block F free k f (record { inside = h; maximal = q.2; aligned = st })) (m k (omega arith) (omega arith))))

module _ (F : ℕ) (owner : ℕ → ℕ) (f : ℕ) where
  pub free-frame : f < F → owner f ≡ 0 → frame_word F owner f ≡ order_word f (free_order F (free_of owner) f)
  unfolding frame_word
  free-frame h z = rw (lt-ltb f F h, eq-eqb _ _ z, frame_word) (free-word F (free_of owner) f h (at-free owner f z))

  pub held_word : f < F → (owner f ≡ 0 → ⊥) → frame_word F owner f ≡ owner f
  unfolding frame_word
  held_word h z = rw (lt-ltb f F h, ne_eqb _ _ z, frame_word)

  pub high_word : F ≤ f → frame_word F owner f ≡ 65535
  unfolding frame_word
  high_word h = rw (le-ltb f F h, frame_word)

-- words depend only on the owners below F

module _ (F : ℕ) (o p : ℕ → ℕ) (same : (g : ℕ) → g < F → o g ≡ p g) where
  pub word-ext : (f : ℕ) → frame_word F o f ≡ frame_word F p f
  word-ext f =
      by-dec (dec_lt f F)
      (λ h. by-dec (ℕ_discrete (o f) 0)
      (λ z.
      let z' : p f ≡ 0 = sym (same f h) ∙ z in
      free-frame F o f h z ∙ ap (order_word f) (order-ext F (free_of o) (free_of p) (λ g hg. free-same o p g (same g hg)) f) ∙ sym (free-frame F p f h z'))
      (λ n. held_word F o f h n ∙ same f h ∙ sym (held_word F p f h (λ z. n (same f h ∙ z)))))
      (λ ge. let le : F ≤ f = omega arith in high_word F o f le ∙ sym (high_word F p f le))

  pub words-ext : frame_words F o ≡ frame_words F p
  unfolding frame_words
  words-ext = tabulate-ext 4096 (frame_word F o) (frame_word F p) (λ k hk. word-ext k)

-- the owner can be read back from the word

free_back : (f : ℕ) (o : Option ℕ) → owner_of (order_word f o) ≡ 0
unfolding order_word
free_back f none = owner-high 8192 (omega arith)
free_back f (some k) =
    by-test (eqb (start_of k f) f)
    (λ t. rw (t, order_word) (owner-high (16384 + k) (omega arith)))
    (λ t. rw (t, order_word) (owner-high 8192 (omega arith)))

pub owner-back : (F : ℕ) (owner : ℕ → ℕ) (f : ℕ) → f < F → owner f ≤ 4096 → owner_of (frame_word F owner f) ≡ owner f
owner-back F owner f h small =
    by-dec (ℕ_discrete (owner f) 0)
    (λ z. ap owner_of (free-frame F owner f h z) ∙ free_back f (free_order F (free_of owner) f) ∙ sym z)
    (λ n. ap owner_of (held_word F owner f h n) ∙ owner-low (owner f) small)

-- the lawful buffer

pub record Lawful (F : ℕ) (b : List ℕ) : Type 0 where
  pub len : length b ≡ 4096
  pub pos : 1 ≤ F
  pub small : F ≤ 4096
  pub words : (g : ℕ) → g < 4096 → get_or b g 0 ≡ frame_word F (owners_of b) g

or_left : (a b : Bool) → a ≡ true → (a || b) ≡ true
or_left true b t = refl
or_left false b t = true-false false t refl

or_right : (a b : Bool) → b ≡ true → (a || b) ≡ true
or_right true b t = refl
or_right false b t = t

right_of : (a b : Bool) → a ≡ false → (a || b) ≡ true → b ≡ true
right_of true b f t = true-false true refl f
right_of false b f t = t

pub size-at : (F : ℕ) → is_pool_size F ≡ true → (1 ≤ F) × (F ≤ 4096)
unfolding is_pool_size
size-at F t = let p = and-true _ _ t in (leb-true _ _ p.0, leb-true _ _ p.1)

pub at_size : (F : ℕ) → 1 ≤ F → F ≤ 4096 → is_pool_size F ≡ true
unfolding is_pool_size
at_size F lo hi = true-and _ _ (le-leb 1 F lo) (le-leb F 4096 hi)

module _ (F : ℕ) (b : List ℕ) (g : ℕ) where
  -- the word that may stand at a place is the one that the owners ask for
  lawful-word : lawful_at F (free_in b) g (get_or b g 0) ≡ true → get_or b g 0 ≡ frame_word F (owners_of b) g
  unfolding lawful_at frame_word owners_of free_in
  lawful-word t =
      by-dec (dec_lt g F)
      (λ h.
      let t1 = rw (lt-ltb g F h, lawful_at) at t in
      by-test (is_owner (get_or b g 0))
      (λ o.
      let e : owners_of b g ≡ get_or b g 0 = owner-true _ o in
      sym (held_word F (owners_of b) g h (λ z. omega (arith, e, (is-owner _ o).0)) ∙ e))
      (λ o.
      let z : owners_of b g ≡ 0 = owner-false _ o in
      rw (lt-ltb g F h, eq-eqb _ _ z, frame_word) (eqb-true _ _ (right_of _ _ o t1))))
      (λ ge. let le : F ≤ g = omega arith in eqb-true _ _ (rw (le-ltb g F le, lawful_at) at t) ∙ sym (high_word F (owners_of b) g le))

  word-lawful : get_or b g 0 ≡ frame_word F (owners_of b) g → lawful_at F (free_in b) g (get_or b g 0) ≡ true
  unfolding lawful_at frame_word owners_of free_in
  word-lawful e =
      by-dec (dec_lt g F)
      (λ h. rw (lt-ltb g F h, lawful_at)
      (by-dec (ℕ_discrete (owners_of b g) 0)
      (λ z. or_right (is_owner (get_or b g 0)) _ (eq-eqb _ _ (rw (lt-ltb g F h, eq-eqb _ _ z, frame_word) at e)))
      (λ n. or_left (is_owner (get_or b g 0)) _ (by-test (is_owner (get_or b g 0)) (λ o. o) (λ o. absurd (n (owner-false _ o)))))))
      (λ ge. let le : F ≤ g = omega arith in rw (le-ltb g F le, lawful_at) (eq-eqb _ _ (e ∙ high_word F (owners_of b) g le)))

module _ (F : ℕ) (b : List ℕ) where
  pub lawful-is : lawful F b ≡ true → Lawful F b
  unfolding lawful
  lawful-is t =
      let p = and-true _ _ t in
      let q = and-true _ _ p.1 in
      let s = size-at F q.0 in
      let n : length b ≡ 4096 = eqb-true _ _ p.0 in
      record {
        len = n;
        pos = s.0;
        small = s.1;
        words = λ g h.
            let z : 0 + g ≡ g = zero-add g in
            lawful-word F b g (rw z at (every-at (lawful_at F (free_in b)) 0 b 0 q.1 g (omega arith)));
      }

  pub lawful-yes : Lawful F b → true ≡ lawful F b
  unfolding lawful
  lawful-yes w =
      sym (true-and _ _ (eq-eqb _ _ w.len) (true-and _ _ (at_size F w.pos w.small)
      (at_every (lawful_at F (free_in b)) 0 b 0 (λ k h. let z : 0 + k ≡ k = zero-add k in rw z (word-lawful F b k (w.words k (omega (arith, w.len))))))))

  pub lawful-no : (Lawful F b → ⊥) → false ≡ lawful F b
  lawful-no n = by-test (lawful F b) (λ t. absurd (n (lawful-is t))) (λ f. sym f)

  -- a lawful buffer is the table of its own owners
  pub lawful-table : Lawful F b → b ≡ frame_words F (owners_of b)
  unfolding frame_words
  lawful-table w = is-tabulate b 4096 (frame_word F (owners_of b)) 0 w.len w.words

  -- it names no owner at or above F
  pub owners-high : Lawful F b → (g : ℕ) → F ≤ g → owners_of b g ≡ 0
  unfolding owners_of
  owners-high l g h =
      by-dec (dec_lt g 4096)
      (λ lt. ap owner_of (l.words g lt ∙ high_word F (owners_of b) g h) ∙ owner-high 65535 (omega arith))
      (λ ge. let out : length b ≤ g = omega (arith, l.len) in ap owner_of (get_or-eq_default b 0 out) ∙ owner-low 0 (omega arith))

-- tables of owners that are owners of frames below F

module _ (F : ℕ) (o : ℕ → ℕ) (low : (g : ℕ) → o g ≤ 4096) (high : (g : ℕ) → F ≤ g → o g ≡ 0) (small : F ≤ 4096) where
  word_at : (g : ℕ) → g < 4096 → get_or (frame_words F o) g 0 ≡ frame_word F o g
  unfolding frame_words
  word_at g h = get_d_tabulate 4096 (frame_word F o) g 0 h

  owner-again : (g : ℕ) → owners_of (frame_words F o) g ≡ o g
  unfolding owners_of frame_words
  owner-again g =
      by-dec (dec_lt g F)
      (λ h. ap owner_of (word_at g (omega arith)) ∙ owner-back F o g h (low g))
      (λ ge. by-dec (dec_lt g 4096)
      (λ h. ap owner_of (word_at g h ∙ high_word F o g (omega arith)) ∙ owner-high 65535 (omega arith) ∙ sym (high g (omega arith)))
      (λ out. ap owner_of (get_or-tabulate-out 4096 (frame_word F o) g 0 (omega arith)) ∙ owner-low 0 (omega arith) ∙ sym (high g (omega arith))))

  pub owners-again : owners_of (frame_words F o) ≡ o
  owners-again = fun_ext owner-again

  pub table-lawful : 1 ≤ F → Lawful F (frame_words F o)
  unfolding frame_words
  table-lawful pos =
      record {
        len = length-tabulate 4096 (frame_word F o);
        pos = pos;
        small = small;
        words = λ g h. word_at g h ∙ word-ext F o (owners_of (frame_words F o)) (λ x hx. sym (owner-again x)) g;
      }

-- a word that says the start of a free block is one: what code learns by reading it

start-free : (f k : ℕ) (o : Option ℕ) → order_word f o ≡ 16384 + k → (o ≡ some k) × (start_of k f ≡ f)
unfolding order_word
start-free f k none e = absurd (omega (arith, e))
start-free f k (some m) e =
    by-test (eqb (start_of m f) f)
    (λ t.
    let w : 16384 + m ≡ 16384 + k = rw (t, order_word) at e in
    let mk : m ≡ k = omega arith in
    let st : start_of m f ≡ f = eqb-true _ _ t in
    (ap some mk, rw mk at st))
    (λ t. let w : 8192 ≡ 16384 + k = rw (t, order_word) at e in absurd (omega arith))

module _ (F : ℕ) (b : List ℕ) (l : Lawful F b) (k s : ℕ) (h : s < F) where
  s-small : s < 4096
  s-small = omega (arith, l.small)

  pub word-block : get_or b s 0 ≡ 16384 + k → BlockAt F (free_in b) k s
  unfolding free_in
  word-block e =
      let is : frame_word F (owners_of b) s ≡ 16384 + k = sym (l.words s s-small) ∙ e in
      by-dec (ℕ_discrete (owners_of b s) 0)
      (λ z.
      let w = start-free s k (free_order F (free_of (owners_of b)) s) (sym (free-frame F (owners_of b) s h z) ∙ is) in
      let q = order-here F (free_in b) s h (zero-free b s z) in
      let same : some q.0 ≡ some k = sym q.1 ∙ w.0 in
      let kk : q.0 ≡ k = cc in
      record { inside = h; maximal = rw kk at q.2; aligned = w.1 })
      (λ n. let o = owners-small b s in let x = held_word F (owners_of b) s h n in absurd (omega arith))

  pub block-word : BlockAt F (free_in b) k s → get_or b s 0 ≡ 16384 + k
  unfolding free_in
  block-word x =
      let fr = around-at F (free_in b) k s x.maximal.whole s refl in
      l.words s s-small ∙ free-frame F (owners_of b) s h (free-zero b s fr.1) ∙ ap (order_word s) (maximal-order F (free_in b) k s x.maximal) ∙ start_word s k x.aligned

  pub no_block : (get_or b s 0 ≡ 16384 + k → ⊥) → free_block F (free_in b) k s ≡ false
  no_block n = by-test (free_block F (free_in b) k s) (λ t. absurd (n (block-word (free-block-at F (free_in b) k s t)))) (λ t. t)
