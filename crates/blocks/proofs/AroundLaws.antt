-- Blocks of frames: f and g are in one block of order k when f / 2 ^ k ≡ g / 2 ^ k. All laws go by that.
use mathlib.Core.Path.{◌≡◌, refl, ap, ◌∙◌, sym}
use mathlib.Core.Bool.{Bool, true, false, not}
use mathlib.Core.Option.{Option, some}
use Prim.Native.Nat.{ℕ, zero, suc, ◌+◌, ◌*◌, ◌/◌, ◌%◌, ◌^◌, ◌-◌, ◌<◌, ◌≤◌, zero-le}
use native.Mathlib.Nat.{div-add-mod', mod-lt, mod-eq_of_lt, div-one, mul_assoc}
use native.Mathlib.Decide.{dec_lt, dec_le, ℕ_discrete}
use native.Mathlib.Omega.{arith}
use lib.Arith.{digits_div}
use lib.Pow.{pow_pos, pow_mono, shr-shr, shl-shr, pow-add}
use borrow.Author.Tests.{leb-true, le-leb, ltb-true, lt-ltb, eq-eqb, ne_eqb, not-true}
use Rattle.words.specs.Searches.{largest}
use Rattle.words.proofs.Cases.{by-test, by-dec, true-false, and-true, true-and, both_ways}
use Rattle.words.proofs.PowerLaws.{double}
use Rattle.words.proofs.SearchLaws.{all_from_at, at-all_from, largest-is, Largest, greatest, nothing, largest-ext, largest-unique}
use Rattle.blocks.specs.Blocks.{in_block}
use Rattle.blocks.specs.Choice.{without}
use Rattle.blocks.specs.Inner.Around.{start_of, other_half, around, free_order}

-- sizes

pub order-size : (k : ℕ) → k ≤ 10 → 2 ^ k ≤ 1024
order-size k h = pow_mono h

-- starts

pub mod-start : (k f : ℕ) → f % 2 ^ k ≡ 0 → start_of k f ≡ f
unfolding start_of
mod-start k f e = let a = div-add-mod' f (2 ^ k) in omega arith

pub start-mod : (k f : ℕ) → start_of k f ≡ f → f % 2 ^ k ≡ 0
unfolding start_of
start-mod k f e = let a = div-add-mod' f (2 ^ k) in omega arith

-- a start of a block is a start of its first part
pub finer : (i j s : ℕ) → i ≤ j → start_of j s ≡ s → start_of i s ≡ s
unfolding start_of
finer i j s h e =
    let a : ℕ = s / 2 ^ j * 2 ^ (j - i) in
    let sum : (j - i) + i ≡ j = omega arith in
    let p : 2 ^ j ≡ 2 ^ (j - i) * 2 ^ i = rw sum at (pow-add 2 (j - i) i) in
    let m : a * 2 ^ i ≡ s = mul_assoc (s / 2 ^ j) (2 ^ (j - i)) (2 ^ i) ∙ ap (λ (x : ℕ). s / 2 ^ j * x) (sym p) ∙ e in
    let d : a * 2 ^ i / 2 ^ i ≡ a = shl-shr a i in
    ap (λ (x : ℕ). x / 2 ^ i * 2 ^ i) (sym m) ∙ ap (λ (x : ℕ). x * 2 ^ i) d ∙ m

-- a start of order k, one block on
pub start-next : (k s : ℕ) → start_of k s ≡ s → start_of k (s + 2 ^ k) ≡ s + 2 ^ k
unfolding start_of
start-next k s e =
    let m : (s / 2 ^ k + 1) * 2 ^ k ≡ s + 2 ^ k = omega (arith, e) in
    let d : (s / 2 ^ k + 1) * 2 ^ k / 2 ^ k ≡ s / 2 ^ k + 1 = shl-shr (s / 2 ^ k + 1) k in
    ap (λ (x : ℕ). x / 2 ^ k * 2 ^ k) (sym m) ∙ ap (λ (x : ℕ). x * 2 ^ k) d ∙ m

-- frames of one block

-- in one block of order k, so in one of any larger order
pub coarser : (f g k m : ℕ) → k ≤ m → f / 2 ^ k ≡ g / 2 ^ k → f / 2 ^ m ≡ g / 2 ^ m
coarser f g k m h e =
    let s : k + (m - k) ≡ m = omega arith in
    let pf : f / 2 ^ k / 2 ^ (m - k) ≡ f / 2 ^ m = rw s at (shr-shr f k (m - k)) in
    let pg : g / 2 ^ k / 2 ^ (m - k) ≡ g / 2 ^ m = rw s at (shr-shr g k (m - k)) in
    cc

-- g is in the block of order k around f when it is between its ends
pub in-block : (k f g : ℕ) → g / 2 ^ k ≡ f / 2 ^ k → (start_of k f ≤ g) × (g < start_of k f + 2 ^ k)
unfolding start_of
in-block k f g e =
    let a : g / 2 ^ k * 2 ^ k + g % 2 ^ k ≡ g = div-add-mod' g (2 ^ k) in
    let b : g % 2 ^ k < 2 ^ k = mod-lt g (pow_pos k) in
    let c : g / 2 ^ k * 2 ^ k ≡ f / 2 ^ k * 2 ^ k = ap (λ (x : ℕ). x * 2 ^ k) e in
    omega arith

pub block_in : (k f g : ℕ) → start_of k f ≤ g → g < start_of k f + 2 ^ k → g / 2 ^ k ≡ f / 2 ^ k
unfolding start_of
block_in k f g lo hi =
    let e : f / 2 ^ k * 2 ^ k + (g - f / 2 ^ k * 2 ^ k) ≡ g = omega arith in
    let d : (f / 2 ^ k * 2 ^ k + (g - f / 2 ^ k * 2 ^ k)) / 2 ^ k ≡ f / 2 ^ k = digits_div (f / 2 ^ k) (omega arith) in
    rw e at d

-- frames of one block have one start, which is in it and starts itself
pub start-same : (k f g : ℕ) → g / 2 ^ k ≡ f / 2 ^ k → start_of k g ≡ start_of k f
unfolding start_of
start-same k f g e = ap (λ (x : ℕ). x * 2 ^ k) e

pub start-in : (k f : ℕ) → start_of k f / 2 ^ k ≡ f / 2 ^ k
start-in k f = block_in k f (start_of k f) (omega arith) (omega (arith, pow_pos k))

-- the start by shifts, in a word of w bits
pub start-shifted : (w k f : ℕ) → f < 2 ^ w → f / 2 ^ k * 2 ^ k % 2 ^ w ≡ start_of k f
unfolding start_of
start-shifted w k f h = mod-eq_of_lt (let low : start_of k f ≤ f = (in-block k f f refl).0 in omega arith)

pub start-start : (k f : ℕ) → start_of k (start_of k f) ≡ start_of k f
start-start k f = start-same k f (start_of k f) (start-in k f)

-- the halves of a block

twice : (k : ℕ) → 2 ^ k + 2 ^ k ≡ 2 ^ suc k
twice k = let on : k + 1 ≡ suc k = omega arith in double k ∙ ap (λ (n : ℕ). 2 ^ n) on

-- the block of order k around f is the lower half of the block of order k + 1 around it, or the upper one
by-half : {P : Type 0} (k f : ℕ) → (start_of k f ≡ start_of (suc k) f → P) → (start_of k f ≡ start_of (suc k) f + 2 ^ k → P) → P
unfolding start_of
by-half k f lower upper =
    let h : ℕ = f / 2 ^ k in
    let w : ℕ = f / 2 ^ suc k in
    let on : k + 1 ≡ suc k = omega arith in
    let half : h / 2 ≡ w = shr-shr f k 1 ∙ ap (λ (n : ℕ). f / 2 ^ n) on in
    let size : w * (2 ^ k + 2 ^ k) ≡ w * 2 ^ suc k = ap (λ (n : ℕ). w * n) (twice k) in
    let parts : h / 2 * 2 + h % 2 ≡ h = div-add-mod' h 2 in
    let small : h % 2 < 2 = mod-lt h (omega arith) in
    by-dec (ℕ_discrete (h % 2) 0)
    (λ z.
    let even : h * 2 ^ k ≡ w * 2 * 2 ^ k = ap (λ (n : ℕ). n * 2 ^ k) (omega arith) in
    lower (omega arith))
    (λ n.
    let odd : h * 2 ^ k ≡ (w * 2 + 1) * 2 ^ k = ap (λ (n : ℕ). n * 2 ^ k) (omega arith) in
    upper (omega arith))

-- f and s are in one block of order k + 1, and in different halves of it
pub record Parted (k f s : ℕ) : Type 0 where
  pub one : f / 2 ^ suc k ≡ s / 2 ^ suc k
  pub apart : f / 2 ^ k ≡ s / 2 ^ k → ⊥

module _ (k s : ℕ) where
  next : start_of (suc k) s ≡ start_of (k + 1) s
  next = let on : suc k ≡ k + 1 = omega arith in ap (λ (n : ℕ). start_of n s) on

  -- the other half, as the code decides which it is
  module _ (own low : ℕ) (oe : own ≡ start_of k s) (le : low ≡ start_of (k + 1) s) where
    pub other-upper : (z : ℕ) → z ≡ 2 ^ k → low ≡ own → own + z ≡ other_half k s
    unfolding other_half
    other-upper z ze e = rw (eq-eqb _ _ (next ∙ sym le ∙ e ∙ oe), other_half) (omega arith)

    pub other-lower : (low ≡ own → ⊥) → low ≡ other_half k s
    unfolding other_half
    other-lower n = rw (ne_eqb _ _ (λ e. n (le ∙ sym next ∙ e ∙ sym oe)), other_half) (le ∙ sym next)

  by-other : {P : Type 0} → (start_of k s ≡ start_of (suc k) s → other_half k s ≡ start_of (suc k) s + 2 ^ k → P)
      → (start_of k s ≡ start_of (suc k) s + 2 ^ k → other_half k s ≡ start_of (suc k) s → P) → P
  by-other upper lower =
      by-half k s
      (λ e. let o = other-upper _ _ refl next _ refl (sym e) in upper e (omega arith))
      (λ e. let p : 0 < 2 ^ k = pow_pos k in let o = other-lower _ _ refl next (λ x. omega arith) in lower e (omega arith))

  -- its first frame parts from s at order k, and each frame that does is in it
  pub other-parted : (f : ℕ) → f ≡ other_half k s → Parted k f s
  other-parted f fe =
      let p : 0 < 2 ^ k = pow_pos k in
      let size = twice k in
      by-other
      (λ e o. record {
        one = block_in (suc k) s f (omega arith) (omega arith);
        apart = λ x. let q = in-block k s f x in omega (arith, q.1);
      })
      (λ e o. record {
        one = block_in (suc k) s f (omega arith) (omega arith);
        apart = λ x. let q = in-block k s f x in omega (arith, q.0);
      })

  pub parted-start : (f : ℕ) → Parted k f s → start_of k f ≡ other_half k s
  parted-start f p =
      let same : start_of (suc k) f ≡ start_of (suc k) s = start-same (suc k) s f p.one in
      let differ : start_of k f ≡ start_of k s → ⊥ = λ e. p.apart (sym (start-in k f) ∙ ap (λ (x : ℕ). x / 2 ^ k) e ∙ start-in k s) in
      by-other
      (λ e o. by-half k f (λ low. absurd (differ (omega arith))) (λ up. omega arith))
      (λ e o. by-half k f (λ low. omega arith) (λ up. absurd (differ (omega arith))))

-- two frames part at one order only
pub parted-once : (k m f s : ℕ) → Parted k f s → Parted m f s → k ≡ m
parted-once k m f s p q =
    by-dec (dec_lt k m)
    (λ lt. absurd (q.apart (coarser f s (suc k) m lt p.one)))
    (λ ge. by-dec (dec_lt m k)
    (λ lt. absurd (p.apart (coarser f s (suc m) k lt q.one)))
    (λ le. omega arith))

-- and they do where they are in one block of order j, but not of order i
pub parted-at : (i j f s : ℕ) → (f / 2 ^ i ≡ s / 2 ^ i → ⊥) → f / 2 ^ j ≡ s / 2 ^ j → (k : ℕ) × (i ≤ k) × (k < j) × Parted k f s
parted-at i zero f s n e = absurd (n (coarser f s 0 i zero-le e))
parted-at i (suc j) f s n e =
    by-dec (ℕ_discrete (f / 2 ^ j) (s / 2 ^ j))
    (λ same. let r = parted-at i j f s n same in (r.0, r.1, omega (arith, r.2), r.3))
    (λ differ.
    let ij : i ≤ j = by-dec (dec_le i j) (λ le. le) (λ gt. absurd (n (coarser f s (suc j) i (omega arith) e))) in
    (j, ij, omega arith, record { one = e; apart = differ }))

-- the same by the test of Blocks, for a block that starts at s
module _ (k s g : ℕ) (st : start_of k s ≡ s) where
  pub in_block-is : in_block k s g ≡ true → g / 2 ^ k ≡ s / 2 ^ k
  unfolding in_block
  in_block-is t =
      let p = and-true _ _ t in
      let lo : s ≤ g = leb-true _ _ p.0 in
      let hi : g < s + 2 ^ k = ltb-true _ _ p.1 in
      block_in k s g (omega arith) (omega arith)

  pub is-in_block : g / 2 ^ k ≡ s / 2 ^ k → in_block k s g ≡ true
  unfolding in_block
  is-in_block e =
      let r = in-block k s g e in
      let lo = r.0 in
      let hi = r.1 in
      true-and _ _ (le-leb s g (omega arith)) (lt-ltb g (s + 2 ^ k) (omega arith))

  pub not-in_block : (g / 2 ^ k ≡ s / 2 ^ k → ⊥) → in_block k s g ≡ false
  not-in_block n = by-test (in_block k s g) (λ t. absurd (n (in_block-is t))) (λ t. t)

module _ (F : ℕ) (free : ℕ → Bool) where
  -- what `around` says, with no numbers: every frame of the block is in the pool and free
  pub around-at : (k f : ℕ) → around F free f k ≡ true → (g : ℕ) → g / 2 ^ k ≡ f / 2 ^ k → (g < F) × (free g ≡ true)
  unfolding around
  around-at k f t g e =
      let p = and-true _ _ t in
      let lo = in-block k f g e in
      let room : start_of k f + 2 ^ k ≤ F = leb-true _ _ p.0 in
      (omega arith, all_from_at (2 ^ k) (start_of k f) free p.1 g lo.0 lo.1)

  pub at-around : (k f : ℕ) → ((g : ℕ) → g / 2 ^ k ≡ f / 2 ^ k → (g < F) × (free g ≡ true)) → around F free f k ≡ true
  unfolding around
  at-around k f h =
      let pos : 0 < 2 ^ k = pow_pos k in
      let last : start_of k f + (2 ^ k - 1) < F = (h (start_of k f + (2 ^ k - 1)) (block_in k f _ (omega arith) (omega arith))).0 in
      let room : start_of k f + 2 ^ k ≤ F = omega arith in
      true-and _ _ (le-leb _ _ room) (at-all_from (2 ^ k) (start_of k f) free (λ g lo hi. (h g (block_in k f g lo hi)).1))

  -- a block of a wholly free block is wholly free
  pub smaller : (k m f : ℕ) → k ≤ m → around F free f m ≡ true → around F free f k ≡ true
  smaller k m f h t = at-around k f (λ g e. around-at m f t g (coarser g f k m h e))

  -- all frames of a block have the same answer
  pub around-same : (k f g : ℕ) → g / 2 ^ k ≡ f / 2 ^ k → around F free f k ≡ true → around F free g k ≡ true
  around-same k f g e t = at-around k g (λ x ex. around-at k f t x (ex ∙ e))

  pub free-around : (f : ℕ) → f < F → free f ≡ true → around F free f 0 ≡ true
  free-around f h t =
      at-around 0 f (λ g e.
      let same : g ≡ f = sym (div-one g) ∙ e ∙ div-one f in
      (omega arith, rw same t))

  -- the block of order k around f is wholly free, and in no larger wholly free one
  pub record Maximal (k f : ℕ) : Type 0 where
    pub small : k ≤ 10
    pub whole : around F free f k ≡ true
    pub alone : (m : ℕ) → k < m → m ≤ 10 → around F free f m ≡ false

  -- each free frame is in such a block
  pub order-here : (f : ℕ) → f < F → free f ≡ true → (k : ℕ) × (free_order F free f ≡ some k) × Maximal k f
  unfolding free_order
  order-here f h t = go (largest 10 (around F free f)) refl (largest-is 10 (around F free f))
    where
      go : (o : Option ℕ) → largest 10 (around F free f) ≡ o → Largest 10 (around F free f) o
          → (k : ℕ) × (largest 10 (around F free f) ≡ some k) × Maximal k f
      go o e (greatest k hi y no_more) = (k, e, record { small = hi; whole = y; alone = no_more })
      go o e (nothing none_is) = true-false (around F free f 0) (free-around f h t) (none_is 0 zero-le)

  -- and in no other
  pub maximal-order : (k f : ℕ) → Maximal k f → free_order F free f ≡ some k
  unfolding free_order
  maximal-order k f m = largest-unique 10 (around F free f) k m.small m.whole m.alone

  -- it is one as seen from any of its frames
  pub maximal-same : (k f g : ℕ) → g / 2 ^ k ≡ f / 2 ^ k → Maximal k f → Maximal k g
  maximal-same k f g e m =
      record {
        small = m.small;
        whole = around-same k f g e m.whole;
        alone = λ j lt hi. by-test (around F free g j)
            (λ t. true-false (around F free f j) (around-same j g f (sym (coarser g f k j (omega arith) e)) t) (m.alone j lt hi))
            (λ t. t);
      }

-- what `around` depends on

around-half : (F : ℕ) (p q : ℕ → Bool) → ((g : ℕ) → g < F → p g ≡ q g) → (f k : ℕ) → around F p f k ≡ true → around F q f k ≡ true
around-half F p q same f k t = at-around F q k f (λ g e. let r = around-at F p k f t g e in (r.0, sym (same g r.0) ∙ r.1))

module _ (F : ℕ) (p q : ℕ → Bool) (same : (g : ℕ) → g < F → p g ≡ q g) where
  pub around-ext : (f k : ℕ) → around F p f k ≡ around F q f k
  around-ext f k = both_ways _ _ (around-half F p q same f k) (around-half F q p (λ g h. sym (same g h)) f k)

  pub order-ext : (f : ℕ) → free_order F p f ≡ free_order F q f
  unfolding free_order
  order-ext f = largest-ext 10 (around F p f) (around F q f) (λ k hk. around-ext f k)

-- taking the block of order i at s

pub without-free : (free : ℕ → Bool) (i s g : ℕ) → without free i s g ≡ true → free g ≡ true
unfolding without
without-free free i s g t = (and-true _ _ t).0

module _ (free : ℕ → Bool) (i s g : ℕ) (st : start_of i s ≡ s) where
  pub without-out : without free i s g ≡ true → g / 2 ^ i ≡ s / 2 ^ i → ⊥
  unfolding without
  without-out t e = true-false {P = ⊥} (in_block i s g) (is-in_block i s g st e) (not-true _ (and-true (free g) (not (in_block i s g)) t).1)

  pub true-without : free g ≡ true → (g / 2 ^ i ≡ s / 2 ^ i → ⊥) → without free i s g ≡ true
  unfolding without
  true-without t n = true-and _ _ t (ap not (not-in_block i s g st n))

module _ (F : ℕ) (free : ℕ → Bool) (i j s : ℕ) (i≤j : i ≤ j) (top : Maximal F free j s) (st : start_of i s ≡ s) where
  -- a frame outside the free block that was split keeps its order
  pub outside : (f k : ℕ) → (f / 2 ^ j ≡ s / 2 ^ j → ⊥) → k ≤ 10 → around F (without free i s) f k ≡ around F free f k
  outside f k away hk =
      by-test (around F free f k)
      (λ t. at-around F (without free i s) k f (λ g e.
      let p = around-at F free k f t g e in
      (p.0, true-without free i s g st p.1 (λ gs. meets t g e gs)))
      ∙ sym t)
      (λ t. by-test (around F (without free i s) f k)
      (λ t'. true-false (around F free f k)
      (at-around F free k f (λ g e. let p = around-at F (without free i s) k f t' g e in (p.0, without-free free i s g p.1))) t)
      (λ t'. t' ∙ sym t))
    where
      meets : around F free f k ≡ true → (g : ℕ) → g / 2 ^ k ≡ f / 2 ^ k → g / 2 ^ i ≡ s / 2 ^ i → ⊥
      meets t g e gs =
          by-dec (dec_le k j)
          (λ le. away (sym (coarser g f k j le e) ∙ coarser g s i j i≤j gs))
          (λ gt. true-false (around F free s k)
          (around-same F free k f s (sym (coarser g s i k (omega arith) gs) ∙ e) t)
          (top.alone k (omega arith) hk))

  -- of the rest of it, the half of order k around f is a free block
  pub other-half-free : (f k : ℕ) → i ≤ k → k < j → Parted k f s → Maximal F (without free i s) k f
  other-half-free f k ik kj p =
      let kK : k ≤ 10 = omega (arith, top.small) in
      record {
        small = kK;
        whole = at-around F (without free i s) k f (λ g e.
            let in_top : g / 2 ^ j ≡ s / 2 ^ j = coarser g f k j (omega arith) e ∙ coarser f s (suc k) j kj p.one in
            let r = around-at F free j s top.whole g in_top in
            (r.0, true-without free i s g st r.1 (λ gs. p.apart (sym e ∙ coarser g s i k ik gs))));
        alone = λ m km hm. by-test (around F (without free i s) f m)
            (λ t. absurd (without-out free i s s st (around-at F (without free i s) m f t s (sym (coarser f s (suc k) m km p.one))).1 refl))
            (λ t. t);
      }
