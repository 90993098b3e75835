-- Rights that are allowed. Page words: what they say, when one extends the run of another, and the range bit set again.
use mathlib.Core.Path.{◌≡◌, refl, ap, ◌∙◌, sym}
use mathlib.Core.Bool.{Bool, true, false, not}
use mathlib.Core.Logic.{◌⊎◌, inl, inr, ⊎_elim}
use Prim.Native.Nat.{ℕ, ◌+◌, ◌*◌, ◌/◌, ◌%◌, ◌<◌, ◌≤◌}
use native.Mathlib.Omega.{arith}
use lib.Dec.{eqb, leb}
use borrow.Author.Tests.{eq-eqb, ne_eqb, eqb-true, eqb-false, leb-true, le-leb, not-true}
use Rattle.words.specs.Counts.{one-if}
use Rattle.words.proofs.Cases.{by-test, true-false, and-true, true-and}
use Rattle.runs.specs.PageWords.{rights_factor, reserved_rights, NotReserved, allowed_rights, page_word, mapped, range_bit, rights_in, frame_in, is_page_word}
use Rattle.runs.specs.Walk.{joins, goes_on, bit_word}

-- rights: 2 and 6 are reserved, and allowed are those up to 7 that are not

pub reserved-is : (r : ℕ) → reserved_rights r ≡ true → (r ≡ 2) ⊎ (r ≡ 6)
unfolding reserved_rights
reserved-is r t = by-test (eqb r 2) (λ e. inl (eqb-true r 2 e)) (λ f. inr (eqb-true r 6 (rw f at t)))

pub is-reserved : (r : ℕ) → (r ≡ 2) ⊎ (r ≡ 6) → reserved_rights r ≡ true
unfolding reserved_rights
is-reserved r (inl e) = ap reserved_rights e
is-reserved r (inr e) = ap reserved_rights e

pub allowed-low : (r : ℕ) → allowed_rights r ≡ true → r ≤ 7
unfolding allowed_rights
allowed-low r t = leb-true _ _ (and-true (leb r 7) _ t).0

pub allowed-unreserved : (r : ℕ) → allowed_rights r ≡ true → reserved_rights r ≡ false
unfolding allowed_rights
allowed-unreserved r t = not-true _ (and-true (leb r 7) (not (reserved_rights r)) t).1

pub not-reserved : (r : ℕ) → allowed_rights r ≡ true → NotReserved r
not-reserved r t = let f = allowed-unreserved r t in (λ e. true-false _ (is-reserved r (inl e)) f, λ e. true-false _ (is-reserved r (inr e)) f)

pub zero-unreserved : NotReserved 0
zero-unreserved = (λ e. omega arith, λ e. omega arith)

pub allowed-by : (r : ℕ) → r ≤ 7 → reserved_rights r ≡ false → allowed_rights r ≡ true
unfolding allowed_rights
allowed-by r h f = true-and _ _ (le-leb r 7 h) (ap not f)

pub reserved-low : (r : ℕ) → reserved_rights r ≡ true → r ≤ 7
reserved-low r t = ⊎_elim (λ e. omega arith) (λ e. omega arith) (reserved-is r t)

is_mapped_lem : (w : ℕ) → w / 65536 ≡ 1 → mapped w ≡ true
unfolding mapped
is_mapped_lem w e = eq-eqb _ _ e

mapped_at_lem : (w : ℕ) → mapped w ≡ true → w / 65536 ≡ 1
unfolding mapped
mapped_at_lem w t = eqb-true _ _ t

pub mapped-lt : (w : ℕ) → mapped w ≡ true → w < 131072
mapped-lt w t = omega (arith, mapped_at_lem w t)

pub zero-unmapped : (w : ℕ) → w ≡ 0 → mapped w ≡ false
unfolding mapped
zero-unmapped w e = ne_eqb (w / 65536) 1 (omega arith)

pub frame-lt : (w : ℕ) → frame_in w < 4096
unfolding frame_in
frame-lt w = omega arith

pub record Joins (v w : ℕ) : Type 0 where
  pub this : mapped v ≡ true
  pub next : mapped w ≡ true
  pub frame : frame_in w ≡ frame_in v + 1
  pub rights : rights_in w ≡ rights_in v

pub joins_at : (v w : ℕ) → joins v w ≡ true → Joins v w
unfolding joins
joins_at v w t =
    let a = and-true _ _ t in
    let b = and-true _ _ a.1 in
    let c = and-true _ _ b.1 in
    record { this = a.0; next = b.0; frame = eqb-true _ _ c.0; rights = eqb-true _ _ c.1 }

pub join : (v w : ℕ) → Joins v w → joins v w ≡ true
unfolding joins
join v w j = true-and _ _ j.this (true-and _ _ j.next (true-and _ _ (eq-eqb _ _ j.frame) (eq-eqb _ _ j.rights)))

pub not-joins : (v w : ℕ) → (Joins v w → ⊥) → false ≡ joins v w
not-joins v w n = by-test (joins v w) (λ t. absurd (n (joins_at v w t))) (λ t. sym t)

pub by-rights : (v w : ℕ) → mapped v ≡ true → mapped w ≡ true → frame_in w ≡ frame_in v + 1 → eqb (rights_in w) (rights_in v) ≡ joins v w
unfolding joins
by-rights v w a b e = rw (a, b, eq-eqb _ _ e)

pub goes-join : (n v w : ℕ) → joins v w ≡ true → goes_on n v w ≡ n + 1
unfolding goes_on
goes-join n v w t = rw (t, goes_on)

pub goes-new : (n v w : ℕ) → joins v w ≡ false → goes_on n v w ≡ one-if (mapped w)
unfolding goes_on
goes-new n v w t = rw (t, goes_on)

pub bit-none : (b : Bool) (w : ℕ) → mapped w ≡ false → bit_word b w ≡ 0
unfolding bit_word
bit-none b w e = rw (e, bit_word)

bit-mapped : (b : Bool) (w : ℕ) → mapped w ≡ true → bit_word b w ≡ page_word b (rights_in w) (frame_in w)
unfolding bit_word
bit-mapped b w m = rw (m, bit_word)

low_bits : (w : ℕ) → 4096 * (w / 4096 % 8) + w % 4096 ≡ w % 32768
low_bits w = omega arith

-- the bit is set over rights and frame as they stand
pub bit-low : (b : Bool) (w : ℕ) → mapped w ≡ true → bit_word b w ≡ 65536 + 32768 * one-if b + w % 32768
unfolding page_word rights_in frame_in
bit-low b w m = bit-mapped b w m ∙ omega (arith, low_bits w)

bit-on : (b : Bool) (w : ℕ) → mapped w ≡ true → b ≡ true → bit_word b w ≡ 98304 + w % 32768
unfolding one-if
bit-on b w m e = bit-low b w m ∙ rw e (omega arith)

bit-off : (b : Bool) (w : ℕ) → mapped w ≡ true → b ≡ false → bit_word b w ≡ 65536 + w % 32768
unfolding one-if
bit-off b w m e = bit-low b w m ∙ rw e (omega arith)

-- what a range bit leaves alone
pub record Like (w x : ℕ) : Type 0 where
  pub maps : mapped x ≡ mapped w
  pub frame : mapped w ≡ true → frame_in x ≡ frame_in w
  pub rights : mapped w ≡ true → rights_in x ≡ rights_in w
  pub low : mapped w ≡ true → x % 32768 ≡ w % 32768

like-by : (w x k : ℕ) → mapped w ≡ true → x ≡ k * 32768 + w % 32768 → k / 2 ≡ 1 → Like w x
unfolding frame_in rights_in
like-by w x k m e h = record {
  maps = is_mapped_lem x (omega arith) ∙ sym m;
  frame = λ t. omega arith;
  rights = λ t. omega arith;
  low = λ t. omega arith;
}

pub like-bit : (b : Bool) (w : ℕ) → Like w (bit_word b w)
like-bit b w =
    by-test (mapped w)
    (λ m.
    by-test b
    (λ u. like-by w (bit_word b w) 3 m (omega (arith, bit-on b w m u)) refl)
    (λ u. like-by w (bit_word b w) 2 m (omega (arith, bit-off b w m u)) refl))
    (λ f. record {
      maps = zero-unmapped _ (bit-none b w f) ∙ sym f;
      frame = λ t. true-false _ t f;
      rights = λ t. true-false _ t f;
      low = λ t. true-false _ t f;
    })

-- a range bit set again
pub bit-bit : (a b : Bool) (w : ℕ) → bit_word b (bit_word a w) ≡ bit_word b w
bit-bit a b w =
    let k = like-bit a w in
    by-test (mapped w)
    (λ m.
    let n = k.maps ∙ m in
    let e : bit_word a w % 32768 ≡ w % 32768 = k.low m in
    by-test b
    (λ u. bit-on b (bit_word a w) n u ∙ ap (λ (y : ℕ). 98304 + y) e ∙ sym (bit-on b w m u))
    (λ u. bit-off b (bit_word a w) n u ∙ ap (λ (y : ℕ). 65536 + y) e ∙ sym (bit-off b w m u)))
    (λ f. bit-none b (bit_word a w) (k.maps ∙ f) ∙ sym (bit-none b w f))

-- A mapped word is the one with its own range bit
pub bit-of : (w : ℕ) → mapped w ≡ true → w ≡ bit_word (range_bit w) w
unfolding range_bit
bit-of w m =
    let l = mapped_at_lem w m in
    by-test (eqb (w / 32768 % 2) 1)
    (λ t. let e : w / 32768 % 2 ≡ 1 = eqb-true _ _ t in let s : w ≡ 98304 + w % 32768 = omega arith in s ∙ sym (bit-on _ w m t))
    (λ t. let e : (w / 32768 % 2 ≡ 1 → ⊥) = eqb-false _ _ t in let s : w ≡ 65536 + w % 32768 = omega arith in s ∙ sym (bit-off _ w m t))

-- and it is made of what it says
pub word-parts : (w : ℕ) → mapped w ≡ true → w ≡ page_word (range_bit w) (rights_in w) (frame_in w)
word-parts w m = bit-of w m ∙ bit-mapped (range_bit w) w m

pub of-bit : (b : Bool) (w : ℕ) → mapped w ≡ true → w ≡ bit_word b w → range_bit w ≡ b
unfolding range_bit
of-bit true w m e = let s : w ≡ 98304 + w % 32768 = e ∙ bit-on true w m refl in let k : w / 32768 ≡ 3 = omega arith in ap (λ (x : ℕ). eqb (x % 2) 1) k
of-bit false w m e = let s : w ≡ 65536 + w % 32768 = e ∙ bit-off false w m refl in let k : w / 32768 ≡ 2 = omega arith in ap (λ (x : ℕ). eqb (x % 2) 1) k

pub bit-zero : (w : ℕ) → w ≡ 0 → range_bit w ≡ false
unfolding range_bit
bit-zero w e = ne_eqb (w / 32768 % 2) 1 (omega arith)

-- the layout
pub zero_word : (w : ℕ) → w ≡ 0 → is_page_word w ≡ true
unfolding is_page_word
zero_word w e = rw (eq-eqb _ _ e) refl

pub mapped-word : (w : ℕ) → mapped w ≡ true → allowed_rights (rights_in w) ≡ true → is_page_word w ≡ true
unfolding is_page_word
mapped-word w m r = by-test (eqb w 0) (λ t. rw t refl) (λ f. rw (f, m, r) refl)

pub word-says : {P : Type 0} (w : ℕ) → is_page_word w ≡ true → (w ≡ 0 → P) → (mapped w ≡ true → allowed_rights (rights_in w) ≡ true → P) → P
unfolding is_page_word
word-says w t z m =
    by-test (eqb w 0) (λ e. z (eqb-true _ _ e)) (λ f.
    let u = and-true (mapped w) (allowed_rights (rights_in w)) (rw f at t) in
    m u.0 u.1)

pub word-cases : {P : Type 0} (w : ℕ) → is_page_word w ≡ true → (w ≡ 0 → P) → (mapped w ≡ true → P) → P
word-cases w t z m = word-says w t z (λ n r. m n)

-- the rights of a mapped page
pub word-rights : (w : ℕ) → is_page_word w ≡ true → mapped w ≡ true → allowed_rights (rights_in w) ≡ true
word-rights w t m = word-says w t (λ z. true-false (mapped w) m (zero-unmapped w z)) (λ n r. r)

pub own-bit : (w : ℕ) → is_page_word w ≡ true → w ≡ bit_word (range_bit w) w
own-bit w t = word-cases w t (λ z. z ∙ sym (bit-none (range_bit w) w (zero-unmapped w z))) (λ m. bit-of w m)

-- a word stays of the layout with another range bit
pub bit_word_lem : (b : Bool) (w : ℕ) → is_page_word w ≡ true → is_page_word (bit_word b w) ≡ true
bit_word_lem b w t =
    let k = like-bit b w in
    word-says w t
    (λ z. zero_word _ (bit-none b w (zero-unmapped w z)))
    (λ m r. mapped-word _ (k.maps ∙ m) (ap allowed_rights (k.rights m) ∙ r))

-- what a page word made of a range bit, rights and a frame says
pub record Says (w r f : ℕ) : Type 0 where
  pub maps : mapped w ≡ true
  pub rights : rights_in w ≡ r
  pub frame : frame_in w ≡ f

pub made_word : (b : Bool) (r f : ℕ) → allowed_rights r ≡ true → f ≤ 4095 → Says (page_word b r f) r f
unfolding page_word rights_in frame_in one-if
made_word true r f hr hf = let low = allowed-low r hr in record { maps = is_mapped_lem (65536 + 32768 * 1 + 4096 * r + f) (omega arith); rights = omega arith; frame = omega arith }
made_word false r f hr hf = let low = allowed-low r hr in record { maps = is_mapped_lem (65536 + 32768 * 0 + 4096 * r + f) (omega arith); rights = omega arith; frame = omega arith }

pub made-bit : (b : Bool) (r f : ℕ) → r ≤ 7 → f ≤ 4095 → range_bit (page_word b r f) ≡ b
unfolding page_word range_bit one-if
made-bit true r f hr hf = eq-eqb ((65536 + 32768 * 1 + 4096 * r + f) / 32768 % 2) 1 (omega arith)
made-bit false r f hr hf = ne_eqb ((65536 + 32768 * 0 + 4096 * r + f) / 32768 % 2) 1 (omega arith)

-- the word k above a mapped one, as long as its frame stays below 4,096
pub record Ahead (v k : ℕ) : Type 0 where
  pub maps : mapped (v + k) ≡ true
  pub frame : frame_in (v + k) ≡ frame_in v + k
  pub rights : rights_in (v + k) ≡ rights_in v
  pub bit : range_bit (v + k) ≡ range_bit v

pub ahead : (v k : ℕ) → mapped v ≡ true → frame_in v + k < rights_factor → Ahead v k
unfolding frame_in rights_in range_bit
ahead v k m h =
    let top : v / 65536 ≡ 1 = mapped_at_lem v m in
    let pages : (v + k) / 4096 ≡ v / 4096 = omega arith in
    record {
      maps = is_mapped_lem (v + k) (omega arith);
      frame = omega arith;
      rights = ap (λ (x : ℕ). x % 8) pages;
      bit = let half : (v + k) / 32768 ≡ v / 32768 = omega arith in ap (λ (x : ℕ). eqb (x % 2) 1) half;
    }

-- one extends the run of the one before
pub ahead-joins : (v k : ℕ) → mapped v ≡ true → frame_in v + (k + 1) < rights_factor → Joins (v + k) (v + (k + 1))
ahead-joins v k m h =
    let a = ahead v k m (omega arith) in
    let b = ahead v (k + 1) m h in
    record { this = a.maps; next = b.maps; frame = omega (arith, a.frame, b.frame); rights = b.rights ∙ sym a.rights }
