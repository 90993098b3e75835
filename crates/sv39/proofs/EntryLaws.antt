-- Which words and entries convert: each is 0 or made of a range bit, rights and a frame, and the other is made of the same.
use mathlib.Core.Path.{◌≡◌, refl, ap, ◌∙◌, sym}
use mathlib.Core.Bool.{Bool, true, false, ◌&&◌, ◌||◌, not, or_assoc}
use mathlib.Core.Logic.{◌⊎◌, inl, inr}
use Prim.Native.Nat.{ℕ, ◌+◌, ◌*◌, ◌/◌, ◌%◌, ◌^◌, ◌<◌, ◌≤◌}
use native.Mathlib.Omega.{arith}
use native.Mathlib.Decide.{dec_le}
use lib.Dec.{eqb, ltb, leb}
use borrow.Author.Tests.{eq-eqb, ne_eqb, eqb-true, eqb-false, ltb-false, le-ltb, le-leb, lt-leb, not-false}
use Rattle.words.specs.Bits.{has_bit, bit_at}
use Rattle.words.specs.Counts.{one-if}
use Rattle.words.specs.Rows.{refusal, values}
use Rattle.words.specs.Searches.{any_from}
use Rattle.words.specs.Tables.{tab_from}
use Rattle.words.proofs.BitLaws.{number, number-bits, none_above, below}
use Rattle.words.proofs.Cases.{by-test, by-dec, true-false, or-false, false-or, and-false}
use Rattle.runs.specs.PageWords.{reserved_rights, allowed_rights, page_word, mapped, range_bit, rights_in, frame_in, is_page_word}
use Rattle.runs.proofs.WordLaws.{allowed-low, allowed-unreserved, allowed-by, mapped-word, word-says, made_word, made-bit, word-parts, frame-lt, zero-unmapped}
use Rattle.sv39.specs.Entries.{leaf, rights_of, frame_of, further_bit, no_leaf, no_entry, entry_of, no_word, word_of, converted, to_sv39, from_sv39}
use Rattle.sv39.specs.Inner.{wrong_flags}
use Rattle.sv39.specs.Statements.{flag_bits, leaf_bit}
use Rattle.sv39.proofs.LeafLaws.{rights-from, leaf-sum, leaf-bit, leaf-rights, leaf-frame, leaf-lt}

-- made of a range bit, rights that an entry can have, and a frame
pub record Made (make : Bool → ℕ → ℕ → ℕ) (x : ℕ) : Type 0 where
  pub range : Bool
  pub rights : ℕ
  pub frame : ℕ
  pub allowed : allowed_rights rights ≡ true
  pub some : rights ≡ 0 → ⊥
  pub fits : frame ≤ 4095
  pub is : x ≡ make range rights frame

pub accepts : (refused : Bool) (v : ℕ) → refused ≡ false → converted refused v ≡ values v 0
unfolding converted
accepts refused v f = rw (f, converted)

pub refuses : (refused : Bool) (v : ℕ) → refused ≡ true → converted refused v ≡ refusal 18
unfolding converted
refuses refused v t = rw (t, converted)

-- 0 converts to 0, both ways
pub zero_word : no_entry 0 ≡ false
unfolding no_entry no_leaf is_page_word mapped
zero_word = refl

pub zero-entry : no_word 0 ≡ false
unfolding no_word
zero-entry = refl

pub to-zero : (w : ℕ) → w ≡ 0 → to_sv39 w ≡ values 0 0
unfolding to_sv39 entry_of
to-zero w z = ap to_sv39 z ∙ accepts _ 0 zero_word

pub from_zero : (e : ℕ) → e ≡ 0 → from_sv39 e ≡ values 0 0
unfolding from_sv39 word_of
from_zero e z = ap from_sv39 z ∙ accepts _ 0 zero-entry

pub to_none : (w : ℕ) → no_entry w ≡ true → to_sv39 w ≡ refusal 18
unfolding to_sv39
to_none w t = refuses _ _ t

pub from-none : (e : ℕ) → no_word e ≡ true → from_sv39 e ≡ refusal 18
unfolding from_sv39
from-none e t = refuses _ _ t

-- and any other, where it converts, by its parts
pub to-leaf : (w : ℕ) → (w ≡ 0 → ⊥) → no_entry w ≡ false → to_sv39 w ≡ values (leaf (range_bit w) (rights_in w) (frame_in w)) 0
unfolding to_sv39 entry_of
to-leaf w nz f = accepts _ _ f ∙ ap (λ (x : ℕ). values x 0) (rw (ne_eqb w 0 nz, entry_of))

pub from-leaf : (e : ℕ) → (e ≡ 0 → ⊥) → no_word e ≡ false → from_sv39 e ≡ values (page_word (has_bit e 8) (rights_of e) (frame_of e)) 0
unfolding from_sv39 word_of
from-leaf e nz f = accepts _ _ f ∙ ap (λ (x : ℕ). values x 0) (rw (ne_eqb e 0 nz, word_of))

-- a word and an entry made of the same parts are counterparts
module _ (b : Bool) (r f : ℕ) (allowed : allowed_rights r ≡ true) (some : r ≡ 0 → ⊥) (fits : f ≤ 4095) where
  low : r ≤ 7
  low = allowed-low r allowed

  pub word-converts : no_entry (page_word b r f) ≡ false
  unfolding no_entry no_leaf
  word-converts =
      let s = made_word b r f allowed fits in
      let layout : is_page_word (page_word b r f) ≡ true = mapped-word _ s.maps (ap allowed_rights s.rights ∙ allowed) in
      false-or _ _ (ap not layout) (and-false (mapped (page_word b r f)) _ (ap (λ (x : ℕ). eqb x 0) s.rights ∙ ne_eqb r 0 some))

  pub to-entry : to_sv39 (page_word b r f) ≡ values (leaf b r f) 0
  to-entry =
      let s = made_word b r f allowed fits in
      let e = to-leaf (page_word b r f) (λ z. true-false _ s.maps (zero-unmapped _ z)) word-converts in
      rw (made-bit b r f low fits, s.rights, s.frame) at e

  not-zero : leaf b r f ≡ 0 → ⊥
  not-zero z = omega (arith, leaf-sum b r f low)

  no-further : further_bit (leaf b r f) ≡ false
  unfolding further_bit leaf_bit flag_bits
  no-further =
      let at : (i : ℕ) → has_bit (leaf b r f) i ≡ leaf_bit b r f i = leaf-bit b r f in
      let top : any_from 10 54 (has_bit (leaf b r f)) ≡ false = none_above (leaf b r f) 54 (omega (arith, leaf-lt b r f low fits)) 10 in
      false-or _ _ (at 4) (false-or _ _ (at 5) (false-or _ _ (at 9) top))

  pub entry-converts : no_word (leaf b r f) ≡ false
  unfolding no_word leaf_bit flag_bits
  entry-converts =
      let at : (i : ℕ) → has_bit (leaf b r f) i ≡ leaf_bit b r f i = leaf-bit b r f in
      let frame : ltb 4095 (frame_of (leaf b r f)) ≡ false = le-ltb 4095 (frame_of (leaf b r f)) (omega (arith, leaf-frame b r f low fits)) in
      let e = leaf-rights b r f low fits in
      let rights = false-or _ _ (ap (λ (x : ℕ). eqb x 0) e ∙ ne_eqb r 0 some) (ap reserved_rights e ∙ allowed-unreserved r allowed) in
      and-false (not (eqb (leaf b r f) 0)) _ (false-or _ _ (ap not (at 0)) (false-or _ _ (ap not (at 6)) (false-or _ _ (ap not (at 7)) (false-or _ _ no-further (false-or _ _ frame rights)))))

  pub to_word : from_sv39 (leaf b r f) ≡ values (page_word b r f) 0
  unfolding leaf_bit flag_bits
  to_word =
      let bit : has_bit (leaf b r f) 8 ≡ b = leaf-bit b r f 8 in
      let e = from-leaf (leaf b r f) not-zero entry-converts in
      rw (bit, leaf-rights b r f low fits, leaf-frame b r f low fits) at e

-- a word that converts is 0 or so made
pub word_made : (w : ℕ) → no_entry w ≡ false → (w ≡ 0) ⊎ Made page_word w
unfolding no_entry no_leaf
word_made w h =
    let p = or-false (not (is_page_word w)) (mapped w && eqb (rights_in w) 0) h in
    word-says w (not-false _ p.0) (λ z. inl z) (λ m a.
    inr (record {
      range = range_bit w;
      rights = rights_in w;
      frame = frame_in w;
      allowed = a;
      some = eqb-false _ _ (rw m at p.1);
      fits = omega (arith, frame-lt w);
      is = word-parts w m;
    }))

-- what an entry says that has a word and is not 0
pub record Leaf (e : ℕ) : Type 0 where
  pub valid-set : has_bit e 0 ≡ true
  pub accessed-set : has_bit e 6 ≡ true
  pub dirty-set : has_bit e 7 ≡ true
  pub further : further_bit e ≡ false
  pub fits : frame_of e ≤ 4095
  pub some : rights_of e ≡ 0 → ⊥
  pub unreserved : reserved_rights (rights_of e) ≡ false

pub entry-says : (e : ℕ) → (e ≡ 0 → ⊥) → no_word e ≡ false → Leaf e
unfolding no_word
entry-says e nz h =
    let a = or-false _ _ (rw (ne_eqb e 0 nz) at h) in
    let b = or-false _ _ a.1 in
    let c = or-false _ _ b.1 in
    let d = or-false _ _ c.1 in
    let g = or-false _ _ d.1 in
    let k = or-false _ _ g.1 in
    record {
      valid-set = not-false _ a.0;
      accessed-set = not-false _ b.0;
      dirty-set = not-false _ c.0;
      further = d.0;
      fits = ltb-false _ _ g.0;
      some = eqb-false _ _ k.0;
      unreserved = k.1;
    }

-- no further bit is set
record NoFurther (e : ℕ) : Type 0 where
  user : has_bit e 4 ≡ false
  global : has_bit e 5 ≡ false
  software : has_bit e 9 ≡ false
  above : any_from 10 54 (has_bit e) ≡ false

none-further : (e : ℕ) → further_bit e ≡ false → NoFurther e
unfolding further_bit
none-further e f =
    let a = or-false (has_bit e 4) (has_bit e 5 || (has_bit e 9 || any_from 10 54 (has_bit e))) f in
    let b = or-false (has_bit e 5) (has_bit e 9 || any_from 10 54 (has_bit e)) a.1 in
    let c = or-false (has_bit e 9) (any_from 10 54 (has_bit e)) b.1 in
    record { user = a.0; global = b.0; software = c.0; above = c.1 }

-- such an entry has no bit from 22 on
pub entry_lt : (e : ℕ) → e < 2 ^ 64 → Leaf e → e < 2 ^ 22
unfolding frame_of
entry_lt e bits l =
    let small : e < 2 ^ 54 = below 10 54 e bits (none-further e l.further).above in
    let frame : e / 2 ^ 10 % 2 ^ 44 ≤ 4095 = l.fits in
    omega arith

frame-from : (e : ℕ) → e < 2 ^ 22 → frame_of e ≡ e / 1024
unfolding frame_of
frame-from e h = omega arith

rights-low : (e : ℕ) → rights_of e ≤ 7
rights-low e = omega (arith, rights-from e)

pub entry-rights : (e : ℕ) → Leaf e → allowed_rights (rights_of e) ≡ true
entry-rights e l = allowed-by (rights_of e) (rights-low e) l.unreserved

-- its bits below the frame
low_part : (e : ℕ) → Leaf e → e % 1024 ≡ 193 + 2 * rights_of e + 256 * one-if (has_bit e 8)
unfolding rights_of bit_at one-if number tab_from
low_part e l =
    let f = none-further e l.further in
    let one : (i : ℕ) (v : Bool) → has_bit e i ≡ v → one-if (has_bit e i) ≡ one-if v = λ i v h. ap one-if h in
    omega (arith, number-bits 10 0 e, one 0 true l.valid-set, one 4 false f.user, one 5 false f.global, one 6 true l.accessed-set, one 7 true l.dirty-set, one 9 false f.software)

leaf-made : (e : ℕ) → e < 2 ^ 64 → Leaf e → Made leaf e
leaf-made e bits l =
    record {
      range = has_bit e 8;
      rights = rights_of e;
      frame = frame_of e;
      allowed = entry-rights e l;
      some = l.some;
      fits = l.fits;
      is = omega (arith, low_part e l, frame-from e (entry_lt e bits l), leaf-sum (has_bit e 8) (rights_of e) (frame_of e) (rights-low e));
    }

-- and an entry that converts is 0 or so made
pub entry-made : (e : ℕ) → e < 2 ^ 64 → no_word e ≡ false → (e ≡ 0) ⊎ Made leaf e
entry-made e bits h = by-test (eqb e 0) (λ t. inl (eqb-true _ _ t)) (λ f. inr (leaf-made e bits (entry-says e (eqb-false _ _ f) h)))

-- the tests of a word other than 0
pub no-entry-unmapped : (w : ℕ) → (w ≡ 0 → ⊥) → mapped w ≡ false → no_entry w ≡ true
unfolding no_entry is_page_word
no-entry-unmapped w nz f = rw (ne_eqb w 0 nz, f) refl

module _ (w : ℕ) (nz : w ≡ 0 → ⊥) (m : mapped w ≡ true) where
  mapped-entry : no_entry w ≡ (not (allowed_rights (rights_in w)) || eqb (rights_in w) 0)
  unfolding no_entry no_leaf is_page_word
  mapped-entry = rw (ne_eqb w 0 nz, m) refl

  pub no-entry-rights : rights_in w ≡ 0 → no_entry w ≡ true
  no-entry-rights z = mapped-entry ∙ go (allowed_rights (rights_in w)) (eq-eqb (rights_in w) 0 z)
    where
      go : (a : Bool) → eqb (rights_in w) 0 ≡ true → (not a || eqb (rights_in w) 0) ≡ true
      go true t = t
      go false t = refl

  pub allowed-entry : (rights_in w ≡ 0 → ⊥) → allowed_rights (rights_in w) ≡ not (no_entry w)
  allowed-entry n = go (allowed_rights (rights_in w)) (ne_eqb (rights_in w) 0 n) ∙ sym (ap not mapped-entry)
    where
      go : (a : Bool) → eqb (rights_in w) 0 ≡ false → a ≡ not (not a || eqb (rights_in w) 0)
      go true f = rw f refl
      go false f = refl

-- the tests of an entry without a bit from 22 on
regroup : (v a d u g s x : Bool) → (not v || (not a || (not d || ((u || (g || (s || false))) || x)))) ≡ ((not v || (not a || (not d || (u || (g || s))))) || x)
regroup false a d u g s x = refl
regroup true false d u g s x = refl
regroup true true false u g s x = refl
regroup true true true true g s x = refl
regroup true true true false true s x = refl
regroup true true true false false true x = refl
regroup true true true false false false x = refl

pub no-word-low : (e : ℕ) → (e ≡ 0 → ⊥) → e < 2 ^ 22 → no_word e ≡ (wrong_flags e || (eqb (rights_of e) 0 || reserved_rights (rights_of e)))
unfolding no_word further_bit frame_of wrong_flags
no-word-low e nz h =
    let top : any_from 10 54 (has_bit e) ≡ false = none_above e 54 (omega arith) 10 in
    let frame : ltb 4095 (e / 2 ^ 10 % 2 ^ 44) ≡ false = le-ltb 4095 (e / 2 ^ 10 % 2 ^ 44) (omega arith) in
    rw (ne_eqb e 0 nz, top, frame) (regroup (has_bit e 0) (has_bit e 6) (has_bit e 7) (has_bit e 4) (has_bit e 5) (has_bit e 9) (eqb (rights_of e) 0 || reserved_rights (rights_of e)))

-- any other has no word
pub no-word-high : (e : ℕ) → e < 2 ^ 64 → 2 ^ 22 ≤ e → no_word e ≡ true
no-word-high e bits h =
    by-test (no_word e) (λ t. t) (λ f.
    let l = entry-says e (λ z. omega arith) f in
    absurd (omega (arith, entry_lt e bits l)))

pub low-allowed : (e : ℕ) → allowed_rights (rights_of e) ≡ not (reserved_rights (rights_of e))
unfolding allowed_rights
low-allowed e = rw (le-leb _ _ (rights-low e)) refl

-- the tests as the code joins them
pub entry-test : (w : ℕ) → (w ≡ 0 → ⊥) → (mapped w && not (eqb (rights_in w) 0) && allowed_rights (rights_in w)) ≡ not (no_entry w)
entry-test w nz =
    by-test (mapped w)
    (λ m. by-test (eqb (rights_in w) 0)
    (λ z. rw (m, z, no-entry-rights w nz m (eqb-true _ _ z)) refl)
    (λ r. rw (m, r) (allowed-entry w nz m (eqb-false _ _ r))))
    (λ f. rw (f, no-entry-unmapped w nz f) refl)

pub word-test : (e : ℕ) → (e ≡ 0 → ⊥) → e < 2 ^ 64 → (leb e 4194303 && not (wrong_flags e) && not (eqb (rights_of e) 0) && allowed_rights (rights_of e)) ≡ not (no_word e)
word-test e nz fits =
    by-dec (dec_le e 4194303)
    (λ low. rw (le-leb e 4194303 low, no-word-low e nz (omega arith)) (by-test (wrong_flags e)
    (λ w. rw w refl)
    (λ w. by-test (eqb (rights_of e) 0) (λ z. rw (w, z) refl) (λ z. rw (w, z) (low-allowed e)))))
    (λ high. rw (lt-leb e 4194303 (omega arith), no-word-high e fits (omega arith)) refl)

pub flags-test : (e : ℕ) → (not (has_bit e 0) || not (has_bit e 6) || not (has_bit e 7) || has_bit e 4 || has_bit e 5 || has_bit e 9) ≡ wrong_flags e
unfolding wrong_flags
flags-test e = or-chain (not (has_bit e 0)) (not (has_bit e 6)) (not (has_bit e 7)) (has_bit e 4) (has_bit e 5) (has_bit e 9)
  where
    or-chain : (a b c d g h : Bool) → (a || b || c || d || g || h) ≡ (a || (b || (c || (d || (g || h)))))
    or-chain a b c d g h = or_assoc (a || b || c || d) g h ∙ or_assoc (a || b || c) d (g || h) ∙ or_assoc (a || b) c (d || (g || h)) ∙ or_assoc a b (c || (d || (g || h)))
