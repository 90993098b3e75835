-- The theorems on the conversions.
use mathlib.Core.Path.{◌≡◌, refl, ap, ◌∙◌, sym}
use mathlib.Core.Bool.{Bool, true, false}
use mathlib.Core.Logic.{inl, inr, ⊎_elim}
use Prim.Native.Nat.{ℕ}
use native.Mathlib.Omega.{arith}
use lib.Dec.{eqb, ltb}
use borrow.Author.Tests.{eqb-true, eqb-false, ltb-true, ltb-false}
use Rattle.words.specs.declared.Outcome.{Outcome}
use Rattle.words.specs.Bits.{has_bit, bit_at}
use Rattle.words.specs.Counts.{one-if}
use Rattle.words.specs.Searches.{any_from}
use Rattle.words.specs.Rows.{values}
use Rattle.words.proofs.Cases.{by-test}
use Rattle.runs.specs.PageWords.{reserved_rights, allowed_rights, page_word, mapped, range_bit, rights_in, frame_in, is_page_word}
use Rattle.runs.proofs.WordLaws.{allowed-low, not-reserved}
use Rattle.sv39.specs.Entries.{leaf, rights_of, frame_of, further_bit, no_leaf, no_entry, entry_of, no_word, word_of, converted, to_sv39, from_sv39}
use Rattle.sv39.specs.Statements.{Converts, LeafRights, LeafWord, WordsConvert, UnmappedIsZero, EachBit, WordsReturn, EntriesReturn, FromWord, EntriesConvert, WordExamples, EntryExamples}
use Rattle.sv39.proofs.LeafLaws.{leaf-bit}
use Rattle.sv39.proofs.EntryLaws.{Made, accepts, refuses, zero_word, zero-entry, to-zero, from_zero, word-converts, to-entry, entry-converts, to_word, word_made, entry-made}

accepted-only : (refused : Bool) (v : ℕ) → (converted refused v).number ≡ 0 → refused ≡ false
unfolding converted
accepted-only true v e = absurd (omega arith)
accepted-only false v e = refl

-- a conversion that is refused exactly where P does not hold
converts : (P : Type 0) (refused : Bool) (v : ℕ) → (refused ≡ false → P) → (P → refused ≡ false) → Converts P (converted refused v)
converts P refused v to from =
    record {
      accepted = (λ z. to (accepted-only refused v z), λ p. ap (λ (o : Outcome). o.number) (accepts refused v (from p)));
      refused = λ n. by-test refused (λ t. refuses refused v t) (λ f. absurd (n (to f)));
    }

-- rights
rights-have-leaf : (r : ℕ) → allowed_rights r ≡ true → (r ≡ 0 → ⊥) → LeafRights r
rights-have-leaf r a nz =
    let low = allowed-low r a in
    let n = not-reserved r a in
    let not-two = n.0 in
    let not-six = n.1 in
    by-test (ltb r 4)
    (λ h. let few = ltb-true r 4 h in by-test (eqb r 1) (λ t. inl (eqb-true _ _ t)) (λ f. inr (inl (omega (arith, eqb-false r 1 f)))))
    (λ h.
    let many = ltb-false r 4 h in
    by-test (eqb r 4) (λ t. inr (inr (inl (eqb-true _ _ t)))) (λ f.
    by-test (eqb r 5) (λ t. inr (inr (inr (inl (eqb-true _ _ t))))) (λ g.
    inr (inr (inr (inr (omega (arith, eqb-false r 4 f, eqb-false r 5 g))))))))

rights-leaf : (r : ℕ) → LeafRights r → (allowed_rights r ≡ true) × (r ≡ 0 → ⊥)
unfolding allowed_rights reserved_rights
rights-leaf r (inl e) = (rw e refl, λ z. omega arith)
rights-leaf r (inr (inl e)) = (rw e refl, λ z. omega arith)
rights-leaf r (inr (inr (inl e))) = (rw e refl, λ z. omega arith)
rights-leaf r (inr (inr (inr (inl e)))) = (rw e refl, λ z. omega arith)
rights-leaf r (inr (inr (inr (inr e)))) = (rw e refl, λ z. omega arith)

-- a word so made, in the papers' numbers
leaf-of-word : (w : ℕ) → Made page_word w → LeafWord w
unfolding page_word
leaf-of-word w m = record { range = m.range; rights = m.rights; frame = m.frame; has-leaf = rights-have-leaf _ m.allowed m.some; fits = m.fits; is = m.is }

unfoldable word-of-leaf : (w : ℕ) → LeafWord w → Made page_word w
unfolding page_word
word-of-leaf w l =
    let r = rights-leaf l.rights l.has-leaf in
    record { range = l.range; rights = l.rights; frame = l.frame; allowed = r.0; some = r.1; fits = l.fits; is = l.is }

leaf-converts : (w : ℕ) → Made page_word w → no_entry w ≡ false
leaf-converts w m = ap no_entry m.is ∙ word-converts m.range m.rights m.frame m.allowed m.some m.fits

pub words-convert : WordsConvert
unfolding WordsConvert to_sv39
words-convert w =
    converts _ (no_entry w) (entry_of w)
    (λ f. ⊎_elim (λ z. inl z) (λ m. inr (leaf-of-word w m)) (word_made w f))
    (λ p. ⊎_elim (λ z. ap no_entry z ∙ zero_word) (λ l. leaf-converts w (word-of-leaf w l)) p)

pub unmapped-is-zero : UnmappedIsZero
unfolding UnmappedIsZero
unmapped-is-zero = (to-zero 0 refl, from_zero 0 refl)

-- what a word so made converts to
word-to-entry : (w : ℕ) (m : Made page_word w) → to_sv39 w ≡ values (leaf m.range m.rights m.frame) 0
word-to-entry w m = ap to_sv39 m.is ∙ to-entry m.range m.rights m.frame m.allowed m.some m.fits

pub each-bit : EachBit
unfolding EachBit word-of-leaf
each-bit w l i = ap (λ (o : Outcome). has_bit o.first i) (word-to-entry w (word-of-leaf w l)) ∙ leaf-bit l.range l.rights l.frame i

pub words-return : WordsReturn
unfolding WordsReturn to_sv39
words-return w z =
    ⊎_elim
    (λ e. ap (λ (o : Outcome). from_sv39 o.first) (to-zero w e) ∙ from_zero 0 refl ∙ ap (λ (x : ℕ). values x 0) (sym e))
    (λ m. ap (λ (o : Outcome). from_sv39 o.first) (word-to-entry w m) ∙ to_word m.range m.rights m.frame m.allowed m.some m.fits ∙ ap (λ (x : ℕ). values x 0) (sym m.is))
    (word_made w (accepted-only _ _ z))

-- what an entry so made converts to
entry-to-word : (e : ℕ) (m : Made leaf e) → from_sv39 e ≡ values (page_word m.range m.rights m.frame) 0
entry-to-word e m = ap from_sv39 m.is ∙ to_word m.range m.rights m.frame m.allowed m.some m.fits

entry-back : (e : ℕ) (m : Made leaf e) → to_sv39 (page_word m.range m.rights m.frame) ≡ values e 0
entry-back e m = to-entry m.range m.rights m.frame m.allowed m.some m.fits ∙ ap (λ (x : ℕ). values x 0) (sym m.is)

pub entries-return : EntriesReturn
unfolding EntriesReturn from_sv39
entries-return e bits z =
    ⊎_elim
    (λ h. ap (λ (o : Outcome). to_sv39 o.first) (from_zero e h) ∙ to-zero 0 refl ∙ ap (λ (x : ℕ). values x 0) (sym h))
    (λ m. ap (λ (o : Outcome). to_sv39 o.first) (entry-to-word e m) ∙ entry-back e m)
    (entry-made e bits (accepted-only _ _ z))

from-word : (e : ℕ) → FromWord e → no_word e ≡ false
unfolding to_sv39
from-word e p =
    let w = p.word in
    let first : (to_sv39 w).first ≡ e = ap (λ (o : Outcome). o.first) p.converts in
    ⊎_elim
    (λ z. ap no_word (sym first ∙ ap (λ (o : Outcome). o.first) (to-zero w z)) ∙ zero-entry)
    (λ m. ap no_word (sym first ∙ ap (λ (o : Outcome). o.first) (word-to-entry w m)) ∙ entry-converts m.range m.rights m.frame m.allowed m.some m.fits)
    (word_made w (accepted-only _ _ (ap (λ (o : Outcome). o.number) p.converts)))

pub entries-convert : EntriesConvert
unfolding EntriesConvert from_sv39
entries-convert e bits =
    converts _ (no_word e) (word_of e)
    (λ f. ⊎_elim (λ z. record { word = 0; converts = to-zero 0 refl ∙ ap (λ (x : ℕ). values x 0) (sym z) }) (λ m. record { word = page_word m.range m.rights m.frame; converts = entry-back e m }) (entry-made e bits f))
    (from-word e)

pub word-examples : WordExamples
unfolding WordExamples to_sv39 converted no_entry no_leaf entry_of leaf is_page_word allowed_rights reserved_rights mapped range_bit rights_in frame_in has_bit bit_at one-if
word-examples = refl

pub entry-examples : EntryExamples
unfolding EntryExamples from_sv39 converted no_word further_bit word_of rights_of frame_of page_word reserved_rights any_from has_bit bit_at one-if
entry-examples = (refl, refl)
