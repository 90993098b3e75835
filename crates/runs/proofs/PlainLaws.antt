-- Runs are blind to the range bit: range bits and range words depend only on which pages are mapped, with which frames and rights. So what was rebuilt of words of the layout is lawful.
use mathlib.Core.Path.{◌≡◌, refl, ap, ap₂, ◌∙◌, sym}
use mathlib.Core.Bool.{Bool, true, false}
use mathlib.Core.List.{List, [], ◌∷◌, ◌++◌}
use Prim.Native.Nat.{ℕ, zero, suc, ◌+◌, ◌-◌, ◌<◌, ◌≤◌}
use native.Mathlib.Decide.{dec_le}
use native.Mathlib.Omega.{arith}
use lib.Dec.{leb}
use lib.ListN.{length, get_or, replicate}
use Rattle.words.specs.Counts.{one-if}
use Rattle.words.proofs.Cases.{by-test, by-dec, true-false}
use Rattle.runs.specs.PageWords.{mapped, is_page_word}
use Rattle.runs.specs.Walk.{joins, goes_on, run_after, bit_word, bits_from, with_bits, ended, entry_of, entries_from, entries, range_words, lawful_ranges}
use Rattle.runs.proofs.WordLaws.{zero-unmapped, bit-none, joins_at, join, not-joins, like-bit, bit-bit, bit_word_lem, goes-join, goes-new}
use Rattle.runs.proofs.WalkLaws.{goes_some, after-cons, after_stop, ended-on, ended-short, ended-long, whole, bit_at, with_bits_at, length-with_bits}
use Rattle.runs.proofs.CheckLaws.{at-lawful}

joins-bit : (a b : Bool) (v w : ℕ) → joins (bit_word a v) (bit_word b w) ≡ joins v w
joins-bit a b v w =
    let p = like-bit a v in
    let q = like-bit b w in
    by-test (joins v w)
    (λ t.
    let j = joins_at v w t in
    join _ _ (record {
      this = p.maps ∙ j.this;
      next = q.maps ∙ j.next;
      frame = q.frame j.next ∙ j.frame ∙ ap (λ (x : ℕ). x + 1) (sym (p.frame j.this));
      rights = q.rights j.next ∙ j.rights ∙ sym (p.rights j.this);
    }) ∙ sym t)
    (λ f. sym (not-joins _ _ (λ j.
    let this = sym p.maps ∙ j.this in
    let next = sym q.maps ∙ j.next in
    true-false (joins v w) (join v w (record {
      this = this;
      next = next;
      frame = sym (q.frame next) ∙ j.frame ∙ ap (λ (x : ℕ). x + 1) (p.frame this);
      rights = sym (q.rights next) ∙ j.rights ∙ p.rights this;
    })) f)) ∙ sym f)

goes-bit : (a b : Bool) (n v w : ℕ) → goes_on n (bit_word a v) (bit_word b w) ≡ goes_on n v w
goes-bit a b n v w =
    by-test (joins v w)
    (λ t. goes-join n (bit_word a v) (bit_word b w) (joins-bit a b v w ∙ t) ∙ sym (goes-join n v w t))
    (λ t. goes-new n (bit_word a v) (bit_word b w) (joins-bit a b v w ∙ t) ∙ ap one-if (like-bit b w).maps ∙ sym (goes-new n v w t))

-- the words with no range bit: which pages are mapped, with which frames and rights
unfoldable pub plain : List ℕ → List ℕ
plain [] = []
plain (w ∷ ws) = bit_word false w ∷ plain ws

plain-bits : (n v : ℕ) (ws : List ℕ) → plain (bits_from n v ws) ≡ plain ws
unfolding plain bits_from
plain-bits n v [] = refl
plain-bits n v (w ∷ ws) = ap₂ ◌∷◌ (bit-bit (leb 8 (goes_on n v w + run_after w ws)) false w) (plain-bits (goes_on n v w) w ws)

after-plain : (a : Bool) (v : ℕ) (ws : List ℕ) → run_after (bit_word a v) (plain ws) ≡ run_after v ws
unfolding plain run_after
after-plain a v [] = refl
after-plain a v (w ∷ ws) =
    by-test (joins v w)
    (λ t. after-cons (bit_word a v) (bit_word false w) (plain ws) (joins-bit a false v w ∙ t) ∙ ap suc (after-plain false w ws) ∙ sym (after-cons v w ws t))
    (λ t. after_stop (bit_word a v) (bit_word false w) (plain ws) (joins-bit a false v w ∙ t) ∙ sym (after_stop v w ws t))

bits-plain : (a : Bool) (n v : ℕ) (ws : List ℕ) → bits_from n (bit_word a v) (plain ws) ≡ bits_from n v ws
unfolding plain bits_from
bits-plain a n v [] = refl
bits-plain a n v (w ∷ ws) =
    ap₂ ◌∷◌
    (rw (goes-bit a false n v w, after-plain false w ws) (bit-bit false (leb 8 (goes_on n v w + run_after w ws)) w))
    (rw (goes-bit a false n v w) (bits-plain false (goes_on n v w) w ws))

entry-plain : (a : Bool) (b n v : ℕ) → mapped v ≡ true → entry_of b n (bit_word a v) ≡ entry_of b n v
unfolding entry_of
entry-plain a b n v m = rw ((like-bit a v).frame m, (like-bit a v).rights m) refl

ended-plain : (a on : Bool) (b n v : ℕ) → (1 ≤ n → mapped v ≡ true) → ended on b n (bit_word a v) ≡ ended on b n v
ended-plain a true b n v m = ended-on b n (bit_word a v) ∙ sym (ended-on b n v)
ended-plain a false b n v m =
    by-dec (dec_le 8 n)
    (λ h. ended-long b n (bit_word a v) h ∙ entry-plain a b n v (m (omega arith)) ∙ sym (ended-long b n v h))
    (λ h. ended-short b n (bit_word a v) (omega arith) ∙ sym (ended-short b n v (omega arith)))

entries-plain : (a : Bool) (b n v : ℕ) (ws : List ℕ) → (1 ≤ n → mapped v ≡ true) → entries_from b n (bit_word a v) (plain ws) ≡ entries_from b n v ws
unfolding plain entries_from
entries-plain a b n v [] m = ended-plain a false b n v m
entries-plain a b n v (w ∷ ws) m =
    rw (joins-bit a false v w, goes-bit a false n v w) (ap₂ ◌++◌ (ended-plain a (joins v w) b n v m) (entries-plain false (suc b) (goes_on n v w) w ws (goes_some n v w)))

with_bits-plain : (ws : List ℕ) → with_bits (plain ws) ≡ with_bits ws
unfolding with_bits bit_word mapped
with_bits-plain ws = bits-plain false 0 0 ws

range_words-plain : (ws : List ℕ) → range_words (plain ws) ≡ range_words ws
unfolding range_words entries bit_word mapped
range_words-plain ws = ap (λ (l : List ℕ). l ++ replicate (512 - length l) 0) (entries-plain false 0 0 0 ws (λ h. absurd (omega arith)))

-- two lists of words are alike by their entries
pub plain-ext : (ws xs : List ℕ) → length ws ≡ length xs → ((p : ℕ) → p < length ws → bit_word false (get_or ws p 0) ≡ bit_word false (get_or xs p 0)) → plain ws ≡ plain xs
unfolding plain
plain-ext [] [] len h = refl
plain-ext [] (x ∷ xs) len h = absurd (omega arith)
plain-ext (w ∷ ws) [] len h = absurd (omega arith)
plain-ext (w ∷ ws) (x ∷ xs) len h = ap₂ ◌∷◌ (h 0 (omega arith)) (plain-ext ws xs (omega arith) (λ p lt. h (suc p) (omega arith)))

-- words that differ in range bits only have the same range bits and range words made of them
pub bits-blind : (ws xs : List ℕ) → plain ws ≡ plain xs → with_bits ws ≡ with_bits xs
bits-blind ws xs e = sym (with_bits-plain ws) ∙ ap with_bits e ∙ with_bits-plain xs

pub ranges-blind : (ws xs : List ℕ) → plain ws ≡ plain xs → range_words ws ≡ range_words xs
ranges-blind ws xs e = sym (range_words-plain ws) ∙ ap range_words e ∙ range_words-plain xs

pub plain-with_bits : (ws : List ℕ) → plain (with_bits ws) ≡ plain ws
unfolding with_bits
plain-with_bits ws = plain-bits 0 0 ws

-- rebuilt twice is rebuilt once
pub bits-again : (ws : List ℕ) → with_bits (with_bits ws) ≡ with_bits ws
bits-again ws = bits-blind (with_bits ws) ws (plain-with_bits ws)

pub ranges-again : (ws : List ℕ) → range_words (with_bits ws) ≡ range_words ws
ranges-again ws = ranges-blind (with_bits ws) ws (plain-with_bits ws)

-- what was rebuilt of words of the layout is lawful
pub renewed-lawful : (ws : List ℕ) → ((p : ℕ) → p < length ws → is_page_word (get_or ws p 0) ≡ true) → lawful_ranges (with_bits ws) (range_words ws) ≡ true
unfolding bit_at
renewed-lawful ws layout =
    at-lawful (with_bits ws) (range_words ws) (record {
      layout = λ p h. let lt : p < length ws = omega (arith, length-with_bits ws) in rw (with_bits_at ws p lt) (bit_word_lem (leb 8 (whole ws (suc p))) (get_or ws p 0) (layout p lt));
      pages = sym (bits-again ws);
      ranges = sym (ranges-again ws);
    })

-- words of unmapped pages have no range bit and no range

zeros-bits : (k n v : ℕ) → bits_from n v (replicate k 0) ≡ replicate k 0
unfolding bits_from
zeros-bits zero n v = refl
zeros-bits (suc k) n v = ap₂ ◌∷◌ (bit-none _ 0 (zero-unmapped 0 refl)) (zeros-bits k (goes_on n v 0) 0)

pub bits-zeros : (k : ℕ) → with_bits (replicate k 0) ≡ replicate k 0
unfolding with_bits
bits-zeros k = zeros-bits k 0 0

zeros-entries : (k b : ℕ) → entries_from b 0 0 (replicate k 0) ≡ []
unfolding entries_from joins goes_on mapped one-if
zeros-entries zero b = ended-short b 0 0 (omega arith)
zeros-entries (suc k) b = ap₂ ◌++◌ (ended-short b 0 0 (omega arith)) (zeros-entries k (suc b))

pub ranges-zeros : (k : ℕ) → range_words (replicate k 0) ≡ replicate 512 0
unfolding range_words entries
ranges-zeros k = ap (λ (l : List ℕ). l ++ replicate (512 - length l) 0) (zeros-entries k 0)
