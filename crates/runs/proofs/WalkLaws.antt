-- The walk: the running length, the pages of a whole run, range bits and entries.
use mathlib.Core.Path.{◌≡◌, refl, ap, ◌∙◌, sym}
use mathlib.Core.Bool.{Bool, true, false}
use mathlib.Core.List.{List, [], ◌∷◌, ◌++◌}
use Prim.Native.Nat.{ℕ, zero, suc, ◌+◌, ◌*◌, ◌-◌, ◌<◌, ◌≤◌, zero-le}
use native.Mathlib.Nat.{add-zero, zero-add}
use native.Mathlib.Decide.{dec_le}
use native.Mathlib.Omega.{arith}
use lib.Dec.{leb}
use lib.ListN.{length, get_or, drop, length-append}
use lib.Seq.{drop-cons, drop-length}
use borrow.Author.Tests.{le-leb, lt-leb}
use Rattle.words.specs.Counts.{one-if}
use Rattle.words.proofs.Cases.{by-test, by-dec, true-false}
use Rattle.words.proofs.CountLaws.{one-if-le}
use Rattle.runs.specs.PageWords.{mapped}
use Rattle.runs.specs.Walk.{joins, goes_on, run_after, bit_word, bits_from, with_bits, ended, entry_of, entries_from, entries}
use Rattle.runs.proofs.WordLaws.{zero-unmapped, joins_at, goes-join, goes-new}

-- the word before page i, 0 for page 0
unfoldable pub word_before : List ℕ → ℕ → ℕ
word_before ws zero = 0
word_before ws (suc i) = get_or ws i 0

-- the running length before page i, computed from page to page: by `running-before` and `running-is` (RunsLaws) it is `RunningLength` at page i - 1, and no other number is
unfoldable pub run_before : List ℕ → ℕ → ℕ
run_before ws zero = 0
run_before ws (suc i) = goes_on (run_before ws i) (word_before ws i) (get_or ws i 0)

-- the walk, one page further
pub before-suc : (ws : List ℕ) (i : ℕ) → run_before ws (suc i) ≡ goes_on (run_before ws i) (word_before ws i) (get_or ws i 0)
unfolding run_before
before-suc ws i = refl

goes-le : (n v w : ℕ) → goes_on n v w ≤ n + 1
goes-le n v w = by-test (joins v w) (λ t. omega (arith, goes-join n v w t)) (λ t. omega (arith, goes-new n v w t, one-if-le (mapped w)))

-- a running length of 0 is that of an unmapped page, any other that of a mapped one
pub goes-zero : (n v w : ℕ) → goes_on n v w ≡ 0 → mapped w ≡ false
unfolding one-if
goes-zero n v w z =
    by-test (mapped w)
    (λ m. by-test (joins v w)
    (λ t. absurd (omega (arith, goes-join n v w t)))
    (λ t. let o : one-if (mapped w) ≡ 1 = rw m in absurd (omega (arith, goes-new n v w t))))
    (λ m. m)

pub goes_some : (n v w : ℕ) → 1 ≤ goes_on n v w → mapped w ≡ true
unfolding one-if
goes_some n v w h =
    by-test (mapped w) (λ m. m) (λ m.
    by-test (joins v w)
    (λ t. true-false (mapped w) (joins_at v w t).next m)
    (λ t. let o : one-if (mapped w) ≡ 0 = rw m in absurd (omega (arith, goes-new n v w t))))

-- a running length above 1 goes on
pub goes_on_lem : (n v w : ℕ) → 1 < goes_on n v w → joins v w ≡ true
goes_on_lem n v w h = by-test (joins v w) (λ t. t) (λ t. absurd (omega (arith, goes-new n v w t, one-if-le (mapped w))))

pub before-le : (ws : List ℕ) (i : ℕ) → run_before ws i ≤ i
unfolding run_before
before-le ws zero = zero-le
before-le ws (suc i) = omega (arith, before-le ws i, goes-le (run_before ws i) (word_before ws i) (get_or ws i 0))

-- d pages back in a run the running length is d less
pub back : (ws : List ℕ) (d i : ℕ) → d < run_before ws (d + i) → run_before ws i + d ≡ run_before ws (d + i)
back ws zero i h = rw (zero-add i) (omega arith)
back ws (suc d) i h =
    let e : suc d + i ≡ suc (d + i) = omega arith in
    let s : run_before ws (suc d + i) ≡ goes_on (run_before ws (d + i)) (word_before ws (d + i)) (get_or ws (d + i) 0) = ap (run_before ws) e ∙ before-suc ws (d + i) in
    let j = goes_on_lem (run_before ws (d + i)) (word_before ws (d + i)) (get_or ws (d + i) 0) (omega arith) in
    let m = goes-join (run_before ws (d + i)) _ _ j in
    omega (arith, back ws d i (omega (arith, m)), m)

-- the pages of the longest run that page i - 1 is in
unfoldable pub whole : List ℕ → ℕ → ℕ
whole ws i = run_before ws i + run_after (word_before ws i) (drop i ws)

pub after-cons : (v w : ℕ) (ws : List ℕ) → joins v w ≡ true → run_after v (w ∷ ws) ≡ suc (run_after w ws)
unfolding run_after
after-cons v w ws t = rw (t, run_after)

pub after_stop : (v w : ℕ) (ws : List ℕ) → joins v w ≡ false → run_after v (w ∷ ws) ≡ 0
unfolding run_after
after_stop v w ws t = rw (t, run_after)

last-suc : (ws : List ℕ) (i : ℕ) → word_before ws (suc i) ≡ get_or ws i 0
unfolding word_before
last-suc ws i = refl

-- it is the same from page to page of a run
pub whole-step : (ws : List ℕ) (i : ℕ) → i < length ws → joins (word_before ws i) (get_or ws i 0) ≡ true → whole ws (suc i) ≡ whole ws i
unfolding whole
whole-step ws i h t =
    let a : run_after (word_before ws i) (drop i ws) ≡ suc (run_after (get_or ws i 0) (drop (suc i) ws)) =
    rw (drop-cons ws i 0 h) (after-cons (word_before ws i) (get_or ws i 0) (drop (suc i) ws) t)
    in
    let b : run_after (word_before ws (suc i)) (drop (suc i) ws) ≡ run_after (get_or ws i 0) (drop (suc i) ws) = ap (λ (x : ℕ). run_after x (drop (suc i) ws)) (last-suc ws i) in
    omega (arith, a, b, before-suc ws i, goes-join (run_before ws i) (word_before ws i) (get_or ws i 0) t)

-- where it ends, it is the running length
pub whole-end : (ws : List ℕ) (i : ℕ) → i < length ws → joins (word_before ws i) (get_or ws i 0) ≡ false → whole ws i ≡ run_before ws i
unfolding whole
whole-end ws i h t =
    let a : run_after (word_before ws i) (drop i ws) ≡ 0 = rw (drop-cons ws i 0 h) (after_stop (word_before ws i) (get_or ws i 0) (drop (suc i) ws) t) in
    omega (arith, a)

pub whole-last : (ws : List ℕ) (i : ℕ) → i ≡ length ws → whole ws i ≡ run_before ws i
unfolding whole run_after
whole-last ws i e = rw (e, drop-length ws) (omega arith)

-- so it is that of the last page for each page of the run
pub whole_back : (ws : List ℕ) (d i : ℕ) → d + i ≤ length ws → d < run_before ws (d + i) → whole ws i ≡ whole ws (d + i)
whole_back ws zero i f h = rw (zero-add i)
whole_back ws (suc d) i f h =
    let e : suc d + i ≡ suc (d + i) = omega arith in
    let s : run_before ws (suc d + i) ≡ goes_on (run_before ws (d + i)) (word_before ws (d + i)) (get_or ws (d + i) 0) = ap (run_before ws) e ∙ before-suc ws (d + i) in
    let j = goes_on_lem (run_before ws (d + i)) (word_before ws (d + i)) (get_or ws (d + i) 0) (omega arith) in
    let m = goes-join (run_before ws (d + i)) _ _ j in
    whole_back ws d i (omega arith) (omega (arith, m)) ∙ sym (whole-step ws (d + i) (omega arith) j) ∙ ap (whole ws) (sym e)

-- the word of page q with its range bit
unfoldable pub bit_at : List ℕ → ℕ → ℕ
bit_at ws q = bit_word (leb 8 (whole ws (suc q))) (get_or ws q 0)

bits-from : (d : ℕ) (ws : List ℕ) (i : ℕ) → d + i < length ws → get_or (bits_from (run_before ws i) (word_before ws i) (drop i ws)) d 0 ≡ bit_at ws (d + i)
unfolding bits_from bit_at whole
bits-from zero ws i h =
    let lt : i < length ws = omega arith in
    rw (zero-add i, drop-cons ws i 0 lt, last-suc ws i, before-suc ws i) refl
bits-from (suc d) ws i h =
    let lt : i < length ws = omega arith in
    let e : suc d + i ≡ d + suc i = omega arith in
    rw (drop-cons ws i 0 lt, e, ← before-suc ws i, ← last-suc ws i) (bits-from d ws (suc i) (omega arith))

pub with_bits_at : (ws : List ℕ) (q : ℕ) → q < length ws → get_or (with_bits ws) q 0 ≡ bit_at ws q
unfolding with_bits run_before word_before
with_bits_at ws q h = let e : q + 0 ≡ q = add-zero q in rw e at (bits-from q ws 0 (omega arith))

length-bits : (n v : ℕ) (ws : List ℕ) → length (bits_from n v ws) ≡ length ws
unfolding bits_from
length-bits n v [] = refl
length-bits n v (w ∷ ws) = ap suc (length-bits (goes_on n v w) w ws)

pub length-with_bits : (ws : List ℕ) → length (with_bits ws) ≡ length ws
unfolding with_bits
length-with_bits ws = length-bits 0 0 ws

-- where a run of n pages ends before page i, its pages have the range bit of n
pub bit-ended : (ws : List ℕ) (i q : ℕ) → i ≤ length ws → whole ws i ≡ run_before ws i → q < i → i ≤ q + run_before ws i → bit_at ws q ≡ bit_word (leb 8 (run_before ws i)) (get_or ws q 0)
unfolding bit_at
bit-ended ws i q f w lt le =
    let e : (i - suc q) + suc q ≡ i = omega arith in
    let b = whole_back ws (i - suc q) (suc q) (omega arith) (rw e (omega arith)) in
    ap (λ (x : ℕ). bit_word (leb 8 x) (get_or ws q 0)) (b ∙ ap (whole ws) e ∙ w)

-- the entries that are left at page i, one page further, and at the end
pub entries-suc : (ws : List ℕ) (i : ℕ) → i < length ws
    → entries_from i (run_before ws i) (word_before ws i) (drop i ws)
    ≡ ended (joins (word_before ws i) (get_or ws i 0)) i (run_before ws i) (word_before ws i) ++ entries_from (suc i) (run_before ws (suc i)) (word_before ws (suc i)) (drop (suc i) ws)
unfolding entries_from
entries-suc ws i h = rw (drop-cons ws i 0 h, before-suc ws i, last-suc ws i) refl

pub entries-end : (ws : List ℕ) (i : ℕ) → i ≡ length ws → entries_from i (run_before ws i) (word_before ws i) (drop i ws) ≡ ended false i (run_before ws i) (word_before ws i)
unfolding entries_from
entries-end ws i e = rw (e, drop-length ws) refl

pub ended-short : (b n v : ℕ) → n < 8 → ended false b n v ≡ []
unfolding ended
ended-short b n v h = rw (lt-leb 8 n h, ended)

pub ended-long : (b n v : ℕ) → 8 ≤ n → ended false b n v ≡ entry_of b n v
unfolding ended
ended-long b n v h = rw (le-leb 8 n h, ended)

pub ended-on : (b n v : ℕ) → ended true b n v ≡ []
unfolding ended
ended-on b n v = refl

pub length-entry : (b n v : ℕ) → length (entry_of b n v) ≡ 4
unfolding entry_of
length-entry b n v = refl

ended-few : (b n v : ℕ) → 2 * length (ended false b n v) ≤ n
ended-few b n v =
    by-dec (dec_le 8 n)
    (λ h. omega (arith, ap length (ended-long b n v h), length-entry b n v))
    (λ h. let z : length (ended false b n v) ≡ 0 = ap length (ended-short b n v (omega arith)) in omega (arith, z))

-- an entry has four words and stands for at least eight pages: so at most 128 entries
few : (b n v : ℕ) (ws : List ℕ) → 2 * length (entries_from b n v ws) ≤ n + length ws
unfolding entries_from
few b n v [] = omega (arith, ended-few b n v)
few b n v (w ∷ ws) =
    let l = length-append (ended (joins v w) b n v) (entries_from (suc b) (goes_on n v w) w ws) in
    let r = few (suc b) (goes_on n v w) w ws in
    by-test (joins v w)
    (λ t. let z : length (ended (joins v w) b n v) ≡ 0 = rw t (ap length (ended-on b n v)) in
    omega (arith, l, r, z, goes-join n v w t))
    (λ t. let z : length (ended (joins v w) b n v) ≡ length (ended false b n v) = ap (λ (x : Bool). length (ended x b n v)) t in
    omega (arith, l, r, z, ended-few b n v, goes-new n v w t, one-if-le (mapped w)))

pub entries-few : (ws : List ℕ) → length ws ≡ 1024 → length (entries ws) ≤ 512
unfolding entries
entries-few ws e = omega (arith, few 0 0 0 ws)

pub last-mapped : (ws : List ℕ) (i : ℕ) → 1 ≤ run_before ws i → mapped (word_before ws i) ≡ true
unfolding run_before word_before
last-mapped ws zero h = absurd (omega arith)
last-mapped ws (suc k) h = goes_some (run_before ws k) (word_before ws k) (get_or ws k 0) h

pub last_none : (ws : List ℕ) (i : ℕ) → run_before ws i ≡ 0 → mapped (word_before ws i) ≡ false
unfolding run_before word_before
last_none ws zero h = zero-unmapped 0 refl
last_none ws (suc k) h = goes-zero (run_before ws k) (word_before ws k) (get_or ws k 0) h

pub before-none : (ws : List ℕ) (i : ℕ) → mapped (word_before ws i) ≡ false → run_before ws i ≡ 0
before-none ws i f = by-dec (dec_le 1 (run_before ws i)) (λ some. true-false _ (last-mapped ws i some) f) (λ none. omega arith)

pub before-word : (ws : List ℕ) (i : ℕ) → 0 < i → word_before ws i ≡ get_or ws (i - 1) 0
unfolding word_before
before-word ws zero h = absurd (omega arith)
before-word ws (suc k) h = ap (λ (x : ℕ). get_or ws x 0) (let e : k ≡ suc k - 1 = omega arith in e)
