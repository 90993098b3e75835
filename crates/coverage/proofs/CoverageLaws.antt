-- Counts of a space's pages, room for the next quotient, and what coverage promises.
use mathlib.Core.Path.{◌≡◌, refl, ap, ◌∙◌, sym}
use mir.Val.{bool_byte}
use mathlib.Core.Bool.{Bool, true, false, ◌&&◌}
use mathlib.Core.List.{List}
use Prim.Native.Nat.{ℕ, zero, suc, ◌+◌, ◌-◌, ◌*◌, ◌/◌, ◌%◌, ◌<◌, ◌≤◌}
use native.Mathlib.Numerals.{add-one}
use native.Mathlib.Nat.{not-suc-le-zero, mul-le-mul_left, div-add-mod', mod-lt}
use native.Mathlib.Decide.{ℕ_discrete}
use native.Mathlib.Omega.{arith}
use lib.ListN.{get_or, take, drop}
use borrow.Author.Tests.{not-false, ltb-false}
use Rattle.words.specs.Counts.{count, one-if}
use Rattle.words.specs.Searches.{any_from}
use Rattle.words.specs.Refusals.{NoneApplies, done, next}
use Rattle.words.specs.Rows.{values, number_of, after}
use Rattle.words.specs.Tables.{part}
use Rattle.words.proofs.Cases.{by-dec}
use Rattle.words.proofs.CountLaws.{one-if-le, count-le}
use Rattle.words.proofs.SearchLaws.{any_at}
use Rattle.runs.specs.PageWords.{mapped, range_bit}
use Rattle.layout.specs.declared.TableCall.TheVariants.{Coverage}
use Rattle.layout.specs.Tables.{Tables, right_lengths, space_pages}
use Rattle.layout.specs.Calls.{mapped_at, in_ranges_at, coverage_figure, coverage, sized_row, row, Called}
use Rattle.layout.proofs.CallLaws.{call-done}
use Rattle.tablecheck.specs.Inner.{page_mapped}
use Rattle.tablecheck.proofs.SpanLaws.{lent-mapped}
use Rattle.coverage.specs.Inner.{page_in_range}

-- counts over a space's words, one word more

pub count-nothing : (p : ℕ → Bool) → 0 ≡ count 0 p
unfolding count
count-nothing p = refl

bit : (b : Bool) → bool_byte b ≡ one-if b
unfolding one-if
bit true = refl
bit false = refl

module _ (ws : List ℕ) (k n x : ℕ) (b : Bool) (xb : x ≡ bool_byte b) where
  pub mapped-more : n ≡ count k (page_mapped ws) → b ≡ mapped (get_or ws k 0) → n + x ≡ count (k + 1) (page_mapped ws)
  unfolding count page_mapped
  mapped-more e d = rw (add-one k, sym d, e, xb, bit b) refl

  pub in-range-more : n ≡ count k (page_in_range ws) → b ≡ (mapped (get_or ws k 0) && range_bit (get_or ws k 0)) → n + x ≡ count (k + 1) (page_in_range ws)
  unfolding count page_in_range
  in-range-more e d = rw (add-one k, sym d, e, xb, bit b) refl

-- a count has room for one more
pub one-more : (n k x : ℕ) (p : ℕ → Bool) (b : Bool) → n ≡ count k p → x ≡ bool_byte b → n + x ≤ k + 1
one-more n k x p b e xb = omega (arith, e, xb, bit b, one-if-le b, count-le k p)

-- where a page is mapped, the count of mapped pages is not 0

count_at : (n : ℕ) (p : ℕ → Bool) (k : ℕ) → k < n → p k ≡ true → 1 ≤ count n p
unfolding count one-if
count_at zero p k h t = absurd (not-suc-le-zero h)
count_at (suc n) p k h t =
    by-dec (ℕ_discrete k n)
    (λ e. let last : p n ≡ true = rw e at t in rw last (omega arith))
    (λ ne. omega (arith, count_at n p k (omega arith) t))

pub some-counted : (n : ℕ) (p : ℕ → Bool) → any_from n 0 p ≡ true → 1 ≤ count n p
some-counted n p t = let k = any_at n 0 p t in count_at n p k.0 (omega (arith, k.2)) k.3

-- the next quotient is no larger than what is divided where the remainder is half of m or more, for m is then at least 2

pub room-above : (a m : ℕ) → 0 < m → m ≤ 2 * (a % m) → a / m + 1 ≤ a
room-above a m pos h =
    let l = mod-lt a pos in
    let d = div-add-mod' a m in
    let t : a / m * 1 ≤ a / m * m = mul-le-mul_left (a / m) pos in
    omega arith

-- the space's part of the page buffer as it is lent

lent-ranges : (T : Tables) (s : ℕ) → page_in_range (take ((1024 * s + 1024) - 1024 * s) (drop (1024 * s) T.pages)) ≡ in_ranges_at T s
unfolding page_in_range in_ranges_at mapped_at space_pages part
lent-ranges T s = let n : (1024 * s + 1024) - 1024 * s ≡ 1024 = omega arith in rw n

-- what an accepted call was asked, and what it promises

pub record Measuring (T : Tables) (s : ℕ) : Type 0 where
  pub lengths : right_lengths T ≡ true
  pub space : s ≤ 3
  pub some : any_from 1024 0 (page_mapped (take ((1024 * s + 1024) - 1024 * s) (drop (1024 * s) T.pages))) ≡ true

pub coverage-facts : (T : Tables) (s : ℕ) → NoneApplies (row T (Coverage s)).refusals → Measuring T s
unfolding row after sized_row
coverage-facts T s (next a (next b (next c (next d (next e done))))) =
    record { lengths = not-false _ a; space = ltb-false 3 s c; some = ap (any_from 1024 0) (lent-mapped T s (1024 * s) (1024 * s + 1024) refl refl) ∙ not-false _ e }

pub coverage-done : (T : Tables) (s : ℕ) → 0 ≡ number_of (row T (Coverage s)) → (m : ℕ)
    → m ≡ coverage_figure (count 1024 (page_in_range (take ((1024 * s + 1024) - 1024 * s) (drop (1024 * s) T.pages)))) (count 1024 (page_mapped (take ((1024 * s + 1024) - 1024 * s) (drop (1024 * s) T.pages))))
    → Called (Coverage s) T (values m 0) T
unfolding row after sized_row coverage
coverage-done T s e m me = rw (me, lent-mapped T s (1024 * s) (1024 * s + 1024) refl refl, lent-ranges T s) (call-done (Coverage s) T e T refl)
