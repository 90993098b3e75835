-- Spans of pages, and the mapped pages in them.
use mathlib.Core.Path.{◌≡◌, refl, sym, ◌∙◌}
use mathlib.Core.Bool.{Bool, true, false, ◌&&◌, ◌||◌}
use mathlib.Core.List.{List, ◌∷◌}
use Prim.Native.Nat.{ℕ, zero, suc, ◌+◌, ◌-◌, ◌*◌, ◌<◌, ◌≤◌}
use native.Mathlib.Decide.{dec_le}
use native.Mathlib.Omega.{arith}
use lib.Dec.{leb}
use lib.ListN.{length, get_or, take, drop}
use Rattle.std.proofs.lemmas.List.{drop_more}
use Rattle.std.specs.List.{list_all, list_any}
use borrow.Author.Tests.{leb-true, le-leb, lt-leb}
use Rattle.words.specs.Tables.{part}
use Rattle.words.specs.Searches.{all_from, any_from}
use Rattle.words.proofs.Cases.{by-test, by-dec, and-true, true-and}
use Rattle.runs.specs.PageWords.{mapped}
use Rattle.layout.specs.Tables.{Tables, space_pages}
use Rattle.layout.specs.Calls.{is_span, mapped_at}
use Rattle.tablecheck.specs.Inner.{page_mapped}

-- a span

module _ (f n : ℕ) where
  pub span-says : is_span f n ≡ true → (1 ≤ n) × (f + n ≤ 1024)
  unfolding is_span
  span-says t = let a = and-true _ _ t in (leb-true _ _ a.0, leb-true _ _ a.1)

  pub says-span : 1 ≤ n → f + n ≤ 1024 → is_span f n ≡ true
  unfolding is_span
  says-span a b = true-and _ _ (le-leb 1 n a) (le-leb (f + n) 1024 b)

  pub no_span : (1 ≤ n → f + n ≤ 1024 → ⊥) → false ≡ is_span f n
  no_span no_way = by-test (is_span f n) (λ t. let a = span-says t in absurd (no_way a.0 a.1)) (λ t. sym t)

  -- tested without the sum
  pub span_last : 1 ≤ n → n ≤ 1024 → leb f (1024 - n) ≡ is_span f n
  span_last a b =
      by-dec (dec_le f (1024 - n))
      (λ h. le-leb f (1024 - n) h ∙ sym (says-span a (omega arith)))
      (λ h. lt-leb f (1024 - n) (omega arith) ∙ no_span (λ x y. omega arith))

-- mapped pages

-- the words of a span, as one part

one_of_all : (b x y : Bool) → x ≡ y → (b && x) ≡ elim b [ true ↦ y | false ↦ false ]
one_of_all true x y e = e
one_of_all false x y e = refl

one_of_any : (b x y : Bool) → x ≡ y → (b || x) ≡ elim b [ true ↦ true | false ↦ y ]
one_of_any true x y e = refl
one_of_any false x y e = e

module _ (ws : List ℕ) where
  step : (i : ℕ) → i < length ws → drop i ws ≡ get_or ws i 0 ∷ drop (suc i) ws
  step i h = let e : i + 1 ≡ suc i = omega arith in rw e at (drop_more ws i 0 h)

  pub list_all-from : (n i : ℕ) → i + n ≤ length ws → list_all mapped (take n (drop i ws)) ≡ all_from n i (page_mapped ws)
  unfolding all_from page_mapped
  list_all-from zero i h = refl
  list_all-from (suc n) i h = rw (step i (omega arith)) (one_of_all (mapped (get_or ws i 0)) _ _ (list_all-from n (suc i) (omega arith)))

  pub list_any-from : (n i : ℕ) → i + n ≤ length ws → list_any mapped (take n (drop i ws)) ≡ any_from n i (page_mapped ws)
  unfolding any_from page_mapped
  list_any-from zero i h = refl
  list_any-from (suc n) i h = rw (step i (omega arith)) (one_of_any (mapped (get_or ws i 0)) _ _ (list_any-from n (suc i) (omega arith)))

-- a space's part of the page buffer as it is lent
pub lent-mapped : (T : Tables) (s a e : ℕ) → a ≡ 1024 * s → e ≡ a + 1024 → page_mapped (take (e - a) (drop a T.pages)) ≡ mapped_at T s
unfolding page_mapped mapped_at space_pages part
lent-mapped T s a e ea ee = let n : e - a ≡ 1024 = omega arith in rw (n, ea)
