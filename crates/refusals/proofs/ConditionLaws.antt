-- Each refusal's condition from the code's test of it, and what the parts of a judgement have shown.
use mathlib.Core.Path.{◌≡◌, refl, ap, ◌∙◌, sym}
use mathlib.Core.Bool.{Bool, true, false, not}
use mathlib.Core.List.{List, [], ◌∷◌, ◌++◌}
use Prim.Native.Nat.{ℕ, ◌+◌, ◌-◌, ◌*◌, ◌<◌, ◌≤◌}
use native.Mathlib.Omega.{arith}
use lib.Dec.{leb, ltb}
use lib.ListN.{take, drop}
use borrow.Author.Tests.{le-leb, lt-leb, leb-true, ltb-false, le-ltb, not-false}
use Rattle.words.specs.Counts.{count}
use Rattle.words.specs.Searches.{all_from, any_from}
use Rattle.words.specs.Refusals.{Refusal, decide, numbers, NoneApplies, done, next}
use Rattle.words.specs.Rows.{number_of, after, refusal_order, among, in_order}
use Rattle.words.proofs.Cases.{by-test, true-false, and-true}
use Rattle.words.proofs.RefusalLaws.{refused, passed}
use Rattle.blocks.specs.FrameWords.{is_pool_size, free_in}
use Rattle.blocks.proofs.Published.{lawful-facts}
use Rattle.runs.specs.PageWords.{reserved_rights, allowed_rights}
use Rattle.runs.proofs.WordLaws.{allowed-low, allowed-unreserved, allowed-by, reserved-low}
use Rattle.control.specs.Control.{pool_size}
use Rattle.layout.specs.declared.TableCall.TheVariants.{Open, Close, Map, Unmap, Protect, Coverage}
use Rattle.layout.specs.Tables.{Tables}
use Rattle.layout.specs.Sound.{sound}
use Rattle.layout.specs.Calls.{no_such_space, wrong_rights, write_without_read, already_open, is_span, mapped_at, already_mapped, not_mapped, nothing_mapped, too_few_frames, no_number_left, sized_row, row}
use Rattle.layout.proofs.SoundLaws.{Lengths, lengths-at, sound-parts}
use Rattle.tablecheck.specs.Inner.{page_mapped}
use Rattle.tablecheck.proofs.SpanLaws.{lent-mapped}
use Rattle.refusals.specs.Inner.{of_tables, of_span, shared}

-- 4
pub size_low : (F : ℕ) → F < 1 → not (is_pool_size F) ≡ true
unfolding is_pool_size
size_low F h = rw (lt-leb 1 F h) refl

pub size-high : (F : ℕ) → 1 ≤ F → 4096 < F → not (is_pool_size F) ≡ true
unfolding is_pool_size
size-high F a h = rw (le-leb 1 F a, lt-leb F 4096 h) refl

pub size-right : (F : ℕ) → 1 ≤ F → F ≤ 4096 → not (is_pool_size F) ≡ false
unfolding is_pool_size
size-right F a b = rw (le-leb 1 F a, le-leb F 4096 b) refl

-- 6, 17
pub reserved-passes-six : (r : ℕ) → reserved_rights r ≡ true → ltb 7 r ≡ false
reserved-passes-six r t = le-ltb 7 r (reserved-low r t)

-- rights that are neither allowed nor reserved are above 7
pub rights-above : (r : ℕ) → allowed_rights r ≡ false → reserved_rights r ≡ false → ltb 7 r ≡ true
rights-above r f g = by-test (ltb 7 r) (λ t. t) (λ n. true-false (allowed_rights r) (allowed-by r (ltb-false 7 r n) g) f)

-- where rights are allowed neither applies, and where they are not one of the two does
module _ (r : ℕ) (rs : List (Refusal ℕ)) where
  pub rights-pass : allowed_rights r ≡ true → decide (wrong_rights r ∷ write_without_read r ∷ rs) 0 ≡ decide rs 0
  rights-pass t = passed _ _ _ _ (le-ltb 7 r (allowed-low r t)) ∙ passed _ _ _ _ (allowed-unreserved r t)

  pub rights-stop : allowed_rights r ≡ false → decide (wrong_rights r ∷ write_without_read r ∷ rs) 0 ≡ decide (wrong_rights r ∷ write_without_read r ∷ []) 0
  rights-stop f =
      by-test (reserved_rights r)
      (λ t. let p = reserved-passes-six r t in passed _ _ _ _ p ∙ refused _ _ _ _ t ∙ sym (passed _ _ _ _ p ∙ refused _ _ _ _ t))
      (λ g. let a = rights-above r f g in refused _ _ _ _ a ∙ sym (refused _ _ _ _ a))

-- 11, 12: the space's part of the page buffer is lent
module _ (T : Tables) (s first n : ℕ) (r : Bool) where
  lent : page_mapped (take ((1024 * s + 1024) - 1024 * s) (drop (1024 * s) T.pages)) ≡ mapped_at T s
  lent = lent-mapped T s (1024 * s) (1024 * s + 1024) refl refl

  pub any-by : r ≡ any_from n first (page_mapped (take ((1024 * s + 1024) - 1024 * s) (drop (1024 * s) T.pages))) → any_from n first (mapped_at T s) ≡ r
  any-by e = ap (any_from n first) (sym lent) ∙ sym e

  pub all-by : r ≡ all_from n first (page_mapped (take ((1024 * s + 1024) - 1024 * s) (drop (1024 * s) T.pages))) → all_from n first (mapped_at T s) ≡ r
  all-by e = ap (all_from n first) (sym lent) ∙ sym e

-- 14
pub free-by : (c fs : List ℕ) (n F k : ℕ) → F ≡ pool_size c → k ≡ count F (free_in fs) → ltb (count (pool_size c) (free_in fs)) n ≡ ltb k n
free-by c fs n F k fe ke = rw (sym fe, sym ke) refl

-- a sound pool is no larger than its buffer
pub pool-low : (T : Tables) (F : ℕ) → F ≡ pool_size T.control → sound T ≡ true → F ≤ 4096
pool-low T F e t = let low : pool_size T.control ≤ 4096 = (lawful-facts _ _ (sound-parts T t).frames).small in omega (arith, e, low)

-- the parts stand in order, and where none of a part applies
pub tables-order : (T : Tables) → in_order (of_tables T) ≡ true
unfolding of_tables numbers in_order refusal_order among
tables-order T = refl

pub shared-order : (T : Tables) (s first n rights : ℕ) → in_order (shared T s first n rights) ≡ true
unfolding shared of_tables of_span numbers in_order refusal_order among
shared-order T s first n rights = refl

pub tables-shown : (T : Tables) → NoneApplies (of_tables T) → Lengths T × (sound T ≡ true)
unfolding of_tables
tables-shown T (next a (next b done)) = (lengths-at T (not-false _ a), not-false _ b)

pub record Shown (T : Tables) (s first n : ℕ) : Type 0 where
  pub lengths : Lengths T
  pub tables : sound T ≡ true
  pub space : s ≤ 3
  pub room : first + n ≤ 1024

pub shared-shown : (T : Tables) (s first n rights : ℕ) → NoneApplies (shared T s first n rights) → Shown T s first n
unfolding shared of_tables of_span is_span
shared-shown T s first n rights (next a (next b (next c (next d (next r (next e (next f done))))))) =
    record { lengths = lengths-at T (not-false _ a); tables = not-false _ b; space = ltb-false 3 s c; room = leb-true _ _ (and-true (leb 1 n) (leb (first + n) 1024) (not-false _ e)).1 }

-- the rows by parts
module _ (T : Tables) (s first n rights : ℕ) where
  pub map-parts : number_of (row T (Map s first n rights)) ≡ decide (shared T s first n rights ++ (already_mapped T s first n ∷ too_few_frames T n ∷ [])) 0
  unfolding number_of row after sized_row shared of_tables of_span
  map-parts = refl

  pub protect-parts : number_of (row T (Protect s first n rights)) ≡ decide (shared T s first n rights ++ (not_mapped T s first n ∷ no_number_left T.control ∷ [])) 0
  unfolding number_of row after sized_row shared of_tables of_span
  protect-parts = refl

module _ (T : Tables) (s : ℕ) where
  pub open-parts : number_of (row T (Open s)) ≡ decide (of_tables T ++ (no_such_space s ∷ already_open T.control s ∷ [])) 0
  unfolding number_of row after sized_row of_tables
  open-parts = refl

  -- a call that gives no rights, or names no span
  pub unmap-parts : (first n : ℕ) → number_of (row T (Unmap s first n)) ≡ number_of (row T (Protect s first n 0))
  unfolding number_of row after sized_row decide reserved_rights
  unmap-parts first n = refl

  pub close-parts : number_of (row T (Close s)) ≡ decide (shared T s 0 1024 0 ++ (no_number_left T.control ∷ [])) 0
  unfolding number_of row after sized_row shared of_tables of_span decide reserved_rights is_span
  close-parts = refl

  pub coverage-parts : number_of (row T (Coverage s)) ≡ decide (shared T s 0 1024 0 ++ (nothing_mapped T s ∷ [])) 0
  unfolding number_of row after sized_row shared of_tables of_span decide reserved_rights is_span
  coverage-parts = refl
