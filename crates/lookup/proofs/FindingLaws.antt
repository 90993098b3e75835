-- What the steps of a look-up and of an install say together.
use mathlib.Core.Path.{◌≡◌, sym, ◌∙◌}
use mathlib.Core.Bool.{Bool, true, false}
use mathlib.Core.List.{List, [], ◌∷◌}
use mathlib.Core.Option.{none, some}
use Prim.Native.Nat.{ℕ, zero, suc, ◌+◌, ◌≤◌, ◌<◌}
use native.Mathlib.Nat.{not-suc-le-zero, le_of_suc-le-suc}
use native.Mathlib.Decide.{dec_lt, ℕ_discrete}
use native.Mathlib.Omega.{arith}
use lib.ListN.{length, get_or}
use Rattle.words.proofs.TableLaws.{beyond}
use Rattle.words.specs.Searches.{first_from}
use Rattle.words.proofs.Cases.{by-dec, by-test, true-false}
use Rattle.words.proofs.SearchLaws.{first-unique, first-none}
use Rattle.history.specs.declared.RangeEntry.{RangeEntry}
use Rattle.history.specs.declared.Unit.{Unit as TlbUnit}
use Rattle.history.specs.Units.{no_range}
use Rattle.history.specs.Translate.{covers, covering_place, table_entry, table_range}
use Rattle.std.specs.List.{position, position_from}
use Rattle.std.specs.declared.option.Option.TheVariants.{Some, None}
use Rattle.std.specs.declared.option.Option.{Option}
use Rattle.std.specs.Option.{MatchOption}
use Rattle.std.proofs.lemmas.List.Quantifiers.{position-Some}
use Rattle.std.proofs.lemmas.Iterator.Adapters.{position_from-zero}

-- one place more at which a test fails
pub none_yet : (f : ℕ → Bool) (k : ℕ) → f k ≡ false → ((j : ℕ) → 0 ≤ j → j < k → f j ≡ false) → (j : ℕ) → 0 ≤ j → j < k + 1 → f j ≡ false
none_yet f k n m j lo hi = by-dec (ℕ_discrete j k) (λ e. rw e n) (λ ne. m j lo (omega arith))

-- the first element that passes, as the library says it
module _ {A : Type 0} (q : A → Bool) (d : A) where
  none-passes : (l : List A) (i : ℕ) → position_from q i l ≡ None → (k : ℕ) → k < length l → q (get_or l k d) ≡ false
  none-passes [] i e k h = absurd (not-suc-le-zero h)
  none-passes (x ∷ xs) i e zero h = by-test (q x) (λ t. let e = rw t at e in grind arith) (λ f. f)
  none-passes (x ∷ xs) i e (suc k) h = by-test (q x) (λ t. let e = rw t at e in grind arith) (λ f. let e = rw f at e in none-passes xs (i + 1) e k (le_of_suc-le-suc h))

  pub place-found : (l : List A) (n k : ℕ) → length l ≡ n → position q l ≡ Some k → first_from n 0 (λ j. q (get_or l j d)) ≡ some k
  place-found l n k len e =
      let (h, t, m) = position-Some q l k d e in
      first-unique n 0 (λ j. q (get_or l j d)) k (omega arith) (omega arith) t (λ j lo hi. m j hi)

  pub place-missed : (l : List A) (n : ℕ) → length l ≡ n → position q l ≡ None → first_from n 0 (λ j. q (get_or l j d)) ≡ none
  place-missed l n len e = first-none n 0 (λ j. q (get_or l j d)) (λ j lo hi. none-passes l 0 (sym (position_from-zero q l) ∙ e) j (omega arith))

module _ (l : List RangeEntry) (k s p : ℕ) where
  -- no entry covers a page where none stands
  pub none-covers : length l ≤ k → covers (get_or l k no_range) s p ≡ false
  unfolding covers no_range
  none-covers h = rw (beyond l k no_range (λ lt. omega arith))

  covers-there : covers (get_or l k no_range) s p ≡ true → k < length l
  covers-there t = by-dec (dec_lt k (length l)) (λ lt. lt) (λ ge. true-false (covers (get_or l k no_range) s p) t (none-covers (omega arith)))

module _ (u : TlbUnit) (s p : ℕ) (len : length u.ranges ≡ 32) where
  -- last used
  pub last-covers : covers (get_or u.ranges u.last no_range) s p ≡ true → (covering_place u s p ≡ some u.last) × (u.last < 32)
  unfolding covering_place
  last-covers t =
      let there : u.last < length u.ranges = covers-there u.ranges u.last s p t in
      (rw (t, covering_place), omega arith)

  last-not : covers (get_or u.ranges u.last no_range) s p ≡ false → covering_place u s p ≡ first_from 32 0 (λ k. covers (get_or u.ranges k no_range) s p)
  unfolding covering_place
  last-not n = rw (n, covering_place)

  -- then ascending
  pub first-covers : (r : Option ℕ) → r ≡ position (λ e. covers e s p) u.ranges → covers (get_or u.ranges u.last no_range) s p ≡ false
      → MatchOption r (covering_place u s p ≡ none) (λ k. (covering_place u s p ≡ some k) × (k < 32))
  first-covers None e n = last-not n ∙ place-missed (λ x. covers x s p) no_range u.ranges 32 len (sym e)
  first-covers (Some k) e n =
      let (lt, t, m) = position-Some (λ x. covers x s p) u.ranges k no_range (sym e) in
      (last-not n ∙ place-found (λ x. covers x s p) no_range u.ranges 32 k len (sym e), omega arith)

-- the range table
module _ (s : ℕ) (rs : List ℕ) (p : ℕ) where
  pub table-first : (j : ℕ) → j < 128 → covers (table_entry s rs j) s p ≡ true → ((k : ℕ) → 0 ≤ k → k < j → covers (table_entry s rs k) s p ≡ false) → table_entry s rs j ≡ table_range s rs p
  unfolding table_range
  table-first j h t m = rw (first-unique 128 0 (λ k. covers (table_entry s rs k) s p) j (omega arith) (omega arith) t m, table_range)

  pub table_none : (j : ℕ) → 128 ≤ j → ((k : ℕ) → 0 ≤ k → k < j → covers (table_entry s rs k) s p ≡ false) → no_range ≡ table_range s rs p
  unfolding table_range
  table_none j h m = rw (first-none 128 0 (λ k. covers (table_entry s rs k) s p) (λ k lo hi. m k lo (omega arith)), table_range)
