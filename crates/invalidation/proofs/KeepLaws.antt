-- Entries that are kept or dropped one after the other.
use mathlib.Core.Path.{◌≡◌, refl, ap, ◌∙◌, sym}
use mathlib.Core.Bool.{Bool, true, false}
use mathlib.Core.List.{List, [], ◌∷◌}
use Prim.Native.Nat.{ℕ, suc, ◌+◌, ◌≤◌, ◌<◌}
use native.Mathlib.Nat.{zero-add}
use native.Mathlib.Decide.{dec_lt, ℕ_discrete}
use native.Mathlib.Omega.{arith}
use lib.Dec.{ltb}
use lib.ListN.{length, get_or, set, length-set}
use Rattle.std.specs.List.{list_all, enumerate_from}
use Rattle.words.specs.Searches.{every}
use lib.Seq.{get_or-set_same, get_or-set_other}
use borrow.Author.Tests.{lt-ltb, le-ltb}
use Rattle.words.specs.Tables.{imap}
use Rattle.words.proofs.Cases.{by-dec, by-test}
use Rattle.words.proofs.TableLaws.{beyond, length-imap, get_or-imap, is-imap}
use Rattle.history.specs.declared.RangeEntry.{RangeEntry}
use Rattle.history.specs.declared.Removal.{Removal}
use Rattle.history.specs.Units.{no_range}
use Rattle.history.specs.CatchUp.{overlaps, keep_last}
use Rattle.invalidation.specs.Entries.{kept}

-- f of the entry at place k, where that is one of the first n places
unfoldable pub changed_below : {A : Type 0} → (A → A) → ℕ → ℕ → A → A
changed_below f n k e = elim (ltb k n) [ true ↦ f e | false ↦ e ]

-- a list of which the first n entries are changed
unfoldable pub changed_to : {A : Type 0} → (A → A) → ℕ → List A → List A
changed_to f n l = imap (changed_below f n) 0 l

module _ {A : Type 0} (f : A → A) (n k : ℕ) (e : A) where
  changed-below : k < n → changed_below f n k e ≡ f e
  unfolding changed_below
  changed-below h = rw (lt-ltb k n h, changed_below)

  changed-beyond : n ≤ k → changed_below f n k e ≡ e
  unfolding changed_below
  changed-beyond h = rw (le-ltb k n h, changed_below)

module _ {A : Type 0} (f : A → A) (l : List A) (d : A) where
  pub none-changed : l ≡ changed_to f 0 l
  unfolding changed_to
  none-changed = is-imap (changed_below f 0) l l d d refl (λ k h. sym (changed-beyond f 0 k _ (omega arith)))

  length-changed : (n : ℕ) → length (changed_to f n l) ≡ length l
  unfolding changed_to
  length-changed n = length-imap (changed_below f n) 0 l

  changed-at : (n k : ℕ) → k < length l → get_or (changed_to f n l) k d ≡ changed_below f n k (get_or l k d)
  unfolding changed_to
  changed-at n k h = get_or-imap (changed_below f n) 0 l k d d h ∙ ap (λ (x : ℕ). changed_below f n x (get_or l k d)) (zero-add k)

  -- one entry more
  one-changed : (n : ℕ) → n < length l → set (changed_to f n l) n (f (get_or l n d)) ≡ changed_to f (n + 1) l
  unfolding changed_to
  one-changed n h =
      let len : length (changed_to f n l) ≡ length l = length-changed n in
      is-imap (changed_below f (n + 1)) l (set (changed_to f n l) n (f (get_or l n d))) d d (length-set (changed_to f n l) n (f (get_or l n d)) ∙ len) (λ k hk.
      by-dec (ℕ_discrete k n)
      (λ e. rw e (get_or-set_same (changed_to f n l) n (f (get_or l n d)) d (omega arith) ∙ sym (changed-below f (n + 1) n _ (omega arith))))
      (λ ne. get_or-set_other (changed_to f n l) n k (f (get_or l n d)) d ne ∙ changed-at n k hk
      ∙ by-dec (dec_lt k n)
      (λ lt. changed-below f n k _ lt ∙ sym (changed-below f (n + 1) k _ (omega arith)))
      (λ ge. changed-beyond f n k _ (omega arith) ∙ sym (changed-beyond f (n + 1) k _ (omega arith)))))

  pub all_changed : (n : ℕ) → length l ≤ n → changed_to f n l ≡ imap (λ k e. f e) 0 l
  all_changed n h =
      is-imap (λ k e. f e) l (changed_to f n l) d d (length-changed n) (λ k hk. changed-at n k hk ∙ changed-below f n k _ (omega arith))

-- the entry at place n, which is emptied where it passes
module _ {A : Type 0} (p : A → Bool) (z : A) (l now : List A) (n : ℕ) (x : A) (sofar : now ≡ changed_to (kept p z) n l) (here : n < length l) where
  same-there : get_or now n x ≡ get_or l n x
  same-there = rw sofar (changed-at (kept p z) l x n n here ∙ changed-beyond (kept p z) n n (get_or l n x) (omega arith))

  step : (y : A) → kept p z (get_or l n x) ≡ y → set now n y ≡ changed_to (kept p z) (n + 1) l
  step y is = rw (sofar, sym is) (one-changed (kept p z) l x n here)

  pub one-emptied : p (get_or now n x) ≡ true → set now n z ≡ changed_to (kept p z) (n + 1) l
  one-emptied t = let t = rw same-there at t in step z (rw (t, kept) refl)

  pub one-kept : p (get_or now n x) ≡ false → set now n (get_or now n x) ≡ changed_to (kept p z) (n + 1) l
  one-kept t =
      let t = rw same-there at t in
      rw same-there (step (get_or l n x) (rw (t, kept) refl))

-- the library's `all` over entries with their places
pub all-every : {A : Type 0} (f : ℕ → A → Bool) (n : ℕ) (l : List A) → list_all (λ x. f x.0 x.1) (enumerate_from n l) ≡ every f n l
unfolding every
all-every f n [] = refl
all-every f n (x ∷ xs) =
    let next : n + 1 ≡ suc n = omega arith in
    by-test (f n x) (λ t. rw (t, every, next) (all-every f (suc n) xs)) (λ t. rw (t, every) refl)

-- no entry overlaps a record where none stands
no-range-overlaps : (d : Removal) → overlaps d no_range ≡ false
unfolding overlaps no_range
no-range-overlaps d = refl

-- last used, after one record
module _ (d : Removal) (rs : List RangeEntry) (k : ℕ) where
  pub last-beyond : length rs ≤ k → k ≡ keep_last d rs k
  unfolding keep_last
  last-beyond h =
      let none : overlaps d (get_or rs k no_range) ≡ false = rw (beyond rs k no_range (λ lt. omega arith)) (no-range-overlaps d) in
      rw (none, keep_last)

  pub last-kept : overlaps d (get_or rs k no_range) ≡ false → k ≡ keep_last d rs k
  unfolding keep_last
  last-kept t = rw (t, keep_last)
