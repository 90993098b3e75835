-- Held frames, passed over a stretch at a time and counted.
use mathlib.Core.Path.{◌≡◌, refl, ap}
use mathlib.Core.Bool.{true, false, not}
use mathlib.Core.List.{List}
use Prim.Native.Nat.{ℕ, ◌+◌, ◌-◌, ◌≤◌}
use native.Mathlib.Omega.{arith}
use lib.Dec.{eqb}
use lib.ListN.{get_or}
use borrow.Author.Tests.{not-true}
use Rattle.words.specs.Counts.{count, one-if}
use Rattle.words.specs.Inner.{PassTo}
use Rattle.words.proofs.Cases.{by-test, true-false}
use Rattle.words.proofs.CountLaws.{count-split, none_pass, all_pass}
use Rattle.blocks.specs.FrameWords.{is_owner, owner_of, owners_of, free_of, free_in, owned_in}
use Rattle.blocks.specs.Inner.Passes.{Checked, HeldTo}
use Rattle.blocks.proofs.WordLaws.{owner-false, is_free}

-- the bits by which a scan tells held frames from free ones: of a held frame its owner, of a free one a 1

pub free_test : (b : List ℕ) (g r : ℕ) → r ≡ owner_of (get_or b g 0) → eqb r 0 ≡ free_in b g
unfolding free_in free_of owners_of
free_test b g r e = ap (λ (x : ℕ). eqb x 0) e

pub held_test : (b : List ℕ) (g r : ℕ) → r ≡ one-if (eqb (owner_of (get_or b g 0)) 0) → eqb r 0 ≡ not (free_in b g)
unfolding one-if free_in free_of owners_of
held_test b g r e = by-test (eqb (owner_of (get_or b g 0)) 0) (λ t. rw (e, t, one-if) refl) (λ f. rw (e, f, one-if) refl)

-- a stretch

module _ (b : List ℕ) (s e : ℕ) where
  pub held-pass : (r : ℕ) → PassTo (λ g. not (free_in b g)) s e r → HeldTo b s e r
  held-pass r x = record { from = x.from; to = x.to; held = λ g lo hi. not-true _ (x.pass g lo hi) }

-- the count

pub held_start : (b : List ℕ) → 0 ≡ count 0 (owned_in b)
unfolding count
held_start b = refl

count-on : (b : List ℕ) (f r : ℕ) → f ≤ r → count r (owned_in b) ≡ count f (owned_in b) + count (r - f) (λ i. owned_in b (f + i))
count-on b f r h = let sum : f + (r - f) ≡ r = omega arith in rw sum at (count-split f (r - f) (owned_in b))

held_word : (b : List ℕ) (g : ℕ) → free_in b g ≡ false → owned_in b g ≡ true
unfolding owned_in
held_word b g f = by-test (is_owner (get_or b g 0)) (λ t. t) (λ n. true-false (free_in b g) (is_free b g (owner-false _ n)) f)

pub count_held : (b : List ℕ) (s e r n : ℕ) → n ≡ count s (owned_in b) → HeldTo b s e r → n + (r - s) ≡ count r (owned_in b)
count_held b s e r n q w =
    let all : count (r - s) (λ i. owned_in b (s + i)) ≡ r - s = all_pass (r - s) _ (λ i h. held_word b (s + i) (w.held (s + i) (omega arith) (omega arith))) in
    omega (arith, count-on b s r w.from, all, q)

pub count-block : (F : ℕ) (b : List ℕ) (f r n : ℕ) → Checked F b f r → n ≡ count f (owned_in b) → n ≡ count r (owned_in b)
count-block F b f r n x q =
    let on = x.settled.on in
    let none : count (r - f) (λ i. owned_in b (f + i)) ≡ 0 = none_pass (r - f) _ (λ i h. x.free (f + i) (omega arith) (omega arith)) in
    omega (arith, count-on b f r (omega arith), none, q)
