-- Unseen removal records, one after the other.
use mathlib.Core.Path.{◌≡◌}
use mathlib.Core.Bool.{true, false}
use mathlib.Core.List.{List}
use Prim.Native.Nat.{ℕ, suc, ◌+◌, ◌-◌, ◌≤◌, ◌<◌}
use native.Mathlib.Omega.{arith}
use borrow.Author.Tests.{lt-ltb, le-ltb}
use Rattle.control.specs.Control.{removals}
use Rattle.history.specs.declared.Unit.{Unit as TlbUnit}
use Rattle.history.specs.Units.{emptied}
use Rattle.history.specs.CatchUp.{removal_at, dropped, applied, seen_all, most_unseen, too_far_behind, caught_up}

-- record m + 1 is applied, and those up to C are left
pub applied-step : (c : List ℕ) (C m : ℕ) (u : TlbUnit) → m < C → applied c (C - m) (m + 1) u ≡ applied c (C - (m + 1)) (m + 1 + 1) (dropped (removal_at c (m + 1)) u)
unfolding applied
applied-step c C m u h =
    let s : C - m ≡ suc (C - (m + 1)) = omega arith in
    let n : suc (m + 1) ≡ m + 1 + 1 = omega arith in
    rw (s, applied, n)

pub applied-end : (c : List ℕ) (C m : ℕ) (u : TlbUnit) → C ≤ m → u ≡ applied c (C - m) (m + 1) u
unfolding applied
applied-end c C m u h = let s : C - m ≡ 0 = omega arith in rw s

-- catching up with C records
module _ (c : List ℕ) (u : TlbUnit) (C : ℕ) (is : C ≡ removals c) where
  pub far-behind : 64 < C - u.seen → emptied C ≡ caught_up c u
  unfolding caught_up too_far_behind most_unseen
  far-behind h =
      let t : too_far_behind c u ≡ true = lt-ltb most_unseen (removals c - u.seen) (omega arith) in
      rw (is, t, caught_up)

  pub near-behind : (v : TlbUnit) → C - u.seen ≤ 64 → v ≡ applied c (C - u.seen) (u.seen + 1) u
      → record { pages = v.pages; ranges = v.ranges; last = v.last; next = v.next; seen = C } ≡ caught_up c u
  unfolding caught_up too_far_behind most_unseen seen_all
  near-behind v h e =
      let t : too_far_behind c u ≡ false = le-ltb most_unseen (removals c - u.seen) (omega arith) in
      rw (e, is, t, caught_up)
