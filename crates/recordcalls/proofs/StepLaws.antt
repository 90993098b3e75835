-- What a record does, from the parts of the step.
use mathlib.Core.Path.{◌≡◌, refl, ap, sym, subst, ◌∙◌}
use mathlib.Core.Bool.{Bool, true, false, ◌&&◌}
use Prim.Native.Nat.{ℕ}
use lib.Dec.{eqb}
use Rattle.std.specs.Prelude.{Ok}
use Rattle.words.proofs.Cases.{by-test, true-false}
use Rattle.words.specs.declared.Outcome.{Outcome}
use Rattle.words.specs.Rows.{refusal, accepted}
use Rattle.layout.specs.Tables.{Tables}
use Rattle.history.specs.declared.Unit.{Unit as TlbUnit}
use Rattle.history.specs.declared.Call.{Call}
use Rattle.history.specs.declared.Call.TheVariants.{OnTables, OnUnit}
use Rattle.history.specs.Units.{fresh_unit}
use Rattle.history.specs.Lists.{Does, takes_unit}
use Rattle.history.proofs.Published.{called-does, does-called}
use Rattle.records.specs.Records.{Meaning, malformed}
use Rattle.records.specs.declared.Request.{Request}
use Rattle.recordcalls.specs.declared.TwoUnits.{TwoUnits}
use Rattle.recordcalls.specs.declared.Shown.{Shown}
use Rattle.recordcalls.specs.Steps.{fresh_units, unit_at, with_unit_at, renewed, RecordTaken, skipped, made, needs_unit, TakenBeside}

pub both-fresh : (u : TlbUnit) → u ≡ fresh_unit → record { first = u; second = u } ≡ fresh_units
unfolding fresh_units
both-fresh u e = ap (λ (x : TlbUnit). record { first = x; second = x }) e

-- a refused record renews nothing
not-renewed : (k : ℕ) (o : Outcome) → o ≡ refusal 16 → (p : TwoUnits) → renewed k o p ≡ p
not-renewed k o f p = by-test (eqb k 1) (λ t. rw (f, t)) (λ n. rw (f, n))

-- a malformed record
module _ (T : Tables) (m : Meaning) (k : ℕ) (e : m ≡ malformed k) (o : Outcome) (f : o ≡ refusal 16) where
  pub skips : (p : TwoUnits) → RecordTaken T p m (record { kind = k; outcome = o }) T p
  skips p =
      subst (λ (x : Meaning). RecordTaken T p x (record { kind = k; outcome = o }) T p) (sym e)
      (subst (λ (x : Outcome). RecordTaken T p (malformed k) (record { kind = k; outcome = x }) T p) (sym f) skipped)

  pub skips-beside : TakenBeside T m (record { kind = k; outcome = o }) T
  skips-beside = record { taken = λ p. subst (λ (x : TwoUnits). RecordTaken T p m (record { kind = k; outcome = o }) T x) (sym (not-renewed k o f p)) (skips p) }

-- a call on the tables does the same beside every unit
any-unit : (T T' : Tables) (v u : TlbUnit) (o : Outcome) (c : Call) → takes_unit c ≡ false → Does true T v o c T' u → (w : TlbUnit) → Does true T w o c T' w
unfolding takes_unit
any-unit T T' v u o (OnTables d) f does w = called-does T w o d T' (does-called T v o d T' u does).0
any-unit T T' v u o (OnUnit d) f does w = absurd (true-false true refl f)

same_units : (p : TwoUnits) (n : ℕ) → with_unit_at p n (unit_at p n) ≡ p
same_units p n = by-test (eqb n 0) (λ t. rw t) (λ f. rw f)

same-unit : (T T' : Tables) (v u : TlbUnit) (o : Outcome) (c : Call) → takes_unit c ≡ false → Does true T v o c T' u → u ≡ v
unfolding takes_unit
same-unit T T' v u o (OnTables d) f does = (does-called T v o d T' u does).1
same-unit T T' v u o (OnUnit d) f does = absurd (true-false true refl f)

-- a record that needs no unit leaves the lent ones as they were, or fresh
pub left-beside : {T T' : Tables} {p p' : TwoUnits} {m : Meaning} {r : Shown} → RecordTaken T p m r T' p' → needs_unit m ≡ false → p' ≡ renewed r.kind r.outcome p
left-beside {T} {T'} {p} (skipped {k}) f = sym (not-renewed k (refusal 16) refl p)
left-beside {T} {T'} {p} (made {k} {n} {c} {o} {u} does) f = rw (same-unit T T' (unit_at p n) u o c f does) (ap (renewed k o) (same_units p n))

-- a call on unit n of p, which is u afterwards
module _ (T T' : Tables) (m : Meaning) (r : Request) (e : m ≡ Ok r) (p : TwoUnits) (u : TlbUnit) (a o : Outcome) (is : o ≡ a) (does : Does true T (unit_at p r.unit) a r.call T' u) where
  asks-so : (p q : TwoUnits) → RecordTaken T p (Ok r) (record { kind = r.kind; outcome = a }) T' q → RecordTaken T p m (record { kind = r.kind; outcome = o }) T' q
  asks-so p q t =
      subst (λ (x : Meaning). RecordTaken T p x (record { kind = r.kind; outcome = o }) T' q) (sym e)
      (subst (λ (x : Outcome). RecordTaken T p (Ok r) (record { kind = r.kind; outcome = x }) T' q) (sym is) t)

  pub makes : (q s : TwoUnits) → q ≡ with_unit_at p r.unit u → s ≡ renewed r.kind a q → RecordTaken T p m (record { kind = r.kind; outcome = o }) T' s
  makes q s there left = asks-so p s (subst (λ (x : TwoUnits). RecordTaken T p (Ok r) (record { kind = r.kind; outcome = a }) T' x) (sym (left ∙ ap (renewed r.kind a) there)) (made does))

  pub makes-beside : needs_unit m ≡ false → TakenBeside T m (record { kind = r.kind; outcome = o }) T'
  makes-beside f =
      record {
        taken = λ x.
            subst (λ (y : Outcome). RecordTaken T x m (record { kind = r.kind; outcome = o }) T' (renewed r.kind y x)) (sym is)
            (asks-so x _ (subst (λ (y : TwoUnits). RecordTaken T x (Ok r) (record { kind = r.kind; outcome = a }) T' (renewed r.kind a y)) (same_units x r.unit)
            (made (any-unit T T' _ u a r.call (sym (ap needs_unit e) ∙ f) does (unit_at x r.unit)))));
      }

-- the units after it, by whether they are renewed
module _ (k : ℕ) (a : Outcome) (q s : TwoUnits) (r : Bool) (is : r ≡ (eqb k 1 && accepted a)) where
  pub renew : r ≡ true → s ≡ fresh_units → s ≡ renewed k a q
  renew t e = e ∙ rw (← is, t)

  pub stay : r ≡ false → s ≡ q → s ≡ renewed k a q
  stay f e = e ∙ rw (← is, f)
