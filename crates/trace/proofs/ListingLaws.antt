-- A turn from its parts, and the listing from its turns.
use mathlib.Core.Path.{◌≡◌, refl, ap, sym, subst, ◌∙◌}
use mathlib.Core.Bool.{Bool, true, false}
use mathlib.Core.List.{List, [], ◌++◌}
use Prim.Native.Nat.{ℕ, ◌+◌, ◌≤◌, ◌<◌}
use native.Mathlib.Nat.{add-zero}
use native.Mathlib.Omega.{arith}
use lib.ListN.{length, take, drop, length-append, take-append-drop}
use lib.Seq.{length-take-le, take_at, drop_at}
use Rattle.std.specs.Prelude.{Some, None}
use Rattle.words.proofs.Cases.{true-false}
use Rattle.layout.specs.Tables.{Tables}
use Rattle.records.specs.Records.{Meaning}
use Rattle.records.specs.declared.Next.{Next}
use Rattle.records.specs.declared.Next.TheVariants.{End, Cut, Whole}
use Rattle.trace.specs.declared.State.{State}
use Rattle.trace.specs.declared.Turn.{Turn}
use Rattle.recordcalls.specs.declared.TwoUnits.{TwoUnits}
use Rattle.recordcalls.specs.declared.Shown.{Shown}
use Rattle.recordcalls.specs.Steps.{RecordTaken}
use Rattle.records.specs.Input.{waiting, standing, next_of, behind}
use Rattle.records.specs.Lines.{written, line}
use Rattle.records.proofs.InputLaws.{within, waits-behind, whole-stands, same-standing, same_next}
use Rattle.trace.specs.Listing.{Came, ended, cut, taken, last, Listed, goes_on}
use Rattle.trace.specs.Inner.{Turned, Ready, cut_short, stopped, line_of}

-- what comes next, by its case
module _ (T : Tables) (p : TwoUnits) (next : Next) where
  pub came-end : (t : Turn) → next ≡ End → t ≡ stopped None → (number : ℕ) → Came T p number next (line_of number t.shown) T p t.goes
  came-end t e f number = rw (e, f) ended

  pub came-cut : (t : Turn) → next ≡ Cut → (s : Shown) → s ≡ cut_short → t ≡ stopped (Some s) → (number : ℕ) → Came T p number next (line_of number t.shown) T p t.goes
  came-cut t e s is f number = rw (e, f, is) cut

  pub came-taken : (m : Meaning) (s : Shown) (T' : Tables) (p' : TwoUnits) → next ≡ Whole m → RecordTaken T p m s T' p' → (number : ℕ) → Came T p number next (line number s.kind s.outcome) T' p' true
  came-taken m s T' p' e h number = rw e (taken h)

-- nothing written over a list
pub nothing_written : (at : ℕ) (out : List ℕ) → out ≡ written at [] out
unfolding written
nothing_written at out = sym (rw (add-zero at, take-append-drop at out))

-- a turn on the bytes that wait
module _ (T T' : Tables) (p p' : TwoUnits) (next : Next) (s s' : State) (t : Turn) (buffer lines lines' : List ℕ) where
  pub stepped : Ready s buffer lines → next ≡ next_of (waiting s.window buffer) → ((number : ℕ) → Came T p number next (line_of number t.shown) T' p' t.goes) → lines' ≡ written s.held (line_of s.number t.shown) lines → s' ≡ record { number = s.number + 1; window = behind s.window buffer; held = s.held + length (line_of s.number t.shown); goes = t.goes } → Turned T p s buffer lines T' p' s' lines'
  stepped ready e came put is =
      record {
        shown = line_of s.number t.shown;
        came = rw (← e, ap (λ (x : State). x.goes) is) (came s.number);
        put = put;
        held = ap (λ (x : State). x.held) is;
        number = ap (λ (x : State). x.number) is;
        window = ap (λ (x : State). x.window) is;
        rest = ap (λ (x : State). waiting x.window buffer) is ∙ waits-behind s.window buffer ready.lies.ordered ready.lies.within;
      }

-- what goes on is a whole record
goes-whole : {T T' : Tables} {p p' : TwoUnits} {number : ℕ} {next : Next} {l : List ℕ} {g : Bool} → Came T p number next l T' p' g → g ≡ true → (b : List ℕ) → next ≡ next_of b → standing b ≡ 0 → ⊥
goes-whole ended g b e z = true-false false g refl
goes-whole cut g b e z = true-false false g refl
goes-whole (taken {m} h) g b e z = whole-stands b m (sym e) z

-- a record, and what comes behind it
module _ (T T' : Tables) (p p' : TwoUnits) (number : ℕ) (b l : List ℕ) (below : number < last) (came : Came T p number (next_of b) l T' p' true) (r l' : List ℕ) where
  front : length (take (standing b) b) ≡ standing b
  front = length-take-le (standing b) b (within b)

  holds-front : standing b ≤ length (take (standing b) b ++ r)
  holds-front = rw (length-append (take (standing b) b) r, front) (omega arith)

  same_start : take (standing b) (take (standing b) b ++ r) ≡ take (standing b) b
  same_start = take_at (take (standing b) b) r (standing b) front

  pub record-listed : Listed T' p' (number + 1) r l' → Listed T p number (take (standing b) b ++ r) (l ++ l')
  record-listed h =
      let w : standing b ≡ 0 → ⊥ = goes-whole came refl b refl in
      let x : List ℕ = take (standing b) b ++ r in
      let e : r ≡ drop (standing x) x = sym (ap (λ (k : ℕ). drop k x) (same-standing b x w same_start holds-front) ∙ drop_at (take (standing b) b) r (standing b) front) in
      goes_on below
      (subst (λ (n : Next). Came T p number n l T' p' true) (sym (same_next b x w same_start holds-front)) came)
      (subst (λ (y : List ℕ). Listed T' p' (number + 1) y l') e h)
