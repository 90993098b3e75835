-- The lines so far, from turn to turn.
use mathlib.Core.Path.{◌≡◌, refl, ap, sym, subst, ◌∙◌}
use mathlib.Core.Bool.{Bool, true, false, ◌&&◌, cond}
use mathlib.Core.List.{List, [], ◌++◌, append_assoc, append-nil}
use Prim.Native.Nat.{ℕ, ◌+◌, ◌-◌, ◌≤◌, ◌<◌}
use native.Mathlib.Omega.{arith}
use lib.Dec.{ltb, leb}
use lib.ListN.{length, take, drop, length-append}
use lib.Seq.{length-take-le, take_at}
use borrow.Author.Tests.{leb-true}
use Rattle.layout.specs.Tables.{Tables, zeroed}
use Rattle.trace.specs.declared.State.{State}
use Rattle.recordcalls.specs.declared.TwoUnits.{TwoUnits}
use Rattle.records.specs.Input.{waiting, standing, next_of}
use Rattle.records.specs.Lines.{written, longest_line, header}
use Rattle.recordcalls.specs.Steps.{fresh_units}
use Rattle.trace.specs.Listing.{Came, last, Listed, full, stops}
use Rattle.trace.specs.Inner.{Turned, Lies, Ready}
use Rattle.trace.proofs.ListingLaws.{record-listed}
use Rattle.coretrace.specs.Runs.{keeps, Ran, RanWhole}

-- the bytes taken so far, and their lines, with those of the bytes that follow behind them
pub record SoFar (T₀ T : Tables) (p : TwoUnits) (number : ℕ) (lines : List ℕ) (held : ℕ) : Type 0 where
  pub input : List ℕ
  pub sent : List ℕ
  pub on : (b l : List ℕ) → Listed T p number b l → Listed T₀ fresh_units 1 (input ++ b) (sent ++ (take held lines ++ l))

begins : (T : Tables) (p : TwoUnits) (lines : List ℕ) → p ≡ fresh_units → SoFar T T p 1 lines 0
begins T p lines e = record { input = []; sent = []; on = λ b l h. subst (λ (q : TwoUnits). Listed T q 1 b l) e h }

-- a text put behind the first `held` bytes is kept with them
put-behind : (held : ℕ) (l lines : List ℕ) → held ≤ length lines → take (held + length l) (written held l lines) ≡ take held lines ++ l
unfolding written
put-behind held l lines h =
    let e : length (take held lines ++ l) ≡ held + length l = length-append (take held lines) l ∙ ap (λ (n : ℕ). n + length l) (length-take-le held lines h) in
    ap (take (held + length l)) (sym (append_assoc (take held lines) l (drop (held + length l) lines)))
    ∙ take_at (take held lines ++ l) (drop (held + length l) lines) (held + length l) e

module _ (T₀ T : Tables) (p : TwoUnits) (number : ℕ) (lines : List ℕ) (held : ℕ) (so_far : SoFar T₀ T p number lines held) where
  written-so-far : SoFar T₀ T p number lines 0
  written-so-far =
      record {
        input = so_far.input;
        sent = so_far.sent ++ take held lines;
        on = λ b l h. subst (Listed T₀ fresh_units 1 (so_far.input ++ b)) (sym (append_assoc so_far.sent (take held lines) l)) (so_far.on b l h);
      }

  -- the held lines stay or are written
  settled : (kept : Bool) (held' : ℕ) → held' ≡ cond kept held 0 → SoFar T₀ T p number lines held'
  settled true held' e = subst (SoFar T₀ T p number lines) (sym e) so_far
  settled false held' e = subst (SoFar T₀ T p number lines) (sym e) written-so-far

  filled : number ≡ last → Ran T₀ lines held
  filled e =
      let h : Listed T p number [] [] = subst (λ (n : ℕ). Listed T p n [] []) (sym e) full in
      record {
        input = so_far.input ++ [];
        sent = so_far.sent;
        listed = subst (λ (x : List ℕ). Listed T₀ fresh_units 1 (so_far.input ++ []) (so_far.sent ++ x)) (append-nil (take held lines)) (so_far.on [] [] h);
      }

-- a turn
module _ (T₀ T T' : Tables) (p p' : TwoUnits) (s s' : State) (buffer lines lines' : List ℕ) (so_far : SoFar T₀ T p s.number lines s.held) (turn : Turned T p s buffer lines T' p' s' lines') (below : s.number < last) (fits : s.held ≤ length lines) where
  now-held : take s'.held lines' ≡ take s.held lines ++ turn.shown
  now-held = ap (λ (n : ℕ). take n lines') turn.held ∙ ap (take (s.held + length turn.shown)) turn.put ∙ put-behind s.held turn.shown lines fits

  stopped-there : s'.goes ≡ false → Ran T₀ lines' s'.held
  stopped-there g =
      let b : List ℕ = waiting s.window buffer in
      let came : Came T p s.number (next_of b) turn.shown T' p' false = subst (Came T p s.number (next_of b) turn.shown T' p') g turn.came in
      record {
        input = so_far.input ++ b;
        sent = so_far.sent;
        listed = subst (λ (x : List ℕ). Listed T₀ fresh_units 1 (so_far.input ++ b) (so_far.sent ++ x)) (sym now-held) (so_far.on b turn.shown (stops below came));
      }

  went_on : s'.goes ≡ true → SoFar T₀ T' p' s'.number lines' s'.held
  went_on g =
      let b : List ℕ = waiting s.window buffer in
      let f : List ℕ = take (standing b) b in
      let came : Came T p s.number (next_of b) turn.shown T' p' true = subst (Came T p s.number (next_of b) turn.shown T' p') g turn.came in
      record {
        input = so_far.input ++ f;
        sent = so_far.sent;
        on = λ r l h.
            let k : Listed T' p' (s.number + 1) r l = subst (λ (n : ℕ). Listed T' p' n r l) turn.number h in
            let e : take s.held lines ++ (turn.shown ++ l) ≡ take s'.held lines' ++ l = sym (ap (λ (x : List ℕ). x ++ l) now-held ∙ append_assoc (take s.held lines) turn.shown l) in
            subst (λ (i : List ℕ). Listed T₀ fresh_units 1 i (so_far.sent ++ (take s'.held lines' ++ l))) (sym (append_assoc so_far.input f r))
            (subst (λ (x : List ℕ). Listed T₀ fresh_units 1 (so_far.input ++ (f ++ r)) (so_far.sent ++ x)) e
            (so_far.on (f ++ r) (turn.shown ++ l) (record-listed T T' p p' s.number b turn.shown below came r l k)));
      }

-- what holds before each turn
pub record Turning (T₀ T : Tables) (p : TwoUnits) (s : State) (buffer lines : List ℕ) : Type 0 where
  pub lies : Lies s buffer lines
  pub counted : s.number ≤ last
  pub so_far : SoFar T₀ T p s.number lines s.held

pub starts : (T : Tables) (p : TwoUnits) (buffer lines : List ℕ) → p ≡ fresh_units → Turning T T p (record { number = 1; window = record { from = 0; to = 0 }; held = 0; goes = true }) buffer lines
starts T p buffer lines e = record { lies = record { ordered = omega arith; within = omega arith; held = omega arith }; counted = omega arith; so_far = begins T p lines e }

pub runs-out : (T₀ T : Tables) (p : TwoUnits) (s : State) (buffer lines : List ℕ) → Turning T₀ T p s buffer lines → last ≤ s.number → Ran T₀ lines s.held
runs-out T₀ T p s buffer lines t h = let e = t.counted in filled T₀ T p s.number lines s.held t.so_far (omega arith)

-- a turn of the run, r being the state that is ready for it
module _ (T₀ T T' : Tables) (p p' : TwoUnits) (s r s' : State) (buffer buffer' lines lines' : List ℕ) (t : Turning T₀ T p s buffer lines) (ready : Ready r buffer' lines) (same : r.number ≡ s.number) (holds : r.held ≡ cond (keeps s buffer lines) s.held 0) (turn : Turned T p r buffer' lines T' p' s' lines') where
  until-then : SoFar T₀ T p r.number lines r.held
  until-then = subst (λ (n : ℕ). SoFar T₀ T p n lines r.held) (sym same) (settled T₀ T p s.number lines s.held t.so_far (keeps s buffer lines) r.held holds)

  pub stops-there : s'.goes ≡ false → Ran T₀ lines' s'.held
  stops-there = stopped-there T₀ T T' p p' r s' buffer' lines lines' until-then turn ready.below ready.lies.held

  pub turned : Lies s' buffer' lines → length lines' ≡ length lines → s'.goes ≡ true → Turning T₀ T' p' s' buffer' lines'
  turned lies l g =
      let h = lies.held in
      let n = turn.number in
      let b = ready.below in
      record {
        lies = record { ordered = lies.ordered; within = lies.within; held = omega arith };
        counted = omega arith;
        so_far = went_on T₀ T T' p p' r s' buffer' lines lines' until-then turn b ready.lies.held g;
      }

-- what holds before a turn holds of equal units
pub with-units : (T₀ T : Tables) (p q : TwoUnits) (s : State) (buffer lines : List ℕ) → Turning T₀ T p s buffer lines → q ≡ p → Turning T₀ T q s buffer lines
with-units T₀ T p q s buffer lines t e = subst (λ (u : TwoUnits). Turning T₀ T u s buffer lines) (sym e) t

-- a line has room where the held ones are kept, and where they are written
module _ (s : State) (buffer lines : List ℕ) (h : longest_line ≤ length lines) (k : s.held ≤ length lines) where
  fits_by : (w q : Bool) → leb longest_line (length lines - s.held) ≡ q → cond (w && q) s.held 0 + longest_line ≤ length lines
  fits_by true true e = let l : longest_line ≤ length lines - s.held = leb-true longest_line (length lines - s.held) e in omega arith
  fits_by true false e = omega arith
  fits_by false q e = omega arith

  pub has_room : cond (keeps s buffer lines) s.held 0 + longest_line ≤ length lines
  has_room = fits_by (ltb 0 (standing (waiting s.window buffer))) (leb longest_line (length lines - s.held)) refl

-- with the header before its lines
pub with-header : (lines : List ℕ) (held : ℕ) → Ran zeroed lines held → RanWhole lines held
with-header lines held r =
    record {
      input = r.input;
      sent = header ++ r.sent;
      listing = record { lines = r.sent ++ take held lines; listed = r.listed; is = append_assoc header r.sent (take held lines) };
    }
