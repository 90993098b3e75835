-- What an accepted call says by its row alone: no refusal applied, it leaves the new tables, and unmap, protect and close have appended their removal record, for a unit that sleeps to find.
use mathlib.Core.Path.{◌≡◌, refl, ap, ◌∙◌, sym}
use mathlib.Core.Bool.{true}
use mathlib.Core.List.{List}
use Prim.Native.Nat.{ℕ, ◌+◌}
use native.Mathlib.Omega.{arith}
use lib.Dec.{eqb}
use lib.ListN.{length}
use borrow.Author.Tests.{eqb-true, not-false}
use Rattle.runs.specs.PageWords.{pages_in_space}
use Rattle.words.specs.declared.Outcome.{Outcome}
use Rattle.words.specs.Refusals.{numbers, NoneApplies, next}
use Rattle.words.specs.Rows.{accepted, after, refusal_order, among, in_order}
use Rattle.words.proofs.Cases.{and-true}
use Rattle.words.proofs.RowLaws.{accepted-leaves, accepted-none}
use Rattle.control.specs.Control.{control_buffer_words, removals, record_place, with_closed, appended}
use Rattle.control.proofs.ControlLaws.{SamePlace, mask-length, mask-removals, mask-places, appended-removals, appended-space, appended-first, appended-count, appended-places}
use Rattle.layout.specs.declared.TableCall.{TableCall}
use Rattle.layout.specs.declared.TableCall.TheVariants.{SetUpPool, Open, Close, Map, Unmap, Protect, Coverage, Preview}
use Rattle.layout.specs.Tables.{Tables, right_lengths}
use Rattle.layout.specs.Plain.{plain_of, tables_of}
use Rattle.layout.specs.Changes.{close_plain, unmap_plain, protect_plain}
use Rattle.layout.specs.Calls.{sized_row, row, Called}
use Rattle.layout.specs.Statements.{Recorded, Appends, RemovalsRecorded}
use Rattle.layout.specs.Statements

-- the numbers of each row, in order
pub in_order_lem : (c : TableCall) (T : Tables) → in_order (row T c).refusals ≡ true
unfolding row after sized_row numbers in_order refusal_order among
in_order_lem (SetUpPool F) T = refl
in_order_lem (Open s) T = refl
in_order_lem (Close s) T = refl
in_order_lem (Map s first n rights) T = refl
in_order_lem (Unmap s first n) T = refl
in_order_lem (Protect s first n rights) T = refl
in_order_lem (Coverage s) T = refl
in_order_lem (Preview s first n rights) T = refl

module _ (c : TableCall) (T : Tables) (o : Outcome) (T' : Tables) (d : Called c T o T') where
  pub call_none : accepted o ≡ true → NoneApplies (row T c).refusals
  call_none t = accepted-none (row T c) T o T' d (in_order_lem c T) t

  pub call-is : accepted o ≡ true → T' ≡ (row T c).new
  call-is t = accepted-leaves (row T c) T o T' d t

-- an accepted call was lent a control buffer of its length
lent-long : (c : TableCall) (T : Tables) → NoneApplies (row T c).refusals → length T.control ≡ control_buffer_words
unfolding row after right_lengths
lent-long c T (next a more) = eqb-true _ _ (and-true (eqb (length T.control) control_buffer_words) _ (not-false _ a)).0

-- the record is counted
counted : (c : TableCall) (s first n : ℕ) → Appends c s first n → (T : Tables) → length T.control ≡ control_buffer_words → removals (row T c).new.control ≡ removals T.control + 1
unfolding row after sized_row tables_of plain_of close_plain unmap_plain protect_plain with_closed
counted c s first n Statements.close T long = simp (appended-removals, mask-removals, mask-length, long)
counted c s first n Statements.unmap T long = omega (arith, appended-removals T.control s first n long)
counted c s first n Statements.protect T long = omega (arith, appended-removals T.control s first n long)

-- and stands in its place, behind control words d that have the log of c
recorded : (c d : List ℕ) → length d ≡ control_buffer_words → ((j : ℕ) → SamePlace c d j) → (s first n : ℕ) → removals (appended d s first n) ≡ removals c + 1 → Recorded c (appended d s first n) s first n
recorded c d long stay s first n more =
    let k : removals (appended d s first n) ≡ removals d + 1 = appended-removals d s first n long in
    record {
      counted = more;
      space = rw k (appended-space d s first n long);
      first-page = rw k (appended-first d s first n long);
      page-count = rw k (appended-count d s first n long);
      others = λ j ne.
          let q = appended-places d s first n j (λ e. ne (e ∙ ap record_place (sym k))) in
          (q.space ∙ (stay j).space, q.first ∙ (stay j).first, q.count ∙ (stay j).count);
    }

log-stays : (c : List ℕ) (j : ℕ) → SamePlace c c j
log-stays c j = record { space = refl; first = refl; count = refl }

new-recorded : (c : TableCall) (s first n : ℕ) → Appends c s first n → (T : Tables) → length T.control ≡ control_buffer_words → Recorded T.control (row T c).new.control s first n
unfolding row after sized_row tables_of plain_of close_plain unmap_plain protect_plain with_closed
new-recorded c s first n Statements.close T long = recorded T.control (with_closed T.control s) (mask-length _ _ ∙ long) (mask-places _ _) s 0 pages_in_space (counted c s first n Statements.close T long)
new-recorded c s first n Statements.unmap T long = recorded T.control T.control long (log-stays T.control) s first n (counted c s first n Statements.unmap T long)
new-recorded c s first n Statements.protect T long = recorded T.control T.control long (log-stays T.control) s first n (counted c s first n Statements.protect T long)

pub removals-recorded : RemovalsRecorded
unfolding RemovalsRecorded
removals-recorded c s first n w T o T' d t = rw (call-is c T o T' d t) (new-recorded c s first n w T (lent-long c T (call_none c T o T' d t)))
