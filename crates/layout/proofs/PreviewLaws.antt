-- The count of ranges is the number of longest runs of at least 8 pages, and a preview is map followed by counting: the statement, and the promise of a preview from what its code has found.
use mathlib.Core.Path.{◌≡◌, refl, ap, ap₂, ◌∙◌, sym, subst}
use mathlib.Core.Bool.{true, false}
use Prim.Native.Nat.{ℕ}
use native.Mathlib.Omega.{arith}
use borrow.Author.Tests.{eqb-true, eqb-false}
use Rattle.words.specs.declared.Outcome.{Outcome}
use Rattle.words.specs.declared.answers.Refused.{Refused}
use Rattle.words.specs.Answers.{number, outcome}
use Rattle.std.specs.Prelude.{Result, IsErr, IsErrAnd}
use Rattle.words.specs.declared.answers.Values.{Values}
use Rattle.words.specs.Rows.{refusal, values, accepted, number_of, after}
use Rattle.words.proofs.Cases.{by-test}
use Rattle.words.proofs.RowLaws.{promised-number, refused-is, accepted-is, refused-zeros, refused-leaves}
use Rattle.blocks.specs.FrameWords.{free_in}
use Rattle.blocks.specs.Choice.{frames_for, block_count}
use Rattle.runs.specs.Runs.{range_count, RangesCounted}
use Rattle.runs.specs.Walk.{range_words}
use Rattle.runs.proofs.ExactLaws.{ranges-exactly}
use Rattle.runs.proofs.RangeCountLaws.{ranges-counted, one_number}
use Rattle.control.specs.Control.{pool_size}
use Rattle.layout.specs.declared.TableCall.TheVariants.{Map, Preview}
use Rattle.layout.specs.Tables.{Tables, space_pages, space_ranges}
use Rattle.layout.specs.Plain.{plain_of}
use Rattle.layout.specs.Changes.{wish_before, taken_frames, taken_block_count, map_words, map_plain}
use Rattle.layout.specs.Calls.{range_count_in, sized_row, row, Called}
use Rattle.layout.specs.Statements.{CountIsOfRanges, MapThenCount, PreviewIsMap}
use Rattle.layout.proofs.SoundLaws.{lengths-at, pages-long, ranges-long, sound-parts}
use Rattle.layout.proofs.PlainLaws.{ranges-of}
use Rattle.layout.proofs.ChangeLaws.{words-here}
use Rattle.layout.proofs.AcceptedLaws.{call_none, call-is}
use Rattle.layout.proofs.CallLaws.{map-facts, mapped-valid, accepted-sound, call-refused, call-asked, call-done}

pub count-is-of-ranges : CountIsOfRanges
unfolding CountIsOfRanges range_count_in
count-is-of-ranges T r t s h =
    let l = lengths-at T r in
    let ws = space_pages T.pages s in
    let rs = space_ranges T.ranges s in
    let here = ranges-counted ws rs (range_count_in T s) (ranges-long T l s h) ((ranges-exactly ws rs (pages-long T l s h) (ranges-long T l s h)).0 ((sound-parts T t).spaces s h)) (omega arith) in
    (here, λ n w. one_number ws n _ w here)

module _ (s first n rights : ℕ) (T : Tables) where
  -- a preview is refused as map is
  same_number : number_of (row T (Preview s first n rights)) ≡ number_of (row T (Map s first n rights))
  unfolding number_of row after sized_row
  same_number = refl

  module _ (M T' : Tables) (a o : Outcome) (d : Called (Map s first n rights) T a M) (e : Called (Preview s first n rights) T o T') where
    map-number : number_of (row T (Preview s first n rights)) ≡ a.number
    map-number = same_number ∙ sym (promised-number _ _ _ _ d)

    same-refusal : accepted a ≡ false → o ≡ a
    same-refusal f = e.answers ∙ refused-is _ (λ z. eqb-false _ _ f (sym map-number ∙ z)) ∙ ap refusal map-number ∙ sym (refused-zeros _ _ _ _ d f)

    same-values : accepted a ≡ true → o ≡ values a.first (range_count_in M s)
    unfolding row after sized_row
    same-values t =
        let z = eqb-true _ _ t in
        let taken : a.first ≡ (row T (Map s first n rights)).first = ap (λ (x : Outcome). x.first) (d.answers ∙ accepted-is _ (sym (promised-number _ _ _ _ d) ∙ z)) in
        let afterwards : range_count_in M s ≡ range_count_in (row T (Map s first n rights)).new s = ap (λ (N : Tables). range_count_in N s) (call-is (Map s first n rights) T a M d t) in
        e.answers ∙ accepted-is _ (map-number ∙ z) ∙ ap₂ values (sym taken) (omega (arith, afterwards))

    nothing_written : T' ≡ T
    unfolding row after sized_row
    nothing_written = by-test (accepted o) (λ t. call-is (Preview s first n rights) T o T' e t) (λ f. refused-leaves _ _ _ _ e f)

    ranges-left : accepted a ≡ true → RangesCounted (space_pages M.pages s) (range_count_in M s)
    unfolding CountIsOfRanges
    ranges-left t =
        let j = accepted-sound _ _ _ _ d t in
        (count-is-of-ranges M j.lengths j.tables s (map-facts T s first n rights (call_none _ _ _ _ d t)).spans.space).0

    pub map-then-count : MapThenCount s T M T' a o
    map-then-count =
        record {
          refused = same-refusal;
          done = same-values;
          afterwards = λ t. subst (λ (x : Outcome). RangesCounted (space_pages M.pages s) x.second) (sym (same-values t)) (ranges-left t);
          same = nothing_written;
        }

  -- from the number that the judgement of map found
  pub preview-refused : (j : Result Values Refused) (r : Refused) → IsErr j × IsErrAnd j (λ e. e ≡ r) → number r ≡ number_of (row T (Map s first n rights)) → Called (Preview s first n rights) T (outcome j) T
  preview-refused j r y e = call-refused (Preview s first n rights) T j r y (e ∙ sym same_number)

  -- m blocks and k ranges were found
  pub preview-done : 0 ≡ number_of (row T (Map s first n rights)) → (m k : ℕ) → m ≡ block_count (pool_size T.control) (free_in T.frames) (wish_before (space_pages T.pages s) first) n
      → k ≡ range_count (range_words (map_words (space_pages T.pages s) first n rights (frames_for (pool_size T.control) (free_in T.frames) (wish_before (space_pages T.pages s) first) n)))
      → Called (Preview s first n rights) T (values m k) T
  unfolding row after sized_row range_count_in taken_block_count taken_frames plain_of free_in map_plain
  preview-done e m k me ke =
      let q = map-facts T s first n rights (call-asked (Map s first n rights) T e) in
      let left = ranges-of (map_plain (plain_of T) s first n rights) (mapped-valid T s first n rights q) s q.spans.space ∙ ap range_words (words-here _ s _) in
      rw (me, ke, ← left) (call-done (Preview s first n rights) T (e ∙ sym same_number) T refl)

pub preview-is-map : PreviewIsMap
unfolding PreviewIsMap
preview-is-map = map-then-count
