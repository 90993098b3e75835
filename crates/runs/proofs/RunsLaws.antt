-- The walk finds what Runs says: each entry is a longest run of at least 8 pages, each such run has its entry, the entries ascend, the range bit marks their pages,
-- and what it carries is the running length.
use mathlib.Core.Path.{◌≡◌, refl, ap, ◌∙◌, sym}
use mathlib.Core.Bool.{Bool, true, false}
use mathlib.Core.List.{List, [], ◌∷◌, ◌++◌, append-nil}
use Prim.Native.Nat.{ℕ, zero, suc, ◌+◌, ◌-◌, ◌<◌, ◌≤◌}
use native.Mathlib.Nat.{add-zero}
use native.Mathlib.Numerals.{add-one}
use native.Mathlib.Decide.{dec_lt, dec_le, ℕ_discrete}
use native.Mathlib.Omega.{arith}
use lib.ListN.{length, get_or, drop}
use borrow.Author.Tests.{le-leb, lt-leb}
use Rattle.words.specs.Counts.{one-if}
use Rattle.words.specs.Wrapping.{wrap_sub}
use Rattle.words.proofs.Cases.{by-test, by-dec, true-false}
use Rattle.words.proofs.CountLaws.{one-if-le}
use Rattle.runs.specs.PageWords.{mapped, frame_in, rights_in}
use Rattle.runs.specs.Runs.{Run, Longest, InRange, Gives, Table, nothing, entry, Has, here, later}
use Rattle.runs.specs.Running.{RunningLength, in-run, in-none}
use Rattle.runs.specs.Walk.{joins, goes_on, run_after, bit_word, with_bits, ended, entry_of, entries_from, entries}
use Rattle.runs.proofs.OffsetLaws.{offset-back, sub-lt}
use Rattle.runs.proofs.WordLaws.{frame-lt, joins_at, join, goes-join, goes-new}
use Rattle.runs.proofs.WalkLaws.{word_before, run_before, before-suc, goes_on_lem, before-le, back, whole, whole-step, whole-end, whole-last, whole_back, bit_at, with_bits_at, entries-suc, entries-end, ended-short, ended-long, ended-on, last-mapped, last_none, before-word}

module _ (ws : List ℕ) where
  abbrev word : ℕ → ℕ
  word p = get_or ws p 0

  -- pages of a run join
  run-joins : (x y p : ℕ) → Run ws x y → x ≤ p → suc p < y → joins (word p) (word (suc p)) ≡ true
  run-joins x y p r lo hi =
      join (word p) (word (suc p)) (record {
        this = r.maps p lo (omega arith);
        next = r.maps (suc p) (omega arith) hi;
        frame = omega (arith, r.frames p lo (omega arith), r.frames (suc p) (omega arith) hi);
        rights = r.rights (suc p) (omega arith) hi ∙ sym (r.rights p lo (omega arith));
      })

  record Along (x p : ℕ) : Type 0 where
    maps : mapped (word p) ≡ true
    frame : frame_in (word p) ≡ frame_in (word x) + (p - x)
    rights : rights_in (word p) ≡ rights_in (word x)

  module _ (x y : ℕ) (lt : x < y) (fits : y ≤ length ws) (first : mapped (word x) ≡ true) (js : (p : ℕ) → x ≤ p → suc p < y → joins (word p) (word (suc p)) ≡ true) where
    page : (d p : ℕ) → p ≡ x + d → p < y → Along x p
    page zero p e hi = let s : p ≡ x = omega arith in rw s (record { maps = first; frame = omega arith; rights = refl })
    page (suc d) p e hi =
        let r = page d (x + d) refl (omega arith) in
        let s : p ≡ suc (x + d) = omega arith in
        let t = js (x + d) (omega arith) (omega arith) in
        rw s (record {
          maps = (joins_at _ _ t).next;
          frame = omega (arith, (joins_at _ _ t).frame, r.frame);
          rights = (joins_at _ _ t).rights ∙ r.rights;
        })

    joins-run : Run ws x y
    joins-run = record {
      some = lt;
      fits = fits;
      maps = λ p lo hi. (page (p - x) p (omega arith) hi).maps;
      frames = λ p lo hi. (page (p - x) p (omega arith) hi).frame;
      rights = λ p lo hi. (page (p - x) p (omega arith) hi).rights;
    }

  -- a run that neither neighbour extends is a longest one
  pub longest-by : (x y : ℕ) → Run ws x y → (0 < x → joins (word (x - 1)) (word x) ≡ false) → (y < length ws → joins (word (y - 1)) (word y) ≡ false) → Longest ws x y
  longest-by x y r before after = record {
    run = r;
    alone = λ a b la lb q.
        let some = r.some in (
          by-dec (ℕ_discrete a x) (λ e. e) (λ ne.
              let k : suc (x - 1) ≡ x = omega arith in
              let t = run-joins a b (x - 1) q (omega arith) (omega arith) in
              true-false (joins (word (x - 1)) (word x)) (rw k at t) (before (omega arith))),
          by-dec (ℕ_discrete b y) (λ e. e) (λ ne.
              let k : suc (y - 1) ≡ y = omega arith in
              let t = run-joins a b (y - 1) q (omega arith) (omega arith) in
              let f = q.fits in
              true-false (joins (word (y - 1)) (word y)) (rw k at t) (after (omega arith))),
        );
  }

  -- and neither neighbour extends a longest run
  pub longest-start : (x y : ℕ) → Longest ws x y → 0 < x → joins (word (x - 1)) (word x) ≡ false
  longest-start x y l h =
      by-test (joins (word (x - 1)) (word x))
      (λ t.
      let some = l.run.some in
      let k : suc (x - 1) ≡ x = omega arith in
      let r = joins-run (x - 1) y (omega arith) l.run.fits (joins_at _ _ t).this (λ p lo hi.
      by-dec (ℕ_discrete p (x - 1)) (λ e. rw (e, k) t) (λ ne. run-joins x y p l.run (omega arith) hi))
      in
      let e = (l.alone (x - 1) y (omega arith) (omega arith) r).0 in
      absurd (omega arith))
      (λ t. t)

  pub longest-end : (x y : ℕ) → Longest ws x y → y < length ws → joins (word (y - 1)) (word y) ≡ false
  longest-end x y l h =
      by-test (joins (word (y - 1)) (word y))
      (λ t.
      let some = l.run.some in
      let k : suc (y - 1) ≡ y = omega arith in
      let r = joins-run x (suc y) (omega arith) (omega arith) (l.run.maps x (omega arith) some) (λ p lo hi.
      by-dec (ℕ_discrete p (y - 1)) (λ e. rw (e, k) t) (λ ne. run-joins x y p l.run lo (omega arith)))
      in
      let e = (l.alone x (suc y) (omega arith) (omega arith) r).1 in
      absurd (omega arith))
      (λ t. t)

  last-is : (i : ℕ) → word_before ws (suc i) ≡ word i
  unfolding word_before
  last-is i = refl

  -- In a longest run the running length counts its pages
  count-up : (x y d : ℕ) → Longest ws x y → x + d < y → run_before ws (suc (x + d)) ≡ suc d
  unfolding one-if
  count-up x y zero l h =
      let e : x + 0 ≡ x = add-zero x in
      let m = l.run.maps x (omega arith) (omega arith) in
      let no : joins (word_before ws x) (word x) ≡ false =
      by-dec (dec_le 1 x) (λ pos. rw (before-word ws x pos) (longest-start x y l pos))
      (λ z. by-test (joins (word_before ws x) (word x))
      (λ t. true-false _ (joins_at _ _ t).this (last_none ws x (omega (arith, before-le ws x))))
      (λ t. t))
      in
      let g : goes_on (run_before ws x) (word_before ws x) (word x) ≡ 1 = goes-new _ _ _ no ∙ rw m in
      rw e (before-suc ws x ∙ g)
  count-up x y (suc d) l h =
      let e : x + suc d ≡ suc (x + d) = omega arith in
      let t = run-joins x y (x + d) l.run (omega arith) (omega arith) in
      let g = goes-join (run_before ws (suc (x + d))) (word_before ws (suc (x + d))) (word (suc (x + d))) (rw (last-is (x + d)) t) in
      rw e (before-suc ws (suc (x + d)) ∙ g ∙ rw (count-up x y d l (omega arith)) (add-one (suc d)))

  longest-before : (x y : ℕ) → Longest ws x y → run_before ws y ≡ y - x
  longest-before x y l =
      let some = l.run.some in
      let e : suc (x + (y - x - 1)) ≡ y = omega arith in
      let c = count-up x y (y - x - 1) l (omega arith) in
      let k : suc (y - x - 1) ≡ y - x = omega arith in
      (rw e at c) ∙ k

  longest-stops : (x y : ℕ) → Longest ws x y → y < length ws → joins (word_before ws y) (word y) ≡ false
  longest-stops x y l h = let some = l.run.some in rw (before-word ws y (omega arith)) (longest-end x y l h)

  -- The running length stands for a run that the page before does not go on
  record Behind (i : ℕ) : Type 0 where
    run : Run ws (i - run_before ws i) i
    start : 0 < i - run_before ws i → joins (word (i - run_before ws i - 1)) (word (i - run_before ws i)) ≡ false

  behind : (i : ℕ) → i ≤ length ws → 1 ≤ run_before ws i → Behind i
  behind i fits pos =
      let n : ℕ = run_before ws i in
      let le = before-le ws i in
      let x : ℕ = i - run_before ws i in
      let first : run_before ws (suc x) ≡ 1 = down (suc x) (omega arith) (omega arith) ∙ omega arith in
      let m : mapped (word x) ≡ true = ap mapped (sym (last-is x)) ∙ last-mapped ws (suc x) (omega arith) in
      record {
        run = joins-run x i (omega arith) fits m (λ p lo hi.
            let two : run_before ws (suc (suc p)) ≡ run_before ws i - (i - suc (suc p)) = down (suc (suc p)) (omega arith) (omega arith) in
            let t = goes_on_lem (run_before ws (suc p)) (word_before ws (suc p)) (word (suc p)) (omega (arith, before-suc ws (suc p))) in
            rw (last-is p) at t);
        start = λ h.
            by-test (joins (word (x - 1)) (word x))
            (λ t.
            let w = before-word ws x h in
            let t' : joins (word_before ws x) (word x) ≡ true = rw w t in
            let g = goes-join (run_before ws x) (word_before ws x) (word x) t' in
            let z : run_before ws x ≡ 0 = omega (arith, before-suc ws x) in
            true-false _ (joins_at _ _ t').this (last_none ws x z))
            (λ t. t);
      }
    where
      down : (j : ℕ) → j ≤ i → i < j + run_before ws i → run_before ws j ≡ run_before ws i - (i - j)
      down j hi lo =
          let e : (i - j) + j ≡ i = omega arith in
          let b = back ws (i - j) j (rw e (omega arith)) in
          let b' : run_before ws j + (i - j) ≡ run_before ws i = rw e at b in
          omega arith

  -- where the run ends at page i
  ends-here : (i : ℕ) → i ≤ length ws → 1 ≤ run_before ws i → (i < length ws → joins (word_before ws i) (word i) ≡ false) → Longest ws (i - run_before ws i) i
  ends-here i fits pos stop =
      let le = before-le ws i in
      let b = behind i fits pos in
      longest-by (i - run_before ws i) i b.run b.start (λ h. rw (before-word ws i (omega arith)) at (stop h))

  gives : (i : ℕ) → i ≤ 1024 → i ≤ length ws → 1 ≤ run_before ws i → Gives ws (i - run_before ws i) i (wrap_sub 32 (frame_in (word_before ws i)) (i - 1)) (rights_in (word_before ws i))
  gives i small fits pos =
      let le = before-le ws i in
      let r = (behind i fits pos).run in
      let v : word_before ws i ≡ word (i - 1) = before-word ws i (omega arith) in
      let lf = r.frames (i - 1) (omega arith) (omega arith) in
      rw v (record {
        word = sub-lt 32 (frame_in (word (i - 1))) (i - 1);
        frame = λ p lo hi.
            let f = r.frames p lo hi in
            let lt = frame-lt (word (i - 1)) in
            let far : i - 1 - p ≤ frame_in (word (i - 1)) = omega arith in
            let same : frame_in (word p) ≡ frame_in (word (i - 1)) - (i - 1 - p) = omega arith in
            same ∙ sym (offset-back (frame_in (word (i - 1))) (i - 1) p (omega arith) (omega arith) far (omega arith));
        rights = λ p lo hi. r.rights p lo hi ∙ sym (r.rights (i - 1) (omega arith) (omega arith));
      })

  lower : (a b : ℕ) (l : List ℕ) → b ≤ a → Table ws a l → Table ws b l
  lower a b l h nothing = nothing
  lower a b l h (entry x y o r lo eight g w t) = entry {a = b} x y o r (omega arith) eight g w t

  -- one entry, or none, before the rest
  put_ended : (on : Bool) (i : ℕ) (rest : List ℕ) → i ≤ 1024 → i ≤ length ws → (on ≡ false → i < length ws → joins (word_before ws i) (word i) ≡ false)
      → Table ws (elim on [ true ↦ i - run_before ws i | false ↦ i ]) rest → Table ws (i - run_before ws i) (ended on i (run_before ws i) (word_before ws i) ++ rest)
  unfolding entry_of
  put_ended true i rest small fits stop t = rw (ended-on i (run_before ws i) (word_before ws i)) t
  put_ended false i rest small fits stop t =
      by-dec (dec_le 8 (run_before ws i))
      (λ h. let le = before-le ws i in
      rw (ended-long i (run_before ws i) (word_before ws i) h)
      (entry {a = i - run_before ws i} (i - run_before ws i) i (wrap_sub 32 (frame_in (word_before ws i)) (i - 1)) (rights_in (word_before ws i)) (omega arith) (omega arith) (ends-here i fits (omega arith) (stop refl)) (gives i small fits (omega arith)) (lower i (suc (i - run_before ws i)) rest (omega arith) t)))
      (λ h. rw (ended-short i (run_before ws i) (word_before ws i) (omega arith)) (lower i (i - run_before ws i) rest (omega arith) t))

  table-from : (d i : ℕ) → length ws ≤ 1024 → d + i ≡ length ws → Table ws (i - run_before ws i) (entries_from i (run_before ws i) (word_before ws i) (drop i ws))
  table-from zero i small e =
      let r = put_ended false i [] (omega arith) (omega arith) (λ f h. absurd (omega arith)) nothing in
      rw (entries-end ws i (omega arith)) (rw (append-nil (ended false i (run_before ws i) (word_before ws i))) at r)
  table-from (suc d) i small e =
      let t = table-from d (suc i) small (omega arith) in
      rw (entries-suc ws i (omega arith))
      (by-test (joins (word_before ws i) (word i))
      (λ j.
      let k : suc i - run_before ws (suc i) ≡ i - run_before ws i = omega (arith, before-suc ws i, goes-join (run_before ws i) _ _ j, before-le ws i) in
      rw j (put_ended true i _ (omega arith) (omega arith) (λ f. true-false true refl f) (rw k at t)))
      (λ j.
      let k : i ≤ suc i - run_before ws (suc i) = omega (arith, before-suc ws i, goes-new (run_before ws i) _ _ j, one-if-le (mapped (word i))) in
      rw j (put_ended false i _ (omega arith) (omega arith) (λ f h. j) (lower _ i _ k t))))

  -- each entry is a longest run of at least 8 pages with its OFFSET and rights, and entries ascend
  pub table_is : length ws ≤ 1024 → Table ws 0 (entries ws)
  unfolding entries run_before word_before
  table_is small = table-from (length ws) 0 small (add-zero (length ws))

  has_more : (x y : ℕ) (on : Bool) (b n v : ℕ) (rest : List ℕ) → Has x y rest → Has x y (ended on b n v ++ rest)
  unfolding entry_of
  has_more x y true b n v rest h = rw (ended-on b n v) h
  has_more x y false b n v rest h =
      by-dec (dec_le 8 n) (λ e. rw (ended-long b n v e) (later h)) (λ e. rw (ended-short b n v (omega arith)) h)

  has-entry : (x y : ℕ) (v : ℕ) (rest : List ℕ) → x + 8 ≤ y → Has x y (ended false y (y - x) v ++ rest)
  unfolding entry_of
  has-entry x y v rest h =
      let e : y - (y - x) ≡ x = omega arith in
      rw (ended-long y (y - x) v (omega arith), e) here

  has-from : (x y d i : ℕ) → Longest ws x y → x + 8 ≤ y → d + i ≡ y → Has x y (entries_from i (run_before ws i) (word_before ws i) (drop i ws))
  has-from x y zero i l h e =
      let n = longest-before x y l in
      let fits = l.run.fits in
      let s : i ≡ y = omega arith in
      by-dec (dec_lt i (length ws))
      (λ lt. rw (entries-suc ws i lt, s, longest-stops x y l (omega arith), n) (has-entry x y (word_before ws y) _ h))
      (λ ge. rw (entries-end ws i (omega arith), s, n) (rw (append-nil (ended false y (y - x) (word_before ws y))) at (has-entry x y (word_before ws y) [] h)))
  has-from x y (suc d) i l h e =
      let fits = l.run.fits in
      rw (entries-suc ws i (omega arith)) (has_more x y _ i _ _ _ (has-from x y d (suc i) l h (omega arith)))

  -- and each such run has its entry
  pub table-all : (x y : ℕ) → Longest ws x y → x + 8 ≤ y → Has x y (entries ws)
  unfolding entries run_before word_before
  table-all x y l h = has-from x y y 0 l h (add-zero y)

  -- The range bit: a run that has started ends somewhere
  record Ending (i : ℕ) : Type 0 where
    end : ℕ
    ge : i ≤ end
    fits : end ≤ length ws
    grows : run_before ws end ≡ run_before ws i + (end - i)
    stop : end < length ws → joins (word_before ws end) (word end) ≡ false
    same : whole ws end ≡ whole ws i

  ending : (d i : ℕ) → d + i ≡ length ws → Ending i
  ending zero i e = record { end = i; ge = omega arith; fits = omega arith; grows = omega arith; stop = λ h. absurd (omega arith); same = refl }
  ending (suc d) i e =
      by-test (joins (word_before ws i) (word i))
      (λ t.
      let r = ending d (suc i) (omega arith) in
      let g = goes-join (run_before ws i) (word_before ws i) (word i) t in
      let ge = r.ge in
      record { end = r.end; ge = omega arith; fits = r.fits; grows = omega (arith, r.grows, before-suc ws i); stop = r.stop; same = r.same ∙ whole-step ws i (omega arith) t })
      (λ t. record { end = i; ge = omega arith; fits = omega arith; grows = omega arith; stop = λ h. t; same = refl })

  -- `run_before` is the running length, and no other number is

  pub running-before : (p : ℕ) → p < length ws → RunningLength ws p (run_before ws (suc p))
  running-before p h =
      by-dec (dec_le 1 (run_before ws (suc p)))
      (λ pos.
      let r = ending (length ws - suc p) (suc p) (omega arith) in
      let ge = r.ge in
      let n : run_before ws r.end ≡ run_before ws (suc p) + (r.end - suc p) = r.grows in
      let le = before-le ws r.end in
      let e : p + 1 - (r.end - run_before ws r.end) ≡ run_before ws (suc p) = omega (arith, before-le ws (suc p)) in
      rw (← e) (in-run (ends-here r.end r.fits (omega arith) r.stop) (omega (arith, before-le ws (suc p))) (omega arith)))
      (λ z.
      let e : run_before ws (suc p) ≡ 0 = omega arith in
      rw e (in-none (λ x y r lo hi. true-false (mapped (word p)) (r.maps p lo hi) (rw (last-is p) at (last_none ws (suc p) e)))))

  pub running-is : (p n : ℕ) → p < length ws → RunningLength ws p n → n ≡ run_before ws (suc p)
  running-is p n h (in-run {x} {y} l lo hi) =
      let e : x + (p - x) ≡ p = omega arith in
      let c = count-up x y (p - x) l (omega arith) in
      let k : suc (p - x) ≡ p + 1 - x = omega arith in
      sym ((rw e at c) ∙ k)
  running-is p n h (in-none out) =
      by-dec (dec_le 1 (run_before ws (suc p)))
      (λ pos. absurd (out (suc p - run_before ws (suc p)) (suc p) (behind (suc p) (omega arith) pos).run (omega arith) (omega arith)))
      (λ z. omega arith)

  no-after : (v : ℕ) (l : List ℕ) → mapped v ≡ false → run_after v l ≡ 0
  unfolding run_after
  no-after v [] e = refl
  no-after v (w ∷ l) e = by-test (joins v w) (λ t. true-false _ (joins_at v w t).this e) (λ t. rw (t, run_after))

  whole_pos : (i : ℕ) → 1 ≤ whole ws i → 1 ≤ run_before ws i
  unfolding whole
  whole_pos i h =
      by-dec (dec_le 1 (run_before ws i)) (λ y. y) (λ z.
      let o : run_before ws i ≡ 0 = omega arith in
      absurd (omega (arith, no-after (word_before ws i) (drop i ws) (last_none ws i o))))

  stopped : (y : ℕ) → y ≤ length ws → (y < length ws → joins (word_before ws y) (word y) ≡ false) → whole ws y ≡ run_before ws y
  stopped y fits stop = by-dec (dec_lt y (length ws)) (λ lt. whole-end ws y lt (stop lt)) (λ ge. whole-last ws y (omega arith))

  pub long-in : (q : ℕ) → q < length ws → 8 ≤ whole ws (suc q) → InRange ws q
  long-in q h eight =
      let r = ending (length ws - suc q) (suc q) (omega arith) in
      let pos = whole_pos (suc q) (omega arith) in
      let n = stopped r.end r.fits r.stop in
      let big : 8 ≤ run_before ws r.end = omega (arith, r.same) in
      let ge = r.ge in
      let le = before-le ws r.end in
      record {
        first = r.end - run_before ws r.end;
        end = r.end;
        longest = ends-here r.end r.fits (omega arith) r.stop;
        eight = omega arith;
        from = omega (arith, r.grows);
        to = omega arith;
      }

  pub in-long : (q : ℕ) → q < length ws → InRange ws q → 8 ≤ whole ws (suc q)
  in-long q h x =
      let y : ℕ = x.end in
      let l = x.longest in
      let eight = x.eight in
      let to = x.to in
      let from = x.from in
      let fits = l.run.fits in
      let n = longest-before x.first x.end l in
      let e : (x.end - suc q) + suc q ≡ x.end = omega arith in
      let b = whole_back ws (x.end - suc q) (suc q) (omega arith) (rw e (omega arith)) in
      let b' : whole ws (suc q) ≡ whole ws x.end = rw e at b in
      omega (arith, b', stopped x.end fits (longest-stops x.first x.end l))

  -- the word of a page has its range bit exactly where the page is in a longest run of at least 8 pages
  pub bit_is : (q : ℕ) → q < length ws → (b : Bool) → (b ≡ true → InRange ws q) → (b ≡ false → InRange ws q → ⊥) → get_or (with_bits ws) q 0 ≡ bit_word b (get_or ws q 0)
  unfolding bit_at
  bit_is q h b if-in if-out =
      by-dec (dec_le 8 (whole ws (suc q)))
      (λ e. let t : b ≡ true = by-test b (λ t. t) (λ f. absurd (if-out f (long-in q h e))) in
      with_bits_at ws q h ∙ ap (λ (x : Bool). bit_word x (get_or ws q 0)) (le-leb 8 (whole ws (suc q)) e ∙ sym t))
      (λ e. let f : b ≡ false = by-test b (λ t. absurd (e (in-long q h (if-in t)))) (λ f. f) in
      with_bits_at ws q h ∙ ap (λ (x : Bool). bit_word x (get_or ws q 0)) (lt-leb 8 (whole ws (suc q)) (omega arith) ∙ sym f))
