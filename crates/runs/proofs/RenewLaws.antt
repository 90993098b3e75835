-- The walk that rebuilds range bits and range words.
use mathlib.Core.Path.{◌≡◌, refl, ap, ◌∙◌, sym}
use mathlib.Core.Bool.{Bool, true, false}
use mathlib.Core.List.{List, ◌++◌}
use Prim.Native.Nat.{ℕ, suc, ◌+◌, ◌-◌, ◌<◌, ◌≤◌, zero-le}
use native.Mathlib.Nat.{add-zero}
use native.Mathlib.Decide.{dec_lt, ℕ_discrete}
use native.Mathlib.Omega.{arith}
use lib.Dec.{leb}
use lib.ListN.{length, get_or, drop, take, set, length-append, length-set}
use lib.Seq.{ext_get_or, get_or-set_same, get_or-set_other, sets, sets-eq, length-sets, take_at}
use borrow.Author.Tests.{le-leb, lt-leb}
use Rattle.words.specs.Counts.{one-if}
use Rattle.words.proofs.Cases.{by-test, by-dec}
use Rattle.words.proofs.CountLaws.{one-if-le}
use Rattle.words.proofs.WriteLaws.{change-none}
use Rattle.runs.specs.PageWords.{mapped, range_bit}
use Rattle.runs.specs.Walk.{joins, goes_on, bit_word, with_bits, ended, entry_of, entries}
use Rattle.runs.specs.Inner.{Empty, Onward, Along, nowhere, empty, onward, Marked, marked_pages, EndedRun}
use Rattle.runs.proofs.WordLaws.{zero-unmapped, bit-of, joins_at, bit-none, goes-join, goes-new}
use Rattle.runs.proofs.RunningLaws.{no_run}
use Rattle.runs.proofs.StepLaws.{inside-words, walk-empty, walk-onward, next-on, next-short, next-long, Walked, walk_start, run-le, at_length, left_step, left_end, left-room, walk_step, stops-step, stops_end, bit-run, walk_end}
use Rattle.runs.proofs.WalkLaws.{run_before, goes-zero, whole, bit_at, with_bits_at, length-with_bits, ended-short, ended-long, ended-on}

-- Marking, word by word
pub mark-none : (bit : Bool) (xs : List ℕ) (a : ℕ) → Marked bit xs a 0 xs
mark-none bit xs a = let z : a + 0 ≡ a = omega arith in rw z (change-none _ xs a)

-- the three ways that a run goes
pub still-on : (xs rs : List ℕ) (on : Bool) (at b n v : ℕ) → on ≡ true → EndedRun xs rs on at b n v at xs rs
unfolding marked_pages
still-on xs rs on at b n v t = record {
  place = next-on on at b n v t;
  table = rw (t, ended-on b n v) refl;
  pages = rw t (mark-none (leb 8 n) xs (b - n));
}

pub too_short_lem : (xs rs xs' : List ℕ) (on : Bool) (at b n v : ℕ) → on ≡ false → n < 8 → Marked false xs (b - n) n xs' → EndedRun xs rs on at b n v at xs' rs
unfolding marked_pages
too_short_lem xs rs xs' on at b n v t h m = record {
  place = next-short on at b n v t h;
  table = rw (t, ended-short b n v h) refl;
  pages = rw (t, lt-leb 8 n h) m;
}

pub long-run : (xs rs xs' rs' : List ℕ) (on : Bool) (at b n v : ℕ) → on ≡ false → 8 ≤ n → Marked true xs (b - n) n xs' → rs' ≡ sets rs at (entry_of b n v) → EndedRun xs rs on at b n v (at + 4) xs' rs'
unfolding marked_pages
long-run xs rs xs' rs' on at b n v t h m w = record {
  place = next-long on at b n v t h;
  table = rw (t, ended-long b n v h) w;
  pages = rw (t, le-leb 8 n h) m;
}

none-marked : (bit : Bool) (xs xs' : List ℕ) (a : ℕ) → Marked bit xs a 0 xs' → (q : ℕ) → get_or xs' q 0 ≡ get_or xs q 0
none-marked bit xs xs' a m q = by-dec (dec_lt q a) (λ b. m.below q b) (λ b. m.above q (omega arith))

marked-le : (on : Bool) (n : ℕ) → marked_pages on n ≤ n
unfolding marked_pages
marked-le true n = zero-le
marked-le false n = omega arith

counts-one : (b : Bool) → 1 ≤ one-if b → b ≡ true
unfolding one-if
counts-one true h = refl
counts-one false h = absurd (omega arith)

-- The walk at page i: xs are the page words so far, ws those at the start
pub record Renewing (ws xs rs : List ℕ) (i n v at : ℕ) : Type 0 where
  pub walked : Walked ws rs i n v at
  pub room : length xs ≡ 1024
  -- the pages before the run are settled, those of the run and those to come are as they were
  pub settled : (q : ℕ) → q + n < i → get_or xs q 0 ≡ bit_at ws q
  pub unsettled : (q : ℕ) → i ≤ q + n → q < i → get_or xs q 0 ≡ get_or ws q 0
  pub waiting : (q : ℕ) → i ≤ q → get_or xs q 0 ≡ get_or ws q 0

pub renew-start : (ws rs : List ℕ) → length ws ≡ 1024 → length rs ≡ 512 → Renewing ws ws rs 0 0 0 0
renew-start ws rs e f = record {
  walked = walk_start ws rs e f;
  room = e;
  settled = λ q h. absurd (omega arith);
  unsettled = λ q lo hi. absurd (omega arith);
  waiting = λ q h. refl;
}

module _ (ws xs rs : List ℕ) (i n v at : ℕ) (s : Renewing ws xs rs i n v at) where
  pub room-step : (on : Bool) (w : ℕ) → i < 1024 → w ≡ get_or xs i 0 → on ≡ joins v w → at + length (ended on i n v) ≤ 512
  room-step on w h is o = left-room _ _ _ _ _ _ s.walked on (left_step _ _ _ _ _ _ s.walked on w h (is ∙ s.waiting i (omega arith)) o)

  pub room-end : i ≡ 1024 → at + length (ended false i n v) ≤ 512
  room-end h = left-room _ _ _ _ _ _ s.walked false (left_end _ _ _ _ _ _ s.walked h)

  -- where the run ends, all pages before i are settled
  all_settled : (xs' : List ℕ) → whole ws i ≡ run_before ws i → Marked (leb 8 n) xs (i - n) n xs' → (q : ℕ) → q < i → get_or xs' q 0 ≡ bit_at ws q
  all_settled xs' w m q lt =
      let le = run-le _ _ _ _ _ _ s.walked in
      by-dec (dec_lt (q + n) i)
      (λ before. m.below q (omega arith) ∙ s.settled q before)
      (λ in-run.
      m.inside q (omega arith) (omega arith) ∙ ap (bit_word (leb 8 n)) (s.unsettled q (omega arith) lt) ∙ sym (bit-run _ _ _ _ _ _ s.walked w q lt (omega arith)))

  -- the entries written so far
  taken : (rs' es : List ℕ) (at' : ℕ) → at + length es ≤ 512 → at' ≡ at + length es → rs' ≡ sets rs at es → take at' rs' ≡ take at rs ++ es
  taken rs' es at' h p e =
      let z = s.walked.table in
      let f : sets rs at es ≡ (take at rs ++ es) ++ drop (at + length es) rs = sets-eq es rs at (omega arith) in
      let l : length (take at rs ++ es) ≡ at + length es = omega (arith, length-append (take at rs) es, at_length _ _ _ _ _ _ s.walked) in
      rw (p, e, f) (take_at (take at rs ++ es) (drop (at + length es) rs) (at + length es) l)

  kept : (rs' es : List ℕ) → rs' ≡ sets rs at es → length rs' ≡ 512
  kept rs' es e = rw e (length-sets rs at es ∙ s.walked.table)

  -- one page further
  pub renew-step : (xs' rs' : List ℕ) (at' w bw m : ℕ) (on bit : Bool) → i < 1024 → w ≡ get_or xs i 0 → length xs' ≡ 1024 → on ≡ joins v w → bit ≡ range_bit w → bw ≡ bit_word bit w → m ≡ goes_on n v w
      → EndedRun xs rs on at i n v at' xs' rs' → Renewing ws (set xs' i bw) rs' (i + 1) m w at'
  unfolding marked_pages bit_at
  renew-step xs' rs' at' w bw m on bit h is len o its e g r =
      let le = run-le _ _ _ _ _ _ s.walked in
      let here : w ≡ get_or ws i 0 = is ∙ s.waiting i (omega arith) in
      let word : get_or (set xs' i bw) i 0 ≡ bit_word (range_bit w) w = get_or-set_same xs' i bw 0 (omega arith) ∙ e ∙ ap (λ (b : Bool). bit_word b w) its in
      let stays : mapped w ≡ true → get_or (set xs' i bw) i 0 ≡ get_or ws i 0 = λ t. word ∙ sym (bit-of w t) ∙ here in
      let other : (q : ℕ) → (q ≡ i → ⊥) → get_or (set xs' i bw) q 0 ≡ get_or xs' q 0 = λ q ne. get_or-set_other xs' i q bw 0 ne in
      record {
        walked = walk_step _ _ _ _ _ _ s.walked rs' on w m at' h here o g r.place (kept rs' (ended on i n v) r.table) (taken rs' (ended on i n v) at' (room-step on w h is o) r.place r.table);
        room = length-set xs' i bw ∙ len;
        settled = by-test on
            (λ t q lt.
            let k = goes-join n v w (sym o ∙ t) in
            let u : Marked (leb 8 n) xs (i - n) 0 xs' = rw (t, marked_pages) at r.pages in
            other q (omega arith) ∙ none-marked (leb 8 n) xs xs' (i - n) u q ∙ s.settled q (omega arith))
            (λ t q lt.
            let u : Marked (leb 8 n) xs (i - n) n xs' = rw (t, marked_pages) at r.pages in
            let end = stops-step _ _ _ _ _ _ s.walked w h here (sym o ∙ t) in
            by-dec (ℕ_discrete q i)
            (λ same.
            let z : mapped w ≡ false = goes-zero n v w (omega arith) in
            rw same (word ∙ bit-none (range_bit w) w z ∙ sym (bit-none (leb 8 (whole ws (suc i))) (get_or ws i 0) (ap mapped (sym here) ∙ z))))
            (λ ne. other q ne ∙ all_settled xs' end u q (omega arith)));
        unsettled = by-test on
            (λ t q lo hi.
            let k = goes-join n v w (sym o ∙ t) in
            let u : Marked (leb 8 n) xs (i - n) 0 xs' = rw (t, marked_pages) at r.pages in
            by-dec (ℕ_discrete q i) (λ same. rw same (stays (joins_at v w (sym o ∙ t)).next)) (λ ne. other q ne ∙ none-marked (leb 8 n) xs xs' (i - n) u q ∙ s.unsettled q (omega arith) (omega arith)))
            (λ t q lo hi.
            let k = goes-new n v w (sym o ∙ t) in
            by-dec (ℕ_discrete q i)
            (λ same. rw same (stays (counts-one (mapped w) (omega (arith, k)))))
            (λ ne. absurd (omega (arith, k, one-if-le (mapped w)))));
        waiting = λ q le'. other q (omega arith) ∙ r.pages.above q (omega (arith, marked-le on n)) ∙ s.waiting q (omega arith);
      }

  -- over pages that extend the run
  renew-onward : (k : ℕ) → mapped v ≡ true → Onward xs i v k → Renewing ws xs rs (i + k) (n + k) (v + k) at
  renew-onward k m o =
      record {
        walked = walk-onward ws rs i n v at k m s.walked (record { room = o.room; frames = o.frames; next = λ j h. sym (s.waiting (i + j) (omega arith)) ∙ o.next j h });
        room = s.room;
        settled = λ q lt. s.settled q (omega arith);
        unsettled = λ q lo hi. by-dec (dec_lt q i) (λ before. s.unsettled q (omega arith) before) (λ here. s.waiting q (omega arith));
        waiting = λ q le. s.waiting q (omega arith);
      }

  -- the end
  pub renew-pages : (xs' rs' : List ℕ) (at' : ℕ) → i ≡ 1024 → length xs' ≡ 1024 → EndedRun xs rs false at i n v at' xs' rs' → xs' ≡ with_bits ws
  unfolding marked_pages
  renew-pages xs' rs' at' e len r =
      let z = s.walked.size in
      ext_get_or 0 xs' (with_bits ws) (len ∙ sym (length-with_bits ws ∙ z)) (λ q h.
      all_settled xs' (stops_end _ _ _ _ _ _ s.walked e) r.pages q (omega arith) ∙ sym (with_bits_at ws q (omega arith)))

  pub renew-entries : (xs' rs' : List ℕ) (at' : ℕ) → i ≡ 1024 → EndedRun xs rs false at i n v at' xs' rs' → (at' ≡ length (entries ws)) × (take at' rs' ≡ entries ws)
  renew-entries xs' rs' at' e r = walk_end _ _ _ _ _ _ s.walked rs' at' e r.place (kept rs' (ended false i n v) r.table) (taken rs' (ended false i n v) at' (room-end e) r.place r.table)

-- over unmapped pages
renew-empty : (ws xs rs : List ℕ) (i at k : ℕ) → Renewing ws xs rs i 0 0 at → Empty xs i k → Renewing ws xs rs (i + k) 0 0 at
unfolding bit_at
renew-empty ws xs rs i at k s e =
    let none : (q : ℕ) → i ≤ q → q < i + k → get_or ws q 0 ≡ 0 = λ q lo hi. sym (s.waiting q lo) ∙ e.zero q lo hi in
    record {
      walked = walk-empty ws rs i at k s.walked (record { room = e.room; zero = none });
      room = s.room;
      settled = λ q lt.
          by-dec (dec_lt q i)
          (λ before. s.settled q (omega arith))
          (λ here.
          let z : get_or ws q 0 ≡ 0 = none q (omega arith) (omega arith) in
          e.zero q (omega arith) (omega arith) ∙ sym (bit-none _ (get_or ws q 0) (zero-unmapped _ z)));
      unsettled = λ q lo hi. absurd (omega arith);
      waiting = λ q le. s.waiting q (omega arith);
    }

pub renew-along : (ws xs rs : List ℕ) (i n v at p m j w : ℕ) → Renewing ws xs rs i n v at → Along xs i v p m → j ≡ i + p → w ≡ v + m → Renewing ws xs rs j (n + m) w at
renew-along ws xs rs i n v at p m j w s along e f = rw (e, f) (go p m along)
  where
    go : (p m : ℕ) → Along xs i v p m → Renewing ws xs rs (i + p) (n + m) (v + m) at
    go p m nowhere = rw (add-zero i, add-zero n, add-zero v) s
    go p m (empty z e) =
        let none : n ≡ 0 = no_run _ _ _ _ (inside-words _ _ _ _ _ _ s.walked) s.walked.carries z in
        rw (none, z) (renew-empty ws xs rs i at p (rw (none, z) at s) e)
    go p m (onward t o) = renew-onward ws xs rs i n v at s p t o
