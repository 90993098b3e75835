-- What both walks know at page i: the running length, the word before, and the entries up to there.
use mathlib.Core.Path.{◌≡◌, refl, ap, ap₂, ◌∙◌, sym}
use mathlib.Core.Bool.{Bool, true, false}
use mathlib.Core.List.{List, [], ◌++◌, append_assoc, append-nil}
use Prim.Native.Nat.{ℕ, zero, suc, ◌+◌, ◌-◌, ◌<◌, ◌≤◌, zero-le}
use native.Mathlib.Nat.{add-zero}
use native.Mathlib.Numerals.{add-one}
use native.Mathlib.Omega.{arith}
use lib.Dec.{leb}
use lib.ListN.{length, get_or, drop, take, replicate, length-append}
use lib.Seq.{length-take-le}
use borrow.Author.Tests.{eqb-true}
use Rattle.words.specs.Counts.{one-if}
use Rattle.words.specs.Inner.{same_in, counts_beside, PassTo}
use Rattle.words.proofs.Cases.{true-false}
use Rattle.words.proofs.ScanLaws.{beside_at}
use Rattle.runs.specs.PageWords.{mapped, frame_in}
use Rattle.runs.specs.Running.{Carries, start}
use Rattle.runs.specs.Walk.{joins, goes_on, bit_word, ended, entries_from, entries, range_words}
use Rattle.runs.specs.Inner.{zero_from, Empty, Onward, Along, nowhere, empty, onward}
use Rattle.runs.proofs.WordLaws.{frame-lt, zero-unmapped, join, not-joins, goes-join, goes-new, ahead-joins}
use Rattle.runs.proofs.RunningLaws.{carries-is, carries-le, carries-page, running-next}
use Rattle.runs.proofs.WalkLaws.{word_before, run_before, before-suc, whole, whole-end, whole-last, bit_at, bit-ended, entries-suc, entries-end, ended-short, ended-long, ended-on, length-entry, entries-few}

-- the place of the next entry, in the three ways that a run goes
pub next-on : (on : Bool) (at b n v : ℕ) → on ≡ true → at ≡ at + length (ended on b n v)
next-on on at b n v t = rw (t, ended-on b n v) (sym (add-zero at))

pub next-short : (on : Bool) (at b n v : ℕ) → on ≡ false → n < 8 → at ≡ at + length (ended on b n v)
next-short on at b n v t h = rw (t, ended-short b n v h) (sym (add-zero at))

pub next-long : (on : Bool) (at b n v : ℕ) → on ≡ false → 8 ≤ n → at + 4 ≡ at + length (ended on b n v)
next-long on at b n v t h = rw (t, ended-long b n v h, length-entry b n v) refl

-- room for the entry of a long run
pub room_for : (on : Bool) (at b n v : ℕ) → on ≡ false → 8 ≤ n → at + length (ended on b n v) ≤ 512 → at + 4 ≤ 512
room_for on at b n v t h r = omega (arith, next-long on at b n v t h)

-- page words ws, the first `at` range words of rs
pub record Walked (ws rs : List ℕ) (i n v at : ℕ) : Type 0 where
  pub size : length ws ≡ 1024
  pub table : length rs ≡ 512
  pub inside : i ≤ 1024
  pub carries : Carries ws i n v
  pub place : at ≤ 512
  pub listed : entries ws ≡ take at rs ++ entries_from i n v (drop i ws)

pub walk_start : (ws rs : List ℕ) → length ws ≡ 1024 → length rs ≡ 512 → Walked ws rs 0 0 0 0
unfolding entries
walk_start ws rs e f = record { size = e; table = f; inside = zero-le; carries = start; place = zero-le; listed = refl }

module _ (ws rs : List ℕ) (i n v at : ℕ) (s : Walked ws rs i n v at) where
  pub inside-words : i ≤ length ws
  inside-words = omega (arith, s.size, s.inside)

  pub run_is : n ≡ run_before ws i
  run_is = (carries-is ws i n v inside-words s.carries).0

  pub word-is : v ≡ word_before ws i
  word-is = (carries-is ws i n v inside-words s.carries).1

  pub run-le : n ≤ i
  run-le = carries-le ws i n v inside-words s.carries

  pub at_length : length (take at rs) ≡ at
  at_length = length-take-le at rs (omega (arith, s.table, s.place))

  -- what is left starts with what is listed here
  pub record Left (on : Bool) : Type 0 where
    pub more : List ℕ
    pub is : entries_from i n v (drop i ws) ≡ ended on i n v ++ more

  pub left_step : (on : Bool) (w : ℕ) → i < 1024 → w ≡ get_or ws i 0 → on ≡ joins v w → Left on
  unfolding word_before
  left_step on w h e o =
      let c = entries-suc ws i (omega (arith, s.size)) in
      record {
        more = entries_from (suc i) (goes_on n v w) w (drop (suc i) ws);
        is =
            rw (o, e, run_is, word-is)
            (c ∙ ap (λ (x : ℕ). ended (joins (word_before ws i) (get_or ws i 0)) i (run_before ws i) (word_before ws i) ++ entries_from (suc i) x (get_or ws i 0) (drop (suc i) ws)) (before-suc ws i));
      }

  pub left_end : i ≡ 1024 → Left false
  left_end h = record { more = []; is = rw (run_is, word-is) (entries-end ws i (omega (arith, s.size))) ∙ sym (append-nil (ended false i n v)) }

  -- there is room for an entry
  pub left-room : (on : Bool) → Left on → at + length (ended on i n v) ≤ 512
  left-room on x =
      let e : length (entries ws) ≡ length (take at rs ++ (ended on i n v ++ x.more)) = ap length (s.listed ∙ ap (λ (l : List ℕ). take at rs ++ l) x.is) in
      omega (arith, e, at_length, entries-few ws s.size, length-append (take at rs) (ended on i n v ++ x.more), length-append (ended on i n v) x.more)

  -- one page further
  pub walk_step : (rs' : List ℕ) (on : Bool) (w m at' : ℕ) → i < 1024 → w ≡ get_or ws i 0 → on ≡ joins v w → m ≡ goes_on n v w → at' ≡ at + length (ended on i n v)
      → length rs' ≡ 512 → take at' rs' ≡ take at rs ++ ended on i n v → Walked ws rs' (i + 1) m w at'
  unfolding left_step
  walk_step rs' on w m at' h e o g p l t =
      let x = left_step on w h e o in
      let running = running-next ws i n v (omega (arith, s.size)) s.carries w m e g in
      record {
        size = s.size;
        table = l;
        inside = omega arith;
        carries = carries-page ws i m w running e;
        place = omega (arith, left-room on x);
        listed = rw (t, add-one i, g) (s.listed ∙ ap (λ (l : List ℕ). take at rs ++ l) x.is ∙ sym (append_assoc (take at rs) (ended on i n v) x.more));
      }

  -- where a run ends
  pub stops-step : (w : ℕ) → i < 1024 → w ≡ get_or ws i 0 → joins v w ≡ false → whole ws i ≡ run_before ws i
  stops-step w h e t = whole-end ws i (omega (arith, s.size)) (rw (← e, ← word-is) t)

  pub stops_end : i ≡ 1024 → whole ws i ≡ run_before ws i
  stops_end h = whole-last ws i (omega (arith, s.size))

  pub bit-run : whole ws i ≡ run_before ws i → (q : ℕ) → q < i → i ≤ q + n → bit_at ws q ≡ bit_word (leb 8 n) (get_or ws q 0)
  bit-run w q lt le = rw run_is (bit-ended ws i q inside-words w lt (omega (arith, run_is)))

  -- the end: the words taken are all entries
  pub walk_end : (rs' : List ℕ) (at' : ℕ) → i ≡ 1024 → at' ≡ at + length (ended false i n v) → length rs' ≡ 512 → take at' rs' ≡ take at rs ++ ended false i n v → (at' ≡ length (entries ws)) × (take at' rs' ≡ entries ws)
  unfolding left_end
  walk_end rs' at' h p l t =
      let x = left_end h in
      let all : take at' rs' ≡ entries ws = t ∙ ap (λ (l : List ℕ). take at rs ++ l) (sym (x.is ∙ append-nil (ended false i n v))) ∙ sym s.listed in
      (sym (length-take-le at' rs' (omega (arith, left-room false x))) ∙ ap length all, all)

-- zeros follow the entries
pub zeros-follow : (ws rs : List ℕ) (at : ℕ) → length rs ≡ 512 → at ≡ length (entries ws) → take at rs ≡ entries ws → zero_from rs at ≡ range_words ws
unfolding range_words zero_from
zeros-follow ws rs at l e t = ap₂ (λ (l : List ℕ) (k : ℕ). l ++ replicate k 0) t (ap₂ ◌-◌ l e)

-- Stretches

walked_at : (ws rs : List ℕ) (i j n m v w at : ℕ) → i ≡ j → n ≡ m → v ≡ w → Walked ws rs i n v at → Walked ws rs j m w at
walked_at ws rs i j n m v w at e f g s = rw (← e, ← f, ← g) s

-- over unmapped pages nothing changes
pub walk-empty : (ws rs : List ℕ) (i at k : ℕ) → Walked ws rs i 0 0 at → Empty ws i k → Walked ws rs (i + k) 0 0 at
unfolding one-if
walk-empty ws rs i at zero s e = walked_at _ _ _ _ _ _ _ _ _ (sym (add-zero i)) refl refl s
walk-empty ws rs i at (suc k) s e =
    let room = e.room in
    let before = walk-empty ws rs i at k s (record { room = omega arith; zero = λ q lo hi. e.zero q lo (omega arith) }) in
    let none : joins 0 0 ≡ false = sym (not-joins 0 0 (λ j. true-false _ j.this (zero-unmapped 0 refl))) in
    let still : goes_on 0 0 0 ≡ 0 = goes-new 0 0 0 none ∙ ap one-if (zero-unmapped 0 refl) in
    walked_at _ _ _ _ _ _ _ _ _ (omega arith) refl refl
    (walk_step _ _ _ _ _ _ before rs (joins 0 0) 0 0 at (omega arith) (sym (e.zero (i + k) (omega arith) (omega arith))) refl (sym still)
    (next-short (joins 0 0) at (i + k) 0 0 none (omega arith)) s.table (rw (none, ended-short (i + k) 0 0 (omega arith)) (sym (append-nil (take at rs)))))

-- over words that count up the run goes on
pub walk-onward : (ws rs : List ℕ) (i n v at k : ℕ) → mapped v ≡ true → Walked ws rs i n v at → Onward ws i v k → Walked ws rs (i + k) (n + k) (v + k) at
walk-onward ws rs i n v at zero m s o = walked_at _ _ _ _ _ _ _ _ _ (sym (add-zero i)) (sym (add-zero n)) (sym (add-zero v)) s
walk-onward ws rs i n v at (suc k) m s o =
    let room = o.room in
    let frames = o.frames in
    let before = walk-onward ws rs i n v at k m s (record { room = omega arith; frames = omega arith; next = λ j h. o.next j (omega arith) }) in
    let on : joins (v + k) (v + (k + 1)) ≡ true = join _ _ (ahead-joins v k m (omega arith)) in
    walked_at _ _ _ _ _ _ _ _ _ (omega arith) (omega arith) (omega arith)
    (walk_step _ _ _ _ _ _ before rs (joins (v + k) (v + (k + 1))) (v + (k + 1)) (n + k + 1) at (omega arith) (sym (o.next k (omega arith))) refl (sym (goes-join (n + k) _ _ on))
    (next-on _ at (i + k) (n + k) (v + k) on) s.table (rw (on, ended-on (i + k) (n + k) (v + k)) (sym (append-nil (take at rs)))))

-- what the scans show
pub empty-scanned : (ws : List ℕ) (i r : ℕ) → PassTo (same_in ws 0) i 1024 r → Empty ws i (r - i)
unfolding same_in
empty-scanned ws i r x = record { room = omega (arith, x.from, x.to); zero = λ q lo hi. eqb-true _ _ (x.pass q lo (omega arith)) }

-- read beside any other words
pub onward-scanned : (ws bs : List ℕ) (i v j u most r : ℕ) → i ≤ 1024 → most ≤ 1024 - i → most ≤ 4095 - frame_in v → PassTo (counts_beside ws i (v + 1) bs j u) 0 most r → Onward ws i v r
onward-scanned ws bs i v j u most r h room low x =
    let to = x.to in
    record {
      room = omega arith;
      frames = omega (arith, frame-lt v);
      next = λ k lt.
          let sum : v + 1 + k ≡ v + (k + 1) = omega arith in
          (beside_at ws i (v + 1) bs j u k (x.pass k (omega arith) lt)).0 ∙ sum;
    }

-- a stretch stays in the space
pub along-room : (ws : List ℕ) (i w p m : ℕ) → i ≤ 1024 → Along ws i w p m → (i + p ≤ 1024) × (m ≤ p)
along-room ws i w p m h nowhere = (omega arith, zero-le)
along-room ws i w p m h (empty z e) = (e.room, zero-le)
along-room ws i w p m h (onward t o) = (o.room, omega arith)

-- after an unmapped word none of it is mapped
pub along-none : (ws : List ℕ) (i w p m : ℕ) → Along ws i w p m → mapped w ≡ false → m ≡ 0
along-none ws i w p m nowhere f = refl
along-none ws i w p m (empty z e) f = refl
along-none ws i w p m (onward t o) f = true-false (mapped w) t f
