-- The walk that checks range bits and range words.
use mathlib.Core.Path.{◌≡◌, refl, ap, ap₂, ◌∙◌, sym}
use mathlib.Core.Bool.{Bool, true, false, beq}
use mathlib.Core.List.{List, [], ◌∷◌, ◌++◌, append_assoc, append-nil}
use Prim.Native.Nat.{ℕ, suc, ◌+◌, ◌-◌, ◌<◌, ◌≤◌}
use native.Mathlib.Nat.{add-zero}
use native.Mathlib.Decide.{dec_lt, dec_le, ℕ_discrete}
use native.Mathlib.Omega.{arith}
use lib.Dec.{eqb, leb, ltb}
use lib.ListN.{length, get_or, drop, take, replicate, length-replicate, length-drop, take-append-drop, get_or-replicate}
use lib.Seq.{ext_get_or, get_or-drop, take-add, take_at, drop_at, length-take-le, get_or-append-add}
use borrow.Author.Tests.{lt-leb, eqb-true, eqb-false, eq-eqb}
use Rattle.words.specs.Tables.{part}
use Rattle.words.specs.Searches.{all_from}
use Rattle.words.specs.Inner.{same_in}
use Rattle.words.proofs.SearchLaws.{all_from_at, some-fails, every-at, at_every}
use Rattle.words.proofs.Cases.{by-test, by-dec, true-false, and-true, true-and}
use Rattle.words.proofs.CountLaws.{one-if-le}
use Rattle.runs.specs.PageWords.{allowed_rights, mapped, range_bit, rights_in, is_page_word}
use Rattle.runs.specs.Running.{RunningLength, Carries}
use Rattle.runs.specs.Walk.{joins, goes_on, bit_word, with_bits, ended, entry_of, entries, range_words, same, all_page_words, lawful_ranges}
use Rattle.runs.specs.Inner.{Empty, Onward, Along, nowhere, empty, onward, Decides, EndFits, WordFits, zero_from}
use Rattle.runs.proofs.WordLaws.{zero-unmapped, ahead, joins_at, goes-join, goes-new, bit-none, of-bit, bit-zero, zero_word, mapped-word, word-cases, word-rights, bit-of, own-bit}
use Rattle.runs.proofs.RunningLaws.{carries-is, no_run, running-only, running-joins}
use Rattle.runs.proofs.StepLaws.{inside-words, run_is, word-is, walk-empty, walk-onward, Walked, walk_start, run-le, at_length, Left, left_step, left_end, left-room, walk_step, zeros-follow, stops-step, stops_end, bit-run, walk_end}
use Rattle.runs.proofs.WalkLaws.{word_before, run_before, goes-zero, before-le, whole, whole-step, bit_at, with_bits_at, length-with_bits, ended-short, ended-long, ended-on, length-entry, last-mapped, last_none, before-word}

same_refl : (xs : List ℕ) → same xs xs ≡ true
unfolding same
same_refl [] = refl
same_refl (x ∷ xs) = rw (eq-eqb x x refl, same) (same_refl xs)

same_at : (xs ys : List ℕ) → same xs ys ≡ true → xs ≡ ys
unfolding same
same_at [] [] t = refl
same_at [] (y ∷ ys) t = true-false false t refl
same_at (x ∷ xs) [] t = true-false false t refl
same_at (x ∷ xs) (y ∷ ys) t =
    by-test (eqb x y)
    (λ e. ap₂ ◌∷◌ (eqb-true x y e) (same_at xs ys (rw (e, same) at t)))
    (λ e. true-false false (rw (e, same) at t) refl)

-- what the computed form says: the layout of each word, and both equations
pub record Lawful (ws rs : List ℕ) : Type 0 where
  pub layout : (p : ℕ) → p < length ws → is_page_word (get_or ws p 0) ≡ true
  pub pages : ws ≡ with_bits ws
  pub ranges : rs ≡ range_words ws

pub lawful-at : (ws rs : List ℕ) → lawful_ranges ws rs ≡ true → Lawful ws rs
unfolding lawful_ranges all_page_words
lawful-at ws rs t =
    let p = and-true _ _ t in
    let q = and-true _ _ p.1 in
    record { layout = every-at (λ i w. is_page_word w) 0 ws 0 p.0; pages = same_at _ _ q.0; ranges = same_at _ _ q.1 }

pub at-lawful : (ws rs : List ℕ) → Lawful ws rs → lawful_ranges ws rs ≡ true
unfolding lawful_ranges all_page_words
at-lawful ws rs l =
    true-and _ _ (at_every (λ i w. is_page_word w) 0 ws 0 l.layout)
    (true-and _ _ (ap (same ws) (sym l.pages) ∙ same_refl ws) (ap (same rs) (sym l.ranges) ∙ same_refl rs))

-- a test that decides it is the definition
pub decided : (ws rs : List ℕ) (r : Bool) → Decides r (Lawful ws rs) → r ≡ lawful_ranges ws rs
decided ws rs true d = sym (at-lawful ws rs (d.yes refl))
decided ws rs false d = by-test (lawful_ranges ws rs) (λ t. absurd (d.no refl (lawful-at ws rs t))) (λ t. sym t)

-- what the leaf functions show
pub says-no : {P : Type 0} (r : Bool) → r ≡ false → (P → ⊥) → Decides r P
says-no r e n = record { yes = λ t. true-false r t e; no = λ f p. n p }

pub says-yes : {P : Type 0} (r : Bool) → r ≡ true → P → Decides r P
says-yes r e p = record { yes = λ t. p; no = λ f q. true-false r e f }

-- equality of two bools
beq-true : (a b : Bool) → beq a b ≡ true → a ≡ b
beq-true true true t = refl
beq-true true false t = true-false false t refl
beq-true false true t = true-false false t refl
beq-true false false t = refl

beq-refl : (a : Bool) → beq a a ≡ true
beq-refl true = refl
beq-refl false = refl

-- the ways that a word fits, or not
pub word_none : (on : Bool) (v w : ℕ) → mapped w ≡ false → Decides (eqb w 0) (WordFits on v w)
word_none on v w m = record {
  yes = λ t. record { layout = zero_word w (eqb-true _ _ t); bit = λ o n. true-false (mapped w) n m };
  no = λ t p. word-cases w p.layout (eqb-false _ _ t) (λ n. true-false (mapped w) n m);
}

pub word-wrong : (on : Bool) (v w r : ℕ) → mapped w ≡ true → r ≡ rights_in w → allowed_rights r ≡ false → WordFits on v w → ⊥
word-wrong on v w r m e f p = true-false (allowed_rights (rights_in w)) (word-rights w p.layout m) (ap allowed_rights (sym e) ∙ f)

pub word_on : (on : Bool) (v w r : ℕ) (a b : Bool) → mapped w ≡ true → r ≡ rights_in w → allowed_rights r ≡ true → on ≡ true → a ≡ range_bit w → b ≡ range_bit v → Decides (beq a b) (WordFits on v w)
word_on on v w r a b m e f o x y = record {
  yes = λ t. record { layout = mapped-word w m (ap allowed_rights (sym e) ∙ f); bit = λ u n. sym x ∙ beq-true a b t ∙ y };
  no = λ t p. let e : a ≡ b = x ∙ p.bit o m ∙ sym y in true-false (beq a b) (rw e (beq-refl b)) t;
}

pub word-new : (on : Bool) (v w r : ℕ) → mapped w ≡ true → r ≡ rights_in w → allowed_rights r ≡ true → on ≡ false → WordFits on v w
word-new on v w r m e f o = record { layout = mapped-word w m (ap allowed_rights (sym e) ∙ f); bit = λ t n. true-false on t o }

zeros-end : (rs : List ℕ) (at j : ℕ) → at ≤ length rs → length rs ≤ j → ((q : ℕ) → at ≤ q → q < j → get_or rs q 0 ≡ 0) → rs ≡ zero_from rs at
unfolding zero_from
zeros-end rs at j lo e h =
    let z : drop at rs ≡ replicate (length rs - at) 0 =
    ext_get_or 0 (drop at rs) (replicate (length rs - at) 0) (length-drop at rs ∙ sym (length-replicate (length rs - at) 0)) (λ q lt.
    let k : q < length rs - at = omega (arith, length-drop at rs) in
    get_or-drop at rs q 0 ∙ h (at + q) (omega arith) (omega arith) ∙ sym (get_or-replicate (length rs - at) q 0 0 k))
    in
    sym (take-append-drop at rs) ∙ ap (λ (l : List ℕ). take at rs ++ l) z

zeros-no : (rs : List ℕ) (at j : ℕ) → at ≤ j → j < length rs → (get_or rs j 0 ≡ 0 → ⊥) → rs ≡ zero_from rs at → ⊥
unfolding zero_from
zeros-no rs at j lo hi ne e =
    let l : length (take at rs) ≡ at = length-take-le at rs (omega arith) in
    let k : length (take at rs) + (j - at) ≡ j = omega arith in
    let g : get_or (take at rs ++ replicate (length rs - at) 0) j 0 ≡ 0 =
    rw (← k) (get_or-append-add (take at rs) (replicate (length rs - at) 0) (j - at) 0 ∙ get_or-replicate (length rs - at) (j - at) 0 0 (omega arith))
    in
    ne (ap (λ (x : List ℕ). get_or x j 0) e ∙ g)

pub zeros-all : (rs : List ℕ) (at : ℕ) (r : Bool) → at ≤ length rs → r ≡ all_from (length rs - at) at (same_in rs 0) → Decides r (rs ≡ zero_from rs at)
unfolding same_in
zeros-all rs at r h e = record {
  yes = λ t. zeros-end rs at (length rs) h (omega arith) (λ q lo hi. eqb-true _ _ (all_from_at (length rs - at) at (same_in rs 0) (sym e ∙ t) q lo (omega arith)));
  no = λ f.
      let x = some-fails (length rs - at) at (same_in rs 0) (sym e ∙ f) in
      let lo = x.1 in
      let hi = x.2 in
      zeros-no rs at x.0 lo (omega arith) (eqb-false _ _ x.3);
}

-- The walk at page i: the words before it are of the layout, the pages before the run are settled, those of the run have the range bit of the last
pub record Checking (ws rs : List ℕ) (i n v at : ℕ) : Type 0 where
  pub walked : Walked ws rs i n v at
  pub layout : (q : ℕ) → q < i → is_page_word (get_or ws q 0) ≡ true
  pub settled : (q : ℕ) → q + n < i → get_or ws q 0 ≡ bit_at ws q
  pub unsettled : (q : ℕ) → i ≤ q + n → q < i → get_or ws q 0 ≡ bit_word (range_bit v) (get_or ws q 0)

pub check-start : (ws rs : List ℕ) → length ws ≡ 1024 → length rs ≡ 512 → Checking ws rs 0 0 0 0
check-start ws rs e f = record { walked = walk_start ws rs e f; layout = λ q h. absurd (omega arith); settled = λ q h. absurd (omega arith); unsettled = λ q lo hi. absurd (omega arith) }

module _ (ws rs : List ℕ) (i n v at : ℕ) (s : Checking ws rs i n v at) where
  step_left : (on : Bool) (w : ℕ) → i < 1024 → w ≡ get_or ws i 0 → on ≡ joins v w → Left _ _ _ _ _ _ s.walked on
  step_left = left_step _ _ _ _ _ _ s.walked

  pub check-room : (on : Bool) (w : ℕ) → i < 1024 → w ≡ get_or ws i 0 → on ≡ joins v w → at + length (ended on i n v) ≤ 512
  check-room on w h e o = left-room _ _ _ _ _ _ s.walked on (step_left on w h e o)

  pub end-room : i ≡ 1024 → at + length (ended false i n v) ≤ 512
  end-room h = left-room _ _ _ _ _ _ s.walked false (left_end _ _ _ _ _ _ s.walked h)

  -- the running length at page i as the walk computes it, and whether the run goes on there
  pub goes-here : (w m : ℕ) → i < 1024 → w ≡ get_or ws i 0 → RunningLength ws i m → (m ≡ goes_on n v w) × (ltb 1 m ≡ joins v w)
  goes-here w m h e r =
      let lt : i < length ws = omega (arith, s.walked.size) in
      (running-only ws i n v lt s.walked.carries w m e r, running-joins ws i n v lt s.walked.carries w m e r)

  -- the words that are listed stand there
  taken_more : (on : Bool) → at + length (ended on i n v) ≤ 512 → EndFits rs on at i n v → take (at + length (ended on i n v)) rs ≡ take at rs ++ ended on i n v
  unfolding part
  taken_more true r f = rw (ended-on i n v, add-zero at) (sym (append-nil (take at rs)))
  taken_more false r f =
      by-dec (dec_le 8 n)
      (λ h.
      let four : length (ended false i n v) ≡ 4 = rw (ended-long i n v h) (length-entry i n v) in
      rw (four, ended-long i n v h) (take-add at 4 rs ∙ ap (λ (l : List ℕ). take at rs ++ l) (f.entry refl h)))
      (λ h. rw (ended-short i n v (omega arith), add-zero at) (sym (append-nil (take at rs))))

  -- where the run ends, its pages have its range bit
  all_right : whole ws i ≡ run_before ws i → EndFits rs false at i n v → (q : ℕ) → q < i → get_or ws q 0 ≡ bit_at ws q
  all_right w f q lt =
      by-dec (dec_lt (q + n) i) (λ before. s.settled q before)
      (λ in-run. s.unsettled q (omega arith) lt ∙ ap (λ (b : Bool). bit_word b (get_or ws q 0)) (f.bit refl) ∙ sym (bit-run _ _ _ _ _ _ s.walked w q lt (omega arith)))

  -- one page further
  pub check-step : (on : Bool) (w m at' : ℕ) → i < 1024 → w ≡ get_or ws i 0 → on ≡ joins v w → EndFits rs on at i n v → WordFits on v w → m ≡ goes_on n v w → at' ≡ at + length (ended on i n v)
      → Checking ws rs (i + 1) m w at'
  unfolding bit_at
  check-step on w m at' h e o f g mm p =
      let le = run-le _ _ _ _ _ _ s.walked in
      let room = check-room on w h e o in
      let own : get_or ws i 0 ≡ bit_word (range_bit w) (get_or ws i 0) = rw (← e) (own-bit w g.layout) in
      record {
        walked = walk_step _ _ _ _ _ _ s.walked rs on w m at' h e o mm p s.walked.table (rw p (taken_more on room f));
        layout = λ q lt. by-dec (ℕ_discrete q i) (λ same. rw (same, ← e) g.layout) (λ ne. s.layout q (omega arith));
        settled = by-test on
            (λ t q lt. s.settled q (omega (arith, goes-join n v w (sym o ∙ t))))
            (λ t q lt.
            by-dec (ℕ_discrete q i)
            (λ same.
            let z : mapped (get_or ws i 0) ≡ false = ap mapped (sym e) ∙ goes-zero n v w (omega arith) in
            rw same (own ∙ bit-none (range_bit w) (get_or ws i 0) z ∙ sym (bit-none (leb 8 (whole ws (suc i))) (get_or ws i 0) z)))
            (λ ne. all_right (stops-step _ _ _ _ _ _ s.walked w h e (sym o ∙ t)) (rw t at f) q (omega arith)));
        unsettled = λ q lo hi.
            by-dec (ℕ_discrete q i)
            (λ same. rw same own)
            (λ ne. by-test on
            (λ t.
            s.unsettled q (omega (arith, goes-join n v w (sym o ∙ t))) (omega arith)
            ∙ ap (λ (b : Bool). bit_word b (get_or ws q 0)) (sym (g.bit t (joins_at v w (sym o ∙ t)).next)))
            (λ t. absurd (omega (arith, goes-new n v w (sym o ∙ t), one-if-le (mapped w)))));
      }

  -- a mapped word before page i is that of a page, and has allowed rights
  before-page : mapped v ≡ true → 1 ≤ i
  before-page m = by-dec (dec_le 1 i) (λ y. y) (λ z. true-false _ m (ap mapped (word-is _ _ _ _ _ _ s.walked) ∙ last_none ws i (omega (arith, before-le ws i))))

  before-rights : mapped v ≡ true → allowed_rights (rights_in v) ≡ true
  before-rights m =
      let pos = before-page m in
      let v-is : v ≡ get_or ws (i - 1) 0 = word-is _ _ _ _ _ _ s.walked ∙ before-word ws i pos in
      word-rights v (ap is_page_word v-is ∙ s.layout (i - 1) (omega arith)) m

  -- over a stretch
  check-onward : (k : ℕ) → mapped v ≡ true → Onward ws i v k → Checking ws rs (i + k) (n + k) (v + k) at
  check-onward k m o = record {
    walked = walk-onward ws rs i n v at k m s.walked o;
    layout = λ q lt.
        by-dec (dec_lt q i)
        (λ before. s.layout q before)
        (λ here.
        let frames = o.frames in
        let b = ahead v (q - i + 1) m (omega arith) in
        rw (word q (omega arith) lt) (mapped-word _ b.maps (ap allowed_rights b.rights ∙ before-rights m)));
    settled = λ q lt. s.settled q (omega arith);
    unsettled = λ q lo hi.
        let a = ahead v k m o.frames in
        by-dec (dec_lt q i)
        (λ before. s.unsettled q (omega arith) before ∙ ap (λ (b : Bool). bit_word b (get_or ws q 0)) (sym a.bit))
        (λ here.
        let frames = o.frames in
        let b = ahead v (q - i + 1) m (omega arith) in
        rw (word q (omega arith) hi) (bit-of _ b.maps ∙ ap (λ (x : Bool). bit_word x (v + (q - i + 1))) (b.bit ∙ sym a.bit)));
  }
    where
      word : (q : ℕ) → i ≤ q → q < i + k → get_or ws q 0 ≡ v + (q - i + 1)
      word q lo hi = let e : i + (q - i) ≡ q = omega arith in rw e at (o.next (q - i) (omega arith))

  -- Of a lawful space every test holds
  module _ (l : Lawful ws rs) where
    word_at : (q : ℕ) → q < 1024 → get_or ws q 0 ≡ bit_at ws q
    word_at q h = ap (λ (x : List ℕ). get_or x q 0) l.pages ∙ with_bits_at ws q (omega (arith, s.walked.size))

    before-zero : mapped v ≡ false → v ≡ 0
    unfolding word_before bit_at
    before-zero m =
        by-dec (dec_le 1 i)
        (λ pos.
        let v-is : v ≡ get_or ws (i - 1) 0 = word-is _ _ _ _ _ _ s.walked ∙ before-word ws i pos in
        v-is ∙ word_at (i - 1) (omega (arith, s.walked.inside)) ∙ bit-none _ (get_or ws (i - 1) 0) (ap mapped (sym v-is) ∙ m))
        (λ none. let z : i ≡ 0 = omega arith in word-is _ _ _ _ _ _ s.walked ∙ ap (word_before ws) z)

    bit-fits : whole ws i ≡ run_before ws i → range_bit v ≡ leb 8 n
    bit-fits w =
        by-dec (dec_le 1 n)
        (λ h.
        let le = run-le _ _ _ _ _ _ s.walked in
        let v-is : v ≡ get_or ws (i - 1) 0 = word-is _ _ _ _ _ _ s.walked ∙ before-word ws i (omega arith) in
        let x : get_or ws (i - 1) 0 ≡ bit_word (leb 8 n) (get_or ws (i - 1) 0) = word_at (i - 1) (omega (arith, s.walked.inside)) ∙ bit-run _ _ _ _ _ _ s.walked w (i - 1) (omega arith) (omega arith) in
        of-bit (leb 8 n) v (ap mapped (word-is _ _ _ _ _ _ s.walked) ∙ last-mapped ws i (omega (arith, run_is _ _ _ _ _ _ s.walked))) (rw v-is x))
        (λ h.
        let z : n ≡ 0 = omega arith in
        let m : mapped v ≡ false = ap mapped (word-is _ _ _ _ _ _ s.walked) ∙ last_none ws i (sym (run_is _ _ _ _ _ _ s.walked) ∙ z) in
        bit-zero v (before-zero m) ∙ sym (lt-leb 8 n (omega arith)))

    entry-fits : (on : Bool) → Left _ _ _ _ _ _ s.walked on → on ≡ false → 8 ≤ n → part at 4 rs ≡ entry_of i n v
    unfolding range_words part
    entry-fits on x o h =
        let four : ended on i n v ≡ entry_of i n v = rw o (ended-long i n v h) in
        let z : List ℕ = replicate (512 - length (entries ws)) 0 in
        let all : rs ≡ take at rs ++ (entry_of i n v ++ (x.more ++ z)) =
        l.ranges ∙ ap (λ (y : List ℕ). y ++ z) (s.walked.listed ∙ ap (λ (y : List ℕ). take at rs ++ y) (x.is ∙ ap (λ (y : List ℕ). y ++ x.more) four))
        ∙ append_assoc (take at rs) (entry_of i n v ++ x.more) z ∙ ap (λ (y : List ℕ). take at rs ++ y) (append_assoc (entry_of i n v) x.more z)
        in
        let d : drop at rs ≡ entry_of i n v ++ (x.more ++ z) = ap (drop at) all ∙ drop_at (take at rs) (entry_of i n v ++ (x.more ++ z)) at (at_length _ _ _ _ _ _ s.walked) in
        ap (take 4) d ∙ take_at (entry_of i n v) (x.more ++ z) 4 (length-entry i n v)

    pub end-holds : (on : Bool) (w : ℕ) → i < 1024 → w ≡ get_or ws i 0 → on ≡ joins v w → EndFits rs on at i n v
    end-holds on w h e o = record {
      bit = λ f. bit-fits (stops-step _ _ _ _ _ _ s.walked w h e (sym o ∙ f));
      entry = λ f g. entry-fits on (step_left on w h e o) f g;
    }

    pub last-holds : i ≡ 1024 → EndFits rs false at i n v
    last-holds h = record { bit = λ f. bit-fits (stops_end _ _ _ _ _ _ s.walked h); entry = λ f g. entry-fits false (left_end _ _ _ _ _ _ s.walked h) f g }

    pub word_holds : (on : Bool) (w : ℕ) → i < 1024 → w ≡ get_or ws i 0 → on ≡ joins v w → WordFits on v w
    unfolding bit_at
    word_holds on w h e o = record {
      layout = rw e (l.layout i (omega (arith, s.walked.size)));
      bit = λ t ne.
          let j = joins_at v w (sym o ∙ t) in
          let pos = before-page j.this in
          let v-is : v ≡ get_or ws (i - 1) 0 = word-is _ _ _ _ _ _ s.walked ∙ before-word ws i pos in
          let k : suc (i - 1) ≡ i = omega arith in
          let st : whole ws (suc i) ≡ whole ws i = whole-step ws i (omega (arith, s.walked.size)) (rw (← e, ← word-is _ _ _ _ _ _ s.walked) (sym o ∙ t)) in
          let x : get_or ws (i - 1) 0 ≡ bit_word (leb 8 (whole ws (suc i))) (get_or ws (i - 1) 0) = word_at (i - 1) (omega (arith, s.walked.inside)) ∙ ap (λ (y : ℕ). bit_word (leb 8 y) (get_or ws (i - 1) 0)) (ap (whole ws) k ∙ sym st) in
          let y : v ≡ bit_word (leb 8 (whole ws (suc i))) v = rw v-is x in
          of-bit (leb 8 (whole ws (suc i))) w j.next (rw e (word_at i h)) ∙ sym (of-bit (leb 8 (whole ws (suc i))) v j.this y);
    }

  -- the end: what is left to look at are the last run and the zeros
  pub check-end : (r : Bool) → i ≡ 1024 → Decides r (EndFits rs false at i n v × (rs ≡ zero_from rs (at + length (ended false i n v)))) → r ≡ lawful_ranges ws rs
  check-end r h d =
      let z = s.walked.size in
      decided ws rs r (record {
        yes = λ t.
            let f = (d.yes t).0 in
            record {
              layout = λ q lt. s.layout q (omega arith);
              pages = ext_get_or 0 ws (with_bits ws) (sym (length-with_bits ws)) (λ q lt. all_right (stops_end _ _ _ _ _ _ s.walked h) f q (omega arith) ∙ sym (with_bits_at ws q lt));
              ranges = (d.yes t).1 ∙ words f;
            };
        no = λ t l. let f = last-holds l h in d.no t (f, l.ranges ∙ sym (words f));
      })
    where
      words : EndFits rs false at i n v → zero_from rs (at + length (ended false i n v)) ≡ range_words ws
      words f = let e = walk_end _ _ _ _ _ _ s.walked rs _ h refl s.walked.table (taken_more false (end-room h) f) in zeros-follow ws rs _ s.walked.table e.0 e.1

check-empty : (ws rs : List ℕ) (i at k : ℕ) → Checking ws rs i 0 0 at → Empty ws i k → Checking ws rs (i + k) 0 0 at
unfolding bit_at
check-empty ws rs i at k s e = record {
  walked = walk-empty ws rs i at k s.walked e;
  layout = λ q lt. by-dec (dec_lt q i) (λ before. s.layout q before) (λ here. zero_word _ (e.zero q (omega arith) (omega arith)));
  settled = λ q lt.
      by-dec (dec_lt q i)
      (λ before. s.settled q (omega arith))
      (λ here.
      let z : get_or ws q 0 ≡ 0 = e.zero q (omega arith) (omega arith) in
      z ∙ sym (bit-none _ (get_or ws q 0) (zero-unmapped _ z)));
  unsettled = λ q lo hi. absurd (omega arith);
}

-- whatever is carried at page i is the same number and word
check-carries : (ws rs : List ℕ) (i n v at m w : ℕ) → Checking ws rs i n v at → Carries ws i m w → Checking ws rs i m w at
check-carries ws rs i n v at m w s c =
    let e = carries-is ws i m w (inside-words _ _ _ _ _ _ s.walked) c in
    let a : m ≡ n = e.0 ∙ sym (run_is _ _ _ _ _ _ s.walked) in
    let b : w ≡ v = e.1 ∙ sym (word-is _ _ _ _ _ _ s.walked) in
    rw (a, b) s

pub check_along : (ws rs : List ℕ) (i n v at p m j n' v' : ℕ) → Checking ws rs i n v at → Along ws i v p m → j ≡ i + p → Carries ws (i + p) n' v' → Checking ws rs j n' v' at
check_along ws rs i n v at p m j n' v' s along e c = rw e (check-carries ws rs (i + p) (n + m) (v + m) at n' v' (go p m along) c)
  where
    go : (p m : ℕ) → Along ws i v p m → Checking ws rs (i + p) (n + m) (v + m) at
    go p m nowhere = rw (add-zero i, add-zero n, add-zero v) s
    go p m (empty z e) =
        let none : n ≡ 0 = no_run _ _ _ _ (inside-words _ _ _ _ _ _ s.walked) s.walked.carries z in
        rw (none, z) (check-empty ws rs i at p (rw (none, z) at s) e)
    go p m (onward t o) = check-onward ws rs i n v at s p t o

-- a test that failed
pub refuted : (ws rs : List ℕ) → (Lawful ws rs → ⊥) → false ≡ lawful_ranges ws rs
refuted ws rs n = decided ws rs false (record { yes = λ t. true-false false t refl; no = λ t l. n l })
