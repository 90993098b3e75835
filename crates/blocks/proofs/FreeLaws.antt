-- Freeing, and that freeing undoes an allocation.
use mathlib.Core.Path.{◌≡◌, refl, ap, ◌∙◌, sym}
use mathlib.Core.Bool.{Bool, true, false, not}
use mathlib.Core.Option.{Option}
use mathlib.Core.List.{List, [], ◌∷◌, ◌++◌}
use Prim.Native.Nat.{ℕ, zero, suc, ◌+◌, ◌-◌, ◌<◌, ◌≤◌, zero-le}
use native.Mathlib.Nat.{not-suc-le-zero, add-zero, zero-add}
use native.Mathlib.Decide.{dec_lt, dec_le, ℕ_discrete}
use native.Mathlib.Omega.{arith}
use lib.Dec.{eqb, ltb}
use lib.ListN.{length, get_or, set, take, drop}
use Rattle.std.proofs.lemmas.List.{get_or-take, get_or-drop, get_or_append_left}
use Rattle.std.proofs.Math.Seq.{get_or-append_right}
use lib.Seq.{get_or-set_same, get_or-set_other}
use borrow.Author.Tests.{leb-true, ltb-true, eqb-true, eq-eqb, ne_eqb, le-leb, lt-ltb, le-ltb, not-true, not-false}
use Rattle.words.specs.Counts.{count, one-if}
use Rattle.words.specs.Searches.{any_from, all_from}
use Rattle.words.proofs.Cases.{by-test, by-dec, true-false, and-true, true-and}
use Rattle.words.proofs.SearchLaws.{at-any, any_none, any-more, all_from_at, at-all_from, some-fails}
use Rattle.words.specs.Inner.{same_in, PassTo}
use Rattle.blocks.specs.FrameWords.{owner_of, owners_of, free_in, frame_words}
use Rattle.blocks.specs.Choice.{frames_for, blocks_for}
use Rattle.blocks.specs.Owners.{put, give, in_span, cleared, freed, holds}
use Rattle.blocks.specs.Inner.Passes.{ClearedTo, MarkedOne, MarkedTo}
use Rattle.blocks.proofs.WordLaws.{owner-low, owner-high, owners-small, free-zero, Lawful, lawful-table, owners-high, owners-again, words-ext}
use Rattle.blocks.proofs.ChoiceLaws.{Good, takes-good, takes_all}
use Rattle.blocks.proofs.AllocateLaws.{put_same, put_other}

-- the span of owners

module _ (o n p : ℕ) where
  pub in-span : o ≤ p → p < o + n → in_span o n p ≡ true
  unfolding in_span
  in-span lo hi = true-and _ _ (le-leb o p lo) (lt-ltb p (o + n) hi)

  pub span-in : in_span o n p ≡ true → (o ≤ p) × (p < o + n)
  unfolding in_span
  span-in t = let q = and-true _ _ t in (leb-true _ _ q.0, ltb-true _ _ q.1)

  -- as the code tests it
  pub span-low : p < o → false ≡ in_span o n p
  span-low lt = by-test (in_span o n p) (λ t. absurd (omega (arith, (span-in t).0))) sym

  pub span-high : o ≤ p → ltb (p - o) n ≡ in_span o n p
  unfolding in_span
  span-high lo =
      by-dec (dec_lt (p - o) n)
      (λ lt. lt-ltb (p - o) n lt ∙ sym (in-span lo (omega arith)))
      (λ ge. le-ltb (p - o) n (omega arith) ∙ sym (by-test (in_span o n p) (λ t. absurd (omega (arith, (span-in t).1))) (λ t. t)))

  pub cleared-in : in_span o n p ≡ true → 0 ≡ cleared o n p
  unfolding cleared
  cleared-in t = rw (t, cleared)

  pub cleared-out : in_span o n p ≡ false → p ≡ cleared o n p
  unfolding cleared
  cleared-out t = rw (t, cleared)

  clear_in : o ≤ p → p < o + n → 0 ≡ cleared o n p
  clear_in lo hi = cleared-in (in-span lo hi)

  clear-out : (o ≤ p → p < o + n → ⊥) → p ≡ cleared o n p
  clear-out out = by-test (in_span o n p) (λ t. let q = span-in t in absurd (out q.0 q.1)) cleared-out

-- the owner of a cleared word
clear-owner : (o n w : ℕ) → 1 ≤ o → o + n ≤ 4097 → owner_of (cleared o n w) ≡ cleared o n (owner_of w)
clear-owner o n w pos room =
    by-dec (dec_le w 4096)
    (λ le. by-test (in_span o n w)
    (λ t. let q = span-in o n w t in let z = clear_in o n w q.0 q.1 in ap owner_of (sym z) ∙ owner-low 0 (omega arith) ∙ z ∙ ap (cleared o n) (sym (owner-low w le)))
    (λ t. let z = clear-out o n w (λ lo hi. true-false (in_span o n w) (in-span o n w lo hi) t) in
    ap owner_of (sym z) ∙ owner-low w le ∙ z ∙ ap (cleared o n) (sym (owner-low w le))))
    (λ gt.
    let z : owner_of w ≡ 0 = owner-high w (omega arith) in
    let same : w ≡ cleared o n w = clear-out o n w (λ lo hi. omega arith) in
    let none : 0 ≡ cleared o n 0 = clear-out o n 0 (λ lo hi. omega arith) in
    ap owner_of (sym same) ∙ z ∙ none ∙ ap (cleared o n) (sym z))

-- freeing frees no owner outside the span, and holds nothing that was free

pub freed-small : (owner : ℕ → ℕ) (o n g : ℕ) → owner g ≤ 4096 → freed owner o n g ≤ 4096
unfolding freed
freed-small owner o n g h =
    by-test (in_span o n (owner g))
    (λ t. let z = cleared-in o n (owner g) t in omega arith)
    (λ t. let z = cleared-out o n (owner g) t in omega arith)

pub freed-zero : (owner : ℕ → ℕ) (o n g : ℕ) → 1 ≤ o → owner g ≡ 0 → freed owner o n g ≡ 0
unfolding freed
freed-zero owner o n g pos z = ap (cleared o n) z ∙ sym (clear-out o n 0 (λ lo hi. omega arith))

-- the pass that clears

-- the first n words are changed, and the others stand behind them as before
pub cleared-front : (b : List ℕ) (o n m k : ℕ) (xs : List ℕ) → m ≤ length b → length xs ≡ m → k ≡ m → ClearedTo (take m b) o n k xs → ClearedTo b o n m (xs ++ drop m b)
cleared-front b o n m k xs h len all c = record {
  inside = λ g lo hi. get_or_append_left xs (drop m b) 0 g (omega arith) ∙ c.inside g lo (omega arith) ∙ ap (cleared o n) (get_or-take m b g 0 hi);
  below = λ g lt. absurd (omega arith);
  above = λ g le.
      let e : m + (g - length xs) ≡ g = omega arith in
      get_or-append_right xs (drop m b) g 0 (omega arith) ∙ get_or-drop m b (g - length xs) 0 ∙ ap (λ (i : ℕ). get_or b i 0) e;
}

pub released : (F : ℕ) (b : List ℕ) (o n : ℕ) (b1 b2 : List ℕ) → 1 ≤ o → o + n ≤ 4097 → ClearedTo b o n F b1 → b2 ≡ frame_words F (owners_of b1)
    → b2 ≡ frame_words F (freed (owners_of b) o n)
unfolding freed owners_of
released F b o n b1 b2 pos room c e =
    e ∙ words-ext F (owners_of b1) (freed (owners_of b) o n) (λ g h. ap owner_of (c.inside g zero-le h) ∙ clear-owner o n (get_or b g 0) pos room)

-- who owns what after frames are given

data Given (owner : ℕ → ℕ) (o : ℕ) (fs : List ℕ) (g : ℕ) : ℕ → Type 0 where
  kept : ((t : ℕ) → t < length fs → get_or fs t 0 ≡ g → ⊥) → Given owner o fs g (owner g)
  new : (t : ℕ) → t < length fs → get_or fs t 0 ≡ g → Given owner o fs g (o + t)

given-cons : (owner : ℕ → ℕ) (o f : ℕ) (fs : List ℕ) (g m : ℕ) → Given (put owner f o) (suc o) fs g m → Given owner o (f ∷ fs) g m
given-cons owner o f fs g m (kept n) =
    by-dec (ℕ_discrete g f)
    (λ e. let z : o + 0 ≡ put owner f o g = add-zero o ∙ sym (put_same owner f o g e) in rw (← z) (new 0 (omega arith) (sym e)))
    (λ ne. let z : owner g ≡ put owner f o g = sym (put_other owner f o g ne) in rw (← z) (kept (λ t h e. not_there t h e ne)))
  where
    not_there : (t : ℕ) → t < suc (length fs) → get_or (f ∷ fs) t 0 ≡ g → (g ≡ f → ⊥) → ⊥
    not_there zero h e ne = ne (sym e)
    not_there (suc t) h e ne = n t (omega arith) e
given-cons owner o f fs g m (new t h e) = let z : o + suc t ≡ suc o + t = omega arith in rw (← z) (new (suc t) (omega arith) e)

given : (owner : ℕ → ℕ) (o : ℕ) (fs : List ℕ) (g : ℕ) → Given owner o fs g (give owner o fs g)
unfolding give
given owner o [] g = kept (λ t h e. not-suc-le-zero h)
given owner o (f ∷ fs) g = given-cons owner o f fs g _ (given (put owner f o) (suc o) fs g)

-- the frame of page t is held by o + t, and a frame that is not given keeps its owner
pub given-at : (F : ℕ) (free : ℕ → Bool) (owner : ℕ → ℕ) (o : ℕ) (fs : List ℕ) → Good F free fs → (t : ℕ) → t < length fs → give owner o fs (get_or fs t 0) ≡ o + t
given-at F free owner o fs good t h = go (give owner o fs (get_or fs t 0)) (given owner o fs (get_or fs t 0))
  where
    go : (m : ℕ) → Given owner o fs (get_or fs t 0) m → m ≡ o + t
    go m (kept n) = absurd (n t h refl)
    go m (new u hu e) = ap (λ (x : ℕ). o + x) (good.once u t hu h e)

pub given-other : (owner : ℕ → ℕ) (o : ℕ) (fs : List ℕ) (g : ℕ) → ((t : ℕ) → t < length fs → get_or fs t 0 ≡ g → ⊥) → give owner o fs g ≡ owner g
given-other owner o fs g n = go (give owner o fs g) (given owner o fs g)
  where
    go : (m : ℕ) → Given owner o fs g m → m ≡ owner g
    go m (kept x) = refl
    go m (new u hu e) = absurd (n u hu e)

-- owners stay small, and none stands at or above F

pub given-low : (owner : ℕ → ℕ) (o : ℕ) (fs : List ℕ) → ((g : ℕ) → owner g ≤ 4096) → o + length fs ≤ 4097 → (g : ℕ) → give owner o fs g ≤ 4096
given-low owner o fs low room g = go (give owner o fs g) (given owner o fs g)
  where
    go : (m : ℕ) → Given owner o fs g m → m ≤ 4096
    go m (kept n) = low g
    go m (new t h e) = omega arith

pub given-high : (F : ℕ) (owner : ℕ → ℕ) (free : ℕ → Bool) (o : ℕ) (fs : List ℕ) → Good F free fs → ((g : ℕ) → F ≤ g → owner g ≡ 0) → (g : ℕ) → F ≤ g → give owner o fs g ≡ 0
given-high F owner free o fs good high g h = go (give owner o fs g) (given owner o fs g)
  where
    go : (m : ℕ) → Given owner o fs g m → m ≡ 0
    go m (kept n) = high g h
    go m (new t ht e) = let r = good.inside t ht in let lt = r.0 in absurd (omega arith)

-- freeing what was given

module _ (F : ℕ) (owner : ℕ → ℕ) (free : ℕ → Bool) (o : ℕ) (fs : List ℕ) (good : Good F free fs) (is_free : (g : ℕ) → free g ≡ true → owner g ≡ 0)
    (nobody : (g : ℕ) → o ≤ owner g → owner g < o + length fs → ⊥) where
  freed-given : (g : ℕ) → freed (give owner o fs) o (length fs) g ≡ owner g
  unfolding freed
  freed-given g = go (give owner o fs g) (given owner o fs g)
    where
      go : (m : ℕ) → Given owner o fs g m → cleared o (length fs) m ≡ owner g
      go m (kept n) = sym (clear-out o (length fs) (owner g) (nobody g))
      go m (new t h e) =
          let fr : owner g ≡ 0 = is_free g (rw e at (good.inside t h).1) in
          sym (clear_in o (length fs) (o + t) (omega arith) (omega arith)) ∙ sym fr

module _ (F : ℕ) (b : List ℕ) (l : Lawful F b) (o : ℕ) (wish : Option ℕ) (n : ℕ) (enough : n ≤ count F (free_in b)) (room : o + n ≤ 4097) where
  frames : List ℕ
  frames = frames_for F (free_in b) wish n

  good : Good F (free_in b) (frames_for F (free_in b) wish n)
  unfolding frames_for blocks_for
  good = takes-good n F (free_in b) wish n

  many : length (frames_for F (free_in b) wish n) ≡ n
  unfolding frames_for blocks_for
  many = takes_all n F (free_in b) wish n (omega arith) enough

  -- the words after an allocation name just its owners
  pub allocated-owners : owners_of (frame_words F (give (owners_of b) o (frames_for F (free_in b) wish n))) ≡ give (owners_of b) o (frames_for F (free_in b) wish n)
  allocated-owners =
      owners-again F (give (owners_of b) o (frames_for F (free_in b) wish n))
      (given-low (owners_of b) o (frames_for F (free_in b) wish n) (λ g. owners-small b g) (omega (arith, many)))
      (given-high F (owners_of b) (free_in b) o (frames_for F (free_in b) wish n) good (λ g h. owners-high F b l g h)) l.small

  -- an allocation, and then the freeing of its owners, leaves the words as they were
  pub freed-again : ((g : ℕ) → o ≤ owners_of b g → owners_of b g < o + n → ⊥)
      → frame_words F (freed (owners_of (frame_words F (give (owners_of b) o (frames_for F (free_in b) wish n)))) o n) ≡ b
  freed-again nobody =
      let nob : (g : ℕ) → o ≤ owners_of b g → owners_of b g < o + length (frames_for F (free_in b) wish n) → ⊥ = λ g x y. nobody g x (omega (arith, many, y)) in
      ap (λ (q : ℕ → ℕ). frame_words F (freed q o n)) allocated-owners
      ∙ words-ext F (freed (give (owners_of b) o (frames_for F (free_in b) wish n)) o n) (owners_of b)
      (λ g h. ap (λ (m : ℕ). freed (give (owners_of b) o (frames_for F (free_in b) wish n)) o m g) (sym many)
      ∙ freed-given F (owners_of b) (free_in b) o (frames_for F (free_in b) wish n) good (λ x t. free-zero b x t) nob g)
      ∙ sym (lawful-table F b l)

-- whether owners of a span hold frames

module _ (b : List ℕ) (o n : ℕ) where
  none-held : (F : ℕ) → ((g : ℕ) → g < F → in_span o n (owners_of b g) ≡ false) → false ≡ any_from n o (holds F (owners_of b))
  unfolding holds
  none-held F c = sym (any_none n o (holds F (owners_of b)) (λ p lo hi. any_none F 0 (λ g. eqb (owners_of b g) p) (λ g glo ghi. ne_eqb (owners_of b g) p (λ e.
      true-false {P = ⊥} (in_span o n (owners_of b g)) (in-span o n (owners_of b g) (omega arith) (omega arith)) (c g (omega arith))))))

  one-held-by : (F g : ℕ) → g < F → in_span o n (owners_of b g) ≡ true → true ≡ any_from n o (holds F (owners_of b))
  unfolding holds
  one-held-by F g h t =
      let q = span-in o n (owners_of b g) t in
      sym (at-any n o (holds F (owners_of b)) (owners_of b g) q.0 q.1 (at-any F 0 (λ x. eqb (owners_of b x) (owners_of b g)) g zero-le (omega arith) (eq-eqb (owners_of b g) (owners_of b g) refl)))

  -- as a scan finds it: 1 is the bit of a frame that one of the owners holds
  pub span_test : (g r : ℕ) → r ≡ one-if (in_span o n (owner_of (get_or b g 0))) → eqb r 0 ≡ not (in_span o n (owners_of b g))
  unfolding one-if owners_of
  span_test g r e = by-test (in_span o n (owner_of (get_or b g 0))) (λ t. rw (e, t, one-if) refl) (λ f. rw (e, f, one-if) refl)

  pub any-scanned : (F k : ℕ) → PassTo (λ g. not (in_span o n (owners_of b g))) 0 F k → ((k ≡ F → ⊥) → not (in_span o n (owners_of b k)) ≡ false) → not (eqb k F) ≡ any_from n o (holds F (owners_of b))
  any-scanned F k x stop =
      by-dec (ℕ_discrete k F)
      (λ q. ap not (eq-eqb k F q) ∙ none-held F (λ g lt. not-true _ (x.pass g zero-le (omega (arith, lt, q)))))
      (λ ne. ap not (ne_eqb k F ne) ∙ one-held-by F k (omega (arith, x.to, ne)) (not-false _ (stop ne)))

  -- where no owner of the span holds a frame, none stands in the buffer below F
  pub nobody-holds : (F : ℕ) → any_from n o (holds F (owners_of b)) ≡ false → (g : ℕ) → g < F → o ≤ owners_of b g → owners_of b g < o + n → ⊥
  nobody-holds F e g h lo hi = true-false {P = ⊥} (any_from n o (holds F (owners_of b))) (sym (one-held-by F g h (in-span o n (owners_of b g) lo hi))) e

-- marks of the owners that hold frames

pub mark-out : (o n w : ℕ) (m : List ℕ) → in_span o n w ≡ false → MarkedOne o n w m m
mark-out o n w m f = record { this = λ t h e. true-false (in_span o n w) (in-span o n w (omega arith) (omega arith)) f; other = λ t h ne. refl }

pub mark-in : (o n w : ℕ) (m : List ℕ) → in_span o n w ≡ true → n ≤ length m → MarkedOne o n w m (set m (w - o) 1)
mark-in o n w m t room =
    let s = span-in o n w t in
    let lo = s.0 in
    let hi = s.1 in
    record {
      this = λ u h e. let z : u ≡ w - o = omega arith in rw z (get_or-set_same m (w - o) 1 0 (omega arith));
      other = λ u h ne. get_or-set_other m (w - o) u 1 0 (λ z. ne (omega arith));
    }

module _ (b : List ℕ) (o n : ℕ) where
  held_by : ℕ → ℕ → Bool
  held_by t g = eqb (owners_of b g) (o + t)

  pub marks-none : (marks : List ℕ) → ((t : ℕ) → t < n → get_or marks t 0 ≡ 0) → MarkedTo b o n 0 marks
  unfolding any_from one-if
  marks-none marks z = record { mark = λ t h. z t h }

  marks-more : (m : ℕ) (marks marks' : List ℕ) → MarkedTo b o n m marks → MarkedOne o n (owners_of b m) marks marks' → MarkedTo b o n (m + 1) marks'
  unfolding one-if held_by
  marks-more m marks marks' w one = record {
    mark = λ t h.
        let s : m + 1 ≡ suc m = omega arith in
        let z : 0 + m ≡ m = zero-add m in
        rw s (by-dec (ℕ_discrete (owners_of b m) (o + t))
        (λ e. one.this t h e ∙ sym (ap one-if (at-any (suc m) 0 (held_by t) m zero-le (omega arith) (eq-eqb (owners_of b m) (o + t) e))))
        (λ ne. one.other t h ne ∙ w.mark t h ∙ sym (ap one-if (any-more m 0 (held_by t) (rw z (ne_eqb (owners_of b m) (o + t) ne))))));
  }

  pub marks-turn : (m w : ℕ) (marks marks' : List ℕ) → MarkedTo b o n m marks → w ≡ owner_of (get_or b m 0) → MarkedOne o n w marks marks' → MarkedTo b o n (m + 1) marks'
  unfolding owners_of
  marks-turn m w marks marks' k e one = marks-more m marks marks' k (rw e at one)

  -- all marks of the span are 1 where all its owners hold frames
  pub marks-all : (F : ℕ) (marks : List ℕ) → MarkedTo b o n F marks → all_from (n - 0) 0 (same_in marks 1) ≡ all_from n o (holds F (owners_of b))
  unfolding same_in holds one-if
  marks-all F marks w =
      let z : n - 0 ≡ n = omega arith in
      rw z (by-test (all_from n 0 (same_in marks 1))
      (λ t. t ∙ sym (at-all_from n o (holds F (owners_of b)) (λ p lo hi.
      let q : o + (p - o) ≡ p = omega arith in
      let one : get_or marks (p - o) 0 ≡ 1 = eqb-true _ _ (all_from_at n 0 (same_in marks 1) t (p - o) zero-le (omega arith)) in
      by-test (holds F (owners_of b) p) (λ y. y)
      (λ y.
      let m = w.mark (p - o) (omega arith) in
      let m0 : one-if (holds F (owners_of b) (o + (p - o))) ≡ 0 = ap (λ (x : ℕ). one-if (holds F (owners_of b) x)) q ∙ ap one-if y in
      absurd (omega (arith, sym one ∙ m ∙ m0))))))
      (λ t. t ∙ sym (not-all t)))
    where
      not-all : all_from n 0 (same_in marks 1) ≡ false → all_from n o (holds F (owners_of b)) ≡ false
      not-all t =
          let r = some-fails n 0 (same_in marks 1) t in
          let hi = r.2 in
          by-test (all_from n o (holds F (owners_of b)))
          (λ y.
          let m = w.mark r.0 (omega arith) in
          let h : holds F (owners_of b) (o + r.0) ≡ true = all_from_at n o (holds F (owners_of b)) y (o + r.0) (omega arith) (omega arith) in
          true-false (same_in marks 1 r.0) (eq-eqb (get_or marks r.0 0) 1 (m ∙ ap one-if h)) r.3)
          (λ y. y)
