-- Rights: how those asked for are judged, and that sound tables hold no reserved ones.
use mathlib.Core.Path.{◌≡◌, refl, ap, ◌∙◌, sym}
use mathlib.Core.Bool.{Bool, true, ◌&&◌, not}
use mathlib.Core.List.{List, [], ◌∷◌}
use Prim.Native.Nat.{ℕ, ◌<◌, ◌≤◌}
use native.Mathlib.Omega.{arith}
use lib.Dec.{eqb, ltb}
use lib.ListN.{length, get_or}
use borrow.Author.Tests.{eqb-false, ltb-true, ltb-false, le-ltb, not-true}
use Rattle.words.specs.Refusals.{Refusal, decide, numbers}
use Rattle.words.specs.Rows.{number_of, after}
use Rattle.words.proofs.Cases.{by-test, and-true, true-false}
use Rattle.words.proofs.RefusalLaws.{refused, passed}
use Rattle.words.proofs.RowLaws.{promised-number}
use Rattle.runs.specs.PageWords.{reserved_rights, NotReserved, mapped, rights_in}
use Rattle.runs.proofs.WordLaws.{reserved-is, is-reserved, reserved-low, not-reserved, zero-unreserved, word-rights}
use Rattle.runs.proofs.CheckLaws.{lawful-at}
use Rattle.runs.proofs.BaseLimitLaws.{entry-rights}
use Rattle.runs.proofs.ExactLaws.{ranges-exactly}
use Rattle.layout.specs.Tables.{Tables, right_lengths, space_pages}
use Rattle.layout.specs.Sound.{sound}
use Rattle.layout.specs.Calls.{wrong_length, unsound, no_such_space, wrong_rights, write_without_read, sized_row, row}
use Rattle.layout.specs.Statements.{by_map, by-protect, by-preview, RightsJudged, RightsRefused, ReservedUnsound}
use Rattle.layout.proofs.SoundLaws.{lengths-at, pages-long, ranges-long, sound-parts}

-- n is none of the numbers
unfoldable lacks : ℕ → List ℕ → Bool
lacks n [] = true
lacks n (m ∷ ms) = not (eqb m n) && lacks n ms

-- so it is not the answer
lacking : (n : ℕ) (rs : List (Refusal ℕ)) → (n ≡ 0 → ⊥) → lacks n (numbers rs) ≡ true → decide rs 0 ≡ n → ⊥
unfolding lacks numbers decide
lacking n [] nz t e = nz (sym e)
lacking n (r ∷ rs) nz t e =
    let u = and-true (not (eqb r.answer n)) (lacks n (numbers rs)) t in
    by-test r.when
    (λ w. eqb-false r.answer n (not-true _ u.0) (rw (w, decide) at e))
    (λ w. lacking n rs nz u.1 (rw (w, decide) at e))

-- 6 and 17 are judged before refusals of other numbers
judged : (rights : ℕ) (more : List (Refusal ℕ)) → lacks 6 (numbers more) ≡ true → lacks 17 (numbers more) ≡ true
    → (n : ℕ) → n ≡ decide (wrong_rights rights ∷ write_without_read rights ∷ more) 0 → RightsJudged rights n
judged rights more a b n e =
    by-test (ltb 7 rights)
    (λ t.
    let above : 7 < rights = ltb-true 7 rights t in
    let k : n ≡ 6 = e ∙ refused _ _ _ _ t in
    record { six = (λ x. above, λ x. k); seventeen = (λ x. absurd (omega arith), λ x. absurd (omega (arith, reserved-low rights (is-reserved rights x)))) })
    (λ f.
    let low : rights ≤ 7 = ltb-false 7 rights f in
    by-test (reserved_rights rights)
    (λ t.
    let k : n ≡ 17 = e ∙ passed _ _ _ _ f ∙ refused _ _ _ _ t in
    record { six = (λ x. absurd (omega arith), λ x. absurd (omega arith)); seventeen = (λ x. reserved-is rights t, λ x. k) })
    (λ g.
    let k : n ≡ decide more 0 = e ∙ passed _ _ _ _ f ∙ passed _ _ _ _ g in
    record {
      six = (λ x. absurd (lacking 6 more (λ z. omega arith) a (sym k ∙ x)), λ x. absurd (omega arith));
      seventeen = (λ x. absurd (lacking 17 more (λ z. omega arith) b (sym k ∙ x)), λ x. true-false (reserved_rights rights) (is-reserved rights x) g);
    }))

-- where 1, 2 and 5 do not apply
module _ (T : Tables) (l : right_lengths T ≡ true) (t : sound T ≡ true) (s : ℕ) (h : s ≤ 3) where
  host-passed : (rs : List (Refusal ℕ)) → decide (wrong_length T ∷ unsound T ∷ no_such_space s ∷ rs) 0 ≡ decide rs 0
  host-passed rs = passed _ _ _ _ (ap not l) ∙ passed _ _ _ _ (ap not t) ∙ passed _ _ _ _ (le-ltb 3 s h)

pub rights-refused : RightsRefused
unfolding RightsRefused number_of row after sized_row lacks numbers
rights-refused c s rights by_map T o T' d l t h = judged rights _ refl refl o.number (promised-number (row T c) T o T' d ∙ host-passed T l t s h _)
rights-refused c s rights by-protect T o T' d l t h = judged rights _ refl refl o.number (promised-number (row T c) T o T' d ∙ host-passed T l t s h _)
rights-refused c s rights by-preview T o T' d l t h = judged rights _ refl refl o.number (promised-number (row T c) T o T' d ∙ host-passed T l t s h _)

pub reserved-unsound : ReservedUnsound
unfolding ReservedUnsound
reserved-unsound T l t = record {
  words = λ s p h hp m. page s h p (omega (arith, pages-long T (lengths-at T l) s h)) m;
  entries = λ s j h hj.
      let w = (ranges-exactly _ _ (pages-long T (lengths-at T l) s h) (ranges-long T (lengths-at T l) s h)).0 ((sound-parts T t).spaces s h) in
      rw w.split (entry-rights (space_pages T.pages s) NotReserved zero-unreserved (page s h) 0 w.unused w.used w.listed j);
}
  where
    page : (s : ℕ) → s ≤ 3 → (p : ℕ) → p < length (space_pages T.pages s) → mapped (get_or (space_pages T.pages s) p 0) ≡ true → NotReserved (rights_in (get_or (space_pages T.pages s) p 0))
    page s h p lt m = not-reserved _ (word-rights _ ((lawful-at _ _ ((sound-parts T t).spaces s h)).layout p lt) m)
