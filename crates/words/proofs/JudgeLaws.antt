-- What a judgement's answer says of the refusals that it judged: n is the number that it found, 0 for none.
use mathlib.Core.Path.{◌≡◌, refl, ap, ◌∙◌, sym}
use mathlib.Core.Bool.{true}
use mathlib.Core.List.{List, ◌++◌}
use Prim.Native.Nat.{ℕ}
use native.Mathlib.Omega.{arith}
use Rattle.words.specs.declared.Outcome.{Outcome}
use Rattle.words.specs.declared.answers.Values.{Values}
use Rattle.words.specs.declared.answers.Refused.{Refused}
use Rattle.words.specs.declared.answers.Refused.TheVariants.{WrongLength, Unsound, SeenTooMuch, WrongPoolSize, NoSuchSpace, WrongRights, WriteWithoutRead, WrongAccess, WrongSpan, AlreadyOpen, NotOpen, AlreadyMapped, NotMapped, RightLacking, TooFewFrames, NoNumberLeft, Malformed, NoCounterpart}
use Rattle.words.specs.Refusals.{Refusal, decide, NoneApplies}
use Rattle.words.specs.Rows.{refusal, values, leaves, Row, number_of, Promised, after, in_order}
use Rattle.std.specs.Prelude.{Result, Ok, Err, ⊤, IsErr, IsErrAnd}
use Rattle.words.specs.Answers.{number, outcome, judged}
use Rattle.words.proofs.RefusalLaws.{first_part, second-part}
use Rattle.words.proofs.RowLaws.{kept, renewed, refused-is, accepted-is, same_outcome, zero-none}

-- no refusal has number 0
pub number-some : (r : Refused) → number r ≡ 0 → ⊥
number-some WrongLength e = omega (arith, e)
number-some Unsound e = omega (arith, e)
number-some SeenTooMuch e = omega (arith, e)
number-some WrongPoolSize e = omega (arith, e)
number-some NoSuchSpace e = omega (arith, e)
number-some WrongRights e = omega (arith, e)
number-some WriteWithoutRead e = omega (arith, e)
number-some WrongAccess e = omega (arith, e)
number-some WrongSpan e = omega (arith, e)
number-some AlreadyOpen e = omega (arith, e)
number-some NotOpen e = omega (arith, e)
number-some AlreadyMapped e = omega (arith, e)
number-some NotMapped e = omega (arith, e)
number-some RightLacking e = omega (arith, e)
number-some TooFewFrames e = omega (arith, e)
number-some NoNumberLeft e = omega (arith, e)
number-some Malformed e = omega (arith, e)
number-some NoCounterpart e = omega (arith, e)

-- judging in two parts
module _ (rs : List (Refusal ℕ)) (i : in_order rs ≡ true) where
  pub passes : 0 ≡ decide rs 0 → NoneApplies rs
  passes e = zero-none rs i (sym e)

  pub goes-past : (qs : List (Refusal ℕ)) → 0 ≡ decide rs 0 → decide (rs ++ qs) 0 ≡ decide qs 0
  goes-past qs e = second-part rs qs (passes e)

  module _ (r : Refused) (e : number r ≡ decide rs 0) where
    pub stops-at : (qs : List (Refusal ℕ)) → number r ≡ decide (rs ++ qs) 0
    stops-at qs = e ∙ sym (first_part rs qs (λ z. number-some r (e ∙ z)))

-- a call by its row, from the number that its judgement found
module _ {A : Type 0} (w : Row A) (old : A) where
  pub refused-with : (r : Refused) → number r ≡ number_of w → Promised w old (refusal (number r)) old
  refused-with r e =
      let k : number_of w ≡ 0 → ⊥ = λ z. number-some r (e ∙ z) in
      record { answers = ap refusal e ∙ sym (refused-is w k); leaves-new = kept (number_of w) w.new old k }

  pub done-with : 0 ≡ number_of w → (left : A) → left ≡ w.new → Promised w old (values w.first w.second) left
  done-with e left n = record { answers = sym (accepted-is w (sym e)); leaves-new = n ∙ renewed (number_of w) w.new old (sym e) }

-- a call that is judged in two parts
module _ {A : Type 0} (rs : List (Refusal ℕ)) (i : in_order rs ≡ true) (w : Row A) (old : A) where
  pub stops-with : (r : Refused) → number r ≡ decide rs 0 → Promised (after rs w) old (refusal (number r)) old
  unfolding after number_of
  stops-with r e = refused-with (after rs w) old r (stops-at rs i r e w.refusals)

  same-number : 0 ≡ decide rs 0 → number_of (after rs w) ≡ number_of w
  unfolding after number_of
  same-number e = goes-past rs i w.refusals e

  pub goes-on-with : 0 ≡ decide rs 0 → (p : Outcome) (left : A) → Promised w old p left → Promised (after rs w) old p left
  unfolding after
  goes-on-with e p left d =
      let s = same-number e in
      record { answers = d.answers ∙ sym (same_outcome (after rs w) w refl refl s); leaves-new = d.leaves-new ∙ sym (ap (λ (n : ℕ). leaves n w.new old) s) }

-- a judgement that passes on the refusal of an earlier one, as `?` does
pub passed-on : (j : Result ⊤ Refused) (r : Refused) → IsErr j × IsErrAnd j (λ e. e ≡ r) → (n : ℕ) → number r ≡ n → judged j ≡ n
passed-on (Ok u) r w n e = absurd w.1
passed-on (Err f) r w n e = ap number w.1 ∙ e

-- a call that passes one on
pub refused-on : {A : Type 0} (w : Row A) (old : A) (j : Result Values Refused) (r : Refused) → IsErr j × IsErrAnd j (λ e. e ≡ r) → number r ≡ number_of w → Promised w old (outcome j) old
refused-on w old (Ok v) r y e = absurd y.1
refused-on w old (Err f) r y e = refused-with w old f (ap number y.1 ∙ e)
