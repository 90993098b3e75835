-- From judgements to what a call answers.
use mathlib.Core.Path.{◌≡◌, sym, ap, ◌∙◌}
use mathlib.Core.Bool.{Bool, true, false}
use mathlib.Core.List.{List}
use Prim.Native.Nat.{ℕ}
use lib.ListN.{length}
use Rattle.std.specs.Prelude.{Result, Ok, Err, ⊤, Option, Some, None}
use Rattle.words.specs.declared.answers.Refused.{Refused}
use Rattle.words.specs.Answers.{number, outcome, judged}
use Rattle.words.specs.Refusals.{decide}
use Rattle.words.specs.Rows.{refusal, Promised}
use Rattle.words.proofs.JudgeLaws.{number-some}
use Rattle.trees.specs.declared.Range.{Range}
use Rattle.trees.specs.Ranges.{covers, overlaps, proper, beside_refusals}
use Rattle.trees.specs.Trees.{tree_words, tree_of, contents_of}
use Rattle.trees.specs.Insertion.{insert_tree}
use Rattle.trees.specs.Calls.{buffer_refusals, insert_call, remove_call, lookup_call}
use Rattle.trees.specs.Inner.Walk.{lawful}
use Rattle.trees.specs.Inner.Search.{has_page}
use Rattle.trees.proofs.CallLaws.{is-fine, taken-range, insert-stops, insert-refused, insert-done, remove-stops, lookup-stops}

module _ (b : List ℕ) (o : Result ⊤ Refused) (says : judged o ≡ decide (buffer_refusals b) 0) where
  pub fine-here : (u : ⊤) → o ≡ Ok u → (length b ≡ 1537) × (lawful b ≡ true)
  fine-here u is = is-fine b (sym says ∙ ap judged is)

  module _ (e : Refused) (is : o ≡ Err e) where
    stopped : number e ≡ decide (buffer_refusals b) 0
    stopped = sym (ap judged is) ∙ says

    pub insert-unsound : (r : Range) → Promised (insert_call b r) b (outcome (Err e)) b
    insert-unsound r = insert-stops b (number e) stopped (number-some e) r

    pub remove-unsound : (base : ℕ) → Promised (remove_call b base) b (outcome (Err e)) b
    remove-unsound base = remove-stops b (number e) stopped (number-some e) base

    pub lookup-unsound : (p : ℕ) → Promised (lookup_call b p) b (outcome (Err e)) b
    lookup-unsound p = lookup-stops b (number e) stopped (number-some e) p

module _ (b : List ℕ) (size : length b ≡ 1537) (is : lawful b ≡ true) (r : Range) (o : Result ⊤ Refused) (says : judged o ≡ decide (beside_refusals r (contents_of b)) 0) where
  pub range-refused : (e : Refused) → o ≡ Err e → Promised (insert_call b r) b (outcome (Err e)) b
  range-refused e d = insert-refused b size is r (number e) (sym (ap judged d) ∙ says) (number-some e)

  module _ (u : ⊤) (d : o ≡ Ok u) where
    pub range-taken : (proper r ≡ true) × (overlaps r (contents_of b) ≡ false)
    range-taken = taken-range r (contents_of b) (sym says ∙ ap judged d)

    pub range-done : (left : List ℕ) → left ≡ tree_words (insert_tree r (tree_of b)) → Promised (insert_call b r) b (refusal 0) left
    range-done left e = insert-done b size is r (judged o) says (ap judged d) left e

-- what a search found
module _ (o : Option Range) (p : ℕ) where
  pub none-has : o ≡ None → has_page o p ≡ false
  unfolding has_page
  none-has e = rw e

  pub some-has : (x : Range) (v : Bool) → o ≡ Some x → covers x p ≡ v → has_page o p ≡ v
  unfolding has_page
  some-has x v e c = rw e c
