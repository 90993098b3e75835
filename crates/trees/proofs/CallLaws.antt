-- The three calls by their cases, as the code goes through them.
use mathlib.Core.Path.{◌≡◌, refl, sym, ap, ◌∙◌}
use mathlib.Core.Bool.{Bool, true, false, cond, not}
use mathlib.Core.List.{List, ◌++◌}
use Prim.Native.Nat.{ℕ, zero, suc, ◌+◌, ◌≤◌, ◌<◌}
use native.Mathlib.Omega.{arith}
use lib.Dec.{leb, ltb, eqb}
use lib.ListN.{length}
use borrow.Author.Tests.{lt-ltb, le-ltb, eq-eqb, ne_eqb, eqb-true, eqb-false, ltb-false, leb-true, leb-false, not-true}
use Rattle.words.specs.Refusals.{Refusal, decide}
use Rattle.words.specs.Rows.{Row, refusal, values, number_of, Promised}
use Rattle.words.proofs.Cases.{by-test, and-true, or-false, true-false}
use Rattle.words.proofs.RefusalLaws.{first_part}
use Rattle.words.proofs.RowLaws.{refused-is, accepted-is, kept, renewed}
use Rattle.runs.specs.PageWords.{reserved_rights, allowed_rights}
use Rattle.std.specs.Prelude.{Option, Some}
use Rattle.trees.specs.declared.Range.{Range}
use Rattle.trees.specs.declared.Path.{Path}
use Rattle.trees.specs.Ranges.{covers, page_value, look_list, held, holds_base, overlaps, misplaced, beside_refusals, proper}
use Rattle.trees.specs.Nodes.{root_in}
use Rattle.trees.specs.Trees.{Tree, contents, tree_words, tree_at, height_of, tree_of, contents_of, path_length}
use Rattle.trees.specs.Insertion.{insert_tree}
use Rattle.trees.specs.Removal.{remove_tree}
use Rattle.trees.specs.Calls.{buffer_refusals, past_pages, insert_call, remove_call, lookup_call}
use Rattle.trees.specs.Inner.Walk.{lawful}
use Rattle.trees.specs.Inner.Search.{first_behind, begins_at, has_page, begins_before, search_tree}
use Rattle.trees.proofs.RangeLaws.{look-held}
use Rattle.trees.proofs.LawfulLaws.{lawful-between, lawful-proper, lawful-range}
use Rattle.trees.proofs.SearchLaws.{tree-path}
use Rattle.trees.proofs.ContentsLaws.{behind-held, behind-value, behind-base, behind-overlaps}

-- A row that is refused with n, or done

refused-row : {A : Type 0} (w : Row A) (old : A) (n : ℕ) → number_of w ≡ n → (n ≡ 0 → ⊥) → Promised w old (refusal n) old
refused-row w old n e z =
    let k : number_of w ≡ 0 → ⊥ = λ d. z (sym e ∙ d) in
    record { answers = ap refusal (sym e) ∙ sym (refused-is w k); leaves-new = kept (number_of w) w.new old k }

done-row : {A : Type 0} (w : Row A) (old left : A) → number_of w ≡ 0 → left ≡ w.new → Promised w old (values w.first w.second) left
done-row w old left e d = record { answers = sym (accepted-is w e); leaves-new = d ∙ renewed (number_of w) w.new old e }

-- The buffer

module _ (b : List ℕ) where
  pub wrong-length : (length b ≡ 1537 → ⊥) → 1 ≡ decide (buffer_refusals b) 0
  unfolding buffer_refusals decide
  wrong-length n = rw (ne_eqb (length b) 1537 n)

  pub unlawful : length b ≡ 1537 → lawful b ≡ false → 2 ≡ decide (buffer_refusals b) 0
  unfolding buffer_refusals decide
  unlawful l e = rw (eq-eqb (length b) 1537 l, e)

  pub fine : length b ≡ 1537 → lawful b ≡ true → 0 ≡ decide (buffer_refusals b) 0
  unfolding buffer_refusals decide
  fine l e = rw (eq-eqb (length b) 1537 l, e)

  pub is-fine : decide (buffer_refusals b) 0 ≡ 0 → (length b ≡ 1537) × (lawful b ≡ true)
  is-fine z =
      by-test (eqb (length b) 1537)
      (λ e. let l = eqb-true _ _ e in by-test (lawful b) (λ t. (l, t)) (λ f. let u = unlawful l f in absurd (omega arith)))
      (λ e. let u = wrong-length (eqb-false _ _ e) in absurd (omega arith))

  pub goes_on : (qs : List (Refusal ℕ)) → length b ≡ 1537 → lawful b ≡ true → decide (buffer_refusals b ++ qs) 0 ≡ decide qs 0
  unfolding buffer_refusals decide
  goes_on qs l e = rw (eq-eqb (length b) 1537 l, e)

  module _ (n : ℕ) (is : n ≡ decide (buffer_refusals b) 0) (some : n ≡ 0 → ⊥) where
    stops : (qs : List (Refusal ℕ)) → decide (buffer_refusals b ++ qs) 0 ≡ n
    stops qs = first_part (buffer_refusals b) qs (λ z. some (is ∙ z)) ∙ sym is

    pub insert-stops : (r : Range) → Promised (insert_call b r) b (refusal n) b
    insert-stops r = refused-row (insert_call b r) b n (unfold insert_call number_of in stops _) some

    pub remove-stops : (base : ℕ) → Promised (remove_call b base) b (refusal n) b
    remove-stops base = refused-row (remove_call b base) b n (unfold remove_call number_of in stops _) some

    pub lookup-stops : (p : ℕ) → Promised (lookup_call b p) b (refusal n) b
    lookup-stops p = refused-row (lookup_call b p) b n (unfold lookup_call number_of in stops _) some

-- The range to insert, beside others

module _ (r : Range) (others : List Range) where
  above-seven : allowed_rights r.rights ≡ false → reserved_rights r.rights ≡ false → 7 < r.rights
  unfolding allowed_rights
  above-seven a e = by-test (leb r.rights 7) (λ t. true-false true refl (rw (t, e) at a)) (λ f. leb-false _ _ f)

  pub rights-too-high : allowed_rights r.rights ≡ false → reserved_rights r.rights ≡ false → 6 ≡ decide (beside_refusals r others) 0
  unfolding beside_refusals decide
  rights-too-high a e = rw (lt-ltb 7 r.rights (above-seven a e))

  not-above : reserved_rights r.rights ≡ true → ltb 7 r.rights ≡ false
  unfolding reserved_rights
  not-above e =
      by-test (eqb r.rights 2)
      (λ t. let d : r.rights ≡ 2 = eqb-true _ _ t in le-ltb 7 r.rights (omega arith))
      (λ t. let d : r.rights ≡ 6 = eqb-true _ _ (rw t at e) in le-ltb 7 r.rights (omega arith))

  pub rights-reserved : reserved_rights r.rights ≡ true → 17 ≡ decide (beside_refusals r others) 0
  unfolding beside_refusals decide
  rights-reserved e = rw (not-above e, e)

  module _ (a : allowed_rights r.rights ≡ true) where
    rights-fine : (ltb 7 r.rights ≡ false) × (reserved_rights r.rights ≡ false)
    unfolding allowed_rights
    rights-fine =
        let x = and-true (leb r.rights 7) (not (reserved_rights r.rights)) a in
        (le-ltb 7 r.rights (leb-true _ _ x.0), not-true (reserved_rights r.rights) x.1)

    pub range-misplaced : misplaced r ≡ true → 8 ≡ decide (beside_refusals r others) 0
    unfolding beside_refusals decide
    range-misplaced m = rw (rights-fine.0, rights-fine.1, m)

    module _ (m : misplaced r ≡ false) where
      pub range-overlaps : overlaps r others ≡ true → 11 ≡ decide (beside_refusals r others) 0
      unfolding beside_refusals decide
      range-overlaps o = rw (rights-fine.0, rights-fine.1, m, o)

      pub range-fine : overlaps r others ≡ false → 0 ≡ decide (beside_refusals r others) 0
      unfolding beside_refusals decide
      range-fine o = rw (rights-fine.0, rights-fine.1, m, o)

      is-proper-range : proper r ≡ true
      unfolding proper
      is-proper-range = rw (a, m)

  pub proper-fine : proper r ≡ true → overlaps r others ≡ false → decide (beside_refusals r others) 0 ≡ 0
  unfolding proper
  proper-fine p o = let x = and-true (allowed_rights r.rights) (not (misplaced r)) p in sym (range-fine x.0 (not-true (misplaced r) x.1) o)

  -- none of these refusals applies
  pub taken-range : decide (beside_refusals r others) 0 ≡ 0 → (proper r ≡ true) × (overlaps r others ≡ false)
  taken-range z =
      by-test (allowed_rights r.rights)
      (λ a. by-test (misplaced r)
      (λ m. let u = range-misplaced a m in absurd (omega arith))
      (λ m. by-test (overlaps r others) (λ o. let u = range-overlaps a m o in absurd (omega arith)) (λ o. (is-proper-range a m, o))))
      (λ a. by-test (reserved_rights r.rights) (λ e. let u = rights-reserved e in absurd (omega arith)) (λ e. let u = rights-too-high a e in absurd (omega arith)))

-- A lawful buffer

module _ (b : List ℕ) (size : length b ≡ 1537) (is : lawful b ≡ true) where
  first-is : (p : ℕ) (w : Path) → w ≡ search_tree (height_of b) (tree_at b (height_of b) (root_in b)) p → w.range ≡ first_behind p (contents_of b)
  first-is p w found = ap (λ (x : Path). x.range) found ∙ lawful-range b is p

  -- Insertion

  module _ (r : Range) (n : ℕ) (judged : n ≡ decide (beside_refusals r (contents_of b)) 0) where
    insert-number : number_of (insert_call b r) ≡ n
    unfolding insert_call number_of
    insert-number = goes_on b (beside_refusals r (contents_of b)) size is ∙ sym judged

    pub insert-refused : (n ≡ 0 → ⊥) → Promised (insert_call b r) b (refusal n) b
    insert-refused z = refused-row (insert_call b r) b n insert-number z

    pub insert-done : n ≡ 0 → (left : List ℕ) → left ≡ tree_words (insert_tree r (tree_of b)) → Promised (insert_call b r) b (refusal 0) left
    unfolding insert_call
    insert-done z left e = done-row (insert_call b r) b left (insert-number ∙ z) e

  -- the search for an overlap
  module _ (r : Range) (m : misplaced r ≡ false) (w : Path) (found : w ≡ search_tree (height_of b) (tree_at b (height_of b) (root_in b)) r.base) where
    some-pages : r.base < r.limit
    unfolding misplaced
    some-pages = let h : r.base + 8 ≤ r.limit = ltb-false r.limit (r.base + 8) (or-false (ltb r.limit (r.base + 8)) _ m).0 in omega arith

    -- where some range is behind the BASE, its own BASE decides
    pub overlap-by : begins_before w.range r.limit ≡ overlaps r (contents_of b)
    overlap-by = sym (behind-overlaps (lawful-between b is) w.range r (first-is r.base w found) some-pages)

  -- Removal

  module _ (base : ℕ) where
    pub remove-past : 1023 < base → Promised (remove_call b base) b (refusal 8) b
    remove-past h = refused-row (remove_call b base) b 8 (unfold remove_call past_pages number_of in goes_on b _ size is ∙ (unfold decide in rw (lt-ltb 1023 base h))) (λ z. omega arith)

    module _ (low : base ≤ 1023) (w : Path) (found : w ≡ search_tree (height_of b) (tree_at b (height_of b) (root_in b)) base) where
      remove-number : (v : Bool) → holds_base base (contents_of b) ≡ v → number_of (remove_call b base) ≡ cond v 0 12
      unfolding remove_call past_pages number_of
      remove-number true e = goes_on b _ size is ∙ (unfold decide in rw (le-ltb 1023 base low, e))
      remove-number false e = goes_on b _ size is ∙ (unfold decide in rw (le-ltb 1023 base low, e))

      pub remove-none : begins_at w.range base ≡ false → Promised (remove_call b base) b (refusal 12) b
      remove-none f = refused-row (remove_call b base) b 12 (remove-number false (behind-base (lawful-between b is) w.range base (first-is base w found) ∙ f)) (λ z. omega arith)

      module _ (t : begins_at w.range base ≡ true) where
        remove-held : holds_base base (contents_of b) ≡ true
        remove-held = behind-base (lawful-between b is) w.range base (first-is base w found) ∙ t

        pub remove-high : 1 ≤ height_of b
        unfolding contents_of
        remove-high = high (height_of b) (tree_at b (height_of b) (root_in b)) remove-held
          where
            high : (h : ℕ) (t : Tree h) → holds_base base (contents h t) ≡ true → 1 ≤ h
            high zero t e = true-false false (unfold contents holds_base in e) refl
            high (suc h) t e = omega arith

        pub remove-done : (left : List ℕ) → left ≡ tree_words (remove_tree base (tree_of b)) → Promised (remove_call b base) b (refusal 0) left
        unfolding remove_call
        remove-done left e = done-row (remove_call b base) b left (remove-number true remove-held) e

  -- Lookup

  module _ (p : ℕ) where
    pub lookup-past : 1023 < p → Promised (lookup_call b p) b (refusal 8) b
    lookup-past h = refused-row (lookup_call b p) b 8 (unfold lookup_call past_pages number_of in goes_on b _ size is ∙ (unfold decide in rw (lt-ltb 1023 p h))) (λ z. omega arith)

    module _ (low : p ≤ 1023) (w : Path) (found : w ≡ search_tree (height_of b) (tree_at b (height_of b) (root_in b)) p) where
      lookup-number : (v : Bool) → held (contents_of b) p ≡ v → number_of (lookup_call b p) ≡ cond v 0 12
      unfolding lookup_call past_pages number_of
      lookup-number true e = goes_on b _ size is ∙ (unfold decide in rw (le-ltb 1023 p low, e))
      lookup-number false e = goes_on b _ size is ∙ (unfold decide in rw (le-ltb 1023 p low, e))

      pub lookup-none : has_page w.range p ≡ false → Promised (lookup_call b p) b (refusal 12) b
      lookup-none c = refused-row (lookup_call b p) b 12 (lookup-number false (behind-held (lawful-between b is) w.range p (first-is p w found) ∙ c)) (λ z. omega arith)

      module _ (x : Range) (some : w.range ≡ Some x) (c : covers x p ≡ true) where
        found-held : held (contents_of b) p ≡ true
        found-held = behind-held (lawful-between b is) w.range p (first-is p w found) ∙ ap (λ (o : Option Range). has_page o p) some ∙ (unfold has_page in c)

        found-value : look_list (contents_of b) p ≡ page_value x p
        found-value = behind-value (lawful-between b is) w.range p (first-is p w found) x some c

        pub value-fits : page_value x p < 32768
        value-fits = let l = look-held p (lawful-proper b is) found-held in let e = found-value in omega arith

        pub lookup-done : (v : ℕ) → v ≡ page_value x p → Promised (lookup_call b p) b (values v w.nodes) b
        lookup-done v e =
            let a : v ≡ look_list (contents_of b) p = e ∙ sym found-value in
            let n : w.nodes ≡ path_length p (height_of b) (tree_at b (height_of b) (root_in b)) = ap (λ (x : Path). x.nodes) found ∙ tree-path (height_of b) (tree_at b (height_of b) (root_in b)) p in
            rw (a, n) (unfold lookup_call in done-row (lookup_call b p) b b (lookup-number true found-held) refl)
