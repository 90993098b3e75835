-- The tests of a record, in their order.
use mathlib.Core.Path.{◌≡◌, refl, ap, sym, subst, ◌∙◌}
use mathlib.Core.Bool.{true, false, not, ◌||◌}
use mathlib.Core.List.{List}
use Prim.Native.Nat.{ℕ, ◌≤◌, ◌<◌}
use lib.ListN.{length}
use lib.Dec.{eqb, ltb}
use borrow.Author.Tests.{lt-ltb, le-ltb, eq-eqb, ne_eqb}
use Rattle.words.proofs.RefusalLaws.{refused, passed, decided}
use Rattle.history.specs.declared.Call.{Call}
use Rattle.records.specs.declared.kind.Kind.{Kind}
use Rattle.records.specs.declared.kind.Kind.TheVariants.{SetUpPool, Open, Close, Map, Unmap, Protect, Translate, Coverage}
use Rattle.records.specs.Kinds.{number}
use Rattle.records.specs.Records.{kind_of, record_length, unit_by, call_by, too_short, unknown_kind, wrong_record_length, no_such_unit, malformed, asks, meaning}

in-range : (k : Kind) → (ltb (number k) 1 || ltb 8 (number k)) ≡ false
in-range SetUpPool = refl
in-range Open = refl
in-range Close = refl
in-range Map = refl
in-range Unmap = refl
in-range Protect = refl
in-range Translate = refl
in-range Coverage = refl

module _ (b : List ℕ) where
  pub too_short_lem : length b < 2 → malformed 0 ≡ meaning b
  unfolding meaning too_short
  too_short_lem h = sym (refused _ _ _ _ (lt-ltb _ _ h))

  module _ (n : ℕ) (e : n ≡ kind_of b) (long : 2 ≤ length b) where
    pub unknown : (ltb n 1 || ltb 8 n) ≡ true → malformed n ≡ meaning b
    unfolding meaning too_short unknown_kind
    unknown h =
        ap malformed e
        ∙ sym (passed _ _ _ _ (le-ltb _ _ long) ∙ refused _ _ _ _ (subst (λ (x : ℕ). (ltb x 1 || ltb 8 x) ≡ true) e h))

    module _ (k : Kind) (is : number k ≡ n) where
      known : (ltb (kind_of b) 1 || ltb 8 (kind_of b)) ≡ false
      known = subst (λ (x : ℕ). (ltb x 1 || ltb 8 x) ≡ false) (is ∙ e) (in-range k)

      pub wrong-length : (length b ≡ record_length (number k) → ⊥) → malformed n ≡ meaning b
      unfolding meaning too_short unknown_kind wrong_record_length
      wrong-length h =
          ap malformed e
          ∙ sym (passed _ _ _ _ (le-ltb _ _ long) ∙ passed _ _ _ _ known ∙ refused _ _ _ _ (ap not (ne_eqb _ _ (λ l. h (l ∙ ap record_length (sym (is ∙ e)))))))

      module _ (exact : length b ≡ record_length (number k)) (u : ℕ) (is-unit : u ≡ unit_by (number k) b) where
        unit-is : u ≡ unit_by (kind_of b) b
        unit-is = is-unit ∙ ap (λ (x : ℕ). unit_by x b) (is ∙ e)

        exactly : eqb (length b) (record_length (kind_of b)) ≡ true
        exactly = eq-eqb _ _ (exact ∙ ap record_length (is ∙ e))

        pub no-unit : 1 < u → malformed n ≡ meaning b
        unfolding meaning too_short unknown_kind wrong_record_length no_such_unit
        no-unit h =
            ap malformed e
            ∙ sym (passed _ _ _ _ (le-ltb _ _ long) ∙ passed _ _ _ _ known ∙ passed _ _ _ _ (ap not exactly) ∙ refused _ _ _ _ (lt-ltb _ _ (subst (λ (x : ℕ). 1 < x) unit-is h)))

        pub asked : u ≤ 1 → (d : Call) → d ≡ call_by (number k) b → asks n u d ≡ meaning b
        unfolding meaning too_short unknown_kind wrong_record_length no_such_unit
        asked h d is_call =
            ap (λ (x : ℕ). asks x u d) e
            ∙ ap (λ (x : ℕ). asks (kind_of b) x d) unit-is
            ∙ ap (asks (kind_of b) (unit_by (kind_of b) b)) (is_call ∙ ap (λ (x : ℕ). call_by x b) (is ∙ e))
            ∙ sym (passed _ _ _ _ (le-ltb _ _ long) ∙ passed _ _ _ _ known ∙ passed _ _ _ _ (ap not exactly) ∙ passed _ _ _ _ (le-ltb _ _ (subst (λ (x : ℕ). x ≤ 1) unit-is h)) ∙ decided _)
