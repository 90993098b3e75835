use Rattle.std.proofs.Common.{ℕ, ◌+◌, eqb, eqb-true, eq-eqb, sym, ap, ◌∙◌, ap₂, arith}
use Rattle.words.proofs.Cases.{true-false}
use Rattle.runs.proofs.WordLaws.{frame-lt, not-joins, by-rights}
use Rattle.ranges.proofs.walk.joined.Goals as goal
use Rattle.ranges.proofs.walk.joined.Goals.{then-mapped, else-mapped, then-mapped-2, else-mapped-2}

pub overflow_add-frame_in : goal.overflow_add-frame_in
overflow_add-frame_in c = omega (arith, c.frame_in-then-mapped-2.ensures, frame-lt c.args.v)

pub returns-then-frame_in : goal.returns-then-frame_in
returns-then-frame_in c = elim c.if-mapped-2.branch [
  | then-mapped-2 b ↦ elim c.if-mapped.branch [
    | then-mapped a ↦
        let this = sym c.mapped.ensures ∙ a.if-mapped.true in
        let next = sym a.mapped-then-mapped.ensures ∙ sym a.value-is ∙ b.if-mapped-2.true in
        let is = eqb-true _ _ (sym b.value-is ∙ c.if-frame_in.true) in
        let frame = sym b.frame_in.ensures ∙ is ∙ ap (λ (x : ℕ). x + 1) b.frame_in-then-mapped-2.ensures in
        ap₂ eqb c.rights_in.ensures c.rights_in-then-frame_in.ensures ∙ by-rights _ _ this next frame
    | else-mapped a ↦ true-false _ b.if-mapped-2.true (a.value-is ∙ a.if-mapped.false)
  ]
  | else-mapped-2 b ↦ true-false _ c.if-frame_in.true (b.value-is ∙ b.if-mapped-2.false)
]

pub returns-else-frame_in : goal.returns-else-frame_in
returns-else-frame_in c = c.if-frame_in.false ∙ not-joins _ _ (λ j. elim c.if-mapped-2.branch [
  | then-mapped-2 b ↦ true-false _ (b.value-is ∙ eq-eqb _ _ (b.frame_in.ensures ∙ j.frame ∙ ap (λ (x : ℕ). x + 1) (sym b.frame_in-then-mapped-2.ensures))) c.if-frame_in.false
  | else-mapped-2 b ↦ elim c.if-mapped.branch [
    | then-mapped a ↦ true-false _ (a.value-is ∙ a.mapped-then-mapped.ensures ∙ j.next) b.if-mapped-2.false
    | else-mapped a ↦ true-false _ (c.mapped.ensures ∙ j.this) a.if-mapped.false
  ]
])
