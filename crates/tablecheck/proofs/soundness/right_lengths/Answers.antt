use Rattle.std.proofs.Common.{ne_eqb, ◌∙◌, inl, inr}
use Rattle.tablecheck.proofs.SoundnessLaws.{wrong-lengths, lengths-last}
use Rattle.tablecheck.proofs.soundness.right_lengths.Goals as goal
use Rattle.tablecheck.proofs.soundness.right_lengths.Goals.{then-control-eq-CONTROL_WORDS, else-control-eq-CONTROL_WORDS, then-frames-eq-FRAME_BUFFER_WORDS, else-frames-eq-FRAME_BUFFER_WORDS}

pub returns-then-pages-eq-PAGE_BUFFER_WORDS : goal.returns-then-pages-eq-PAGE_BUFFER_WORDS
returns-then-pages-eq-PAGE_BUFFER_WORDS c = let t = c.if-pages-eq-PAGE_BUFFER_WORDS.true in lengths-last _ _ _ _ t.0 t.1 t.2

pub returns-else-pages-eq-PAGE_BUFFER_WORDS : goal.returns-else-pages-eq-PAGE_BUFFER_WORDS
returns-else-pages-eq-PAGE_BUFFER_WORDS c = elim c.if-frames-eq-FRAME_BUFFER_WORDS.branch [
  | then-frames-eq-FRAME_BUFFER_WORDS b ↦ elim c.if-pages-eq-PAGE_BUFFER_WORDS.either [
    | inl x ↦ b.t-7-is ∙ ne_eqb _ _ x.2 ∙ wrong-lengths _ (λ l. x.2 l.pages)
    | inr y ↦ elim y [
      | inl z ↦ absurd (z.1 b.if-frames-eq-FRAME_BUFFER_WORDS.true.1)
      | inr z ↦ absurd (z b.if-frames-eq-FRAME_BUFFER_WORDS.true.0)
    ]
  ]
  | else-frames-eq-FRAME_BUFFER_WORDS b ↦ elim c.if-control-eq-CONTROL_WORDS.branch [
    | then-control-eq-CONTROL_WORDS a ↦ elim b.if-frames-eq-FRAME_BUFFER_WORDS.either [
      | inl x ↦ b.t-7-is ∙ a.t-8-is ∙ ne_eqb _ _ x.1 ∙ wrong-lengths _ (λ l. x.1 l.frames)
      | inr y ↦ absurd (y a.if-control-eq-CONTROL_WORDS.true)
    ]
    | else-control-eq-CONTROL_WORDS a ↦ b.t-7-is ∙ a.t-8-is ∙ ne_eqb _ _ a.if-control-eq-CONTROL_WORDS.false ∙ wrong-lengths _ (λ l. a.if-control-eq-CONTROL_WORDS.false l.control)
  ]
]
