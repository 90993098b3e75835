use Rattle.std.proofs.Common.{arith, ◌∙◌, inl, inr}
use borrow.Author.Tests.{lt-leb}
use Rattle.tablecheck.proofs.SpanLaws.{no_span, span_last}
use Rattle.tablecheck.proofs.spans.is_span.Goals as goal
use Rattle.tablecheck.proofs.spans.is_span.Goals.{then-count-ge1, else-count-ge1}

pub returns-then-count-le-PAGES : goal.returns-then-count-le-PAGES
returns-then-count-le-PAGES c = span_last _ _ c.if-count-le-PAGES.true.0 c.if-count-le-PAGES.true.1

pub returns-else-count-le-PAGES : goal.returns-else-count-le-PAGES
returns-else-count-le-PAGES c = elim c.if-count-ge1.branch [
  | then-count-ge1 w ↦ elim c.if-count-le-PAGES.either [
    | inl x ↦ w.t-4-is ∙ lt-leb _ _ x.1 ∙ no_span _ _ (λ a b. omega arith)
    | inr y ↦ absurd (omega arith)
  ]
  | else-count-ge1 w ↦ w.t-4-is ∙ lt-leb _ _ w.if-count-ge1.false ∙ no_span _ _ (λ a b. omega arith)
]
