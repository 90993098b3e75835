use Rattle.std.proofs.Common.{ap, ◌∙◌, arith}
use Rattle.std.specs.List.{list_any}
use Rattle.runs.specs.PageWords.{mapped}
use Rattle.tablecheck.proofs.SpanLaws.{list_any-from}
use Rattle.tablecheck.proofs.spans.any_mapped.Goals as goal

pub returns : goal.returns
returns c = c.any_in.ensures ∙ ap (list_any mapped) c.span.ensures ∙ list_any-from _ _ _ (omega arith)
