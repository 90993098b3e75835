use Rattle.std.proofs.Common.{ap, ◌∙◌, arith}
use Rattle.std.specs.List.{list_all}
use Rattle.runs.specs.PageWords.{mapped}
use Rattle.tablecheck.proofs.SpanLaws.{list_all-from}
use Rattle.tablecheck.proofs.spans.all_mapped.Goals as goal

pub returns : goal.returns
returns c = c.all_in.ensures ∙ ap (list_all mapped) c.span.ensures ∙ list_all-from _ _ _ (omega arith)
