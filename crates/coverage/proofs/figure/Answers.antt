use borrow.Author.Rules.{rules}
use mathlib.Core.Path.{ap₂, ◌∙◌}
use native.Mathlib.Omega.{arith}
use Rattle.words.proofs.CountLaws.{count-le}
use Rattle.layout.specs.Calls.{nearest_whole, coverage_figure}
use Rattle.tablecheck.specs.Inner.{page_mapped}
use Rattle.coverage.specs.Inner.{page_in_range}
use Rattle.coverage.proofs.CoverageLaws.{some-counted}
use Rattle.coverage.proofs.figure.Goals as goal

pub overflow_mul-pages : goal.overflow_mul-pages
overflow_mul-pages c = let h = count-le 1024 (page_in_range c.args.part.now) in search rules

pub nearest_whole-requires : goal.nearest_whole-requires
nearest_whole-requires c = let h = some-counted 1024 (page_mapped c.args.part.now) c.requires.part_value in search rules

pub returns : goal.returns
unfolding coverage_figure
returns c = let within = c.count_pages-pages.ensures.within_value in
    c.nearest_whole.ensures ∙ ap₂ nearest_whole (omega arith) c.count_pages-pages.ensures.mapped_value
