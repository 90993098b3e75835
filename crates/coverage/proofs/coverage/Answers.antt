use borrow.Author.Rules.{rules}
use Rattle.layout.specs.declared.TableCall.TheVariants.{Coverage}
use Rattle.layout.proofs.SoundLaws.{lengths-at}
use Rattle.layout.proofs.CallLaws.{call-refused, call-asked}
use Rattle.coverage.proofs.CoverageLaws.{coverage-facts, coverage-done}
use Rattle.coverage.proofs.coverage.Goals as goal

pub returns-in_err-judge_coverage : goal.returns-in_err-judge_coverage
returns-in_err-judge_coverage c = call-refused (Coverage _) _ _ _ c.from_residual.ensures c.in_err-judge_coverage.ensures

pub offset_bounds-lent-a : goal.offset_bounds-lent-a
offset_bounds-lent-a c = let w = coverage-facts _ _ (call-asked (Coverage _) _ c.in_ok-judge_coverage.ensures) in let l = (lengths-at _ w.lengths).pages in let h = w.space in search rules

pub slice_bounds-figure-count : goal.slice_bounds-figure-count
slice_bounds-figure-count c = let w = coverage-facts _ _ (call-asked (Coverage _) _ c.in_ok-judge_coverage.ensures) in let l = (lengths-at _ w.lengths).pages in let h = w.space in search rules

pub slice_bounds-figure-start : goal.slice_bounds-figure-start
slice_bounds-figure-start c = let w = coverage-facts _ _ (call-asked (Coverage _) _ c.in_ok-judge_coverage.ensures) in let l = (lengths-at _ w.lengths).pages in let h = w.space in search rules

pub slice_bounds-figure-end : goal.slice_bounds-figure-end
slice_bounds-figure-end c = let w = coverage-facts _ _ (call-asked (Coverage _) _ c.in_ok-judge_coverage.ensures) in let l = (lengths-at _ w.lengths).pages in let h = w.space in search rules

pub figure-requires : goal.figure-requires
figure-requires c = let w = coverage-facts _ _ (call-asked (Coverage _) _ c.in_ok-judge_coverage.ensures) in let l = (lengths-at _ w.lengths).pages in let h = w.space in record { part_len = search rules; part_value = w.some }

pub returns : goal.returns
returns c = rw c.from.ensures (coverage-done _ _ c.in_ok-judge_coverage.ensures _ c.figure.ensures)
