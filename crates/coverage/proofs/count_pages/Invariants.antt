use mathlib.Core.Path.{◌≡◌}
use Rattle.words.specs.Counts.{count}
use Rattle.tablecheck.specs.Inner.{page_mapped}
use Rattle.coverage.specs.Inner.{page_in_range}
use Rattle.coverage.proofs.count_pages.Given as goal

abbrev pub invariant-loop-w : goal.invariant-loop-w
invariant-loop-w l = (l.n ≡ count l.w-index (page_mapped l.part)) × (l.m ≡ count l.w-index (page_in_range l.part))
