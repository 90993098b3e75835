use mathlib.Core.Path.{◌≡◌}
use Prim.Native.Nat.{◌*◌, ◌-◌}
use Rattle.words.specs.Counts.{count}
use Rattle.words.specs.Searches.{all_from}
use Rattle.tablecheck.specs.Inner.{page_mapped, space_sound}
use Rattle.tablecheck.proofs.walking.walk_spaces.Given as goal

abbrev pub invariant-loop-s : goal.invariant-loop-s
invariant-loop-s l = (all_from 4 0 (space_sound l.mask l.frames l.pool l.pages l.ranges) ≡ all_from (4 - l.s) l.s (space_sound l.mask l.frames l.pool l.pages l.ranges)) × (l.m ≡ count (1024 * l.s) (page_mapped l.pages))
