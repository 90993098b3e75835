use Rattle.unitwords.proofs.EntryLaws.{write-all, same-unit}
use lib.ListN.{length}
use mathlib.Core.Path.{◌≡◌}
use Rattle.unitwords.proofs.write_unit.Goals as goal

pub returns : goal.returns
returns c =
    let u = c.args.u in
    let ps : length u.pages ≡ 64 = c.well_formed.1.0.1.1.0.1.0.1 in
    let rs : length u.ranges ≡ 32 = c.well_formed.1.0.1.1.1.0.1.0.1 in
    let w = write-all u ps rs c.args.words.now _ _ _ c.requires c.write_entries.ensures c.write_entries-2.ensures c.copy_from_slice.ensures.after in
    record { words_after = w; reads_back = same-unit u ps rs _ w }
