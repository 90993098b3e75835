use Rattle.history.specs.CatchUp.{keep_page, keep_range, dropped}
use Rattle.invalidation.proofs.catch_up.drop_named.Goals as goal

pub returns : goal.returns
unfolding dropped keep_page keep_range
returns c = rw (c.drop_entries.ensures, c.drop_entries-2.ensures, c.keep_last-u.ensures)
