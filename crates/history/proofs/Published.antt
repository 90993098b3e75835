-- What the units promise to the interfaces above, beyond the contracts of their functions: demand 3, and laws of the definitions that promises name. A crate above imports from the units this module and those definitions, and nothing else.

-- demand 3, of every list of calls; that each list runs as its fold says, in no other way, and that every pool size has a start
pub use Rattle.history.proofs.WholeList.{demand-3}
pub use Rattle.history.proofs.RunLaws.{fold-leads, leads-fold, every-start}
-- the step of a list is what the public calls promise, and a refused one leaves what it was lent
pub use Rattle.history.proofs.ListLaws.{called-does, does-called, unit-called-does, does-unit-called, refused-same}
-- a unit that was set up
pub use Rattle.history.proofs.ListLaws.{fresh-unit, fresh-number}
