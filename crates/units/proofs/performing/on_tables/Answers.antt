use Rattle.units.proofs.PerformLaws.{as-asked}
use Rattle.units.proofs.performing.on_tables.Goals as goal

pub returns-in-SetUpPool : goal.returns-in-SetUpPool
returns-in-SetUpPool c = as-asked _ _ _ _ _ c.in-SetUpPool.is c.set_up_pool.ensures

pub returns-in-Open : goal.returns-in-Open
returns-in-Open c = as-asked _ _ _ _ _ c.in-Open.is c.«open».ensures

pub returns-in-Close : goal.returns-in-Close
returns-in-Close c = as-asked _ _ _ _ _ c.in-Close.is c.close.ensures

pub returns-in-Map : goal.returns-in-Map
returns-in-Map c = as-asked _ _ _ _ _ c.in-Map.is c.map.ensures

pub returns-in-Unmap : goal.returns-in-Unmap
returns-in-Unmap c = as-asked _ _ _ _ _ c.in-Unmap.is c.unmap.ensures

pub returns-in-Protect : goal.returns-in-Protect
returns-in-Protect c = as-asked _ _ _ _ _ c.in-Protect.is c.protect.ensures

pub returns-in-Coverage : goal.returns-in-Coverage
returns-in-Coverage c = as-asked _ _ _ _ _ c.in-Coverage.is c.coverage.ensures

pub returns-in-Preview : goal.returns-in-Preview
returns-in-Preview c = as-asked _ _ _ _ _ c.in-Preview.is c.preview.ensures
