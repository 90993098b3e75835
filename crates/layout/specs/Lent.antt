-- The four buffers as a call that only reads them is lent them.
use Rattle.layout.specs.declared.Lent.{Lent}
use Rattle.layout.specs.Tables.{Tables, tables}

-- the tables that they hold
abbrev pub read : Lent → Tables
read l = tables l.control.now l.frames.now l.pages.now l.ranges.now
