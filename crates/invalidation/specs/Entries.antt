-- Entries that are dropped.
use Rattle.std.specs.Prelude.{Bool, true, false}

-- an entry, or the empty one in place of an entry that passes
abbrev pub kept : {A : Type 0} → (A → Bool) → A → A → A
kept p empty e = elim (p e) [ true ↦ empty | false ↦ e ]
