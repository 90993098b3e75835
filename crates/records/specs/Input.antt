-- What the bytes that are read and not yet taken give. Document 01, Program coretrace: "two-byte length of what follows", "Length below 2, or input cut short: kind 0, answer 16; a cut also stops".
use Rattle.std.specs.Prelude.{cond, List, ℕ, ◌+◌, ◌-◌, eqb, ltb, length, take, drop}
use Rattle.records.specs.Records.{word_at, meaning}
use Rattle.records.specs.declared.Window.{Window}
use Rattle.records.specs.declared.Next.{Next}
use Rattle.records.specs.declared.Next.TheVariants.{End, Cut, Whole}

-- the bytes of a window
unfoldable pub waiting : Window → List ℕ → List ℕ
waiting w buffer = take (w.to - w.from) (drop w.from buffer)

-- the length of the record that the bytes begin with, its head too; 0 where they do not hold it whole
unfoldable pub standing : List ℕ → ℕ
standing b = cond (ltb (length b) 2) 0 (cond (ltb (length b) (word_at b 0 + 2)) 0 (word_at b 0 + 2))

-- the bytes of that record
unfoldable pub record_of : List ℕ → List ℕ
record_of b = take (word_at b 0) (drop 2 b)

-- where no more bytes can be read. No byte: the end; a record that is not whole: a cut; else what the record asks for
unfoldable pub next_of : List ℕ → Next
next_of b = cond (eqb (length b) 0) End (cond (eqb (standing b) 0) Cut (Whole (meaning (record_of b))))

-- the window behind that record
unfoldable pub behind : Window → List ℕ → Window
behind w buffer = record { from = w.from + standing (waiting w buffer); to = w.to }
