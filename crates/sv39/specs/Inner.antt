-- Promises of inner functions.
use Rattle.std.specs.Prelude.{Bool, ◌||◌, not, ℕ}
use Rattle.words.specs.Bits.{has_bit}
use Rattle.sv39.specs.Entries.{valid, accessed, dirty}

-- valid, accessed or dirty is clear, or a further bit below the frame is set
unfoldable pub wrong_flags : ℕ → Bool
wrong_flags e = not (has_bit e valid) || (not (has_bit e accessed) || (not (has_bit e dirty) || (has_bit e 4 || (has_bit e 5 || has_bit e 9))))
