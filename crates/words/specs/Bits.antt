-- The bits of a number.
use Rattle.std.specs.Prelude.{Bool, ℕ, ◌*◌, ◌/◌, ◌%◌, ◌^◌, eqb}
use Rattle.words.specs.Counts.{one-if}

-- bit i of n is set; bit 0 is the lowest
unfoldable pub has_bit : ℕ → ℕ → Bool
has_bit n i = eqb (n / 2 ^ i % 2) 1

-- what bit i adds to a number
unfoldable pub bit_at : ℕ → Bool → ℕ
bit_at i b = 2 ^ i * one-if b
