-- Page words to and from Sv39 leaf entries, the standard being the RISC-V privileged specification. Document 02, Change 5: "The debugger of the new processor reads Sv39 leaf entries. Convert both ways: valid is bit 0, read, write and execute are bits 1 to 3, accessed 6, dirty 7, our range bit 8, the frame from bit 10; unmapped is an all-zero entry. Accessed and dirty are always set, as source document 001 sets them at allocation."
use Rattle.std.specs.Prelude.{Bool, true, false, ◌&&◌, ◌||◌, not, ℕ, ◌+◌, ◌*◌, ◌/◌, ◌%◌, ◌^◌, eqb, ltb}
use Rattle.words.specs.declared.Outcome.{Outcome}
use Rattle.words.specs.Bits.{has_bit, bit_at}
use Rattle.words.specs.Searches.{any_from}
use Rattle.words.specs.Rows.{refusal, values}
use Rattle.runs.specs.PageWords.{reserved_rights, page_word, mapped, range_bit, rights_in, frame_in, is_page_word}

-- "valid is bit 0": V
abbrev pub valid : ℕ
valid = 0

-- "read, write and execute are bits 1 to 3": R, W and X
abbrev pub read : ℕ
read = 1

abbrev pub write : ℕ
write = 2

abbrev pub execute : ℕ
execute = 3

-- "accessed 6, dirty 7": A and D
abbrev pub accessed : ℕ
accessed = 6

abbrev pub dirty : ℕ
dirty = 7

-- "our range bit 8": one of the two bits, 8 and 9, that the standard leaves to software
abbrev pub in_range : ℕ
in_range = 8

-- "the frame from bit 10": the standard's physical page number (PPN) has 44 bits, 10 to 53
abbrev pub frame_from : ℕ
frame_from = 10

abbrev pub frame_bits : ℕ
frame_bits = 44

-- the entry of a mapped page: its range bit, its rights, of which read is bit 0, write bit 1 and execute bit 2 (01: "Rights add read 1, write 2, execute 4"), and its frame; "Accessed and dirty are always set"
unfoldable pub leaf : Bool → ℕ → ℕ → ℕ
leaf range rights frame =
    bit_at valid true + bit_at read (has_bit rights 0) + bit_at write (has_bit rights 1) + bit_at execute (has_bit rights 2) + bit_at accessed true + bit_at dirty true + bit_at in_range range
    + 2 ^ frame_from * frame

-- "unmapped is an all-zero entry"
unfoldable pub entry_of : ℕ → ℕ
entry_of w = elim (eqb w 0) [ true ↦ 0 | false ↦ leaf (range_bit w) (rights_in w) (frame_in w) ]

-- the rights and the frame that an entry gives
unfoldable pub rights_of : ℕ → ℕ
rights_of e = bit_at 0 (has_bit e read) + bit_at 1 (has_bit e write) + bit_at 2 (has_bit e execute)

unfoldable pub frame_of : ℕ → ℕ
frame_of e = e / 2 ^ frame_from % 2 ^ frame_bits

-- and an all-zero entry is unmapped
unfoldable pub word_of : ℕ → ℕ
word_of e = elim (eqb e 0) [ true ↦ 0 | false ↦ page_word (has_bit e in_range) (rights_of e) (frame_of e) ]

-- "A word with rights 0 has no leaf form."
unfoldable pub no_leaf : ℕ → Bool
no_leaf w = mapped w && eqb (rights_in w) 0

-- "a further bit is set": 4 and 5, the standard's U and G; 9, the other bit left to software; the ten bits above the frame, 54 to 63
unfoldable pub further_bit : ℕ → Bool
further_bit e = has_bit e 4 || (has_bit e 5 || (has_bit e 9 || any_from 10 54 (has_bit e)))

-- "Any other entry has no word if valid, accessed or dirty is clear, a further bit is set, the frame is above 4,095, or its rights are 0, 2 or 6."
unfoldable pub no_word : ℕ → Bool
no_word e =
    not (eqb e 0)
    && (not (has_bit e valid) || (not (has_bit e accessed) || (not (has_bit e dirty) || (further_bit e || (ltb 4095 (frame_of e) || (eqb (rights_of e) 0 || reserved_rights (rights_of e)))))))

-- "no counterpart, or a word outside its layout"
unfoldable pub no_entry : ℕ → Bool
no_entry w = not (is_page_word w) || no_leaf w

-- "Refused: 18, no counterpart, or a word outside its layout; the only check here." Accepted, the counterpart is the first value (docs/DECISIONS.md, 103), and the second is "0 if unnamed" (01)
unfoldable pub converted : Bool → ℕ → Outcome
converted refused counterpart = elim refused [ true ↦ refusal 18 | false ↦ values counterpart 0 ]

-- "Convert both ways": a page word to its entry
unfoldable pub to_sv39 : ℕ → Outcome
to_sv39 w = converted (no_entry w) (entry_of w)

-- an entry, a number of 64 bits, to its page word
unfoldable pub from_sv39 : ℕ → Outcome
from_sv39 e = converted (no_word e) (word_of e)
