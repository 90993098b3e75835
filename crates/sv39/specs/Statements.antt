-- What holds of the conversions: which words convert, what each bit of their entries is, that both ways lead back, which entries convert; and examples. The numbers stand here as documents 01 and 02 have them.
use Rattle.std.specs.Prelude.{◌≡◌, Bool, true, false, List, [], ◌∷◌, map, ◌↔◌, ◌⊎◌, ℕ, ◌+◌, ◌-◌, ◌*◌, ◌^◌, ◌<◌, ◌≤◌, ltb, get_or, replicate}
use Rattle.words.specs.declared.Outcome.{Outcome}
use Rattle.words.specs.Bits.{has_bit}
use Rattle.words.specs.Counts.{one-if}
use Rattle.sv39.specs.Entries.{to_sv39, from_sv39}

-- a number with its counterpart, or "18" with zeros
abbrev pub found : ℕ → Outcome
found v = record { number = 0; first = v; second = 0 }

abbrev pub none : Outcome
none = record { number = 18; first = 0; second = 0 }

-- accepted exactly where P holds, and refused elsewhere
pub record Converts (P : Type 0) (o : Outcome) : Type 0 where
  pub accepted : (o.number ≡ 0) ↔ P
  pub refused : (P → ⊥) → o ≡ none

-- rights that an entry can have: 0 to 7 without "0, 2 or 6"
abbrev pub LeafRights : ℕ → Type 0
LeafRights r = (r ≡ 1) ⊎ ((r ≡ 3) ⊎ ((r ≡ 4) ⊎ ((r ≡ 5) ⊎ (r ≡ 7))))

-- the word of a page that is mapped with such rights; 01: "65,536 + 32,768 × range bit + 4,096 × rights + frame"
pub record LeafWord (w : ℕ) : Type 0 where
  pub range : Bool
  pub rights : ℕ
  pub frame : ℕ
  pub has-leaf : LeafRights rights
  pub fits : frame ≤ 4095
  pub is : w ≡ 65536 + 32768 * one-if range + 4096 * rights + frame

-- a word converts exactly if it is such a word, or 0
unfoldable pub WordsConvert : Type 0
WordsConvert = (w : ℕ) → Converts ((w ≡ 0) ⊎ LeafWord w) (to_sv39 w)

-- "unmapped is an all-zero entry"
unfoldable pub UnmappedIsZero : Type 0
UnmappedIsZero = (to_sv39 0 ≡ found 0) × (from_sv39 0 ≡ found 0)

-- the bits of an entry below its frame, from bit 0 on: V, R, W, X, U, G, A, D, and the two left to software
unfoldable pub flag_bits : Bool → ℕ → List Bool
flag_bits range rights = true ∷ has_bit rights 0 ∷ has_bit rights 1 ∷ has_bit rights 2 ∷ false ∷ false ∷ true ∷ true ∷ range ∷ false ∷ []

-- bit i of the entry of a mapped page: below 10 as listed, from 10 on those of the frame
unfoldable pub leaf_bit : Bool → ℕ → ℕ → ℕ → Bool
leaf_bit range rights frame i = elim (ltb i 10) [ true ↦ get_or (flag_bits range rights) i false | false ↦ has_bit frame (i - 10) ]

-- so is each bit of the entry that such a word converts to
unfoldable pub EachBit : Type 0
EachBit = (w : ℕ) (l : LeafWord w) (i : ℕ) → has_bit (to_sv39 w).first i ≡ leaf_bit l.range l.rights l.frame i

-- "Every word .. that converts returns unchanged by the way back."
unfoldable pub WordsReturn : Type 0
WordsReturn = (w : ℕ) → (to_sv39 w).number ≡ 0 → from_sv39 (to_sv39 w).first ≡ found w

-- "Every .. entry that converts returns unchanged by the way back."
unfoldable pub EntriesReturn : Type 0
EntriesReturn = (e : ℕ) → e < 2 ^ 64 → (from_sv39 e).number ≡ 0 → to_sv39 (from_sv39 e).first ≡ found e

-- some word converts to the entry
pub record FromWord (e : ℕ) : Type 0 where
  pub word : ℕ
  pub converts : to_sv39 word ≡ found e

-- an entry converts exactly where some word converts to it. So the conditions under which it "has no word" are held to those of words and to the bits above
unfoldable pub EntriesConvert : Type 0
EntriesConvert = (e : ℕ) → e < 2 ^ 64 → Converts (FromWord e) (from_sv39 e)

-- examples of words: frame 5 with rights 3; frame 4,095 with rights 7 in a range; below 65,536; rights 0, 2 and 6; above 131,071
unfoldable pub WordExamples : Type 0
WordExamples = map to_sv39 (77829 ∷ 131071 ∷ 1 ∷ 65536 ∷ 73728 ∷ 90112 ∷ 131072 ∷ []) ≡ found 5319 ∷ found 4193743 ∷ none ∷ none ∷ none ∷ none ∷ none ∷ []

-- of entries: frame 4,095 with rights 7 in a range; frames 0, 4,095 and 4,096 with rights 1; that of frame 0 with valid, accessed or dirty clear, with bit 4, 5, 9, 54 or 63 set, with rights 0, 2 and 6
unfoldable pub EntryExamples : Type 0
EntryExamples =
    (map from_sv39 (4193743 ∷ 195 ∷ 4193475 ∷ 4194499 ∷ []) ≡ found 131071 ∷ found 69632 ∷ found 73727 ∷ none ∷ [])
    × (map from_sv39 (194 ∷ 131 ∷ 67 ∷ 211 ∷ 227 ∷ 707 ∷ (195 + 2 ^ 54) ∷ (195 + 2 ^ 63) ∷ 193 ∷ 197 ∷ 205 ∷ []) ≡ replicate 11 none)
