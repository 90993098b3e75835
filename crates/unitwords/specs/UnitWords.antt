-- A unit as 515 words. Document 01, What the host lends: "64 page entries (valid, space, page, frame, rights ..), 32 range entries (valid, space, BASE, LIMIT, OFFSET, rights), the last used range entry (32 = none), the next place to replace (0 to 31), and the number of records seen."
use Rattle.std.specs.Prelude.{List, [], ◌∷◌, ◌++◌, ℕ, ◌+◌, ◌*◌, get_or}
use Rattle.words.specs.Tables.{tabulate}
use Rattle.history.specs.declared.PageEntry.{PageEntry}
use Rattle.history.specs.declared.RangeEntry.{RangeEntry}
use Rattle.history.specs.declared.Unit.{Unit as TlbUnit}
use Rattle.history.specs.Units.{page_entries, range_entries}

-- 64 entries of five words, 32 of six, and three words
abbrev pub words_in_unit : ℕ
words_in_unit = 515

abbrev pub words_in_page_entry : ℕ
words_in_page_entry = 5

abbrev pub words_in_range_entry : ℕ
words_in_range_entry = 6

-- where the range entries begin
abbrev pub ranges_from : ℕ
ranges_from = 320

-- where the number of the last used range entry stands; the next place and the records seen follow
abbrev pub last_at : ℕ
last_at = 512

-- the page entry that the words from place a on are
abbrev pub page_entry_from : List ℕ → ℕ → PageEntry
page_entry_from ws a = record { valid = get_or ws a 0; space = get_or ws (a + 1) 0; page = get_or ws (a + 2) 0; frame = get_or ws (a + 3) 0; rights = get_or ws (a + 4) 0 }

-- the range entry that the words from place a on are
abbrev pub range_entry_from : List ℕ → ℕ → RangeEntry
range_entry_from ws a =
    record { valid = get_or ws a 0; space = get_or ws (a + 1) 0; base = get_or ws (a + 2) 0; limit = get_or ws (a + 3) 0; offset = get_or ws (a + 4) 0; rights = get_or ws (a + 5) 0 }

-- page entry k is five words from word 5 k on
abbrev pub page_entry_at : List ℕ → ℕ → PageEntry
page_entry_at ws k = page_entry_from ws (words_in_page_entry * k)

-- range entry k is six words from word 320 + 6 k on
abbrev pub range_entry_at : List ℕ → ℕ → RangeEntry
range_entry_at ws k = range_entry_from ws (ranges_from + words_in_range_entry * k)

-- the unit that 515 words are
unfoldable pub unit_of : List ℕ → TlbUnit
unit_of ws = record { pages = tabulate page_entries (page_entry_at ws); ranges = tabulate range_entries (range_entry_at ws); last = get_or ws last_at 0; next = get_or ws (last_at + 1) 0; seen = get_or ws (last_at + 2) 0 }

abbrev pub page_entry_words : PageEntry → List ℕ
page_entry_words e = e.valid ∷ e.space ∷ e.page ∷ e.frame ∷ e.rights ∷ []

abbrev pub range_entry_words : RangeEntry → List ℕ
range_entry_words e = e.valid ∷ e.space ∷ e.base ∷ e.limit ∷ e.offset ∷ e.rights ∷ []

abbrev pub words_behind_entries : TlbUnit → List ℕ
words_behind_entries u = u.last ∷ u.next ∷ u.seen ∷ []

-- the words of entries, one entry after another
unfoldable pub joined : {A : Type 0} → (A → List ℕ) → List A → List ℕ
joined f [] = []
joined f (x ∷ xs) = f x ++ joined f xs

-- the words of a unit
unfoldable pub words_of : TlbUnit → List ℕ
words_of u = joined page_entry_words u.pages ++ (joined range_entry_words u.ranges ++ words_behind_entries u)
