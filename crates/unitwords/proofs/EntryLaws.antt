-- Entries read from words and written into them, one entry more.
use mathlib.Core.Path.{◌≡◌, refl, ap, ◌∙◌, sym}
use mathlib.Core.List.{List, [], ◌∷◌, ◌++◌, append_assoc, append-nil}
use Prim.Native.Nat.{ℕ, zero, suc, ◌+◌, ◌*◌, ◌<◌, ◌≤◌}
use Rattle.std.proofs.Math.Nat.{mul-le-mul_left, mul-le-mul_right}
use native.Mathlib.Nat.{zero-add, add-zero, mul-zero, mul-suc}
use native.Mathlib.Omega.{arith}
use lib.ListN.{length, get_or, set, take, drop, length-append, drop_of_length-le, get_or-append}
use lib.Seq.{take-suc, take_all, drop-cons, drop-drop, take_at, drop_at, set_at, length-take-le, get_or-append-add}
use Rattle.words.specs.Tables.{tab_from, tabulate}
use Rattle.words.proofs.TableLaws.{length-tabulate, is-tabulate}
use Rattle.history.specs.declared.PageEntry.{PageEntry}
use Rattle.history.specs.declared.RangeEntry.{RangeEntry}
use Rattle.history.specs.declared.Unit.{Unit as TlbUnit}
use Rattle.history.specs.Units.{no_page, no_range}
use Rattle.unitwords.specs.UnitWords.{page_entry_at, range_entry_at, unit_of, page_entry_words, range_entry_words, words_behind_entries, joined, words_of}

-- past the end of a list
none_left : {A : Type 0} (l : List A) (n : ℕ) → length l ≤ n → drop n l ≡ []
none_left l n h = drop_of_length-le l h

-- a table, one entry more
tab-more : {A : Type 0} (n i : ℕ) (f : ℕ → A) → tab_from (suc n) i f ≡ tab_from n i f ++ (f (i + n) ∷ [])
unfolding tab_from
tab-more zero i f = rw (add-zero i)
tab-more (suc n) i f =
    let e : suc i + n ≡ i + suc n = omega arith in
    ap (λ (l : List _). f i ∷ l) (tab-more n (suc i) f ∙ ap (λ (k : ℕ). tab_from n (suc i) f ++ (f k ∷ [])) e)

-- a list of which the first n entries are those of a table
unfoldable pub tabled_to : {A : Type 0} → (ℕ → A) → ℕ → List A → List A
tabled_to f n l = tabulate n f ++ drop n l

module _ {A : Type 0} (f : ℕ → A) (l : List A) where
  pub none-tabled : l ≡ tabled_to f 0 l
  unfolding tabled_to tabulate tab_from
  none-tabled = refl

  one-tabled : (n : ℕ) (d : A) → n < length l → set (tabled_to f n l) n (f n) ≡ tabled_to f (n + 1) l
  unfolding tabled_to tabulate
  one-tabled n d h =
      let s : n + 1 ≡ suc n = omega arith in
      rw (drop-cons l n d h, set_at (tabulate n f) (get_or l n d) (drop (suc n) l) (f n) n (length-tabulate n f), s, tab-more n 0 f, zero-add n, append_assoc (tab_from n 0 f) (f n ∷ []) (drop (suc n) l))

  pub next-tabled : (now : List A) (n : ℕ) (x : A) → now ≡ tabled_to f n l → n < length l → x ≡ f n → set now n x ≡ tabled_to f (n + 1) l
  next-tabled now n x sofar h is = rw (sofar, is) (one-tabled n x h)

  pub all-tabled : (n k : ℕ) → k ≡ n → length l ≡ n → tabled_to f k l ≡ tabulate n f
  unfolding tabled_to
  all-tabled n k e h = rw (e, none_left l n (omega arith)) (append-nil (tabulate n f))

-- entry k of n, of w words each, ends where all of them do or before, also where entries begin fewer words apart
pub entry-ends : (v w k n a m : ℕ) → v ≤ w → k < n → a + w * n ≤ m → a + v * k + w ≤ m
entry-ends v w k n a m apart h fits =
    let less : v * k ≤ w * k = mul-le-mul_right k apart in
    let more : w * suc k ≤ w * n = mul-le-mul_left w h in
    omega (arith, mul-suc w k)

-- what is read where entry k begins, v words apart, is read w words apart
pub entry-begins : {A : Type 0} (f : ℕ → A) (x : A) (v w k a : ℕ) → v ≡ w → x ≡ f (a + v * k) → x ≡ f (a + w * k)
entry-begins f x v w k a apart is = is ∙ ap (λ (n : ℕ). f (a + n * k)) apart

-- a list over which the words of the first n entries are written, m words each
unfoldable pub written_to : {A : Type 0} → (A → List ℕ) → ℕ → ℕ → List A → List ℕ → List ℕ
written_to f m n l b = joined f (take n l) ++ drop (m * n) b

module _ {A : Type 0} (f : A → List ℕ) where
  joined-append : (xs ys : List A) → joined f (xs ++ ys) ≡ joined f xs ++ joined f ys
  unfolding joined
  joined-append [] ys = refl
  joined-append (x ∷ xs) ys = ap (λ (l : List ℕ). f x ++ l) (joined-append xs ys) ∙ sym (append_assoc (f x) (joined f xs) (joined f ys))

  joined-more : (l : List A) (n : ℕ) (d : A) → n < length l → joined f (take (suc n) l) ≡ joined f (take n l) ++ f (get_or l n d)
  unfolding joined
  joined-more l n d h = rw (take-suc l n d h, joined-append (take n l) (get_or l n d ∷ []), append-nil (f (get_or l n d)))

  module _ (m : ℕ) (each : (x : A) → length (f x) ≡ m) where
    length-joined : (l : List A) → length (joined f l) ≡ m * length l
    unfolding joined
    length-joined [] = sym (mul-zero m)
    length-joined (x ∷ xs) =
        let e : length (f x) ≡ m = each x in
        let r : length (joined f xs) ≡ m * length xs = length-joined xs in
        length-append (f x) (joined f xs) ∙ omega (arith, mul-suc m (length xs))

    -- word j of entry k
    joined_at : (l : List A) (rest : List ℕ) (k j : ℕ) (d : A) → k < length l → j < m → get_or (joined f l ++ rest) (m * k + j) 0 ≡ get_or (f (get_or l k d)) j 0
    unfolding joined
    joined_at [] rest k j d h i = absurd (omega arith)
    joined_at (x ∷ xs) rest zero j d h i =
        let e : length (f x) ≡ m = each x in
        let at : m * zero + j ≡ j = rw (mul-zero m) (zero-add j) in
        rw (at, append_assoc (f x) (joined f xs) rest) (get_or-append (f x) (joined f xs ++ rest) 0 j (omega arith))
    joined_at (x ∷ xs) rest (suc k) j d h i =
        let e : length (f x) ≡ m = each x in
        let at : m * suc k + j ≡ length (f x) + (m * k + j) = omega (arith, mul-suc m k) in
        rw (at, append_assoc (f x) (joined f xs) rest) (get_or-append-add (f x) (joined f xs ++ rest) (m * k + j) 0 ∙ joined_at xs rest k j d (omega arith) i)

    module _ (l : List A) (b : List ℕ) where
      pub none_written : b ≡ written_to f m 0 l b
      unfolding written_to joined
      none_written = rw (mul-zero m)

      pub one_written : (n at k : ℕ) (d e : A) (w ws : List ℕ) → n < length l → at ≡ m * n → k ≡ m → w ≡ written_to f m n l b → e ≡ get_or l n d → ws ≡ f e
          → take at w ++ (ws ++ drop k (drop at w)) ≡ written_to f m (n + 1) l b
      unfolding written_to
      one_written n at k d e w ws h place size sofar is said =
          let s : n + 1 ≡ suc n = omega arith in
          let long : length (joined f (take n l)) ≡ m * n = length-joined (take n l) ∙ ap (λ (x : ℕ). m * x) (length-take-le n l (omega arith)) in
          rw (place, size, sofar, said, is, take_at (joined f (take n l)) (drop (m * n) b) (m * n) long, drop_at (joined f (take n l)) (drop (m * n) b) (m * n) long, s, joined-more l n d h, mul-suc m n, drop-drop m (m * n) b)
          (sym (append_assoc (joined f (take n l)) (f (get_or l n d)) (drop (m * n + m) b)))

      pub all-written : (n k : ℕ) → k ≡ n → length l ≡ n → length b ≡ m * n → written_to f m k l b ≡ joined f l
      unfolding written_to
      all-written n k z e g = rw (z, take_all n l (omega arith), none_left b (m * n) (omega arith)) (append-nil (joined f l))

-- a list with ys written over the n words from place a on
abbrev over : ℕ → ℕ → List ℕ → List ℕ → List ℕ
over a n xs ys = take a xs ++ (ys ++ drop n (drop a xs))

-- three lists that fill a list, written one after another
in_three : (xs p r t : List ℕ) → length xs ≡ 515 → length p ≡ 320 → length r ≡ 192 → over 512 3 (over 320 192 (over 0 320 xs p) r) t ≡ p ++ (r ++ t)
in_three xs p r t ex ep er =
    let long : length (p ++ r) ≡ 512 = length-append p r ∙ omega arith in
    let mid : over 320 192 (over 0 320 xs p) r ≡ (p ++ r) ++ drop 512 xs =
    rw (take_at p (drop 320 xs) 320 ep, drop_at p (drop 320 xs) 320 ep, drop-drop 192 320 xs) (sym (append_assoc p r (drop 512 xs))) in
    rw (mid, take_at (p ++ r) (drop 512 xs) 512 long, drop_at (p ++ r) (drop 512 xs) 512 long, drop-drop 3 512 xs, none_left xs 515 (omega arith), append-nil t) (append_assoc p r t)

-- an entry is read where its fields are
page-made : (ws : List ℕ) (k : ℕ) (e : PageEntry) → get_or ws (5 * k) 0 ≡ e.valid → get_or ws (5 * k + 1) 0 ≡ e.space → get_or ws (5 * k + 2) 0 ≡ e.page → get_or ws (5 * k + 3) 0 ≡ e.frame → get_or ws (5 * k + 4) 0 ≡ e.rights
    → e ≡ page_entry_at ws k
page-made ws k e v s p f r = rw (page_entry_at, v, s, p, f, r)

range-made : (ws : List ℕ) (k : ℕ) (e : RangeEntry) → get_or ws (320 + 6 * k) 0 ≡ e.valid → get_or ws (320 + 6 * k + 1) 0 ≡ e.space → get_or ws (320 + 6 * k + 2) 0 ≡ e.base → get_or ws (320 + 6 * k + 3) 0 ≡ e.limit → get_or ws (320 + 6 * k + 4) 0 ≡ e.offset → get_or ws (320 + 6 * k + 5) 0 ≡ e.rights
    → e ≡ range_entry_at ws k
range-made ws k e v s b l o r = rw (range_entry_at, v, s, b, l, o, r)

module _ (u : TlbUnit) (ps : length u.pages ≡ 64) (rs : length u.ranges ≡ 32) where
  long-pages : length (joined page_entry_words u.pages) ≡ 320
  long-pages = length-joined page_entry_words 5 (λ x. refl) u.pages ∙ ap (λ (n : ℕ). 5 * n) ps

  long-ranges : length (joined range_entry_words u.ranges) ≡ 192
  long-ranges = length-joined range_entry_words 6 (λ x. refl) u.ranges ∙ ap (λ (n : ℕ). 6 * n) rs

  -- the words of a unit, written part by part
  pub write-all : (xs p r t : List ℕ) → length xs ≡ 515 → p ≡ joined page_entry_words u.pages → r ≡ joined range_entry_words u.ranges → t ≡ words_behind_entries u → over 512 3 (over 320 192 (over 0 320 xs p) r) t ≡ words_of u
  unfolding words_of
  write-all xs p r t e ep er et = rw (ep, er, et) (in_three xs (joined page_entry_words u.pages) (joined range_entry_words u.ranges) (words_behind_entries u) e long-pages long-ranges)

  page-word : (k j : ℕ) → k < 64 → j < 5 → get_or (words_of u) (5 * k + j) 0 ≡ get_or (page_entry_words (get_or u.pages k no_page)) j 0
  unfolding words_of
  page-word k j h i = joined_at page_entry_words 5 (λ x. refl) u.pages (joined range_entry_words u.ranges ++ words_behind_entries u) k j no_page (omega arith) i

  -- past the page entries
  later-word : (i : ℕ) → get_or (words_of u) (320 + i) 0 ≡ get_or (joined range_entry_words u.ranges ++ words_behind_entries u) i 0
  unfolding words_of
  later-word i = rw (← long-pages) (get_or-append-add (joined page_entry_words u.pages) (joined range_entry_words u.ranges ++ words_behind_entries u) i 0)

  range-word : (k j : ℕ) → k < 32 → j < 6 → get_or (words_of u) (320 + 6 * k + j) 0 ≡ get_or (range_entry_words (get_or u.ranges k no_range)) j 0
  range-word k j h i =
      let at : 320 + 6 * k + j ≡ 320 + (6 * k + j) = omega arith in
      rw at (later-word (6 * k + j) ∙ joined_at range_entry_words 6 (λ x. refl) u.ranges (words_behind_entries u) k j no_range (omega arith) i)

  last_word : (j : ℕ) → get_or (words_of u) (320 + (192 + j)) 0 ≡ get_or (words_behind_entries u) j 0
  last_word j = later-word (192 + j) ∙ rw (← long-ranges) (get_or-append-add (joined range_entry_words u.ranges) (words_behind_entries u) j 0)

  pages-same : (k : ℕ) → k < 64 → get_or u.pages k no_page ≡ page_entry_at (words_of u) k
  pages-same k h =
      let start : 5 * k ≡ 5 * k + 0 = omega arith in
      page-made (words_of u) k _ (rw start (page-word k 0 h (omega arith))) (page-word k 1 h (omega arith)) (page-word k 2 h (omega arith)) (page-word k 3 h (omega arith)) (page-word k 4 h (omega arith))

  ranges-same : (k : ℕ) → k < 32 → get_or u.ranges k no_range ≡ range_entry_at (words_of u) k
  ranges-same k h =
      let start : 320 + 6 * k ≡ 320 + 6 * k + 0 = omega arith in
      range-made (words_of u) k _ (rw start (range-word k 0 h (omega arith))) (range-word k 1 h (omega arith)) (range-word k 2 h (omega arith)) (range-word k 3 h (omega arith)) (range-word k 4 h (omega arith)) (range-word k 5 h (omega arith))

  -- the words of a unit are that unit
  pub same-unit : (ws : List ℕ) → ws ≡ words_of u → unit_of ws ≡ u
  unfolding unit_of
  same-unit ws e =
      rw (e, ← is-tabulate u.pages 64 (page_entry_at (words_of u)) no_page ps pages-same, ← is-tabulate u.ranges 32 (range_entry_at (words_of u)) no_range rs ranges-same, last_word 0, last_word 1, last_word 2)
