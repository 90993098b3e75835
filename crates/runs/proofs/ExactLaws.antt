-- The computed form is the statement of Runs: `lawful_ranges ws rs` holds exactly where `RangesSound ws rs` does.
use mathlib.Core.Path.{◌≡◌, refl, ap, ap₂, ◌∙◌, sym}
use mathlib.Core.Bool.{Bool, true, false}
use mathlib.Core.List.{List, [], ◌∷◌, ◌++◌}
use Prim.Native.Nat.{ℕ, suc, ◌+◌, ◌-◌, ◌%◌, ◌^◌, ◌<◌, ◌≤◌}
use native.Mathlib.Nat.{add_comm}
use native.Mathlib.Decide.{dec_lt, dec_le}
use native.Mathlib.Omega.{arith}
use lib.Dec.{leb}
use lib.ListN.{length, get_or, replicate, length-append, length-replicate, get_or-eq_default}
use lib.Seq.{ext_get_or}
use borrow.Author.Tests.{lt-leb}
use Rattle.words.specs.Wrapping.{wrap_add, wrap_sub}
use Rattle.words.proofs.Cases.{by-dec, true-false}
use Rattle.words.proofs.WrappingLaws.{sub-only}
use Rattle.runs.specs.PageWords.{range_bit, frame_in}
use Rattle.runs.specs.Runs.{Longest, InRange, Gives, Table, nothing, entry, Has, here, later, RangesSound}
use Rattle.runs.specs.Walk.{bit_word, with_bits, entries, range_words, lawful_ranges}
use Rattle.runs.proofs.WordLaws.{zero-unmapped, bit-zero, of-bit, word-cases, own-bit}
use Rattle.runs.proofs.WalkLaws.{whole, bit_at, with_bits_at, length-with_bits}
use Rattle.runs.proofs.RunsLaws.{long-in, bit_is, table_is, table-all}
use Rattle.runs.proofs.CheckLaws.{decided, lawful-at, says-yes}

-- an entry is the first or a later one
has-cases : {P : Type 0} (x y a b o r : ℕ) (more : List ℕ) → Has x y (a ∷ b ∷ o ∷ r ∷ more) → (x ≡ a → P) → (Has x y more → P) → P
has-cases x y a b o r more here f g = f refl
has-cases x y a b o r more (later h) f g = g h

has-none : {P : Type 0} (x y : ℕ) → Has x y [] → P
has-none x y = elim [ ]

module _ (ws : List ℕ) (size : length ws ≡ 1024) where
  -- no BASE of a table lies below its bound
  has-from : (a x y : ℕ) (l : List ℕ) → Table ws a l → Has x y l → a ≤ x
  has-from a x y l nothing h = has-none x y h
  has-from a x y l (entry b e o r {more} lo eight g w t) h = has-cases x y b e o r more h (λ s. omega arith) (λ k. omega (arith, has-from (suc b) x y more t k))

  -- two longest runs that start at one page are the same
  same_end : (x y z : ℕ) → Longest ws x y → Longest ws x z → y ≡ z
  same_end x y z l m =
      by-dec (dec_le y z)
      (λ h. sym (l.alone x z (omega arith) h m.run).1)
      (λ h. (m.alone x y (omega arith) (omega arith) l.run).1)

  -- OFFSET is the one word that gives a page's frame
  offset-is : (x y o r : ℕ) → Longest ws x y → Gives ws x y o r → o ≡ wrap_sub 32 (frame_in (get_or ws x 0)) x
  unfolding wrap_add
  offset-is x y o r l g =
      let lt = l.run.some in
      let fits = l.run.fits in
      let e : (o + x) % 2 ^ 32 ≡ frame_in (get_or ws x 0) = ap (λ (n : ℕ). n % 2 ^ 32) (add_comm o x) ∙ sym (g.frame x (omega arith) lt) in
      sub-only 32 (frame_in (get_or ws x 0)) x (omega arith) o g.word e

  -- each longest run of at least 8 pages from page a on is listed
  abbrev All : ℕ → List ℕ → Type 0
  All a l = (x y : ℕ) → a ≤ x → Longest ws x y → x + 8 ≤ y → Has x y l

  -- so there is one table
  same-table : (a : ℕ) (l m : List ℕ) → Table ws a l → Table ws a m → All a l → All a m → l ≡ m
  same-table a l m nothing nothing p q = refl
  same-table a l m nothing (entry x y o r lo eight g w t) p q = has-none x y (p x y lo g eight)
  same-table a l m (entry x y o r lo eight g w t) nothing p q = has-none x y (q x y lo g eight)
  same-table a l m (entry x y o r {more} lo eight g w t) (entry x' y' o' r' {more = more'} lo' eight' g' w' t') p q =
      let base : x ≡ x' =
      has-cases x y x' y' o' r' more' (q x y lo g eight) (λ s. s) (λ h.
      has-cases x' y' x y o r more (p x' y' lo' g' eight') (λ s. sym s) (λ k.
      absurd (omega (arith, has-from (suc x') x y more' t' h, has-from (suc x) x' y' more t k))))
      in
      let l' : Longest ws x y' = rw (← base) at g' in
      let limit : y ≡ y' = same_end x y y' g l' in
      let w'' : Gives ws x y o' r' = rw (← base, ← limit) at w' in
      let lt = g.run.some in
      let offset : o ≡ o' = offset-is x y o r g w ∙ sym (offset-is x y o' r' g w'') in
      let rights : r ≡ r' = sym (w.rights x (omega arith) lt) ∙ w''.rights x (omega arith) lt in
      let rest : more ≡ more' =
      same-table (suc x) more more' t (rw (← base) at t')
      (λ b e h k n. has-cases b e x y o r more (p b e (omega arith) k n) (λ s. absurd (omega arith)) (λ z. z))
      (λ b e h k n. has-cases b e x' y' o' r' more' (q b e (omega arith) k n) (λ s. absurd (omega arith)) (λ z. z))
      in
      ap₂ ◌∷◌ base (ap₂ ◌∷◌ limit (ap₂ ◌∷◌ offset (ap₂ ◌∷◌ rights rest)))

  module _ (rs : List ℕ) (room : length rs ≡ 512) where
    -- what the computed form says holds
    lawful-sound : lawful_ranges ws rs ≡ true → RangesSound ws rs
    unfolding range_words bit_at
    lawful-sound t =
        let e = lawful-at ws rs t in
        let at : (p : ℕ) → p < length ws → get_or ws p 0 ≡ bit_word (leb 8 (whole ws (suc p))) (get_or ws p 0) = λ p h. ap (λ (l : List ℕ). get_or l p 0) e.pages ∙ with_bits_at ws p h in
        record {
          words = e.layout;
          marks = λ p i.
              let fits = i.longest.run.fits in
              let to = i.to in
              let b = bit_is ws p (omega arith) true (λ u. i) (λ f. true-false true refl f) in
              of-bit true (get_or ws p 0) (i.longest.run.maps p i.from i.to) (ap (λ (l : List ℕ). get_or l p 0) e.pages ∙ b);
          marked = λ p m u.
              by-dec (dec_lt p (length ws))
              (λ h. by-dec (dec_le 8 (whole ws (suc p)))
              (λ long. long-in ws p h long)
              (λ short.
              let k = lt-leb 8 (whole ws (suc p)) (omega arith) in
              true-false _ u (of-bit false (get_or ws p 0) m (at p h ∙ ap (λ (b : Bool). bit_word b (get_or ws p 0)) k))))
              (λ out. true-false _ m (zero-unmapped (get_or ws p 0) (get_or-eq_default ws 0 (omega arith))));
          used = entries ws;
          unused = 512 - length (entries ws);
          split = e.ranges;
          listed = table_is ws (omega arith);
          all = table-all ws;
        }

    -- and the other way round
    sound-lawful : RangesSound ws rs → lawful_ranges ws rs ≡ true
    unfolding range_words
    sound-lawful s =
        let same : s.used ≡ entries ws = same-table 0 s.used (entries ws) s.listed (table_is ws (omega arith)) (λ x y h. s.all x y) (λ x y h. table-all ws x y) in
        let count : s.unused ≡ 512 - length (entries ws) =
        omega (arith, ap length s.split, length-append s.used (replicate s.unused 0), length-replicate {A = ℕ} s.unused 0, ap length same)
        in
        sym (decided ws rs true (says-yes true refl (record {
          layout = s.words;
          pages = ext_get_or 0 ws (with_bits ws) (sym (length-with_bits ws)) (λ q h.
              let in-range : range_bit (get_or ws q 0) ≡ true → InRange ws q =
              λ t. word-cases (get_or ws q 0) (s.words q h) (λ z. true-false _ t (bit-zero (get_or ws q 0) z)) (λ m. s.marked q m t)
              in
              own-bit (get_or ws q 0) (s.words q h) ∙ sym (bit_is ws q h (range_bit (get_or ws q 0)) in-range (λ f i. true-false _ (s.marks q i) f)));
          ranges = s.split ∙ ap₂ (λ (l : List ℕ) (n : ℕ). l ++ replicate n 0) same count;
        })))

-- The check is exact.
pub ranges-exactly : (ws rs : List ℕ) → length ws ≡ 1024 → length rs ≡ 512 → (lawful_ranges ws rs ≡ true → RangesSound ws rs) × (RangesSound ws rs → lawful_ranges ws rs ≡ true)
ranges-exactly ws rs size room = (lawful-sound ws size rs room, sound-lawful ws size rs room)
