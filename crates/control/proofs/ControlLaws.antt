-- Laws of the control buffer: its fields after each change, and the changes that keep it lawful.
use mathlib.Core.Path.{◌≡◌, refl, ap, ◌∙◌, sym}
use mathlib.Core.Bool.{Bool, true, false, ◌&&◌, and_assoc}
use mathlib.Core.List.{List, ◌++◌}
use Prim.Native.Nat.{ℕ, zero, suc, ◌+◌, ◌-◌, ◌%◌, ◌^◌, ◌≤◌, ◌<◌, zero-le}
use native.Mathlib.Nat.{mod-lt, mod-eq_of_lt, add-zero}
use native.Mathlib.Decide.{dec_le, ℕ_discrete}
use native.Mathlib.Omega.{arith}
use lib.Dec.{leb, eqb}
use lib.ListN.{length, get_or, take, drop, replicate, set, length-set, length-replicate, get_or-replicate}
use Rattle.std.proofs.lemmas.List.{append-nil, length-take-le}
use Rattle.std.proofs.Math.ListN.{drop_of_length-le}
use lib.Seq.{get_or-set_same, get_or-set_other, ext_get_or}
use borrow.Author.Tests.{leb-true, le-leb, lt-leb, eqb-true}
use Rattle.std.specs.List.{list_all, range_with_len}
use Rattle.words.specs.Searches.{all_from}
use Rattle.words.proofs.Cases.{by-test, by-dec, true-false, and-true, true-and}
use Rattle.words.proofs.SearchLaws.{all_from_at, at-all_from}
use Rattle.blocks.specs.FrameWords.{is_pool_size}
use Rattle.control.specs.Control.{control_buffer_words, pool_size, removals, open_mask, word_of_place, record_space, record_first, record_count, with_removals, with_mask, with_record, used, record_ok, record_fits, lawful_control, is_open, with_opened, with_closed, appended, fresh_control}
use Rattle.control.proofs.MaskLaws.{set_here, set_other, set-fits, cleared-other}

-- the places lie inside the buffer, behind the fields before them, and apart from each other

pub place_inside : (j : ℕ) → j < 64 → word_of_place j + 2 < control_buffer_words
unfolding word_of_place
place_inside j h = omega arith

place-behind : (j : ℕ) → 2 < word_of_place j
unfolding word_of_place
place-behind j = omega arith

-- the same record stands in place j
pub record SamePlace (c d : List ℕ) (j : ℕ) : Type 0 where
  pub space : record_space d j ≡ record_space c j
  pub first : record_first d j ≡ record_first c j
  pub count : record_count d j ≡ record_count c j

same-trans : (a b c : List ℕ) (j : ℕ) → SamePlace a b j → SamePlace b c j → SamePlace a c j
same-trans a b c j p q = record { space = q.space ∙ p.space; first = q.first ∙ p.first; count = q.count ∙ p.count }

-- the fields after the number of records is written
module _ (c : List ℕ) (n : ℕ) where
  pub removals-length : length (with_removals c n) ≡ length c
  unfolding with_removals
  removals-length = length-set c 1 n

  pub removals-pool : pool_size (with_removals c n) ≡ pool_size c
  unfolding with_removals pool_size
  removals-pool = get_or-set_other c 1 0 n 0 (λ e. omega arith)

  pub removals-written : length c ≡ control_buffer_words → removals (with_removals c n) ≡ n
  unfolding with_removals removals
  removals-written len = get_or-set_same c 1 n 0 (omega arith)

  pub removals-mask : open_mask (with_removals c n) ≡ open_mask c
  unfolding with_removals open_mask
  removals-mask = get_or-set_other c 1 2 n 0 (λ e. omega arith)

  pub removals-places : (j : ℕ) → SamePlace c (with_removals c n) j
  unfolding with_removals record_space record_first record_count
  removals-places j =
      let h = place-behind j in
      record {
        space = get_or-set_other c 1 (word_of_place j) n 0 (λ e. omega arith);
        first = get_or-set_other c 1 (word_of_place j + 1) n 0 (λ e. omega arith);
        count = get_or-set_other c 1 (word_of_place j + 2) n 0 (λ e. omega arith);
      }

-- the fields after the open mask is written
module _ (c : List ℕ) (m : ℕ) where
  pub mask-length : length (with_mask c m) ≡ length c
  unfolding with_mask
  mask-length = length-set c 2 m

  pub mask-pool : pool_size (with_mask c m) ≡ pool_size c
  unfolding with_mask pool_size
  mask-pool = get_or-set_other c 2 0 m 0 (λ e. omega arith)

  pub mask-removals : removals (with_mask c m) ≡ removals c
  unfolding with_mask removals
  mask-removals = get_or-set_other c 2 1 m 0 (λ e. omega arith)

  pub mask-written : length c ≡ control_buffer_words → open_mask (with_mask c m) ≡ m
  unfolding with_mask open_mask
  mask-written len = get_or-set_same c 2 m 0 (omega arith)

  pub mask-places : (j : ℕ) → SamePlace c (with_mask c m) j
  unfolding with_mask record_space record_first record_count
  mask-places j =
      let h = place-behind j in
      record {
        space = get_or-set_other c 2 (word_of_place j) m 0 (λ e. omega arith);
        first = get_or-set_other c 2 (word_of_place j + 1) m 0 (λ e. omega arith);
        count = get_or-set_other c 2 (word_of_place j + 2) m 0 (λ e. omega arith);
      }

-- the fields after a record is written
module _ (c : List ℕ) (j s f n : ℕ) where
  pub record-length : length (with_record c j s f n) ≡ length c
  unfolding with_record
  record-length = length-set (set (set c (word_of_place j) s) (word_of_place j + 1) f) (word_of_place j + 2) n ∙ length-set (set c (word_of_place j) s) (word_of_place j + 1) f ∙ length-set c (word_of_place j) s

  -- a word outside the three
  other_word : (i : ℕ) → (i ≡ word_of_place j → ⊥) → (i ≡ word_of_place j + 1 → ⊥) → (i ≡ word_of_place j + 2 → ⊥) → get_or (with_record c j s f n) i 0 ≡ get_or c i 0
  unfolding with_record
  other_word i x y z =
      get_or-set_other (set (set c (word_of_place j) s) (word_of_place j + 1) f) (word_of_place j + 2) i n 0 z
      ∙ get_or-set_other (set c (word_of_place j) s) (word_of_place j + 1) i f 0 y ∙ get_or-set_other c (word_of_place j) i s 0 x

  field-before : (i : ℕ) → i ≤ 2 → get_or (with_record c j s f n) i 0 ≡ get_or c i 0
  field-before i h = let b = place-behind j in other_word i (λ e. omega arith) (λ e. omega arith) (λ e. omega arith)

  pub record-pool : pool_size (with_record c j s f n) ≡ pool_size c
  unfolding pool_size
  record-pool = field-before 0 (omega arith)

  pub record-removals : removals (with_record c j s f n) ≡ removals c
  unfolding removals
  record-removals = field-before 1 (omega arith)

  pub record-mask : open_mask (with_record c j s f n) ≡ open_mask c
  unfolding open_mask
  record-mask = field-before 2 (omega arith)

  module _ (len : length c ≡ control_buffer_words) (h : j < 64) where
    pub record-space : record_space (with_record c j s f n) j ≡ s
    unfolding with_record record_space
    record-space =
        get_or-set_other (set (set c (word_of_place j) s) (word_of_place j + 1) f) (word_of_place j + 2) (word_of_place j) n 0 (λ e. omega arith)
        ∙ get_or-set_other (set c (word_of_place j) s) (word_of_place j + 1) (word_of_place j) f 0 (λ e. omega arith)
        ∙ get_or-set_same c (word_of_place j) s 0 (omega (arith, place_inside j h))

    pub record-first : record_first (with_record c j s f n) j ≡ f
    unfolding with_record record_first
    record-first =
        get_or-set_other (set (set c (word_of_place j) s) (word_of_place j + 1) f) (word_of_place j + 2) (word_of_place j + 1) n 0 (λ e. omega arith)
        ∙ get_or-set_same (set c (word_of_place j) s) (word_of_place j + 1) f 0 (omega (arith, place_inside j h, length-set c (word_of_place j) s))

    pub record-count : record_count (with_record c j s f n) j ≡ n
    unfolding with_record record_count
    record-count =
        get_or-set_same (set (set c (word_of_place j) s) (word_of_place j + 1) f) (word_of_place j + 2) n 0
        (omega (arith, place_inside j h, length-set (set c (word_of_place j) s) (word_of_place j + 1) f, length-set c (word_of_place j) s))

  -- word a of another place
  other_place : (k a : ℕ) → (k ≡ j → ⊥) → a ≤ 2 → get_or (with_record c j s f n) (word_of_place k + a) 0 ≡ get_or c (word_of_place k + a) 0
  unfolding word_of_place
  other_place k a ne h = other_word (word_of_place k + a) (λ e. omega arith) (λ e. omega arith) (λ e. omega arith)

  pub record-places : (k : ℕ) → (k ≡ j → ⊥) → SamePlace c (with_record c j s f n) k
  unfolding record_space record_first record_count
  record-places k ne =
      record {
        space = rw add-zero at (other_place k 0 ne (omega arith));
        first = other_place k 1 ne (omega arith);
        count = other_place k 2 ne (omega arith);
      }

-- one record more
module _ (c : List ℕ) (s f n : ℕ) where
  pub appended-length : length (appended c s f n) ≡ length c
  unfolding appended
  appended-length = record-length _ _ s f n ∙ removals-length c _

  pub appended-pool : pool_size (appended c s f n) ≡ pool_size c
  unfolding appended
  appended-pool = record-pool _ _ s f n ∙ removals-pool c _

  pub appended-mask : open_mask (appended c s f n) ≡ open_mask c
  unfolding appended
  appended-mask = record-mask _ _ s f n ∙ removals-mask c _

  pub appended-places : (j : ℕ) → (j ≡ (removals c + 1) % 64 → ⊥) → SamePlace c (appended c s f n) j
  unfolding appended
  appended-places j ne =
      same-trans _ _ _ j (removals-places c _ j)
      (record-places _ _ s f n j ne)

  module _ (len : length c ≡ control_buffer_words) where
    pub appended-removals : removals (appended c s f n) ≡ removals c + 1
    unfolding appended
    appended-removals = record-removals _ _ s f n ∙ removals-written c _ len

    pub appended-space : record_space (appended c s f n) ((removals c + 1) % 64) ≡ s
    unfolding appended
    appended-space = record-space _ _ s f n (removals-length c _ ∙ len) (mod-lt (removals c + 1) (omega arith))

    pub appended-first : record_first (appended c s f n) ((removals c + 1) % 64) ≡ f
    unfolding appended
    appended-first = record-first _ _ s f n (removals-length c _ ∙ len) (mod-lt (removals c + 1) (omega arith))

    pub appended-count : record_count (appended c s f n) ((removals c + 1) % 64) ≡ n
    unfolding appended
    appended-count = record-count _ _ s f n (removals-length c _ ∙ len) (mod-lt (removals c + 1) (omega arith))

-- zeros in the place of the first words, which are all
all-front : (n : ℕ) (xs ys : List ℕ) → length xs ≡ n → ys ≡ replicate (length (take n xs)) 0 → ys ++ drop n xs ≡ replicate n 0
all-front n xs ys len e = rw (e, length-take-le n xs (omega arith), drop_of_length-le xs {i = n} (omega arith), append-nil {A = ℕ} (replicate n 0)) refl

-- the fields of a pool just set up
module _ (F : ℕ) where
  pub fresh-length : length (fresh_control F) ≡ control_buffer_words
  unfolding fresh_control
  fresh-length = ap suc (length-replicate {A = ℕ} (control_buffer_words - 1) 0)

  pub fresh-pool : pool_size (fresh_control F) ≡ F
  unfolding fresh_control pool_size
  fresh-pool = refl

  -- every word behind the pool size
  fresh-word : (i : ℕ) → 1 ≤ i → i < control_buffer_words → get_or (fresh_control F) i 0 ≡ 0
  unfolding fresh_control
  fresh-word zero lo hi = absurd (omega arith)
  fresh-word (suc i) lo hi = get_or-replicate (control_buffer_words - 1) i 0 0 (omega arith)

  pub fresh-removals : removals (fresh_control F) ≡ 0
  unfolding removals
  fresh-removals = fresh-word 1 (omega arith) (omega arith)

  pub fresh-mask : open_mask (fresh_control F) ≡ 0
  unfolding open_mask
  fresh-mask = fresh-word 2 (omega arith) (omega arith)

  pub fresh-places : (j : ℕ) → j < 64 → (record_space (fresh_control F) j ≡ 0) × (record_first (fresh_control F) j ≡ 0) × (record_count (fresh_control F) j ≡ 0)
  unfolding record_space record_first record_count
  fresh-places j h =
      let a = place-behind j in
      let b = place_inside j h in
      (fresh-word (word_of_place j) (omega arith) (omega arith), fresh-word (word_of_place j + 1) (omega arith) (omega arith), fresh-word (word_of_place j + 2) (omega arith) (omega arith))

  -- a buffer of zeros in which the pool size is written
  pub fresh-is : (c : List ℕ) → ((i : ℕ) → i < control_buffer_words → get_or c i 0 ≡ 0) → length c ≡ control_buffer_words → set c 0 F ≡ fresh_control F
  unfolding fresh_control
  fresh-is c zeros len =
      ext_get_or 0 (set c 0 F) (fresh_control F) (length-set c 0 F ∙ len ∙ sym fresh-length) (λ i hi.
      let lt : i < control_buffer_words = omega (arith, length-set c 0 F) in
      by-dec (ℕ_discrete i 0)
      (λ z. rw z (get_or-set_same c 0 F 0 (omega arith)))
      (λ nz. get_or-set_other c 0 i F 0 nz ∙ zeros i lt ∙ sym (fresh-word i (omega arith) lt)))

  -- the same, where all its words are written as its first
  pub fresh-front : (xs ys : List ℕ) → length xs ≡ control_buffer_words → ys ≡ replicate (length (take control_buffer_words xs)) 0 → set (ys ++ drop control_buffer_words xs) 0 F ≡ fresh_control F
  fresh-front xs ys len e = rw (all-front control_buffer_words xs ys len e) (fresh-is (replicate control_buffer_words 0) (λ i h. get_or-replicate control_buffer_words i 0 0 h) (length-replicate {A = ℕ} control_buffer_words 0))

-- which places are used

pub record Stands (C j : ℕ) : Type 0 where
  pub number : ℕ
  pub low : 1 ≤ number
  pub high : number ≤ C
  pub there : number % 64 ≡ j

-- "Record m (from 1 to C) stands in place m mod 64"
pub used-exactly : (C j : ℕ) → j < 64 → (used C j ≡ true → Stands C j) × (Stands C j → used C j ≡ true)
unfolding used
used-exactly C j h =
    by-dec (dec_le 64 C)
    (λ big. (
      λ t. by-dec (ℕ_discrete j 0)
          (λ z. record { number = 64; low = omega arith; high = big; there = sym z })
          (λ nz. record { number = j; low = omega arith; high = omega arith; there = mod-eq_of_lt h }),
      λ s. rw (le-leb 64 C big),
    ))
    (λ small. (
      λ t. let u : (leb 1 j && leb j C) ≡ true = rw (lt-leb 64 C (omega arith)) at t in
          let p = and-true _ _ u in
          record { number = j; low = leb-true _ _ p.0; high = leb-true _ _ p.1; there = mod-eq_of_lt h },
      λ s. let lo = s.low in
          let hi = s.high in
          let e : s.number ≡ j = sym (mod-eq_of_lt (omega arith)) ∙ s.there in
          rw (lt-leb 64 C (omega arith), le-leb 1 j (omega arith), le-leb j C (omega arith)),
    ))

pub used-none : (j : ℕ) → j < 64 → used 0 j ≡ false
used-none j h = by-test (used 0 j) (λ t. let s = (used-exactly 0 j h).0 t in absurd (omega (arith, s.low, s.high))) (λ f. f)

-- one record more takes the place that it stands in
pub used-new : (C : ℕ) → used (C + 1) ((C + 1) % 64) ≡ true
used-new C = (used-exactly (C + 1) ((C + 1) % 64) (mod-lt (C + 1) (omega arith))).1 (record { number = C + 1; low = omega arith; high = omega arith; there = refl })

-- and no other
pub used-kept : (C j : ℕ) → j < 64 → (j ≡ (C + 1) % 64 → ⊥) → used (C + 1) j ≡ used C j
used-kept C j h ne =
    by-test (used C j)
    (λ t. let s = (used-exactly C j h).0 t in (used-exactly (C + 1) j h).1 (record { number = s.number; low = s.low; high = omega (arith, s.high); there = s.there }) ∙ sym t)
    (λ no_one. by-test (used (C + 1) j)
    (λ t. let s = (used-exactly (C + 1) j h).0 t in
    let last : (s.number ≡ C + 1 → ⊥) = λ e. ne (sym s.there ∙ ap (λ (x : ℕ). x % 64) e) in
    true-false (used C j) ((used-exactly C j h).1 (record { number = s.number; low = s.low; high = omega (arith, s.high); there = s.there })) no_one)
    (λ f. f ∙ sym no_one))

-- what the code finds
pub used_all : (C j : ℕ) → 64 ≤ C → true ≡ used C j
unfolding used
used_all C j h = rw (le-leb 64 C h)

pub used-zero : (C j : ℕ) → C < 64 → j < 1 → false ≡ used C j
unfolding used
used-zero C j h z = rw (lt-leb 64 C h, lt-leb 1 j z)

pub used_low : (C j : ℕ) → C < 64 → 1 ≤ j → leb j C ≡ used C j
unfolding used
used_low C j h z = rw (lt-leb 64 C h, le-leb 1 j z)

-- the three words of a record

module _ (u : Bool) (s f n : ℕ) (t : u ≡ true) where
  pub used-yes : s ≤ 3 → 1 ≤ n → f + n ≤ 1024 → true ≡ record_ok u s f n
  unfolding record_ok
  used-yes a b c = rw (t, record_ok, le-leb s 3 a, le-leb 1 n b, le-leb (f + n) 1024 c)

  pub used-says : record_ok u s f n ≡ true → (s ≤ 3) × (1 ≤ n) × (f + n ≤ 1024)
  unfolding record_ok
  used-says r =
      let a = and-true (leb s 3) (leb 1 n && leb (f + n) 1024) (rw (t, record_ok) at r) in
      let b = and-true _ _ a.1 in
      (leb-true _ _ a.0, leb-true _ _ b.0, leb-true _ _ b.1)

  pub used-no : (s ≤ 3 → 1 ≤ n → f + n ≤ 1024 → ⊥) → false ≡ record_ok u s f n
  used-no no_way = by-test (record_ok u s f n) (λ r. let x = used-says r in absurd (no_way x.0 x.1 x.2)) (λ r. sym r)

  -- the last test, without the sum
  pub used-last : s ≤ 3 → 1 ≤ n → n ≤ 1024 → leb f (1024 - n) ≡ record_ok u s f n
  used-last a b c =
      by-dec (dec_le f (1024 - n))
      (λ h. le-leb f (1024 - n) h ∙ used-yes a b (omega arith))
      (λ h. lt-leb f (1024 - n) (omega arith) ∙ used-no (λ x y z. omega arith))

module _ (u : Bool) (s f n : ℕ) (t : u ≡ false) where
  pub unused-yes : s ≡ 0 → f ≡ 0 → n ≡ 0 → true ≡ record_ok u s f n
  unfolding record_ok
  unused-yes a b c = rw (t, record_ok, a, b, c)

  pub unused-says : record_ok u s f n ≡ true → (s ≡ 0) × (f ≡ 0) × (n ≡ 0)
  unfolding record_ok
  unused-says r =
      let a = and-true (eqb s 0) (eqb f 0 && eqb n 0) (rw (t, record_ok) at r) in
      let b = and-true _ _ a.1 in
      (eqb-true _ _ a.0, eqb-true _ _ b.0, eqb-true _ _ b.1)

  pub unused-test : (eqb s 0 && eqb f 0 && eqb n 0) ≡ record_ok u s f n
  unfolding record_ok
  unused-test = rw t (and_assoc (eqb s 0) (eqb f 0) (eqb n 0))

-- the same record in a place that is used as before
fits-same : (c d : List ℕ) (j : ℕ) → used (removals d) j ≡ used (removals c) j → SamePlace c d j → record_fits d j ≡ record_fits c j
unfolding record_fits
fits-same c d j e p = rw (e, p.space, p.first, p.count)

-- what a lawful control buffer says
pub record Sound (c : List ℕ) : Type 0 where
  pub pool : is_pool_size (pool_size c) ≡ true
  pub mask : open_mask c ≤ 15
  pub fits : (j : ℕ) → j < 64 → record_fits c j ≡ true

pub lawful-says : (c : List ℕ) → lawful_control c ≡ true → Sound c
unfolding lawful_control
lawful-says c t =
    let a = and-true (is_pool_size (pool_size c)) (leb (open_mask c) 15 && all_from 64 0 (record_fits c)) t in
    let b = and-true _ _ a.1 in
    record { pool = a.0; mask = leb-true _ _ b.0; fits = λ j h. all_from_at 64 0 (record_fits c) b.1 j zero-le h }

pub says-lawful : (c : List ℕ) → Sound c → lawful_control c ≡ true
unfolding lawful_control
says-lawful c s = true-and _ _ s.pool (true-and _ _ (le-leb _ _ s.mask) (at-all_from 64 0 (record_fits c) (λ k lo hi. s.fits k hi)))

pub lawful-no : (c : List ℕ) → (Sound c → ⊥) → false ≡ lawful_control c
lawful-no c n = by-test (lawful_control c) (λ t. absurd (n (lawful-says c t))) (λ t. sym t)

-- all numbers of a range pass
pub all-of-range : (p : ℕ → Bool) (i n : ℕ) → list_all p (range_with_len i n) ≡ all_from n i p
unfolding all_from
all-of-range p i zero = refl
all-of-range p i (suc n) =
    by-test (p i)
    (λ t. let e : i + 1 ≡ suc i = omega arith in let rest = all-of-range p (i + 1) n in rw (t, all_from, ← e) rest)
    (λ f. rw (f, all_from))

pub lawful-records : (c : List ℕ) → is_pool_size (pool_size c) ≡ true → open_mask c ≤ 15 → all_from 64 0 (record_fits c) ≡ lawful_control c
unfolding lawful_control
lawful-records c p m = rw (p, le-leb (open_mask c) 15 m)

-- the changes that keep it lawful

pub fresh-lawful : (F : ℕ) → is_pool_size F ≡ true → lawful_control (fresh_control F) ≡ true
unfolding record_fits
fresh-lawful F t =
    let m = fresh-mask F in
    says-lawful (fresh_control F) (record {
      pool = rw (fresh-pool F) t;
      mask = omega arith;
      fits = λ j h. let z = fresh-places F j h in sym (unused-yes _ _ _ _ (rw (fresh-removals F) (used-none j h)) z.0 z.1 z.2);
    })

new-fits : (c : List ℕ) (s f n : ℕ) → length c ≡ control_buffer_words → s ≤ 3 → 1 ≤ n → f + n ≤ 1024 → record_fits (appended c s f n) ((removals c + 1) % 64) ≡ true
unfolding record_fits
new-fits c s f n len hs hn hf =
    rw (appended-removals c s f n len, appended-space c s f n len, appended-first c s f n len, appended-count c s f n len)
    (sym (used-yes _ _ _ _ (used-new (removals c)) hs hn hf))

pub appended-lawful : (c : List ℕ) (s f n : ℕ) → length c ≡ control_buffer_words → lawful_control c ≡ true → s ≤ 3 → 1 ≤ n → f + n ≤ 1024 → lawful_control (appended c s f n) ≡ true
appended-lawful c s f n len t hs hn hf =
    let x = lawful-says c t in
    let m = x.mask in
    says-lawful (appended c s f n) (record {
      pool = rw (appended-pool c s f n) x.pool;
      mask = omega (arith, appended-mask c s f n);
      fits = λ j h. by-dec (ℕ_discrete j ((removals c + 1) % 64))
          (λ e. rw e (new-fits c s f n len hs hn hf))
          (λ ne. fits-same c (appended c s f n) j (rw (appended-removals c s f n len) (used-kept (removals c) j h ne)) (appended-places c s f n j ne) ∙ x.fits j h);
    })

-- another mask of at most 15
pub mask-lawful : (c : List ℕ) (m : ℕ) → length c ≡ control_buffer_words → lawful_control c ≡ true → m ≤ 15 → lawful_control (with_mask c m) ≡ true
mask-lawful c m len t h =
    let x = lawful-says c t in
    says-lawful (with_mask c m) (record {
      pool = rw (mask-pool c m) x.pool;
      mask = omega (arith, mask-written c m len);
      fits = λ j hj. fits-same c (with_mask c m) j (rw (mask-removals c m) refl) (mask-places c m j) ∙ x.fits j hj;
    })

module _ (c : List ℕ) (s : ℕ) (len : length c ≡ control_buffer_words) (shut : is_open (open_mask c) s ≡ false) where
  pub opened-mask : open_mask (with_opened c s) ≡ open_mask c + 2 ^ s
  unfolding with_opened
  opened-mask = mask-written c (open_mask c + 2 ^ s) len

  pub opened-lawful : lawful_control c ≡ true → s ≤ 3 → lawful_control (with_opened c s) ≡ true
  unfolding with_opened
  opened-lawful t h =
      let m = (lawful-says c t).mask in
      mask-lawful c (open_mask c + 2 ^ s) len t (omega (arith, set-fits (open_mask c) s shut 4 (omega arith) (omega arith)))

  pub opened-here : is_open (open_mask (with_opened c s)) s ≡ true
  opened-here = rw opened-mask (set_here (open_mask c) s shut)

  pub opened-other : (t : ℕ) → (t ≡ s → ⊥) → is_open (open_mask (with_opened c s)) t ≡ is_open (open_mask c) t
  opened-other t ne = rw opened-mask (set_other (open_mask c) s shut t ne)

module _ (c : List ℕ) (s : ℕ) (len : length c ≡ control_buffer_words) (stands_open : is_open (open_mask c) s ≡ true) where
  pub closed-mask : open_mask (with_closed c s) ≡ open_mask c - 2 ^ s
  unfolding with_closed
  closed-mask = mask-written c (open_mask c - 2 ^ s) len

  pub closed-lawful : lawful_control c ≡ true → lawful_control (with_closed c s) ≡ true
  unfolding with_closed
  closed-lawful t = let m = (lawful-says c t).mask in mask-lawful c (open_mask c - 2 ^ s) len t (omega arith)

  pub closed-other : (t : ℕ) → (t ≡ s → ⊥) → is_open (open_mask (with_closed c s)) t ≡ is_open (open_mask c) t
  closed-other t ne = rw closed-mask (cleared-other (open_mask c) s stands_open t ne)

-- the stores of the code

pub append-is : (c : List ℕ) (s f n m at : ℕ) → m ≡ removals c + 1 → at ≡ word_of_place (m % 64) → set (set (set (set c 1 m) at s) (at + 1) f) (at + 2) n ≡ appended c s f n
unfolding appended with_record with_removals
append-is c s f n m at e a = rw (a, e) refl
