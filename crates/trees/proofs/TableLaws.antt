-- The empty tree is lawful, and one filled from a sound range table answers as the table does.
use mathlib.Core.Path.{◌≡◌, refl, sym, ap, ap₂, ◌∙◌}
use mathlib.Core.Bool.{true, false}
use mathlib.Core.List.{List, [], ◌∷◌, ◌++◌, append-nil}
use Prim.Native.Nat.{ℕ, zero, suc, ◌+◌, ◌-◌, ◌*◌, ◌≤◌, ◌<◌}
use native.Mathlib.Decide.{dec_le}
use native.Mathlib.Omega.{arith}
use lib.ListN.{length, get_or, replicate, length-replicate}
use lib.Seq.{append_snoc}
use borrow.Author.Tests.{lt-ltb, le-ltb}
use Rattle.words.specs.Tables.{tab_from, tabulate}
use Rattle.words.proofs.Cases.{by-test, by-dec, true-false}
use Rattle.words.proofs.SearchLaws.{at-all_from}
use Rattle.words.proofs.TableLaws.{all-default, is-tabulate}
use Rattle.runs.specs.PageWords.{rights_in, frame_in, is_page_word}
use Rattle.runs.specs.Walk.{joins, entries, range_words}
use Rattle.runs.specs.Runs.{Longest, InRange, frame_by, Table, nothing, entry, Has, here, later, RangesSound, range_count}
use Rattle.runs.proofs.WordLaws.{frame-lt, join, word-rights}
use Rattle.runs.proofs.RunsLaws.{longest-start, table_is, table-all}
use Rattle.runs.proofs.CheckLaws.{lawful-at}
use Rattle.runs.proofs.ExactLaws.{ranges-exactly}
use Rattle.runs.proofs.RangeCountLaws.{entries-counted}
use Rattle.trees.specs.declared.Range.{Range}
use Rattle.trees.specs.Ranges.{covers, page_value, look_list, held, insert_list, overlaps, frames_fit}
use Rattle.trees.specs.Trees.{Rooted, contents, nodes, occ, root_of, stored, word_of, tree_words}
use Rattle.trees.specs.Calls.{insert_call}
use Rattle.trees.specs.Inner.Spans.{Between, none, one, Proper, none_yet, and_one}
use Rattle.trees.specs.Statements.{empty_tree, EmptyLawful, entry_in, entries_of, filled_with, AllTaken, no_more, one-taken, TableFills}
use Rattle.trees.specs.Inner.Holding.{Valid}
use Rattle.trees.proofs.RangeLaws.{around, between_le, covered, page-in, proper-is}
use Rattle.trees.proofs.ListLaws.{apart-left, valid-lawful}
use Rattle.trees.proofs.CallStatementLaws.{Holds, words-hold, lookup-found, lookup-missing, insert-accepts, inserted}

-- The empty tree

abbrev empty : Rooted
empty = record { height = 0; tree = tt }

empty-valid : Valid empty
unfolding contents nodes occ
empty-valid = record { shape = tt; numbers = λ m o. absurd (omega arith); once = λ m. omega arith; between = let z : 0 ≤ 1024 = omega arith in none z; propers = none_yet }

empty-words : empty_tree ≡ tree_words empty
unfolding empty_tree tree_words root_of stored word_of
empty-words = ap (λ (l : List ℕ). 64 ∷ l) (is-tabulate (replicate 1536 0) 1536 (λ g. 0) 0 (length-replicate {A = ℕ} 1536 0) (λ k h. all-default 1536 k 0))

pub empty-lawful : EmptyLawful
unfolding EmptyLawful
empty-lawful = record { tree = empty; words = empty-words; law = valid-lawful empty empty-valid }

empty_holds : Holds empty_tree []
unfolding contents
empty_holds = rw empty-words (words-hold empty empty-valid)

-- A range behind all others goes to the end

insert-last : {lo : ℕ} {xs : List Range} (r : Range) → Between lo xs r.base → insert_list r xs ≡ xs ++ (r ∷ [])
unfolding insert_list
insert-last r (none a) = refl
insert-last r (one {r = q} a b m) = let l = between_le m in rw (le-ltb r.base q.base (omega arith)) (ap (λ (l : List Range). q ∷ l) (insert-last r m))

-- The entries of a range table

-- a table from its second entry on
tab-later : {A : Type 0} (f g : ℕ → A) → ((k : ℕ) → f (suc k) ≡ g k) → (n i : ℕ) → tab_from n (suc i) f ≡ tab_from n i g
unfolding tab_from
tab-later f g h zero i = refl
tab-later f g h (suc n) i = ap₂ ◌∷◌ (h i) (tab-later f g h n (suc i))

entry-later : (x y o r : ℕ) (more : List ℕ) (k : ℕ) → entry_in (x ∷ y ∷ o ∷ r ∷ more) (suc k) ≡ entry_in more k
unfolding entry_in
entry-later x y o r more k =
    let a : 4 * suc k + 1 ≡ suc (suc (suc (suc (4 * k + 1)))) = omega arith in
    let b : 4 * suc k + 2 ≡ suc (suc (suc (suc (4 * k + 2)))) = omega arith in
    let c : 4 * suc k + 3 ≡ suc (suc (suc (suc (4 * k + 3)))) = omega arith in
    let d : 4 * suc k ≡ suc (suc (suc (suc (4 * k)))) = omega arith in
    rw (a, b, c, d)

module _ (ws : List ℕ) where
  unfoldable table_ranges : {a : ℕ} {l : List ℕ} → Table ws a l → List Range
  table_ranges nothing = []
  table_ranges (entry x y o r lo eight g w t) = record { base = x; limit = y; offset = o; rights = r } ∷ table_ranges t

  entries-are : {a : ℕ} {l : List ℕ} (t : Table ws a l) (zs : List ℕ) (n : ℕ) → length l ≡ 4 * n → tab_from n 0 (entry_in (l ++ zs)) ≡ table_ranges t
  unfolding table_ranges tab_from entry_in
  entries-are nothing zs zero e = refl
  entries-are nothing zs (suc n) e = absurd (omega arith)
  entries-are (entry x y o r lo eight g w t) zs zero e = absurd (omega arith)
  entries-are (entry x y o r {more} lo eight g w t) zs (suc n) e =
      ap (λ (l : List Range). record { base = x; limit = y; offset = o; rights = r } ∷ l)
      (tab-later (entry_in (x ∷ y ∷ o ∷ r ∷ (more ++ zs))) (entry_in (more ++ zs)) (entry-later x y o r (more ++ zs)) n 0 ∙ entries-are t zs n (omega arith))

  -- a run ends before the next one begins
  runs-apart : (x y a b : ℕ) → Longest ws x y → Longest ws a b → x < a → y ≤ a
  runs-apart x y a b l m h =
      by-dec (dec_le y a) (λ e. e)
      (λ n.
      let u = l.run.frames (a - 1) (omega arith) (omega arith) in
      let v = l.run.frames a (omega arith) (omega arith) in
      true-false (joins (get_or ws (a - 1) 0) (get_or ws a 0))
      (join _ _ (record {
        this = l.run.maps (a - 1) (omega arith) (omega arith);
        next = l.run.maps a (omega arith) (omega arith);
        frame = omega arith;
        rights = l.run.rights a (omega arith) (omega arith) ∙ sym (l.run.rights (a - 1) (omega arith) (omega arith));
      }))
      (longest-start ws a b m (omega arith)))

  module _ (size : length ws ≡ 1024) where
    table-between : {a : ℕ} {l : List ℕ} (t : Table ws a l) (lo : ℕ) → lo ≤ 1024 → ((x y : ℕ) → a ≤ x → Longest ws x y → lo ≤ x) → Between lo (table_ranges t) 1024
    unfolding table_ranges
    table-between nothing lo h k = none h
    table-between (entry x y o r low eight g w t) lo h k =
        let f = g.run.fits in
        one (k x y low g) g.run.some (table-between t y (omega arith) (λ a b s l. runs-apart x y a b g l s))

    module _ (words : (p : ℕ) → p < length ws → is_page_word (get_or ws p 0) ≡ true) where
      table-proper : {a : ℕ} {l : List ℕ} (t : Table ws a l) → Proper (table_ranges t)
      unfolding table_ranges frames_fit frame_by
      table-proper nothing = none_yet
      table-proper (entry x y o r low eight g w t) =
          let f = g.run.fits in let s = g.run.some in
          let e = w.rights x (omega arith) s in
          and_one (proper-is _ (record {
            allowed = rw e at (word-rights (get_or ws x 0) (words x (omega arith)) (g.run.maps x (omega arith) s));
            pages = eight;
            top = omega arith;
            frames = at-all_from (y - x) x _ (λ p lo hi. lt-ltb _ _ (rw (w.frame p lo (omega arith)) at (frame-lt (get_or ws p 0))));
          })) (table-proper t)

  -- page p in it
  module _ (p : ℕ) where
    has-held : {a : ℕ} {l : List ℕ} (t : Table ws a l) (x y : ℕ) → Has x y l → x ≤ p → p < y → held (table_ranges t) p ≡ true
    unfolding table_ranges held
    has-held nothing a b h lo hi = elim h [ ]
    has-held (entry x y o r low eight g w t) a b here lo hi = rw (covered (record { base = x; limit = y; offset = o; rights = r }) p lo hi)
    has-held (entry x y o r low eight g w t) a b (later h) lo hi =
        by-test (covers (record { base = x; limit = y; offset = o; rights = r }) p)
        (λ e. rw e) (λ e. rw e (has-held t a b h lo hi))

    held-range : {a : ℕ} {l : List ℕ} (t : Table ws a l) → held (table_ranges t) p ≡ true → InRange ws p
    unfolding table_ranges held
    held-range nothing e = true-false false e refl
    held-range (entry x y o r low eight g w t) e =
        let q : Range = record { base = x; limit = y; offset = o; rights = r } in
        by-test (covers q p)
        (λ c. record { first = x; end = y; longest = g; eight = eight; from = (page-in q p c).0; to = (page-in q p c).1 })
        (λ c. held-range t (rw c at e))

    held-value : {a : ℕ} {l : List ℕ} (t : Table ws a l) → held (table_ranges t) p ≡ true → look_list (table_ranges t) p ≡ 4096 * rights_in (get_or ws p 0) + frame_in (get_or ws p 0)
    unfolding table_ranges held look_list page_value frame_by
    held-value nothing e = true-false false e refl
    held-value (entry x y o r low eight g w t) e =
        let q : Range = record { base = x; limit = y; offset = o; rights = r } in
        by-test (covers q p)
        (λ c. let k = page-in q p c in rw (c, w.rights p k.0 k.1, w.frame p k.0 k.1))
        (λ c. rw c (held-value t (rw c at e)))

  module _ (size : length ws ≡ 1024) where
    abbrev Listed : Table ws 0 (entries ws)
    Listed = table_is ws (omega arith)

    entries-listed : (rs : List ℕ) → length rs ≡ 512 → RangesSound ws rs → entries_of rs ≡ table_ranges Listed
    unfolding entries_of tabulate range_words
    entries-listed rs room s =
        rw (lawful-at ws rs ((ranges-exactly ws rs size room).1 s)).ranges
        (entries-are Listed (replicate (512 - length (entries ws)) 0) (range_count (range_words ws)) (entries-counted ws (length (entries ws)) size refl).1)

-- Filled in order

fills : (xs rs : List Range) (b : List ℕ) → Holds b xs → Between 0 (xs ++ rs) 1024 → Proper rs → AllTaken rs b × Holds (filled_with rs b) (xs ++ rs)
unfolding filled_with
fills xs [] b h m p = (no_more, rw (append-nil xs) h)
fills xs (r ∷ rs) b h m (and_one e p) =
    let q = around 0 xs r rs 1024 m in
    let o = rw (append-nil xs) at (apart-left r [] q.left (unfold overlaps in refl)) in
    let i = rw (insert-last r q.left) at (inserted b r h e o) in
    let k = fills (xs ++ (r ∷ [])) rs (insert_call b r).new i (rw (append_snoc xs r rs) m) p in
    (one-taken (insert-accepts b r h e o) k.0, rw (append_snoc xs r rs) at k.1)

pub table-fills : TableFills
unfolding TableFills
table-fills ws rs size room s =
    let t = Listed ws size in
    let e = entries-listed ws size rs room s in
    let b : Between 0 (table_ranges ws t) 1024 = table-between ws size t 0 (omega arith) (λ x y l g. omega arith) in
    let k = fills [] (table_ranges ws t) empty_tree empty_holds b (table-proper ws size s.words t) in (
      rw e k.0,
      (
        rw e k.1.ranges,
        λ p h. (
          λ i. let g = has-held ws p t i.first i.end (table-all ws i.first i.end i.longest i.eight) i.from i.to in
              rw e (rw (held-value ws p t g) at (lookup-found k.1 p g)),
          λ n. rw e (lookup-missing k.1 p (omega arith) (by-test (held (table_ranges ws t) p) (λ c. absurd (n (held-range ws p t c))) (λ c. c))),
        ),
      ),
    )
