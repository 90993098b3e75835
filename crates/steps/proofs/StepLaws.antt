-- Words of a span changed one after another.
use mathlib.Core.Path.{◌≡◌, refl, ap, ◌∙◌, sym}
use mathlib.Core.Bool.{Bool, true, false, not}
use mathlib.Core.List.{List, [], ◌∷◌}
use Prim.Native.Nat.{ℕ, ◌+◌, ◌-◌, ◌^◌, ◌≤◌, ◌<◌}
use native.Mathlib.Numerals.{add-one}
use native.Mathlib.Nat.{zero-add}
use native.Mathlib.Decide.{dec_lt, ℕ_discrete}
use native.Mathlib.Omega.{arith}
use lib.Dec.{eqb}
use mir.Val.{bool_byte}
use lib.ListN.{length, get_or, set, length-set}
use lib.Seq.{get_or-set_same, get_or-set_other}
use Rattle.words.specs.Tables.{imap}
use Rattle.words.specs.Counts.{count, one-if}
use Rattle.words.proofs.Cases.{by-test, by-dec, true-false}
use Rattle.words.proofs.TableLaws.{length-imap, get_or-imap, is-imap}
use Rattle.blocks.specs.declared.Block.{Block}
use Rattle.blocks.specs.Choice.{frames_of}
use Rattle.blocks.specs.Owners.{in_span}
use Rattle.blocks.proofs.Published.{Placed, block-frames}
use Rattle.runs.specs.PageWords.{mapped, page_word, rights_in, frame_in}
use Rattle.layout.specs.Changes.{map_word, map_words, unmap_word, unmap_words, mapped_in, protect_word, protect_words, differing}
use Rattle.steps.specs.Inner.{on_span, RewriteStep, UnmapStep, ProtectStep}
use Rattle.layout.proofs.ChangeLaws.{span-test, test-span}

-- the words from `first` up to first + n are f of page and old word, and every other is as it was
pub record Changed (f : ℕ → ℕ → ℕ) (ws : List ℕ) (first n : ℕ) (ys : List ℕ) : Type 0 where
  pub size : length ys ≡ length ws
  pub inside : (p : ℕ) → first ≤ p → p < first + n → get_or ys p 0 ≡ f p (get_or ws p 0)
  pub below : (p : ℕ) → p < first → get_or ys p 0 ≡ get_or ws p 0
  pub above : (p : ℕ) → first + n ≤ p → get_or ys p 0 ≡ get_or ws p 0

-- what the span's words become

unfoldable pub mapped_from : ℕ → ℕ → ℕ → ℕ → ℕ → ℕ
mapped_from first rights f p w = page_word false rights (f + (p - first))

-- none changed, one more, and all

module _ (f : ℕ → ℕ → ℕ) (ws : List ℕ) (first : ℕ) where
  pub change-none : Changed f ws first 0 ws
  change-none = record { size = refl; inside = λ p lo hi. absurd (omega arith); below = λ p h. refl; above = λ p h. refl }

  pub change-more : (k x : ℕ) (ys : List ℕ) → first + k < length ws → Changed f ws first k ys → x ≡ f (first + k) (get_or ws (first + k) 0) → Changed f ws first (k + 1) (set ys (first + k) x)
  change-more k x ys h s e =
      record {
        size = length-set ys (first + k) x ∙ s.size;
        inside = λ p lo hi. by-dec (ℕ_discrete p (first + k))
            (λ same. rw same (get_or-set_same ys (first + k) x 0 (omega (arith, s.size)) ∙ e))
            (λ other. get_or-set_other ys (first + k) p x 0 other ∙ s.inside p lo (omega arith));
        below = λ p lt. get_or-set_other ys (first + k) p x 0 (λ z. omega arith) ∙ s.below p lt;
        above = λ p le. get_or-set_other ys (first + k) p x 0 (λ z. omega arith) ∙ s.above p (omega arith);
      }

  -- the next word is still the old one
  pub change-next : (k : ℕ) (ys : List ℕ) → Changed f ws first k ys → get_or ys (first + k) 0 ≡ get_or ws (first + k) 0
  change-next k ys s = s.above (first + k) (omega arith)

  -- g changes by f inside the span, and nothing outside
  pub change-all : (g : ℕ → ℕ → ℕ) (n : ℕ) (ys : List ℕ) → ((p w : ℕ) → in_span first n p ≡ true → g p w ≡ f p w) → ((p w : ℕ) → in_span first n p ≡ false → g p w ≡ w)
      → Changed f ws first n ys → ys ≡ imap g 0 ws
  change-all g n ys within outside s =
      is-imap g ws ys 0 0 s.size (λ p h. by-test (in_span first n p)
      (λ t. let q = test-span first n p t in s.inside p q.0 q.1 ∙ sym (within p _ t))
      (λ t. by-dec (dec_lt p first)
      (λ lt. s.below p lt ∙ sym (outside p _ t))
      (λ ge. by-dec (dec_lt p (first + n))
      (λ lt. true-false (in_span first n p) (span-test first n p (omega arith) lt) t)
      (λ out. s.above p (omega arith) ∙ sym (outside p _ t)))))

module _ (ws : List ℕ) (first : ℕ) where
  -- fs are the n frames from f on
  pub all-mapped : (n rights f : ℕ) (fs ys : List ℕ) → ((t : ℕ) → t < n → get_or fs t 0 ≡ f + t) → Changed (mapped_from first rights f) ws first n ys → ys ≡ map_words ws first n rights fs
  unfolding map_words map_word mapped_from
  all-mapped n rights f fs ys are s =
      change-all (mapped_from first rights f) ws first (map_word first n rights fs) n ys
      (λ p w t. let q = test-span first n p t in let lo = q.0 in let hi = q.1 in rw (t, map_word) (ap (page_word false rights) (are (p - first) (omega arith))))
      (λ p w t. rw (t, map_word)) s

  pub all-changed : (word : ℕ → ℕ) (n : ℕ) (ys : List ℕ) → Changed (λ p w. word w) ws first n ys → ys ≡ on_span first n word ws
  unfolding on_span
  all-changed word n ys s = change-all (λ p w. word w) ws first (λ p w. elim (in_span first n p) [ true ↦ word w | false ↦ w ]) n ys (λ p w t. rw t refl) (λ p w t. rw t refl) s

-- pages mapped block after block

module _ (first n rights : ℕ) (fs : List ℕ) (p w : ℕ) where
  map-in : first ≤ p → p < first + n → map_word first n rights fs p w ≡ page_word false rights (get_or fs (p - first) 0)
  unfolding map_word
  map-in lo hi = rw (span-test first n p lo hi, map_word)

  map-out : (first ≤ p → p < first + n → ⊥) → map_word first n rights fs p w ≡ w
  unfolding map_word
  map-out away = by-test (in_span first n p) (λ t. let q = test-span first n p t in absurd (away q.0 q.1)) (λ t. rw (t, map_word))

module _ (ws : List ℕ) (first rights : ℕ) (fs : List ℕ) where
  pub blocks-none : ws ≡ map_words ws first 0 rights fs
  blocks-none = all-mapped ws first 0 rights 0 fs ws (λ t h. absurd (omega arith)) (change-none (mapped_from first rights 0) ws first)

  pub blocks-long : (n : ℕ) (ys : List ℕ) → ys ≡ map_words ws first n rights fs → length ys ≡ length ws
  unfolding map_words
  blocks-long n ys e = ap length e ∙ length-imap _ 0 ws

  -- the next n pages get the frames gs, which are the next of fs
  blocks_more : (d n : ℕ) (ys gs zs : List ℕ) → ys ≡ map_words ws first d rights fs → ((t : ℕ) → t < n → get_or gs t 0 ≡ get_or fs (d + t) 0)
      → zs ≡ map_words ys (first + d) n rights gs → zs ≡ map_words ws first (d + n) rights fs
  unfolding map_words
  blocks_more d n ys gs zs ye same ze =
      is-imap (map_word first (d + n) rights fs) ws zs 0 0 (ap length ze ∙ length-imap _ 0 ys ∙ long) (λ p h.
      let old : get_or ys p 0 ≡ map_word first d rights fs p (get_or ws p 0) = ap (λ (l : List ℕ). get_or l p 0) ye ∙ rw (zero-add p) at (get_or-imap (map_word first d rights fs) 0 ws p 0 0 h) in
      let lt : p < length ys = omega (arith, long) in
      ap (λ (l : List ℕ). get_or l p 0) ze ∙ rw (zero-add p) at (get_or-imap (map_word (first + d) n rights gs) 0 ys p 0 0 lt) ∙ ap (map_word (first + d) n rights gs p) old ∙ turn p (get_or ws p 0))
    where
      long : length ys ≡ length ws
      long = blocks-long d ys ye

      turn : (p w : ℕ) → map_word (first + d) n rights gs p (map_word first d rights fs p w) ≡ map_word first (d + n) rights fs p w
      turn p w =
          by-dec (dec_lt p (first + d))
          (λ low. map-out (first + d) n rights gs p _ (λ lo hi. omega arith)
          ∙ by-dec (dec_lt p first)
          (λ lt. map-out first d rights fs p w (λ lo hi. omega arith) ∙ sym (map-out first (d + n) rights fs p w (λ lo hi. omega arith)))
          (λ ge. map-in first d rights fs p w (omega arith) low ∙ sym (map-in first (d + n) rights fs p w (omega arith) (omega arith))))
          (λ high. by-dec (dec_lt p (first + d + n))
          (λ lt.
          let e : d + (p - (first + d)) ≡ p - first = omega arith in
          map-in (first + d) n rights gs p _ (omega arith) lt ∙ ap (page_word false rights) (rw e at (same (p - (first + d)) (omega arith)))
          ∙ sym (map-in first (d + n) rights fs p w (omega arith) (omega arith)))
          (λ out. map-out (first + d) n rights gs p _ (λ lo hi. omega arith) ∙ map-out first d rights fs p w (λ lo hi. omega arith)
          ∙ sym (map-out first (d + n) rights fs p w (λ lo hi. omega arith))))

  -- one block more
  pub block_more : (F n d z : ℕ) (x : Block) (ys zs : List ℕ) → Placed F fs n d x → ys ≡ map_words ws first d rights fs → z ≡ 2 ^ x.order
      → zs ≡ map_words ys (first + d) (2 ^ x.order) rights (frames_of (x ∷ [])) → zs ≡ map_words ws first (d + z) rights fs
  block_more F n d z x ys zs placed ye ze e = rw ze (blocks_more d (2 ^ x.order) ys (frames_of (x ∷ [])) zs ye (λ t h. block-frames x t h ∙ sym (placed.frames t h)) e)

-- the next word of each

pub next-mapped : (first rights f k x w : ℕ) → x ≡ page_word false rights (f + k) → x ≡ mapped_from first rights f (first + k) w
unfolding mapped_from
next-mapped first rights f k x w e = let same : first + k - first ≡ k = omega arith in rw same e

-- counts over the span, one word more

module _ (test : ℕ → Bool) (ws : List ℕ) (first : ℕ) where
  pub count-step : (k n x v : ℕ) → n ≡ count k (λ t. test (get_or ws (first + t) 0)) → v ≡ get_or ws (first + k) 0 → x ≡ one-if (test v) → n + x ≡ count (k + 1) (λ t. test (get_or ws (first + t) 0))
  unfolding count
  count-step k n x v e same d = rw (add-one k, d, e, same) refl

-- 1 for what counts

pub counted : (b c : Bool) (x : ℕ) → x ≡ bool_byte b → b ≡ c → x ≡ one-if c
unfolding one-if
counted b c x e same = e ∙ by-test c (λ t. rw (same, t) refl) (λ f. rw (same, f) refl)

pub byte-le : (b : Bool) → bool_byte b ≤ 1
byte-le b = by-test b (λ t. rw t (omega arith)) (λ f. rw f (omega arith))

-- the two changes
module _ (ws : List ℕ) (first n r : ℕ) (ws' rs' : List ℕ) where
  pub as-unmapped : RewriteStep (λ w. 0) mapped ws first n r ws' rs' → UnmapStep ws first n r ws' rs'
  unfolding on_span mapped_in unmap_words unmap_word
  as-unmapped x = record { value = x.value; pages = x.pages; ranges = x.ranges }

  pub as-protected : (rights : ℕ) → RewriteStep (λ w. page_word false rights (frame_in w)) (λ w. not (eqb (rights_in w) rights)) ws first n r ws' rs' → ProtectStep ws first n rights r ws' rs'
  unfolding on_span differing protect_words protect_word
  as-protected rights x = record { value = x.value; pages = x.pages; ranges = x.ranges }
