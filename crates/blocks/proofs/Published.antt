-- What the frame pool promises to a layer above, beyond the contracts of its functions. A crate above imports from the pool this module and the definitions that promises name, and nothing else.
use mathlib.Core.Path.{◌≡◌, refl, ap, ◌∙◌, sym}
use mathlib.Core.Bool.{Bool, true, false}
use mathlib.Core.List.{List, [], ◌∷◌}
use mathlib.Core.Option.{Option, none, some}
use Prim.Native.Nat.{ℕ, ◌+◌, ◌-◌, ◌^◌, ◌<◌, ◌≤◌, zero-le}
use native.Mathlib.Nat.{add-zero, zero-add}
use native.Mathlib.Decide.{dec_lt}
use native.Mathlib.Omega.{arith}
use lib.ListN.{length, get_or, replicate}
use lib.Pow.{pow_pos}
use Rattle.words.specs.Counts.{count}
use Rattle.words.specs.Searches.{any_from}
use Rattle.words.proofs.Cases.{by-dec}
use Rattle.blocks.specs.declared.Block.{Block}
use Rattle.blocks.specs.declared.Bound.{Bound}
use Rattle.blocks.specs.declared.Chosen.{Chosen}
use Rattle.blocks.specs.FrameWords.{is_pool_size, is_owner, owner_of, owners_of, free_of, free_in, lawful, frame_words}
use Rattle.blocks.specs.Choice.{take_block, end_of, take_blocks, frames_of, blocks_for, frames_for, block_count, HeldBefore}
use Rattle.blocks.specs.Owners.{give, in_span, freed, holds}
use Rattle.blocks.specs.Inner.Taking.{Searched, nothing_known, BlockTaken}
use Rattle.blocks.specs.Inner.Marks.{Marking, Previewed, BlockMarked}
use Rattle.blocks.proofs.WordLaws.{owners-small, lawful-is, lawful-yes, table-lawful}
use Rattle.blocks.proofs.WordLaws
use Rattle.blocks.proofs.ChoiceLaws.{Good, takes-good, takes_all, Taking, taking, one, end, frame-first, frame-rest, take_blocks-same, past-pool-blocks}
use Rattle.blocks.proofs.SearchedLaws.{nothing_known_lem}
use Rattle.blocks.proofs.AllocateLaws.{Rest, rest_of}
use Rattle.blocks.proofs.MarkLaws.{nothing-marked}
use Rattle.blocks.proofs.FreeLaws.{cleared-in, cleared-out, given-at, given-other, freed-again, nobody-holds}

-- frames that a request of n pages takes

-- as many as asked, below F, free before, each once
pub record Fresh (F : ℕ) (free : ℕ → Bool) (n : ℕ) (fs : List ℕ) : Type 0 where
  pub many : length fs ≡ n
  pub below : (t : ℕ) → t < n → get_or fs t 0 < F
  pub unheld : (t : ℕ) → t < n → free (get_or fs t 0) ≡ true
  pub once : (t u : ℕ) → t < n → u < n → get_or fs t 0 ≡ get_or fs u 0 → t ≡ u

good-frames : (F : ℕ) (free : ℕ → Bool) (wish : Option ℕ) (n : ℕ) → Good F free (frames_for F free wish n)
unfolding frames_for blocks_for
good-frames F free wish n = takes-good n F free wish n

-- exactly n where n are free
pub frames-fresh : (F : ℕ) (free : ℕ → Bool) (wish : Option ℕ) (n : ℕ) → n ≤ count F free → Fresh F free n (frames_for F free wish n)
unfolding frames_for blocks_for
frames-fresh F free wish n enough =
    let m : length (frames_for F free wish n) ≡ n = takes_all n F free wish n (omega arith) enough in
    let g = good-frames F free wish n in
    record {
      many = m;
      below = λ t h. (g.inside t (omega arith)).0;
      unheld = λ t h. (g.inside t (omega arith)).1;
      once = λ t u ht hu e. g.once t u (omega arith) (omega arith) e;
    }

-- a block can always be taken while a frame is free and a page is left
pub block-there : (F : ℕ) (free : ℕ → Bool) (wish : Option ℕ) (left f : ℕ) → 1 ≤ left → f < F → free f ≡ true → (b : Block) × (take_block F free wish left ≡ some b)
block-there F free wish left f pos h t = go (take_block F free wish left) refl (taking F free wish left)
  where
    go : (o : Option Block) → take_block F free wish left ≡ o → Taking F free left o → (b : Block) × (take_block F free wish left ≡ some b)
    go o e (one b w) = (b, e)
    go o e (end n) = absurd (n f h t pos)

-- the result depends only on which frames below F are free, and on the wish
pub blocks-same : (F : ℕ) (p q : ℕ → Bool) (wish : Option ℕ) (n : ℕ) → ((g : ℕ) → g < F → p g ≡ q g) → blocks_for F p wish n ≡ blocks_for F q wish n
unfolding blocks_for
blocks-same F p q wish n same = take_blocks-same n F p q wish n same

-- a frame that is not of the pool is no wish
pub blocks-past : (F : ℕ) (free : ℕ → Bool) (w n : ℕ) → F ≤ w → blocks_for F free (some w) n ≡ blocks_for F free none n
unfolding blocks_for
blocks-past F free w n h = past-pool-blocks n F free w n h

-- pool sizes

pub size-test : (F : ℕ) → is_pool_size F ≡ true → (1 ≤ F) × (F ≤ 4096)
size-test = WordLaws.size-at

pub test-size : (F : ℕ) → 1 ≤ F → F ≤ 4096 → is_pool_size F ≡ true
test-size = WordLaws.at_size

-- owners, as a word names them

pub owner-test : (w : ℕ) → is_owner w ≡ true → (1 ≤ w) × (w ≤ 4096)
owner-test = WordLaws.is-owner

pub test-owner : (w : ℕ) → 1 ≤ w → w ≤ 4096 → is_owner w ≡ true
test-owner = WordLaws.owner-is

-- a word up to 4,096 names itself, a larger one nobody
pub owner-low : (w : ℕ) → w ≤ 4096 → owner_of w ≡ w
owner-low = WordLaws.owner-low

pub owner-high : (w : ℕ) → 4096 < w → owner_of w ≡ 0
owner-high = WordLaws.owner-high

-- a frame is free where it has no owner
pub free-says : (owner : ℕ → ℕ) (f : ℕ) → free_of owner f ≡ true → owner f ≡ 0
free-says = WordLaws.free-at

pub says-free : (owner : ℕ → ℕ) (f : ℕ) → owner f ≡ 0 → free_of owner f ≡ true
says-free = WordLaws.at-free

-- lawful buffers

-- a lawful buffer is the table of its own owners
pub own-table : (F : ℕ) (b : List ℕ) → lawful F b ≡ true → b ≡ frame_words F (owners_of b)
own-table F b t = WordLaws.lawful-table F b (lawful-is F b t)

pub record Facts (F : ℕ) (b : List ℕ) : Type 0 where
  pub len : length b ≡ 4096
  pub some-frame : 1 ≤ F
  pub small : F ≤ 4096
  pub owners-low : (g : ℕ) → owners_of b g ≤ 4096
  pub owners-high : (g : ℕ) → F ≤ g → owners_of b g ≡ 0

pub lawful-facts : (F : ℕ) (b : List ℕ) → lawful F b ≡ true → Facts F b
lawful-facts F b t =
    let l = lawful-is F b t in
    record { len = l.len; some-frame = l.pos; small = l.small; owners-low = owners-small b; owners-high = WordLaws.owners-high F b l }

-- the table of any owners that stand below F is lawful, and names just these
module _ (F : ℕ) (o : ℕ → ℕ) (low : (g : ℕ) → o g ≤ 4096) (high : (g : ℕ) → F ≤ g → o g ≡ 0) (small : F ≤ 4096) where
  pub table-is-lawful : 1 ≤ F → lawful F (frame_words F o) ≡ true
  table-is-lawful pos = sym (lawful-yes F (frame_words F o) (table-lawful F o low high small pos))

  pub table-owners : owners_of (frame_words F o) ≡ o
  table-owners = WordLaws.owners-again F o low high small

-- giving and freeing

-- the frame of page t is owned by o + t, and a frame that is not given keeps its owner
pub owner-given : (F : ℕ) (free : ℕ → Bool) (wish : Option ℕ) (owner : ℕ → ℕ) (o n t : ℕ) → n ≤ count F free → t < n
    → give owner o (frames_for F free wish n) (get_or (frames_for F free wish n) t 0) ≡ o + t
owner-given F free wish owner o n t enough h = given-at F free owner o (frames_for F free wish n) (good-frames F free wish n) t (omega (arith, (frames-fresh F free wish n enough).many))

pub owner-kept : (owner : ℕ → ℕ) (o : ℕ) (fs : List ℕ) (g : ℕ) → ((t : ℕ) → t < length fs → get_or fs t 0 ≡ g → ⊥) → give owner o fs g ≡ owner g
owner-kept = given-other

-- owners of the span hold nothing any more, others what they held
pub freed-in : (owner : ℕ → ℕ) (o n f : ℕ) → in_span o n (owner f) ≡ true → freed owner o n f ≡ 0
unfolding freed
freed-in owner o n f t = sym (cleared-in o n (owner f) t)

pub freed-out : (owner : ℕ → ℕ) (o n f : ℕ) → in_span o n (owner f) ≡ false → freed owner o n f ≡ owner f
unfolding freed
freed-out owner o n f t = sym (cleared-out o n (owner f) t)

-- freeing what was allocated gives back the very same words
pub free-allocated : (F : ℕ) (b : List ℕ) (o : ℕ) (wish : Option ℕ) (n : ℕ) → lawful F b ≡ true → n ≤ count F (free_in b) → 1 ≤ o → o + n ≤ 4097 → any_from n o (holds F (owners_of b)) ≡ false
    → frame_words F (freed (owners_of (frame_words F (give (owners_of b) o (frames_for F (free_in b) wish n)))) o n) ≡ b
free-allocated F b o wish n t enough pos room nobody =
    let l = lawful-is F b t in
    freed-again F b l o wish n enough room (λ g lo hi. by-dec (dec_lt g F)
    (λ h. nobody-holds b o n F nobody g h lo hi)
    (λ ge. let z = WordLaws.owners-high F b l g (omega arith) in omega arith))

-- a request served block after block, by calls that each take one block

-- n pages were asked for the owners from o on with a wish w₀, where the words were b₀. So many blocks are taken, which serve the first `done` pages; the words are b now, the next wish is w, and the searches have
-- shown `known`. The whole answer is what is taken so far, and the answer for the rest.
pub record Going (F : ℕ) (b₀ : List ℕ) (o w₀ n : ℕ) (b : List ℕ) (w done blocks : ℕ) (known : Bound) : Type 0 where
  pub owners : (1 ≤ o) × (o + n ≤ 4097)
  pub lawful : lawful F b ≡ true
  pub at_most : done ≤ n
  pub few : blocks ≤ done
  pub enough : n - done ≤ count F (free_in b)
  pub searched : Searched F (free_in b) known
  pub blocks-are : block_count F (free_in b₀) (some w₀) n ≡ blocks + block_count F (free_in b) (some w) (n - done)
  pub frames-are : (t : ℕ) → get_or (frames_for F (free_in b₀) (some w₀) n) (done + t) 0 ≡ get_or (frames_for F (free_in b) (some w) (n - done)) t 0
  pub owners-are : give (owners_of b₀) o (frames_for F (free_in b₀) (some w₀) n) ≡ give (owners_of b) (o + done) (frames_for F (free_in b) (some w) (n - done))

-- where the next block lies, and that its frames are those of the next pages; fs are the frames of all pages
pub record Placed (F : ℕ) (fs : List ℕ) (n done : ℕ) (x : Block) : Type 0 where
  pub small : x.order ≤ 10
  pub fits : done + 2 ^ x.order ≤ n
  pub inside : x.start.0 + 2 ^ x.order ≤ F
  pub frames : (t : ℕ) → t < 2 ^ x.order → get_or fs (done + t) 0 ≡ x.start.0 + t

-- before the first block
pub going_start : (F : ℕ) (b : List ℕ) (o w n : ℕ) (known : Bound) → lawful F b ≡ true → n ≤ count F (free_in b) → 1 ≤ o → o + n ≤ 4097 → known ≡ nothing_known → Going F b o w n b w 0 0 known
going_start F b o w n known lw enough pos room e =
    let z : n - 0 ≡ n = omega arith in
    record {
      owners = (pos, room);
      lawful = lw;
      at_most = zero-le;
      few = zero-le;
      enough = omega arith;
      searched = rw e (nothing_known_lem F (free_in b));
      blocks-are = rw z (omega arith);
      frames-are = λ t. rw (z, zero-add t) refl;
      owners-are = rw (z, add-zero o) refl;
    }

module _ (F : ℕ) (b₀ : List ℕ) (o w₀ n : ℕ) (b : List ℕ) (w done blocks : ℕ) (known : Bound) (s : Going F b₀ o w₀ n b w done blocks known) where
  module _ (lt : done < n) (r : Chosen) (b' : List ℕ) (t : BlockTaken F b (o + done) w (n - done) r b') where
    rest : Rest F b (o + done) w (n - done) r.block b'
    rest = let os = s.owners in rest_of F b (o + done) w (n - done) r b' s.lawful (omega arith) (omega arith) s.enough t

    rest-frames : frames_for F (free_in b) (some w) (n - done) ≡ frames_of (r.block ∷ blocks_for F (free_in b') (some (end_of r.block)) (n - done - 2 ^ r.block.order))
    unfolding frames_for
    rest-frames = ap frames_of rest.blocks

    -- what can be said of the next block
    pub next-placed : Placed F (frames_for F (free_in b₀) (some w₀) n) n done r.block
    next-placed =
        record {
          small = rest.small;
          fits = omega (arith, rest.fits);
          inside = rest.inside;
          frames = λ u h. s.frames-are u ∙ ap (λ (l : List ℕ). get_or l u 0) rest-frames ∙ frame-first r.block _ u h;
        }

    on-from : (z : ℕ) → z ≡ 2 ^ r.block.order → Going F b₀ o w₀ n b' (end_of r.block) (done + z) (blocks + 1) r.known
    unfolding block_count frames_for
    on-from z ze =
        let x : Block = r.block in
        let fits = rest.fits in
        let some-frames : 0 < 2 ^ x.order = pow_pos x.order in
        let left : n - done - 2 ^ x.order ≡ n - (done + z) = omega arith in
        let on : o + done + 2 ^ x.order ≡ o + (done + z) = omega arith in
        let few = s.few in
        record {
          owners = s.owners;
          lawful = rest.lawful;
          at_most = omega arith;
          few = omega arith;
          enough = rw (← left) rest.enough;
          searched = t.searched;
          blocks-are = s.blocks-are ∙ ap (λ (l : List Block). blocks + length l) rest.blocks ∙ rw left (omega arith);
          frames-are = λ u.
              let at : done + z + u ≡ done + (2 ^ x.order + u) = omega arith in
              let u-less : 2 ^ x.order + u - 2 ^ x.order ≡ u = omega arith in
              rw at (s.frames-are (2 ^ x.order + u) ∙ ap (λ (l : List ℕ). get_or l (2 ^ x.order + u) 0) rest-frames ∙ frame-rest x _ (2 ^ x.order + u) (omega arith) ∙ rw (u-less, left) refl);
          owners-are = s.owners-are ∙ rest.given ∙ rw (left, on) refl;
        }

    -- one block more; z is its size as the code has it, and e the frame after it
    pub going_on : (z e : ℕ) → z ≡ 2 ^ r.block.order → e ≡ end_of r.block → Going F b₀ o w₀ n b' e (done + z) (blocks + 1) r.known
    going_on z e ze ee = rw ee (on-from z ze)

  -- no page is left
  module _ (all : n ≤ done) where
    none_left : n - done ≡ 0
    none_left = omega (arith, all)

    pub all_blocks : blocks ≡ block_count F (free_in b₀) (some w₀) n
    unfolding block_count blocks_for take_blocks
    all_blocks = sym (s.blocks-are ∙ rw none_left (omega arith))

    pub all_words : b ≡ frame_words F (give (owners_of b₀) o (frames_for F (free_in b₀) (some w₀) n))
    unfolding frames_for blocks_for take_blocks frames_of give
    all_words = own-table F b s.lawful ∙ ap (frame_words F) (sym (s.owners-are ∙ rw none_left refl))

-- the same request with marks in place of written words: b are the words lent, and the marks m are of the words that it would have by now. Owners stand in no word lent, so any do
pub record Trying (F : ℕ) (b : List ℕ) (w₀ n : ℕ) (m : List ℕ) (w done blocks : ℕ) (known : Bound) : Type 0 where
  pub words : List ℕ
  pub going : Going F b 1 w₀ n words w done blocks known
  pub marking : Marking F b m words w (n - done)

pub trying_start : (F : ℕ) (b : List ℕ) (w n : ℕ) (known : Bound) → lawful F b ≡ true → n ≤ count F (free_in b) → n ≤ 4096 → HeldBefore F (free_in b) w → known ≡ nothing_known → Trying F b w n (replicate 129 0) w 0 0 known
trying_start F b w n known lw enough few before e =
    record { words = b; going = going_start F b 1 w n known lw enough (omega arith) (omega arith) e; marking = nothing-marked F b w (n - 0) 129 lw before }

module _ (F : ℕ) (b : List ℕ) (w₀ n : ℕ) (m : List ℕ) (w done blocks : ℕ) (known : Bound) (s : Trying F b w₀ n m w done blocks known) where
  -- what the next block asks
  pub trying-asks : Previewed F b m w (n - done) known
  trying-asks = record { words = s.words; marking = s.marking; searched = s.going.searched; enough = s.going.enough }

  module _ (lt : done < n) (r : Chosen) (m' : List ℕ) (t : BlockMarked F b m w (n - done) known r m') where
    next : (v : List ℕ) × BlockTaken F s.words (1 + done) w (n - done) r v × Marking F b m' v (end_of r.block) (n - done - 2 ^ r.block.order)
    next = let o = s.going.owners in t.marked s.words (1 + done) s.marking s.going.searched s.going.enough (omega arith) (omega (arith, o.1))

    pub trying-placed : Placed F (frames_for F (free_in b) (some w₀) n) n done r.block
    trying-placed = next-placed F b 1 w₀ n s.words w done blocks known s.going lt r next.0 next.1

    pub trying-on : (z e : ℕ) → z ≡ 2 ^ r.block.order → e ≡ end_of r.block → Trying F b w₀ n m' e (done + z) (blocks + 1) r.known
    trying-on z e ze ee =
        let left : n - done - 2 ^ r.block.order ≡ n - (done + z) = omega arith in
        record {
          words = next.0;
          going = going_on F b 1 w₀ n s.words w done blocks known s.going lt r next.0 next.1 z e ze ee;
          marking = rw (ee, ← left) next.2;
        }

-- the frames of a block, from its start on
pub block-frames : (x : Block) (t : ℕ) → t < 2 ^ x.order → get_or (frames_of (x ∷ [])) t 0 ≡ x.start.0 + t
block-frames x t h = frame-first x [] t h
