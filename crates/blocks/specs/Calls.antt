-- The pool's calls as it ships alone, a row for each. Document 01, Who can be refused, and by what: "Lowest applying number first. Each returns its number and zeros; buffers .. stay untouched".
-- The pool takes over 01's numbers where they speak of frames: 1 a length differs; 2 the words are unlawful for F, judged where F is a pool size; 4 F is no pool size;
-- 8 no owner is asked for, or one outside 1 to 4,096 (a span may run across spaces: that is for the tables above); 11 an owner asked for already holds a frame; 12 an owner to free holds none;
-- 14 fewer than n frames are free.
use Rattle.std.specs.Prelude.{Bool, ◌&&◌, not, List, [], ◌∷◌, ℕ, ◌+◌, ◌-◌, leb, ltb, eqb, length}
use Rattle.words.specs.declared.Outcome.{Outcome}
use Rattle.words.specs.Counts.{count}
use Rattle.words.specs.Searches.{all_from, any_from}
use Rattle.words.specs.Refusals.{Refusal}
use Rattle.words.specs.Rows.{Row, Promised}
use Rattle.blocks.specs.declared.PoolCall.{PoolCall}
use Rattle.blocks.specs.declared.PoolCall.TheVariants.{SetUp, Check, Count, Allocate, Free}
use Rattle.blocks.specs.FrameWords.{frame_buffer_words, largest_owner, is_pool_size, owners_of, free_in, lawful, frame_words}
use Rattle.blocks.specs.Choice.{frames_for, block_count, wish_of}
use Rattle.blocks.specs.Owners.{give, freed, holds}

-- what a call on the pool is lent: the frame words and, to allocate, a list for frame numbers
pub record PoolWords : Type 0 where
  pub frames : List ℕ
  pub out : List ℕ

abbrev pub lent : List ℕ → List ℕ → PoolWords
lent b out = record { frames = b; out = out }

-- conditions, in document 01's words

-- "1 a buffer length differs"
abbrev pub wrong_length : List ℕ → Refusal ℕ
wrong_length b = record { when = not (eqb (length b) frame_buffer_words); answer = 1 }

-- "2 tables unsound": of the pool's one buffer
abbrev pub unlawful : ℕ → List ℕ → Refusal ℕ
unlawful F b = record { when = is_pool_size F && not (lawful F b); answer = 2 }

-- "4 F not 1 to 4,096"
abbrev pub wrong_pool_size : ℕ → Refusal ℕ
wrong_pool_size F = record { when = not (is_pool_size F); answer = 4 }

-- the n owners from o on are at least one, and all from 1 to 4,096
unfoldable pub in_owners : ℕ → ℕ → Bool
in_owners o n = leb 1 n && (leb 1 o && leb (o + n) (largest_owner + 1))

-- "8 count 0, or span past" the last
abbrev pub wrong_span : ℕ → ℕ → Refusal ℕ
wrong_span o n = record { when = not (in_owners o n); answer = 8 }

-- "11 .. already mapped": one of the owners holds a frame
abbrev pub already_held : ℕ → List ℕ → ℕ → ℕ → Refusal ℕ
already_held F b o n = record { when = any_from n o (holds F (owners_of b)); answer = 11 }

-- "12 .. not mapped": one of the owners holds none
abbrev pub not_held : ℕ → List ℕ → ℕ → ℕ → Refusal ℕ
not_held F b o n = record { when = not (all_from n o (holds F (owners_of b))); answer = 12 }

-- "14 exactly when fewer than n frames are free"
abbrev pub too_few_frames : ℕ → List ℕ → ℕ → Refusal ℕ
too_few_frames F b n = record { when = ltb (count F (free_in b)) n; answer = 14 }

-- every call but set up judges the buffer first, then has refusals of its own
abbrev pub judged : ℕ → List ℕ → List (Refusal ℕ) → List (Refusal ℕ)
judged F b rs = wrong_length b ∷ unlawful F b ∷ wrong_pool_size F ∷ rs

-- the frame words once every frame of the n owners from o on is free
unfoldable pub freed_words : ℕ → List ℕ → ℕ → ℕ → List ℕ
freed_words F b o n = frame_words F (freed (owners_of b) o n)

unfoldable pub row : PoolWords → PoolCall → Row PoolWords
-- all F frames free
row P (SetUp F) = record { refusals = wrong_length P.frames ∷ wrong_pool_size F ∷ []; first = 0; second = 0; new = lent (frame_words F (λ g. 0)) P.out }
-- accepted exactly where the words are lawful for F
row P (Check F) = record { refusals = judged F P.frames []; first = 0; second = 0; new = P }
-- the free frames, counted singly
row P (Count F) = record { refusals = judged F P.frames []; first = count F (free_in P.frames); second = 0; new = P }
-- a frame for each place of the list, for the owners o, o + 1, .., in page order; the value is the number of blocks. "Taking a block gains a wished frame" (02, Change 6): the first block's is w, where that is a frame
-- of the pool; any number from F on says that there is none
row P (Allocate F o w) =
    let b = P.frames in
    let n = length P.out in
    let fs = frames_for F (free_in b) (wish_of F w) n in
    record {
      refusals = judged F b (wrong_span o n ∷ already_held F b o n ∷ too_few_frames F b n ∷ []);
      first = block_count F (free_in b) (wish_of F w) n;
      second = 0;
      new = lent (frame_words F (give (owners_of b) o fs)) fs;
    }
-- the value is the number of frames that became free
row P (Free F o n) =
    let b = P.frames in
    record {
      refusals = judged F b (wrong_span o n ∷ not_held F b o n ∷ []);
      first = count F (free_in (freed_words F b o n)) - count F (free_in b);
      second = 0;
      new = lent (freed_words F b o n) P.out;
    }

-- what every public call on the pool promises: lent P, it has the outcome o and leaves P'
abbrev pub Called : PoolCall → PoolWords → Outcome → PoolWords → Type 0
Called c P = Promised (row P c) P
