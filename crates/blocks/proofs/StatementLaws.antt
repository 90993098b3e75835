-- The statements on the pool's calls, proved.
use mathlib.Core.Path.{◌≡◌, refl, ap, ◌∙◌}
use mathlib.Core.Bool.{Bool, true, false}
use mathlib.Core.Option.{Option}
use mathlib.Core.List.{List, [], ◌∷◌}
use Prim.Native.Nat.{ℕ, ◌+◌, ◌-◌, ◌^◌, ◌<◌, ◌≤◌, zero-le}
use native.Mathlib.Omega.{arith}
use lib.ListN.{length}
use lib.Pow.{pow_pos}
use borrow.Author.Tests.{not-false, ltb-false}
use Rattle.words.specs.Counts.{count}
use Rattle.words.specs.Searches.{any_from}
use Rattle.words.specs.Refusals.{NoneApplies, done, next}
use Rattle.words.proofs.Cases.{by-test}
use Rattle.words.proofs.RowLaws.{refused-zeros, refused-leaves, accepted-leaves, promised-exactly, accepted-none}
use Rattle.blocks.specs.declared.PoolCall.{PoolCall}
use Rattle.blocks.specs.declared.PoolCall.TheVariants.{SetUp, Check, Count, Allocate, Free}
use Rattle.blocks.specs.Blocks.{wholly_free}
use Rattle.blocks.specs.FrameWords.{owners_of, free_in, lawful, frame_words}
use Rattle.blocks.specs.Choice.{blocks_for, frames_for, wish_of}
use Rattle.blocks.specs.Owners.{give, freed, holds}
use Rattle.blocks.specs.Calls.{PoolWords, lent, in_owners, wrong_length, wrong_pool_size, wrong_span, already_held, not_held, too_few_frames, judged, freed_words, row}
use Rattle.blocks.specs.Statements.{RefusedAltersNothing, RefusedExactly, LowestFirst, size_of, AcceptedLeavesLawful, AllocatedThenFreed, FreeThere, WishDecides}
use Rattle.blocks.proofs.CallLaws.{lowest-first, owners-in, judged-lawful, none-lawful}
use Rattle.blocks.proofs.AroundLaws.{mod-start, start-mod, in-block, block_in, around-at, at-around}
use Rattle.blocks.proofs.FreeBlockLaws.{whole-at, at-whole}
use Rattle.blocks.proofs.WishLaws.{order_small, wish-met, wish-not-met}
use Rattle.blocks.proofs.WordLaws.{owners-small, owners-high, lawful-is}
use Rattle.blocks.proofs.ChoiceLaws.{takes-good}
use Rattle.blocks.proofs.FreeLaws.{given-low, given-high, freed-small, freed-zero}
use Rattle.blocks.proofs.Published.{frames-fresh, size-test, table-is-lawful, free-allocated}

pub refused-alters-nothing : RefusedAltersNothing
unfolding RefusedAltersNothing
refused-alters-nothing c P r P' w f = (refused-zeros _ _ _ _ w f, refused-leaves _ _ _ _ w f)

pub refused-exactly : RefusedExactly
unfolding RefusedExactly LowestFirst
refused-exactly c P r P' w = promised-exactly _ _ _ _ w (lowest-first c P)

-- what is known where no refusal of allocate applies
record Allocatable (F : ℕ) (b : List ℕ) (o n : ℕ) : Type 0 where
  sound : lawful F b ≡ true
  fits : in_owners o n ≡ true
  nobody : any_from n o (holds F (owners_of b)) ≡ false
  enough : n ≤ count F (free_in b)

allocatable : (F : ℕ) (b : List ℕ) (o n : ℕ) → NoneApplies (judged F b (wrong_span o n ∷ already_held F b o n ∷ too_few_frames F b n ∷ [])) → Allocatable F b o n
allocatable F b o n (next l (next u (next s (next i (next a (next m done)))))) =
    record {
      sound = judged-lawful F b s u;
      fits = not-false _ i;
      nobody = a;
      enough = ltb-false (count F (free_in b)) n m;
    }

-- what an accepted call leaves is lawful

module _ (F : ℕ) (b : List ℕ) where
  set-up-lawful : NoneApplies (wrong_length b ∷ wrong_pool_size F ∷ []) → lawful F (frame_words F (λ g. 0)) ≡ true
  set-up-lawful (next l (next s done)) = let z = size-test F (not-false _ s) in table-is-lawful F (λ g. 0) (λ g. zero-le) (λ g h. refl) z.1 z.0

  module _ (o n : ℕ) where
    allocate-lawful : (wish : Option ℕ) → Allocatable F b o n → lawful F (frame_words F (give (owners_of b) o (frames_for F (free_in b) wish n))) ≡ true
    unfolding frames_for blocks_for
    allocate-lawful wish k =
        let i = owners-in o n k.fits in
        let l = lawful-is F b k.sound in
        let m = (frames-fresh F (free_in b) wish n k.enough).many in
        table-is-lawful F (give (owners_of b) o (frames_for F (free_in b) wish n))
        (given-low (owners_of b) o (frames_for F (free_in b) wish n) (owners-small b) (omega (arith, m, i.2)))
        (given-high F (owners_of b) (free_in b) o (frames_for F (free_in b) wish n) (takes-good n F (free_in b) wish n) (owners-high F b l)) l.small l.pos

    free-lawful : NoneApplies (judged F b (wrong_span o n ∷ not_held F b o n ∷ [])) → lawful F (frame_words F (freed (owners_of b) o n)) ≡ true
    free-lawful (next l (next u (next s (next i (next a done))))) =
        let w = lawful-is F b (judged-lawful F b s u) in
        let p = owners-in o n (not-false _ i) in
        table-is-lawful F (freed (owners_of b) o n)
        (λ g. freed-small (owners_of b) o n g (owners-small b g))
        (λ g h. freed-zero (owners_of b) o n g p.1 (owners-high F b w g h)) w.small w.pos

new-lawful : (c : PoolCall) (P : PoolWords) → NoneApplies (row P c).refusals → lawful (size_of c) (row P c).new.frames ≡ true
unfolding row freed_words
new-lawful (SetUp F) P n = set-up-lawful F P.frames n
new-lawful (Check F) P n = none-lawful F P.frames n
new-lawful (Count F) P n = none-lawful F P.frames n
new-lawful (Allocate F o w) P n = allocate-lawful F P.frames o (length P.out) (wish_of F w) (allocatable F P.frames o (length P.out) n)
new-lawful (Free F o n) P m = free-lawful F P.frames o n m

pub accepted-leaves-lawful : AcceptedLeavesLawful
unfolding AcceptedLeavesLawful LowestFirst
accepted-leaves-lawful c P r P' w t =
    ap (λ (x : PoolWords). lawful (size_of c) x.frames) (accepted-leaves _ _ _ _ w t) ∙ new-lawful c P (accepted-none _ _ _ _ w (lowest-first c P) t)

pub allocated-then-freed : AllocatedThenFreed
unfolding AllocatedThenFreed LowestFirst row freed_words
allocated-then-freed F o wish b b' b'' out out' r q a t w u =
    let k = allocatable F b o (length out) (accepted-none _ _ _ _ a (lowest-first (Allocate F o wish) (lent b out)) t) in
    let i = owners-in o (length out) k.fits in
    let taken = ap (λ (P : PoolWords). P.frames) (accepted-leaves _ _ _ _ a t) in
    let back = ap (λ (P : PoolWords). P.frames) (accepted-leaves _ _ _ _ w u) in
    back ∙ ap (λ (x : List ℕ). frame_words F (freed (owners_of x) o (length out))) taken ∙ free-allocated F b o (wish_of F wish) (length out) k.sound k.enough i.1 i.2 k.nobody

-- a wished block

there-free : (F : ℕ) (free : ℕ → Bool) (i s : ℕ) → i ≤ 10 → FreeThere F free i s → wholly_free F free i s ≡ true
there-free F free i s hi w =
    let st = mod-start i s w.multiple in
    at-whole F free i s hi st (at-around F free i s (λ g e. let r = in-block i s g e in let room = w.inside in (omega (arith, r.1), w.whole g (omega (arith, r.0)) (omega (arith, r.1)))))

free-there : (F : ℕ) (free : ℕ → Bool) (i s : ℕ) → wholly_free F free i s ≡ true → FreeThere F free i s
free-there F free i s t =
    let w = whole-at F free i s t in
    let st = w.1 in
    let pos = pow_pos i in
    let at : (g : ℕ) → s ≤ g → g < s + 2 ^ i → (g < F) × (free g ≡ true) = λ g lo hi. around-at F free i s w.2 g (block_in i s g (omega arith) (omega arith)) in
    record {
      multiple = start-mod i s st;
      inside = omega (arith, (at (s + (2 ^ i - 1)) (omega arith) (omega arith)).0);
      whole = λ g lo hi. (at g lo hi).1;
    }

pub wish-decides : WishDecides
unfolding WishDecides
wish-decides F free s left i e = (
  λ w. wish-met F free s left i e (there-free F free i s (order_small F free left i e) w),
  λ n. wish-not-met F free s left i e (by-test (wholly_free F free i s) (λ t. absurd (n (free-there F free i s t))) (λ t. t)),
)
