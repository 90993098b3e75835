-- One block taken, and what it leaves for the rest of the request.
use mathlib.Core.Path.{◌≡◌, refl, ap, ◌∙◌, sym, subst, fun_ext}
use mathlib.Core.Bool.{Bool, true}
use mathlib.Core.List.{List, [], ◌∷◌, ◌++◌, append-nil}
use mathlib.Core.Option.{Option, none, some}
use Prim.Native.Nat.{ℕ, zero, suc, ◌+◌, ◌/◌, ◌^◌, ◌-◌, ◌<◌, ◌≤◌}
use native.Mathlib.Nat.{add-zero}
use native.Mathlib.Decide.{dec_lt, ℕ_discrete}
use native.Mathlib.Omega.{arith}
use lib.ListN.{length, get_or}
use lib.Seq.{ext_get_or}
use lib.Pow.{pow_pos}
use borrow.Author.Tests.{eq-eqb, ne_eqb, leb-true, ltb-true, le-leb, lt-ltb}
use Rattle.words.specs.Tables.{tab_from}
use Rattle.words.specs.Counts.{count}
use Rattle.words.proofs.Cases.{by-test, by-dec, true-false, none-some, and-true, true-and}
use Rattle.words.proofs.CountLaws.{count-some}
use Rattle.words.specs.Inner.{CountedUp}
use Rattle.blocks.specs.declared.Block.{Block}
use Rattle.blocks.specs.declared.Bound.{Bound}
use Rattle.blocks.specs.declared.Chosen.{Chosen}
use Rattle.blocks.specs.Blocks.{in_block}
use Rattle.blocks.specs.FrameWords.{owners_of, free_of, free_in, lawful, frame_words}
use Rattle.blocks.specs.Choice.{take_block, without, left_after, end_of, wish_after, take_blocks, frames_of, blocks_for, frames_for}
use Rattle.blocks.specs.Owners.{put, give}
use Rattle.blocks.specs.Inner.Taking.{Searched, BlockTaken}
use Rattle.blocks.specs.Inner.Around.{start_of}
use Rattle.blocks.specs.Inner.Passes.{bound_after, PartOf, handed}
use Rattle.blocks.proofs.AroundLaws.{in-block, block_in}
use Rattle.blocks.proofs.WordLaws.{owners-small, lawful-is, lawful-yes, owners-high, owners-again, table-lawful}
use Rattle.blocks.proofs.ChoiceLaws.{Took, Taking, taking, one, end, took-free, took-count, own, length-own, frames-cons, fuel}
use Rattle.blocks.proofs.WishLaws.{known-after}
use Rattle.blocks.proofs.TakeLaws.{handed-in, handed_out, free-after}

-- giving

give-append : (owner : ℕ → ℕ) (o : ℕ) (xs ys : List ℕ) → give owner o (xs ++ ys) ≡ give (give owner o xs) (o + length xs) ys
unfolding give
give-append owner o [] ys = ap (λ (n : ℕ). give owner n ys) (sym (add-zero o))
give-append owner o (x ∷ xs) ys =
    let s : suc o + length xs ≡ o + suc (length xs) = omega arith in
    give-append (put owner x o) (suc o) xs ys ∙ ap (λ (n : ℕ). give (give (put owner x o) (suc o) xs) n ys) s

pub put_same : (owner : ℕ → ℕ) (f o g : ℕ) → g ≡ f → put owner f o g ≡ o
unfolding put
put_same owner f o g e = rw (eq-eqb _ _ e, put)

pub put_other : (owner : ℕ → ℕ) (f o g : ℕ) → (g ≡ f → ⊥) → put owner f o g ≡ owner g
unfolding put
put_other owner f o g n = rw (ne_eqb _ _ n, put)

-- a run of frames
give-out : (n s o : ℕ) (owner : ℕ → ℕ) (g : ℕ) → (s ≤ g → g < s + n → ⊥) → give owner o (tab_from n s (λ f. f)) g ≡ owner g
unfolding give tab_from
give-out zero s o owner g n = refl
give-out (suc m) s o owner g n =
    give-out m (suc s) (suc o) (put owner s o) g (λ lo hi. n (omega arith) (omega arith))
    ∙ put_other owner s o g (λ e. n (omega arith) (omega arith))

give-in : (n s o : ℕ) (owner : ℕ → ℕ) (g : ℕ) → s ≤ g → g < s + n → give owner o (tab_from n s (λ f. f)) g ≡ o + (g - s)
unfolding give tab_from
give-in zero s o owner g lo hi = absurd (omega arith)
give-in (suc m) s o owner g lo hi =
    by-dec (ℕ_discrete g s)
    (λ e.
    let z : o ≡ o + (g - s) = omega arith in
    give-out m (suc s) (suc o) (put owner s o) g (λ a b. omega arith) ∙ put_same owner s o g e ∙ z)
    (λ ne.
    let z : suc o + (g - suc s) ≡ o + (g - s) = omega arith in
    give-in m (suc s) (suc o) (put owner s o) g (omega arith) (omega arith) ∙ z)

-- the owners after block x was given to the owners from o on
handed_to : List ℕ → Block → ℕ → ℕ → ℕ
handed_to b x o = handed (owners_of b) x.order x.start.0 o

-- its frames given one by one
give-own : (b : List ℕ) (x : Block) (o : ℕ) → give (owners_of b) o (own x) ≡ handed_to b x o
unfolding own handed in_block handed_to
give-own b x o =
    let i : ℕ = x.order in
    let s : ℕ = x.start.0 in
    fun_ext (λ g. by-test (in_block i s g)
    (λ t.
    let p = and-true _ _ t in
    rw (t, handed) (give-in (2 ^ i) s o (owners_of b) g (leb-true _ _ p.0) (ltb-true _ _ p.1)))
    (λ t. rw (t, handed) (give-out (2 ^ i) s o (owners_of b) g (λ lo hi. true-false (in_block i s g) (true-and _ _ (le-leb s g lo) (lt-ltb g (s + 2 ^ i) hi)) t))))

give-one : (b : List ℕ) (x : Block) (o : ℕ) → give (owners_of b) o (frames_of (x ∷ [])) ≡ handed_to b x o
unfolding frames_of own
give-one b x o = ap (give (owners_of b) o) (append-nil (own x)) ∙ give-own b x o

-- one block

-- there is one while a page is left and enough frames are free
pub is_there : (F : ℕ) (free : ℕ → Bool) (wish left : ℕ) → 1 ≤ left → left ≤ count F free → take_block F free (some wish) left ≡ none → ⊥
is_there F free wish left pos enough e = go (take_block F free (some wish) left) (taking F free (some wish) left) e
  where
    go : (o : Option Block) → Taking F free left o → o ≡ none → ⊥
    go o (one y w) oe = none-some y o oe refl
    go o (end n) oe = let r = count-some F free (omega arith) in n r.0 r.1 r.2 pos

pub took : (F : ℕ) (free : ℕ → Bool) (wish : Option ℕ) (left : ℕ) (x : Block) → take_block F free wish left ≡ some x → Took F free left x
took F free wish left x e = go (take_block F free wish left) e (taking F free wish left)
  where
    go : (o : Option Block) → o ≡ some x → Taking F free left o → Took F free left x
    go o eo (one y w) = let yx : y ≡ x = cc in rw yx at w
    go o eo (end n) = none-some x none refl eo

module _ (F : ℕ) (b : List ℕ) (lw : lawful F b ≡ true) (wish left : ℕ) (x : Block) (is : take_block F (free_in b) (some wish) left ≡ some x) where
  w : Took F (free_in b) left x
  w = took F (free_in b) (some wish) left x is

  pub chosen-small : x.order ≤ 10
  chosen-small = let a = w.below in let c = w.from.maximal.small in omega arith

  chosen-fits : 2 ^ x.order ≤ left
  chosen-fits = w.fits

  pub chosen-inside : x.start.0 + 2 ^ x.order ≤ F
  chosen-inside =
      let pos = pow_pos x.order in
      let st = w.starts in
      omega (arith, (took-free F (free_in b) left x w (x.start.0 + (2 ^ x.order - 1)) (block_in x.order x.start.0 _ (omega arith) (omega arith))).0)

  -- where it lies, by what the choice says of its free block
  pub chosen-part : (j : ℕ) → (x.order ≤ j) × (start_of j x.start.0 < F) × (get_or b (start_of j x.start.0) 0 ≡ 16384 + j) → PartOf F b x.start.0 x.order j
  chosen-part j q = record { starts = w.starts; below = q.0; inside = q.1; first = q.2 }

  -- the block, and then the blocks of the rest
  chosen-all : blocks_for F (free_in b) (some wish) left ≡ x ∷ blocks_for F (without (free_in b) x.order x.start.0) (some (end_of x)) (left - 2 ^ x.order)
  unfolding blocks_for take_blocks wish_after
  chosen-all =
      let fits = chosen-fits in
      let pos : 0 < 2 ^ x.order = pow_pos x.order in
      let e : left ≡ suc (left - 1) = omega arith in
      let a : take_blocks (suc (left - 1)) F (free_in b) (some wish) left ≡ x ∷ take_blocks (left - 1) F (without (free_in b) x.order x.start.0) (some (end_of x)) (left - 2 ^ x.order) = rw (is, take_blocks) in
      ap (λ (n : ℕ). take_blocks n F (free_in b) (some wish) left) e ∙ a
      ∙ ap {B = List Block} (λ r. x ∷ r) (fuel (left - 1) (left_after left x) F (without (free_in b) x.order x.start.0) (some (end_of x)) (left_after left x) (omega arith) (omega arith))

  module _ (o : ℕ) (pos : 1 ≤ o) (room : o + left ≤ 4097) where
    starts : start_of x.order x.start.0 ≡ x.start.0
    starts = w.starts

    then-low : (g : ℕ) → handed_to b x o g ≤ 4096
    unfolding handed_to
    then-low g =
        by-dec (ℕ_discrete (g / 2 ^ x.order) (x.start.0 / 2 ^ x.order))
        (λ e.
        let r = in-block x.order x.start.0 g e in
        let hi = r.1 in
        let stt = starts in
        let fits = chosen-fits in
        let z = handed-in (owners_of b) x.order x.start.0 o g starts e in
        omega arith)
        (λ n. let z = handed_out (owners_of b) x.order x.start.0 o g starts n in omega (arith, owners-small b g))

    then-high : (g : ℕ) → F ≤ g → handed_to b x o g ≡ 0
    unfolding handed_to
    then-high g h =
        by-dec (ℕ_discrete (g / 2 ^ x.order) (x.start.0 / 2 ^ x.order))
        (λ e. let r = took-free F (free_in b) left x w g e in let lt = r.0 in absurd (omega arith))
        (λ n. handed_out (owners_of b) x.order x.start.0 o g starts n ∙ owners-high F b (lawful-is F b lw) g h)

    -- the words left, as the code writes them
    module _ (b' : List ℕ) (be : b' ≡ frame_words F (handed_to b x o)) where
      then-owners : owners_of b' ≡ handed_to b x o
      then-owners = ap owners_of be ∙ owners-again F (handed_to b x o) then-low then-high (lawful-is F b lw).small

      then-lawful : lawful F b' ≡ true
      then-lawful = let l = lawful-is F b lw in rw be (sym (lawful-yes F _ (table-lawful F (handed_to b x o) then-low then-high l.small l.pos)))

      then-free : free_in b' ≡ without (free_in b) x.order x.start.0
      unfolding free_in handed_to
      then-free = ap free_of then-owners ∙ free-after (owners_of b) x.order x.start.0 o pos

-- the promise of one block, from what the code does

pub block-taken : (F : ℕ) (b : List ℕ) → lawful F b ≡ true → (wish left : ℕ) (x : Block) → take_block F (free_in b) (some wish) left ≡ some x → (o : ℕ) → 1 ≤ o → o + left ≤ 4097
    → (next : Bound) → Searched F (without (free_in b) x.order x.start.0) next → (b' : List ℕ) → b' ≡ frame_words F (handed (owners_of b) x.order x.start.0 o)
    → BlockTaken F b o wish left (record { block = x; known = next }) b'
unfolding handed_to
block-taken F b lw wish left x is o pos room next searched b' be =
    record {
      chosen = is;
      words = be ∙ ap (frame_words F) (sym (give-one b x o));
      searched = rw (then-free F b lw wish left x is o pos room b' be) searched;
    }

-- what code hands on, by its two parts
pub chosen-same : (r : Chosen) (x : Block) (next : Bound) → r.block ≡ x → r.known ≡ next → r ≡ record { block = x; known = next }
chosen-same r x next xe ne = rw (← xe, ← ne)

-- the same by what code hands on
pub block-searched : (F : ℕ) (b : List ℕ) (lw : lawful F b ≡ true) (wish left : ℕ) (x : Block) (is : take_block F (free_in b) (some wish) left ≡ some x) (o : ℕ) → 1 ≤ o → o + left ≤ 4097
    → (known : Bound) → Searched F (free_in b) known → (r : Chosen) → r.block ≡ x → r.known ≡ bound_after known x wish left → (b' : List ℕ) → b' ≡ frame_words F (handed (owners_of b) x.order x.start.0 o)
    → BlockTaken F b o wish left r b'
block-searched F b lw wish left x is o pos room known searched r xe ne b' be =
    subst (λ (y : Chosen). BlockTaken F b o wish left y b') (sym (chosen-same r x (bound_after known x wish left) xe ne))
    (block-taken F b lw wish left x is o pos room (bound_after known x wish left) (known-after F (free_in b) wish left known x searched is (w F b lw wish left x is).starts) b' be)

-- what the block leaves for the rest of the request
pub record Rest (F : ℕ) (b : List ℕ) (o wish left : ℕ) (x : Block) (b' : List ℕ) : Type 0 where
  pub small : x.order ≤ 10
  pub fits : 2 ^ x.order ≤ left
  pub inside : x.start.0 + 2 ^ x.order ≤ F
  pub lawful : lawful F b' ≡ true
  pub free : free_in b' ≡ without (free_in b) x.order x.start.0
  pub enough : left - 2 ^ x.order ≤ count F (free_in b')
  pub blocks : blocks_for F (free_in b) (some wish) left ≡ x ∷ blocks_for F (free_in b') (some (end_of x)) (left - 2 ^ x.order)
  pub given : give (owners_of b) o (frames_for F (free_in b) (some wish) left) ≡ give (owners_of b') (o + 2 ^ x.order) (frames_for F (free_in b') (some (end_of x)) (left - 2 ^ x.order))

pub rest_of : (F : ℕ) (b : List ℕ) (o wish left : ℕ) (r : Chosen) (b' : List ℕ) → lawful F b ≡ true → 1 ≤ o → o + left ≤ 4097 → left ≤ count F (free_in b) → BlockTaken F b o wish left r b'
    → Rest F b o wish left r.block b'
unfolding frames_for
rest_of F b o wish left r b' lw pos room enough t =
    record {
      small = chosen-small F b lw wish left x t.chosen;
      fits = chosen-fits F b lw wish left x t.chosen;
      inside = chosen-inside F b lw wish left x t.chosen;
      lawful = then-lawful F b lw wish left x t.chosen o pos room b' be;
      free = free;
      enough = rw free (omega (arith, took-count F (free_in b) left x (took F (free_in b) (some wish) left x t.chosen)));
      blocks = all;
      given = ap (λ (l : List Block). give (owners_of b) o (frames_of l)) all
          ∙ ap (give (owners_of b) o) (frames-cons x _)
          ∙ give-append (owners_of b) o (own x) rest
          ∙ ap (λ (m : ℕ). give (give (owners_of b) o (own x)) (o + m) rest) (length-own x)
          ∙ ap (λ (q : ℕ → ℕ). give q (o + 2 ^ x.order) rest) (give-own b x o ∙ sym (then-owners F b lw wish left x t.chosen o pos room b' be));
    }
  where
    x : Block
    x = r.block

    be : b' ≡ frame_words F (handed_to b x o)
    be = t.words ∙ ap (frame_words F) (give-one b x o)

    free : free_in b' ≡ without (free_in b) x.order x.start.0
    free = then-free F b lw wish left x t.chosen o pos room b' be

    all : blocks_for F (free_in b) (some wish) left ≡ x ∷ blocks_for F (free_in b') (some (end_of x)) (left - 2 ^ x.order)
    all = rw free (chosen-all F b lw wish left x t.chosen)

    rest : List ℕ
    rest = frames_of (blocks_for F (free_in b') (some (end_of x)) (left - 2 ^ x.order))

-- the frames noted in a list

-- the first `done` places hold the first frames of fs
pub record Noted (fs : List ℕ) (done : ℕ) (out : List ℕ) : Type 0 where
  pub each : (t : ℕ) → t < done → get_or out t 0 ≡ get_or fs t 0

pub noted-none : (fs out : List ℕ) → Noted fs 0 out
noted-none fs out = record { each = λ t h. absurd (omega arith) }

pub noted_more : (fs : List ℕ) (d n z s : ℕ) (out out' : List ℕ) → z ≡ n → ((t : ℕ) → t < n → get_or fs (d + t) 0 ≡ s + t) → CountedUp out d (d + z) s out' → Noted fs d out → Noted fs (d + z) out'
noted_more fs d n z s out out' ze here cu noted =
    record {
      each = λ t h. by-dec (dec_lt t d)
          (λ lt. cu.below t lt ∙ noted.each t lt)
          (λ ge. let e : d + (t - d) ≡ t = omega arith in cu.inside t (omega arith) h ∙ sym (rw e at (here (t - d) (omega arith))));
    }

pub noted-all : (fs : List ℕ) (n done : ℕ) (out : List ℕ) → length fs ≡ n → length out ≡ n → n ≤ done → Noted fs done out → out ≡ fs
noted-all fs n done out lf lo h noted = ext_get_or 0 out fs (lo ∙ sym lf) (λ t lt. noted.each t (omega arith))
