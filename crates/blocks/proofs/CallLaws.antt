-- The pool's calls, way out by way out: what each answers and leaves.
use mathlib.Core.Path.{◌≡◌, refl, ap, ◌∙◌, sym}
use mathlib.Core.Bool.{true, false, ◌&&◌, not}
use mathlib.Core.List.{List, [], ◌∷◌}
use Prim.Native.Nat.{ℕ, ◌+◌, ◌-◌, ◌<◌, ◌≤◌}
use native.Mathlib.Omega.{arith}
use lib.Dec.{leb}
use lib.ListN.{length}
use borrow.Author.Tests.{leb-true, le-leb, eq-eqb, eqb-true, ne_eqb, lt-ltb, le-ltb, not-false, not-true}
use Rattle.std.specs.Prelude.{Ok, Err}
use Rattle.words.specs.declared.answers.Values.{Values}
use Rattle.words.specs.declared.answers.Refused.{Refused}
use Rattle.words.specs.declared.answers.Refused.TheVariants.{WrongSpan, AlreadyMapped, NotMapped, TooFewFrames}
use Rattle.words.specs.Answers.{number, outcome}
use Rattle.words.specs.Counts.{count}
use Rattle.words.specs.Searches.{all_from, any_from}
use Rattle.words.specs.Refusals.{Refusal, decide, numbers, Applies, here, later, NoneApplies, done, next}
use Rattle.words.specs.Rows.{values, number_of, refusal_order, among, in_order}
use Rattle.words.proofs.Cases.{by-test, and-true, true-and, true-false}
use Rattle.words.proofs.CountLaws.{count-mono}
use Rattle.words.proofs.RefusalLaws.{applies-answers, answers-applies, none_answers}
use Rattle.words.proofs.RowLaws.{renewed, accepted-is, none_number}
use Rattle.words.proofs.JudgeLaws.{number-some, passes, refused-with}
use Rattle.blocks.specs.declared.PoolCall.{PoolCall}
use Rattle.blocks.specs.declared.PoolCall.TheVariants.{SetUp, Check, Count, Allocate, Free}
use Rattle.blocks.specs.FrameWords.{is_pool_size, owners_of, free_in, lawful, frame_words}
use Rattle.blocks.specs.Choice.{blocks_for, frames_for, block_count}
use Rattle.blocks.specs.Owners.{freed, holds}
use Rattle.blocks.specs.Inner.Taking.{FramesTaken}
use Rattle.blocks.specs.Calls.{PoolWords, lent, in_owners, wrong_length, wrong_pool_size, judged as buffer_refusals, freed_words, row, Called}
use Rattle.blocks.specs.Statements.{LowestFirst}
use Rattle.blocks.proofs.WordLaws.{owners-small, free-zero, at-free, lawful-is, owners-high, owners-again, size-at, at_size}
use Rattle.blocks.proofs.FreeLaws.{freed-small, freed-zero}
use Rattle.blocks.proofs.ChoiceLaws.{wish-of}

-- sizes and spans as the code tests them

pub size_low : (F : ℕ) → F < 1 → false ≡ is_pool_size F
size_low F h = by-test (is_pool_size F) (λ t. absurd (omega (arith, (size-at F t).0))) sym

pub size-high : (F : ℕ) → 1 ≤ F → leb F 4096 ≡ is_pool_size F
unfolding is_pool_size
size-high F h = rw (le-leb 1 F h)

pub owners-in : (o n : ℕ) → in_owners o n ≡ true → (1 ≤ n) × (1 ≤ o) × (o + n ≤ 4097)
unfolding in_owners
owners-in o n t = let p = and-true _ _ t in let q = and-true _ _ p.1 in (leb-true _ _ p.0, leb-true _ _ q.0, leb-true _ _ q.1)

pub not-owners : (o n : ℕ) → ((1 ≤ n) × (1 ≤ o) × (o + n ≤ 4097) → ⊥) → false ≡ in_owners o n
not-owners o n f = by-test (in_owners o n) (λ t. absurd (f (owners-in o n t))) sym

pub owners-end : (o n : ℕ) → 1 ≤ n → 1 ≤ o → leb (o + n) 4097 ≡ in_owners o n
unfolding in_owners
owners-end o n hn ho = rw (le-leb 1 n hn, le-leb 1 o ho)

-- the promise of a call from what its code knows

pub lowest-first : LowestFirst
unfolding LowestFirst row in_order refusal_order among numbers
lowest-first (SetUp F) P = refl
lowest-first (Check F) P = refl
lowest-first (Count F) P = refl
lowest-first (Allocate F o w) P = refl
lowest-first (Free F o n) P = refl

module _ (c : PoolCall) (P : PoolWords) where
  refuses : (r : Refused) → Applies (number r) (row P c).refusals → Called c P (outcome (Err r)) P
  unfolding number_of
  refuses r w = refused-with (row P c) P r (sym (applies-answers _ _ w))

  accepts : (v : Values) (P' : PoolWords) → NoneApplies (row P c).refusals → v ≡ record { first = (row P c).first; second = 0 } → (row P c).second ≡ 0 → P' ≡ (row P c).new → Called c P (outcome (Ok v)) P'
  accepts v P' w e z new =
      let k = none_number (row P c) w in
      let q : values v.first v.second ≡ values (row P c).first (row P c).second = rw (e, z) in
      record { answers = q ∙ sym (accepted-is (row P c) k); leaves-new = new ∙ renewed (number_of (row P c)) (row P c).new P k }

-- the judgement of the sizes, and of the buffer, with which calls begin

module _ (F : ℕ) (b : List ℕ) where
  pub sizes-length : (length b ≡ 4096 → ⊥) → 1 ≡ decide (wrong_length b ∷ wrong_pool_size F ∷ []) 0
  sizes-length n = sym (applies-answers _ _ (here refl (ap not (ne_eqb _ _ n))))

  pub sizes-size : length b ≡ 4096 → is_pool_size F ≡ false → 4 ≡ decide (wrong_length b ∷ wrong_pool_size F ∷ []) 0
  sizes-size len f = sym (applies-answers _ _ (later (ap not (eq-eqb _ _ len)) (here refl (ap not f))))

  pub sizes-right : length b ≡ 4096 → is_pool_size F ≡ true → 0 ≡ decide (wrong_length b ∷ wrong_pool_size F ∷ []) 0
  sizes-right len t = sym (none_answers _ (next (ap not (eq-eqb _ _ len)) (next (ap not t) done)))

  unsized : is_pool_size F ≡ false → (is_pool_size F && not (lawful F b)) ≡ false
  unsized f = rw f

  -- a refusal of the sizes is one of the buffer
  sizes-more : (n : ℕ) → Applies n (wrong_length b ∷ wrong_pool_size F ∷ []) → Applies n (buffer_refusals F b [])
  sizes-more n (here e t) = here e t
  sizes-more n (later l (here e t)) = later l (later (unsized (not-true _ t)) (here e t))
  sizes-more n (later l (later s r)) = elim r [ ]

  -- a judgement of the sizes that refuses gives the answer of each call
  module _ (n : Refused) (w : number n ≡ decide (wrong_length b ∷ wrong_pool_size F ∷ []) 0) where
    pub sizes-stopped : number n ≡ decide (buffer_refusals F b []) 0
    sizes-stopped = sym (applies-answers _ _ (sizes-more _ (answers-applies _ (number-some n) _ (sym w))))

    pub set-up-stopped : Called (SetUp F) (lent b []) (outcome (Err n)) (lent b [])
    unfolding row
    set-up-stopped = refuses (SetUp F) (lent b []) n (answers-applies _ (number-some n) _ (sym w))

  -- and one that does not
  module _ (w : 0 ≡ decide (wrong_length b ∷ wrong_pool_size F ∷ []) 0) where
    sizes-none : NoneApplies (wrong_length b ∷ wrong_pool_size F ∷ [])
    unfolding LowestFirst row
    sizes-none = passes _ (lowest-first (SetUp F) (lent b [])) w

    pub right-sizes : (length b ≡ 4096) × (is_pool_size F ≡ true)
    right-sizes = elim sizes-none [ next l (next s n) ↦ (eqb-true _ _ (not-false _ l), not-false _ s) ]

    pub set-up-done : (v : Values) (b' : List ℕ) → v ≡ record { first = 0; second = 0 } → b' ≡ frame_words F (λ g. 0) → Called (SetUp F) (lent b []) (outcome (Ok v)) (lent b' [])
    unfolding row
    set-up-done v b' ve we = accepts (SetUp F) (lent b []) v (lent b' []) sizes-none ve refl (ap (λ (x : List ℕ). lent x []) we)

    pub judge-unlawful : lawful F b ≡ false → 2 ≡ decide (buffer_refusals F b []) 0
    judge-unlawful f = let s = right-sizes in sym (applies-answers _ _ (later (ap not (eq-eqb _ _ s.0)) (here refl (true-and _ _ s.1 (ap not f)))))

module _ (F : ℕ) (b : List ℕ) (t : lawful F b ≡ true) where
  is-size : is_pool_size F ≡ true
  is-size = let l = lawful-is F b t in at_size F l.pos l.small

  is_lawful_lem : (is_pool_size F && not (lawful F b)) ≡ false
  is_lawful_lem = rw (is-size, t)

  -- not refused so far
  on : (n : ℕ) (rs : List (Refusal ℕ)) → Applies n rs → Applies n (buffer_refusals F b rs)
  on n rs w = later (ap not (eq-eqb _ _ (lawful-is F b t).len)) (later is_lawful_lem (later (ap not is-size) w))

  none-on : (rs : List (Refusal ℕ)) → NoneApplies rs → NoneApplies (buffer_refusals F b rs)
  none-on rs w = next (ap not (eq-eqb _ _ (lawful-is F b t).len)) (next is_lawful_lem (next (ap not is-size) w))

  pub judge-lawful : 0 ≡ decide (buffer_refusals F b []) 0
  judge-lawful = sym (none_answers _ (none-on [] done))

module _ (F : ℕ) (b : List ℕ) where
  pub check_done : lawful F b ≡ true → (v : Values) → v ≡ record { first = 0; second = 0 } → Called (Check F) (lent b []) (outcome (Ok v)) (lent b [])
  unfolding row
  check_done t v e = accepts (Check F) (lent b []) v (lent b []) (none-on F b t [] done) e refl refl

  pub judged-lawful : not (is_pool_size F) ≡ false → (is_pool_size F && not (lawful F b)) ≡ false → lawful F b ≡ true
  judged-lawful s u = by-test (lawful F b) (λ t. t) (λ f. true-false _ (true-and (is_pool_size F) (not (lawful F b)) (not-false _ s) (ap not f)) u)

  pub none-lawful : NoneApplies (buffer_refusals F b []) → lawful F b ≡ true
  none-lawful (next l (next u (next s done))) = judged-lawful s u

  judged-more : (n : ℕ) (rs : List (Refusal ℕ)) → Applies n (buffer_refusals F b []) → Applies n (buffer_refusals F b rs)
  judged-more n rs (here e t) = here e t
  judged-more n rs (later l (here e t)) = later l (here e t)
  judged-more n rs (later l (later u (here e t))) = later l (later u (here e t))
  judged-more n rs (later l (later u (later s r))) = elim r [ ]

  -- a judgement that does not refuse finds that the words are lawful
  pub passed : 0 ≡ decide (buffer_refusals F b []) 0 → lawful F b ≡ true
  unfolding LowestFirst row
  passed w = none-lawful (passes _ (lowest-first (Check F) (lent b [])) w)

  -- and one that refuses gives the answer of every call that begins with it
  module _ (n : Refused) (w : number n ≡ decide (buffer_refusals F b []) 0) where
    stopped : (c : PoolCall) (out : List ℕ) (rs : List (Refusal ℕ)) → (row (lent b out) c).refusals ≡ buffer_refusals F b rs → Called c (lent b out) (outcome (Err n)) (lent b out)
    stopped c out rs e = refuses c (lent b out) n (rw e (judged-more _ rs (answers-applies _ (number-some n) _ (sym w))))

    pub check-stopped : Called (Check F) (lent b []) (outcome (Err n)) (lent b [])
    unfolding row
    check-stopped = stopped (Check F) [] _ refl

    pub count-stopped : Called (Count F) (lent b []) (outcome (Err n)) (lent b [])
    unfolding row
    count-stopped = stopped (Count F) [] _ refl

    pub allocate-stopped : (first wish : ℕ) (out : List ℕ) → Called (Allocate F first wish) (lent b out) (outcome (Err n)) (lent b out)
    unfolding row
    allocate-stopped first wish out = stopped (Allocate F first wish) out _ refl

    pub free-stopped : (first many : ℕ) → Called (Free F first many) (lent b []) (outcome (Err n)) (lent b [])
    unfolding row
    free-stopped first many = stopped (Free F first many) [] _ refl

  pub count-done : lawful F b ≡ true → (m : ℕ) → m ≡ count F (free_in b) → (v : Values) → v ≡ record { first = m; second = 0 } → Called (Count F) (lent b []) (outcome (Ok v)) (lent b [])
  unfolding row
  count-done t m e v ve = accepts (Count F) (lent b []) v (lent b []) (none-on F b t [] done) (rw (← e) ve) refl refl

-- allocate

module _ (F : ℕ) (b : List ℕ) (o wish : ℕ) (out : List ℕ) (t : lawful F b ≡ true) where
  pub allocate-span : in_owners o (length out) ≡ false → Called (Allocate F o wish) (lent b out) (outcome (Err WrongSpan)) (lent b out)
  unfolding row
  allocate-span f = refuses (Allocate F o wish) (lent b out) WrongSpan (on F b t _ _ (here (omega arith) (ap not f)))

  module _ (i : in_owners o (length out) ≡ true) where
    pub allocate-held : any_from (length out) o (holds F (owners_of b)) ≡ true → Called (Allocate F o wish) (lent b out) (outcome (Err AlreadyMapped)) (lent b out)
    unfolding row
    allocate-held h = refuses (Allocate F o wish) (lent b out) AlreadyMapped (on F b t _ _ (later (ap not i) (here (omega arith) h)))

    module _ (nobody : any_from (length out) o (holds F (owners_of b)) ≡ false) where
      pub allocate-few : count F (free_in b) < length out → Called (Allocate F o wish) (lent b out) (outcome (Err TooFewFrames)) (lent b out)
      unfolding row
      allocate-few h = refuses (Allocate F o wish) (lent b out) TooFewFrames (on F b t _ _ (later (ap not i) (later nobody (here (omega arith) (lt-ltb _ _ h)))))

      pub allocate-done : (r : ℕ) (b' out' : List ℕ) → length out ≤ count F (free_in b) → FramesTaken F b o wish (length out) r b' out' → (v : Values) → v ≡ record { first = r; second = 0 } → Called (Allocate F o wish) (lent b out) (outcome (Ok v)) (lent b' out')
      unfolding row block_count frames_for blocks_for
      allocate-done r b' out' h w v ve =
          let same = wish-of F (free_in b) wish (length out) (length out) in
          accepts (Allocate F o wish) (lent b out) v (lent b' out') (none-on F b t _ (next (ap not i) (next nobody (next (le-ltb _ _ h) done)))) (ve ∙ ap (λ (n : ℕ). record { first = n; second = 0 }) (w.blocks ∙ ap length same)) refl (rw (w.words, w.frames, same))

-- free

module _ (F : ℕ) (b : List ℕ) (o n : ℕ) (t : lawful F b ≡ true) where
  pub free-span : in_owners o n ≡ false → Called (Free F o n) (lent b []) (outcome (Err WrongSpan)) (lent b [])
  unfolding row
  free-span f = refuses (Free F o n) (lent b []) WrongSpan (on F b t _ _ (here (omega arith) (ap not f)))

  module _ (i : in_owners o n ≡ true) where
    pub free-missing : all_from n o (holds F (owners_of b)) ≡ false → Called (Free F o n) (lent b []) (outcome (Err NotMapped)) (lent b [])
    unfolding row
    free-missing f = refuses (Free F o n) (lent b []) NotMapped (on F b t _ _ (later (ap not i) (here (omega arith) (ap not f))))

    pub free-done : (b' : List ℕ) (x y : ℕ) → all_from n o (holds F (owners_of b)) ≡ true → b' ≡ frame_words F (freed (owners_of b) o n)
        → x ≡ count F (free_in b) → y ≡ count F (free_in b') → (v : Values) → v ≡ record { first = y - x; second = 0 } → Called (Free F o n) (lent b []) (outcome (Ok v)) (lent b' [])
    unfolding row freed_words
    free-done b' x y all w xe ye v ve =
        accepts (Free F o n) (lent b []) v (lent b' []) (none-on F b t _ (next (ap not i) (next (ap not all) done))) (ve ∙ rw (ye, xe, w)) refl (ap (λ (v : List ℕ). lent v []) w)

    -- no frame is held that was free
    pub free_more : (b' : List ℕ) → b' ≡ frame_words F (freed (owners_of b) o n) → count F (free_in b) ≤ count F (free_in b')
    unfolding free_in freed
    free_more b' w =
        let l = lawful-is F b t in
        let q = owners-in o n i in
        let pos = q.1 in
        let same : owners_of b' ≡ freed (owners_of b) o n = ap owners_of w
        ∙ owners-again F (freed (owners_of b) o n) (λ g. freed-small (owners_of b) o n g (owners-small b g)) (λ g h. freed-zero (owners_of b) o n g pos (owners-high F b l g h)) l.small in
        count-mono F (free_in b) (free_in b') (λ g h z. at-free (owners_of b') g (ap (λ (p : ℕ → ℕ). p g) same ∙ freed-zero (owners_of b) o n g pos (free-zero b g z)))
