-- A tree and its words: a buffer that holds a tree has its words, and the words of a lawful tree hold it.
use mathlib.Core.Path.{◌≡◌, refl, sym, ap, ap₂, ◌∙◌, subst}
use mathlib.Core.Bool.{Bool, true, cond}
use mathlib.Core.List.{List, [], ◌∷◌, ◌++◌, map, map-append}
use Prim.Native.Nat.{ℕ, zero, suc, ◌+◌, ◌-◌, ◌*◌, ◌/◌, ◌%◌, ◌≤◌, ◌<◌}
use native.Mathlib.Omega.{arith}
use native.Mathlib.Numerals.{add-one}
use native.Mathlib.Decide.{dec_lt, ℕ_discrete}
use lib.Dec.{ltb, eqb}
use lib.ListN.{length, get_or, length-map, get_or-eq_default}
use lib.Seq.{ext_get_or}
use borrow.Author.Tests.{ltb-true, ltb-false, eq-eqb, ne_eqb, eqb-true, eqb-false}
use Rattle.words.specs.Inner.{same_in}
use Rattle.words.proofs.Cases.{by-test, by-dec}
use Rattle.words.proofs.WriteLaws.{is_same}
use Rattle.words.proofs.SearchLaws.{all_from_at, at-all_from}
use Rattle.words.proofs.TableLaws.{length-tabulate, get_d_tabulate}
use Rattle.trees.specs.declared.Range.{Range}
use Rattle.trees.specs.Nodes.{no_range, field_of, node_word, root_in, count_in, leaf_in, range_in, child_in}
use Rattle.trees.specs.Trees.{Branch, Row, Tree, Rooted, besides, nodes, occ, Each, next, Shape, branches, tree_at, child_numbers, Stored, stored, word_of, root_of, tree_words}
use Rattle.trees.specs.Inner.Walk.{zeros_in, kids}
use Rattle.trees.specs.Inner.Places.{row_word}
use Rattle.trees.specs.Inner.Standing.{NodeIs, Stands}
use Rattle.trees.specs.Inner.Holding.{Valid, Holding}
use Rattle.trees.proofs.PlaceLaws.{length-branches}
use Rattle.trees.proofs.NodeLaws.{row_count, row-flag, row-no-range, row-range, row-no-child, row-child}
use Rattle.trees.proofs.GainLaws.{range_at, child_at, as-node}
use Rattle.trees.proofs.StandingLaws.{TreeNode, kids-inner, node-path, put_is, node-is-tree, node-is-stands}

-- Lists of stored nodes

data All (P : Stored → Type 0) : List Stored → Type 0 where
  no-entry : All P []
  entry : {e : Stored} {es : List Stored} → P e → All P es → All P (e ∷ es)

all_append : {P : Stored → Type 0} {xs ys : List Stored} → All P xs → All P ys → All P (xs ++ ys)
all_append no-entry q = q
all_append (entry e p) q = entry e (all_append p q)

-- those of a row by place
row-all : {P : Stored → Type 0} {A : Type 0} (f : A → List Stored) (r : ℕ → Range) (T : ℕ → A) (k i : ℕ) → ((j : ℕ) → i ≤ j → j ≤ i + k → All P (f (T j))) → All P (f (T i) ++ besides f (branches r T k i))
unfolding branches besides
row-all f r T zero i h = all_append (h i (omega arith) (omega arith)) no-entry
row-all f r T (suc k) i h = all_append (h i (omega arith) (omega arith)) (row-all f r T k (suc i) (λ j lo hi. h j (omega arith) (omega arith)))

abbrev number_of : Stored → ℕ
number_of e = e.number

besides-numbers : {A : Type 0} (f : A → List Stored) (g : A → List ℕ) → ((a : A) → map number_of (f a) ≡ g a) → (bs : List (Branch A)) → map number_of (besides f bs) ≡ besides g bs
unfolding besides
besides-numbers f g h [] = refl
besides-numbers f g h (x ∷ xs) = map-append number_of (f x.child) (besides f xs) ∙ ap₂ ◌++◌ (h x.child) (besides-numbers f g h xs)

stored-numbers : (h : ℕ) (t : Tree h) → map number_of (stored h t) ≡ nodes h t
unfolding stored nodes
stored-numbers zero t = refl
stored-numbers (suc h) t =
    ap (λ (ns : List ℕ). t.number ∷ ns) (map-append number_of (stored h t.row.first) (besides (stored h) t.row.rest) ∙ ap₂ ◌++◌ (stored-numbers h t.row.first) (besides-numbers (stored h) (nodes h) (stored-numbers h) t.row.rest))

-- The words of a node

map-branches : {A B : Type 0} (f : Branch A → B) (d : B) (r : ℕ → Range) (T : ℕ → A) (k i q : ℕ) → q < k → get_or (map f (branches r T k i)) q d ≡ f (record { range = r (i + q); child = T (suc (i + q)) })
unfolding branches
map-branches f d r T zero i q h = absurd (omega arith)
map-branches f d r T (suc k) i zero h = let e : i ≡ i + 0 = omega arith in ap (λ (x : ℕ). f (record { range = r x; child = T (suc x) })) e
map-branches f d r T (suc k) i (suc q) h = let e : suc i + q ≡ i + suc q = omega arith in map-branches f d r T k (suc i) q (omega arith) ∙ ap (λ (x : ℕ). f (record { range = r x; child = T (suc x) })) e

abbrev RowOf : (h k : ℕ) → (ℕ → Range) → (ℕ → Tree h) → Row (Tree h)
RowOf h k r T = record { first = T 0; rest = branches r T k 0 }

abbrev ranges_of : {A : Type 0} → List (Branch A) → List Range
ranges_of {A} = map (λ (x : Branch A). x.range)

kids-leaf : (k : ℕ) → kids (eqb 0 0) k ≡ 0
unfolding kids
kids-leaf k = refl

length-numbers : (h k : ℕ) (r : ℕ → Range) (T : ℕ → Tree h) → length (child_numbers h (RowOf h k r T)) ≡ kids (eqb h 0) k
unfolding child_numbers
length-numbers zero k r T = sym (kids-leaf k)
length-numbers (suc h) k r T = ap suc (length-map (branches r T k 0) (λ (x : Branch (Tree (suc h))). x.child.number) ∙ length-branches r T k 0) ∙ sym (kids-inner h k ∙ add-one k)

get_or-numbers : (h k : ℕ) (r : ℕ → Range) (T : ℕ → Tree h) (i : ℕ) → i < kids (eqb h 0) k → get_or (child_numbers h (RowOf h k r T)) i 0 ≡ root_of h (T i)
unfolding child_numbers root_of
get_or-numbers zero k r T i l = let e = kids-leaf k in absurd (omega arith)
get_or-numbers (suc h) k r T zero l = refl
get_or-numbers (suc h) k r T (suc i) l =
    let e = kids-inner h k in let z : 0 + i ≡ i = omega arith in
    map-branches (λ (x : Branch (Tree (suc h))). x.child.number) 0 r T k 0 i (omega arith) ∙ ap (λ (x : ℕ). (T (suc x)).number) z

no_field : (q : ℕ) → field_of no_range q ≡ 0
unfolding field_of
no_field q = by-test (eqb q 0) (λ e. rw e) (λ e. by-test (eqb q 1) (λ d. rw (e, d)) (λ d. by-test (eqb q 2) (λ c. rw (e, d, c)) (λ c. rw (e, d, c))))

-- word j of a node, by the places of its row
node-words : (h k : ℕ) (r : ℕ → Range) (T : ℕ → Tree h) (j : ℕ) → node_word (eqb h 0) (ranges_of (branches r T k 0)) (child_numbers h (RowOf h k r T)) j ≡ row_word (eqb h 0) k r (λ i. root_of h (T i)) j
unfolding node_word row_word
node-words h k r T j =
    let l : length (ranges_of (branches r T k 0)) ≡ k = length-map (branches r T k 0) (λ (x : Branch (Tree h)). x.range) ∙ length-branches r T k 0 in
    by-test (eqb j 0) (λ a. rw a l)
    (λ a. by-test (eqb j 1) (λ b. rw (a, b))
    (λ b. by-test (ltb j 18)
    (λ c. by-test (ltb ((j - 2) / 4) k)
    (λ d. let z : 0 + (j - 2) / 4 ≡ (j - 2) / 4 = omega arith in
    let g = map-branches (λ (x : Branch (Tree h)). x.range) no_range r T k 0 ((j - 2) / 4) (ltb-true _ _ d) ∙ ap r z in
    rw (a, b, c, d) (ap (λ (x : Range). field_of x ((j - 2) % 4)) g))
    (λ d. let out = ltb-false _ _ d in
    let g = beyond-ranges ((j - 2) / 4) l out in
    rw (a, b, c, d) (ap (λ (x : Range). field_of x ((j - 2) % 4)) g ∙ no_field ((j - 2) % 4))))
    (λ c. by-test (ltb (j - 18) (kids (eqb h 0) k))
    (λ d. rw (a, b, c, d) (get_or-numbers h k r T (j - 18) (ltb-true _ _ d)))
    (λ d. rw (a, b, c, d) (beyond-numbers (j - 18) (ltb-false _ _ d))))))
  where
    beyond-ranges : (i : ℕ) → length (ranges_of (branches r T k 0)) ≡ k → k ≤ i → get_or (ranges_of (branches r T k 0)) i no_range ≡ no_range
    beyond-ranges i l o = let g : length (ranges_of (branches r T k 0)) ≤ i = omega arith in get_or-eq_default (ranges_of (branches r T k 0)) no_range g

    beyond-numbers : (i : ℕ) → kids (eqb h 0) k ≤ i → get_or (child_numbers h (RowOf h k r T)) i 0 ≡ 0
    beyond-numbers i o = let e = length-numbers h k r T in let g : length (child_numbers h (RowOf h k r T)) ≤ i = omega arith in get_or-eq_default (child_numbers h (RowOf h k r T)) 0 g

field-word : (b : List ℕ) (n i q : ℕ) → q < 4 → get_or b (1 + n * 24 + 2 + i * 4 + q) 0 ≡ field_of (range_in b n i) q
unfolding field_of range_in
field-word b n i zero l = let e : 1 + n * 24 + 2 + i * 4 + 0 ≡ 1 + n * 24 + 2 + i * 4 = omega arith in ap (λ (z : ℕ). get_or b z 0) e
field-word b n i (suc zero) l = refl
field-word b n i (suc (suc zero)) l = refl
field-word b n i (suc (suc (suc zero))) l = refl
field-word b n i (suc (suc (suc (suc q)))) l = absurd (omega arith)

zero_word : (b : List ℕ) (n k m j : ℕ) → zeros_in b n k m ≡ true → k ≤ j → j < m → get_or b (1 + n * 24 + j) 0 ≡ 0
unfolding zeros_in same_in
zero_word b n k m j t lo hi = eqb-true _ _ (all_from_at (m - k) (1 + n * 24 + k) (λ g. eqb (get_or b g 0) 0) t (1 + n * 24 + j) (omega arith) (omega arith))

-- the words of a node that is known
is-words : (b : List ℕ) (leaf : Bool) (n k : ℕ) (r : ℕ → Range) (c : ℕ → ℕ) → NodeIs b leaf n k r c → (j : ℕ) → j < 24 → get_or b (1 + n * 24 + j) 0 ≡ row_word leaf k r c j
unfolding count_in leaf_in child_in
is-words b leaf n k r c s j l =
    by-dec (ℕ_discrete j 0) (λ e. place (1 + n * 24) (omega arith) ∙ s.amount ∙ row_count leaf k r c j e)
    (λ e. by-dec (ℕ_discrete j 1) (λ d. place (1 + n * 24 + 1) (omega arith) ∙ s.flag ∙ row-flag leaf k r c j d)
    (λ d. let two : 2 ≤ j = omega arith in
    by-dec (dec_lt j 18)
    (λ u. by-dec (dec_lt ((j - 2) / 4) k)
    (λ v. place (1 + n * 24 + 2 + (j - 2) / 4 * 4 + (j - 2) % 4) (omega arith) ∙ field-word b n ((j - 2) / 4) ((j - 2) % 4) (omega arith) ∙ ap (λ (x : Range). field_of x ((j - 2) % 4)) (s.ranges ((j - 2) / 4) v) ∙ row-range leaf k r c j two u v)
    (λ v. zero_word b n (2 + k * 4) 18 j s.no-ranges (omega arith) u ∙ row-no-range leaf k r c j two u (omega arith)))
    (λ u. by-dec (dec_lt (j - 18) (kids leaf k))
    (λ v. place (1 + n * 24 + 18 + (j - 18)) (omega arith) ∙ s.children (j - 18) v ∙ row-child leaf k r c j two (omega arith) v)
    (λ v. zero_word b n (18 + kids leaf k) 24 j s.no-children (omega arith) l ∙ row-no-child leaf k r c j two (omega arith) (omega arith)))))
  where
    place : (x : ℕ) → 1 + n * 24 + j ≡ x → get_or b (1 + n * 24 + j) 0 ≡ get_or b x 0
    place x e = ap (λ (z : ℕ). get_or b z 0) e

-- A buffer that holds a tree has its words

-- node e is stored in b
abbrev In : List ℕ → Stored → Type 0
In b e = (j : ℕ) → j < 24 → get_or b (1 + e.number * 24 + j) 0 ≡ e.word j

root-at : (b : List ℕ) (h k i : ℕ) → i < kids (eqb h 0) k → (n : ℕ) → n ≡ root_of h (tree_at b h n)
unfolding root_of tree_at
root-at b zero k i l n = let e = kids-leaf k in absurd (omega arith)
root-at b (suc h) k i l n = refl

stands-stored : (b : List ℕ) (h least n : ℕ) → Stands b h least n → All (In b) (stored h (tree_at b h n))
unfolding stored tree_at
stands-stored b zero least n s = no-entry
stands-stored b (suc h) least n s =
    entry
    (λ j l. is-words b (eqb h 0) n (count_in b n) (range_in b n) (λ i. root_of h (tree_at b h (child_in b n i)))
    (record { amount = refl; flag = s.flag; ranges = λ i u. refl; children = λ i u. root-at b h (count_in b n) i u (child_in b n i); no-ranges = s.no-ranges; no-children = s.no-children }) j l
    ∙ sym (node-words h (count_in b n) (range_in b n) (λ i. tree_at b h (child_in b n i)) j))
    (row-all (stored h) (range_in b n) (λ j. tree_at b h (child_in b n j)) (count_in b n) 0 (λ j lo hi. stands-stored b h 2 (child_in b n j) (s.below j (omega arith))))

word_none : (es : List Stored) (m j : ℕ) → occ m (map number_of es) ≡ 0 → word_of es m j ≡ 0
unfolding word_of occ
word_none [] m j z = refl
word_none (e ∷ es) m j z =
    by-test (eqb e.number m)
    (λ t. let u : cond {A = ℕ} (eqb e.number m) 1 0 ≡ 1 = rw t refl in absurd (omega arith))
    (λ t. rw t (word_none es m j (let u : cond {A = ℕ} (eqb e.number m) 1 0 ≡ 0 = rw t refl in omega arith)))

word-found : (b : List ℕ) (es : List Stored) (m j : ℕ) → All (In b) es → 1 ≤ occ m (map number_of es) → j < 24 → word_of es m j ≡ get_or b (1 + m * 24 + j) 0
unfolding word_of occ
word-found b [] m j a o l = absurd (omega arith)
word-found b (e ∷ es) m j (entry p a) o l =
    by-test (eqb e.number m)
    (λ t. rw t (sym (p j l) ∙ ap (λ (x : ℕ). get_or b (1 + x * 24 + j) 0) (eqb-true _ _ t)))
    (λ t. rw t (word-found b es m j a (let u : cond {A = ℕ} (eqb e.number m) 1 0 ≡ 0 = rw t refl in omega arith) l))

word-root : (t : Rooted) → get_or (tree_words t) 0 0 ≡ root_of t.height t.tree
unfolding tree_words
word-root t = refl

word-place : (t : Rooted) (g : ℕ) → g < 1536 → get_or (tree_words t) (suc g) 0 ≡ word_of (stored t.height t.tree) (g / 24) (g % 24)
unfolding tree_words
word-place t g l = get_d_tabulate 1536 (λ x. word_of (stored t.height t.tree) (x / 24) (x % 24)) g 0 l

length-words : (t : Rooted) → length (tree_words t) ≡ 1537
unfolding tree_words
length-words t = ap suc (length-tabulate 1536 (λ g. word_of (stored t.height t.tree) (g / 24) (g % 24)))

module _ (b : List ℕ) (t : Rooted) (holding : Holding b t) where
  all_in : All (In b) (stored t.height t.tree)
  all_in = subst (λ x. All (In b) (stored t.height x)) holding.tree (stands-stored b t.height 1 (root_in b) holding.stands)

  word_held : (m j : ℕ) → m < 64 → j < 24 → word_of (stored t.height t.tree) m j ≡ get_or b (1 + m * 24 + j) 0
  word_held m j l u =
      let e = ap (occ m) (stored-numbers t.height t.tree) in
      by-dec (dec_lt 0 (occ m (nodes t.height t.tree)))
      (λ o. word-found b (stored t.height t.tree) m j all_in (omega arith) u)
      (λ o. let z : occ m (nodes t.height t.tree) ≡ 0 = omega arith in word_none (stored t.height t.tree) m j (e ∙ z) ∙ sym (zero_word b m 0 24 j (holding.free m l z) (omega arith) u))

  word_at : (g : ℕ) → g < 1537 → get_or b g 0 ≡ get_or (tree_words t) g 0
  unfolding root_in
  word_at zero l = holding.root ∙ sym (word-root t)
  word_at (suc g) l =
      let e : suc g ≡ 1 + g / 24 * 24 + g % 24 = omega arith in
      ap (λ (x : ℕ). get_or b x 0) e ∙ sym (word-place t g (omega arith) ∙ word_held (g / 24) (g % 24) (omega arith) (omega arith))

  pub holding-words : b ≡ tree_words t
  holding-words = ext_get_or 0 b (tree_words t) (holding.size ∙ sym (length-words t)) (λ i l. let e = holding.size in word_at i (omega arith))

-- The words of a lawful tree hold it

module _ {P : Stored → Type 0} where
  all_left : (xs ys : List Stored) → All P (xs ++ ys) → All P xs
  all_left [] ys a = no-entry
  all_left (x ∷ xs) ys (entry p a) = entry p (all_left xs ys a)

  all_right : (xs ys : List Stored) → All P (xs ++ ys) → All P ys
  all_right [] ys a = a
  all_right (x ∷ xs) ys (entry p a) = all_right xs ys a

  all_row : {A : Type 0} (f : A → List Stored) (r : ℕ → Range) (T : ℕ → A) (k i : ℕ) → All P (f (T i) ++ besides f (branches r T k i)) → (j : ℕ) → i ≤ j → j ≤ i + k → All P (f (T j))
  unfolding branches besides
  all_row f r T zero i a j lo hi = let e : j ≡ i = omega arith in rw e (all_left (f (T i)) [] a)
  all_row f r T (suc k) i a j lo hi =
      by-dec (ℕ_discrete j i)
      (λ e. rw e (all_left (f (T i)) (f (T (suc i)) ++ besides f (branches r T k (suc i))) a))
      (λ e. all_row f r T k (suc i) (all_right (f (T i)) (f (T (suc i)) ++ besides f (branches r T k (suc i))) a) j (omega arith) (omega arith))

  all_map : {Q : Stored → Type 0} → ((e : Stored) → P e → Q e) → {es : List Stored} → All P es → All Q es
  all_map f no-entry = no-entry
  all_map f (entry p a) = entry (f _ p) (all_map f a)

  all-other : (m : ℕ) (es : List Stored) → occ m (map number_of es) ≡ 0 → All P es → All (λ e. (e.number ≡ m → ⊥) × P e) es
  unfolding occ
  all-other m [] z a = no-entry
  all-other m (e ∷ es) z (entry p a) =
      by-test (eqb e.number m)
      (λ t. let u : cond {A = ℕ} (eqb e.number m) 1 0 ≡ 1 = rw t refl in absurd (omega arith))
      (λ t. let u : cond {A = ℕ} (eqb e.number m) 1 0 ≡ 0 = rw t refl in entry (eqb-false _ _ t, p) (all-other m es (omega arith) a))

-- node e is found among es
record Found (es : List Stored) (e : Stored) : Type 0 where
  number : 1 ≤ occ e.number (map number_of es)
  word : (j : ℕ) → word_of es e.number j ≡ e.word j

found-one : (e : Stored) (es : List Stored) → Found (e ∷ es) e
unfolding word_of occ
found-one e es = let t = eq-eqb e.number e.number refl in let u : cond {A = ℕ} (eqb e.number e.number) 1 0 ≡ 1 = rw t refl in record { number = omega arith; word = λ j. rw t }

found-more : (e x : Stored) (es : List Stored) → (x.number ≡ e.number → ⊥) → Found es x → Found (e ∷ es) x
unfolding word_of occ
found-more e x es n q = let o = q.number in record { number = omega arith; word = λ j. rw (ne_eqb e.number x.number (λ d. n (sym d))) (q.word j) }

all_found : (es : List Stored) → ((m : ℕ) → occ m (map number_of es) ≤ 1) → All (Found es) es
unfolding occ
all_found [] once = no-entry
all_found (e ∷ es) once =
    let t = eq-eqb e.number e.number refl in
    let u : cond {A = ℕ} (eqb e.number e.number) 1 0 ≡ 1 = rw t refl in
    let o = once e.number in
    entry (found-one e es) (all_map (λ x q. found-more e x es q.0 q.1) (all-other e.number es (omega arith) (all_found es (λ m. let l = once m in omega arith))))

branches-each : {A : Type 0} {P : A → Type 0} (r : ℕ → Range) (T : ℕ → A) (k i : ℕ) → Each P (branches r T k i) → (j : ℕ) → i < j → j ≤ i + k → P (T j)
unfolding branches
branches-each r T zero i q j lo hi = absurd (omega arith)
branches-each r T (suc k) i (next p q) j lo hi = by-dec (ℕ_discrete j (suc i)) (λ e. rw e p) (λ e. branches-each r T k (suc i) q j (omega arith) (omega arith))

-- a tree that is read back from its words
record Reads (b : List ℕ) (h least : ℕ) (t : Tree h) : Type 0 where
  tree : tree_at b h (root_of h t) ≡ t
  stands : Stands b h least (root_of h t)

abbrev Written : List ℕ → Stored → Type 0
Written b e = (e.number ≤ 63) × In b e

module _ (b : List ℕ) (h least n k : ℕ) (r : ℕ → Range) (T : ℕ → Tree h) (known : (s : Tree h) → Shape h 2 s → All (Written b) (stored h s) → Reads b h 2 s) where
  reads-node : Shape (suc h) least (TreeNode h n k r T) → All (Written b) (stored (suc h) (TreeNode h n k r T)) → Reads b (suc h) least (TreeNode h n k r T)
  unfolding stored root_of
  reads-node s (entry p a) =
      let l = length-branches r T k 0 in let lo = s.enough in let hi = s.few in
      let few : k ≤ 4 = omega arith in
      let c : ℕ → ℕ = λ i. root_of h (T i) in
      let is = put_is (eqb h 0) k r c b n b few (record { inside = λ j u. p.1 j u ∙ node-words h k r T j; below = λ g u. refl; above = λ g u. refl }) in
      let shape : (i : ℕ) → i ≤ k → Shape h 2 (T i) = λ i u. by-dec (ℕ_discrete i 0) (λ e. rw e s.first) (λ e. branches-each r T k 0 s.others i (omega arith) (omega arith)) in
      let kid : (i : ℕ) → i ≤ k → Reads b h 2 (T i) = λ i u. known (T i) (shape i u) (all_row (stored h) r T k 0 a i (omega arith) (omega arith)) in
      record {
        tree = node-is-tree b h n k r c is ∙ node-path h n k k r r (λ j. tree_at b h (c j)) T refl (λ i u. refl) (λ i u. (kid i u).tree);
        stands = node-is-stands b h n k least r c is p.0 (omega arith) few (λ i u. (kid i u).stands);
      }

reads : (b : List ℕ) (h least : ℕ) (t : Tree h) → Shape h least t → All (Written b) (stored h t) → Reads b h least t
reads b zero least t s a = record { tree = unfold tree_at in refl; stands = tt }
reads b (suc h) least t s a =
    subst (λ x. Shape (suc h) least x → All (Written b) (stored (suc h) x) → Reads b (suc h) least x) (sym (as-node h t))
    (reads-node b h least t.number (length t.row.rest) (range_at t.row.rest) (child_at t.row.first t.row.rest) (λ x. reads b h 2 x)) s a

module _ (t : Rooted) (valid : Valid t) where
  abbrev Entries : List Stored
  Entries = stored t.height t.tree

  abbrev Words : List ℕ
  Words = tree_words t

  word-of : (m j : ℕ) → m < 64 → j < 24 → get_or Words (1 + m * 24 + j) 0 ≡ word_of Entries m j
  word-of m j l u =
      let e : 1 + m * 24 + j ≡ suc (m * 24 + j) = omega arith in
      let d : (m * 24 + j) / 24 ≡ m = omega arith in let c : (m * 24 + j) % 24 ≡ j = omega arith in
      ap (λ (x : ℕ). get_or Words x 0) e ∙ word-place t (m * 24 + j) (omega arith) ∙ ap₂ (word_of Entries) d c

  occ-entries : (m : ℕ) → occ m (map number_of Entries) ≡ occ m (nodes t.height t.tree)
  occ-entries m = ap (occ m) (stored-numbers t.height t.tree)

  all-written : All (Written Words) Entries
  all-written = all_map (λ e q. let m = valid.numbers e.number (let o = q.number in let x = occ-entries e.number in omega arith) in (m, λ j l. word-of e.number j (omega arith) l ∙ q.word j))
      (all_found Entries (λ m. let o = valid.once m in let x = occ-entries m in omega arith))

  no_words : (m : ℕ) → m < 64 → occ m (nodes t.height t.tree) ≡ 0 → zeros_in Words m 0 24 ≡ true
  unfolding zeros_in
  no_words m l z = at-all_from 24 (1 + m * 24 + 0) (same_in Words 0)
      (λ g lo hi. is_same Words 0 g (let e : g ≡ 1 + m * 24 + (g - (1 + m * 24)) = omega arith in ap (λ (x : ℕ). get_or Words x 0) e ∙ word-of m (g - (1 + m * 24)) l (omega arith) ∙ word_none Entries m (g - (1 + m * 24)) (occ-entries m ∙ z)))

  pub words-holding : Holding (tree_words t) t
  unfolding root_in
  words-holding =
      let q = reads Words t.height 1 t.tree valid.shape all-written in
      record { size = length-words t; root = word-root t; tree = ap (tree_at Words t.height) (word-root t) ∙ q.tree; stands = rw (word-root t) q.stands; free = no_words }
