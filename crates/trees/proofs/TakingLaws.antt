-- Taking a range out of a list that ascends.
use mathlib.Core.Path.{◌≡◌, refl, sym, ap, ◌∙◌}
use mathlib.Core.Bool.{true, false}
use mathlib.Core.List.{List, [], ◌∷◌, ◌++◌}
use Prim.Native.Nat.{ℕ, ◌≤◌, ◌<◌}
use native.Mathlib.Omega.{arith}
use lib.Dec.{ltb, eqb}
use lib.ListN.{length, length-append}
use borrow.Author.Tests.{ltb-true, ltb-false, eqb-true, lt-ltb, le-ltb, ne_eqb}
use Rattle.words.proofs.Cases.{by-test, true-false}
use Rattle.trees.specs.declared.Range.{Range}
use Rattle.trees.specs.Ranges.{remove_list, holds_base}
use Rattle.trees.specs.Removal.{Taken}
use Rattle.trees.specs.Inner.Spans.{Between, none, one}
use Rattle.trees.specs.Inner.Taking.{take_list, Aims, at_base, at_last}
use Rattle.trees.proofs.RangeLaws.{Around, around, between_le}

-- A BASE that is held

pub holds-none : {lo : ℕ} {xs : List Range} {hi : ℕ} (b : ℕ) → b < lo → Between lo xs hi → holds_base b xs ≡ false
unfolding holds_base
holds-none b h (none a) = refl
holds-none b h (one {r = r} a s m) = rw (ne_eqb r.base b (λ e. omega arith)) (holds-none b (omega arith) m)

module _ (b : ℕ) (q : Range) (ys : List Range) where
  holds-left : {hi : ℕ} → q.base < q.limit → Between q.limit ys hi → (xs : List Range) → b < q.base → holds_base b (xs ++ q ∷ ys) ≡ holds_base b xs
  unfolding holds_base
  holds-left some right [] h = rw (ne_eqb q.base b (λ e. omega arith)) (holds-none b (omega arith) right)
  holds-left some right (x ∷ xs) h = by-test (eqb x.base b) (λ e. rw e) (λ e. rw e (holds-left some right xs h))

  holds-right : (l : ℕ) (xs : List Range) → Between l xs q.base → q.base < b → holds_base b (xs ++ q ∷ ys) ≡ holds_base b ys
  unfolding holds_base
  holds-right l [] m h = rw (ne_eqb q.base b (λ e. omega arith))
  holds-right l (x ∷ xs) (one a s m) h = let k = between_le m in rw (ne_eqb x.base b (λ e. omega arith)) (holds-right x.limit xs m h)

-- What is taken, at one range of the list

-- range r was taken, and rs is left
abbrev pub Took : Taken (List Range) → Range → List Range → Type 0
Took w r rs = (w.range ≡ r) × (w.left ≡ rs)

one_more : (b : ℕ) (x : Range) (xs : List Range) → 1 ≤ length xs → x.base < b → Took (take_list b (x ∷ xs)) (take_list b xs).range (x ∷ (take_list b xs).left)
unfolding take_list
one_more b x [] h l = absurd (omega arith)
one_more b x (y ∷ ys) h l = rw (lt-ltb x.base b l) (refl, refl)

this-one : (b : ℕ) (x : Range) (xs : List Range) → b ≤ x.base → Took (take_list b (x ∷ xs)) x xs
unfolding take_list
this-one b x [] l = (refl, refl)
this-one b x (y ∷ ys) l = rw (le-ltb x.base b l) (refl, refl)

longer : (xs : List Range) (q : Range) (ys : List Range) → 1 ≤ length (xs ++ q ∷ ys)
longer xs q ys = let e = length-append xs (q ∷ ys) in omega arith

holds-some : (b : ℕ) (xs : List Range) → holds_base b xs ≡ true → 1 ≤ length xs
unfolding holds_base
holds-some b [] t = true-false false t refl
holds-some b (x ∷ xs) t = omega arith

module _ (b : ℕ) (q : Range) (ys : List Range) where
  pub took-right : (l : ℕ) (xs : List Range) → Between l xs q.base → q.base < b → 1 ≤ length ys → Took (take_list b (xs ++ q ∷ ys)) (take_list b ys).range (xs ++ q ∷ (take_list b ys).left)
  took-right l [] m h s = one_more b q ys s h
  took-right l (x ∷ xs) (one a c m) h s =
      let k = between_le m in
      let u = one_more b x (xs ++ q ∷ ys) (longer xs q ys) (omega arith) in let v = took-right x.limit xs m h s in
      (u.0 ∙ v.0, u.1 ∙ ap (λ (z : List Range). x ∷ z) v.1)

  pub took-here : (l : ℕ) (xs : List Range) → Between l xs q.base → q.base ≡ b → Took (take_list b (xs ++ q ∷ ys)) q (xs ++ ys)
  took-here l [] m e = this-one b q ys (omega arith)
  took-here l (x ∷ xs) (one a c m) e =
      let k = between_le m in
      let u = one_more b x (xs ++ q ∷ ys) (longer xs q ys) (omega arith) in let v = took-here x.limit xs m e in
      (u.0 ∙ v.0, u.1 ∙ ap (λ (z : List Range). x ∷ z) v.1)

module _ (b : ℕ) where
  rest-holds : (x : Range) (xs : List Range) → x.base < b → holds_base b (x ∷ xs) ≡ true → holds_base b xs ≡ true
  unfolding holds_base
  rest-holds x xs h t = rw (ne_eqb x.base b (λ e. omega arith)) at t

  pub took-left : (xs zs : List Range) → holds_base b xs ≡ true → Took (take_list b (xs ++ zs)) (take_list b xs).range ((take_list b xs).left ++ zs)
  took-left [] zs t = unfold holds_base in true-false false t refl
  took-left (x ∷ xs) zs t =
      let known : holds_base b xs ≡ true → Took (take_list b (xs ++ zs)) (take_list b xs).range ((take_list b xs).left ++ zs) = took-left xs zs in
      by-test (ltb x.base b)
      (λ e. let d = rest-holds x xs (ltb-true _ _ e) t in let s = holds-some b xs d in
      let l = length-append xs zs in
      let u = one_more b x (xs ++ zs) (omega arith) (ltb-true _ _ e) in let v = one_more b x xs s (ltb-true _ _ e) in let w = known d in
      (u.0 ∙ w.0 ∙ sym v.0, u.1 ∙ ap (λ (z : List Range). x ∷ z) w.1 ∙ ap (λ (z : List Range). z ++ zs) (sym v.1)))
      (λ e. let u = this-one b x (xs ++ zs) (ltb-false _ _ e) in let v = this-one b x xs (ltb-false _ _ e) in
      (u.0 ∙ sym v.0, u.1 ∙ ap (λ (z : List Range). z ++ zs) (sym v.1)))

  -- where all are lower, the last is taken
  pub took-last : (lo : ℕ) (xs : List Range) → Between lo xs b → 1 ≤ length xs → xs ≡ (take_list b xs).left ++ ((take_list b xs).range ∷ [])
  took-last lo [] m s = absurd (omega arith)
  took-last lo (x ∷ []) m s = unfold take_list in refl
  took-last lo (x ∷ y ∷ ys) (one a c m) s =
      let k = between_le m in
      let u = one_more b x (y ∷ ys) (omega arith) (omega arith) in
      ap (λ (z : List Range). x ∷ z) (took-last x.limit (y ∷ ys) m (omega arith))
      ∙ rw (u.0, u.1)

  -- where a range of BASE b is held, it is taken
  pub list-taken : (lo : ℕ) (rs : List Range) (hi : ℕ) → Between lo rs hi → holds_base b rs ≡ true → ((take_list b rs).left ≡ remove_list b rs) × ((take_list b rs).range.base ≡ b)
  list-taken lo [] hi m t = unfold holds_base in true-false false t refl
  list-taken lo (x ∷ xs) hi (one a c m) t =
      let known : holds_base b xs ≡ true → ((take_list b xs).left ≡ remove_list b xs) × ((take_list b xs).range.base ≡ b) = list-taken x.limit xs hi m in
      by-test (eqb x.base b)
      (λ e. let u = this-one b x xs (let q : x.base ≡ b = eqb-true _ _ e in omega arith) in
      (u.1 ∙ unfold remove_list in rw e, ap (λ (z : Range). z.base) u.0 ∙ eqb-true _ _ e))
      (λ e. let d : holds_base b xs ≡ true = unfold holds_base in rw e at t in
      by-test (ltb x.base b)
      (λ f. let u = one_more b x xs (holds-some b xs d) (ltb-true _ _ f) in
      (u.1 ∙ ap (λ (z : List Range). x ∷ z) (known d).0 ∙ unfold remove_list in rw e, ap (λ (z : Range). z.base) u.0 ∙ (known d).1))
      (λ f. true-false (holds_base b xs) d (holds-none b (let l : b ≤ x.base = ltb-false _ _ f in omega arith) m)))

-- What b stands for, at one range of the list

module _ {lo : ℕ} {hi : ℕ} (b : ℕ) (xs : List Range) (q : Range) (ys : List Range) (w : Around lo xs q ys hi) where
  pub aims-left : b < q.base → Aims b (xs ++ q ∷ ys) → holds_base b xs ≡ true
  aims-left h (at_base t) = sym (holds-left b q ys w.some w.right xs h) ∙ t
  aims-left h (at_last l m s) = let v = around l xs q ys b m in let k = between_le v.right in let e = v.some in absurd (omega arith)

  pub aims-right : q.base < b → 1 ≤ length ys → Aims b (xs ++ q ∷ ys) → Aims b ys
  aims-right h s (at_base t) = at_base (sym (holds-right b q ys lo xs w.left h) ∙ t)
  aims-right h s (at_last l m k) = at_last q.limit (around l xs q ys b m).right s
