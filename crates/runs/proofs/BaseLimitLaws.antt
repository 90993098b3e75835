-- What the entry of the run of n pages that ends before page b covers and gives, v being the word of its last page; and the rights that stand in a table.
use mathlib.Core.Path.{◌≡◌, refl}
use mathlib.Core.Bool.{true}
use mathlib.Core.List.{List, ◌++◌}
use Prim.Native.Nat.{ℕ, zero, suc, ◌+◌, ◌-◌, ◌*◌, ◌≤◌, ◌<◌}
use native.Mathlib.Omega.{arith}
use lib.ListN.{length, get_or, replicate}
use Rattle.words.specs.Wrapping.{wrap_add}
use Rattle.words.proofs.TableLaws.{all-default}
use Rattle.runs.specs.PageWords.{mapped, rights_in, frame_in}
use Rattle.runs.specs.Runs.{Table, nothing, entry}
use Rattle.runs.specs.Walk.{entry_of}
use Rattle.runs.proofs.OffsetLaws.{offset-back}

module _ (b n v : ℕ) where
  -- "LIMIT is not covered": it is the page after the run
  pub limit_is : get_or (entry_of b n v) 1 0 ≡ b
  unfolding entry_of
  limit_is = refl

  -- "frame = page + OFFSET modulo 4,294,967,296": each page of the run gets its frame, also where the frame is below the page
  pub offset-gives : (p : ℕ) → p < b → b ≤ 1024 → (b - 1) - p ≤ frame_in v → frame_in v < 4096 → wrap_add 32 p (get_or (entry_of b n v) 2 0) ≡ frame_in v - ((b - 1) - p)
  unfolding entry_of
  offset-gives p lo small far fits = offset-back (frame_in v) (b - 1) p (omega arith) (omega arith) far (omega arith)

-- the rights of an entry of a table are those of a mapped page, or 0
module _ (ws : List ℕ) (P : ℕ → Type 0) (none : P 0) (page : (p : ℕ) → p < length ws → mapped (get_or ws p 0) ≡ true → P (rights_in (get_or ws p 0))) where
  pub entry-rights : (a n : ℕ) (l : List ℕ) → Table ws a l → (j : ℕ) → P (get_or (l ++ replicate n 0) (4 * j + 3) 0)
  entry-rights a n l nothing j = rw (all-default {A = ℕ} n (4 * j + 3) 0) none
  entry-rights a n l (entry x y o r {more} lo eight g w t) zero =
      let some = g.run.some in
      rw (← w.rights x (omega arith) some) (page x (omega (arith, g.run.fits)) (g.run.maps x (omega arith) some))
  entry-rights a n l (entry x y o r {more} lo eight g w t) (suc j) =
      let e : 4 * suc j + 3 ≡ suc (suc (suc (suc (4 * j + 3)))) = omega arith in
      rw e (entry-rights (suc x) n more t j)
