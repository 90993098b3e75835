use native.Mathlib.Omega.{arith}
use Rattle.blocks.proofs.CallLaws.{not-owners, owners-end}
use Rattle.frames.proofs.in_owners.Goals as goal
use Rattle.frames.proofs.in_owners.Goals.{then-n-lt1-via-then-n-lt1, then-n-lt1-via-else-n-lt1+then-owner-lt1, then-n-lt1-via-else-n-lt1+else-owner-lt1+then-last-n}

pub returns-then-n-lt1 : goal.returns-then-n-lt1
returns-then-n-lt1 c =
    not-owners _ _ (λ w. elim c.then-n-lt1.branch [
      | then-n-lt1-via-then-n-lt1 x ↦ omega (arith, w.0, x.if-n-lt1.true)
      | then-n-lt1-via-else-n-lt1+then-owner-lt1 x ↦ omega (arith, w.1, x.if-owner-lt1.true)
      | then-n-lt1-via-else-n-lt1+else-owner-lt1+then-last-n x ↦ omega (arith, w.1, w.2, x.if-last-n.true)
    ])

pub returns : goal.returns
returns c = owners-end _ _ (omega arith) (omega arith)
