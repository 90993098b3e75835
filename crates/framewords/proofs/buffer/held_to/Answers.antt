use Rattle.std.proofs.Common.{◌≡◌, get_or, rules, not, eqb, arith}
use borrow.Author.Tests.{not-false}
use Rattle.words.specs.Counts.{one-if}
use Rattle.words.proofs.ScanLaws.{pass_on, pass-further}
use Rattle.blocks.specs.FrameWords.{owner_of, free_in}
use Rattle.blocks.proofs.HeldLaws.{held_test, held-pass}
use Rattle.framewords.proofs.buffer.held_to.Goals as goal

pub returns-then-end-from-lt4 : goal.returns-then-end-from-lt4
returns-then-end-from-lt4 c =
    let b = c.args.frames.now in
    let all = c.words_to.ensures.first_other (λ g. not (free_in b g)) (λ k r lo hi free. let e : r ≡ one-if (eqb (owner_of (get_or b k 0)) 0) = search rules in held_test _ k r e) in
    record { held_to = held-pass _ _ _ _ all.passed; result_value = λ ne. not-false _ (all.fails ne) }

pub returns-then-near-from : goal.returns-then-near-from
returns-then-near-from c =
    let b = c.args.frames.now in
    let near = c.words_to-near.ensures.first_other (λ g. not (free_in b g)) (λ k r lo hi free. let e : r ≡ one-if (eqb (owner_of (get_or b k 0)) 0) = search rules in held_test _ k r e) in
    record { held_to = held-pass _ _ _ _ (pass-further _ _ _ _ _ near.passed (omega arith)); result_value = λ ne. not-false _ (near.fails (λ e. omega arith)) }

pub returns : goal.returns
returns c =
    let b = c.args.frames.now in
    let near = c.words_to-near.ensures.first_other (λ g. not (free_in b g)) (λ k r lo hi free. let e : r ≡ one-if (eqb (owner_of (get_or b k 0)) 0) = search rules in held_test _ k r e) in
    let rest = c.words_to-2.ensures.first_other (λ g. not (free_in b g)) (λ k r lo hi free. let e : r ≡ one-if (eqb (owner_of (get_or b k 0)) 0) = search rules in held_test _ k r e) in
    record { held_to = held-pass _ _ _ _ (pass_on _ _ _ _ _ (pass_on _ _ _ _ _ (pass-further _ _ _ _ _ near.passed (omega arith)) c.held_chunks-far.ensures) rest.passed); result_value = λ ne. not-false _ (rest.fails ne) }
