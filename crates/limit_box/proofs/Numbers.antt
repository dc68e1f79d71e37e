-- What the test of a mark shows: the number is small, and the first one is fresh and not late.
use Prim.Native.Nat.{ℕ, ◌+◌, ◌<◌}
use mathlib.Core.Path.{◌≡◌, sym}
use mathlib.Core.Bool.{true, false}
use mathlib.Core.List.{List}
use native.Mathlib.Omega.{arith}
use borrow.Author.Tests.{ltb-true, not-false}
use lib.Dec.{ltb}
use lib.ListN.{length}
use native.Mathlib.Nat.{add-zero}
use Rattle.refusals.specs.Grounds.{earliest_of, joined}
use Rattle.refusals.proofs.Chains.{none, nones}
use Rattle.tally.specs.Tally.{tally_fits, tapes_of, is_fresh, late}
use Rattle.tally.proofs.Marks.{tally_most, tapes_most}
use Rattle.rules.specs.Grounds.{mark_grounds, one_parts}
use Rattle.rules.specs.declared.state.State.{State}

pub number_small : (number : ℕ) (tally : List ℕ) → tally_fits (length tally) ≡ true → 0 ≡ earliest_of (mark_grounds number tally) → number < 4294967296
number_small number tally fits e =
    let within = ltb-true number (tapes_of (length tally)) (not-false (ltb number (tapes_of (length tally))) (none (mark_grounds number tally) (sym e)).0) in
    omega (arith, within, tapes_most (length tally), tally_most (length tally) fits)

pub first_passed : (s : State) (first count : ℕ) (shares tapes tally : List ℕ) → earliest_of (joined (one_parts s first count shares tapes tally 0)) ≡ 0
    → (is_fresh tally first ≡ true) × (late tally first ≡ false)
first_passed s first count shares tapes tally e =
    let mark = (nones (one_parts s first count shares tapes tally 0) e).0 in
    (rw (add-zero first) at (not-false (is_fresh tally (first + 0)) mark.1.0), rw (add-zero first) at mark.1.1.0)
