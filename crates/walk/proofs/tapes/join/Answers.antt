-- `walk::tapes::join` meets its contract: each tape goes to its part.
use Rattle.std.proofs.Common.{ℕ, ◌+◌, ◌≡◌, ap, ◌∙◌, List, arith}
use lib.ListN.{length, get_or}
use lib.Seq.{sets}
use Rattle.lists.specs.Joined.{chained}
use Rattle.walk.specs.Walk.{box_tape}
use Rattle.walk.proofs.Joining.{plain_long, next_tape, all_tapes}
use Rattle.walk.proofs.tapes.join.Goals as goal

abbrev tape_at : List ℕ → ℕ → ℕ → List ℕ
tape_at sides first k = box_tape (get_or sides k 0) (first + k)

tapes_long : (sides : List ℕ) (first k : ℕ) → length (tape_at sides first k) ≡ 149
tapes_long sides first k = plain_long (get_or sides k 0) (first + k)

pub loop-i-preserved : goal.loop-i-preserved
loop-i-preserved c =
    let a = c.args in
    next_tape (tape_at a.sides.now a.first) (tapes_long a.sides.now a.first) a.tapes.now c.loop-i.tapes c.copy_from_slice.new.self c.loop-i.i
    (omega (arith, c.requires.0, c.loop-i-test.true)) c.loop-i.invariant (c.copy_from_slice.ensures.after ∙ c.plain.ensures.1)

pub returns : goal.returns
returns c =
    let a = c.args in
    let all : c.loop-i.i ≡ length a.sides.now = omega arith in
    c.loop-i.invariant
    ∙ ap (λ (k : ℕ). sets a.tapes.now 0 (chained k (tape_at a.sides.now a.first))) all
    ∙ all_tapes (tape_at a.sides.now a.first) (tapes_long a.sides.now a.first) a.tapes.now (length a.sides.now) c.requires.0
