use Rattle.std.proofs.Common.{◌+◌, ◌*◌, ◌≤◌, ◌<◌, refl, ◌∙◌, mul-le-mul_right, arith}
use Rattle.lists.specs.Tabulate.{sum}
use Rattle.lists.proofs.Sums.{sum_more}
use Rattle.field.specs.Width.{modulus}
use Rattle.field.specs.Congruence.{Cong}
use Rattle.field.proofs.Widths.{bounds}
use Rattle.field.proofs.Congruences.{cong_eq, cong_sym, cong_mod, cong_add, ◌⊙◌}
use Rattle.shares.specs.Share.{constant_share}
use Rattle.tape.specs.Layout.{square_count}
use Rattle.tape.proofs.Letters.{square_index}
use Rattle.tape.proofs.Sizes.{small}
use Rattle.protocol.specs.Squares.{square_closing}
use Rattle.protocol.proofs.Line.{fewer}
use Rattle.steps.proofs.squares.Squares.close_group.Goals.{After-close_square-total, In-loop-k}
use Rattle.steps.proofs.squares.Squares.close_group.Invariants.{term}
use Rattle.steps.proofs.squares.Squares.close_group.Goals as goal

-- the square of bit k is dealt
placed : (t : In-loop-k) → t.args.g * t.args.self.n.bits + t.loop-k.k < square_count t.args.self.n.bits
placed t =
    square_index t.args.self.n.bits t.args.g t.loop-k.k t.requires.operands t.loop-k-test.true

pub loop-k-init : goal.loop-k-init
loop-k-init c = (omega arith, omega arith, cong_eq (omega (arith, c.constant-total.ensures.value)))

pub overflow_mul-j : goal.overflow_mul-j
overflow_mul-j c = omega (arith, placed (goal.at.overflow_mul-j c).In-loop-k, small c.args.self.n.listed)

pub offset_bounds-self-j : goal.offset_bounds-self-j
offset_bounds-self-j c = omega (arith, placed (goal.at.offset_bounds-self-j c).In-loop-k, small c.args.self.n.listed)

pub bounds-self-j : goal.bounds-self-j
bounds-self-j c = omega (arith, placed (goal.at.bounds-self-j c).In-loop-k, c.args.self.long)

pub opening-sent-requires : goal.opening-sent-requires
opening-sent-requires c = (c.loop-k-test.true, c.args.self.below.at _)

pub close_square-total-requires-clause-operands : goal.close_square-total-requires-clause-operands
close_square-total-requires-clause-operands c =
    (c.opening-sent.ensures.below, placed (goal.at.close_square-total-requires-clause-operands c).In-loop-k)

pub close_square-total-requires-clause-from_line : goal.close_square-total-requires-clause-from_line
close_square-total-requires-clause-from_line c =
    fewer c.requires.from_line _ (omega (arith, placed (goal.at.close_square-total-requires-clause-from_line c).In-loop-k))

-- the sum so far and one square more, each below 5p
room : (c : After-close_square-total)
    → c.loop-k.total + c.close_square-total.result ≤ 1 + (c.loop-k.k + 1) * (5 * modulus c.args.self.n.bits)
room c =
    omega (arith, c.loop-k.invariant.1, c.close_square-total.ensures.below)

pub overflow_add-total : goal.overflow_add-total
overflow_add-total c =
    let b = bounds c.args.self.n.listed in
    let few : c.loop-k.k + 1 ≤ 31 = omega (arith, b, c.loop-k-test.true) in
    omega (arith, room (goal.at.overflow_add-total c).After-close_square-total, b, mul-le-mul_right (5 * modulus c.args.self.n.bits) few)

pub loop-k-preserved : goal.loop-k-preserved
unfolding square_closing
loop-k-preserved c =
    let a = c.args in
    let n = a.self.n.bits in
    let k = c.loop-k.k in
    let f = term n a.side a.code a.self.words.now a.g a.incoming.now in
    let square : Cong (modulus n) c.close_square-total.result (f k) =
    cong_sym cong_mod ⊙ cong_eq (c.close_square-total.ensures.same_value ∙ rw c.opening-sent.ensures.value refl) in (
      omega arith,
      room (goal.at.loop-k-preserved c).After-close_square-total,
      cong_add c.loop-k.invariant.2 square ⊙ cong_eq {b = constant_share a.side 1 + sum (k + 1) f} (omega (arith, sum_more k f)),
    )

-- the whole sum is small enough
pub reduce_wide-requires : goal.reduce_wide-requires
reduce_wide-requires c =
    let p = modulus c.args.self.n.bits in
    let b = bounds c.args.self.n.listed in
    let few : 2 * c.loop-k.k ≤ p = omega (arith, c.loop-k.invariant.0, b) in
    omega (arith, c.loop-k.invariant.1, mul-le-mul_right (5 * p) few, b, mul-le-mul_right p b.seven)
