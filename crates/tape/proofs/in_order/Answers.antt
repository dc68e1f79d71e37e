-- `tape::in_order` meets its contract: the five tests, in the contract's order.
use Rattle.std.proofs.Common.{◌≡◌, true, false, length, refl, sym, ap, ◌∙◌}
use Rattle.std.specs.Option.{is_some}
use borrow.Author.Tests.{eq-eqb, ne_eqb, not-true, not-false}
use Rattle.shares.specs.Side.{is_side}
use Rattle.tape.specs.Layout.{tape_length}
use Rattle.tape.specs.Order.{trailer_fits, in_order}
use Rattle.tape.proofs.in_order.Goals.{Else-not-is_side, Else-not-trailer_fits, Else-tape-tape_words, Then-not-trailer_fits}
use Rattle.tape.proofs.in_order.Goals as goal

-- what each test says where it held, and the trailer's where it failed
box : (c : Else-not-is_side) → is_side c.args.label.side ≡ true
box c = sym c.is_side.ensures ∙ not-false _ c.if-not-is_side.false-raw

long : (c : Else-tape-tape_words) → length c.args.tape.now ≡ tape_length c.in-Some.n.bits
long c = c.if-tape-tape_words.false ∙ c.tape_words.ensures

trailers : (c : Else-not-trailer_fits)
    → let a = c.args in
    trailer_fits c.in-Some.n.bits a.label.pair a.label.side a.label.number a.tape.now ≡ true
trailers c = sym c.trailer_fits.ensures ∙ not-false _ c.if-not-trailer_fits.false-raw

misfit : (c : Then-not-trailer_fits)
    → let a = c.args in
    trailer_fits c.in-Some.n.bits a.label.pair a.label.side a.label.number a.tape.now ≡ false
misfit c = sym c.trailer_fits.ensures ∙ not-true _ c.if-not-trailer_fits.true-raw

pub returns-in_default : goal.returns-in_default
unfolding in_order
returns-in_default c = rw (sym c.new.ensures.listed ∙ ap is_some c.in_default.is) refl

pub returns-then-not-is_side : goal.returns-then-not-is_side
unfolding in_order
returns-then-not-is_side c =
    rw (← c.in-Some.ensures.bits) (rw (c.in-Some.n.listed, sym c.is_side.ensures ∙ not-true _ c.if-not-is_side.true-raw) refl)

pub returns-then-tape-tape_words : goal.returns-then-tape-tape_words
unfolding in_order
returns-then-tape-tape_words c =
    let k = (goal.at.returns-then-tape-tape_words c).Else-not-is_side in
    let other = ne_eqb _ _ (λ e. c.if-tape-tape_words.true (e ∙ sym c.tape_words.ensures)) in
    rw (← c.in-Some.ensures.bits) (rw (c.in-Some.n.listed, box k, other) refl)

pub trailer_fits-requires : goal.trailer_fits-requires
trailer_fits-requires c = long (goal.at.trailer_fits-requires c).Else-tape-tape_words

pub returns-then-not-trailer_fits : goal.returns-then-not-trailer_fits
unfolding in_order
returns-then-not-trailer_fits c =
    let k = goal.at.returns-then-not-trailer_fits c in
    rw (← c.in-Some.ensures.bits) (rw (c.in-Some.n.listed, box k.Else-not-is_side, eq-eqb _ _ (long k.Else-tape-tape_words), misfit k.Then-not-trailer_fits) refl)

pub body_in_range-requires : goal.body_in_range-requires
body_in_range-requires c = long (goal.at.body_in_range-requires c).Else-tape-tape_words

pub returns : goal.returns
unfolding in_order
returns c =
    let k = goal.at.returns c in
    rw (← c.in-Some.ensures.bits) (rw (c.in-Some.n.listed, box k.Else-not-is_side, eq-eqb _ _ (long k.Else-tape-tape_words), trailers k.Else-not-trailer_fits) c.body_in_range.ensures)
