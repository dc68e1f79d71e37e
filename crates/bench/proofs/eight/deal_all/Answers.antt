-- `bench::eight::deal_all` meets its contract: each turn writes a pair of tapes dealt by the rules.
use Rattle.std.proofs.Common.{◌≡◌, arith}
use Rattle.bench.proofs.Deals.{long1, long2, deal_next, all_dealt}
use Rattle.bench.proofs.eight.deal_all.Goals as goal

pub loop-i-preserved : goal.loop-i-preserved
loop-i-preserved c =
    let n = c.args.n in
    let i = c.loop-i.i in
    rw (c.write.ensures.box1, c.write.ensures.box2, c.tape_words-words.ensures) (
      deal_next n.bits n.listed 1 (long1 n.bits n.listed) c.args.t1.now c.loop-i.t1 i c.requires.0 c.loop-i-test.true c.loop-i.invariant.0,
      deal_next n.bits n.listed 2 (long2 n.bits n.listed) c.args.t2.now c.loop-i.t2 i c.requires.1 c.loop-i-test.true c.loop-i.invariant.1,
    )

pub returns : goal.returns
returns c =
    let n = c.args.n in
    let all : c.loop-i.i ≡ 8 = omega (arith, c.loop-i-test.false, c.loop-i.auto.i-end) in
    rw (c.loop-i.invariant.0, c.loop-i.invariant.1, all) (all_dealt n.bits n.listed c.args.t1.now c.args.t2.now c.requires.0 c.requires.1)
