-- `bench::eight::starts` meets its contract: each start does the next comparisons, on its parts.
use Rattle.std.proofs.Common.{ℕ, ◌≡◌, ◌+◌, ◌*◌, ◌≤◌, refl, ap, arith, ◌∙◌}
use Rattle.tape.proofs.Sizes.{small}
use Rattle.protocol.specs.Sizes.{tape_for}
use Rattle.rules.specs.Tasks.{count_of}
use Rattle.bench.specs.Eight.{task_of}
use Rattle.bench.proofs.Deals.{lent_part}
use Rattle.bench.proofs.Starts.{room_for, tapes_within, small_part, one_more}
use Rattle.bench.proofs.eight.starts.Goals.{In-loop-i}
use Rattle.bench.proofs.eight.starts.Goals as goal

module _ (l : In-loop-i) where
  abbrev count : ℕ
  count = l.count-count.result

  abbrev words : ℕ
  words = count * l.tape_words.result

  counted : count ≡ count_of (task_of l.args.way)
  counted = l.count-count.ensures ∙ ap count_of l.task_of-task.ensures

  room : l.loop-i.i * count + count ≤ 8
  room = rw counted (room_for l.args.way l.loop-i.i (rw counted at l.loop-i-test.true))

  tapes : l.loop-i.i * words + words ≤ tape_for l.args.n.bits 8
  tapes = tapes_within l.args.n.bits count l.tape_words.result l.loop-i.i l.tape_words.ensures room

pub offset_bounds-t1-tapes_at : goal.offset_bounds-t1-tapes_at
offset_bounds-t1-tapes_at c = omega (arith, tapes (goal.at.offset_bounds-t1-tapes_at c).In-loop-i, small c.args.n.listed)

pub slice_bounds-t1-end : goal.slice_bounds-t1-end
slice_bounds-t1-end c = omega (arith, tapes (goal.at.slice_bounds-t1-end c).In-loop-i, c.requires.tapes.0)

pub is_right-right-requires : goal.is_right-right-requires
is_right-right-requires c =
    let v = c.args in
    let i = c.loop-i.i in
    let l = (goal.at.is_right-right-requires c).In-loop-i in
    let counted = c.count-count.ensures in
    let size = c.count-count.result * 2 in
    let room = rw counted at (room l) in
    let own1 = lent_part size size v.shares1.now i refl in
    let own2 = lent_part size size v.shares2.now i refl in (
      refl,
      refl,
      omega (arith, room),
      rw (own1, counted) (small_part c.task_of-task.result v.shares1.now i room c.requires.shares.0),
      rw (own2, counted) (small_part c.task_of-task.result v.shares2.now i room c.requires.shares.1),
    )

pub loop-i-preserved : goal.loop-i-preserved
loop-i-preserved c =
    let v = c.args in
    let i = c.loop-i.i in
    let l = (goal.at.loop-i-preserved c).In-loop-i in
    let size = c.count-count.result * 2 in
    let own1 = lent_part size size v.shares1.now i refl in
    let own2 = lent_part size size v.shares2.now i refl in
    let tapes1 = lent_part (words l) (words l) v.t1.now i refl in
    let tapes2 = lent_part (words l) (words l) v.t2.now i refl in
    one_more v.n.bits v.way v.shares1.now v.shares2.now v.t1.now v.t2.now c.loop-i.invariant v.n.listed (rw (counted l) at c.loop-i-test.true)
    c.is_right-right.result _ _
    (λ e. rw (own1, own2, tapes1, tapes2, c.tape_words.ensures, counted l, c.task_of-task.ensures) at (c.is_right-right.ensures.right e))
    (rw (tapes1, tapes2, c.tape_words.ensures, counted l, c.task_of-task.ensures) at c.is_right-right.ensures.dealt)
