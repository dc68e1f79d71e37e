-- The owner and the place of the letter are those of e for an even word, and of f for an odd one.
use Rattle.std.proofs.Common.{ℕ, ◌≡◌, ◌%◌, ◌≤◌, ◌∙◌, add-zero, arith}
use Rattle.shares.specs.Side.{other}
use Rattle.shares.proofs.Sides.{each_side}
use Rattle.compare.proofs.filling.low_word.Goals.{else-second-eq0, then-second-eq0}
use Rattle.compare.proofs.filling.low_word.Goals as goal

pub overflow_sub-owner : goal.overflow_sub-owner
overflow_sub-owner c = each_side (λ (s : ℕ). s ≤ 3) (omega arith) (omega arith) _ c.requires.operands.0

pub returns : goal.returns
unfolding other
returns c =
    let word = c.mask.ensures.value in
    elim c.if-second-eq0.branch [
      | then-second-eq0 w ↦ rw w.if-second-eq0.true (word ∙ rw (c.constant-share.ensures.value, w.owner-is, c.low_triple.ensures, w.if-second-eq0.true, add-zero))
      | else-second-eq0 w ↦ let odd : c.args.j % 2 ≡ 1 = omega (arith, w.if-second-eq0.false) in
          rw odd (word ∙ rw (c.constant-share.ensures.value, w.owner-is, c.low_triple.ensures, odd))
    ]
