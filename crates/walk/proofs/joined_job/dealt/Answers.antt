-- `walk::joined_job::dealt` meets its contract: each tape goes to its part.
use Rattle.std.proofs.Common.{ℕ, ◌+◌, ◌*◌, ◌≤◌, ◌≡◌, refl, ap, ◌∙◌, arith}
use lib.ListN.{length, replicate}
use lib.Seq.{sets}
use Rattle.lists.specs.Joined.{chained}
use Rattle.field.specs.Width.{listed}
use Rattle.walk.specs.Three.{dealt_at}
use Rattle.walk.proofs.Joining.{dealt_long, next_tape, all_tapes}
use Rattle.walk.proofs.joined_job.dealt.Goals as goal

pub invariant_of-write : goal.invariant_of-write
unfolding listed
invariant_of-write c = record { listed = refl }

pub loop-i-preserved : goal.loop-i-preserved
loop-i-preserved c =
    let room = replicate 447 0 in
    let within : 149 * c.loop-i.i + 149 ≤ length room = omega (arith, c.loop-i-test.true) in (
      next_tape (dealt_at 1) (dealt_long 1) room c.loop-i.tapes1 c.write.new.t1 c.loop-i.i within c.loop-i.invariant.0 c.write.ensures.box1,
      next_tape (dealt_at 2) (dealt_long 2) room c.loop-i.tapes2 c.write.new.t2 c.loop-i.i within c.loop-i.invariant.1 c.write.ensures.box2,
    )

pub returns : goal.returns
returns c =
    let room = replicate 447 0 in
    let all : c.loop-i.i ≡ 3 = omega arith in (
      c.loop-i.invariant.0 ∙ ap (λ (k : ℕ). sets room 0 (chained k (dealt_at 1))) all ∙ all_tapes (dealt_at 1) (dealt_long 1) room 3 refl,
      c.loop-i.invariant.1 ∙ ap (λ (k : ℕ). sets room 0 (chained k (dealt_at 2))) all ∙ all_tapes (dealt_at 2) (dealt_long 2) room 3 refl,
    )
