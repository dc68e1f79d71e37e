-- `limit_box::speak` meets its contract: one that is not refused is of the job that the state is in, and the round's words fit.
use Rattle.std.proofs.Common.{sym}
use Rattle.rules.proofs.Passed.{speak_passed}
use Rattle.limit_box.proofs.speak.Goals as goal

pub speak-requires : goal.speak-requires
speak-requires c =
    let a = c.args in
    let go = speak_passed a.state.now a.first a.round a.tapes.now a.work.now a.out.now (sym c.in_ok-joined.ensures.ground) in
    rw (c.in_ok-joined.ensures.joined.0) (go.room, go.out_room)
