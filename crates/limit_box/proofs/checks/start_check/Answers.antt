-- `limit_box::checks::start_check` meets its contract: the lists of grounds, one after another.
use Rattle.std.proofs.Common.{◌≡◌, ◌*◌, true, sym}
use borrow.Author.Tests.{eqb-true, not-false}
use lib.Dec.{eqb}
use lib.ListN.{length}
use Rattle.protocol.specs.Sizes.{count_fits}
use Rattle.refusals.specs.Grounds.{earliest_of, joined}
use Rattle.refusals.proofs.Chains.{none}
use Rattle.rules.specs.Modes.{mode_of}
use Rattle.rules.specs.Grounds.{idle_grounds, count_grounds, tally_grounds, list_grounds, asked_parts, start_parts, start_ground}
use Rattle.rules.specs.declared.state.Task.TheVariants.{Compare}
use Rattle.rules.proofs.Ranges.{awake_range, Ranged, ranged}
use Rattle.limit_box.proofs.Chains.{comes, decided, past, last}
use Rattle.limit_box.proofs.checks.start_check.Goals.{In_ok-idle_check, In_ok-list_check}
use Rattle.limit_box.proofs.checks.start_check.Goals as goal

idle : (c : In_ok-idle_check) → 0 ≡ earliest_of (idle_grounds (mode_of c.args.state.now))
idle c = rw (← c.mode_of.ensures) c.in_ok-idle_check.ensures

-- awake, so in range
awake : (c : In_ok-idle_check) → Ranged c.args.state.now
awake c =
    let s = c.args.state.now in
    ranged s (awake_range s (none (idle_grounds (mode_of s)) (sym (idle c))).0)

-- what the checks before the jobs' have shown
module _ (c : In_ok-list_check) where
  counted : count_fits c.args.count ≡ true
  counted = not-false (count_fits c.args.count) (none (count_grounds c.args.count) (sym c.in_ok-count_check.ensures)).0

  same_tally : length c.args.tally.now ≡ c.args.state.now.tally
  same_tally =
      let a = c.args in
      eqb-true (length a.tally.now) a.state.now.tally
      (not-false (eqb (length a.tally.now) a.state.now.tally) (none (tally_grounds a.state.now a.tally.now) (sym c.in_ok-tally_check.ensures)).0)

  -- so of what is asked no ground holds
  asked : 0 ≡ earliest_of (joined (asked_parts c.args.state.now (Compare c.args.count) c.args.shares.now c.args.tally.now))
  asked =
      let a = c.args in
      decided {parts = asked_parts a.state.now (Compare a.count) a.shares.now a.tally.now}
      (past c.in_ok-count_check.ensures (past c.in_ok-tally_check.ensures (last c.in_ok-list_check.ensures)))

  two_each : length c.args.shares.now ≡ 2 * c.args.count
  two_each =
      let a = c.args in
      eqb-true (length a.shares.now) (2 * a.count)
      (not-false (eqb (length a.shares.now) (2 * a.count)) (none (list_grounds a.count a.shares.now) (sym c.in_ok-list_check.ensures)).0)

pub jobs_check-requires-clause-width : goal.jobs_check-requires-clause-width
jobs_check-requires-clause-width c = (awake (goal.at.jobs_check-requires-clause-width c).In_ok-idle_check).width

pub jobs_check-requires-clause-fits : goal.jobs_check-requires-clause-fits
jobs_check-requires-clause-fits c =
    let k = (goal.at.jobs_check-requires-clause-fits c).In_ok-list_check in
    (counted k, two_each k, rw (same_tally k) (awake (goal.at.jobs_check-requires-clause-fits c).In_ok-idle_check).tallied)

pub returns : goal.returns
unfolding start_ground
returns c =
    let a = c.args in
    decided {parts = start_parts a.state.now a.first (Compare a.count) a.shares.now a.tapes.now a.work.now a.tally.now}
    (past (idle (goal.at.returns c).In_ok-idle_check) (past (asked (goal.at.returns c).In_ok-list_check) (comes c.jobs_check.ensures)))
