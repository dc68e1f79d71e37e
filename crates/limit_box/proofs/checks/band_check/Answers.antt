-- `limit_box::checks::band_check` meets its contract: the lists of grounds, one after another.
use Rattle.std.proofs.Common.{◌≡◌, ℕ, true, refl, sym, ap, ◌∙◌}
use borrow.Author.Tests.{eqb-true, not-false}
use lib.Dec.{eqb}
use lib.ListN.{length}
use mathlib.Core.List.{List, [], ◌∷◌}
use Rattle.std.proofs.lemmas.Result.{err_from_is_err_and}
use Rattle.protocol.specs.Sizes.{count_fits}
use Rattle.refusals.specs.Grounds.{earliest_of, joined}
use Rattle.refusals.proofs.Chains.{none}
use Rattle.rules.specs.Modes.{mode_of}
use Rattle.rules.specs.Grounds.{idle_grounds, tally_grounds, asked_parts, job_parts, start_parts, start_ground}
use Rattle.rules.specs.declared.state.Task.TheVariants.{Band}
use Rattle.rules.proofs.Ranges.{awake_range, Ranged, ranged}
use Rattle.limit_box.proofs.Chains.{comes, decided, past, last}
use Rattle.limit_box.proofs.checks.band_check.Goals.{In_ok-idle_check, In_ok-tally_check}
use Rattle.limit_box.proofs.checks.band_check.Goals as goal

idle : (c : In_ok-idle_check) → 0 ≡ earliest_of (idle_grounds (mode_of c.args.state.now))
idle c = rw (← c.mode_of.ensures) c.in_ok-idle_check.ensures

-- awake, so in range
awake : (c : In_ok-idle_check) → Ranged c.args.state.now
awake c =
    let s = c.args.state.now in
    ranged s (awake_range s (none (idle_grounds (mode_of s)) (sym (idle c))).0)

-- two comparisons can be taken
two_fit : count_fits 2 ≡ true
unfolding count_fits
two_fit = refl

-- what the checks before the jobs' have shown
module _ (c : In_ok-tally_check) where
  same_tally : length c.args.tally.now ≡ c.args.state.now.tally
  same_tally =
      let a = c.args in
      eqb-true (length a.tally.now) a.state.now.tally
      (not-false (eqb (length a.tally.now) a.state.now.tally) (none (tally_grounds a.state.now a.tally.now) (sym c.in_ok-tally_check.ensures)).0)

  -- the ground that the jobs and the room come to, by the shares of x and y
  abbrev jobs_ground : List ℕ → ℕ
  jobs_ground pairs =
      let a = c.args in
      earliest_of (joined (job_parts a.state.now a.first 2 pairs a.tapes.now a.work.now a.tally.now))

  -- so of what is asked no ground holds
  asked : 0 ≡ earliest_of (joined (asked_parts c.args.state.now (Band c.args.low c.args.high) (c.args.share ∷ []) c.args.tally.now))
  asked =
      let a = c.args in
      decided {parts = asked_parts a.state.now (Band a.low a.high) (a.share ∷ []) a.tally.now}
      (past c.in_ok-bound_check.ensures (last c.in_ok-tally_check.ensures))

pub invariant_of-bound_check : goal.invariant_of-bound_check
invariant_of-bound_check c = record { listed = (awake (goal.at.invariant_of-bound_check c).In_ok-idle_check).width }

pub jobs_check-requires-clause-fits : goal.jobs_check-requires-clause-fits
jobs_check-requires-clause-fits c =
    let k = (goal.at.jobs_check-requires-clause-fits c).In_ok-tally_check in
    (two_fit, ap length c.band_pairs-pairs.ensures, rw (same_tally k) (awake (goal.at.jobs_check-requires-clause-fits c).In_ok-idle_check).tallied)

pub returns-in_err-jobs_check-clause-ground : goal.returns-in_err-jobs_check-clause-ground
unfolding start_ground
returns-in_err-jobs_check-clause-ground c =
    let a = c.args in
    let e = err_from_is_err_and c.from_residual-in_err-jobs_check.result c.from_residual-in_err-jobs_check.ensures.1 in
    rw (e.1, e.2)
    (decided {parts = start_parts a.state.now a.first (Band a.low a.high) (a.share ∷ []) a.tapes.now a.work.now a.tally.now}
    (past (idle (goal.at.returns-in_err-jobs_check-clause-ground c).In_ok-idle_check)
    (past (asked (goal.at.returns-in_err-jobs_check-clause-ground c).In_ok-tally_check)
    (comes (c.in_err-jobs_check.ensures ∙ ap (jobs_ground (goal.at.returns-in_err-jobs_check-clause-ground c).In_ok-tally_check) c.band_pairs-pairs.ensures)))))

pub returns-clause-ground : goal.returns-clause-ground
unfolding start_ground
returns-clause-ground c =
    let a = c.args in
    decided {parts = start_parts a.state.now a.first (Band a.low a.high) (a.share ∷ []) a.tapes.now a.work.now a.tally.now}
    (past (idle (goal.at.returns-clause-ground c).In_ok-idle_check)
    (past (asked (goal.at.returns-clause-ground c).In_ok-tally_check)
    (comes (c.in_ok-jobs_check.ensures ∙ ap (jobs_ground (goal.at.returns-clause-ground c).In_ok-tally_check) c.band_pairs-pairs.ensures))))
