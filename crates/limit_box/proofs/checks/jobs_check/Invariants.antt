-- `limit_box::checks::jobs_check` meets its contract. The loop's invariant: of the jobs passed no ground holds.
use Rattle.std.proofs.Common.{◌≡◌}
use Rattle.lists.specs.Joined.{chained}
use Rattle.refusals.specs.Grounds.{earliest_of, joined}
use Rattle.rules.specs.Grounds.{one_parts}
use Rattle.limit_box.proofs.checks.jobs_check.Given as goal

abbrev pub invariant-loop-i : goal.invariant-loop-i
invariant-loop-i l = earliest_of (chained l.i (λ k. joined (one_parts l.state l.first l.count l.pairs l.tapes l.tally k))) ≡ 0
