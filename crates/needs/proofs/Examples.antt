-- The premises of AsRun are met: at width 3, on document 01's plain tapes, each call of one job, of two and of a band comes to its last ground 12. With the
-- figures' words of that count it is taken, and with those of one job a call of two or of a band is refused.
use Prim.Native.Nat.{ℕ}
use mathlib.Core.Path.{◌≡◌, refl}
use mathlib.Core.List.{List, [], ◌∷◌}
use lib.ListN.{replicate}
use Rattle.lists.specs.Joined.{chained}
use Rattle.tape.specs.Order.{trailer_fits, body_in_range, in_order}
use Rattle.tape.specs.Plain.{plain_tape}
use Rattle.field.specs.Width.{listed, modulus}
use Rattle.shares.specs.Side.{is_side}
use Rattle.shares.specs.Reading.{legible}
use Rattle.shares.specs.Share.{constant_share}
use Rattle.tally.specs.Tally.{tally_fits, tapes_of, is_fresh, late}
use Rattle.protocol.specs.Rounds.{round_words}
use Rattle.protocol.specs.Sizes.{count_fits}
use Rattle.rules.specs.Modes.{in_range, mode_of}
use Rattle.rules.specs.Tasks.{count_of, pairs_of}
use Rattle.rules.specs.Batches.{no_batch, batch_of}
use Rattle.rules.specs.Grounds.{start_ground, speak_ground, hear_ground}
use Rattle.rules.specs.AnyCall.{Call, start, speak, hear, ground_of}
use Rattle.rules.specs.declared.state.Task.{Task}
use Rattle.rules.specs.declared.state.Task.TheVariants.{Compare, Band}
use Rattle.rules.specs.declared.state.Turn.{Turn}
use Rattle.rules.specs.declared.state.Turn.TheVariants.{Speak, Hear}
use Rattle.rules.specs.declared.state.Phase.{Phase}
use Rattle.rules.specs.declared.state.Phase.TheVariants.{Idle, Job}
use Rattle.rules.specs.declared.state.Batch.{Batch}
use Rattle.rules.specs.declared.state.State.{State}
use Rattle.needs.specs.Figures.{needs_ground, needs_rule}
use Rattle.needs.specs.AsRun.{Reached, round_needed, work_needed, plain_tapes}

-- box 1 of pair 1, with a tally of two tapes
abbrev box : Phase → Batch → State
box phase batch = record { n = 3; side = 1; pair = 1; tally = 8; phase = phase; batch = batch }

-- idle, and lent so many words of work for a start; a band has the first share alone
abbrev idle : State
idle = box Idle no_batch

abbrev shares : Task → List ℕ
shares (Compare count) = chained count (λ i. 5 ∷ 1 ∷ [])
shares (Band low high) = 5 ∷ []

abbrev tapes : Task → List ℕ
tapes task = plain_tapes 3 1 1 0 (count_of task)

abbrev start_with : Task → ℕ → Call
start_with task work = start 0 task (shares task) (tapes task) (replicate work 0) (replicate 8 255)

-- in the jobs of one, and lent so many words for a speak and a hear
abbrev in_jobs : Task → Turn → State
in_jobs task turn = box (Job turn) (batch_of 0 task (pairs_of 1 task (shares task)))

abbrev speak_with : Task → ℕ → ℕ → Call
speak_with task work out = speak 0 1 (tapes task) (replicate work 0) (replicate out 0)

abbrev hear_with : Task → ℕ → ℕ → Call
hear_with task work incoming = hear 0 1 (tapes task) (replicate work 0) (replicate incoming 0)

-- each comes to its last ground 12
abbrev Come : Task → Type 0
Come task =
    Reached 12 idle (start_with task 0)
    × (Reached 12 (in_jobs task (Speak 1)) (speak_with task 0 0) × Reached 12 (in_jobs task (Hear 1)) (hear_with task 0 0))

come : Come (Compare 1) × (Come (Compare 2) × Come (Band 2 5))
unfolding listed modulus is_side constant_share tally_fits tapes_of is_fresh late trailer_fits body_in_range in_order plain_tape in_range mode_of count_fits
come = ((refl, (refl, refl)), ((refl, (refl, refl)), (refl, (refl, refl))))

-- the calls of a task, lent the figures' words of `paid`, have that ground
abbrev Grounds : Task → ℕ → ℕ → Type 0
Grounds task paid cause =
    (ground_of idle (start_with task (work_needed 3 paid)) ≡ cause)
    × ((ground_of (in_jobs task (Speak 1)) (speak_with task (work_needed 3 paid) (round_needed 3 paid 1)) ≡ cause)
    × (ground_of (in_jobs task (Hear 1)) (hear_with task (work_needed 3 paid) (round_needed 3 paid 1)) ≡ cause))

-- with the figures of their own count none is refused, and with those of one job two and a band are
abbrev OfTwo : Task → Type 0
OfTwo task = Grounds task 2 0 × Grounds task 1 12

enough : Grounds (Compare 1) 1 0 × (OfTwo (Compare 2) × OfTwo (Band 2 5))
unfolding count_fits needs_ground needs_rule legible round_words listed modulus is_side constant_share tally_fits tapes_of is_fresh late trailer_fits body_in_range
    in_order plain_tape in_range mode_of start_ground speak_ground hear_ground
enough = ((refl, (refl, refl)), (((refl, (refl, refl)), (refl, (refl, refl))), ((refl, (refl, refl)), (refl, (refl, refl)))))
