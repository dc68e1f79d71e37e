-- Low-equivalent states count as the same: both asleep or neither, both in a job or neither, with the same turn due.
use Prim.Native.Nat.{ℕ}
use mathlib.Core.Path.{◌≡◌, refl, ap}
use Rattle.rules.specs.Modes.{mode_of, is_asleep, in_job, is_due}
use Rattle.rules.specs.declared.state.Turn.{Turn}
use Rattle.rules.specs.declared.state.State.{State}
use Rattle.guarantees.proofs.LowEquivalence.{LowState}

pub mode_same : {s s' : State} → LowState s s' → mode_of s ≡ mode_of s'
unfolding mode_of
mode_same t = rw (t.ranged, t.phase) refl

pub asleep_same : {s s' : State} → LowState s s' → is_asleep (mode_of s) ≡ is_asleep (mode_of s')
asleep_same t = ap is_asleep (mode_same t)

pub job_same : {s s' : State} → LowState s s' → in_job (mode_of s) ≡ in_job (mode_of s')
job_same t = ap in_job (mode_same t)

pub due_same : {s s' : State} (first : ℕ) (turn : Turn) → LowState s s'
    → is_due (mode_of s) s.batch.first first turn ≡ is_due (mode_of s') s'.batch.first first turn
due_same first turn t = rw (mode_same t, t.first) refl
