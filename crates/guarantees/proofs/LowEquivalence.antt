-- Low equivalence: what two runs over one list have in common at every place when they differ in tapes, in-range shares, words of
-- work and spelled zeros only.
use Prim.Native.Nat.{ℕ}
use mathlib.Core.Path.{◌≡◌}
use lib.ListN.{length}
use Rattle.rules.specs.Modes.{in_range}
use Rattle.rules.specs.declared.state.State.{State}
use Rattle.guarantees.specs.Run.{Memory, Event, World, memory_of, event_at}
use Rattle.guarantees.specs.Boxes.{Box}
use Rattle.guarantees.specs.View.{covered}

-- all but the shares: these are in range in both, or outside a job not looked at in both, so the states count as the same
pub record LowState (s s' : State) : Type 0 where
  pub n : s.n ≡ s'.n
  pub side : s.side ≡ s'.side
  pub pair : s.pair ≡ s'.pair
  pub tally : s.tally ≡ s'.tally
  pub phase : s.phase ≡ s'.phase
  pub first : s.batch.first ≡ s'.batch.first
  pub task : s.batch.task ≡ s'.batch.task
  pub ranged : in_range s ≡ in_range s'

pub record LowMemory (m m' : Memory) : Type 0 where
  pub state : LowState m.state m'.state
  pub tally : m.tally ≡ m'.tally
  pub room : length m.work ≡ length m'.work

-- all but the words: what was said up to answer shares, and how many words were spoken
pub record LowEvent (e e' : Event) : Type 0 where
  pub box : e.box ≡ e'.box
  pub key : e.key ≡ e'.key
  pub round : e.round ≡ e'.round
  pub said : covered e.said ≡ covered e'.said
  pub long : length e.spoken ≡ length e'.spoken

pub record LowEquivalent (w w' : World) : Type 0 where
  pub memories : (b : Box) → LowMemory (memory_of w b) (memory_of w' b)
  pub places : length w.log ≡ length w'.log
  pub events : (k : ℕ) → LowEvent (event_at w.log k) (event_at w'.log k)
