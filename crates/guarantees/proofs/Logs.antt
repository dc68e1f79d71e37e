-- The log by its places, one event longer at the end.
use Prim.Native.Nat.{ℕ, zero, suc, ◌<◌}
use mathlib.Core.Path.{◌≡◌, refl}
use mathlib.Core.List.{List, [], ◌∷◌, ◌++◌}
use native.Mathlib.Omega.{arith}
use lib.ListN.{length, length-append}
use Rattle.rules.specs.Calls.{Result}
use Rattle.guarantees.specs.Boxes.{Box, box1, box2}
use Rattle.guarantees.specs.Keys.{key_at}
use Rattle.guarantees.specs.Run.{Memory, replied, Event, World, after, quiet, event_at}
use Rattle.guarantees.proofs.LowEquivalence.{LowEvent}

-- what the log has of a speak or a hear
abbrev pub turn_event : Box → Memory → ℕ → ℕ → Result → List ℕ → List ℕ → Event
turn_event b m first round r spoken incoming =
    record { box = b; key = key_at m.state first; round = round; said = replied r.reply; spoken = spoken; incoming = incoming }

pub after_log : (w : World) (b : Box) (m : Memory) (e : Event) → (after w b m e).log ≡ w.log ++ (e ∷ [])
after_log w box1 m e = refl
after_log w box2 m e = refl

pub event_before : (log : List Event) (e : Event) (k : ℕ) → k < length log → event_at (log ++ (e ∷ [])) k ≡ event_at log k
event_before [] e k h = absurd (omega arith)
event_before (a ∷ log) e zero h = refl
event_before (a ∷ log) e (suc k) h = event_before log e k (omega arith)

pub event_at_lem : (log : List Event) (e : Event) (more : List Event) → event_at (log ++ (e ∷ more)) (length log) ≡ e
event_at_lem [] e more = refl
event_at_lem (a ∷ log) e more = event_at_lem log e more

pub event_end : (log : List Event) (e : Event) → event_at (log ++ (e ∷ [])) (length log) ≡ e
event_end log e = event_at_lem log e []

pub log_length : (log : List Event) (e : Event) → length (log ++ (e ∷ [])) ≡ suc (length log)
log_length log e = simp length-append (omega arith)

pub same_event : (e : Event) → LowEvent e e
same_event e = record { box = refl; key = refl; round = refl; said = refl; long = refl }

-- two logs that are the same, still so one event later
pub events_more : (log log' : List Event) {e e' : Event} → length log ≡ length log'
    → ((k : ℕ) → LowEvent (event_at log k) (event_at log' k)) → LowEvent e e'
    → (k : ℕ) → LowEvent (event_at (log ++ (e ∷ [])) k) (event_at (log' ++ (e' ∷ [])) k)
events_more [] [] places events more zero = more
events_more [] [] places events more (suc k) = same_event quiet
events_more [] (a' ∷ log') places events more k = absurd (omega arith)
events_more (a ∷ log) [] places events more k = absurd (omega arith)
events_more (a ∷ log) (a' ∷ log') places events more zero = events 0
events_more (a ∷ log) (a' ∷ log') places events more (suc k) =
    events_more log log' (omega arith) (λ j. events (suc j)) more k
