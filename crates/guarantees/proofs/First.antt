-- What holds before the first entry: both boxes are asleep and the log is empty.
use Prim.Native.Nat.{ℕ}
use mathlib.Core.Path.{◌≡◌, refl, sym, ap, subst, ◌∙◌}
use mathlib.Core.Bool.{true, false≢true}
use mathlib.Core.List.{List}
use native.Mathlib.Omega.{arith}
use lib.ListN.{length}
use Rattle.lists.proofs.Tabulate.{length_tabulate}
use Rattle.field.specs.Width.{listed}
use Rattle.shares.specs.Side.{other}
use Rattle.tape.specs.Order.{in_order}
use Rattle.rules.specs.Modes.{mode_of, is_asleep}
use Rattle.rules.specs.declared.state.Phase.{Phase}
use Rattle.rules.specs.declared.state.Phase.TheVariants.{Asleep, Idle, Job}
use Rattle.rules.specs.declared.state.State.{State}
use Rattle.guarantees.specs.Boxes.{Box, box1, box2, side_of}
use Rattle.guarantees.specs.Keys.{Key}
use Rattle.guarantees.specs.Outcomes.{kind_of}
use Rattle.guarantees.specs.Run.{Lending, Setting, Event, quiet, World, memory_of, event_at}
use Rattle.guarantees.specs.Premises.{AtFirst}
use Rattle.guarantees.specs.Comparison.{TapeSet, by_box, Common, Loose, Valid, memory_at, world_of}
use Rattle.guarantees.proofs.LowEquivalence.{LowMemory, LowEquivalent}
use Rattle.guarantees.proofs.Logs.{same_event}
use Rattle.guarantees.proofs.Once.{Unopened, Marked, Once, SomeEach}
use Rattle.guarantees.proofs.Invariant.{Phased, Holds, Conforms, Invariant}

module _ (g : Setting) (book : Box → Key → Lending) (Known : Box → Key → Type 0) where
  asleep_phased : (b : Box) (s : State) (work : List ℕ) (p : Phase) → is_asleep p ≡ true → Phased g book Known b s work p
  asleep_phased b s work Asleep h = tt
  asleep_phased b s work Idle h = absurd (false≢true h)
  asleep_phased b s work (Job turn) h = absurd (false≢true h)

  pub invariant_first : (w : World) → AtFirst w → Invariant g book Known w
  invariant_first w at =
      record {
        each = each;
        events = λ k. subst (λ (l : List Event). Conforms g book Known (event_at l k) (kind_of (event_at l k).said)) (sym at.no_events) refl;
      }
    where
      each : (b : Box) → Holds g book Known b (memory_of w b)
      each b =
          let m = memory_of w b in
          record { holds = asleep_phased b m.state m.work (mode_of m.state) (at.asleep b) }

pub marked_first : (w : World) → AtFirst w → Marked w
marked_first w at = record { unopened = λ b number f. subst (λ (l : List Event). Unopened l b number) (sym at.no_events) tt }

pub once_first : (w : World) → AtFirst w → Once w.log
once_first w at = λ c number k less taken. absurd (omega (arith, less, ap length at.no_events))

pub some_first : (w : World) → AtFirst w → SomeEach w.log
some_first w at = subst SomeEach (sym at.no_events) (λ k opened. absurd (false≢true opened))

-- ---- two runs over one list

memory_first : (c : Common) (w w' : Loose) (b : Box) → LowMemory (memory_at c w b) (memory_at c w' b)
memory_first c w w' b =
    record {
      state = record { n = refl; side = refl; pair = refl; tally = refl; phase = refl; first = refl; task = refl; ranged = refl };
      tally = refl;
      room = length_tabulate (c.rooms b) (w.works b) ∙ sym (length_tabulate (c.rooms b) (w'.works b));
    }

-- what work holds does not matter
pub first_again : (c : Common) (w w' : Loose) → AtFirst (world_of c w) → AtFirst (world_of c w')
first_again c w w' at = record { asleep = again; no_events = refl }
  where
    again : (b : Box) → is_asleep (mode_of (memory_of (world_of c w') b).state) ≡ true
    again box1 = at.asleep box1
    again box2 = at.asleep box2

pub low_first : (c : Common) (w w' : Loose) → LowEquivalent (world_of c w) (world_of c w')
low_first c w w' =
    record { memories = each; places = refl; events = λ k. same_event quiet }
  where
    each : (b : Box) → LowMemory (memory_of (world_of c w) b) (memory_of (world_of c w') b)
    each box1 = memory_first c w w' box1
    each box2 = memory_first c w w' box2

-- ---- the orders of the dealt tapes

pub orders : (c : Common) (b : Box) (own : TapeSet) → Valid c b own
    → (d : Box) (number n : ℕ) → listed n ≡ true → in_order n c.pair (side_of d) number (by_box b own c.others d number n) ≡ true
unfolding other
orders c box1 own v box1 number n l = (v number n l).own_order
orders c box1 own v box2 number n l = (v number n l).others_order
orders c box2 own v box1 number n l = (v number n l).others_order
orders c box2 own v box2 number n l = (v number n l).own_order
