-- Two runs over a whole list: alike at the end, and the second meets the premises.
use Prim.Native.Nat.{ℕ, suc}
use mathlib.Core.Path.{◌≡◌, ap, ◌∙◌}
use mathlib.Core.List.{List, [], ◌∷◌}
use lib.ListN.{length}
use Rattle.guarantees.specs.Boxes.{Box}
use Rattle.guarantees.specs.Entries.{Entry}
use Rattle.guarantees.specs.Run.{Setting, Event, World, stepped, run}
use Rattle.guarantees.specs.Premises.{Meets, AllCompatible}
use Rattle.guarantees.proofs.Openings.{one_more, next_place}
use Rattle.guarantees.proofs.Once.{Marked, marked_next}
use Rattle.guarantees.proofs.Books.{Took, book_of, booked, booked_too}
use Rattle.guarantees.proofs.Unwinding.{Alike, Related, same_ground, related_next}
use Rattle.guarantees.proofs.SameGrounds.{compatible_back, keeps_too}

-- what the first run's log has of the jobs: each box's shares, as a table of shares gives them, and the keys that it opened
module _ (b : Box) (g g' : Setting) (pair : ℕ) (log : List Event)
    (a : Alike b g g' pair (book_of g.shares log) (book_of g'.shares log) (Took log)) where
  abbrev pub Beside : World → World → Type 0
  Beside w w' = Related b g g' pair (book_of g.shares log) (book_of g'.shares log) (Took log) w w'

  pub record Both (es : List Entry) (place : ℕ) (w w' : World) : Type 0 where
    pub related : Beside (run g place w es) (run g' place w' es)
    pub meets : Meets g' place w' es
    pub compatible : AllCompatible g.shares g' place w' es

  pub both : (es : List Entry) (place : ℕ) (w w' : World) → Beside w w' → Marked w → length w.log ≡ place
      → (run g place w es).log ≡ log → Meets g place w es → AllCompatible g'.shares g place w es → Both es place w w'
  both [] place w w' j marked at end meets compatible = record { related = j; meets = tt; compatible = tt }
  both (e ∷ es) place w w' j marked at end meets compatible =
      let f = same_ground b g g' pair _ _ _ a w w' j place e.box e.step compatible.0 in
      let rest =
      both es (suc place) (stepped g place w e.box e.step) (stepped g' place w' e.box e.step)
      (related_next b g g' pair _ _ _ a w w' j place e.box e.step meets.0 compatible.0
      (booked g log es place w e.box marked at e.step end)
      (booked_too g log es place w e.box marked at g' w' e.step j.low f end))
      (marked_next w _ (one_more g place w e.box e.step) marked)
      (next_place g place w e.box e.step ∙ ap suc at) end meets.1 compatible.1 in
      record {
        related = rest.related;
        meets = (keeps_too g g' place w w' j.low e.box e.step f meets.0, rest.meets);
        compatible = (compatible_back g g' place w w' e.box e.step j.low compatible.0, rest.compatible);
      }
