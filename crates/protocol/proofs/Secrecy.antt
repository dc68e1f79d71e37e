-- One exchange gives nothing away: the two maps of specs/Shift.antt pair a box's dealt tapes for one pair of shares with those for another.
use Prim.Native.Nat.{ℕ, ◌<◌}
use mathlib.Core.List.{List}
use Rattle.field.specs.Width.{modulus}
use Rattle.protocol.specs.Change.{shares_of}
use Rattle.protocol.specs.Shift.{shifted}
use Rattle.protocol.specs.Pairing.{Moves}
use Rattle.protocol.proofs.Pieces.{shifted_trailer}
use Rattle.protocol.proofs.Rules.{matched_shifted}
use Rattle.protocol.proofs.Undo.{undone}
use Rattle.protocol.proofs.Exchanges.{same_own, same_others, same_answer}

module _ (n pair number side xo yo : ℕ) (others : List ℕ) (lyo : yo < modulus n) where
  -- the map for (x, y) and (x', y'); the map back is the same one with the shares exchanged
  abbrev pub paired : ℕ → ℕ → ℕ → ℕ → List ℕ → List ℕ
  paired x y x' y' own = shifted (shares_of n side x y xo yo) (shares_of n side x' y' xo yo) own others

  pub moves : (x y x' y' : ℕ) → y < modulus n → y' < modulus n
      → Moves n pair number side x y x' y' xo yo others (paired x y x' y') (paired x' y' x y)
  moves x y x' y' ly ly' =
      record {
        dealt = λ own m. matched_shifted m x y x' y' xo yo;
        trailer = λ own k. shifted_trailer (shares_of n side x y xo yo) (shares_of n side x' y' xo yo) own others k;
        undone = λ own m. undone m x y x' y' xo yo;
        alike = λ own m.
            record {
              own_same = λ w w' r r'. same_own m x y x' y' xo yo ly ly' lyo w w' r.own r.others r'.own r'.others;
              other_same = λ w w' r r'. same_others m x y x' y' xo yo ly ly' lyo w w' r.own r.others r'.own r'.others;
              answer = λ w w' r r'. same_answer m x y x' y' xo yo ly ly' lyo w w' r.own r.others r'.own r'.others;
            };
      }
