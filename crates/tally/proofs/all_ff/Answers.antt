-- `tally::all_ff` meets its contract: the mark is FF FF FF FF just where each of its bytes is FF.
use Prim.Native.Nat.{ℕ}
use mathlib.Core.Path.{◌≡◌, refl, ◌∙◌}
use mathlib.Core.Bool.{Bool, true, false, ◌&&◌}
use mathlib.Core.List.{List, [], ◌∷◌}
use native.Mathlib.Omega.{arith}
use lib.Dec.{eqb}
use lib.ListN.{length}
use lib.Pointwise.{pointwise}
use Rattle.tally.specs.Tally.{is_fresh}
use Rattle.tally.proofs.all_ff.Goals as goal

all_of_four : (a b c d : Bool) → (a && (b && (c && (d && true)))) ≡ (a && b && c && d)
all_of_four false b c d = refl
all_of_four true false c d = refl
all_of_four true true false d = refl
all_of_four true true true false = refl
all_of_four true true true true = refl

four : (mark : List ℕ) → length mark ≡ 4 → pointwise eqb mark (255 ∷ 255 ∷ 255 ∷ 255 ∷ []) ≡ is_fresh mark 0
unfolding is_fresh
four (a ∷ b ∷ c ∷ d ∷ []) e = all_of_four (eqb a 255) (eqb b 255) (eqb c 255) (eqb d 255)
four [] e = absurd (omega (arith, e))
four (a ∷ []) e = absurd (omega (arith, e))
four (a ∷ b ∷ []) e = absurd (omega (arith, e))
four (a ∷ b ∷ c ∷ []) e = absurd (omega (arith, e))
four (a ∷ b ∷ c ∷ d ∷ x ∷ rest) e = absurd (omega (arith, e))

pub returns : goal.returns
returns c = c.eq.ensures ∙ four c.args.mark.now c.told-mark
