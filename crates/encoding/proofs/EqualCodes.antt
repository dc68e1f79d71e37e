-- The two boxes' codes of a pair of shares are equal at one level if the pair wraps, and at none otherwise.
use Prim.Native.Nat.{ℕ, ◌+◌, ◌<◌}
use mathlib.Core.Path.{◌≡◌, sym, ap, ◌∙◌}
use native.Mathlib.Omega.{arith}
use lib.Dec.{eqb, leb}
use Rattle.lists.specs.Tabulate.{sum}
use Rattle.field.specs.Width.{modulus}
use Rattle.encoding.specs.Codes.{wrap_bound, level_code}
use Rattle.encoding.specs.Matching.{indicator, matching_levels}
use Rattle.encoding.proofs.Levels.{matching, wrap_less}

pub wrap_levels : (n v1 v2 : ℕ) → v1 < modulus n → v2 < modulus n
    → sum n (λ i. indicator (eqb (level_code n 1 v1 i) (level_code n 2 v2 i))) ≡ indicator (leb (modulus n) (v1 + v2))
unfolding level_code matching_levels
wrap_levels n v1 v2 l1 l2 = matching n (wrap_bound n v1) v2 (omega arith) l2 ∙ ap indicator (sym (wrap_less n v1 v2 l1))
