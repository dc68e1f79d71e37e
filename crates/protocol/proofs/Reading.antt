-- What is read back from work after words were stored there.
use Prim.Native.Nat.{ℕ, ◌+◌, ◌%◌, ◌<◌, ◌≤◌}
use mathlib.Core.Path.{◌≡◌, ap, ◌∙◌}
use mathlib.Core.Bool.{true}
use mathlib.Core.List.{List}
use mathlib.Core.Logic.{◌⊎◌}
use native.Mathlib.Nat.{mod-lt, mod-eq_of_lt}
use native.Mathlib.Omega.{arith}
use lib.ListN.{length, get_or}
use lib.Seq.{sets}
use Rattle.lists.specs.Tabulate.{tabulate}
use Rattle.lists.proofs.Sets.{get_or_sets_tabulate, get_or_sets_beside}
use Rattle.field.specs.Width.{modulus, listed}
use Rattle.field.proofs.Widths.{bounds}
use Rattle.protocol.specs.Work.{held}

-- whatever work holds, what is read is below p
pub held_below : (n : ℕ) (work : List ℕ) (slot : ℕ) → listed n ≡ true → held n work slot < modulus n
unfolding held
held_below n work slot l = mod-lt (get_or work slot 0) (omega (arith, bounds l))

pub held_stored : (n : ℕ) (work : List ℕ) (at count : ℕ) (f : ℕ → ℕ) (i slot : ℕ) → slot ≡ at + i → i < count → at + count ≤ length work
    → f i < modulus n → held n (sets work at (tabulate count f)) slot ≡ f i
unfolding held
held_stored n work at count f i slot place less room below =
    ap (λ (k : ℕ). get_or (sets work at (tabulate count f)) k 0 % modulus n) place
    ∙ ap (λ (x : ℕ). x % modulus n) (get_or_sets_tabulate work at count f i less room)
    ∙ mod-eq_of_lt below

pub held_beside : (n : ℕ) (work : List ℕ) (at count : ℕ) (f : ℕ → ℕ) (j : ℕ) → (j < at) ⊎ (at + count ≤ j)
    → held n (sets work at (tabulate count f)) j ≡ held n work j
unfolding held
held_beside n work at count f j beside = ap (λ (x : ℕ). x % modulus n) (get_or_sets_beside work at count f j beside)
