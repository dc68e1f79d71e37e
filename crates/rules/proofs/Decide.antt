-- A rule's result: refused with the ground that counts, or what the call comes to.
use Prim.Native.Nat.{ℕ}
use mathlib.Core.Path.{◌≡◌, refl}
use mathlib.Core.Bool.{Bool, true, false, cond}
use mathlib.Core.List.{List}
use lib.Dec.{eqb}
use borrow.Author.Tests.{eqb-true}
use Rattle.rules.specs.Answers.{refused}
use Rattle.rules.specs.Calls.{Result, unless}
use Rattle.rules.specs.declared.state.State.{State}

-- refused, or not: what holds of a rule's result
pub decide : (P : Result → Type 0) (k : ℕ) (s : State) (buffer : List ℕ) (ok : Result) → (k ≡ 0 → P ok)
    → P (record { reply = refused k; state = s; buffer = buffer }) → P (unless k s buffer ok)
decide P k s buffer ok passed failed = go (eqb k 0) refl
  where
    go : (t : Bool) → eqb k 0 ≡ t → P (cond t ok (record { reply = refused k; state = s; buffer = buffer }))
    go true e = passed (eqb-true k 0 e)
    go false e = failed
