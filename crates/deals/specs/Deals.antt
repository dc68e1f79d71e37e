-- The test dealer (document 02, P1): both tapes from a seed, or a refusal and nothing changed.
use Rattle.std.specs.Prelude.{ℕ, zero, suc, ◌+◌, ◌*◌, ◌/◌, ◌%◌, not, ◌||◌, cond, List, [], ◌∷◌, ◌++◌, eqb, length, Result, ⊤}
use Rattle.lists.specs.Tabulate.{tabulate}
use Rattle.field.specs.Width.{listed}
use Rattle.refusals.specs.Grounds.{Ground, ◌when◌, earliest_of}
use Rattle.refusals.specs.Checks.{ground_of}
use Rattle.refusals.specs.declared.Refusal.{Refusal}
use Rattle.refusals.specs.declared.Refusal.TheVariants.{Width, Room, Seed}
use Rattle.draws.specs.Draws.{draw}
use Rattle.tape.specs.Layout.{tape_length, trailer}
use Rattle.deals.specs.Groups.{groups_of, group_length, group_draws, group_word}

-- ---- a tape

-- the draws that the groups of earlier kinds take
abbrev pub draws_before : ℕ → ℕ → ℕ
draws_before n zero = 0
draws_before n (suc kind) = draws_before n kind + groups_of n kind * group_draws n kind

-- the words of all groups of a kind
abbrev pub kind_length : ℕ → ℕ → ℕ
kind_length n kind = groups_of n kind * group_length n kind

-- word i of them, whose draws come after v: it stands in group i / length, at i % length
unfoldable pub kind_word : ℕ → ℕ → ℕ → ℕ → ℕ → ℕ
kind_word n side kind v i =
    group_word n side kind (draw v (i / group_length n kind * group_draws n kind)) (i % group_length n kind)

abbrev pub dealt_kind : ℕ → ℕ → ℕ → ℕ → List ℕ
dealt_kind seed n side kind = tabulate (kind_length n kind) (kind_word n side kind (draw seed (draws_before n kind)))

-- the last two kinds stand in one section
abbrev pub dealt_body : ℕ → ℕ → ℕ → List ℕ
dealt_body seed n side = dealt_kind seed n side 0 ++ dealt_kind seed n side 1 ++ dealt_kind seed n side 2 ++ dealt_kind seed n side 3

unfoldable pub dealt_tape : ℕ → ℕ → ℕ → ℕ → ℕ → List ℕ
dealt_tape seed n pair side number = dealt_body seed n side ++ trailer n pair side number

-- ---- the call

-- refused with that number, or with 0, not refused; both tape buffers as it leaves them
pub record Deal : Type 0 where
  pub refusal : ℕ
  pub tape1 : List ℕ
  pub tape2 : List ℕ

abbrev pub deal_grounds : ℕ → ℕ → List ℕ → List ℕ → List Ground
deal_grounds seed n t1 t2 =
    (Seed when eqb seed 0)
    ∷ (Width when not (listed n))
    ∷ (Room when not (eqb (length t1) (tape_length n)) || not (eqb (length t2) (tape_length n)))
    ∷ []

unfoldable pub deal_ground : ℕ → ℕ → List ℕ → List ℕ → ℕ
deal_ground seed n t1 t2 = earliest_of (deal_grounds seed n t1 t2)

unfoldable pub deal_rule : ℕ → ℕ → ℕ → ℕ → List ℕ → List ℕ → Deal
deal_rule seed n pair number t1 t2 =
    let cause = deal_ground seed n t1 t2 in
    cond (eqb cause 0)
    (record { refusal = 0; tape1 = dealt_tape seed n pair 1 number; tape2 = dealt_tape seed n pair 2 number })
    (record { refusal = cause; tape1 = t1; tape2 = t2 })

-- what a call gave back, with both buffers as it left them
abbrev pub outcome : Result ⊤ Refusal → List ℕ → List ℕ → Deal
outcome answer t1 t2 = record { refusal = ground_of answer; tape1 = t1; tape2 = t2 }
