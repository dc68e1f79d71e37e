-- The words that a box answers: below p, 0 past the answers, and what two boxes' add up to.
use Prim.Native.Nat.{ℕ, ◌+◌, ◌%◌, ◌<◌, ◌≤◌}
use mathlib.Core.Path.{◌≡◌, refl, ap₂, ◌∙◌}
use mathlib.Core.Bool.{true, cond}
use mathlib.Core.List.{List}
use mathlib.Core.Logic.{by_cases}
use native.Mathlib.Decide.{dec_lt}
use native.Mathlib.Nat.{zero-mod}
use native.Mathlib.Omega.{arith}
use borrow.Author.Tests.{lt-ltb, le-ltb}
use lib.Dec.{ltb}
use lib.ListN.{get_or}
use Rattle.lists.specs.Tabulate.{tabulate}
use Rattle.lists.proofs.Tabulate.{tabulate_same}
use Rattle.field.specs.Width.{listed, modulus}
use Rattle.field.proofs.Widths.{bounds}
use Rattle.field.proofs.Subtraction.{minus_below}
use Rattle.protocol.specs.Sizes.{most_jobs}
use Rattle.shares.specs.Share.{constant_share}
use Rattle.rules.specs.Tasks.{count_of, band_share}
use Rattle.rules.specs.Batches.{each_job, answers_given}
use Rattle.rules.proofs.Batches.{each_below}
use Rattle.rules.specs.declared.state.Task.{Task}
use Rattle.rules.specs.declared.state.Task.TheVariants.{Compare, Band}

-- what comes of words below p, one for each comparison
pub given_below : (n side : ℕ) (task : Task) (f : ℕ → ℕ) → listed n ≡ true → ((i : ℕ) → f i < modulus n) → (i : ℕ)
    → get_or (answers_given n side task (each_job (count_of task) f)) i 0 < modulus n
given_below n side (Compare count) f l below = each_below count f (omega (arith, bounds l)) below
given_below n side (Band low high) f l below =
    let each = each_job 2 f in
    each_below 1 (λ i. band_share n side (get_or each 0 0) (get_or each 1 0)) (omega (arith, bounds l))
    (λ i. minus_below n ((get_or each 0 0 + get_or each 1 0) % modulus n) (constant_share side 1) l)

pub each_added : (p count : ℕ) (own others : List ℕ) → ((i : ℕ) → count ≤ i → get_or own i 0 ≡ 0) → ((i : ℕ) → count ≤ i → get_or others i 0 ≡ 0)
    → tabulate most_jobs (λ i. (get_or own i 0 + get_or others i 0) % p) ≡ each_job count (λ i. (get_or own i 0 + get_or others i 0) % p)
each_added p count own others none1 none2 =
    let sum = λ (i : ℕ). (get_or own i 0 + get_or others i 0) % p in
    tabulate_same most_jobs sum (λ i. cond (ltb i count) (sum i) 0)
    (λ i less.
    by_cases (dec_lt i count)
    (λ inside. rw (lt-ltb i count inside) refl)
    (λ outside.
    let past : count ≤ i = omega (arith, outside) in
    rw (le-ltb i count past) (ap₂ (λ (x y : ℕ). (x + y) % p) (none1 i past) (none2 i past) ∙ zero-mod p)))
