-- The starts of a turn, one after another: those done so far were right, and have marked their numbers.
use Prim.Native.Nat.{ℕ, ◌+◌, ◌*◌, ◌/◌, ◌<◌, ◌≤◌}
use mathlib.Core.Path.{◌≡◌, refl, ap, sym, ◌∙◌}
use mathlib.Core.Bool.{Bool, true, ◌&&◌}
use mathlib.Core.List.{List}
use mathlib.Core.Logic.{◌⊎◌, inl, inr, ⊎_elim}
use native.Mathlib.Nat.{not-suc-le-zero, eq-or-lt_of_le, zero-mul, mul-le-mul_right}
use native.Mathlib.Omega.{arith}
use borrow.Author.Tests.{lt-ltb}
use lib.ListN.{length, get_or, get_or-eq_default, replicate}
use Rattle.std.proofs.lemmas.Bool.{cases_lt}
use Rattle.lists.proofs.Tests.{and_left, and_right, and_both}
use Rattle.lists.proofs.Joined.{within, length_part, get_part}
use Rattle.field.specs.Width.{listed, modulus}
use Rattle.field.proofs.Widths.{bounds}
use Rattle.tape.specs.Layout.{tape_length}
use Rattle.protocol.specs.Sizes.{count_fits, tape_for}
use Rattle.rules.specs.Tasks.{count_of, task_fits}
use Rattle.rules.specs.declared.state.Task.{Task}
use Rattle.rules.specs.declared.state.Task.TheVariants.{Compare}
use Rattle.bench.specs.declared.eight.Way.{Way}
use Rattle.bench.specs.declared.eight.Way.TheVariants.{Joined, Singly, Pairs, Bands}
use Rattle.bench.specs.Eight.{Small, task_of, own_shares, own_tapes, RightStart, AllDealt, Next, marks}
use Rattle.bench.proofs.Deals.{start_dealt}

-- what each is asked is in range
way_fits : (n : ℕ) (way : Way) → listed n ≡ true → task_fits n (task_of way) ≡ true
unfolding count_fits
way_fits n Joined width = refl
way_fits n Singly width = refl
way_fits n Pairs width = refl
way_fits n Bands width = lt-ltb 5 (modulus n) (omega (arith, bounds width))

-- and together they are eight
all_eight : (way : Way) → 8 / count_of (task_of way) * count_of (task_of way) ≡ 8
all_eight Joined = refl
all_eight Singly = refl
all_eight Pairs = refl
all_eight Bands = refl

-- so each lies within the eight
pub room_for : (way : Way) (i : ℕ) → i < 8 / count_of (task_of way) → i * count_of (task_of way) + count_of (task_of way) ≤ 8
room_for way i less = let count = count_of (task_of way) in omega (arith, within (8 / count) count i less, all_eight way)

pub tapes_within : (n count size i : ℕ) → size ≡ tape_length n → i * count + count ≤ 8 → i * (count * size) + count * size ≤ tape_for n 8
tapes_within n count size i same room = rw same (omega (arith, mul-le-mul_right (tape_length n) room))

-- and has small shares
pub small_part : (task : Task) (shares : List ℕ) (i : ℕ) → i * count_of task + count_of task ≤ 8 → Small (Compare 8) shares
    → Small task (own_shares task shares i)
small_part task shares i room small = (omega (arith, long), λ k. go k (cases_lt k (count_of task * 2)))
  where
    long : length (own_shares task shares i) ≡ count_of task * 2
    long = length_part (count_of task * 2) shares i (omega (arith, room, small.0))

    go : (k : ℕ) → (k < count_of task * 2) ⊎ (count_of task * 2 ≤ k) → get_or (own_shares task shares i) k 0 < 7
    go k (inl low) = rw (get_part (count_of task * 2) shares i k low) (small.1 (i * (count_of task * 2) + k))
    go k (inr high) = rw (get_or-eq_default (own_shares task shares i) 0 {n = k} (omega (arith, long, high))) (omega arith)

module _ (n : ℕ) (way : Way) (shares1 shares2 t1 t2 : List ℕ) where
  abbrev task : Task
  task = task_of way

  abbrev count : ℕ
  count = count_of task

  pub record SoFar (i : ℕ) (right : Bool) (k1 k2 : List ℕ) : Type 0 where
    pub each : right ≡ true → (j : ℕ) → j < i → RightStart n task shares1 shares2 t1 t2 j
    pub goes : AllDealt n 0 8 t1 t2 → (right ≡ true) × (k1 ≡ marks (i * count)) × (k2 ≡ marks (i * count))

  pub none_done : SoFar 0 true (replicate 32 255) (replicate 32 255)
  none_done =
      let fresh : replicate 32 255 ≡ marks (0 * count) = ap marks (sym (zero-mul count)) in
      record { each = λ e j less. absurd (not-suc-le-zero less); goes = λ d. (refl, fresh, fresh) }

  pub one_more : {i : ℕ} {right : Bool} {k1 k2 : List ℕ} → SoFar i right k1 k2 → listed n ≡ true → i < 8 / count → (own : Bool) (k1' k2' : List ℕ)
      → (own ≡ true → RightStart n task shares1 shares2 t1 t2 i)
      → (Next n (i * count) task (own_tapes n task t1 i) (own_tapes n task t2 i) k1 k2
      → (own ≡ true) × (k1' ≡ marks (i * count + count)) × (k2' ≡ marks (i * count + count)))
      → SoFar (i + 1) (right && own) k1' k2'
  one_more {i} {right} {k1} {k2} s width less own k1' k2' each goes =
      record {
        each = λ e j low.
            ⊎_elim
            (λ same. rw same (each (and_right right own e)))
            (λ before. s.each (and_left right own e) j before)
            (eq-or-lt_of_le (omega (arith, low)));
        goes = λ d.
            let so_far = s.goes d in
            let room = room_for way i less in
            let next : Next n (i * count) task (own_tapes n task t1 i) (own_tapes n task t2 i) k1 k2 =
            record {
              fits = way_fits n way width;
              within = room;
              dealt = start_dealt n count t1 t2 d i room;
              spent1 = so_far.1;
              spent2 = so_far.2;
            } in
            let done = goes next in
            let more : marks (i * count + count) ≡ marks ((i + 1) * count) = ap marks (omega arith) in
            (and_both so_far.0 done.0, done.1 ∙ more, done.2 ∙ more);
      }
