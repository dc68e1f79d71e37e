-- What the benchmark's turns come to.
use Rattle.std.specs.Prelude.{ℕ, ◌+◌, ◌/◌, ◌%◌, Bool, ◌&&◌, List, eqb, ltb}
use Rattle.field.specs.Width.{modulus}
use Rattle.tape.specs.Order.{in_order}
use Rattle.encoding.specs.Matching.{indicator}
use Rattle.exchange.specs.declared.Shares.{Shares}
use Rattle.exchange.specs.Memory.{Compared, fresh_job}

-- the shares of a turn: the last four digits of its number, written to the base 7
abbrev pub box1_at : ℕ → Shares
box1_at turn = record { x = turn % 7; y = turn / 49 % 7 }

abbrev pub box2_at : ℕ → Shares
box2_at turn = record { x = turn / 7 % 7; y = turn / 343 % 7 }

-- the ordinary comparison
abbrev pub comparison : ℕ → Shares → Shares → ℕ
comparison p box1 box2 = indicator (ltb ((box1.x + box2.x) % p) ((box1.y + box2.y) % p))

-- a job of pair 1 and tape number 0, on one fresh tape of each box
abbrev pub job_at : ℕ → List ℕ → List ℕ → ℕ → Compared
job_at n t1 t2 turn = fresh_job n 1 0 (box1_at turn) (box2_at turn) t1 t2

-- no box refuses it, and its answer is the comparison
unfoldable pub is_right : ℕ → List ℕ → List ℕ → ℕ → Bool
is_right n t1 t2 turn =
    eqb (job_at n t1 t2 turn).refusal 0 && eqb (job_at n t1 t2 turn).less (comparison (modulus n) (box1_at turn) (box2_at turn))

-- 1 if so
abbrev pub right_at : ℕ → List ℕ → List ℕ → ℕ → ℕ
right_at n t1 t2 turn = indicator (is_right n t1 t2 turn)

-- both boxes' tapes are in order
abbrev pub both_in_order : ℕ → List ℕ → List ℕ → Bool
both_in_order n t1 t2 = in_order n 1 1 0 t1 && in_order n 1 2 0 t2
