-- What is counted: the inputs for which both boxes take the job and answer as an ordinary comparison does.
use Rattle.std.specs.Prelude.{ℕ, ◌+◌, ◌*◌, ◌/◌, ◌%◌, Bool, ◌&&◌, List, eqb, ltb}
use Rattle.lists.specs.Tabulate.{sum}
use Rattle.field.specs.Width.{modulus}
use Rattle.tape.specs.Plain.{plain_tape}
use Rattle.deals.specs.Deals.{dealt_tape}
use Rattle.encoding.specs.Matching.{indicator}
use Rattle.exchange.specs.declared.Shares.{Shares}
use Rattle.exchange.specs.Memory.{Compared, fresh_job}
use Rattle.exhaustive.specs.declared.tapes.Source.{Source}
use Rattle.exhaustive.specs.declared.tapes.Source.TheVariants.{Plain, Dealt}

-- the ordinary comparison
abbrev pub comparison : ℕ → Shares → Shares → ℕ
comparison p box1 box2 = indicator (ltb ((box1.x + box2.x) % p) ((box1.y + box2.y) % p))

-- the job of those shares, of pair 7 and tape number 0, on one fresh tape of each box
abbrev pub job_at : ℕ → Shares → Shares → List ℕ → List ℕ → Compared
job_at n = fresh_job n 7 0

-- no box refuses it, and its answer is the comparison
unfoldable pub agrees_at : ℕ → Shares → Shares → List ℕ → List ℕ → Bool
agrees_at n box1 box2 t1 t2 =
    eqb (job_at n box1 box2 t1 t2).refusal 0 && eqb (job_at n box1 box2 t1 t2).less (comparison (modulus n) box1 box2)

-- 1 if so for input i of y, whose shares are i / p and i % p
abbrev pub right_at : ℕ → ℕ → ℕ → ℕ → List ℕ → List ℕ → ℕ → ℕ
right_at p n x1 x2 t1 t2 i = indicator (agrees_at n (record { x = x1; y = i / p }) (record { x = x2; y = i % p }) t1 t2)

-- how many of all y1 and y2, for one x1 and x2
unfoldable pub right_of : ℕ → ℕ → ℕ → List ℕ → List ℕ → ℕ
right_of n x1 x2 t1 t2 = sum (modulus n * modulus n) (right_at (modulus n) n x1 x2 t1 t2)

-- a box's tape: the plain one, or the one that is dealt from a seed
unfoldable pub tape_of : Source → ℕ → ℕ → ℕ → List ℕ
tape_of Plain n seed side = plain_tape n 7 side 0
tape_of Dealt n seed side = dealt_tape seed n 7 side 0

-- the seed for x1 and x2: never 0, and for shares below 31 never twice the same
abbrev pub seed_of : ℕ → ℕ → ℕ
seed_of x1 x2 = 1 + 31 * x1 + x2

-- how many of all y1 and y2, on the tapes for x1 and x2
abbrev pub right_with : Source → ℕ → ℕ → ℕ → ℕ
right_with source n x1 x2 = right_of n x1 x2 (tape_of source n (seed_of x1 x2) 1) (tape_of source n (seed_of x1 x2) 2)

-- the same for input i of x
abbrev pub right_on : Source → ℕ → ℕ → ℕ → ℕ
right_on source p n i = right_with source n (i / p) (i % p)

-- how many of all x1, x2, y1 and y2
unfoldable pub all_right : Source → ℕ → ℕ
all_right source n = sum (modulus n * modulus n) (right_on source (modulus n) n)
