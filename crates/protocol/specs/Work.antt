-- Where a box keeps its shares between calls (docs/WORK.md). Words read back are reduced, so whatever work holds, what is sent is below p.
use Rattle.std.specs.Prelude.{ℕ, ◌+◌, ◌*◌, ◌%◌, List, get_or}
use Rattle.field.specs.Width.{modulus}

-- words 0 .. 3n − 1, for each test and level: the share of A, and after round 2 that of d

-- for each test: the share of S, of the wrap T, of the half test (document 01's H, U, Z)
abbrev pub sum_slot : ℕ → ℕ → ℕ
sum_slot n test = 3 * n + test

abbrev pub wrap_slot : ℕ → ℕ → ℕ
wrap_slot n test = 3 * n + 3 + test

abbrev pub half_slot : ℕ → ℕ → ℕ
half_slot n test = 3 * n + 6 + test

-- the words of work that a job may use
abbrev pub work_length : ℕ → ℕ
work_length n = 12 * n + 64

unfoldable pub held : ℕ → List ℕ → ℕ → ℕ
held n work slot = get_or work slot 0 % modulus n
