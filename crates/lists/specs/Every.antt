-- A test at every index below a count.
use Rattle.std.specs.Prelude.{ℕ, zero, suc, Bool, true, ◌&&◌}

abbrev pub every : ℕ → (ℕ → Bool) → Bool
every zero f = true
every (suc k) f = every k f && f k
