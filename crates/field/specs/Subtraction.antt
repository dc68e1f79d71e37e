-- Subtraction modulo p, of words up to p.
use Rattle.std.specs.Prelude.{ℕ, ◌+◌, ◌-◌, ◌%◌}
use Rattle.field.specs.Width.{modulus}

-- u − v
unfoldable pub minus : ℕ → ℕ → ℕ → ℕ
minus n u v = (u + (modulus n - v)) % modulus n
