-- Two numbers are the same modulo p.
use Rattle.std.specs.Prelude.{◌≡◌, ℕ, ◌%◌}

pub record Cong (p a b : ℕ) : Type 0 where
  pub same : a % p ≡ b % p
