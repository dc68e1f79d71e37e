-- The inverse of a small number modulo p, without search among the residues: k divides one of 1, p + 1, 2p + 1, .., and the quotient is
-- the inverse.
use Rattle.std.specs.Prelude.{ℕ, zero, suc, ◌+◌, ◌/◌, ◌%◌, cond, ◌==◌}
use Rattle.field.specs.Width.{modulus}

-- the first of m, m + p, m + 2p, .. that k divides, divided by k; at most `turns` of them are tried
abbrev pub quotient : ℕ → ℕ → ℕ → ℕ → ℕ
quotient zero p k m = 0
quotient (suc turns) p k m = let next = quotient turns p k (m + p) in cond (m % k == 0) (m / k) next

-- k · inverse n k = 1 modulo p, for k from 1 to n + 1 at every listed n
unfoldable pub inverse : ℕ → ℕ → ℕ
inverse n k = quotient k (modulus n) k 1
