-- From the opened d = A · w of every level to the share of a test's wrap.
use Rattle.std.specs.Prelude.{ℕ, ◌+◌, ◌*◌, ◌%◌, ◌^◌, List, get_or}
use Rattle.lists.specs.Tabulate.{sum}
use Rattle.field.specs.Width.{modulus}
use Rattle.shares.specs.Share.{constant_share, opened}
use Rattle.tape.specs.Letters.{group_power}
use Rattle.encoding.specs.Polynomial.{coefficient}
use Rattle.protocol.specs.Work.{held}

-- the share of P(A) at group g (document 01's yes of a level): the sum of g_k · d^k · (share of r^k)
unfoldable pub level_match : ℕ → ℕ → ℕ → List ℕ → ℕ → ℕ
level_match n side d powers g =
    (constant_share side (coefficient n 0) + sum n (λ k. coefficient n (k + 1) * (d ^ (k + 1) * group_power n powers g (k + 1)))) % modulus n

-- d of group g, opened
abbrev pub level_opened : ℕ → List ℕ → List ℕ → ℕ → ℕ
level_opened n work incoming g = opened n (held n work g) (get_or incoming g 0)

-- the share of a test's wrap (document 01's T): the sum of its levels
unfoldable pub wrap_share : ℕ → ℕ → List ℕ → List ℕ → List ℕ → ℕ → ℕ
wrap_share n side powers work incoming test =
    sum n (λ i. level_match n side (level_opened n work incoming (test * n + i)) powers (test * n + i)) % modulus n
