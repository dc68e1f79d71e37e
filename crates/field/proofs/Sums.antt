-- Sums modulo p.
use Rattle.std.proofs.Common.{ℕ, zero, suc, ◌<◌, arith}
use Rattle.lists.specs.Tabulate.{sum}
use Rattle.field.specs.Congruence.{Cong}
use Rattle.field.proofs.Congruences.{cong_refl, cong_add}

pub cong_sum : {p : ℕ} (n : ℕ) (f g : ℕ → ℕ) → ((i : ℕ) → i < n → Cong p (f i) (g i)) → Cong p (sum n f) (sum n g)
cong_sum zero f g h = cong_refl
cong_sum (suc n) f g h = cong_add (cong_sum n f g (λ i l. h i (omega arith))) (h n (omega arith))
