use Prim.Native.Nat.{ℕ, ◌+◌, ◌*◌, ◌%◌, ◌^◌, ◌<◌}
use mathlib.Core.Path.{◌≡◌, refl, sym, ap, ◌∙◌}
use native.Mathlib.Nat.{zero-add, mod-eq_of_lt, pow-zero, pow-suc}
use native.Mathlib.Numerals.{add-one}
use native.Mathlib.Omega.{arith}
use lib.ListN.{length, get_or}
use Rattle.lists.proofs.Stores.{stored_none, stored_more, stored_all}
use Rattle.lists.proofs.Sets.{sets_whole}
use Rattle.lists.proofs.Tabulate.{length_tabulate}
use Rattle.field.specs.Width.{modulus}
use Rattle.field.specs.Congruence.{Cong}
use Rattle.field.proofs.Widths.{bounds}
use Rattle.field.proofs.Congruences.{cong_refl, cong_eq, ◌⊙◌, cong_mod, cong_mul}
use Rattle.field.specs.Subtraction.{minus}
use Rattle.deals.specs.Steps.{power_at}
use Rattle.deals.proofs.groups.left_powers.Goals as goal

-- one power more
more_power : (p r j power : ℕ) → power ≡ r ^ j % p → power * r % p ≡ r ^ (j + 1) % p
more_power p r j power e =
    let same : Cong p (power * r) (r ^ (j + 1)) =
    cong_mul (cong_eq {a = power} e ⊙ cong_mod) (cong_refl {a = r}) ⊙ cong_eq (sym (ap (λ (k : ℕ). r ^ k) (add-one j) ∙ pow-suc r j)) in
    same.same

pub loop-j-init : goal.loop-j-init
loop-j-init c =
    let one : 1 < modulus c.args.n.bits = omega (arith, bounds c.args.n.listed) in
    record {
      total_is = refl;
      total_below = c.requires.operands.0;
      power_is = sym (ap (λ (k : ℕ). k % modulus c.args.n.bits) (pow-zero c.args.r) ∙ mod-eq_of_lt one);
      power_below = one;
      stored = stored_none;
    }

pub loop-j-preserved : goal.loop-j-preserved
loop-j-preserved c =
    let h = c.loop-j.invariant in
    let r = c.args.r in
    let p = modulus c.args.n.bits in
    let j = c.loop-j.j in
    let power : c.mul-power.result ≡ r ^ (j + 1) % p = c.mul-power.ensures.value ∙ more_power p r j c.loop-j.power h.power_is in
    record {
      total_is = power ∙ ap (λ (k : ℕ). r ^ k % p) (add-one j) ∙ ap (power_at c.args.n.bits c.args.w r) (sym (add-one j));
      total_below = c.mul-power.ensures.below;
      power_is = power;
      power_below = c.mul-power.ensures.below;
      stored = stored_more h.stored _ _ (omega (arith, c.loop-j-test.true, c.requires.operands.2)) (sym (zero-add j))
          (c.sub.ensures.value ∙ ap (λ (total : ℕ). minus c.args.n.bits total (get_or c.args.w1.now j 0)) h.total_is);
    }

pub returns : goal.returns
returns c =
    let all = length c.args.w1.now in
    stored_all c.loop-j.invariant.stored (omega (arith, c.loop-j-test.false, c.requires.operands.2)) ∙ sets_whole c.args.w2.now _ (length_tabulate all _ ∙ sym c.requires.operands.2)
