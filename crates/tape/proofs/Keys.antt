-- A tape is in order for one width, pair, side and number only; so tapes in order for the same ones pass or fail any test of order alike.
use Prim.Native.Nat.{ℕ, ◌+◌, ◌<◌}
use mathlib.Core.Path.{◌≡◌, refl, sym, ap, ◌∙◌}
use mathlib.Core.Bool.{Bool, true, false, true≢false}
use mathlib.Core.List.{List}
use native.Mathlib.Omega.{arith}
use lib.ListN.{get_or}
use Rattle.tape.specs.Layout.{body_length, tape_length, trailer}
use Rattle.tape.specs.Order.{in_order}
use Rattle.tape.proofs.Orders.{order_trailer, readable}

pub record SameKey (n pair side number n' pair' side' number' : ℕ) : Type 0 where
  pub width : n ≡ n'
  pub pair_is : pair ≡ pair'
  pub side_is : side ≡ side'
  pub number_is : number ≡ number'

pub order_key : (n pair side number n' pair' side' number' : ℕ) (tape : List ℕ) → in_order n pair side number tape ≡ true
    → in_order n' pair' side' number' tape ≡ true → SameKey n pair side number n' pair' side' number'
order_key n pair side number n' pair' side' number' tape e e' =
    record { width = word 6 (omega arith); pair_is = word 3 (omega arith); side_is = word 4 (omega arith); number_is = word 5 (omega arith) }
  where
    long : tape_length n ≡ tape_length n'
    long = sym (readable n pair side number tape e).long ∙ (readable n' pair' side' number' tape e').long

    body : body_length n ≡ body_length n'
    body = omega (arith, long)

    word : (k : ℕ) → k < 7 → get_or (trailer n pair side number) k 0 ≡ get_or (trailer n' pair' side' number') k 0
    word k l =
        sym (order_trailer n pair side number tape e k l)
        ∙ ap (λ (from : ℕ). get_or tape (from + k) 0) body
        ∙ order_trailer n' pair' side' number' tape e' k l

pub order_alike : (n pair side number n' pair' side' number' : ℕ) (tape tape' : List ℕ) → in_order n pair side number tape ≡ true
    → in_order n pair side number tape' ≡ true → in_order n' pair' side' number' tape ≡ in_order n' pair' side' number' tape'
order_alike n pair side number n' pair' side' number' tape tape' e e' =
    go (in_order n' pair' side' number' tape) (in_order n' pair' side' number' tape') refl refl
  where
    -- in order for these as well, so they are the ones that both tapes are in order for
    both : (t t' : List ℕ) → in_order n pair side number t ≡ true → in_order n pair side number t' ≡ true
        → in_order n' pair' side' number' t ≡ true → in_order n' pair' side' number' t' ≡ true
    both t t' o o' h =
        let k = order_key n pair side number n' pair' side' number' t o h in
        rw (← k.width, ← k.pair_is, ← k.side_is, ← k.number_is) o'

    go : (a b : Bool) → in_order n' pair' side' number' tape ≡ a → in_order n' pair' side' number' tape' ≡ b → a ≡ b
    go true true p q = refl
    go false false p q = refl
    go true false p q = absurd (true≢false (sym (both tape tape' e e' p) ∙ q))
    go false true p q = absurd (true≢false (sym (both tape' tape e' e q) ∙ p))
