-- When a lent tape is in order for a width, pair, side and tape number: what refusal 10 of document 01 tests.
use Rattle.std.specs.Prelude.{ℕ, ◌+◌, ◌<◌, ◌≡◌, Bool, true, ◌&&◌, List, eqb, ltb, length, get_or}
use Rattle.lists.specs.Every.{every}
use Rattle.field.specs.Width.{listed, modulus}
use Rattle.shares.specs.Side.{is_side}
use Rattle.tape.specs.Layout.{body_length, tape_length, trailer, trailer_length}

-- the seven words after the body are the trailer
unfoldable pub trailer_fits : ℕ → ℕ → ℕ → ℕ → List ℕ → Bool
trailer_fits n pair side number tape =
    every trailer_length (λ k. eqb (get_or tape (body_length n + k) 0) (get_or (trailer n pair side number) k 0))

-- every word of the body is below p
unfoldable pub body_in_range : ℕ → List ℕ → Bool
body_in_range n tape = every (body_length n) (λ i. ltb (get_or tape i 0) (modulus n))

unfoldable pub in_order : ℕ → ℕ → ℕ → ℕ → List ℕ → Bool
in_order n pair side number tape =
    listed n
    && is_side side
    && eqb (length tape) (tape_length n)
    && trailer_fits n pair side number tape
    && body_in_range n tape

-- what a reader of the sections needs of a tape; a tape in order has it
pub record Readable (n : ℕ) (tape : List ℕ) : Type 0 where
  pub width : listed n ≡ true
  pub long : length tape ≡ tape_length n
  pub distances : (k : ℕ) → k < 3 → get_or tape (body_length n + k) 0 ≡ get_or (trailer n 0 0 0) k 0
  pub below : (i : ℕ) → i < body_length n → get_or tape i 0 < modulus n
