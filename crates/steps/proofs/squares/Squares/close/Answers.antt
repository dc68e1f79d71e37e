use Rattle.std.proofs.Common.{ℕ, ◌≡◌, ◌+◌, ◌*◌, ◌/◌, ◌%◌, List, sym, ap, ◌∙◌, get_or, zero-add, arith}
use Rattle.lists.specs.Tabulate.{sum}
use Rattle.lists.proofs.Stores.{stored_more}
use Rattle.lists.proofs.Sums.{sum_same}
use Rattle.field.specs.Width.{modulus}
use Rattle.shares.specs.Share.{constant_share}
use Rattle.encoding.specs.Codes.{level_code}
use Rattle.protocol.specs.Squares.{code_difference, bit_difference, square_closing, match_count}
use Rattle.protocol.proofs.Matches.{group_difference}
use Rattle.steps.proofs.squares.Squares.close.Goals as goal

-- what a turn of the loop stores
counts : (n side : ℕ) (d : ℕ → ℕ) (squares incoming : List ℕ) (g : ℕ)
    → (constant_share side 1
    + sum n (λ k. square_closing n side (code_difference n side (level_code n side (d (g / n)) (g % n)) k) squares incoming (g * n + k)))
    % modulus n
    ≡ match_count n side d squares incoming g
unfolding match_count
counts n side d squares incoming g =
    ap (λ (s : ℕ). (constant_share side 1 + s) % modulus n)
    (sum_same n
    (λ k. square_closing n side (code_difference n side (level_code n side (d (g / n)) (g % n)) k) squares incoming (g * n + k))
    (λ k. square_closing n side (bit_difference n side d (g * n + k)) squares incoming (g * n + k))
    (λ k less. ap (λ (v : ℕ). square_closing n side v squares incoming (g * n + k)) (sym (group_difference n side d g k less))))

pub loop-g-preserved : goal.loop-g-preserved
loop-g-preserved c =
    let a = c.args in
    let g = c.loop-g.g in
    stored_more c.loop-g.invariant _ _ (omega (arith, c.group_count-g-end.ensures, c.loop-g-test.true)) (sym (zero-add g))
    (c.close_group.ensures.value
    ∙ rw c.code_of-code.ensures (counts a.self.n.bits a.side (λ i. get_or a.tests.doubled i 0) a.self.words.now a.incoming.now g))
