-- The answer is right: the two answer shares of an exchange add up, modulo p, to 1 if x < y and to 0 otherwise.
use Prim.Native.Nat.{ℕ, zero, suc, ◌+◌, ◌*◌, ◌%◌, ◌<◌, ◌≤◌}
use mathlib.Core.Path.{◌≡◌}
use mathlib.Core.Bool.{true}
use mathlib.Core.List.{List}
use native.Mathlib.Omega.{arith}
use lib.Dec.{ltb}
use lib.ListN.{length}
use Rattle.field.specs.Width.{modulus, listed}
use Rattle.field.specs.Congruence.{Cong}
use Rattle.field.proofs.Congruences.{cong_eq, ◌⊙◌}
use Rattle.shares.specs.Side.{other}
use Rattle.tape.specs.Layout.{group_count}
use Rattle.tape.specs.Dealt.{Matched}
use Rattle.tape.proofs.Dealing.{own_readable}
use Rattle.encoding.specs.Matching.{indicator}
use Rattle.protocol.specs.Work.{work_length, sum_slot, wrap_slot, half_slot, held}
use Rattle.protocol.specs.Products.{Party, party}
use Rattle.protocol.specs.Rounds.{earlier_rounds, message}
use Rattle.protocol.specs.Exchange.{Both, exchanged, sent_own, sent_others, answer_own, answer_others}
use Rattle.protocol.specs.Clear.{shared_bits, low_sum_of, wrap_of, half_of}
use Rattle.protocol.proofs.Forms.{forms}
use Rattle.protocol.proofs.Wraps.{inverse_total}
use Rattle.protocol.proofs.Values.{value_below}
use Rattle.protocol.proofs.Lengths.{after_length}
use Rattle.protocol.proofs.Stages.{count_total_1, sum_total_1, level_total_2, sum_total_2, wrap_total_3, sum_total_3, half_total_4, answer_total}

module _ {n pair number side : ℕ} {t1 t2 : List ℕ} (m : Matched n pair number side t1 t2) (x1 y1 x2 y2 : ℕ)
    (ly1 : y1 < modulus n) (ly2 : y2 < modulus n) (w : Both)
    (room1 : work_length n ≤ length w.own) (room2 : work_length n ≤ length w.others) where
  abbrev pub own_box : Party
  own_box = party n side x1 y1 t1

  abbrev pub other_box : Party
  other_box = party n (other side) x2 y2 t2

  l : listed n ≡ true
  l = (own_readable m).width

  -- work before each round
  abbrev pub own_work : ℕ → List ℕ
  own_work r = (exchanged own_box other_box w r).own

  abbrev pub other_work : ℕ → List ℕ
  other_work r = (exchanged own_box other_box w r).others

  -- work keeps its length over the rounds
  pub record Rooms (r : ℕ) : Type 0 where
    pub own : work_length n ≤ length (own_work r)
    pub other : work_length n ≤ length (other_work r)

  pub rooms : (r : ℕ) → Rooms r
  unfolding exchanged
  rooms zero = record { own = room1; other = room2 }
  rooms (suc r) =
      record {
        own = rw (after_length own_box (own_work r) (message other_box (other_work r) (suc r)) (suc r)) (rooms r).own;
        other = rw (after_length other_box (other_work r) (message own_box (own_work r) (suc r)) (suc r)) (rooms r).other;
      }

  -- what both hold in a slot adds up to
  abbrev pub Adds : ℕ → ℕ → ℕ → Type 0
  Adds r slot v = Cong (modulus n) (held n (own_work r) slot + held n (other_work r) slot) v

  -- A, after round 1, and A · w after round 2
  pub counts : (g : ℕ) → g < group_count n → Adds 1 g (1 + shared_bits n side x1 y1 x2 y2 g)
  unfolding exchanged
  counts g less = count_total_1 m x1 y1 x2 y2 w.own w.others room1 room2 g less

  pub levels : (g : ℕ) → g < group_count n → Adds 2 g ((1 + shared_bits n side x1 y1 x2 y2 g) * inverse_total n t1 t2 g)
  unfolding exchanged
  levels g less = level_total_2 m x1 y1 x2 y2 (own_work 1) (other_work 1) (rooms 1).own (rooms 1).other g _ less (counts g less)

  -- S, up to round 3
  pub sums : (k : ℕ) → k < 3 → Adds 3 (sum_slot n k) (low_sum_of n x1 y1 x2 y2 k)
  unfolding exchanged
  sums k less =
      cong_eq (sum_total_3 m x1 y1 x2 y2 (own_work 2) (other_work 2) (rooms 2).own (rooms 2).other k less)
      ⊙ cong_eq (sum_total_2 m x1 y1 x2 y2 (own_work 1) (other_work 1) (rooms 1).own (rooms 1).other k)
      ⊙ sum_total_1 m x1 y1 x2 y2 w.own w.others room1 room2 k less

  -- the wraps, after round 3
  pub wraps : (k : ℕ) → k < 3 → Adds 3 (wrap_slot n k) (wrap_of n x1 y1 x2 y2 k)
  unfolding exchanged
  wraps k less =
      wrap_total_3 m x1 y1 x2 y2 (own_work 2) (other_work 2) (rooms 2).own (rooms 2).other k less
      levels

  -- the half tests, after round 4
  pub halves : (k : ℕ) → k < 3 → Adds 4 (half_slot n k) (half_of n x1 y1 x2 y2 k)
  unfolding exchanged
  halves k less =
      half_total_4 m x1 y1 x2 y2 (own_work 3) (other_work 3) (rooms 3).own (rooms 3).other k less ly1 ly2 (sums k less) (wraps k less)

  pub right : Cong (modulus n) (answer_own own_box other_box w + answer_others own_box other_box w) (indicator (ltb ((x1 + x2) % modulus n) ((y1 + y2) % modulus n)))
  unfolding answer_own answer_others sent_own sent_others
  right =
      answer_total m x1 y1 x2 y2 (own_work earlier_rounds) (other_work earlier_rounds) (rooms earlier_rounds).own (rooms earlier_rounds).other _ _ _
      (halves 0 (omega arith)) (halves 1 (omega arith)) (halves 2 (omega arith))
      ⊙ cong_eq (forms.bit n _ _ l (value_below n l x1 y1 x2 y2 0) (value_below n l x1 y1 x2 y2 1)).0
