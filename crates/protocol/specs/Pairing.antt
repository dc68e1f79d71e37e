-- The statement that one exchange gives nothing away, for one box's two pairs of shares and the other box's tape. The proof is
-- proofs/Secrecy.antt; who uses the statement need not look there.
use Rattle.std.specs.Prelude.{ℕ, suc, ◌+◌, ◌<◌, ◌≤◌, ◌≡◌, List, length, get_or}
use Rattle.shares.specs.Side.{other}
use Rattle.tape.specs.Layout.{body_length}
use Rattle.tape.specs.Dealt.{Matched}
use Rattle.protocol.specs.Work.{work_length}
use Rattle.protocol.specs.Products.{party}
use Rattle.protocol.specs.Rounds.{last_round}
use Rattle.protocol.specs.Exchange.{Both, sent_own, sent_others, answer_others}

-- both works are long enough
pub record Roomy (n : ℕ) (w : Both) : Type 0 where
  pub own : work_length n ≤ length w.own
  pub others : work_length n ≤ length w.others

-- two tapes of the box of `side`, one for shares x and y, one for x' and y', look the same to the other box, which has xo, yo and its tape:
-- every message of every round of both boxes is the same, and so is the other box's answer share, whatever work held at first
pub record LooksAlike (n side x y x' y' xo yo : ℕ) (others own own' : List ℕ) : Type 0 where
  pub own_same : (w w' : Both) → Roomy n w → Roomy n w' → (r : ℕ) → r < last_round
      → sent_own (party n side x y own) (party n (other side) xo yo others) w (suc r)
      ≡ sent_own (party n side x' y' own') (party n (other side) xo yo others) w' (suc r)
  pub other_same : (w w' : Both) → Roomy n w → Roomy n w' → (r : ℕ) → r < last_round
      → sent_others (party n side x y own) (party n (other side) xo yo others) w (suc r)
      ≡ sent_others (party n side x' y' own') (party n (other side) xo yo others) w' (suc r)
  pub answer : (w w' : Both) → Roomy n w → Roomy n w'
      → answer_others (party n side x y own) (party n (other side) xo yo others) w
      ≡ answer_others (party n side x' y' own') (party n (other side) xo yo others) w'

-- a map on the box's tapes takes tapes dealt by the rules with the other's tape to such tapes that look alike, keeps the trailer, and a
-- second map undoes it on them
pub record Moves (n pair number side x y x' y' xo yo : ℕ) (others : List ℕ) (there back : List ℕ → List ℕ) : Type 0 where
  pub dealt : (own : List ℕ) → Matched n pair number side own others → Matched n pair number side (there own) others
  pub trailer : (own : List ℕ) (k : ℕ) → get_or (there own) (body_length n + k) 0 ≡ get_or own (body_length n + k) 0
  pub undone : (own : List ℕ) → Matched n pair number side own others → back (there own) ≡ own
  pub alike : (own : List ℕ) → Matched n pair number side own others → LooksAlike n side x y x' y' xo yo others own (there own)
