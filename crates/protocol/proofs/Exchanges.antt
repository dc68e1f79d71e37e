-- Two whole exchanges side by side: with shares s and a dealt tape, and with s' and the shifted tape. Every message of both boxes is the
-- same, and so is the other box's answer share, whatever work held at first in either.
use Prim.Native.Nat.{ℕ, suc, ◌<◌, ◌≤◌}
use mathlib.Core.Path.{◌≡◌}
use mathlib.Core.Bool.{true}
use mathlib.Core.List.{List}
use native.Mathlib.Omega.{arith}
use lib.ListN.{length}
use Rattle.field.specs.Width.{modulus, listed}
use Rattle.shares.specs.Side.{other}
use Rattle.tape.specs.Dealt.{Matched}
use Rattle.tape.proofs.Dealing.{own_readable}
use Rattle.protocol.specs.Work.{work_length}
use Rattle.protocol.specs.Products.{Party, party}
use Rattle.protocol.specs.Rounds.{earlier_rounds, last_round, message}
use Rattle.protocol.specs.Exchange.{Both, exchanged, sent_own, sent_others, answer_others}
use Rattle.protocol.proofs.ByRound.{by_round}
use Rattle.protocol.proofs.Right.{rooms, counts, levels, sums, wraps, halves}
use Rattle.protocol.proofs.Live.{Live, message_live, after_live, answer_live}
use Rattle.protocol.specs.Change.{Shares, shares_of}
use Rattle.protocol.specs.Shift.{shifted}
use Rattle.protocol.proofs.Rules.{matched_shifted}
use Rattle.protocol.proofs.Paired.{round_1, round_2, round_3, round_4, round_last}

module _ {n pair number side : ℕ} {own others : List ℕ} (m : Matched n pair number side own others) (x y x' y' xo yo : ℕ)
    (ly : y < modulus n) (ly' : y' < modulus n) (lyo : yo < modulus n) (w w' : Both)
    (room : work_length n ≤ length w.own) (room_o : work_length n ≤ length w.others)
    (room' : work_length n ≤ length w'.own) (room_o' : work_length n ≤ length w'.others) where
  abbrev s : Shares
  s = shares_of n side x y xo yo

  abbrev s' : Shares
  s' = shares_of n side x' y' xo yo

  abbrev t : List ℕ
  t = shifted s s' own others

  m' : Matched n pair number side t others
  m' = matched_shifted m x y x' y' xo yo

  abbrev pub own_box : Party
  own_box = party n side x y own

  abbrev pub own_box' : Party
  own_box' = party n side x' y' t

  abbrev pub other_box : Party
  other_box = party n (other side) xo yo others

  l : listed n ≡ true
  l = (own_readable m).width

  -- the two boxes' work, in the first exchange and in the second
  abbrev X : ℕ → Both
  X r = exchanged own_box other_box w r

  abbrev Y : ℕ → Both
  Y r = exchanged own_box' other_box w' r

  -- after r rounds: the other box goes on with the same, and the next messages are the same
  pub record Alike (r : ℕ) : Type 0 where
    pub live : Live n r (X r).others (Y r).others
    pub own_same : message own_box (X r).own (suc r) ≡ message own_box' (Y r).own (suc r)
    pub other_same : message other_box (X r).others (suc r) ≡ message other_box (Y r).others (suc r)

  -- what the other box holds after the next round
  next_live : (r : ℕ) → work_length n ≤ length (X r).others → work_length n ≤ length (Y r).others → Alike r → Live n (suc r) (X (suc r)).others (Y (suc r)).others
  unfolding exchanged
  next_live r room room' h =
      rw h.own_same (after_live other_box l (X r).others (Y r).others (message own_box' (Y r).own (suc r)) room room' r h.live)

  -- a round's record, from the box's own message
  alike : (r : ℕ) → Live n r (X r).others (Y r).others → message own_box (X r).own (suc r) ≡ message own_box' (Y r).own (suc r) → Alike r
  alike r live same = record { live = live; own_same = same; other_same = message_live other_box r (X r).others (Y r).others live }

  pub alike_0 : Alike 0
  unfolding exchanged
  alike_0 = alike 0 tt (round_1 m x y x' y' xo yo w.own w'.own)

  live_1 : Live n 1 (X 1).others (Y 1).others
  unfolding exchanged
  live_1 = next_live 0 room_o room_o' alike_0

  pub alike_1 : Alike 1
  alike_1 =
      alike 1 live_1
      (round_2 m x y x' y' xo yo (X 1).own (Y 1).own (X 1).others (Y 1).others
      (counts m x y xo yo ly lyo w room room_o) (counts m' x' y' xo yo ly' lyo w' room' room_o') live_1.0)

  live_2 : Live n 2 (X 2).others (Y 2).others
  live_2 =
      next_live 1 (rooms m x y xo yo ly lyo w room room_o 1).other (rooms m' x' y' xo yo ly' lyo w' room' room_o' 1).other alike_1

  pub alike_2 : Alike 2
  alike_2 =
      alike 2 live_2
      (round_3 m x y x' y' xo yo (X 2).own (Y 2).own (X 2).others (Y 2).others
      (levels m x y xo yo ly lyo w room room_o) (levels m' x' y' xo yo ly' lyo w' room' room_o') live_2.0)

  live_3 : Live n 3 (X 3).others (Y 3).others
  live_3 =
      next_live 2 (rooms m x y xo yo ly lyo w room room_o 2).other (rooms m' x' y' xo yo ly' lyo w' room' room_o' 2).other alike_2

  pub alike_3 : Alike 3
  alike_3 =
      alike 3 live_3
      (round_4 m x y x' y' xo yo (X 3).own (Y 3).own (X 3).others (Y 3).others
      (sums m x y xo yo ly lyo w room room_o) (sums m' x' y' xo yo ly' lyo w' room' room_o')
      (wraps m x y xo yo ly lyo w room room_o) (wraps m' x' y' xo yo ly' lyo w' room' room_o')
      live_3.0 live_3.1.0)

  live_4 : Live n 4 (X 4).others (Y 4).others
  live_4 =
      next_live 3 (rooms m x y xo yo ly lyo w room room_o 3).other (rooms m' x' y' xo yo ly' lyo w' room' room_o' 3).other alike_3

  pub alike_4 : Alike 4
  alike_4 =
      alike 4 live_4
      (round_last m x y x' y' xo yo (X 4).own (Y 4).own (X 4).others (Y 4).others
      (halves m x y xo yo ly lyo w room room_o) (halves m' x' y' xo yo ly' lyo w' room' room_o') live_4.0)

  -- ---- the theorem

  pub all_alike : (r : ℕ) → r < last_round → Alike r
  all_alike =
      by_round last_round (λ r. r < last_round → Alike r)
      (λ _. alike_0, (λ _. alike_1, (λ _. alike_2, (λ _. alike_3, (λ _. alike_4, λ r less. absurd (omega arith))))))

  pub same_own : (r : ℕ) → r < last_round → sent_own own_box other_box w (suc r) ≡ sent_own own_box' other_box w' (suc r)
  unfolding sent_own
  same_own r less = (all_alike r less).own_same

  pub same_others : (r : ℕ) → r < last_round → sent_others own_box other_box w (suc r) ≡ sent_others own_box' other_box w' (suc r)
  unfolding sent_others
  same_others r less = (all_alike r less).other_same

  pub same_answer : answer_others own_box other_box w ≡ answer_others own_box' other_box w'
  unfolding answer_others
  same_answer =
      rw (same_own earlier_rounds (omega arith))
      (answer_live other_box (X earlier_rounds).others (Y earlier_rounds).others (sent_own own_box' other_box w' last_round) (all_alike earlier_rounds (omega arith)).live)
