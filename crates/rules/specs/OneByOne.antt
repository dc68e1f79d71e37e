-- One by one (document 02, P9): with no refusal and no cut the jobs that one start takes give what the same jobs give one by one in that order, each on
-- what the call before it left and hearing its own part: the words of every round, the marks, the answer shares. So it is for every count, and for a band
-- (P10), whose answer share is the sum of its two comparisons', less 1 at box 1.
-- Work may hold anything at first. What it holds afterwards may differ, since its layout is the box's own.
use Rattle.std.specs.Prelude.{ℕ, zero, suc, ◌+◌, ◌<◌, ◌≤◌, ◌≡◌, false, List, [], get_or}
use Rattle.lists.specs.Joined.{chained, part}
use Rattle.tape.specs.Layout.{tape_length}
use Rattle.protocol.specs.Rounds.{earlier_rounds, last_round, round_words}
use Rattle.rules.specs.Answers.{Reply, finished, spoken_words}
use Rattle.rules.specs.Tasks.{count_of, pairs_of, answer_count, band_share}
use Rattle.rules.specs.Calls.{Result, start_rule, speak_rule, hear_rule}
use Rattle.rules.specs.AnyCall.{is_refused}
use Rattle.rules.specs.declared.state.Task.{Task}
use Rattle.rules.specs.declared.state.Task.TheVariants.{Compare, Band}
use Rattle.rules.specs.declared.state.State.{State}

-- what the last call left
pub record Left : Type 0 where
  pub state : State
  pub work : List ℕ
  pub tally : List ℕ

-- what a box is lent beside that for the jobs of one start; out and the words that it hears, by round
pub record Lent : Type 0 where
  pub first : ℕ
  pub task : Task
  pub shares : List ℕ
  pub tapes : List ℕ
  pub out : ℕ → List ℕ
  pub incoming : ℕ → List ℕ

-- ---- the run: a start, then in each round a speak and a hear, each on what the call before it left

abbrev pub start_of : Left → Lent → Result
start_of l j = start_rule l.state j.first j.task j.shares j.tapes l.work l.tally

abbrev pub speak_of : Left → Lent → ℕ → Result
speak_of l j round = speak_rule l.state j.first round j.tapes l.work (j.out round)

abbrev pub hear_of : Left → Lent → ℕ → Result
hear_of l j round = hear_rule (speak_of l j round).state j.first round j.tapes l.work (j.incoming round)

-- what is left after so many rounds
unfoldable pub after_rounds : Left → Lent → ℕ → Left
after_rounds l j zero = record { state = (start_of l j).state; work = l.work; tally = (start_of l j).buffer }
after_rounds l j (suc r) =
    let before = after_rounds l j r in
    let heard = hear_of before j (suc r) in
    record { state = heard.state; work = heard.buffer; tally = before.tally }

abbrev pub whole : Left → Lent → Left
whole l j = after_rounds l j last_round

-- the speak and the hear that follow so many rounds
abbrev pub next_speak : Left → Lent → ℕ → Result
next_speak l j r = speak_of (after_rounds l j r) j (suc r)

abbrev pub next_hear : Left → Lent → ℕ → Result
next_hear l j r = hear_of (after_rounds l j r) j (suc r)

-- the words spoken then
abbrev pub words_spoken : Left → Lent → ℕ → List ℕ
words_spoken l j r = spoken_words (next_speak l j r).reply (next_speak l j r).buffer

-- the shares that the last hear answers
abbrev pub shares_in : Reply → List ℕ
shares_in (finished shares) = shares
shares_in _ = []

abbrev pub answers : Left → Lent → List ℕ
answers l j = shares_in (next_hear l j earlier_rounds).reply

-- none of these calls is refused
pub record Goes (l : Left) (j : Lent) : Type 0 where
  pub start : is_refused (start_of l j).reply ≡ false
  pub speak : (r : ℕ) → r < last_round → is_refused (next_speak l j r).reply ≡ false
  pub hear : (r : ℕ) → r < last_round → is_refused (next_hear l j r).reply ≡ false

-- ---- the same jobs one by one

-- job i by itself in a box of width n and that side: a start of one comparison, on its number, with its part of the shares, of the tapes and of what is
-- heard; the same out
abbrev pub alone : ℕ → ℕ → Lent → ℕ → Lent
alone n side j i =
    record {
      first = j.first + i;
      task = Compare 1;
      shares = part 2 (pairs_of side j.task j.shares) i;
      tapes = part (tape_length n) j.tapes i;
      out = j.out;
      incoming = λ round. part (round_words n round) (j.incoming round) i;
    }

-- what is left after the first so many, each on what the one before left
unfoldable pub in_turn : Left → Lent → ℕ → Left
in_turn l j zero = l
in_turn l j (suc i) = whole (in_turn l j i) (alone l.state.n l.state.side j i)

-- what they give
abbrev pub alone_words : Left → Lent → ℕ → ℕ → List ℕ
alone_words l j r i = words_spoken (in_turn l j i) (alone l.state.n l.state.side j i) r

abbrev pub alone_answer : Left → Lent → ℕ → ℕ
alone_answer l j i = get_or (answers (in_turn l j i) (alone l.state.n l.state.side j i)) 0 0

-- answer share i of so many comparisons, or of a band, from what the jobs answer one by one
abbrev pub answer_from : ℕ → ℕ → Task → (ℕ → ℕ) → ℕ → ℕ
answer_from n side (Compare count) each i = each i
answer_from n side (Band low high) each i = band_share n side (each 0) (each 1)

-- ---- the statement

pub record Same (l : Left) (j : Lent) : Type 0 where
  -- none of theirs is refused either
  pub goes : (i : ℕ) → i < count_of j.task → Goes (in_turn l j i) (alone l.state.n l.state.side j i)
  -- a round's words are theirs joined
  pub words : (r : ℕ) → r < last_round → words_spoken l j r ≡ chained (count_of j.task) (alone_words l j r)
  -- the answer shares are theirs in job order, or a band's from its two, and 0 past them
  pub each_answer : (i : ℕ) → i < answer_count j.task → get_or (answers l j) i 0 ≡ answer_from l.state.n l.state.side j.task (alone_answer l j) i
  pub no_more : (i : ℕ) → answer_count j.task ≤ i → get_or (answers l j) i 0 ≡ 0
  -- the same marks, and the same state
  pub tally : (whole l j).tally ≡ (in_turn l j (count_of j.task)).tally
  pub state : (whole l j).state ≡ (in_turn l j (count_of j.task)).state

abbrev pub OneByOne : Type 0
OneByOne = (l : Left) (j : Lent) → Goes l j → Same l j
