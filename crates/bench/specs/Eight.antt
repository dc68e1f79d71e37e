-- Eight comparisons of both boxes, in one go, one by one and by twos (document 02, P9), and as four bands (P10).
use Rattle.std.specs.Prelude.{ℕ, ◌+◌, ◌*◌, ◌/◌, ◌%◌, ◌<◌, ◌≤◌, ◌≡◌, true, List, get_or, replicate, length}
use Rattle.lists.specs.Tabulate.{tabulate}
use Rattle.lists.specs.Joined.{part}
use Rattle.protocol.specs.Sizes.{tape_for}
use Rattle.tally.specs.Tally.{first_marks}
use Rattle.rules.specs.Tasks.{count_of, task_fits, answer_count}
use Rattle.rules.specs.declared.state.Task.{Task}
use Rattle.rules.specs.declared.state.Task.TheVariants.{Compare, Band}
use Rattle.rules.specs.Bits.{right_bit}
use Rattle.exchange.specs.Jobs.{lent, job_of, DealtAt}
use Rattle.bench.specs.declared.eight.Way.{Way}
use Rattle.bench.specs.declared.eight.Way.TheVariants.{Joined, Singly, Pairs, Bands}

-- a box's shares, x and y of the first comparison, then of the next
abbrev pub list : ℕ → ℕ → List ℕ
list from step = tabulate 16 (λ k. (from + step * k) % 7)

-- what each start is asked
abbrev pub task_of : Way → Task
task_of Joined = Compare 8
task_of Singly = Compare 1
task_of Pairs = Compare 2
task_of Bands = Band 2 5

-- shares of its comparisons, in range at every width; a band has the first of them
abbrev pub Small : Task → List ℕ → Type 0
Small task shares = (length shares ≡ 2 * count_of task) × ((k : ℕ) → get_or shares k 0 < 7)

-- the shares of a turn
abbrev pub list1_at : ℕ → List ℕ
list1_at turn = list (turn % 7) 1

abbrev pub list2_at : ℕ → List ℕ
list2_at turn = list (turn / 7 % 7) 3

-- with some memory and tallies a job of pair 1 is not refused, and every bit comes out as the ordinary comparison's does
pub record Right (n first : ℕ) (task : Task) (shares1 shares2 t1 t2 : List ℕ) : Type 0 where
  pub w1 : List ℕ
  pub w2 : List ℕ
  pub k1 : List ℕ
  pub k2 : List ℕ
  pub o1 : List ℕ
  pub o2 : List ℕ
  pub taken : (job_of n 1 first task (lent shares1 t1 w1 k1 o1) (lent shares2 t2 w2 k2 o2)).refusal ≡ 0
  pub bits : (i : ℕ) → i < answer_count task
      → get_or (job_of n 1 first task (lent shares1 t1 w1 k1 o1) (lent shares2 t2 w2 k2 o2)).bits i 0 ≡ right_bit n task shares1 shares2 i

-- start i of a turn has the next shares and tapes
abbrev pub own_shares : Task → List ℕ → ℕ → List ℕ
own_shares task shares i = part (count_of task * 2) shares i

abbrev pub own_tapes : ℕ → Task → List ℕ → ℕ → List ℕ
own_tapes n task tapes i = part (tape_for n (count_of task)) tapes i

-- it comes out right
abbrev pub RightStart : ℕ → Task → List ℕ → List ℕ → List ℕ → List ℕ → ℕ → Type 0
RightStart n task shares1 shares2 t1 t2 i =
    Right n (i * count_of task) task (own_shares task shares1 i) (own_shares task shares2 i) (own_tapes n task t1 i) (own_tapes n task t2 i)

-- and so do all starts of the eight comparisons
abbrev pub RightStarts : Way → ℕ → List ℕ → List ℕ → List ℕ → List ℕ → Type 0
RightStarts way n shares1 shares2 t1 t2 = (i : ℕ) → i < 8 / count_of (task_of way) → RightStart n (task_of way) shares1 shares2 t1 t2 i

-- with the shares of a turn
unfoldable pub RightTurn : Way → ℕ → List ℕ → List ℕ → ℕ → Type 0
RightTurn way n t1 t2 turn = RightStarts way n (list1_at turn) (list2_at turn) t1 t2

-- both boxes' tapes of so many numbers, dealt by the rules
pub record AllDealt (n first count : ℕ) (t1 t2 : List ℕ) : Type 0 where
  pub long1 : length t1 ≡ tape_for n count
  pub long2 : length t2 ≡ tape_for n count
  pub dealt : (i : ℕ) → i < count → DealtAt n 1 first t1 t2 i

-- a tally of eight tapes of which the first so many are spent
abbrev pub marks : ℕ → List ℕ
marks count = first_marks (replicate 32 255) 0 count

-- a job in range, on the tapes that both tallies have next
pub record Next (n first : ℕ) (task : Task) (t1 t2 k1 k2 : List ℕ) : Type 0 where
  pub fits : task_fits n task ≡ true
  pub within : first + count_of task ≤ 8
  pub dealt : AllDealt n first (count_of task) t1 t2
  pub spent1 : k1 ≡ marks first
  pub spent2 : k2 ≡ marks first
