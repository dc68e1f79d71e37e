-- The premises of demand 3 are not empty: lists at width 3 that meet them, on the plain tapes, in which both boxes start and finish a job. In one the
-- board spells every zero as p, in one a start takes two jobs, in one it takes a band, in four the power fails in the marks of a start, of comparisons
-- or of a band. Nor is the law for the depots: lists in which box 1 starts twice, upwards, downwards and onto a number that is taken. And lists that do
-- not meet them: a box takes a message of another kind of job on the same tapes, since it has no ground against that (document 02, P10).
use Rattle.std.specs.Prelude.{ℕ, zero, suc, ◌+◌, ◌*◌, ◌%◌, ◌<◌, ◌≡◌, Bool, true, false, cond, eqb}
use Rattle.std.specs.Prelude.{List, [], ◌∷◌, ◌++◌, get_or, take, replicate}
use Rattle.field.specs.Width.{modulus}
use Rattle.tape.specs.Plain.{plain_tape}
use Rattle.protocol.specs.Work.{work_length}
use Rattle.protocol.specs.Rounds.{earlier_rounds, last_round}
use Rattle.protocol.specs.Sizes.{round_for}
use Rattle.tally.specs.Tally.{Mark, mark_bytes, is_fresh}
use Rattle.rules.specs.Answers.{started, heard, finished, refused}
use Rattle.rules.specs.Tasks.{count_of, answer_count}
use Rattle.rules.specs.Grounds.{start_ground}
use Rattle.rules.specs.Batches.{no_batch}
use Rattle.rules.specs.Bits.{right_bit}
use Rattle.rules.specs.declared.state.Task.{Task}
use Rattle.rules.specs.declared.state.Task.TheVariants.{Compare, Band}
use Rattle.rules.specs.declared.state.Phase.TheVariants.{Asleep}
use Rattle.guarantees.specs.Boxes.{Box, box1, box2, side_of, other_box}
use Rattle.guarantees.specs.Keys.{Key, job_key}
use Rattle.guarantees.specs.Entries.{dealt, spoken_at, Step, wake, start, speak, hear, drop, cut_start, Entry}
use Rattle.guarantees.specs.Run.{Lending, Said, Setting, replied, Event, World, event_at, tape_words, run}
use Rattle.guarantees.specs.Premises.{Meets}
use Rattle.guarantees.specs.Comparison.{TapeSet, Valid, Common, Loose, world_of, setting_of, Premises}
use Rattle.guarantees.specs.Correctness.{Happened}

abbrev pub pair_number : ℕ
pair_number = 5

-- what the start at a place asks
abbrev pub Asks : Type 0
Asks = ℕ → Task

-- the shares for a start of two comparisons, of one, or of a band
abbrev pub by_task : Task → (two one band : Lending) → Lending
by_task (Compare count) two one band = cond (eqb count 2) two one
by_task (Band low high) two one band = band

-- modulo 7 x = 5 + 5 is 3 and y = 1 + 3 is 4 in a start's only comparison and in the second of two; in the first of two x = 4 + 2 and y = 6 + 0 are 6. In a
-- band a = 5 + 5 is 3
abbrev pub shares_of : Asks → Box → ℕ → Lending
shares_of asks box1 place = by_task (asks place) (4 ∷ 6 ∷ 5 ∷ 1 ∷ []) (5 ∷ 1 ∷ []) (5 ∷ [])
shares_of asks box2 place = by_task (asks place) (2 ∷ 0 ∷ 5 ∷ 3 ∷ []) (5 ∷ 3 ∷ []) (5 ∷ [])

-- the second shares of the box that is to stay hidden
abbrev pub shares_anew : Asks → ℕ → Lending
shares_anew asks place = by_task (asks place) (3 ∷ 3 ∷ 0 ∷ 6 ∷ []) (0 ∷ 6 ∷ []) (6 ∷ [])

abbrev pub plain_set : Box → TapeSet
plain_set b number n = plain_tape n pair_number (side_of b) number

-- room to work on two jobs
abbrev pub room : ℕ
room = 2 * work_length 3

-- both boxes asleep, with that room and two fresh tapes
abbrev pub plain_common : Asks → List Entry → Box → Common
plain_common asks entries b =
    record {
      entries = entries;
      states = λ c. record { n = 0; side = 0; pair = 0; tally = 0; phase = Asleep; batch = no_batch };
      tallies = λ c. replicate (2 * mark_bytes) 255;
      rooms = λ c. room;
      pair = pair_number;
      others = plain_set (other_box b);
      lendings = shares_of asks (other_box b);
    }

-- zeros in work; the board respells every zero, or none
abbrev pub zeros : Bool → Loose
zeros respells = record { works = λ c k. 0; leftovers = λ place k. 0; board = λ place k. respells }

-- ---- lists

infixl 10 ◌does◌
abbrev pub ◌does◌ : Box → Step → Entry
b does s = record { box = b; step = s }

abbrev pub wakes : Box → Entry
wakes b = b does wake 3 (side_of b) pair_number

-- of a start that takes so many tapes from a first number on: a round from a place of the list on, in which both speak, then both hear
abbrev pub round_from : (place first count round : ℕ) → List Entry
round_from place first count round =
    let out : List ℕ = replicate (round_for 3 count round) 0 in
    (box1 does speak first round (dealt box1 first count 3) out)
    ∷ (box2 does speak first round (dealt box2 first count 3) out)
    ∷ (box1 does hear first round (dealt box1 first count 3) (spoken_at (place + 1)))
    ∷ (box2 does hear first round (dealt box2 first count 3) (spoken_at place))
    ∷ []

-- the rounds up to one, from a place on: four entries each
abbrev pub rounds_from : (place first count round : ℕ) → List Entry
rounds_from place first count zero = []
rounds_from place first count (suc r) = rounds_from place first count r ++ round_from (place + 4 * r) first count (suc r)

-- both start, and all their rounds, from a place on
abbrev pub job_from : (place first : ℕ) → Task → List Entry
job_from place first task =
    (box1 does start first task (dealt box1 first (count_of task) 3))
    ∷ (box2 does start first task (dealt box2 first (count_of task) 3))
    ∷ rounds_from (place + 2) first (count_of task) last_round

-- where the boxes hear the last round then, one after the other
abbrev pub last_hears : ℕ → ℕ
last_hears place = place + 2 + 4 * earlier_rounds + 2

-- a mark of four bytes FF
abbrev pub unmarked : Mark
unmarked = record { first = 255; second = 255; third = 255; fourth = 255 }

-- the power fails in the mark of job `at` of such a start of box 1, which leaves FF in all four bytes, and a word more in work
abbrev pub cut_unmarked : Task → (at : ℕ) → Entry
cut_unmarked task at = box1 does cut_start 0 task (dealt box1 0 (count_of task) 3) at unmarked (room + 1)

-- ---- a list and what it comes to

pub record Case : Type 0 where
  pub entries : List Entry
  -- what the starts ask, which says what shares they are lent
  pub asks : Asks
  -- the board spells every zero as p, or none
  pub respells : Bool
  -- box 1's start of the job that both finish stands at this place, box 2's at the next one, and the job is known by this
  pub opened : ℕ
  pub key : Key
  -- the answers of box 1 and of box 2
  pub answers1 : List ℕ
  pub answers2 : List ℕ

-- a word for each of eight jobs: two, and 0 past them
abbrev pub two_answers : ℕ → ℕ → List ℕ
two_answers v v' = v ∷ v' ∷ replicate 6 0

-- both boxes do a whole job, with the zeros on the line as they were spoken, or spelled p
abbrev pub one_job : Bool → Task → (answers1 answers2 : List ℕ) → Case
one_job respells task answers1 answers2 =
    record {
      entries = wakes box1 ∷ wakes box2 ∷ job_from 2 0 task;
      asks = λ place. task;
      respells = respells;
      opened = 2;
      key = job_key 0 task 3;
      answers1 = answers1;
      answers2 = answers2;
    }

-- at first the power fails in the mark of job `at` of a start of box 1; the later job is another, from a first number on
abbrev pub job_after_cut : Task → (at first : ℕ) → Task → (answers1 answers2 : List ℕ) → Case
job_after_cut lost at first task answers1 answers2 =
    record {
      entries = wakes box1 ∷ wakes box2 ∷ cut_unmarked lost at ∷ wakes box1 ∷ job_from 4 first task;
      asks = λ place. cond (eqb place 2) lost task;
      respells = false;
      opened = 4;
      key = job_key first task 3;
      answers1 = answers1;
      answers2 = answers2;
    }

unfoldable pub whole : Case
whole = one_job false (Compare 1) (two_answers 1 0) (two_answers 0 0)

unfoldable pub respelled : Case
respelled = one_job true (Compare 1) (two_answers 1 0) (two_answers 0 0)

-- the power fails in the only mark; the later job is on that very tape
unfoldable pub again : Case
again = job_after_cut (Compare 1) 0 0 (Compare 1) (two_answers 1 0) (two_answers 0 0)

-- one start takes two jobs
unfoldable pub joined : Case
joined = one_job false (Compare 2) (two_answers 0 1) (two_answers 0 0)

-- the power fails between the two marks of a start of two jobs; the later job is on the second tape alone
unfoldable pub between : Case
between = job_after_cut (Compare 2) 1 1 (Compare 1) (two_answers 1 0) (two_answers 0 0)

-- is a in the band from 2 to 5
abbrev pub two_to_five : Task
two_to_five = Band 2 5

-- a whole band: one answer
unfoldable pub banded : Case
banded = one_job false two_to_five (two_answers 6 0) (two_answers 2 0)

-- the power fails in the first mark of a band's start; the later band is on those very tapes
unfoldable pub band_again : Case
band_again = job_after_cut two_to_five 0 0 two_to_five (two_answers 6 0) (two_answers 2 0)

-- it fails in the second one; the later job is on the second tape alone
unfoldable pub band_between : Case
band_between = job_after_cut two_to_five 1 1 (Compare 1) (two_answers 1 0) (two_answers 0 0)

-- box b being the one to stay hidden
abbrev pub common_in : Case → Box → Common
common_in k b = plain_common k.asks k.entries b

abbrev pub setting_in : Case → Box → Setting
setting_in k b = setting_of (common_in k b) b (plain_set b) (shares_of k.asks b) (zeros k.respells)

abbrev pub world_in : Case → Box → World
world_in k b = world_of (common_in k b) (zeros k.respells)

-- the run of entries at the front of the list
abbrev pub run_in : Case → Box → List Entry → World
run_in k b entries = run (setting_in k b) 0 (world_in k b) entries

abbrev pub log_in : Case → Box → List Event
log_in k b = (run_in k b k.entries).log

-- whichever box is to stay hidden: the list meets the premises, and both boxes start the job and answer with their last hears
pub record Possible (k : Case) (b : Box) : Type 0 where
  pub valid : Valid (common_in k b) b (plain_set b)
  pub premises : Premises (common_in k b) b (shares_of k.asks b) (shares_anew k.asks) (plain_set b) (zeros k.respells)
  pub start1 : Happened (log_in k b) k.opened box1 k.key (replied started)
  pub start2 : Happened (log_in k b) (k.opened + 1) box2 k.key (replied started)
  pub answer1 : Happened (log_in k b) (last_hears k.opened) box1 k.key (replied (finished k.answers1))
  pub answer2 : Happened (log_in k b) (last_hears k.opened + 1) box2 k.key (replied (finished k.answers2))

-- the sum of the two answers is the bit of x < y in each comparison, or of the band
abbrev pub RightSumIn : Case → Type 0
RightSumIn k =
    (i : ℕ) → i < answer_count k.key.task
    → (get_or k.answers1 i 0 + get_or k.answers2 i 0) % modulus 3
    ≡ right_bit 3 k.key.task (shares_of k.asks box1 k.opened) (shares_of k.asks box2 (k.opened + 1)) i

pub record RightSum : Type 0 where
  pub in_whole : RightSumIn whole
  pub in_respelled : RightSumIn respelled
  pub in_again : RightSumIn again
  pub in_joined : RightSumIn joined
  pub in_between : RightSumIn between
  pub in_banded : RightSumIn banded
  pub in_band_again : RightSumIn band_again
  pub in_band_between : RightSumIn band_between

-- the third entry being such a cut, the power did fail in a mark: that start had passed its checks. After it tape 0 is fresh or not, and tape 1 is
pub record CutIn (k : Case) (fresh0 : Bool) : Type 0 where
  pub passed :
      let m = (run_in k box1 (take 2 k.entries)).memory1 in
      let task = k.asks 2 in
      start_ground m.state 0 task (shares_of k.asks box1 2) (tape_words (setting_in k box1) (dealt box1 0 (count_of task) 3)) m.work m.tally ≡ 0
  pub tape0 : is_fresh (run_in k box1 (take 3 k.entries)).memory1.tally 0 ≡ fresh0
  pub tape1 : is_fresh (run_in k box1 (take 3 k.entries)).memory1.tally 1 ≡ true

-- in the only mark, which stays FF: both tapes are as fresh as before. In the second of two: the first tape is spent
pub record CutInMark : Type 0 where
  pub in_again : CutIn again true
  pub in_between : CutIn between false
  pub in_band_again : CutIn band_again true
  pub in_band_between : CutIn band_between false

-- where the board respells, it did: in the first round each box hears a 7, which none speaks
abbrev pub ZerosRespelled : Type 0
ZerosRespelled =
    let log = log_in respelled box1 in
    (get_or (event_at log 6).incoming 27 0 ≡ 7) × (get_or (event_at log 7).incoming 28 0 ≡ 7)

-- ---- lists by themselves, box 1 being the one to stay hidden: what their runs are given, the world at first, and the log

abbrev pub setting_for : Asks → Setting
setting_for asks = setting_of (plain_common asks [] box1) box1 (plain_set box1) (shares_of asks box1) (zeros false)

abbrev pub world_at_first : World
world_at_first = world_of (plain_common (λ place. Compare 0) [] box1) (zeros false)

abbrev pub log_for : Asks → List Entry → List Event
log_for asks entries = (run (setting_for asks) 0 world_at_first entries).log

-- ---- two starts

-- box 1 opens a job, drops it and starts another
unfoldable pub starts_twice : (first : ℕ) → Task → (first' : ℕ) → Task → List Entry
starts_twice first task first' task' =
    wakes box1
    ∷ (box1 does start first task (dealt box1 first (count_of task) 3))
    ∷ (box1 does drop)
    ∷ (box1 does start first' task' (dealt box1 first' (count_of task') 3))
    ∷ []

-- what its two starts come to: the events 1 and 3
abbrev pub said_twice : (first : ℕ) → Task → (first' : ℕ) → Task → Said × Said
said_twice first task first' task' =
    let log = log_for (λ place. cond (eqb place 1) task task') (starts_twice first task first' task') in
    ((event_at log 1).said, (event_at log 3).said)

-- upwards both jobs are opened; downwards the second number is late. A start of two comparisons takes both numbers, and so does a band's, so where one of two
-- starts takes two, a number that both name is spent at the second
pub record UpAndDown : Type 0 where
  pub up : said_twice 0 (Compare 1) 1 (Compare 1) ≡ (replied started, replied started)
  pub down : said_twice 1 (Compare 1) 0 (Compare 1) ≡ (replied started, replied (refused 15))
  pub onto_first : said_twice 0 (Compare 1) 0 (Compare 2) ≡ (replied started, replied (refused 8))
  pub onto_second : said_twice 0 (Compare 2) 1 (Compare 1) ≡ (replied started, replied (refused 8))
  pub onto_band : said_twice 0 two_to_five 1 (Compare 1) ≡ (replied started, replied (refused 8))

-- ---- a message of another kind of job on the same tapes

-- box 1 starts one job on two tapes, box 2 another; both speak round 1
unfoldable pub mixed : Task → Task → List Entry
mixed task1 task2 =
    let out : List ℕ = replicate (round_for 3 2 1) 0 in
    wakes box1
    ∷ wakes box2
    ∷ (box1 does start 0 task1 (dealt box1 0 2 3))
    ∷ (box2 does start 0 task2 (dealt box2 0 2 3))
    ∷ (box1 does speak 0 1 (dealt box1 0 2 3) out)
    ∷ (box2 does speak 0 1 (dealt box2 0 2 3) out)
    ∷ []

-- and box 2 hears what box 1 spoke
abbrev pub mixed_heard : Task → Task → List Entry
mixed_heard task1 task2 = mixed task1 task2 ++ ((box2 does hear 0 1 (dealt box2 0 2 3) (spoken_at 4)) ∷ [])

-- what its two starts ask
abbrev pub mixed_asks : Task → Task → Asks
mixed_asks task1 task2 place = cond (eqb place 2) task1 task2

abbrev pub MeetsFor : Asks → List Entry → Type 0
MeetsFor asks entries = Meets (setting_for asks) 0 world_at_first entries

-- box 2 takes it, since no ground is against it; but the list does not meet the premises, which it meets without that hear
pub record TakenThough (task1 task2 : Task) : Type 0 where
  pub taken : (event_at (log_for (mixed_asks task1 task2) (mixed_heard task1 task2)) 6).said ≡ replied heard
  pub before : MeetsFor (mixed_asks task1 task2) (mixed task1 task2)
  pub not_met : MeetsFor (mixed_asks task1 task2) (mixed_heard task1 task2) → ⊥

abbrev pub one_to_five : Task
one_to_five = Band 1 5

-- a joined pair's message lent to a band, a band's lent to a joined pair, and one of a band with other bounds
pub record OtherKinds : Type 0 where
  pub pair_to_band : TakenThough (Compare 2) two_to_five
  pub band_to_pair : TakenThough two_to_five (Compare 2)
  pub other_bounds : TakenThough two_to_five one_to_five
