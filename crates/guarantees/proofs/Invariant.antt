-- The invariant of one run: in a job, what work holds of the rounds heard so far is what the job's exchanges give, and so are every message
-- spoken and all answer shares. Two boxes can be in jobs that share a number and are not the same job; then no message of either is true, so what
-- follows a round that was heard says that the other box opened the job too.
use Prim.Native.Nat.{ℕ, zero, suc, ◌+◌, ◌<◌, ◌≤◌}
use mathlib.Core.Path.{◌≡◌, refl, sym, ap, ap₂, subst, ◌∙◌}
use mathlib.Core.Bool.{Bool, true, false, cond}
use mathlib.Core.List.{List, [], ◌∷◌, ◌++◌}
use native.Mathlib.Nat.{le_of_eq, le_trans}
use native.Mathlib.Omega.{arith}
use borrow.Author.Tests.{eqb-true}
use lib.Dec.{eqb}
use lib.ListN.{length, get_or}
use Rattle.lists.proofs.Joined.{chained_same, within, length_part}
use Rattle.field.specs.Width.{listed, modulus}
use Rattle.tape.proofs.Keys.{order_key}
use Rattle.protocol.specs.Work.{work_length}
use Rattle.protocol.specs.Rounds.{earlier_rounds, last_round, answer_share}
use Rattle.protocol.specs.Sizes.{count_fits, work_for}
use Rattle.protocol.proofs.Live.{Live, message_live, after_live, answer_live}
use Rattle.rules.specs.Answers.{heard, finished, spoken_words}
use Rattle.rules.specs.Tasks.{count_of, pairs_of}
use Rattle.rules.specs.Modes.{round_of, in_range, mode_of, is_asleep, in_phase}
use Rattle.rules.specs.Batches.{x_in, y_in, no_batch, tape_part, work_part, words_part, party_of, joined_message, joined_after, answers_given, answer_shares}
use Rattle.rules.specs.Grounds.{wake_ground, start_ground, speak_ground, hear_ground, drop_ground}
use Rattle.rules.specs.Calls.{Result, wake_rule, start_rule, speak_rule, heard_after, hear_rule, drop_rule}
use Rattle.rules.specs.declared.state.Task.{Task}
use Rattle.rules.specs.declared.state.Turn.{Turn}
use Rattle.rules.specs.declared.state.Turn.TheVariants.{Speak, Hear}
use Rattle.rules.specs.declared.state.Phase.{Phase}
use Rattle.rules.specs.declared.state.Phase.TheVariants.{Asleep, Idle, Job}
use Rattle.rules.specs.declared.state.State.{State}
use Rattle.guarantees.specs.Boxes.{Box, box1, box2, side_of, other_box}
use Rattle.guarantees.specs.Keys.{Key, job_key, key_at}
use Rattle.guarantees.specs.Outcomes.{Kind, opening, message, answer, plain, kind_of}
use Rattle.guarantees.specs.Entries.{Lent, dealt, Incoming, Step, wake, start, speak, hear, drop, cut, cut_start}
use Rattle.guarantees.specs.Run.{Lending, Setting, Memory, Said, replied, Event, World, memory_of, after, after_start, after_cut, cut_said, event_at, tape_words, line_words, incoming_words, stepped}
use Rattle.guarantees.specs.Premises.{TrueMessage, Keeps}
use Rattle.guarantees.specs.Jobs.{party_at, sent_in, answer_in, sent_by, answers_by}
use Rattle.guarantees.proofs.Outcomes.{cut_plain}
use Rattle.guarantees.proofs.Logs.{turn_event}
use Rattle.guarantees.proofs.Deliveries.{ground_lent, rule_lent}
use Rattle.guarantees.proofs.Jobs.{InOrder, dealt_part, own_key, pairs_at, holding, sent_is, holding_next, answer_is, holding_room, sent_part}
use Rattle.rules.proofs.Batches.{count_most, each_same, batch_x, batch_y}
use Rattle.rules.proofs.Spoken.{spoken_front, joined_after_length, after_part}
use Rattle.rules.proofs.Decide.{decide}
use Rattle.rules.proofs.Ranges.{awake_mode}
use Rattle.rules.proofs.Passed.{start_passed, TurnPassed, speak_passed, hear_passed}

-- the shares that opened each job, and which jobs each box opened
module _ (g : Setting) (book : Box → Key → Lending) (Known : Box → Key → Type 0) where
  -- ---- what holds of one box

  -- in a job whose turn has that round: so many rounds were heard, and if any was, the other box opened the job too
  pub record InJob (b : Box) (s : State) (work : List ℕ) (turn : Turn) : Type 0 where
    pub own : Known b (own_key s)
    pub x_is : (i : ℕ) → i < count_of s.batch.task → get_or s.batch.x i 0 ≡ x_in (pairs_of s.side s.batch.task (book b (own_key s))) i
    pub y_is : (i : ℕ) → i < count_of s.batch.task → get_or s.batch.y i 0 ≡ y_in (pairs_of s.side s.batch.task (book b (own_key s))) i
    pub room : work_for s.n (count_of s.batch.task) ≤ length work
    pub heard : ℕ
    pub count : round_of turn ≡ suc heard
    pub met : 0 < heard → Known (other_box b) (own_key s)
    pub live : (i : ℕ) → i < count_of s.batch.task → Live s.n heard (work_part s.n work i) (holding g.tapes book b (own_key s) i heard)

  abbrev pub Phased : Box → State → List ℕ → Phase → Type 0
  Phased b s work Asleep = Unit {0}
  Phased b s work Idle = Unit {0}
  Phased b s work (Job turn) = InJob b s work turn

  pub record Holds (b : Box) (m : Memory) : Type 0 where
    pub holds : Phased b m.state m.work (mode_of m.state)

  -- ---- what holds of the log

  -- a message spoken is the exchanges', in one of the five rounds of a listed width
  pub record Uttered (e : Event) : Type 0 where
    pub width : listed e.key.width ≡ true
    pub heard : ℕ
    pub round_is : e.round ≡ suc heard
    pub early : heard < last_round
    pub own : Known e.box e.key
    pub met : 0 < heard → Known (other_box e.box) e.key
    pub words : e.spoken ≡ sent_by g.tapes book e.box e.key e.round

  -- and so are answer shares
  pub record Answered (e : Event) : Type 0 where
    pub values : List ℕ
    pub said_is : e.said ≡ replied (finished values)
    pub width : listed e.key.width ≡ true
    pub own : Known e.box e.key
    pub met : Known (other_box e.box) e.key
    pub is : values ≡ answers_by g.tapes book e.box e.key
    pub y_fits : (i : ℕ) → i < count_of e.key.task → y_in (pairs_at book e.box e.key) i < modulus e.key.width
    pub counted : count_fits (count_of e.key.task) ≡ true
    pub silent : e.spoken ≡ []

  abbrev pub Conforms : Event → Kind → Type 0
  Conforms e opening = e.spoken ≡ []
  Conforms e message = Uttered e
  Conforms e answer = Answered e
  Conforms e plain = e.spoken ≡ []

  pub record Invariant (w : World) : Type 0 where
    pub each : (b : Box) → Holds b (memory_of w b)
    pub events : (k : ℕ) → Conforms (event_at w.log k) (kind_of (event_at w.log k).said)

  -- a start that is not refused finds its shares of x and y by the book, and its job among those that its box opened
  abbrev pub Booked : ℕ → World → Box → Step → Type 0
  Booked place w b (wake n side p) = Unit {0}
  Booked place w b (start first task lent) =
      start_ground (memory_of w b).state first task (g.shares b place) (tape_words g lent) (memory_of w b).work (memory_of w b).tally ≡ 0
      → ((side : ℕ) → pairs_of side task (book b (job_key first task (memory_of w b).state.n)) ≡ pairs_of side task (g.shares b place))
      × Known b (job_key first task (memory_of w b).state.n)
  Booked place w b (speak first round lent out) = Unit {0}
  Booked place w b (hear first round lent incoming) = Unit {0}
  Booked place w b drop = Unit {0}
  Booked place w b (cut room) = Unit {0}
  Booked place w b (cut_start first task lent at mark room) = Unit {0}

  -- ---- a phase that is settled

  settle : (b : Box) (s : State) (work : List ℕ) → Phased b s work s.phase → Phased b s work (mode_of s)
  unfolding mode_of
  settle b s work h = go (in_range s)
    where
      go : (t : Bool) → Phased b s work (cond t s.phase Asleep)
      go true = h
      go false = tt

  awake_phase : (b : Box) (m : Memory) → Holds b m → is_asleep (mode_of m.state) ≡ false → Phased b m.state m.work m.state.phase
  awake_phase b m h awake = subst (Phased b m.state m.work) (awake_mode m.state awake) h.holds

  cut_holds : (b : Box) (place room : ℕ) (m : Memory) (tally : List ℕ) → Holds b (after_cut g place room m tally)
  cut_holds b place room m tally = record { holds = settle b _ _ tt }

  -- a box keeps what it held
  kept : (b : Box) (m : Memory) (tally : List ℕ) → Holds b m → Holds b (record { state = m.state; work = m.work; tally = tally })
  kept b m tally h = record { holds = h.holds }

  -- ---- wake

  wake_holds : (b : Box) (m : Memory) (n side p : ℕ) → Holds b m
      → Holds b (record { state = (wake_rule m.state n side p m.tally).state; work = m.work; tally = m.tally })
  unfolding wake_rule
  wake_holds b m n side p h =
      decide (λ r. Holds b (record { state = r.state; work = m.work; tally = m.tally })) (wake_ground m.state n side m.tally) m.state m.tally _
      (λ zero_ground. record { holds = settle b _ m.work tt })
      (kept b m m.tally h)

  -- ---- start

  start_holds : (b : Box) (m : Memory) (first : ℕ) (task : Task) (v : Lending) (tapes : List ℕ) → Holds b m
      → (start_ground m.state first task v tapes m.work m.tally ≡ 0
      → ((side : ℕ) → pairs_of side task (book b (job_key first task m.state.n)) ≡ pairs_of side task v) × Known b (job_key first task m.state.n))
      → Holds b (after_start m (start_rule m.state first task v tapes m.work m.tally))
  unfolding start_rule
  start_holds b m first task v tapes h booked =
      decide (λ r. Holds b (after_start m r)) (start_ground m.state first task v tapes m.work m.tally) m.state m.tally _
      (λ zero_ground.
      let p = start_passed m.state first task v tapes m.work m.tally zero_ground in
      let e = booked zero_ground in
      record {
        holds =
            settle b _ m.work
            (record {
              own = e.1;
              x_is = λ i less. batch_x first task _ i p.counted less ∙ ap (λ (q : List ℕ). x_in q i) (sym (e.0 m.state.side));
              y_is = λ i less. batch_y first task _ i p.counted less ∙ ap (λ (q : List ℕ). y_in q i) (sym (e.0 m.state.side));
              room = p.room;
              heard = 0;
              count = refl;
              met = λ some. absurd (omega arith);
              live = λ i less. tt;
            });
      })
      (kept b m m.tally h)

  -- ---- drop

  drop_holds : (b : Box) (m : Memory) → Holds b m → Holds b (record { state = (drop_rule m.state).state; work = m.work; tally = m.tally })
  unfolding drop_rule
  drop_holds b m h =
      decide (λ r. Holds b (record { state = r.state; work = m.work; tally = m.tally })) (drop_ground m.state) m.state [] _
      (λ zero_ground. record { holds = settle b _ m.work tt })
      (kept b m m.tally h)

  -- ---- the job that a speak or a hear goes on with

  record Going (b : Box) (m : Memory) (turn : Turn) (tapes : List ℕ) : Type 0 where
    inside : InJob b m.state m.work turn
    width : listed m.state.n ≡ true
    counted : count_fits (count_of m.state.batch.task) ≡ true
    early : inside.heard < last_round
    y_fits : (i : ℕ) → i < count_of m.state.batch.task → y_in (pairs_at book b (own_key m.state)) i < modulus m.state.n
    side_is : m.state.side ≡ side_of b
    party_is : (i : ℕ) → i < count_of m.state.batch.task → party_of m.state tapes i ≡ party_at g.tapes book b (own_key m.state) i

  -- a dealt tape is in order for no side but its box's
  going : (pair : ℕ) (orders : InOrder g pair) (b : Box) (m : Memory) (first : ℕ) (turn : Turn) (lent : Lent) → Holds b m
      → TurnPassed m.state first turn (tape_words g lent) → lent ≡ dealt b first (count_of m.state.batch.task) m.state.n
      → Going b m turn (tape_words g lent)
  going pair orders b m first turn lent h p named =
      record {
        inside = inside;
        width = l;
        counted = p.range.counted;
        early = omega (arith, p.range.last, inside.count);
        y_fits = λ i less. rw (← (own i less).1) (p.range.y_fits i less);
        side_is = side 0 (count_most (count_of s.batch.task) p.range.counted).0;
        party_is = λ i less. rw ((own i less).0, (own i less).1, side i less, tape i less) refl;
      }
    where
      s : State
      s = m.state

      l : listed s.n ≡ true
      l = p.sound.width

      inside : InJob b s m.work turn
      inside = subst (Phased b s m.work) p.due.job (awake_phase b m h p.awake)

      tape : (i : ℕ) → i < count_of s.batch.task → tape_part s.n (tape_words g lent) i ≡ g.tapes b (s.batch.first + i) s.n
      tape i less =
          let count = count_of s.batch.task in
          ap (λ (words : List ℕ). tape_part s.n words i)
          (ap (tape_words g) (named ∙ ap (λ (k : ℕ). dealt b k count s.n) p.due.first_is) ∙ rw l refl)
          ∙ dealt_part g pair orders b s.batch.first s.n l count i less

      side : (i : ℕ) → i < count_of s.batch.task → s.side ≡ side_of b
      side i less =
          let number = s.batch.first + i in
          (order_key s.n s.pair s.side number s.n pair (side_of b) number (g.tapes b number s.n)
          (rw (← tape i less) (p.ordered i less)) (orders b number s.n l)).side_is

      -- so its shares are those that the job's task gives at its box
      own : (i : ℕ) → i < count_of s.batch.task
          → (get_or s.batch.x i 0 ≡ x_in (pairs_at book b (own_key s)) i) × (get_or s.batch.y i 0 ≡ y_in (pairs_at book b (own_key s)) i)
      own i less = rw (← side i less) (inside.x_is i less, inside.y_is i less)

  -- ---- speak

  -- the state goes on to hear, and the words are the exchanges'
  pub record Spoken (b : Box) (m : Memory) (first round : ℕ) (r : Result) : Type 0 where
    pub holds : Holds b (record { state = r.state; work = m.work; tally = m.tally })
    pub words : Conforms (turn_event b m first round r (spoken_words r.reply r.buffer) []) (kind_of (replied r.reply))

  message_is : (b : Box) (m : Memory) (round : ℕ) (tapes : List ℕ) → Going b m (Speak round) tapes
      → joined_message m.state tapes m.work round ≡ sent_by g.tapes book b (own_key m.state) round
  unfolding joined_message
  message_is b m round tapes j =
      let i = j.inside in
      let key = own_key m.state in
      chained_same (count_of m.state.batch.task) _ _
      (λ k less.
      rw (j.party_is k less, i.count)
      (message_live (party_at g.tapes book b key k) i.heard (work_part m.state.n m.work k) (holding g.tapes book b key k i.heard) (i.live k less)
      ∙ sym (sent_is g.tapes book b key k i.heard)))

  speak_holds : (pair : ℕ) (orders : InOrder g pair) (b : Box) (m : Memory) (first round : ℕ) (lent : Lent) (out : List ℕ) → Holds b m
      → (speak_ground m.state first round (tape_words g lent) m.work out ≡ 0 → lent ≡ dealt b first (count_of m.state.batch.task) m.state.n)
      → Spoken b m first round (speak_rule m.state first round (tape_words g lent) m.work out)
  unfolding speak_rule
  speak_holds pair orders b m first round lent out h keeps =
      decide (Spoken b m first round) (speak_ground m.state first round (tape_words g lent) m.work out) m.state out _
      (λ zero_ground.
      let p = speak_passed m.state first round (tape_words g lent) m.work out zero_ground in
      let j = going pair orders b m first (Speak round) lent h p.turn (keeps zero_ground) in
      let i = j.inside in
      rw p.turn.due.first_is
      (record {
        holds = record {
          holds =
              settle b _ m.work
              (record {
                own = i.own;
                x_is = i.x_is;
                y_is = i.y_is;
                room = i.room;
                heard = i.heard;
                count = i.count;
                met = i.met;
                live = i.live;
              });
        };
        words = record {
          width = j.width;
          heard = i.heard;
          round_is = i.count;
          early = j.early;
          own = i.own;
          met = i.met;
          words = spoken_front m.state (tape_words g lent) m.work out round p.out_room ∙ message_is b m round (tape_words g lent) j;
        };
      }))
      (record { holds = kept b m m.tally h; words = refl })

  -- ---- hear

  -- `lent` is what the event has of the words
  pub record Heard (b : Box) (m : Memory) (first round : ℕ) (lent : List ℕ) (r : Result) : Type 0 where
    pub holds : Holds b (record { state = r.state; work = r.buffer; tally = m.tally })
    pub answer : Conforms (turn_event b m first round r [] lent) (kind_of (replied r.reply))

  -- what is heard is the other box's message, which opened the job too
  record OtherSent (b : Box) (key : Key) (round : ℕ) (words : List ℕ) : Type 0 where
    words_are : words ≡ sent_by g.tapes book (other_box b) key round
    opened : Known (other_box b) key

  module _ (b : Box) (m : Memory) (round : ℕ) (tapes incoming : List ℕ) (j : Going b m (Hear round) tapes)
      (o : OtherSent b (own_key m.state) round incoming) where
    -- each job's part of it
    part_heard : (k : ℕ) → k < count_of m.state.batch.task
        → words_part m.state.n round incoming k ≡ sent_in g.tapes book (other_box b) (own_key m.state) k round
    part_heard k less = rw (o.words_are, j.inside.count) (sent_part g.tapes book (other_box b) (own_key m.state) k j.inside.heard less)

    part_room : (k : ℕ) → k < count_of m.state.batch.task → work_length m.state.n ≤ length (work_part m.state.n m.work k)
    part_room k less =
        let all = within (count_of m.state.batch.task) (work_length m.state.n) k less in
        le_of_eq (sym (length_part (work_length m.state.n) m.work k (le_trans all j.inside.room)))

    -- what is held after the round is what the exchange gives
    live_next : (k : ℕ) → k < count_of m.state.batch.task
        → Live m.state.n (suc j.inside.heard) (work_part m.state.n (joined_after m.state tapes m.work round incoming) k)
        (holding g.tapes book b (own_key m.state) k (suc j.inside.heard))
    live_next k less =
        let i = j.inside in
        let key = own_key m.state in
        rw (
          after_part m.state tapes m.work round incoming k less i.room,
          j.party_is k less,
          part_heard k less,
          i.count,
          holding_next g.tapes book b key k i.heard,
        )
        (after_live (party_at g.tapes book b key k) j.width (work_part m.state.n m.work k) (holding g.tapes book b key k i.heard)
        (sent_in g.tapes book (other_box b) key k (suc i.heard)) (part_room k less) (holding_room g.tapes book b key k i.heard) i.heard (i.live k less))

    -- the answer shares of the last round
    answers_last : round ≡ last_round → answer_shares m.state tapes m.work incoming ≡ answers_by g.tapes book b (own_key m.state)
    unfolding answer_shares
    answers_last e =
        ap₂ (λ side each. answers_given m.state.n side m.state.batch.task each) j.side_is
        (each_same (count_of m.state.batch.task) _ _ one)
      where
        one : (k : ℕ) → k < count_of m.state.batch.task
            → answer_share (party_of m.state tapes k) (work_part m.state.n m.work k) (words_part m.state.n last_round incoming k)
            ≡ answer_in g.tapes book b (own_key m.state) k
        one k less =
            let i = j.inside in
            let key = own_key m.state in
            let all_earlier : i.heard ≡ earlier_rounds = omega (arith, i.count) in
            let live : Live m.state.n earlier_rounds (work_part m.state.n m.work k) (holding g.tapes book b key k earlier_rounds) =
            subst (λ (r : ℕ). Live m.state.n r (work_part m.state.n m.work k) (holding g.tapes book b key k r)) all_earlier (i.live k less) in
            let words : words_part m.state.n last_round incoming k ≡ sent_in g.tapes book (other_box b) key k last_round =
            subst (λ (r : ℕ). words_part m.state.n r incoming k ≡ sent_in g.tapes book (other_box b) key k r) e (part_heard k less) in
            rw (j.party_is k less, words)
            (answer_live (party_at g.tapes book b key k) (work_part m.state.n m.work k) (holding g.tapes book b key k earlier_rounds)
            (sent_in g.tapes book (other_box b) key k last_round) live
            ∙ sym (answer_is g.tapes book b key k))

    hear_goes : (lent : List ℕ) → Heard b m m.state.batch.first round lent (heard_after m.state tapes m.work round incoming)
    unfolding heard_after
    hear_goes lent = go (eqb round last_round) refl
      where
        work' : List ℕ
        work' = joined_after m.state tapes m.work round incoming

        go : (t : Bool) → eqb round last_round ≡ t
            → Heard b m m.state.batch.first round lent
            (cond t
            (record { reply = finished (answer_shares m.state tapes m.work incoming); state = in_phase m.state Idle no_batch; buffer = work' })
            (record { reply = heard; state = in_phase m.state (Job (Speak (round + 1))) m.state.batch; buffer = work' }))
        go true e =
            record {
              holds = record { holds = settle b _ work' tt };
              answer = record {
                values = _;
                said_is = refl;
                width = j.width;
                own = j.inside.own;
                met = o.opened;
                is = answers_last (eqb-true round last_round e);
                y_fits = j.y_fits;
                counted = j.counted;
                silent = refl;
              };
            }
        go false e =
            record {
              holds = record {
                holds =
                    settle b _ work'
                    (record {
                      own = j.inside.own;
                      x_is = j.inside.x_is;
                      y_is = j.inside.y_is;
                      room = rw (joined_after_length m.state tapes m.work round incoming) j.inside.room;
                      heard = suc j.inside.heard;
                      count = omega (arith, j.inside.count);
                      met = λ some. o.opened;
                      live = live_next;
                    });
              };
              answer = refl;
            }

  hear_holds : (pair : ℕ) (orders : InOrder g pair) (b : Box) (m : Memory) (first round : ℕ) (lent : Lent) (incoming words : List ℕ) → Holds b m
      → (hear_ground m.state first round (tape_words g lent) m.work incoming ≡ 0
      → (lent ≡ dealt b first (count_of m.state.batch.task) m.state.n) × OtherSent b (key_at m.state first) round incoming)
      → Heard b m first round words (hear_rule m.state first round (tape_words g lent) m.work incoming)
  unfolding hear_rule
  hear_holds pair orders b m first round lent incoming words h keeps =
      decide (Heard b m first round words) (hear_ground m.state first round (tape_words g lent) m.work incoming) m.state m.work _
      (λ zero_ground.
      let p = hear_passed m.state first round (tape_words g lent) m.work incoming zero_ground in
      let k = keeps zero_ground in
      let j = going pair orders b m first (Hear round) lent h p.turn k.0 in
      let o = subst (λ (number : ℕ). OtherSent b (key_at m.state number) round incoming) p.turn.due.first_is k.1 in
      rw p.turn.due.first_is (hear_goes b m round (tape_words g lent) incoming j o words))
      (record { holds = kept b m m.tally h; answer = refl })

  -- ---- the log and the worlds

  grows : (log : List Event) (e : Event) → ((k : ℕ) → Conforms (event_at log k) (kind_of (event_at log k).said)) → Conforms e (kind_of e.said)
      → (k : ℕ) → Conforms (event_at (log ++ (e ∷ [])) k) (kind_of (event_at (log ++ (e ∷ [])) k).said)
  grows [] e old new zero = new
  grows [] e old new (suc k) = refl
  grows (d ∷ log) e old new zero = old zero
  grows (d ∷ log) e old new (suc k) = grows log e (λ i. old (suc i)) new k

  after_invariant : (w : World) (b : Box) (m : Memory) (e : Event) → Invariant w → Holds b m → Conforms e (kind_of e.said) → Invariant (after w b m e)
  after_invariant w box1 m e f h t = record { each = λ c. both c; events = grows w.log e f.events t }
    where
      both : (c : Box) → Holds c (memory_of (after w box1 m e) c)
      both box1 = h
      both box2 = f.each box2
  after_invariant w box2 m e f h t = record { each = λ c. both c; events = grows w.log e f.events t }
    where
      both : (c : Box) → Holds c (memory_of (after w box2 m e) c)
      both box1 = f.each box1
      both box2 = h

  -- a true message is the exchanges', of a job that the other box opened
  true_message : (w : World) (b : Box) (key : Key) (round : ℕ) (incoming : Incoming) → Invariant w → TrueMessage w.log b key round incoming
      → OtherSent b key round (line_words w.log incoming)
  true_message w b key round incoming f t =
      let e = event_at w.log t.place in
      let told : Uttered e = subst (λ (s : Said). Conforms e (kind_of s)) t.uttered (f.events t.place) in
      record {
        words_are = ap (line_words w.log) t.named ∙ told.words ∙ rw (t.by, t.under, t.rounded);
        opened = rw (← t.by, ← t.under) told.own;
      }

  -- calls that say nothing of an exchange
  quiet_wake : (m : Memory) (n side p : ℕ) (e : Event) → e.spoken ≡ [] → Conforms e (kind_of (replied (wake_rule m.state n side p m.tally).reply))
  unfolding wake_rule
  quiet_wake m n side p e none =
      decide (λ r. Conforms e (kind_of (replied r.reply))) (wake_ground m.state n side m.tally) m.state m.tally _ (λ z. none) none

  quiet_start : (m : Memory) (first : ℕ) (task : Task) (v : Lending) (tapes : List ℕ) (e : Event) → e.spoken ≡ []
      → Conforms e (kind_of (replied (start_rule m.state first task v tapes m.work m.tally).reply))
  unfolding start_rule
  quiet_start m first task v tapes e none =
      decide (λ r. Conforms e (kind_of (replied r.reply))) (start_ground m.state first task v tapes m.work m.tally) m.state m.tally _
      (λ z. none) none

  quiet_drop : (m : Memory) (e : Event) → e.spoken ≡ [] → Conforms e (kind_of (replied (drop_rule m.state).reply))
  unfolding drop_rule
  quiet_drop m e none = decide (λ r. Conforms e (kind_of (replied r.reply))) (drop_ground m.state) m.state [] _ (λ z. none) none

  cut_conforms : (s : State) (e : Event) → e.spoken ≡ [] → Conforms e (kind_of (cut_said s))
  cut_conforms s e none = subst (Conforms e) (sym (cut_plain s)) none

  -- one entry
  pub invariant_next : (pair : ℕ) (orders : InOrder g pair) (place : ℕ) (w : World) (b : Box) (step : Step) → Invariant w → Keeps g place w b step
      → Booked place w b step → Invariant (stepped g place w b step)
  unfolding stepped
  invariant_next pair orders place w b (wake n side p) f keeps booked =
      after_invariant w b _ _ f (wake_holds b (memory_of w b) n side p (f.each b)) (quiet_wake (memory_of w b) n side p _ refl)
  invariant_next pair orders place w b (start first task lent) f keeps booked =
      after_invariant w b _ _ f (start_holds b (memory_of w b) first task (g.shares b place) (tape_words g lent) (f.each b) booked)
      (quiet_start (memory_of w b) first task (g.shares b place) (tape_words g lent) _ refl)
  invariant_next pair orders place w b (speak first round lent out) f keeps booked =
      let r = speak_holds pair orders b (memory_of w b) first round lent out (f.each b) keeps in
      after_invariant w b _ _ f r.holds r.words
  invariant_next pair orders place w b (hear first round lent incoming) f keeps booked =
      let m = memory_of w b in
      let r =
      subst (Heard b m first round (incoming_words g place m.state w.log incoming))
      (sym (rule_lent g place m w.log first round lent incoming))
      (hear_holds pair orders b m first round lent (line_words w.log incoming) _ (f.each b)
      (λ zero_ground.
      let k = keeps (ground_lent g place m w.log first round lent incoming ∙ zero_ground) in
      (k.0, true_message w b (key_at m.state first) round incoming f k.1))) in
      after_invariant w b _ _ f r.holds r.answer
  invariant_next pair orders place w b drop f keeps booked =
      after_invariant w b _ _ f (drop_holds b (memory_of w b) (f.each b)) (quiet_drop (memory_of w b) _ refl)
  invariant_next pair orders place w b (cut room) f keeps booked =
      after_invariant w b _ _ f (cut_holds b place room (memory_of w b) _) (cut_conforms (memory_of w b).state _ refl)
  invariant_next pair orders place w b (cut_start first task lent at mark room) f keeps booked =
      after_invariant w b _ _ f (cut_holds b place room (memory_of w b) _) (cut_conforms (memory_of w b).state _ refl)
