-- What one entry does to the log and to the tallies: one event more, no tape freed, and of a job that the event opens every tape was fresh and not
-- late, and is marked.
use Prim.Native.Nat.{ℕ, suc, ◌+◌, ◌-◌, ◌<◌, ◌≤◌}
use mathlib.Core.Path.{◌≡◌, refl, sym, ap, subst, ◌∙◌}
use mathlib.Core.Bool.{Bool, true, false, ◌&&◌, cond, false≢true}
use mathlib.Core.List.{List, [], ◌∷◌, ◌++◌, append_assoc, append-nil}
use native.Mathlib.Omega.{arith}
use borrow.Author.Tests.{eqb-true, leb-true, ltb-true, le-leb, lt-ltb}
use lib.Dec.{eqb, leb, ltb}
use lib.ListN.{length}
use Rattle.lists.proofs.Tests.{and_left, and_right, and_both}
use Rattle.tally.specs.Tally.{Mark, tapes_of, is_fresh, late, first_marks, cut_marks}
use Rattle.tally.proofs.Starts.{first_length, first_spent, first_others, cut_first_length, cut_first_others, none_freed}
use Rattle.protocol.specs.Rounds.{last_round}
use Rattle.rules.specs.Answers.{started, heard, finished}
use Rattle.rules.specs.Tasks.{count_of, pairs_of}
use Rattle.rules.specs.Modes.{in_phase}
use Rattle.rules.specs.Batches.{batch_of, answer_shares}
use Rattle.rules.specs.Grounds.{wake_ground, start_ground, speak_ground, hear_ground, drop_ground}
use Rattle.rules.specs.Calls.{Result, wake_rule, start_rule, speak_rule, heard_after, hear_rule, drop_rule}
use Rattle.rules.specs.declared.state.Task.{Task}
use Rattle.rules.specs.declared.state.Turn.TheVariants.{Speak}
use Rattle.rules.specs.declared.state.Phase.TheVariants.{Job}
use Rattle.rules.specs.declared.state.State.{State}
use Rattle.rules.proofs.Decide.{decide}
use Rattle.rules.proofs.Batches.{count_most}
use Rattle.rules.proofs.Passed.{StartPassed, start_passed}
use Rattle.guarantees.specs.Boxes.{Box, box1, box2}
use Rattle.guarantees.specs.Keys.{job_key}
use Rattle.guarantees.specs.Entries.{Step, wake, start, speak, hear, drop, cut, cut_start, Entry}
use Rattle.guarantees.specs.Run.{Setting, Memory, replied, Event, World, memory_of, after, after_start, after_cut, tape_words, incoming_words, stepped, run}
use Rattle.guarantees.specs.Maps.{same_box, takes}
use Rattle.guarantees.specs.Outcomes.{kind_of, is_opening}
use Rattle.guarantees.proofs.Outcomes.{cut_plain}
use Rattle.guarantees.proofs.Logs.{after_log, log_length}

-- ---- which calls open a job

wake_opens : (s : State) (n side p : ℕ) (tally : List ℕ) → is_opening (kind_of (replied (wake_rule s n side p tally).reply)) ≡ false
unfolding wake_rule
wake_opens s n side p tally = decide (λ r. is_opening (kind_of (replied r.reply)) ≡ false) (wake_ground s n side tally) s tally _ (λ z. refl) refl

speak_opens : (s : State) (first round : ℕ) (tapes work out : List ℕ)
    → is_opening (kind_of (replied (speak_rule s first round tapes work out).reply)) ≡ false
unfolding speak_rule
speak_opens s first round tapes work out =
    decide (λ r. is_opening (kind_of (replied r.reply)) ≡ false) (speak_ground s first round tapes work out) s out _ (λ z. refl) refl

hear_opens : (s : State) (first round : ℕ) (tapes work incoming : List ℕ)
    → is_opening (kind_of (replied (hear_rule s first round tapes work incoming).reply)) ≡ false
unfolding hear_rule heard_after
hear_opens s first round tapes work incoming =
    decide (λ r. is_opening (kind_of (replied r.reply)) ≡ false) (hear_ground s first round tapes work incoming) s work _
    (λ z. last (eqb round last_round) (answer_shares s tapes work incoming) _ _ _) refl
  where
    last : (t : Bool) (vs : List ℕ) (s1 s2 : State) (buffer : List ℕ)
        → is_opening
        (kind_of
        (replied
        (cond {A = Result} t (record { reply = finished vs; state = s1; buffer = buffer }) (record { reply = heard; state = s2; buffer = buffer })).reply))
        ≡ false
    last true vs s1 s2 buffer = refl
    last false vs s1 s2 buffer = refl

drop_opens : (s : State) → is_opening (kind_of (replied (drop_rule s).reply)) ≡ false
unfolding drop_rule
drop_opens s = decide (λ r. is_opening (kind_of (replied r.reply)) ≡ false) (drop_ground s) s [] _ (λ z. refl) refl

pub same_box_lem : (own other : Box) → same_box own other ≡ true → own ≡ other
same_box_lem box1 box1 e = refl
same_box_lem box1 box2 e = absurd (false≢true e)
same_box_lem box2 box1 e = absurd (false≢true e)
same_box_lem box2 box2 e = refl

pub same_self : (b : Box) → same_box b b ≡ true
same_self box1 = refl
same_self box2 = refl

-- an event that takes a number is of that box, has the number among its job's, and says that the job was opened
pub record Opening (b : Box) (number : ℕ) (e : Event) : Type 0 where
  pub box : b ≡ e.box
  pub from : e.key.first ≤ number
  pub below : number < e.key.first + count_of e.key.task
  pub told : is_opening (kind_of e.said) ≡ true

pub opening : (b : Box) (number : ℕ) (e : Event) → takes b number e ≡ true → Opening b number e
opening b number e h =
    let own = same_box b e.box in
    let from = leb e.key.first number in
    let below = ltb number (e.key.first + count_of e.key.task) in
    let place = and_left (own && from && below) (is_opening (kind_of e.said)) h in
    let start = and_left (own && from) below place in
    record {
      box = same_box_lem b e.box (and_left own from start);
      from = leb-true e.key.first number (and_right own from start);
      below = ltb-true number (e.key.first + count_of e.key.task) (and_right (own && from) below place);
      told = and_right (own && from && below) (is_opening (kind_of e.said)) h;
    }

pub takes_lem : (b : Box) (number : ℕ) (e : Event) → Opening b number e → takes b number e ≡ true
takes_lem b number e o =
    and_both
    (and_both
    (and_both (ap (same_box b) (sym o.box) ∙ same_self b) (le-leb e.key.first number o.from))
    (lt-ltb number (e.key.first + count_of e.key.task) o.below))
    o.told

-- ---- one entry

-- a number that a start takes, by the tally before it and after it
pub record Taken (before after : List ℕ) (number : ℕ) : Type 0 where
  pub within : number < tapes_of (length before)
  pub fresh : is_fresh before number ≡ true
  pub in_time : late before number ≡ false
  pub spent : is_fresh after number ≡ false

-- one event more; at both boxes the tally is as long as it was, what is fresh was fresh, and what the event opens is taken, one number at least
pub record OneMore (w w' : World) : Type 0 where
  pub event : Event
  pub is : w'.log ≡ w.log ++ (event ∷ [])
  pub same_length : (c : Box) → length (memory_of w' c).tally ≡ length (memory_of w c).tally
  pub was_fresh : (c : Box) (number : ℕ) → is_fresh (memory_of w' c).tally number ≡ true → is_fresh (memory_of w c).tally number ≡ true
  pub taken : (c : Box) (number : ℕ) → takes c number event ≡ true → Taken (memory_of w c).tally (memory_of w' c).tally number
  pub some : is_opening (kind_of event.said) ≡ true → 0 < count_of event.key.task

-- the entry's own box goes on, the other box's memory stays
at_each : (w : World) (b : Box) (m : Memory) (e : Event) (P : Box → Memory → Memory → Type 0) → P b (memory_of w b) m
    → ((c : Box) → same_box c b ≡ false → P c (memory_of w c) (memory_of w c)) → (c : Box) → P c (memory_of w c) (memory_of (after w b m e) c)
at_each w box1 m e P here there box1 = here
at_each w box1 m e P here there box2 = there box2 refl
at_each w box2 m e P here there box1 = there box1 refl
at_each w box2 m e P here there box2 = here

more : (w : World) (b : Box) (m : Memory) (e : Event) → e.box ≡ b
    → ((number : ℕ) → Opening b number e → Taken (memory_of w b).tally m.tally number)
    → (is_opening (kind_of e.said) ≡ true → 0 < count_of e.key.task)
    → ((number : ℕ) → is_fresh m.tally number ≡ true → is_fresh (memory_of w b).tally number ≡ true)
    → length m.tally ≡ length (memory_of w b).tally → OneMore w (after w b m e)
more w b m e at taken some was_fresh long =
    record {
      event = e;
      is = after_log w b m e;
      same_length = at_each w b m e (λ c before now. length now.tally ≡ length before.tally) long (λ c other. refl);
      was_fresh =
          at_each w b m e (λ c before now. (number : ℕ) → is_fresh now.tally number ≡ true → is_fresh before.tally number ≡ true) was_fresh
          (λ c other number f. f);
      taken =
          at_each w b m e (λ c before now. (number : ℕ) → takes c number e ≡ true → Taken before.tally now.tally number)
          (λ number h. taken number (opening b number e h))
          (λ c other number h. absurd (false≢true (sym other ∙ ap (λ (own : Box). same_box own b) ((opening c number e h).box ∙ at) ∙ same_self b)));
      some = some;
    }

-- an entry that opens nothing
dull : (w : World) (b : Box) (m : Memory) (e : Event) → e.box ≡ b → is_opening (kind_of e.said) ≡ false
    → ((number : ℕ) → is_fresh m.tally number ≡ true → is_fresh (memory_of w b).tally number ≡ true)
    → length m.tally ≡ length (memory_of w b).tally → OneMore w (after w b m e)
dull w b m e at none was_fresh long =
    more w b m e at (λ number o. absurd (false≢true (sym none ∙ o.told))) (λ told. absurd (false≢true (sym none ∙ told))) was_fresh long

-- so of one that leaves the tally as it was
same_tally : (w : World) (b : Box) (m : Memory) (e : Event) → e.box ≡ b → is_opening (kind_of e.said) ≡ false → m.tally ≡ (memory_of w b).tally
    → OneMore w (after w b m e)
same_tally w b m e at none same = dull w b m e at none (λ number f. ap (λ (t : List ℕ). is_fresh t number) (sym same) ∙ f) (ap length same)

-- ---- a start that is not refused

module _ (s : State) (first : ℕ) (task : Task) (shares tapes work tally : List ℕ) (p : StartPassed s first task shares tapes work tally) where
  some_jobs : 0 < count_of task
  some_jobs = (count_most (count_of task) p.counted).0

  -- it takes all of its numbers
  all_taken : (number : ℕ) → first ≤ number → number < first + count_of task → Taken tally (first_marks tally first (count_of task)) number
  all_taken number from below =
      let count = count_of task in
      let i : ℕ = number - first in
      let less : i < count = omega arith in
      let same : first + i ≡ number = omega arith in
      let room : first + count ≤ tapes_of (length tally) = omega (arith, some_jobs, p.numbered (count - 1) (omega (arith, some_jobs))) in
      subst (Taken tally (first_marks tally first count)) same
      (record {
        within = p.numbered i less;
        fresh = p.fresh i less;
        in_time = p.in_time i less;
        spent = first_spent tally first count room i less;
      })

start_more : (w : World) (b : Box) (first : ℕ) (task : Task) (shares tapes : List ℕ)
    → let m = memory_of w b in
    let r = start_rule m.state first task shares tapes m.work m.tally in
    OneMore w
    (after w b (after_start m r)
    (record { box = b; key = job_key first task m.state.n; round = 0; said = replied r.reply; spoken = []; incoming = [] }))
unfolding start_rule
start_more w b first task shares tapes =
    let m = memory_of w b in
    let tally = m.tally in
    let count = count_of task in
    let opened : Result =
    record {
      reply = started;
      state = in_phase m.state (Job (Speak 1)) (batch_of first task (pairs_of m.state.side task shares));
      buffer = first_marks tally first count;
    } in
    decide
    (λ r.
    OneMore w
    (after w b (after_start m r)
    (record { box = b; key = job_key first task m.state.n; round = 0; said = replied r.reply; spoken = []; incoming = [] })))
    (start_ground m.state first task shares tapes m.work tally) m.state tally _
    (λ cause.
    let p = start_passed m.state first task shares tapes m.work tally cause in
    more w b (after_start m opened) _ refl
    (λ number o. all_taken m.state first task shares tapes m.work tally p number o.from o.below)
    (λ told. some_jobs m.state first task shares tapes m.work tally p)
    (none_freed tally (first_marks tally first count) first count p.fresh (first_others tally first count)) (first_length tally first count))
    (same_tally w b _ _ refl refl refl)

-- a cut in a start's mark: the tally stays, or the numbers up to the mark's were fresh
cut_more : (w : World) (b : Box) (m : Memory) (e : Event) (cause first count at : ℕ) (mark : Mark) → e.box ≡ b → is_opening (kind_of e.said) ≡ false
    → (cause ≡ 0 → (i : ℕ) → i < count → is_fresh (memory_of w b).tally (first + i) ≡ true)
    → m.tally ≡ cond (eqb cause 0 && ltb at count) (cut_marks (memory_of w b).tally first at mark) (memory_of w b).tally → OneMore w (after w b m e)
cut_more w b m e cause first count at mark own none was left = go (eqb cause 0 && ltb at count) refl left
  where
    tally : List ℕ
    tally = (memory_of w b).tally

    go : (t : Bool) → eqb cause 0 && ltb at count ≡ t → m.tally ≡ cond t (cut_marks tally first at mark) tally → OneMore w (after w b m e)
    go false q same = same_tally w b m e own none same
    go true q written =
        let passed = eqb-true cause 0 (and_left (eqb cause 0) (ltb at count) q) in
        let less = ltb-true at count (and_right (eqb cause 0) (ltb at count) q) in
        dull w b m e own none
        (λ k f.
        none_freed tally (cut_marks tally first at mark) first (suc at) (λ i before. was passed i (omega (arith, before, less)))
        (cut_first_others tally first at mark) k
        (ap (λ (t : List ℕ). is_fresh t k) (sym written) ∙ f))
        (ap length written ∙ cut_first_length tally first at mark)

pub one_more : (g : Setting) (place : ℕ) (w : World) (b : Box) (step : Step) → OneMore w (stepped g place w b step)
unfolding stepped
one_more g place w b (wake n side p) = same_tally w b _ _ refl (wake_opens (memory_of w b).state n side p (memory_of w b).tally) refl
one_more g place w b (start first task lent) = start_more w b first task (g.shares b place) (tape_words g lent)
one_more g place w b (speak first round lent out) =
    same_tally w b _ _ refl (speak_opens (memory_of w b).state first round (tape_words g lent) (memory_of w b).work out) refl
one_more g place w b (hear first round lent incoming) =
    let m = memory_of w b in
    same_tally w b _ _ refl
    (hear_opens m.state first round (tape_words g lent) m.work (incoming_words g place m.state w.log incoming)) refl
one_more g place w b drop = same_tally w b _ _ refl (drop_opens (memory_of w b).state) refl
one_more g place w b (cut room) =
    let m = memory_of w b in
    same_tally w b (after_cut g place room m m.tally) _ refl (ap is_opening (cut_plain m.state)) refl
one_more g place w b (cut_start first task lent at mark room) =
    let m = memory_of w b in
    let shares = g.shares b place in
    cut_more w b _ _ (start_ground m.state first task shares (tape_words g lent) m.work m.tally) first (count_of task) at mark refl
    (ap is_opening (cut_plain m.state))
    (λ cause. (start_passed m.state first task shares (tape_words g lent) m.work m.tally cause).fresh) refl

-- ---- the log over a run

pub next_place : (g : Setting) (place : ℕ) (w : World) (b : Box) (step : Step) → length (stepped g place w b step).log ≡ suc (length w.log)
next_place g place w b step =
    let one = one_more g place w b step in
    ap length one.is ∙ log_length w.log one.event

-- the log only grows
pub record Grown (log log' : List Event) : Type 0 where
  pub more : List Event
  pub is : log' ≡ log ++ more

pub run_grows : (g : Setting) (place : ℕ) (w : World) (es : List Entry) → Grown w.log (run g place w es).log
run_grows g place w [] = record { more = []; is = sym (append-nil w.log) }
run_grows g place w (e ∷ es) =
    let one = one_more g place w e.box e.step in
    let rest = run_grows g (suc place) (stepped g place w e.box e.step) es in
    record {
      more = one.event ∷ rest.more;
      is = rest.is ∙ ap (λ (l : List Event). l ++ rest.more) one.is ∙ append_assoc w.log (one.event ∷ []) rest.more;
    }
