-- At one box a tape number is taken only once: what is marked never becomes fresh again. So a job's place in the log is found again, by any of
-- its numbers.
use Prim.Native.Nat.{ℕ, zero, suc, ◌+◌, ◌<◌}
use mathlib.Core.Path.{◌≡◌, refl, sym, ap, subst, ◌∙◌}
use mathlib.Core.Bool.{Bool, true, false, cond, true≢false}
use mathlib.Core.List.{List, [], ◌∷◌, ◌++◌, append_assoc}
use native.Mathlib.Omega.{arith}
use borrow.Author.Tests.{ltb-true, ltb-false}
use lib.Dec.{ltb}
use lib.ListN.{length}
use Rattle.tally.specs.Tally.{is_fresh}
use Rattle.rules.specs.Tasks.{count_of}
use Rattle.rules.specs.Answers.{started}
use Rattle.rules.specs.Grounds.{start_ground}
use Rattle.rules.specs.Calls.{start_rule}
use Rattle.rules.specs.declared.state.Task.{Task}
use Rattle.rules.specs.declared.state.State.{State}
use Rattle.rules.proofs.Passed.{start_passed}
use Rattle.guarantees.specs.Boxes.{Box}
use Rattle.guarantees.specs.Keys.{job_key}
use Rattle.guarantees.specs.Entries.{Lent, start, Entry}
use Rattle.guarantees.specs.Run.{Setting, replied, Event, World, memory_of, event_at, tape_words, stepped, run}
use Rattle.guarantees.specs.Maps.{takes, taken_at, key_found}
use Rattle.guarantees.specs.Outcomes.{kind_of, is_opening}
use Rattle.guarantees.proofs.Logs.{after_log, log_length, event_before, event_at_lem, event_end}
use Rattle.guarantees.proofs.Openings.{takes_lem, OneMore, one_more, Grown, run_grows}

-- no start of this box took the number
abbrev pub Unopened : List Event → Box → ℕ → Type 0
Unopened [] b number = Unit {0}
Unopened (e ∷ es) b number = (takes b number e ≡ false) × Unopened es b number

-- every number fresh in a box's tally is unopened there
pub record Marked (w : World) : Type 0 where
  pub unopened : (b : Box) (number : ℕ) → is_fresh (memory_of w b).tally number ≡ true → Unopened w.log b number

unopened_more : (log : List Event) (e : Event) (b : Box) (number : ℕ) → Unopened log b number → takes b number e ≡ false
    → Unopened (log ++ (e ∷ [])) b number
unopened_more [] e b number u h = (h, tt)
unopened_more (d ∷ log) e b number u h = (u.0, unopened_more log e b number u.1 h)

-- ---- where a number was taken

at_end : (log : List Event) (e : Event) (more : List Event) (b : Box) (number : ℕ) → Unopened log b number
    → takes b number e ≡ true → taken_at (log ++ (e ∷ more)) b number ≡ length log
at_end [] e more b number u h = rw h
at_end (d ∷ log) e more b number u h = rw u.0 (ap suc (at_end log e more b number u.1 h))

-- what is found is a start that took it
pub taken_there : (log : List Event) (b : Box) (number : ℕ) → taken_at log b number < length log
    → takes b number (event_at log (taken_at log b number)) ≡ true
taken_there [] b number less = absurd (omega (arith, less))
taken_there (e ∷ log) b number less = go (takes b number e) refl (taken_there log b number) less
  where
    go : (t : Bool) → takes b number e ≡ t
        → (taken_at log b number < length log → takes b number (event_at log (taken_at log b number)) ≡ true)
        → cond t 0 (suc (taken_at log b number)) < suc (length log)
        → takes b number (event_at (e ∷ log) (cond t 0 (suc (taken_at log b number)))) ≡ true
    go true q rest less' = q
    go false q rest less' = rest (omega (arith, less'))

-- ---- the marks over one entry

-- what an entry opens is spent after it, and nothing is freed
pub marked_next : (w w' : World) → OneMore w w' → Marked w → Marked w'
marked_next w w' one h = record { unopened = go }
  where
    unopens : (b : Box) (number : ℕ) → is_fresh (memory_of w' b).tally number ≡ true → (t : Bool) → takes b number one.event ≡ t → t ≡ false
    unopens b number f true q = absurd (true≢false (sym f ∙ (one.taken b number q).spent))
    unopens b number f false q = refl

    go : (b : Box) (number : ℕ) → is_fresh (memory_of w' b).tally number ≡ true → Unopened w'.log b number
    go b number f =
        subst (λ (l : List Event). Unopened l b number) (sym one.is)
        (unopened_more w.log one.event b number (h.unopened b number (one.was_fresh b number f)) (unopens b number f (takes b number one.event) refl))

-- ---- a start that is not refused, in the log of the run from there on

started_said : (s : State) (first : ℕ) (task : Task) (shares tapes work tally : List ℕ) → start_ground s first task shares tapes work tally ≡ 0
    → (start_rule s first task shares tapes work tally).reply ≡ started
unfolding start_rule
started_said s first task shares tapes work tally cause = rw cause refl

module _ (g : Setting) (place : ℕ) (w : World) (b : Box) (first : ℕ) (task : Task) (lent : Lent) (es : List Entry) where
  abbrev longer : List Event
  longer = (run g (suc place) (stepped g place w b (start first task lent)) es).log

  abbrev start_event : Event
  start_event =
      let m = memory_of w b in
      record {
        box = b;
        key = job_key first task m.state.n;
        round = 0;
        said = replied (start_rule m.state first task (g.shares b place) (tape_words g lent) m.work m.tally).reply;
        spoken = [];
        incoming = [];
      }

  grown : Grown (stepped g place w b (start first task lent)).log longer
  grown = run_grows g (suc place) (stepped g place w b (start first task lent)) es

  longer_is : longer ≡ w.log ++ (start_event ∷ grown.more)
  unfolding stepped
  longer_is = grown.is ∙ ap (λ (l : List Event). l ++ grown.more) (after_log w b _ start_event) ∙ append_assoc w.log (start_event ∷ []) grown.more

  module _ (h : Marked w)
      (cause : start_ground (memory_of w b).state first task (g.shares b place) (tape_words g lent) (memory_of w b).work (memory_of w b).tally
      ≡ 0) where
    -- each of its numbers is found again at its place
    pub found : (i : ℕ) → i < count_of task → taken_at longer b (first + i) ≡ length w.log
    found i less =
        let m = memory_of w b in
        let shares = g.shares b place in
        ap (λ (l : List Event). taken_at l b (first + i)) longer_is
        ∙ at_end w.log start_event grown.more b (first + i)
        (h.unopened b (first + i) ((start_passed m.state first task shares (tape_words g lent) m.work m.tally cause).fresh i less))
        (takes_lem b (first + i) start_event
        (record {
          box = refl;
          from = omega arith;
          below = omega arith;
          told = rw (started_said m.state first task shares (tape_words g lent) m.work m.tally cause) refl;
        }))

    -- and what is found is its job
    pub found_key : (i : ℕ) → i < count_of task → key_found longer b (first + i) ≡ job_key first task (memory_of w b).state.n
    found_key i less =
        ap (λ (e : Event). e.key)
        (ap (event_at longer) (found i less) ∙ ap (λ (l : List Event). event_at l (length w.log)) longer_is ∙ event_at_lem w.log start_event grown.more)

-- ---- a number is taken once

-- each start that took a number stands where the number's place is found
abbrev pub Once : List Event → Type 0
Once log =
    (c : Box) (number : ℕ) (k : ℕ) → k < length log → takes c number (event_at log k) ≡ true → taken_at log c number ≡ k

kept_by : (t : Bool) (here there : ℕ) (length : ℕ) → (there < length → here ≡ there)
    → cond t 0 (suc there) < suc length → cond t 0 (suc here) ≡ cond t 0 (suc there)
kept_by true here there length rest less = refl
kept_by false here there length rest less = ap suc (rest (omega (arith, less)))

taken_kept : (log more : List Event) (c : Box) (number : ℕ) → taken_at log c number < length log
    → taken_at (log ++ more) c number ≡ taken_at log c number
taken_kept [] more c number less = absurd (omega (arith, less))
taken_kept (e ∷ log) more c number less =
    kept_by (takes c number e) _ _ (length log) (taken_kept log more c number) less

once_next : (w w' : World) → Marked w → OneMore w w' → Once w.log → Once w'.log
once_next w w' marked one once c number k less taken = go (ltb k (length w.log)) refl
  where
    e : Event
    e = one.event

    grown : List Event
    grown = w.log ++ (e ∷ [])

    there : takes c number (event_at grown k) ≡ true
    there = subst (λ (l : List Event). takes c number (event_at l k) ≡ true) one.is taken

    found_there : taken_at grown c number ≡ k → taken_at w'.log c number ≡ k
    found_there q = ap (λ (l : List Event). taken_at l c number) one.is ∙ q

    go : (t : Bool) → ltb k (length w.log) ≡ t → taken_at w'.log c number ≡ k
    go true q =
        let before = ltb-true k (length w.log) q in
        let old =
        once c number k before
        (subst (λ (d : Event). takes c number d ≡ true) (event_before w.log e k before) there) in
        found_there (taken_kept w.log (e ∷ []) c number (rw old before) ∙ old)
    go false q =
        let long : length w'.log ≡ suc (length w.log) = ap length one.is ∙ log_length w.log e in
        let last : k ≡ length w.log = omega (arith, ltb-false k (length w.log) q, less, long) in
        let new =
        subst (λ (d : Event). takes c number d ≡ true) (ap (event_at grown) last ∙ event_end w.log e) there in
        found_there
        (at_end w.log e [] c number (marked.unopened c number (one.taken c number new).fresh) new ∙ sym last)

pub once_run : (g : Setting) (place : ℕ) (w : World) (es : List Entry) → Marked w → Once w.log → Once (run g place w es).log
once_run g place w [] marked once = once
once_run g place w (e ∷ es) marked once =
    let one = one_more g place w e.box e.step in
    once_run g (suc place) (stepped g place w e.box e.step) es (marked_next w _ one marked) (once_next w _ marked one once)

-- ---- a job has some numbers

-- each job that was opened has one number at least
abbrev pub SomeEach : List Event → Type 0
SomeEach log = (k : ℕ) → is_opening (kind_of (event_at log k).said) ≡ true → 0 < count_of (event_at log k).key.task

some_more : (log : List Event) (e : Event) → SomeEach log → (is_opening (kind_of e.said) ≡ true → 0 < count_of e.key.task)
    → SomeEach (log ++ (e ∷ []))
some_more [] e old new zero = new
some_more [] e old new (suc k) = old k
some_more (d ∷ log) e old new zero = old zero
some_more (d ∷ log) e old new (suc k) = some_more log e (λ i. old (suc i)) new k

pub some_run : (g : Setting) (place : ℕ) (w : World) (es : List Entry) → SomeEach w.log → SomeEach (run g place w es).log
some_run g place w [] some = some
some_run g place w (e ∷ es) some =
    let one = one_more g place w e.box e.step in
    some_run g (suc place) (stepped g place w e.box e.step) es
    (subst SomeEach (sym one.is) (some_more w.log one.event some one.some))
