-- Both boxes of a job and the text that tells it, round after round.
use Rattle.std.proofs.Common.{◌≡◌, ℕ, ◌+◌, ◌*◌, ◌<◌, ◌≤◌, true, List, ◌++◌, take, Option, Some, None, Result, refl, sym, ap, ap₂, ◌∙◌, arith}
use Rattle.std.specs.Option.{option_and_then}
use Rattle.lists.specs.Joined.{chained}
use Rattle.protocol.specs.Products.{Party}
use Rattle.protocol.specs.Exchange.{Both, exchanged, answer_own, answer_others}
use Rattle.protocol.specs.Rounds.{earlier_rounds, last_round, message}
use Rattle.protocol.specs.Sizes.{count_fits}
use Rattle.refusals.specs.declared.Refusal.{Refusal}
use Rattle.rules.specs.Answers.{finished, heard_or_finished, reply_of}
use Rattle.rules.specs.Tasks.{count_of, answer_count}
use Rattle.rules.specs.Batches.{each_job, party_of, joined_message, answers_given}
use Rattle.rules.specs.Calls.{outcome, heard_after}
use Rattle.rules.specs.declared.state.State.{State}
use Rattle.rules.specs.declared.state.Task.{Task}
use Rattle.rules.proofs.Batches.{count_most, each_same}
use Rattle.rules.proofs.Ranges.{ranged}
use Rattle.exchange.specs.Boxes.{works_of}
use Rattle.exchange.proofs.Exchanges.{more_own, more_others, last_own, last_others}
use Rattle.exchange.proofs.Course.{Course, course_first, course_width, course_sends, course_tells, course_next, course_last}
use Rattle.vectors.specs.declared.spelling.Spelling.{Spelling}
use Rattle.vectors.specs.Numbers.{spelled}
use Rattle.vectors.specs.Due.{Due}
use Rattle.vectors.specs.Job.{messages, held, messages_to, transcript, shares_in}
use Rattle.vectors.specs.Sent.{respelled_in}
use Rattle.vectors.proofs.Jobs.{ready_counted, shares_told}
use Rattle.vectors.proofs.Sent.{zeros_to, zeros_none, zeros_more, zeros_fit}
use Rattle.vectors.proofs.Given.{take_given}
use Rattle.vectors.proofs.Transcripts.{left, left_more, told_fails, told_last}

-- the boxes were f1 and f2, with works v1 and v2, when `text` was still unread, and their first messages were still to come
module _ (text : List ℕ) (spelling : Spelling) (first : ℕ) (f1 f2 : State) (t1 t2 v1 v2 : List ℕ) where
  abbrev task : Task
  task = f1.batch.task

  abbrev count : ℕ
  count = count_of task

  abbrev boxes1 : ℕ → Party
  boxes1 = party_of f1 t1

  abbrev boxes2 : ℕ → Party
  boxes2 = party_of f2 t2

  abbrev blanks : ℕ → Both
  blanks = works_of f1 f2 v1 v2

  -- both works of comparison i after so many rounds
  abbrev after : ℕ → ℕ → Both
  after = held boxes1 boxes2 blanks

  -- after so many rounds each is on its course, `rest` is still unread, and the messages before it had so many zeros respelled
  pub record Told (k : ℕ) (rest : List ℕ) (s1 s2 : State) (w1 w2 : List ℕ) (zeros : ℕ) : Type 0 where
    pub box1 : Course f1 first t1 k (λ i. (after k i).own) s1 w1
    pub box2 : Course f2 first t2 k (λ i. (after k i).others) s2 w2
    pub read : Some rest ≡ left text f1.n task boxes1 boxes2 blanks k
    pub counted : zeros ≡ zeros_to spelling count boxes1 boxes2 blanks k

  module _ (begun : Due first 1 f1 f2 t1 t2 v1 v2) where
    fits : count_fits count ≡ true
    fits = ready_counted begun.box1

    same_count : count ≡ count_of f2.batch.task
    same_count = ap count_of begun.task

    pub told_first : Told 0 text f1 f2 v1 v2 0
    unfolding messages_to spelled exchanged
    told_first =
        record {
          box1 = course_first f1 first t1 v1 begun.box1;
          box2 = course_first f2 first t2 v2 begun.box2;
          read = refl;
          counted = zeros_none spelling count boxes1 boxes2 blanks;
        }

    module _ {k : ℕ} {rest : List ℕ} {s1 s2 : State} {w1 w2 : List ℕ} {zeros : ℕ} (r : Told k rest s1 s2 w1 w2 zeros) where
      pub told_due : Due first (k + 1) s1 s2 t1 t2 w1 w2
      told_due =
          record {
            box1 = r.box1.due;
            box2 = r.box2.due;
            width = course_width r.box1 ∙ begun.width ∙ sym (course_width r.box2);
            side1 = ap (λ (s : State). s.side) r.box1.same ∙ begun.side1;
            side2 = ap (λ (s : State). s.side) r.box2.same ∙ begun.side2;
            task = ap (λ (s : State). s.batch.task) r.box1.same ∙ begun.task ∙ sym (ap (λ (s : State). s.batch.task) r.box2.same);
          }

      -- the messages that they send next are those of the exchange
      abbrev sent : List ℕ
      sent = joined_message s1 t1 w1 (k + 1) ++ joined_message s2 t2 w2 (k + 1)

      sends : sent ≡ messages count boxes1 boxes2 (after k) (k + 1)
      sends =
          ap₂ ◌++◌ (course_sends r.box1 (k + 1))
          (course_sends r.box2 (k + 1) ∙ ap (λ (c : ℕ). chained c (λ i. message (boxes2 i) (after k i).others (k + 1))) (sym same_count))

      reads : (o : Option (List ℕ)) → o ≡ spelled rest sent → o ≡ left text f1.n task boxes1 boxes2 blanks (k + 1)
      reads o e = e ∙ ap (spelled rest) sends ∙ sym (left_more text f1.n task boxes1 boxes2 blanks k rest r.read)

      pub told_counts : (more : ℕ) → more ≡ respelled_in spelling sent → zeros + more ≡ zeros_to spelling count boxes1 boxes2 blanks (k + 1)
      told_counts more e = zeros_more spelling count boxes1 boxes2 blanks k zeros more r.counted (e ∙ ap (respelled_in spelling) sends)

      -- so many zeros fit a word
      pub told_most : (more : ℕ) → more ≡ respelled_in spelling sent → zeros + more ≤ (k + 1) * 46224
      told_most more e =
          let width = (ranged f1 begun.box1.ranged).width in
          let few = (count_most count fits).1 in
          omega (
            arith,
            told_counts more e,
            zeros_fit spelling count boxes1 boxes2 blanks f1.n width few (λ i. refl) (λ i. sym begun.width) (k + 1),
          )

      -- a text that has not these messages tells no job
      pub told_none : k ≤ earlier_rounds → None ≡ spelled rest sent → spelled text (transcript f1.n task boxes1 boxes2 blanks) ≡ None
      told_none few none = told_fails text f1.n task boxes1 boxes2 blanks (k + 1) (omega (arith, few)) (sym (reads None none))

      -- one that has goes on after them with `rest'`, and both hear
      module _ {rest' : List ℕ} {s1' s2' : State} {w1' w2' : List ℕ} (heard1 heard2 : Result (Option (List ℕ)) Refusal) (more : ℕ)
          (read : Some rest' ≡ spelled rest sent) (here : more ≡ respelled_in spelling sent)
          (hears1 : outcome (reply_of heard_or_finished heard1) s1' w1' ≡ heard_after s1 t1 w1 (k + 1) (joined_message s2 t2 w2 (k + 1)))
          (hears2 : outcome (reply_of heard_or_finished heard2) s2' w2' ≡ heard_after s2 t2 w2 (k + 1) (joined_message s1 t1 w1 (k + 1))) where
        pub told_next : k < earlier_rounds → Told (k + 1) rest' s1' s2' w1' w2' (zeros + more)
        told_next less =
            record {
              box1 =
                  course_next r.box1 _ _ (course_tells r.box2 f1.n count begun.width same_count (k + 1)) _ s1' _ less hears1 _
                  (λ i. more_own (boxes1 i) (boxes2 i) (blanks i) k);
              box2 =
                  course_next r.box2 _ _ (course_tells r.box1 f2.n (count_of f2.batch.task) (sym begun.width) (sym same_count) (k + 1)) _ s2' _ less hears2 _
                  (λ i. more_others (boxes1 i) (boxes2 i) (blanks i) k);
              read = reads (Some rest') read;
              counted = told_counts more here;
            }

    -- after the last round both give their answer shares, and those decide
    module _ {rest rest' : List ℕ} {s1 s2 s1' s2' : State} {w1 w2 w1' w2' : List ℕ} {zeros : ℕ} (r : Told earlier_rounds rest s1 s2 w1 w2 zeros)
        (heard1 heard2 : Result (Option (List ℕ)) Refusal)
        (read : Some rest' ≡ spelled rest (joined_message s1 t1 w1 last_round ++ joined_message s2 t2 w2 last_round))
        (hears1 : outcome (reply_of heard_or_finished heard1) s1' w1' ≡ heard_after s1 t1 w1 last_round (joined_message s2 t2 w2 last_round))
        (hears2 : outcome (reply_of heard_or_finished heard2) s2' w2' ≡ heard_after s2 t2 w2 last_round (joined_message s1 t1 w1 last_round)) where
      abbrev own : ℕ → ℕ
      own i = answer_own (boxes1 i) (boxes2 i) (blanks i)

      abbrev others : ℕ → ℕ
      others i = answer_others (boxes1 i) (boxes2 i) (blanks i)

      shares1 : shares_in heard1 ≡ Some (answers_given f1.n 1 task (each_job count own))
      shares1 =
          shares_told heard1 _
          (course_last r.box1 _ _ (course_tells r.box2 f1.n count begun.width same_count last_round) _ s1' w1' refl hears1
          ∙ ap₂ (λ (side : ℕ) (each : List ℕ). finished (answers_given f1.n side task each)) begun.side1
          (each_same count _ own (λ i less. sym (last_own (boxes1 i) (boxes2 i) (blanks i)))))

      -- box 2's, by its own width and task, which are box 1's
      abbrev others_given : ℕ → Task → List ℕ
      others_given n task = answers_given n 2 task (each_job (count_of task) others)

      shares2 : shares_in heard2 ≡ Some (answers_given f1.n 2 task (each_job count others))
      shares2 =
          shares_told heard2 _
          (course_last r.box2 _ _ (course_tells r.box1 f2.n (count_of f2.batch.task) (sym begun.width) (sym same_count) last_round) _ s2' w2' refl hears2
          ∙ ap₂ (λ (side : ℕ) (each : List ℕ). finished (answers_given f2.n side f2.batch.task each)) begun.side2
          (each_same (count_of f2.batch.task) _ others (λ i less. sym (last_others (boxes1 i) (boxes2 i) (blanks i))))
          ∙ ap₂ (λ (n : ℕ) (task : Task). finished (others_given n task)) (sym begun.width) (sym begun.task))

      pub told_shares : (each : ℕ) → each ≡ answer_count task
          → option_and_then (λ a. option_and_then (λ b. spelled rest' (take each a ++ take each b)) (shares_in heard2)) (shares_in heard1)
          ≡ spelled text (transcript f1.n task boxes1 boxes2 blanks)
      told_shares each counted =
          rw (
            counted,
            shares1,
            shares2,
            take_given f1.n 1 task own fits,
            take_given f1.n 2 task others fits,
            told_last text f1.n task boxes1 boxes2 blanks rest' (reads r (Some rest') read),
          )
