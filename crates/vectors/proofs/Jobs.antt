-- When a box comes to a job, by what its start answered.
use Rattle.std.proofs.Common.{◌≡◌, ℕ, ◌+◌, ◌*◌, ◌<◌, ◌≤◌, Bool, true, false, ◌&&◌, cond, List, [], ◌∷◌, take, Option, Some, None, Result, Ok, Err, eqb, refl, sym, ap, ap₂, ◌∙◌, arith}
use mathlib.Core.Bool.{true≢false, false≢true}
use borrow.Author.Tests.{ne_eqb}
use Rattle.std.specs.Bool.{⊤}
use Rattle.std.specs.Option.{is_some, option_and_then}
use Rattle.std.specs.Result.{is_ok}
use Rattle.std.proofs.lemmas.List.{get_or-take}
use Rattle.lists.proofs.Tests.{and_left, and_right}
use Rattle.field.specs.Width.{listed}
use Rattle.refusals.specs.Numbers.{number_of}
use Rattle.refusals.specs.declared.Refusal.{Refusal}
use Rattle.refusals.proofs.Numbers.{numbered}
use Rattle.shares.specs.Share.{constant_share}
use Rattle.protocol.specs.Products.{party}
use Rattle.protocol.specs.Sizes.{count_fits, tape_for}
use Rattle.rules.specs.Answers.{started, finished, heard_or_finished, reply_of}
use Rattle.rules.specs.Tasks.{count_of, pairs_of, answer_count}
use Rattle.rules.specs.Batches.{x_in, y_in, tape_part, party_of}
use Rattle.rules.specs.Calls.{Result as Called, outcome}
use Rattle.rules.specs.Modes.{is_asleep}
use Rattle.rules.specs.declared.state.State.{State}
use Rattle.rules.specs.declared.state.Task.{Task}
use Rattle.rules.specs.declared.state.Task.TheVariants.{Compare, Band}
use Rattle.rules.specs.declared.state.Turn.{Turn}
use Rattle.rules.specs.declared.state.Turn.TheVariants.{Speak}
use Rattle.rules.proofs.Batches.{count_most}
use Rattle.rules.proofs.Ranges.{range_mode, job_range}
use Rattle.exchange.specs.Opening.{first_state, refusal_of, begun}
use Rattle.exchange.specs.Boxes.{Ready}
use Rattle.exchange.specs.Rooms.{blank_works}
use Rattle.exchange.proofs.Begun.{Begun, begun_party, begin_ready}
use Rattle.vectors.specs.declared.head.Form.{Form}
use Rattle.vectors.specs.declared.head.Job.{Job}
use Rattle.vectors.specs.Numbers.{read_to, rest_after}
use Rattle.vectors.specs.Head.{head_words, list_words, job_in, past_job}
use Rattle.vectors.specs.Job.{unused_tally, shares_in, comes, party_at, tapes_told, agreed}

-- ---- a box that came to it

went : (answer : Result ⊤ Refusal) → eqb (refusal_of (reply_of (λ _. started) answer)) 0 ≡ is_ok answer
went (Ok _) = refl
went (Err refusal) = ne_eqb (number_of refusal) 0 (λ zero. omega (arith, zero, numbered refusal))

no_refusal : (answer : Result ⊤ Refusal) → true ≡ is_ok answer → refusal_of (reply_of (λ _. started) answer) ≡ 0
no_refusal (Ok _) e = refl
no_refusal (Err refusal) e = absurd (true≢false e)

-- the shares of comparison i are those of the list
lent_pairs : (side : ℕ) (task : Task) (list : List ℕ) (i : ℕ) → i < count_of task
    → (x_in (pairs_of side task (take (list_words task) list)) i ≡ x_in (pairs_of side task list) i)
    × (y_in (pairs_of side task (take (list_words task) list)) i ≡ y_in (pairs_of side task list) i)
lent_pairs side (Compare count) list i less =
    (get_or-take (2 * count) list (2 * i) 0 (omega (arith, less)), get_or-take (2 * count) list (2 * i + 1) 0 (omega (arith, less)))
lent_pairs side (Band low high) list i less =
    let same = ap (λ (a : ℕ). constant_share side low ∷ a ∷ a ∷ constant_share side high ∷ []) (get_or-take 1 list 0 0 (omega arith)) in
    (ap (λ (pairs : List ℕ). x_in pairs i) same, ap (λ (pairs : List ℕ). y_in pairs i) same)

module _ (job : Job) (side : ℕ) (list tapes work tally : List ℕ) (answer : Result ⊤ Refusal) (s : State) (tally' : List ℕ) (words : ℕ)
    (counted : words ≡ list_words job.task)
    (call : outcome (reply_of (λ _. started) answer) s tally'
    ≡ begun first_state job.n side job.pair job.first job.task (take words list) tapes work tally) where
  pub begun_comes : work ≡ blank_works → tally ≡ unused_tally → comes job side list tapes ≡ is_ok answer
  begun_comes w t =
      let shares = take (list_words job.task) list in
      let same : begun first_state job.n side job.pair job.first job.task (take words list) tapes work tally
      ≡ begun first_state job.n side job.pair job.first job.task shares tapes blank_works unused_tally = rw (counted, w, t) in
      ap (λ (r : Called). eqb (refusal_of r.reply) 0) (sym (call ∙ same)) ∙ went answer

  module _ (came : true ≡ is_ok answer) where
    begins : Begun job.n side job.pair job.first job.task (take (list_words job.task) list) tapes work tally s
    begins =
        begin_ready job.n side job.pair job.first job.task (take (list_words job.task) list) tapes work tally _ s tally' (rw counted at call)
        (no_refusal answer came)

    pub begun_ready : Ready s job.first (Speak 1) tapes work
    begun_ready = begins.ready

    pub begun_same : (s.n ≡ job.n) × (s.side ≡ side) × (s.batch.task ≡ job.task)
    begun_same = (ap (λ (b : State). b.n) begins.state, ap (λ (b : State). b.side) begins.state, ap (λ (b : State). b.batch.task) begins.state)

    pub begun_parties : (i : ℕ) → i < count_of job.task → party_of s tapes i ≡ party_at job side list tapes i
    begun_parties i less =
        let same = lent_pairs side job.task list i less in
        begun_party begins i less ∙ ap₂ (λ (x y : ℕ). party job.n side x y (tape_part job.n tapes i)) same.0 same.1

-- it is in 1 to 8 of them
pub ready_counted : {s : State} {first : ℕ} {turn : Turn} {tapes work : List ℕ} → Ready s first turn tapes work
    → count_fits (count_of s.batch.task) ≡ true
ready_counted {s} r = (job_range s (ap is_asleep (range_mode s r.ranged ∙ r.job)) r.job).counted

-- a box gives no more answer shares than it has comparisons
pub answers_few : (task : Task) → count_of task ≤ 8 → answer_count task ≤ 8
answers_few (Compare count) few = few
answers_few (Band low high) few = omega arith

-- a hear whose reply is answer shares gave them
pub shares_told : (answer : Result (Option (List ℕ)) Refusal) (words : List ℕ) → reply_of heard_or_finished answer ≡ finished words
    → shares_in answer ≡ Some words
shares_told (Ok (Some own)) words told = ap Some (cc)
shares_told (Ok None) words told = absurd (cc)
shares_told (Err refusal) words told = absurd (cc)

-- ---- a text that agrees

-- only a listed width is told
pub tapes_width : (text : List ℕ) (job : Job) → tapes_told text job ≡ true → listed job.n ≡ true
unfolding tapes_told
tapes_width text job e =
    let words = tape_for job.n (count_of job.task) in
    let read1 = is_some (read_to words text) in
    let read2 = is_some (read_to words (rest_after words text)) in
    and_left (listed job.n) read1 (and_left (listed job.n && read1) read2 (and_left (listed job.n && read1 && read2) _ e))

pub agreed_width : (form : Form) (text : List ℕ) → agreed form text ≡ true → listed (job_in form text).n ≡ true
unfolding agreed
agreed_width form text e = tapes_width _ (job_in form text) (and_right (is_some (past_job form text)) _ e)

only_if : {A B : Type 0} (t : Bool) (f : A → Option B) (o : Option A) → is_some (option_and_then (λ x. cond t (f x) None) o) ≡ true → t ≡ true
only_if true f o e = refl
only_if false f None e = absurd (false≢true e)
only_if false f (Some x) e = absurd (false≢true e)

-- and only 1 to 8 comparisons
pub agreed_few : (form : Form) (text : List ℕ) → agreed form text ≡ true → count_of (job_in form text).task ≤ 8
unfolding agreed past_job
agreed_few form text e =
    let count = count_of (job_in form text).task in
    (count_most count (only_if (count_fits count) _ (read_to (head_words form) text) (and_left (is_some (past_job form text)) _ e))).1
