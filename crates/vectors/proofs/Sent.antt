-- The zeros of all that is sent, round after round.
use Rattle.std.proofs.Common.{◌≡◌, ℕ, zero, suc, ◌+◌, ◌*◌, ◌≤◌, true, List, [], length, length-append, refl, sym, ap, ap₂, ◌∙◌, arith}
use native.Mathlib.Numerals.{add-one}
use Rattle.lists.specs.Joined.{chained}
use Rattle.lists.proofs.Joined.{length_chained}
use Rattle.field.specs.Width.{listed}
use Rattle.protocol.specs.Products.{Party}
use Rattle.protocol.specs.Rounds.{last_round, round_words, message}
use Rattle.protocol.specs.Exchange.{Both}
use Rattle.protocol.proofs.Lengths.{message_length}
use Rattle.rules.proofs.Sizes.{round_most}
use Rattle.vectors.specs.declared.head.Form.{Form}
use Rattle.vectors.specs.declared.job.Agreement.{Agreement}
use Rattle.vectors.specs.declared.spelling.Spelling.{Spelling}
use Rattle.vectors.specs.Job.{messages, held, messages_to}
use Rattle.vectors.specs.Sent.{respelled_in, job_sent, tapes_sent, sent, Agreeing}
use Rattle.vectors.proofs.Carried.{respelled_append, respelled_most}
use Rattle.vectors.proofs.Jobs.{agreed_width, agreed_few}

module _ (spelling : Spelling) (count : ℕ) (box1 box2 : ℕ → Party) (w : ℕ → Both) where
  abbrev pub zeros_to : ℕ → ℕ
  zeros_to k = respelled_in spelling (messages_to count box1 box2 w k)

  pub zeros_none : 0 ≡ zeros_to 0
  unfolding messages_to
  zeros_none = omega (arith, respelled_most spelling [])

  -- one round more
  pub zeros_more : (k so_far more : ℕ) → so_far ≡ zeros_to k → more ≡ respelled_in spelling (messages count box1 box2 (held box1 box2 w k) (k + 1))
      → so_far + more ≡ zeros_to (k + 1)
  unfolding messages_to
  zeros_more k so_far more before here =
      ap₂ ◌+◌ before here
      ∙ rw (add-one k)
      (sym (respelled_append spelling (messages_to count box1 box2 w k) (messages count box1 box2 (held box1 box2 w k) (suc k))))

  -- a round has no more than two messages of the longest, eight comparisons joined
  module _ (n : ℕ) (width : listed n ≡ true) (few : count ≤ 8) (width1 : (i : ℕ) → (box1 i).n ≡ n) (width2 : (i : ℕ) → (box2 i).n ≡ n) where
    joined_most : (box : ℕ → Party) (own : (i : ℕ) → (box i).n ≡ n) (w : ℕ → List ℕ) (round : ℕ)
        → length (chained count (λ i. message (box i) (w i) round)) ≤ 23112
    joined_most box own w round =
        let long = length_chained count (round_words n round) (λ i. message (box i) (w i) round)
        (λ i less. message_length (box i) (w i) round ∙ ap (λ (k : ℕ). round_words k round) (own i)) in
        omega (arith, long, round_most n count width few round)

    sent_most : (k : ℕ) → length (messages_to count box1 box2 w k) ≤ k * 46224
    unfolding messages_to
    sent_most zero = omega arith
    sent_most (suc k) =
        let v = held box1 box2 w k in
        let m1 = chained count (λ i. message (box1 i) (v i).own (suc k)) in
        let m2 = chained count (λ i. message (box2 i) (v i).others (suc k)) in
        omega (
          arith,
          sent_most k,
          length-append (messages_to count box1 box2 w k) (messages count box1 box2 v (suc k)),
          length-append m1 m2,
          joined_most box1 width1 (λ i. (v i).own) (suc k),
          joined_most box2 width2 (λ i. (v i).others) (suc k),
        )

    pub zeros_fit : (k : ℕ) → zeros_to k ≤ k * 46224
    zeros_fit k = omega (arith, respelled_most spelling (messages_to count box1 box2 w k), sent_most k)

-- the zeros of a job that agrees fit a word
pub agreeing_small : {form : Form} {spelling : Spelling} {told : Agreement} → Agreeing form spelling told → told.zeros ≤ 231120
unfolding sent tapes_sent job_sent
agreeing_small {form = form} {spelling = spelling} a =
    let width = agreed_width form a.text a.agrees in
    let few = agreed_few form a.text a.agrees in
    rw a.respelled (zeros_fit spelling _ _ _ _ _ width few (λ i. refl) (λ i. refl) last_round)
