-- What the kind of an entry's outcome tells, and what a covered one still shows.
use Prim.Native.Nat.{ℕ}
use mathlib.Core.Path.{◌≡◌, refl, sym, ap, ◌∙◌}
use mathlib.Core.Bool.{Bool, true, false, cond, false≢true}
use mathlib.Core.List.{List, []}
use Rattle.rules.specs.Answers.{fresh, started, spoke, heard, finished, dropped, refused}
use Rattle.rules.specs.Modes.{mode_of, in_job}
use Rattle.rules.specs.declared.state.State.{State}
use Rattle.guarantees.specs.Boxes.{Box, box1, box2, other_box}
use Rattle.guarantees.specs.Run.{Said, nothing, lost, replied, cut_said}
use Rattle.guarantees.specs.View.{covered, said_at}
use Rattle.guarantees.specs.Outcomes.{Kind, opening, message, answer, plain, kind_of, is_opening}

abbrev pub is_message : Kind → Bool
is_message opening = false
is_message message = true
is_message answer = false
is_message plain = false

abbrev pub is_answer : Kind → Bool
is_answer opening = false
is_answer message = false
is_answer answer = true
is_answer plain = false

-- ---- by cases, once

pub record MessageOf (s : Said) : Type 0 where
  pub count : ℕ
  pub is : s ≡ replied (spoke count)

pub record AnswerOf (s : Said) : Type 0 where
  pub values : List ℕ
  pub is : s ≡ replied (finished values)

abbrev pub OfKind : Said → Kind → Type 0
OfKind s opening = s ≡ replied started
OfKind s message = MessageOf s
OfKind s answer = AnswerOf s
OfKind s plain = Unit {0}

record Known (s : Said) : Type 0 where
  of_kind : OfKind s (kind_of s)
  -- covered, it is of the same kind, and the same if it is no answer
  kept : kind_of (covered s) ≡ kind_of s
  shown : is_answer (kind_of s) ≡ false → covered s ≡ s

known : (s : Said) → Known s
known nothing = record { of_kind = tt; kept = refl; shown = λ e. refl }
known lost = record { of_kind = tt; kept = refl; shown = λ e. refl }
known (replied (fresh k)) = record { of_kind = tt; kept = refl; shown = λ e. refl }
known (replied started) = record { of_kind = refl; kept = refl; shown = λ e. refl }
known (replied (spoke k)) = record { of_kind = record { count = k; is = refl }; kept = refl; shown = λ e. refl }
known (replied heard) = record { of_kind = tt; kept = refl; shown = λ e. refl }
known (replied (finished vs)) = record { of_kind = record { values = vs; is = refl }; kept = refl; shown = λ e. absurd (false≢true (sym e)) }
known (replied dropped) = record { of_kind = tt; kept = refl; shown = λ e. refl }
known (replied (refused k)) = record { of_kind = tt; kept = refl; shown = λ e. refl }

-- a cut is nothing of a job's exchange
pub cut_plain : (s : State) → kind_of (cut_said s) ≡ plain
cut_plain s = go (in_job (mode_of s))
  where
    go : (t : Bool) → kind_of (cond t lost nothing) ≡ plain
    go true = refl
    go false = refl

-- ---- what a kind tells

pub opening_of : (s : Said) → is_opening (kind_of s) ≡ true → s ≡ replied started
opening_of s = go (kind_of s) (known s).of_kind
  where
    go : (k : Kind) → OfKind s k → is_opening k ≡ true → s ≡ replied started
    go opening is e = is
    go message is e = absurd (false≢true e)
    go answer is e = absurd (false≢true e)
    go plain is e = absurd (false≢true e)

pub message_of_lem : (s : Said) → is_message (kind_of s) ≡ true → MessageOf s
message_of_lem s = go (kind_of s) (known s).of_kind
  where
    go : (k : Kind) → OfKind s k → is_message k ≡ true → MessageOf s
    go opening is e = absurd (false≢true e)
    go message is e = is
    go answer is e = absurd (false≢true e)
    go plain is e = absurd (false≢true e)

answer_of : (s : Said) → is_answer (kind_of s) ≡ true → AnswerOf s
answer_of s = go (kind_of s) (known s).of_kind
  where
    go : (k : Kind) → OfKind s k → is_answer k ≡ true → AnswerOf s
    go opening is e = absurd (false≢true e)
    go message is e = absurd (false≢true e)
    go answer is e = is
    go plain is e = absurd (false≢true e)

-- an answer has one list of shares
pub shares_are : {vs vs' : List ℕ} → replied (finished vs) ≡ replied (finished vs') → vs ≡ vs'
unfolding known
shares_are e = ap shares_in e
  where
    shares_in : Said → List ℕ
    shares_in s = given (kind_of s) (known s).of_kind
      where
        given : (k : Kind) → OfKind s k → List ℕ
        given opening is = []
        given message is = []
        given answer is = is.values
        given plain is = []

-- ---- the same but for answer shares

pub kind_same : (s s' : Said) → covered s ≡ covered s' → kind_of s ≡ kind_of s'
kind_same s s' e = sym (known s).kept ∙ ap kind_of e ∙ (known s').kept

-- and these the same too
pub uncover : (s s' : Said) → covered s ≡ covered s' → ((vs vs' : List ℕ) → s ≡ replied (finished vs) → s' ≡ replied (finished vs') → vs ≡ vs') → s ≡ s'
uncover s s' e shares = go (is_answer (kind_of s)) refl
  where
    too : is_answer (kind_of s') ≡ is_answer (kind_of s)
    too = ap is_answer (sym (kind_same s s' e))

    go : (t : Bool) → is_answer (kind_of s) ≡ t → s ≡ s'
    go false q = sym ((known s).shown q) ∙ e ∙ (known s').shown (too ∙ q)
    go true q =
        let v = answer_of s q in
        let v' = answer_of s' (too ∙ q) in
        v.is ∙ ap (λ (vs : List ℕ). replied (finished vs)) (shares v.values v'.values v.is v'.is) ∙ sym v'.is

pub uncover_message : (s : Said) (k : ℕ) → covered s ≡ replied (spoke k) → s ≡ replied (spoke k)
uncover_message s k e = sym ((known s).shown (ap is_answer (sym (known s).kept ∙ ap kind_of e))) ∙ e

-- covered at a box or not, it is of the same kind
pub kind_at : (hidden own : Box) (s : Said) → kind_of (said_at hidden own s) ≡ kind_of s
kind_at box1 box1 s = (known s).kept
kind_at box1 box2 s = refl
kind_at box2 box1 s = refl
kind_at box2 box2 s = (known s).kept

pub said_at_lem : (hidden own : Box) (s s' : Said) → covered s ≡ covered s' → (own ≡ other_box hidden → s ≡ s') → said_at hidden own s ≡ said_at hidden own s'
said_at_lem box1 box1 s s' e whole = e
said_at_lem box1 box2 s s' e whole = whole refl
said_at_lem box2 box1 s s' e whole = whole refl
said_at_lem box2 box2 s s' e whole = e
