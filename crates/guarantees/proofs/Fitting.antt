-- The words spoken in a run can be read by a box of the width that they were spoken under, and so of any larger one.
use Prim.Native.Nat.{ℕ, zero, suc, ◌≤◌}
use mathlib.Core.Path.{◌≡◌, refl, sym, subst}
use mathlib.Core.Bool.{true}
use mathlib.Core.List.{List, [], ◌∷◌, ◌++◌}
use native.Mathlib.Omega.{arith}
use borrow.Author.Tests.{le-leb, leb-true}
use lib.ListN.{length, get_or}
use lib.Pow.{pow_mono}
use Rattle.lists.proofs.Every.{every_intro, every_at}
use Rattle.field.specs.Width.{modulus}
use Rattle.shares.specs.Reading.{legible}
use Rattle.rules.specs.Answers.{spoken_words}
use Rattle.rules.specs.Grounds.{words_fit, speak_ground}
use Rattle.rules.specs.Batches.{joined_message}
use Rattle.rules.specs.Calls.{speak_rule}
use Rattle.rules.specs.declared.state.State.{State}
use Rattle.rules.proofs.Decide.{decide}
use Rattle.rules.proofs.Passed.{speak_passed}
use Rattle.rules.proofs.Spoken.{spoken_front, message_fits_lem}
use Rattle.guarantees.specs.Boxes.{Box, box1, box2}
use Rattle.guarantees.specs.Entries.{Step, wake, start, speak, hear, drop, cut, cut_start}
use Rattle.guarantees.specs.Run.{Setting, Memory, replied, Event, World, memory_of, after, event_at, tape_words, stepped}
use Rattle.guarantees.specs.Outcomes.{kind_of}
use Rattle.guarantees.proofs.Outcomes.{is_message}

-- what was spoken fits every width from its own on; all else is no words
abbrev pub FitsFrom : Event → Type 0
FitsFrom e = (n : ℕ) → (is_message (kind_of e.said) ≡ true → e.key.width ≤ n) → words_fit n e.spoken ≡ true

abbrev pub Fitting : List Event → Type 0
Fitting log = (k : ℕ) → FitsFrom (event_at log k)

fits_none : (n : ℕ) → words_fit n [] ≡ true
fits_none n = every_intro 0 (λ i. legible n (get_or {A = ℕ} [] i 0)) (λ i less. absurd (omega (arith, less)))

pub fitting_first : Fitting []
fitting_first k n h = fits_none n

fitting_more : (log : List Event) (e : Event) → Fitting log → FitsFrom e → Fitting (log ++ (e ∷ []))
fitting_more [] e old new zero = new
fitting_more [] e old new (suc k) = λ n h. fits_none n
fitting_more (d ∷ log) e old new zero = old zero
fitting_more (d ∷ log) e old new (suc k) = fitting_more log e (λ i. old (suc i)) new k

fitting_after : (w : World) (c : Box) (m : Memory) (e : Event) → Fitting w.log → FitsFrom e → Fitting (after w c m e).log
fitting_after w box1 m e old new = fitting_more w.log e old new
fitting_after w box2 m e old new = fitting_more w.log e old new

-- ---- speaking

wider : (m n : ℕ) (words : List ℕ) → m ≤ n → words_fit m words ≡ true → words_fit n words ≡ true
unfolding modulus legible
wider m n words le fits =
    every_intro (length words) (λ i. legible n (get_or words i 0))
    (λ i less.
    let most = leb-true (get_or words i 0) (modulus m) (every_at (length words) (λ j. legible m (get_or words j 0)) fits i less) in
    le-leb (get_or words i 0) (modulus n) (omega (arith, most, pow_mono le)))

speak_fits : (s : State) (first round : ℕ) (tapes work out : List ℕ)
    → let r = speak_rule s first round tapes work out in
    (n : ℕ) → (is_message (kind_of (replied r.reply)) ≡ true → s.n ≤ n) → words_fit n (spoken_words r.reply r.buffer) ≡ true
unfolding speak_rule
speak_fits s first round tapes work out n =
    decide (λ r. (is_message (kind_of (replied r.reply)) ≡ true → s.n ≤ n) → words_fit n (spoken_words r.reply r.buffer) ≡ true)
    (speak_ground s first round tapes work out) s out _
    (λ zero_ground least.
    let p = speak_passed s first round tapes work out zero_ground in
    subst (λ (l : List ℕ). words_fit n l ≡ true) (sym (spoken_front s tapes work out round p.out_room))
    (wider s.n n (joined_message s tapes work round) (least refl) (message_fits_lem s tapes work round p.turn.sound.width)))
    (λ least. fits_none n)

pub fitting_next : (g : Setting) (place : ℕ) (w : World) (c : Box) (step : Step) → Fitting w.log → Fitting (stepped g place w c step).log
unfolding stepped
fitting_next g place w c (wake n side p) f = fitting_after w c _ _ f (λ m least. fits_none m)
fitting_next g place w c (start first task lent) f = fitting_after w c _ _ f (λ m least. fits_none m)
fitting_next g place w c (speak first round lent out) f =
    fitting_after w c _ _ f (speak_fits (memory_of w c).state first round (tape_words g lent) (memory_of w c).work out)
fitting_next g place w c (hear first round lent incoming) f = fitting_after w c _ _ f (λ m least. fits_none m)
fitting_next g place w c drop f = fitting_after w c _ _ f (λ m least. fits_none m)
fitting_next g place w c (cut room) f = fitting_after w c _ _ f (λ m least. fits_none m)
fitting_next g place w c (cut_start first task lent at mark room) f = fitting_after w c _ _ f (λ m least. fits_none m)
