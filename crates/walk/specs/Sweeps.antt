-- The sweeps: the bytes but FF, in each place of a tape's mark and of those above it, the words of a tape's body at width 3, the words of round 1 with an 8 and
-- with a 7 among them.
use Rattle.std.specs.Prelude.{ℕ, ◌+◌, ◌*◌, ◌/◌, ◌%◌, ◌≡◌, set}
use Rattle.lists.specs.Tabulate.{tabulate}
use Rattle.rules.specs.Calls.{hear_rule}
use Rattle.rules.specs.declared.state.Turn.TheVariants.{Hear}
use Rattle.exchange.specs.Opening.{refusal_of}
use Rattle.walk.specs.Walk.{idle_state, job_state, with_side, box_tape, fresh_tally, filler, one_start, HeardAsZeros}
use Rattle.walk.specs.declared.sweeps.Sweep.{Sweep}
use Rattle.walk.specs.declared.sweeps.Sweep.TheVariants.{Bytes, Above, Body, Words, Zeros}

-- how many places each has
abbrev pub places_of : Sweep → ℕ
places_of Bytes = 4 * 255
places_of Above = 12 * 255
places_of Body = 142
places_of Words = 33
places_of Zeros = 33

-- what must come of the call at a place: a start where a byte of tape 0's mark is not FF, one where a byte above it is not, a start on a tape with the word 7
-- there, a hear of zeros with an 8 there, and box 2's with a 7 there
abbrev pub RightAt : Sweep → ℕ → Type 0
RightAt Bytes place = refusal_of (one_start (idle_state 16) 0 5 1 (box_tape 1 0) (tabulate 100 (λ k. 0)) (set fresh_tally (place / 255) (place % 255))).reply ≡ 8
RightAt Above place = refusal_of (one_start (idle_state 16) 0 5 1 (box_tape 1 0) (tabulate 100 (λ k. 0)) (set fresh_tally (4 + place / 255) (place % 255))).reply ≡ 15
RightAt Body place = refusal_of (one_start (idle_state 16) 0 5 1 (set (box_tape 1 0) place 7) (tabulate 100 (λ k. 0)) fresh_tally).reply ≡ 10
RightAt Words place = refusal_of (hear_rule (job_state 16 (Hear 1)) 0 1 (box_tape 1 0) (filler 100) (set (tabulate 33 (λ k. 0)) place 8)).reply ≡ 13
RightAt Zeros place = HeardAsZeros (with_side (job_state 16 (Hear 1)) 2) 2 1 (tabulate 300 (λ k. 6)) (set (tabulate 33 (λ k. 0)) place 7)

-- of the first so many places, P holds at so many
pub data Counted (P : ℕ → Type 0) : ℕ → ℕ → Type 0 where
  none : Counted P 0 0
  here : {places right : ℕ} → Counted P places right → P places → Counted P (places + 1) (right + 1)
  not_here : {places right : ℕ} → Counted P places right → (P places → ⊥) → Counted P (places + 1) right
