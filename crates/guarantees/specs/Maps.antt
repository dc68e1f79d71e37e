-- The maps of the pairing. They are a device of the proof of demand 3 and stand here so that a wrong map can be tried; no statement names
-- them. The tape of a number and width is shifted as the shares ask that were lent for it at the start that took it.
use Rattle.std.specs.Prelude.{ℕ, suc, ◌+◌, ◌-◌, ◌%◌, Bool, true, false, ◌&&◌, cond, List, [], ◌∷◌, map, leb, ltb}
use Rattle.field.specs.Width.{modulus}
use Rattle.protocol.specs.Change.{Shares, shares_of}
use Rattle.protocol.specs.Shift.{shifted}
use Rattle.rules.specs.Tasks.{count_of, pairs_of}
use Rattle.rules.specs.Batches.{x_in, y_in}
use Rattle.guarantees.specs.Boxes.{Box, box1, box2, side_of, other_box}
use Rattle.guarantees.specs.Keys.{Key}
use Rattle.guarantees.specs.Run.{Lending, Event, event_at}
use Rattle.guarantees.specs.Outcomes.{kind_of, is_opening}
use Rattle.guarantees.specs.Comparison.{Common, TapeMap}

-- ---- where in a log a tape was taken

abbrev pub same_box : Box → Box → Bool
same_box box1 box1 = true
same_box box1 box2 = false
same_box box2 box1 = false
same_box box2 box2 = true

-- a start of that box that was not refused and took that number
abbrev pub takes : Box → ℕ → Event → Bool
takes b number e = same_box b e.box && leb e.key.first number && ltb number (e.key.first + count_of e.key.task) && is_opening (kind_of e.said)

-- the place of that start, or the log's length where there is none
abbrev pub taken_at : List Event → Box → ℕ → ℕ
taken_at [] b number = 0
taken_at (e ∷ es) b number = cond (takes b number e) 0 (suc (taken_at es b number))

-- the job that it opened
abbrev pub key_found : List Event → Box → ℕ → Key
key_found log b number = (event_at log (taken_at log b number)).key

-- ---- the maps

-- shares in range in any case
abbrev pub clip : ℕ → Lending → Lending
clip n vs = map (λ v. v % modulus n) vs

-- box b's shares for a tape, and the other box's of that job. Where the other box has that first number in another job, no message of b's job is ever true,
-- and any shares do
abbrev pub tape_shares : Common → Box → List Event → (ℕ → Lending) → ℕ → ℕ → Shares
tape_shares c b log shares number n =
    let key = key_found log b number in
    let i = number - key.first in
    let own = clip n (pairs_of (side_of b) key.task (shares (taken_at log b number))) in
    let others = clip n (pairs_of (side_of (other_box b)) key.task (c.lendings (taken_at log (other_box b) key.first))) in
    shares_of n (side_of b) (x_in own i) (y_in own i) (x_in others i) (y_in others i)

abbrev pub moved : Common → Box → List Event → (ℕ → Lending) → (ℕ → Lending) → TapeMap
moved c b log shares shares' number n tape =
    shifted (tape_shares c b log shares number n) (tape_shares c b log shares' number n) tape (c.others number n)

-- from the first shares to the second, and from the second to the first
abbrev pub there_by : Common → Box → List Event → (ℕ → Lending) → (ℕ → Lending) → TapeMap
there_by c b log shares shares' = moved c b log shares shares'

abbrev pub back_by : Common → Box → List Event → (ℕ → Lending) → (ℕ → Lending) → TapeMap
back_by c b log shares shares' = moved c b log shares' shares
