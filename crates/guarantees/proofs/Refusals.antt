-- The same refusal in both runs: low-equivalent states, given tapes, shares and words that the tests do not tell apart. A call's grounds come
-- in a chain, and where one list of them lets the call pass, it is known in the next what that list asked.
use Prim.Native.Nat.{ℕ, zero, suc, ◌+◌, ◌*◌, ◌<◌}
use mathlib.Core.Path.{◌≡◌, refl, sym, ◌∙◌}
use mathlib.Core.Bool.{Bool, true, false, ◌&&◌, true≢false}
use mathlib.Core.List.{List, [], ◌∷◌, ◌++◌}
use mathlib.Core.Logic.{◌⊎◌, inl, inr}
use native.Mathlib.Omega.{arith}
use borrow.Author.Tests.{eqb-true, not-false}
use lib.Dec.{ltb}
use lib.ListN.{length, get_or}
use Rattle.lists.specs.Every.{every}
use Rattle.lists.specs.Joined.{chained}
use Rattle.lists.proofs.Every.{every_same}
use Rattle.field.specs.Width.{modulus}
use Rattle.protocol.specs.Sizes.{count_fits, tape_for}
use Rattle.refusals.specs.Grounds.{Ground, earliest_of, joined}
use Rattle.refusals.proofs.Chains.{none, nones, first_some, first_none}
use Rattle.rules.specs.Tasks.{count_of, pairs_of}
use Rattle.rules.specs.Modes.{mode_of, is_asleep}
use Rattle.rules.specs.Grounds.{idle_grounds, job_grounds, due_grounds, tapes_long, tape_ordered, tapes_grounds, room_grounds, word_grounds, words_fit, message_fits, asked_parts, one_parts, start_parts, turn_parts, turn_grounds, wake_ground, start_ground, speak_ground, hear_ground, drop_ground}
use Rattle.rules.specs.declared.state.Task.{Task}
use Rattle.rules.specs.declared.state.Task.TheVariants.{Compare, Band}
use Rattle.rules.specs.declared.state.Turn.{Turn}
use Rattle.rules.specs.declared.state.Turn.TheVariants.{Speak, Hear}
use Rattle.rules.specs.declared.state.State.{State}
use Rattle.rules.proofs.Ranges.{due_job, job_range}
use Rattle.guarantees.proofs.LowEquivalence.{LowState}
use Rattle.guarantees.proofs.LowModes.{mode_same, asleep_same, due_same}

-- ---- chains of grounds that come to the same

pub chain_same : (gs gs' hs hs' : List Ground) → earliest_of gs ≡ earliest_of gs' → (earliest_of gs ≡ 0 → earliest_of hs ≡ earliest_of hs')
    → earliest_of (gs ++ hs) ≡ earliest_of (gs' ++ hs')
chain_same gs gs' hs hs' front back = go (earliest_of gs) refl
  where
    go : (k : ℕ) → earliest_of gs ≡ k → earliest_of (gs ++ hs) ≡ earliest_of (gs' ++ hs')
    go zero q = first_none gs hs q ∙ back q ∙ sym (first_none gs' hs' (sym front ∙ q))
    go (suc k) q = first_some gs hs (suc k) q (omega arith) ∙ sym (first_some gs' hs' (suc k) (sym front ∙ q) (omega arith))

-- short lists one after the other, each the same where those before it let the call pass
data Same : List (List Ground) → List (List Ground) → Type 0 where
  done : Same [] []
  next : {gs gs' : List Ground} {parts parts' : List (List Ground)} → earliest_of gs ≡ earliest_of gs' → (earliest_of gs ≡ 0 → Same parts parts')
      → Same (gs ∷ parts) (gs' ∷ parts')

joined_same : {parts parts' : List (List Ground)} → Same parts parts' → earliest_of (joined parts) ≡ earliest_of (joined parts')
joined_same done = refl
joined_same (next {gs} {gs'} {parts} {parts'} here later) =
    chain_same gs gs' (joined parts) (joined parts') here (λ passed. joined_same (later passed))

each_same : (count : ℕ) (f f' : ℕ → List Ground) → ((i : ℕ) → i < count → earliest_of (f i) ≡ earliest_of (f' i))
    → earliest_of (chained count f) ≡ earliest_of (chained count f')
each_same zero f f' h = refl
each_same (suc k) f f' h =
    chain_same (chained k f) (chained k f') (f k) (f' k) (each_same k f f' (λ i less. h i (omega arith))) (λ passed. h k (omega arith))

-- ---- what is lent

-- as many words; and where they are tapes for 1 to 8 jobs, each job's part is in order in both or in neither
pub record TapesAlike (s : State) (first count : ℕ) (tapes tapes' : List ℕ) : Type 0 where
  pub long : length tapes ≡ length tapes'
  pub ordered : count_fits count ≡ true → length tapes ≡ tape_for s.n count
      → (i : ℕ) → i < count → tape_ordered s first tapes i ≡ tape_ordered s first tapes' i

-- asleep, where no share is looked at, or below p alike
abbrev pub ShareAlike : State → ℕ → ℕ → Type 0
ShareAlike s v v' = (is_asleep (mode_of s) ≡ true) ⊎ (ltb v (modulus s.n) ≡ ltb v' (modulus s.n))

-- as many shares; past them stands 0 in both
abbrev pub SharesAlike : State → List ℕ → List ℕ → Type 0
SharesAlike s shares shares' = (length shares ≡ length shares') × ((i : ℕ) → ShareAlike s (get_or shares i 0) (get_or shares' i 0))

-- so are the shares of x and y that they give: those of a band's bounds are the same in both runs, and it takes one from the list
pairs_alike : (s : State) (side : ℕ) (task : Task) (shares shares' : List ℕ) → SharesAlike s shares shares'
    → SharesAlike s (pairs_of side task shares) (pairs_of side task shares')
pairs_alike s side (Compare count) shares shares' a = a
pairs_alike s side (Band low high) shares shares' a = (refl, each)
  where
    each : (i : ℕ) → ShareAlike s (get_or (pairs_of side (Band low high) shares) i 0) (get_or (pairs_of side (Band low high) shares') i 0)
    each zero = inr refl
    each (suc zero) = a.1 0
    each (suc (suc zero)) = a.1 0
    each (suc (suc (suc i))) = inr refl

-- awake
share_same : (s : State) (v v' : ℕ) → is_asleep (mode_of s) ≡ false → ShareAlike s v v' → ltb v (modulus s.n) ≡ ltb v' (modulus s.n)
share_same s v v' awake (inl asleep) = absurd (true≢false (sym asleep ∙ awake))
share_same s v v' awake (inr same) = same

-- what is asked has a count that fits
asked_counted : (s : State) (task : Task) (shares tally : List ℕ) → earliest_of (joined (asked_parts s task shares tally)) ≡ 0
    → count_fits (count_of task) ≡ true
unfolding count_fits
asked_counted s (Compare count) shares tally asked = not-false (count_fits count) (nones (asked_parts s (Compare count) shares tally) asked).0.0
asked_counted s (Band low high) shares tally asked = refl

-- ---- the five calls

module _ {s s' : State} (t : LowState s s') where
  pub wake_same : (n side : ℕ) (tally : List ℕ) → wake_ground s n side tally ≡ wake_ground s' n side tally
  unfolding wake_ground
  wake_same n side tally = rw (asleep_same t)

  pub drop_same : drop_ground s ≡ drop_ground s'
  unfolding drop_ground
  drop_same = rw (mode_same t)

  -- ---- tapes, by either state

  ordered_low : (first : ℕ) (tapes : List ℕ) (i : ℕ) → tape_ordered s first tapes i ≡ tape_ordered s' first tapes i
  ordered_low first tapes i = rw (t.n, t.side, t.pair) refl

  long_same : (first count : ℕ) (tapes tapes' : List ℕ) → TapesAlike s first count tapes tapes' → tapes_long s count tapes ≡ tapes_long s' count tapes'
  long_same first count tapes tapes' a = rw (a.long, t.n) refl

  -- a test of all the parts, which counts where they are tapes
  parts_same : (first count : ℕ) (tapes tapes' : List ℕ) → TapesAlike s first count tapes tapes' → (u u' : Bool)
      → (((i : ℕ) → i < count → tape_ordered s first tapes i ≡ tape_ordered s' first tapes' i) → u ≡ u') → count_fits count ≡ true
      → tapes_long s count tapes && u ≡ tapes_long s' count tapes' && u'
  parts_same first count tapes tapes' a u u' each counted = rw (← long_same first count tapes tapes' a) (go (tapes_long s count tapes) refl)
    where
      go : (b : Bool) → tapes_long s count tapes ≡ b → b && u ≡ b && u'
      go true q =
          each
          (λ i less. a.ordered counted (eqb-true (length tapes) (tape_for s.n count) q) i less ∙ ordered_low first tapes' i)
      go false q = refl

  -- ---- start

  asked_same : (task : Task) (shares shares' tally : List ℕ) → length shares ≡ length shares'
      → earliest_of (joined (asked_parts s task shares tally)) ≡ earliest_of (joined (asked_parts s' task shares' tally))
  asked_same (Compare count) shares shares' tally long = rw (long, t.tally) refl
  asked_same (Band low high) shares shares' tally long = rw (t.n, t.tally) refl

  module _ (first : ℕ) (task : Task) (shares shares' tapes tapes' work work' tally : List ℕ)
      (tapes_alike : TapesAlike s first (count_of task) tapes tapes') (shares_alike : SharesAlike s shares shares') (room : length work ≡ length work') where
    one_same : is_asleep (mode_of s) ≡ false → count_fits (count_of task) ≡ true → (i : ℕ) → i < count_of task
        → earliest_of (joined (one_parts s first (count_of task) (pairs_of s.side task shares) tapes tally i))
        ≡ earliest_of (joined (one_parts s' first (count_of task) (pairs_of s'.side task shares') tapes' tally i))
    one_same awake counted i less =
        let a = (pairs_alike s s'.side task shares shares' shares_alike).1 in
        rw (
          parts_same first (count_of task) tapes tapes' tapes_alike (tape_ordered s first tapes i) (tape_ordered s' first tapes' i) (λ h. h i less)
              counted,
          t.side,
          share_same s _ _ awake (a (2 * i)),
          share_same s _ _ awake (a (2 * i + 1)),
          t.n,
        )
        refl

    pub start_same : start_ground s first task shares tapes work tally ≡ start_ground s' first task shares' tapes' work' tally
    unfolding start_ground
    start_same = joined_same same
      where
        same : Same (start_parts s first task shares tapes work tally) (start_parts s' first task shares' tapes' work' tally)
        same =
            next (rw (mode_same t) refl)
            (λ idle.
            next (asked_same task shares shares' tally shares_alike.0)
            (λ asked.
            next
            (each_same (count_of task) _ _
            (one_same (none (idle_grounds (mode_of s)) idle).0 (asked_counted s task shares tally asked)))
            (λ passed. next (rw (room, t.n) refl) (λ end. done))))

  -- ---- speak and hear

  -- the job that is due has a count that fits
  due_counted : (first : ℕ) (turn : Turn) → earliest_of (job_grounds (mode_of s)) ≡ 0 → earliest_of (due_grounds s first turn) ≡ 0
      → count_fits (count_of s.batch.task) ≡ true
  due_counted first turn job is_next =
      let awake = (none (job_grounds (mode_of s)) job).0 in
      let due = due_job s first turn awake (not-false _ (none (due_grounds s first turn) is_next).0) in
      (job_range s awake due.job).counted

  module _ (first : ℕ) (turn : Turn) (tapes tapes' work work' buffer buffer' : List ℕ)
      (tapes_alike : TapesAlike s s.batch.first (count_of s.batch.task) tapes tapes') (room : length work ≡ length work')
      (long : length buffer ≡ length buffer') where
    pub turn_same : earliest_of (turn_grounds s first turn tapes work buffer) ≡ earliest_of (turn_grounds s' first turn tapes' work' buffer')
    turn_same = joined_same same
      where
        ordered_same : count_fits (count_of s.batch.task) ≡ true → earliest_of (tapes_grounds s tapes) ≡ earliest_of (tapes_grounds s' tapes')
        ordered_same counted =
            rw (
              ← t.first,
              ← t.task,
              parts_same s.batch.first (count_of s.batch.task) tapes tapes' tapes_alike (every (count_of s.batch.task) (tape_ordered s s.batch.first tapes))
                  (every (count_of s.batch.task) (tape_ordered s' s.batch.first tapes')) (every_same (count_of s.batch.task) _ _) counted,
            )
            refl

        room_same : earliest_of (room_grounds s.n (count_of s.batch.task) work (message_fits s.n (count_of s.batch.task) turn (length buffer)))
            ≡ earliest_of (room_grounds s'.n (count_of s'.batch.task) work' (message_fits s'.n (count_of s'.batch.task) turn (length buffer')))
        room_same = rw (room, long, t.n, t.task) refl

        same : Same (turn_parts s first turn tapes work buffer) (turn_parts s' first turn tapes' work' buffer')
        same =
            next (rw (mode_same t) refl)
            (λ job.
            next (rw (due_same first turn t) refl)
            (λ is_next.
            next (ordered_same (due_counted first turn job is_next))
            (λ ordered. next room_same (λ end. done))))

  pub speak_same : (first round : ℕ) (tapes tapes' work work' out : List ℕ) → TapesAlike s s.batch.first (count_of s.batch.task) tapes tapes'
      → length work ≡ length work' → speak_ground s first round tapes work out ≡ speak_ground s' first round tapes' work' out
  unfolding speak_ground
  speak_same first round tapes tapes' work work' out tapes_alike room =
      turn_same first (Speak round) tapes tapes' work work' out out tapes_alike room refl

  -- where every ground before the words lets the hear pass, the words decide
  pub hear_same : (first round : ℕ) (tapes tapes' work work' incoming incoming' : List ℕ) → TapesAlike s s.batch.first (count_of s.batch.task) tapes tapes'
      → length work ≡ length work' → length incoming ≡ length incoming'
      → (earliest_of (turn_grounds s first (Hear round) tapes work incoming) ≡ 0 → words_fit s.n incoming ≡ words_fit s.n incoming')
      → hear_ground s first round tapes work incoming ≡ hear_ground s' first round tapes' work' incoming'
  unfolding hear_ground
  hear_same first round tapes tapes' work work' incoming incoming' tapes_alike room long words =
      chain_same (turn_grounds s first (Hear round) tapes work incoming) (turn_grounds s' first (Hear round) tapes' work' incoming')
      (word_grounds s.n incoming) (word_grounds s'.n incoming')
      (turn_same first (Hear round) tapes tapes' work work' incoming incoming' tapes_alike room long)
      (λ passed. rw (words passed, t.n) refl)
