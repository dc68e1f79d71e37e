-- The numbers of the jobs that a box opens only go up, proved: what is spent stays spent, and a start that is taken is above all that is spent.
use Prim.Native.Nat.{ℕ, suc, ◌+◌, ◌-◌, ◌<◌, ◌≤◌}
use mathlib.Core.Path.{◌≡◌, refl, sym, ap, subst, ◌∙◌}
use mathlib.Core.Bool.{Bool, true, false, true≢false}
use mathlib.Core.List.{List, [], ◌∷◌, ◌++◌, append_assoc}
use mathlib.Core.Logic.{◌⊎◌, inl, inr, ⊎_elim}
use native.Mathlib.Nat.{eq-or-lt_of_le}
use native.Mathlib.Omega.{arith}
use lib.ListN.{length}
use Rattle.tally.specs.Tally.{is_fresh}
use Rattle.tally.proofs.Late.{spent_below}
use Rattle.rules.specs.Tasks.{count_of}
use Rattle.rules.specs.Answers.{started}
use Rattle.guarantees.specs.Boxes.{Box}
use Rattle.guarantees.specs.Keys.{Key}
use Rattle.guarantees.specs.Entries.{Entry}
use Rattle.guarantees.specs.Run.{Setting, replied, Event, World, memory_of, event_at, stepped, run}
use Rattle.guarantees.specs.Outcomes.{kind_of, is_opening}
use Rattle.guarantees.specs.Correctness.{Happened}
use Rattle.guarantees.specs.OnlyUp.{SpentAt, OnlyUp}
use Rattle.guarantees.proofs.Logs.{event_at_lem}
use Rattle.guarantees.proofs.Openings.{takes_lem, Taken, OneMore, one_more, next_place, run_grows}

-- ---- one entry

spent_next : (w w' : World) → OneMore w w' → (b : Box) (number : ℕ) → SpentAt w b number → SpentAt w' b number
spent_next w w' one b number s =
    record { within = rw (one.same_length b) s.within; spent = go (is_fresh (memory_of w' b).tally number) refl }
  where
    go : (t : Bool) → is_fresh (memory_of w' b).tally number ≡ t → t ≡ false
    go true f = absurd (true≢false (sym (one.was_fresh b number f) ∙ s.spent))
    go false f = refl

-- what is taken is spent from then on
taken_spent : (w w' : World) → OneMore w w' → (b : Box) (number : ℕ) → Taken (memory_of w b).tally (memory_of w' b).tally number → SpentAt w' b number
taken_spent w w' one b number t = record { within = rw (one.same_length b) t.within; spent = t.spent }

-- and it is above what was spent
taken_above : (w : World) (b : Box) (after : List ℕ) (number k : ℕ) → Taken (memory_of w b).tally after k → SpentAt w b number → number < k
taken_above w b after number k t s = go (eq-or-lt_of_le (spent_below (memory_of w b).tally k number t.in_time s.within s.spent))
  where
    go : (number ≡ k) ⊎ (number < k) → number < k
    go (inl same) = absurd (true≢false (sym t.fresh ∙ ap (is_fresh (memory_of w b).tally) (sym same) ∙ s.spent))
    go (inr less) = less

-- ---- a run

module _ (g : Setting) where
  -- the event of a run's first entry
  first_event : (place : ℕ) (w : World) (e : Entry) (es : List Entry)
      → event_at (run g place w (e ∷ es)).log (length w.log) ≡ (one_more g place w e.box e.step).event
  first_event place w e es =
      let one = one_more g place w e.box e.step in
      let rest = run_grows g (suc place) (stepped g place w e.box e.step) es in
      ap (λ (l : List Event). event_at l (length w.log))
      (rest.is ∙ ap (λ (l : List Event). l ++ rest.more) one.is ∙ append_assoc w.log (one.event ∷ []) rest.more)
      ∙ event_at_lem w.log one.event rest.more

  -- it opens that job
  record Opens (b : Box) (key : Key) (d : Event) : Type 0 where
    box : d.box ≡ b
    under : d.key ≡ key
    told : is_opening (kind_of d.said) ≡ true

  first_opens : (place : ℕ) (w : World) (e : Entry) (es : List Entry) (b : Box) (key : Key)
      → Happened (run g place w (e ∷ es)).log (length w.log) b key (replied started) → Opens b key (one_more g place w e.box e.step).event
  first_opens place w e es b key h =
      subst (Opens b key) (first_event place w e es)
      (record { box = h.box; under = h.under; told = ap (λ s. is_opening (kind_of s)) h.said_is })

  -- so it takes the job's numbers, and there is one
  module _ (place : ℕ) (w : World) (e : Entry) (es : List Entry) (b : Box) (key : Key)
      (h : Happened (run g place w (e ∷ es)).log (length w.log) b key (replied started)) where
    all_taken : (number : ℕ) → key.first ≤ number → number < key.first + count_of key.task
        → Taken (memory_of w b).tally (memory_of (stepped g place w e.box e.step) b).tally number
    all_taken number from below =
        let one = one_more g place w e.box e.step in
        let o = first_opens place w e es b key h in
        one.taken b number
        (takes_lem b number one.event (record { box = sym o.box; from = rw o.under from; below = rw o.under below; told = o.told }))

    some_taken : 0 < count_of key.task
    some_taken =
        let o = first_opens place w e es b key h in
        rw (← o.under) ((one_more g place w e.box e.step).some o.told)

  above : (place : ℕ) (w : World) (es : List Entry) (b : Box) (number later : ℕ) (key : Key) → SpentAt w b number → length w.log ≤ later
      → Happened (run g place w es).log later b key (replied started) → number < key.first
  above place w [] b number later key s from h = absurd (omega (arith, h.within, from))
  above place w (e ∷ es) b number later key s from h =
      let one = one_more g place w e.box e.step in
      ⊎_elim
      (λ here.
      let opened = rw (← here) at h in
      taken_above w b _ number key.first
      (all_taken place w e es b key opened key.first (omega arith) (omega (arith, some_taken place w e es b key opened))) s)
      (λ past.
      above (suc place) (stepped g place w e.box e.step) es b number later key (spent_next w _ one b number s)
      (rw (next_place g place w e.box e.step) past) h)
      (eq-or-lt_of_le from)

  -- from a point on
  rising : (place : ℕ) (w : World) (es : List Entry) (b : Box) (earlier later : ℕ) (key key' : Key) → length w.log ≤ earlier → earlier < later
      → Happened (run g place w es).log earlier b key (replied started) → Happened (run g place w es).log later b key' (replied started)
      → key.first + count_of key.task ≤ key'.first
  rising place w [] b earlier later key key' from less h h' = absurd (omega (arith, h.within, from))
  rising place w (e ∷ es) b earlier later key key' from less h h' =
      let one = one_more g place w e.box e.step in
      let next = stepped g place w e.box e.step in
      let long = next_place g place w e.box e.step in
      ⊎_elim
      (λ here.
      let opened = rw (← here) at h in
      let some = some_taken place w e es b key opened in
      -- the highest of the earlier job's numbers
      let highest = key.first + (count_of key.task - 1) in
      let spent = taken_spent w next one b highest (all_taken place w e es b key opened highest (omega arith) (omega (arith, some))) in
      omega (arith, above (suc place) next es b highest later key' spent (omega (arith, here, less, long)) h'))
      (λ past. rising (suc place) next es b earlier later key key' (omega (arith, past, long)) less h h')
      (eq-or-lt_of_le from)

pub only_up : OnlyUp
only_up =
    record {
      rising = λ g w es empty b earlier later key key' less h h'. rising g 0 w es b earlier later key key' (rw empty (omega arith)) less h h';
      above = above;
    }
