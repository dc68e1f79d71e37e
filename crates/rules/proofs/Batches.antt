-- How many jobs a start takes, the words that stand for them, one for each, and which of them are a job's.
use Prim.Native.Nat.{ℕ, ◌<◌, ◌≤◌}
use mathlib.Core.Path.{◌≡◌, refl, ap₂, ◌∙◌}
use mathlib.Core.Bool.{Bool, true, false, cond}
use mathlib.Core.List.{List}
use mathlib.Core.Logic.{by_cases}
use native.Mathlib.Decide.{dec_lt}
use native.Mathlib.Omega.{arith}
use lib.Dec.{leb, ltb}
use lib.ListN.{get_or, get_or-eq_default}
use borrow.Author.Tests.{leb-true, lt-ltb, le-ltb}
use Rattle.lists.proofs.Tests.{and_left, and_right}
use Rattle.lists.proofs.Tabulate.{length_tabulate, get_d_tabulate, tabulate_same}
use Rattle.protocol.specs.Sizes.{most_jobs, count_fits}
use Rattle.protocol.specs.Products.{party}
use Rattle.protocol.specs.Rounds.{last_round, answer_share}
use Rattle.protocol.proofs.Ranges.{tabulated_below}
use Rattle.rules.specs.Tasks.{count_of, answer_count, band_share}
use Rattle.rules.specs.Modes.{in_phase}
use Rattle.rules.specs.Batches.{each_job, x_in, y_in, batch_of, tape_part, work_part, words_part, party_of, answers_given, answer_shares}
use Rattle.rules.specs.OneByOne.{answer_from}
use Rattle.rules.specs.declared.state.Task.{Task}
use Rattle.rules.specs.declared.state.Task.TheVariants.{Compare, Band}
use Rattle.rules.specs.declared.state.Phase.{Phase}
use Rattle.rules.specs.declared.state.State.{State}

pub count_most : (count : ℕ) → count_fits count ≡ true → (1 ≤ count) × (count ≤ 8)
unfolding count_fits
count_most count e =
    (leb-true 1 count (and_left (leb 1 count) (leb count most_jobs) e), leb-true count most_jobs (and_right (leb 1 count) (leb count most_jobs) e))

-- the only index below 1
pub lone : (k : ℕ) → k < 1 → k ≡ 0
lone k less = omega arith

pub each_at : (count : ℕ) (f : ℕ → ℕ) (i : ℕ) → count_fits count ≡ true → i < count → get_or (each_job count f) i 0 ≡ f i
each_at count f i fits less =
    get_d_tabulate most_jobs (λ k. cond (ltb k count) (f k) 0) i 0 (omega (arith, less, (count_most count fits).1)) ∙ rw (lt-ltb i count less) refl

-- past the count stands 0
pub each_past : (count : ℕ) (f : ℕ → ℕ) (i : ℕ) → count ≤ i → get_or (each_job count f) i 0 ≡ 0
each_past count f i past =
    by_cases (dec_lt i most_jobs)
    (λ inside. get_d_tabulate most_jobs (λ k. cond (ltb k count) (f k) 0) i 0 inside ∙ rw (le-ltb i count past) refl)
    (λ outside. get_or-eq_default (each_job count f) 0 {n = i} (omega (arith, outside, length_tabulate most_jobs (λ k. cond (ltb k count) (f k) 0))))

pub each_same : (count : ℕ) (f g : ℕ → ℕ) → ((i : ℕ) → i < count → f i ≡ g i) → each_job count f ≡ each_job count g
each_same count f g same =
    tabulate_same most_jobs (λ k. cond (ltb k count) (f k) 0) (λ k. cond (ltb k count) (g k) 0)
    (λ k less.
    by_cases (dec_lt k count)
    (λ inside. rw (lt-ltb k count inside) (same k inside))
    (λ outside. rw (le-ltb k count (omega arith)) refl))

-- where each is below p, so is what stands for them
pub each_below : {p : ℕ} (count : ℕ) (f : ℕ → ℕ) → 0 < p → ((i : ℕ) → f i < p) → (i : ℕ) → get_or (each_job count f) i 0 < p
each_below {p} count f some below = (tabulated_below most_jobs (λ i. cond (ltb i count) (f i) 0) (λ i. go i (ltb i count))).at
  where
    go : (i : ℕ) (t : Bool) → cond t (f i) 0 < p
    go i true = below i
    go i false = some

-- ---- the jobs of a start, each with its own shares

module _ (first : ℕ) (task : Task) (pairs : List ℕ) (i : ℕ) (fits : count_fits (count_of task) ≡ true) (less : i < count_of task) where
  pub batch_x : get_or (batch_of first task pairs).x i 0 ≡ x_in pairs i
  batch_x = each_at (count_of task) (x_in pairs) i fits less

  pub batch_y : get_or (batch_of first task pairs).y i 0 ≡ y_in pairs i
  batch_y = each_at (count_of task) (y_in pairs) i fits less

  -- the box that the start leaves, in that job
  pub started_party : (s : State) (phase : Phase) (tapes : List ℕ)
      → party_of (in_phase s phase (batch_of first task pairs)) tapes i ≡ party s.n s.side (x_in pairs i) (y_in pairs i) (tape_part s.n tapes i)
  started_party s phase tapes = ap₂ (λ (x y : ℕ). party s.n s.side x y (tape_part s.n tapes i)) batch_x batch_y

-- ---- the answer shares that it gives, each at its place

module _ (n side : ℕ) (f : ℕ → ℕ) where
  pub given_at : (task : Task) (i : ℕ) → count_fits (count_of task) ≡ true → i < answer_count task
      → get_or (answers_given n side task (each_job (count_of task) f)) i 0 ≡ answer_from n side task f i
  given_at (Compare count) i fits less = each_at count f i fits less
  given_at (Band low high) i fits less = rw (lone i less) refl

  pub given_past : (task : Task) (i : ℕ) → answer_count task ≤ i → get_or (answers_given n side task (each_job (count_of task) f)) i 0 ≡ 0
  given_past (Compare count) i past = each_past count f i past
  given_past (Band low high) i past = each_past 1 (λ k. band_share n side (get_or (each_job 2 f) 0 0) (get_or (each_job 2 f) 1 0)) i past

-- from the same shares of the jobs come the same answers
pub from_same : (n side : ℕ) (task : Task) (f g : ℕ → ℕ) (i : ℕ) → ((k : ℕ) → k < count_of task → f k ≡ g k) → i < answer_count task
    → answer_from n side task f i ≡ answer_from n side task g i
from_same n side (Compare count) f g i same less = same i less
from_same n side (Band low high) f g i same less = ap₂ (band_share n side) (same 0 (omega arith)) (same 1 (omega arith))

-- those of the jobs
abbrev pub share_in : State → List ℕ → List ℕ → List ℕ → ℕ → ℕ
share_in s tapes work incoming i = answer_share (party_of s tapes i) (work_part s.n work i) (words_part s.n last_round incoming i)

module _ (s : State) (tapes work incoming : List ℕ) (i : ℕ) where
  pub answer_at : count_fits (count_of s.batch.task) ≡ true → i < answer_count s.batch.task
      → get_or (answer_shares s tapes work incoming) i 0 ≡ answer_from s.n s.side s.batch.task (share_in s tapes work incoming) i
  unfolding answer_shares
  answer_at fits less = given_at s.n s.side (share_in s tapes work incoming) s.batch.task i fits less

  pub answer_past : answer_count s.batch.task ≤ i → get_or (answer_shares s tapes work incoming) i 0 ≡ 0
  unfolding answer_shares
  answer_past past = given_past s.n s.side (share_in s tapes work incoming) s.batch.task i past
