-- Lists that meet the premises, and some that do not: the checker runs them.
use Prim.Native.Nat.{ℕ, ◌+◌, ◌%◌}
use mathlib.Core.Path.{◌≡◌, refl, sym, ap, ◌∙◌}
use mathlib.Core.Bool.{Bool, true, false, false≢true}
use mathlib.Core.List.{List}
use borrow.Author.Tests.{ltb-true, eqb-true}
use lib.Dec.{eqb, ltb}
use Rattle.std.proofs.Math.Path.{fun_ext}
use lib.ListN.{length, get_or}
use Rattle.lists.specs.Every.{every}
use Rattle.lists.proofs.Every.{every_at}
use Rattle.field.specs.Subtraction.{minus}
use Rattle.field.specs.Width.{listed, modulus}
use Rattle.shares.specs.Side.{is_side, other as other_side}
use Rattle.shares.specs.Reading.{read, legible, delivered}
use Rattle.shares.specs.Share.{constant_share, opened, square_share, product_share, threefold_share}
use Rattle.tape.specs.Layout.{section}
use Rattle.tape.specs.Order.{trailer_fits, body_in_range, in_order}
use Rattle.tape.specs.Plain.{plain_tape}
use Rattle.tape.proofs.Plains.{plain_dealt}
use Rattle.tape.proofs.Dealing.{matched_swap}
use Rattle.encoding.specs.Codes.{range_code, point_code, level_code}
use Rattle.encoding.specs.Polynomial.{coefficient, polynomial}
use Rattle.protocol.specs.Tests.{complement, exclusive}
use Rattle.protocol.specs.Work.{held}
use Rattle.protocol.specs.Products.{open_left, open_right, openings, closed, closing}
use Rattle.protocol.specs.Squares.{bit_difference, square_closing, match_count}
use Rattle.protocol.specs.Levels.{level_match, wrap_share}
use Rattle.protocol.specs.Rounds.{square_word, low_products, low_sum, level_products, wrap_products, half_share}
use Rattle.protocol.specs.Answer.{half_opening, half_opened, answer_from}
use Rattle.protocol.specs.Rounds.{half_word, answer_share, round_words, message, after_hearing}
use Rattle.protocol.specs.Sizes.{count_fits}
use Rattle.rules.specs.Answers.{started, heard, finished}
use Rattle.rules.specs.Tasks.{answer_count}
use Rattle.rules.specs.declared.state.Task.{Task}
use Rattle.rules.specs.declared.state.Task.TheVariants.{Compare}
use Rattle.tally.specs.Tally.{tally_fits, tapes_of, is_fresh, late, marked, cut_marked, fresh_count}
use Rattle.rules.specs.Modes.{in_range, mode_of, is_asleep}
use Rattle.rules.specs.Batches.{joined_message, joined_after, answer_shares}
use Rattle.rules.specs.Grounds.{wake_ground, start_ground, speak_ground, hear_ground, drop_ground}
use Rattle.rules.specs.Calls.{wake_rule, start_rule, speak_rule, heard_after, hear_rule, drop_rule}
use Rattle.rules.specs.Bits.{right_bit}
use Rattle.guarantees.specs.Boxes.{Box, box1, box2, other_box}
use Rattle.guarantees.specs.Keys.{Key, key_at}
use Rattle.guarantees.specs.Entries.{dealt, Incoming, spoken_at, other, hear}
use Rattle.guarantees.specs.Run.{Lending, Setting, Said, replied, Event, memory_of, event_at, tape_words, incoming_words, stepped, run}
use Rattle.guarantees.specs.Premises.{AtFirst, TrueMessage, Meets, AllCompatible}
use Rattle.guarantees.specs.Comparison.{Valid, by_box}
use Rattle.guarantees.specs.Correctness.{Happened}
use Rattle.guarantees.specs.Possible.{pair_number, shares_of, shares_anew, plain_set, zeros, last_hears, two_to_five}
use Rattle.guarantees.specs.Possible.{Case, whole, respelled, again, joined, between, banded, band_again, band_between}
use Rattle.guarantees.specs.Possible.{common_in, setting_in, world_in, log_in, starts_twice, setting_for, world_at_first, mixed, mixed_asks, one_to_five}
use Rattle.guarantees.specs.Possible.{Possible, RightSumIn, RightSum, CutInMark, ZerosRespelled, UpAndDown, TakenThough, OtherKinds}
use Rattle.guarantees.proofs.Premises.{same_task, list_test, list_tested}

plain_valid : (k : Case) (b : Box) → Valid (common_in k b) b (plain_set b)
unfolding other_side
plain_valid k box1 number n width = plain_dealt n pair_number number width
plain_valid k box2 number n width = matched_swap (plain_dealt n pair_number number width)

at_first : (k : Case) (b : Box) → AtFirst (world_in k b)
unfolding listed in_range mode_of
at_first k b = record { asleep = asleep; no_events = refl }
  where
    asleep : (d : Box) → is_asleep (mode_of (memory_of (world_in k b) d).state) ≡ true
    asleep box1 = refl
    asleep box2 = refl

-- what is said at a place of a log
record Told : Type 0 where
  within : Bool
  box : Box
  key : Key
  said : Said

abbrev told_at : List Event → ℕ → Told
told_at log place =
    let e = event_at log place in
    record { within = ltb place (length log); box = e.box; key = e.key; said = e.said }

abbrev told : Box → Key → Said → Told
told b key said = record { within = true; box = b; key = key; said = said }

happened : (log : List Event) (place : ℕ) (b : Box) (key : Key) (said : Said) → told_at log place ≡ told b key said
    → Happened log place b key said
happened log place b key said e =
    record {
      within = ltb-true place (length log) (ap (λ (t : Told). t.within) e);
      box = ap (λ (t : Told). t.box) e;
      under = ap (λ (t : Told). t.key) e;
      said_is = ap (λ (t : Told). t.said) e;
    }

-- ---- the run is the same whichever box is to stay hidden, so it is computed once

abbrev plain_setting : Case → Setting
plain_setting k =
    let free = zeros k.respells in
    record { tapes = plain_set; shares = shares_of k.asks; leftovers = free.leftovers; board = free.board }

by_box_same : {A : Type 0} (f : Box → A) (b : Box) → by_box b (f b) (f (other_box b)) ≡ f
by_box_same f b = fun_ext (at b)
  where
    at : (hidden c : Box) → by_box hidden (f hidden) (f (other_box hidden)) c ≡ f c
    at box1 box1 = refl
    at box1 box2 = refl
    at box2 box1 = refl
    at box2 box2 = refl

same_setting : (k : Case) (b : Box) → setting_in k b ≡ plain_setting k
same_setting k b = rw (by_box_same plain_set b, by_box_same (shares_of k.asks) b) refl

abbrev plain_log : Case → List Event
plain_log k = (run (plain_setting k) 0 (world_in k box1) k.entries).log

-- the second shares, by the box that is to stay hidden
abbrev anew : Case → Box → Box → ℕ → Lending
anew k hidden = by_box hidden (shares_anew k.asks) (shares_of k.asks (other_box hidden))

-- what is computed of a list
record Summary : Type 0 where
  meets : Bool
  start1 : Told
  start2 : Told
  answer1 : Told
  answer2 : Told

abbrev summary : Case → Summary
summary k =
    let log = plain_log k in
    record {
      meets = list_test (anew k) (plain_setting k) 0 (world_in k box1) k.entries;
      start1 = told_at log k.opened;
      start2 = told_at log (k.opened + 1);
      answer1 = told_at log (last_hears k.opened);
      answer2 = told_at log (last_hears k.opened + 1);
    }

abbrev expected : Case → Summary
expected k =
    record {
      meets = true;
      start1 = told box1 k.key (replied started);
      start2 = told box2 k.key (replied started);
      answer1 = told box1 k.key (replied (finished k.answers1));
      answer2 = told box2 k.key (replied (finished k.answers2));
    }

possible : (k : Case) → summary k ≡ expected k → (b : Box) → Possible k b
possible k e b =
    record {
      valid = plain_valid k b;
      premises = record { asleep = at_first k b; meets = rw (same_setting k b) premises.0; compatible = rw (same_setting k b) (premises.1 b) };
      start1 = rw log (happened (plain_log k) k.opened box1 k.key _ (ap (λ (s : Summary). s.start1) e));
      start2 = rw log (happened (plain_log k) (k.opened + 1) box2 k.key _ (ap (λ (s : Summary). s.start2) e));
      answer1 = rw log (happened (plain_log k) (last_hears k.opened) box1 k.key _ (ap (λ (s : Summary). s.answer1) e));
      answer2 = rw log (happened (plain_log k) (last_hears k.opened + 1) box2 k.key _ (ap (λ (s : Summary). s.answer2) e));
    }
  where
    log : log_in k b ≡ plain_log k
    log = ap (λ (g : Setting). (run g 0 (world_in k box1) k.entries).log) (same_setting k b)

    premises : Meets (plain_setting k) 0 (world_in k b) k.entries
        × ((hidden : Box) → AllCompatible (anew k hidden) (plain_setting k) 0 (world_in k b) k.entries)
    premises = list_tested (anew k) (plain_setting k) 0 (world_in k b) k.entries (ap (λ (s : Summary). s.meets) e)

-- ---- what is computed

-- all that a run goes by
run_rules : Unit {0}
unfolding modulus listed is_side other_side constant_share minus read legible delivered opened square_share product_share threefold_share
    section trailer_fits body_in_range in_order plain_tape
    range_code point_code level_code coefficient polynomial complement exclusive held
    open_left open_right openings closed closing bit_difference square_closing match_count level_match wrap_share
    square_word low_products low_sum level_products wrap_products half_share half_opening half_opened answer_from half_word
    answer_share round_words message after_hearing count_fits
    tally_fits tapes_of is_fresh late marked cut_marked fresh_count in_range mode_of joined_message joined_after answer_shares
    wake_ground start_ground speak_ground hear_ground drop_ground wake_rule start_rule speak_rule hear_rule heard_after drop_rule stepped
run_rules = tt

pub whole_possible : (b : Box) → Possible whole b
unfolding run_rules whole
whole_possible = possible whole refl

pub respelled_possible : (b : Box) → Possible respelled b
unfolding run_rules respelled
respelled_possible = possible respelled refl

pub again_possible : (b : Box) → Possible again b
unfolding run_rules again
again_possible = possible again refl

pub joined_possible : (b : Box) → Possible joined b
unfolding run_rules joined
joined_possible = possible joined refl

pub between_possible : (b : Box) → Possible between b
unfolding run_rules between
between_possible = possible between refl

pub banded_possible : (b : Box) → Possible banded b
unfolding run_rules banded
banded_possible = possible banded refl

pub band_again_possible : (b : Box) → Possible band_again b
unfolding run_rules band_again
band_again_possible = possible band_again refl

pub band_between_possible : (b : Box) → Possible band_between b
unfolding run_rules band_between
band_between_possible = possible band_between refl

-- every index below the count, by a test of each
sum_tested : (k : Case)
    → every (answer_count k.key.task)
    (λ i.
    eqb ((get_or k.answers1 i 0 + get_or k.answers2 i 0) % modulus 3)
    (right_bit 3 k.key.task (shares_of k.asks box1 k.opened) (shares_of k.asks box2 (k.opened + 1)) i))
    ≡ true
    → RightSumIn k
sum_tested k t i below = eqb-true _ _ (every_at (answer_count k.key.task) _ t i below)

pub right_sum : RightSum
unfolding modulus whole respelled again joined between banded band_again band_between
right_sum =
    record {
      in_whole = sum_tested whole refl;
      in_respelled = sum_tested respelled refl;
      in_again = sum_tested again refl;
      in_joined = sum_tested joined refl;
      in_between = sum_tested between refl;
      in_banded = sum_tested banded refl;
      in_band_again = sum_tested band_again refl;
      in_band_between = sum_tested band_between refl;
    }

pub cut_in_mark : CutInMark
unfolding run_rules again between band_again band_between
cut_in_mark =
    record {
      in_again = record { passed = refl; tape0 = refl; tape1 = refl };
      in_between = record { passed = refl; tape0 = refl; tape1 = refl };
      in_band_again = record { passed = refl; tape0 = refl; tape1 = refl };
      in_band_between = record { passed = refl; tape0 = refl; tape1 = refl };
    }

pub zeros_respelled : ZerosRespelled
unfolding run_rules respelled
zeros_respelled = (refl, refl)

pub up_and_down : UpAndDown
unfolding run_rules starts_twice
up_and_down = record { up = refl; down = refl; onto_first = refl; onto_second = refl; onto_band = refl }

-- ---- a message of another kind of job

-- a message named by its place was spoken under the key
spoken_under : {log : List Event} {b : Box} {key : Key} {round place : ℕ} → TrueMessage log b key round (spoken_at place) → (event_at log place).key ≡ key
spoken_under {log} t = ap (λ k. (event_at log k).key) (ap place_of t.named) ∙ t.under
  where
    place_of : Incoming → ℕ
    place_of (spoken_at place) = place
    place_of (other words) = 0

-- what is computed of a list with such a hear at its end: whether it meets the premises without it, what the hear comes to and its ground, and the tasks
-- in the keys of the job that the message was spoken in and of the job that hears it
record Mixed : Type 0 where
  meets : Bool
  said : Said
  ground : ℕ
  spoken_in : Task
  heard_in : Task

abbrev mixed_summary : Task → Task → Mixed
mixed_summary task1 task2 =
    let g = setting_for (mixed_asks task1 task2) in
    let w = run g 0 world_at_first (mixed task1 task2) in
    let m = w.memory2 in
    let lent = dealt box2 0 2 3 in
    record {
      meets = list_test (λ hidden. g.shares) g 0 world_at_first (mixed task1 task2);
      said = (event_at (stepped g 6 w box2 (hear 0 1 lent (spoken_at 4))).log 6).said;
      ground = hear_ground m.state 0 1 (tape_words g lent) m.work (incoming_words g 6 m.state w.log (spoken_at 4));
      spoken_in = (event_at w.log 4).key.task;
      heard_in = (key_at m.state 0).task;
    }

abbrev mixed_expected : Task → Task → Mixed
mixed_expected task1 task2 = record { meets = true; said = replied heard; ground = 0; spoken_in = task1; heard_in = task2 }

taken_though : (task1 task2 : Task) → mixed_summary task1 task2 ≡ mixed_expected task1 task2
    → same_task task1 task2 ≡ false → same_task task2 task2 ≡ true → TakenThough task1 task2
unfolding mixed
taken_though task1 task2 e apart same =
    let g = setting_for (mixed_asks task1 task2) in
    record {
      taken = ap (λ (s : Mixed). s.said) e;
      before = (list_tested (λ hidden. g.shares) g 0 world_at_first (mixed task1 task2) (ap (λ (s : Mixed). s.meets) e)).0;
      not_met = λ m.
          let under = spoken_under (m.1.1.1.1.1.1.0 (ap (λ (s : Mixed). s.ground) e)).1 in
          let tasks = sym (ap (λ (s : Mixed). s.spoken_in) e) ∙ ap (λ (k : Key). k.task) under ∙ ap (λ (s : Mixed). s.heard_in) e in
          false≢true (sym apart ∙ ap (λ t. same_task t task2) tasks ∙ same);
    }

pub other_kinds : OtherKinds
unfolding run_rules mixed
other_kinds =
    record {
      pair_to_band = taken_though (Compare 2) two_to_five refl refl refl;
      band_to_pair = taken_though two_to_five (Compare 2) refl refl refl;
      other_bounds = taken_though two_to_five one_to_five refl refl refl;
    }
