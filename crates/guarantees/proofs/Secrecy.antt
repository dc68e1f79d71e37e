-- Demand 3: the pairing of a box's tapes. Each tape is moved as the shares ask that were lent for it at the start that took it; where that was
-- is the same in both runs. The exchanges of a key that the box opened look the same. Of a key that only the other box opened no more was spoken
-- than round 1, which shows nothing of the box.
use Prim.Native.Nat.{ℕ, zero, suc, ◌+◌, ◌<◌}
use mathlib.Core.Path.{◌≡◌, refl, ap, subst, ◌∙◌}
use mathlib.Core.Bool.{true}
use mathlib.Core.List.{List, [], ◌∷◌}
use mathlib.Core.Logic.{◌⊎◌, inl, inr}
use native.Mathlib.Nat.{add-sub_cancel_left}
use native.Mathlib.Omega.{arith}
use Rattle.field.specs.Width.{listed}
use Rattle.tape.proofs.Orders.{readable}
use Rattle.protocol.specs.Rounds.{last_round}
use Rattle.protocol.specs.Change.{Shares, shares_of}
use Rattle.protocol.specs.Shift.{shifted}
use Rattle.protocol.specs.Pairing.{LooksAlike, Moves}
use Rattle.protocol.proofs.Secrecy.{moves}
use Rattle.rules.specs.Tasks.{count_of, pairs_of}
use Rattle.rules.specs.Batches.{x_in, y_in}
use Rattle.guarantees.specs.Boxes.{Box, box1, box2, side_of, other_box}
use Rattle.guarantees.specs.Keys.{Key}
use Rattle.guarantees.specs.Entries.{Step, wake, start, speak, hear, drop, cut, cut_start, Entry}
use Rattle.guarantees.specs.Run.{Lending, Setting, Event, World, memory_of, event_at, stepped}
use Rattle.guarantees.specs.Premises.{AtFirst, Meets, SharesInBoth, Compatible, AllCompatible}
use Rattle.guarantees.specs.Jobs.{sent_by}
use Rattle.guarantees.specs.Maps.{taken_at, key_found, clip, tape_shares, there_by, back_by}
use Rattle.guarantees.specs.View.{view}
use Rattle.guarantees.specs.Comparison.{TapeSet, by_box, Common, Loose, Matching, Valid, image, world_of, setting_of, events}
use Rattle.guarantees.specs.Comparison.{Premises, Witness}
use Rattle.guarantees.specs.Secrecy.{Hidden, Paired, Secrecy}
use Rattle.guarantees.proofs.First.{first_again, low_first, orders, invariant_first, marked_first, once_first}
use Rattle.guarantees.proofs.Once.{Once, once_run}
use Rattle.guarantees.proofs.Unwinding.{other_twice, Alike, Related, views}
use Rattle.guarantees.proofs.Books.{clip_pairs, reduced, Took, took_all, book_of}
use Rattle.guarantees.proofs.Runs.{Both, both}
use Rattle.guarantees.proofs.Pairs.{KeyAlike, Stays, first_alike, sent_alike, answers_alike}
use Rattle.guarantees.proofs.Views.{SamePlaces, same_view, same_low}
use Rattle.guarantees.proofs.Fitting.{fitting_first}
use Rattle.guarantees.proofs.Schedule.{same_schedule}

-- ---- the maps

-- a tape that matches the other box's has a listed width
matching_listed : (c : Common) (b : Box) (number n : ℕ) (tape : List ℕ) → Matching c b number n tape → listed n ≡ true
matching_listed c b number n tape m = (readable n c.pair (side_of b) number tape m.own_order).width

-- the shares of job i of two lists of x and y
abbrev shares_in : ℕ → Box → List ℕ → List ℕ → ℕ → Shares
shares_in n b own others i = shares_of n (side_of b) (x_in (clip n own) i) (y_in (clip n own) i) (x_in (clip n others) i) (y_in (clip n others) i)

-- one tape, moved by them
moves_by : (c : Common) (b : Box) (number n : ℕ) (own own' others : List ℕ) (i : ℕ) → listed n ≡ true
    → let v = shares_in n b own others i in
    let v' = shares_in n b own' others i in
    Moves n c.pair number (side_of b) v.x v.y v'.x v'.y v.xo v.yo (c.others number n)
    (λ tape. shifted v v' tape (c.others number n)) (λ tape. shifted v' v tape (c.others number n))
moves_by c b number n own own' others i l =
    moves n c.pair number (side_of b) _ _ (c.others number n) (search reduced) _ _ _ _ (search reduced) (search reduced)

-- and as a log finds them
moves_at : (c : Common) (b : Box) (log : List Event) (shares shares' : ℕ → Lending) (number n : ℕ) → listed n ≡ true
    → let v = tape_shares c b log shares number n in
    let v' = tape_shares c b log shares' number n in
    Moves n c.pair number (side_of b) v.x v.y v'.x v'.y v.xo v.yo (c.others number n)
    (λ tape. shifted v v' tape (c.others number n)) (λ tape. shifted v' v tape (c.others number n))
moves_at c b log shares shares' number n l =
    moves n c.pair number (side_of b) _ _ (c.others number n) (search reduced) _ _ _ _ (search reduced) (search reduced)

-- the way back undoes it. Said of the two shares by name, so that a wrong way back is refused without a look into the shift
undone_at : (c : Common) (b : Box) (log : List Event) (shares shares' : ℕ → Lending) (number n : ℕ) (tape : List ℕ) (v v' : Shares)
    → tape_shares c b log shares number n ≡ v → tape_shares c b log shares' number n ≡ v'
    → shifted v' v (shifted v v' tape (c.others number n)) (c.others number n) ≡ tape
    → back_by c b log shares shares' number n (there_by c b log shares shares' number n tape) ≡ tape
undone_at c b log shares shares' number n tape v v' is is' back = rw (is, is') back

-- ---- both runs at first

related_first : (c : Common) (b : Box) (g g' : Setting) (book book' : Box → Key → Lending) (Known : Box → Key → Type 0) (w w' : Loose)
    → AtFirst (world_of c w) → Related b g g' c.pair book book' Known (world_of c w) (world_of c w')
related_first c b g g' book book' Known w w' at =
    record {
      low = low_first c w w';
      invariant = invariant_first g book Known (world_of c w) at;
      invariant' = invariant_first g' book' Known (world_of c w') (first_again c w w' at);
      heard_same = λ k. refl;
    }

-- the same table of shares twice
compatible_self : (g : Setting) (place : ℕ) (w : World) (es : List Entry) → AllCompatible g.shares g place w es
compatible_self g place w [] = tt
compatible_self g place w (e ∷ es) = (one e.box e.step, compatible_self g (suc place) (stepped g place w e.box e.step) es)
  where
    lent : (b : Box) → SharesInBoth (memory_of w b) (g.shares b place) (g.shares b place)
    lent b = (refl, λ i less. inl refl)

    one : (b : Box) (step : Step) → Compatible g.shares g place w b step
    one b (wake n side p) = tt
    one b (start first task tapes) = lent b
    one b (speak first round tapes out) = tt
    one b (hear first round tapes incoming) = tt
    one b drop = tt
    one b (cut room) = tt
    one b (cut_start first task tapes at mark room) = lent b

-- ---- the two runs

others_same : {A : Type 0} (d : Box) (own own' others : A) → by_box d own others (other_box d) ≡ by_box d own' others (other_box d)
others_same box1 own own' others = refl
others_same box2 own own' others = refl

own_or_other : (b d : Box) → (d ≡ b) ⊎ (d ≡ other_box b)
own_or_other box1 box1 = inl refl
own_or_other box1 box2 = inr refl
own_or_other box2 box1 = inr refl
own_or_other box2 box2 = inl refl

-- a run's log, and the log that the maps go by, which finds the same places
module _ (log log₀ : List Event) (once : Once log) (e : SamePlaces log₀ log) where
  -- the tape of each job of a key that b opened is moved by the shares of that job, b's own and those of the other box's start of that number
  key_shares : (c : Common) (b : Box) (shares : ℕ → Lending) (key : Key) → Took log b key → (i : ℕ) → i < count_of key.task
      → tape_shares c b log₀ shares (key.first + i) key.width
      ≡ shares_in key.width b (pairs_of (side_of b) key.task (shares (taken_at log b key.first)))
      (pairs_of (side_of (other_box b)) key.task (c.lendings (taken_at log (other_box b) key.first))) i
  key_shares c b shares key t i less =
      let same = took_all log once b key t i less in
      let key_is = (e b (key.first + i)).1 ∙ ap (λ (k : ℕ). (event_at log k).key) same ∙ t.key_is in
      rw (key_is, (e b (key.first + i)).0 ∙ same, (e (other_box b) key.first).0, add-sub_cancel_left key.first i) refl

  module _ (c : Common) (shares shares' : ℕ → Lending) (own : TapeSet) where
    -- so in each of its jobs a tape of b's looks like the moved one. A band's bounds are in range, so there the book has the reduced shares too
    job_alike : (b : Box) → Valid c b own → (key : Key) → listed key.width ≡ true → Took log b key → (i : ℕ) → i < count_of key.task
        → let at = taken_at log b key.first in
        let v = pairs_of (side_of b) key.task (clip key.width (shares at)) in
        let v' = pairs_of (side_of b) key.task (clip key.width (shares' at)) in
        let others = pairs_of (side_of (other_box b)) key.task (clip key.width (c.lendings (taken_at log (other_box b) key.first))) in
        LooksAlike key.width (side_of b) (x_in v i) (y_in v i) (x_in v' i) (y_in v' i) (x_in others i) (y_in others i)
        (c.others (key.first + i) key.width) (own (key.first + i) key.width) (image (there_by c b log₀ shares shares') own (key.first + i) key.width)
    job_alike b v key l t i less =
        let at = taken_at log b key.first in
        let reduced_pairs = λ (side : ℕ) (lent : Lending). clip_pairs key.width side key.task lent t.fits in
        rw (
          key_shares c b shares key t i less,
          key_shares c b shares' key t i less,
          ← reduced_pairs (side_of b) (shares at),
          ← reduced_pairs (side_of b) (shares' at),
          ← reduced_pairs (side_of (other_box b)) (c.lendings (taken_at log (other_box b) key.first)),
        )
        ((moves_by c b (key.first + i) key.width _ _ _ i l).alike (own (key.first + i) key.width) (v (key.first + i) key.width l))

    -- and its exchanges look the same with the tapes and the first shares as with the moved tapes and the second
    key_alike : (b : Box) → Valid c b own → (key : Key) → listed key.width ≡ true → Took log b key
        → KeyAlike b (by_box b own c.others) (by_box b (image (there_by c b log₀ shares shares') own) c.others)
        (book_of (by_box b shares c.lendings) log) (book_of (by_box b shares' c.lendings) log) key
    key_alike box1 = job_alike box1
    key_alike box2 = job_alike box2

module _ (c : Common) (b : Box) where
  moved_valid : (log : List Event) (shares shares' : ℕ → Lending) (own : TapeSet) → Valid c b own
      → Valid c b (image (there_by c b log shares shares') own)
  moved_valid log shares shares' own v number n l = (moves_at c b log shares shares' number n l).dealt (own number n) (v number n l)

  alike : (log log₀ : List Event) → Once log → SamePlaces log₀ log → (shares shares' : ℕ → Lending) (own : TapeSet) (w w' : Loose) → Valid c b own
      → let g = setting_of c b own shares w in
      let g' = setting_of c b (image (there_by c b log₀ shares shares') own) shares' w' in
      Alike b g g' c.pair (book_of g.shares log) (book_of g'.shares log) (Took log)
  alike log log₀ once e shares shares' own w w' v =
      record {
        orders = orders c b own v;
        orders' = orders c b own' (moved_valid log₀ shares shares' own v);
        sent = sent;
        answered = λ key l others_too own_too.
            answers_alike (by_box b own c.others) (by_box b own' c.others) book book' key b (stays key)
            (key_alike log log₀ once e c shares shares' own b v key l own_too);
      }
    where
      own' : TapeSet
      own' = image (there_by c b log₀ shares shares') own

      book : Box → Key → Lending
      book = book_of (by_box b shares c.lendings) log

      book' : Box → Key → Lending
      book' = book_of (by_box b shares' c.lendings) log

      stays : (key : Key) → Stays (by_box b own c.others) (by_box b own' c.others) book book' key (other_box b)
      stays key =
          record {
            tape = λ i. ap (λ (t : TapeSet). t (key.first + i) key.width) (others_same b own own' c.others);
            shares = ap (λ (t : ℕ → Lending). clip key.width (t (taken_at log (other_box b) key.first))) (others_same b shares shares' c.lendings);
          }

      -- of a key that b opened
      met : (key : Key) → listed key.width ≡ true → Took log b key → (d : Box) (r : ℕ) → r < last_round
          → sent_by (by_box b own c.others) book d key (suc r) ≡ sent_by (by_box b own' c.others) book' d key (suc r)
      met key l t =
          sent_alike (by_box b own c.others) (by_box b own' c.others) book book' key b (stays key)
          (key_alike log log₀ once e c shares shares' own b v key l t)

      sent : (d : Box) (key : Key) (r : ℕ) → listed key.width ≡ true → r < last_round → Took log d key → (0 < r → Took log (other_box d) key)
          → sent_by (by_box b own c.others) book d key (suc r) ≡ sent_by (by_box b own' c.others) book' d key (suc r)
      sent d key r l early opened later = go (own_or_other b d) r early later
        where
          go : (d ≡ b) ⊎ (d ≡ other_box b) → (r : ℕ) → r < last_round → (0 < r → Took log (other_box d) key)
              → sent_by (by_box b own c.others) book d key (suc r) ≡ sent_by (by_box b own' c.others) book' d key (suc r)
          go (inl same) r early later = met key l (subst (λ (f : Box). Took log f key) same opened) d r early
          go (inr others) zero early later =
              rw others (first_alike (by_box b own c.others) (by_box b own' c.others) book book' key (other_box b) (stays key))
          go (inr others) (suc r) early later =
              met key l (subst (λ (f : Box). Took log f key) (ap other_box others ∙ other_twice b) (later (omega arith))) d (suc r) early

  -- whatever valid tapes and words in work: two runs with the same shares that meet the premises open the same jobs
  same_places : (shares : ℕ → Lending) (own own' : TapeSet) → Valid c b own → Valid c b own'
      → (w w' : Loose) → Meets (setting_of c b own shares w) 0 (world_of c w) c.entries
      → Meets (setting_of c b own' shares w') 0 (world_of c w') c.entries
      → SamePlaces (events c b own shares w) (events c b own' shares w')
  same_places shares own own' v v' w w' meets meets' =
      let g = setting_of c b own shares w in
      let g' = setting_of c b own' shares w' in
      let k =
      same_schedule g g' c.pair (orders c b own v) (orders c b own' v') c.entries 0 (world_of c w) (world_of c w')
      (record { low = low_first c w w'; fits = fitting_first; fits' = fitting_first })
      (compatible_self g 0 (world_of c w) c.entries) meets meets' in
      same_low (events c b own shares w) (events c b own' shares w') k.places k.events

  -- the places that a log finds are those of a run
  module _ (shares shares' : ℕ → Lending) (log : List Event) (own : TapeSet) (valid : Valid c b own) (w : Loose)
      (premises : Premises c b shares shares' own w) (e : SamePlaces log (events c b own shares w)) where
    once : Once (events c b own shares w)
    once =
        once_run (setting_of c b own shares w) 0 (world_of c w) c.entries (marked_first (world_of c w) premises.asleep)
        (once_first (world_of c w) premises.asleep)

    run_both : (w' : Loose)
        → Both b (setting_of c b own shares w) (setting_of c b (image (there_by c b log shares shares') own) shares' w') c.pair
        (events c b own shares w) (alike (events c b own shares w) log once e shares shares' own w w' valid) c.entries 0 (world_of c w) (world_of c w')
    run_both w' =
        both b _ _ c.pair (events c b own shares w) _ c.entries 0 (world_of c w) (world_of c w')
        (related_first c b _ _ _ _ _ w w' premises.asleep) (marked_first (world_of c w) premises.asleep) refl refl premises.meets premises.compatible

    looks_same : (w' : Loose) → view b (events c b own shares w) ≡ view b (events c b (image (there_by c b log shares shares') own) shares' w')
    looks_same w' =
        views b _ _ c.pair _ _ _ (alike (events c b own shares w) log once e shares shares' own w w' valid) _ _ (run_both w').related

    meets_too : (w' : Loose) → Premises c b shares' shares (image (there_by c b log shares shares') own) w'
    meets_too w' =
        record { asleep = first_again c w w' premises.asleep; meets = (run_both w').meets; compatible = (run_both w').compatible }

  -- both maps go by one log
  hidden : (shares shares' : ℕ → Lending) (log : List Event)
      → ((own : TapeSet) → Valid c b own → (w : Loose) → Premises c b shares shares' own w → SamePlaces log (events c b own shares w))
      → Hidden c b shares shares' (there_by c b log shares shares') (back_by c b log shares shares')
  hidden shares shares' log places =
      record {
        matching = λ number n tape m. (moves_at c b log shares shares' number n (matching_listed c b number n tape m)).dealt tape m;
        undone = λ number n tape m.
            undone_at c b log shares shares' number n tape _ _ refl refl
            ((moves_at c b log shares shares' number n (matching_listed c b number n tape m)).undone tape m);
        meets = λ own v w w' p. meets_too shares shares' log own v w p (places own v w p) w';
        alike = λ own v w w' p. looks_same shares shares' log own v w p (places own v w p) w';
      }

-- ---- demand 3

module _ (c : Common) (b : Box) (shares shares' : ℕ → Lending) where
  -- the log of the witness's run
  abbrev log_of : Witness c b shares shares' → List Event
  log_of e = events c b e.own shares e.loose

  paired : Witness c b shares shares' → Paired c b shares shares'
  paired e =
      record {
        there = there_by c b log shares shares';
        back = back_by c b log shares shares';
        hidden = hidden c b shares shares' log (λ own v w p. same_places c b shares e.own own e.valid v e.loose w e.premises.meets p.meets);
        hidden_back = hidden c b shares' shares log back_places;
      }
    where
      log : List Event
      log = log_of e

      partner_set : TapeSet
      partner_set = image (there_by c b log shares shares') e.own

      same_log : SamePlaces log log
      same_log d number = (refl, refl)

      back_places : (own : TapeSet) → Valid c b own → (w : Loose) → Premises c b shares' shares own w
          → SamePlaces log (events c b own shares' w)
      back_places own v w p d number =
          let there =
          same_view b log (events c b partner_set shares' e.loose)
          (looks_same c b shares shares' log e.own e.valid e.loose e.premises same_log e.loose) d number in
          let back =
          same_places c b shares' partner_set own (moved_valid c b log shares shares' e.own e.valid) v e.loose w
          (meets_too c b shares shares' log e.own e.valid e.loose e.premises same_log e.loose).meets p.meets d number in
          (there.0 ∙ back.0, there.1 ∙ back.1)

  -- two witnesses find the same places
  same_logs : (e e' : Witness c b shares shares') → SamePlaces (log_of e) (log_of e')
  same_logs e e' =
      same_places c b shares e.own e'.own e.valid e'.valid e.loose e'.loose e.premises.meets e'.premises.meets

  same_shares : (e e' : Witness c b shares shares') (lent : ℕ → Lending) (number n : ℕ)
      → tape_shares c b (log_of e) lent number n ≡ tape_shares c b (log_of e') lent number n
  same_shares e e' lent number n =
      let own = same_logs e e' b number in
      rw (own.1, own.0, (same_logs e e' (other_box b) (key_found (log_of e') b number).first).0) refl

  same_move : (e e' : Witness c b shares shares') (number n : ℕ) (tape : List ℕ)
      → there_by c b (log_of e) shares shares' number n tape ≡ there_by c b (log_of e') shares shares' number n tape
  same_move e e' number n tape = rw (same_shares e e' shares number n, same_shares e e' shares' number n) refl

  same_move_back : (e e' : Witness c b shares shares') (number n : ℕ) (tape : List ℕ)
      → back_by c b (log_of e) shares shares' number n tape ≡ back_by c b (log_of e') shares shares' number n tape
  same_move_back e e' number n tape = rw (same_shares e e' shares number n, same_shares e e' shares' number n) refl

pub secrecy : Secrecy
unfolding paired
secrecy =
    record {
      paired = paired;
      same_there = λ c b shares shares' e e' number n tape m. same_move c b shares shares' e e' number n tape;
      same_back = λ c b shares shares' e e' number n tape m. same_move_back c b shares shares' e e' number n tape;
    }
