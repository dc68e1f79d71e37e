-- What the pairing says of counts. Of the tape sets that are alike from some number on there are finitely many. Those that give a view with
-- the first shares and those that give it with the second go over into each other tape by tape, so they are as many: where all deals are
-- equally likely, every view comes up as often with the first shares as with the second.
use Rattle.std.specs.Prelude.{ℕ, ◌≤◌, ◌≡◌, true, List}
use Rattle.field.specs.Width.{listed}
use Rattle.guarantees.specs.Boxes.{Box}
use Rattle.guarantees.specs.Run.{Lending, Event}
use Rattle.guarantees.specs.View.{view}
use Rattle.guarantees.specs.Comparison.{TapeSet, Common, Loose, Valid, image, events, Premises}
use Rattle.guarantees.specs.Secrecy.{Paired}

-- with that valid set, which is `rest` from number `range` on, and these shares the list meets the premises and gives that view
pub record Gives (c : Common) (b : Box) (shares shares' : ℕ → Lending) (w : Loose) (range : ℕ) (rest : TapeSet) (seen : List Event)
    (own : TapeSet) : Type 0 where
  pub valid : Valid c b own
  pub beyond : (number n : ℕ) → listed n ≡ true → range ≤ number → own number n ≡ rest number n
  pub premises : Premises c b shares shares' own w
  pub view_is : view b (events c b own shares w) ≡ seen

-- the sets that give a view with the first shares, and those that give it with the second: `there` takes the first into the second, `back`
-- the second into the first, and each undoes the other on every tape
pub record AsMany (c : Common) (b : Box) (shares shares' : ℕ → Lending) (p : Paired c b shares shares') (w w' : Loose) (range : ℕ)
    (rest : TapeSet) (seen : List Event) : Type 0 where
  pub into : (own : TapeSet) → Gives c b shares shares' w range rest seen own
      → Gives c b shares' shares w' range (image p.there rest) seen (image p.there own)
  pub from : (own : TapeSet) → Gives c b shares' shares w' range (image p.there rest) seen own
      → Gives c b shares shares' w range rest seen (image p.back own)
  pub from_into : (own : TapeSet) → Gives c b shares shares' w range rest seen own
      → (number n : ℕ) → listed n ≡ true → image p.back (image p.there own) number n ≡ own number n
  pub into_from : (own : TapeSet) → Gives c b shares' shares w' range (image p.there rest) seen own
      → (number n : ℕ) → listed n ≡ true → image p.there (image p.back own) number n ≡ own number n

abbrev pub Counting : Type 0
Counting =
    (c : Common) (b : Box) (shares shares' : ℕ → Lending) (p : Paired c b shares shares') (w w' : Loose) (range : ℕ) (rest : TapeSet)
    → Valid c b rest → (seen : List Event) → AsMany c b shares shares' p w w' range rest seen
