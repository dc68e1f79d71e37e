-- Demand 3, for either box b: over any list that meets the premises b's tapes are paired one to one, and a run with a tape set and the first
-- shares looks to the other box like a run with the paired set and the second shares.
--
-- The pairing is tape by tape. A valid set has a tape for every number, and a list touches few of them: maps on whole sets could keep marks
-- where no list looks, and a one-to-one map between infinite sets says nothing of how often a view comes up. The tapes of one number and
-- width that match the other box's are finitely many, so a map that is one to one on them shows that they are as many (Counting.antt).
use Rattle.std.specs.Prelude.{ℕ, ◌≡◌, List}
use Rattle.guarantees.specs.Boxes.{Box}
use Rattle.guarantees.specs.Run.{Lending}
use Rattle.guarantees.specs.View.{view}
use Rattle.guarantees.specs.Comparison.{TapeSet, Common, Loose, Matching, Valid, TapeMap, image, events, Premises, Witness}

-- `there` takes each tape that matches the other box's to one that does, and `back` undoes it. Where a run with a set and the first shares
-- meets the premises, the run with the set of the images and the second shares meets them too and looks the same, whatever work holds and
-- whichever zeros the board respells in either
pub record Hidden (c : Common) (b : Box) (shares shares' : ℕ → Lending) (there back : TapeMap) : Type 0 where
  pub matching : (number n : ℕ) (tape : List ℕ) → Matching c b number n tape → Matching c b number n (there number n tape)
  pub undone : (number n : ℕ) (tape : List ℕ) → Matching c b number n tape → back number n (there number n tape) ≡ tape
  pub meets : (own : TapeSet) → Valid c b own → (w w' : Loose) → Premises c b shares shares' own w
      → Premises c b shares' shares (image there own) w'
  pub alike : (own : TapeSet) → Valid c b own → (w w' : Loose) → Premises c b shares shares' own w
      → view b (events c b own shares w) ≡ view b (events c b (image there own) shares' w')

-- a pairing: the same holds of the two maps with the tables of shares exchanged, so none is left over
pub record Paired (c : Common) (b : Box) (shares shares' : ℕ → Lending) : Type 0 where
  pub there : TapeMap
  pub back : TapeMap
  pub hidden : Hidden c b shares shares' there back
  pub hidden_back : Hidden c b shares' shares back there

-- demand 3: a list that meets the premises, as a witness shows, has a pairing. The pairing does not depend on the witness: it is given by
-- the list, all shares and the other box's tapes
pub record Secrecy : Type 0 where
  pub paired : (c : Common) (b : Box) (shares shares' : ℕ → Lending) → Witness c b shares shares' → Paired c b shares shares'
  pub same_there : (c : Common) (b : Box) (shares shares' : ℕ → Lending) (e e' : Witness c b shares shares')
      → (number n : ℕ) (tape : List ℕ) → Matching c b number n tape
      → (paired c b shares shares' e).there number n tape ≡ (paired c b shares shares' e').there number n tape
  pub same_back : (c : Common) (b : Box) (shares shares' : ℕ → Lending) (e e' : Witness c b shares shares')
      → (number n : ℕ) (tape : List ℕ) → Matching c b number n tape
      → (paired c b shares shares' e).back number n tape ≡ (paired c b shares shares' e').back number n tape
