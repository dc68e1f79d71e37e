-- The pairing, read as a pairing of the sets that give one view.
use mathlib.Core.Path.{sym, ap, ◌∙◌}
use Rattle.guarantees.specs.Counting.{Counting}

pub counting : Counting
counting c b shares shares' p w w' range rest valid seen =
    record {
      into = λ own g. record {
        valid = λ number n l. p.hidden.matching number n (own number n) (g.valid number n l);
        beyond = λ number n l far. ap (p.there number n) (g.beyond number n l far);
        premises = p.hidden.meets own g.valid w w' g.premises;
        view_is = sym (p.hidden.alike own g.valid w w' g.premises) ∙ g.view_is;
      };
      from = λ own g. record {
        valid = λ number n l. p.hidden_back.matching number n (own number n) (g.valid number n l);
        beyond = λ number n l far. ap (p.back number n) (g.beyond number n l far) ∙ p.hidden.undone number n (rest number n) (valid number n l);
        premises = p.hidden_back.meets own g.valid w' w g.premises;
        view_is = sym (p.hidden_back.alike own g.valid w' w g.premises) ∙ g.view_is;
      };
      from_into = λ own g number n l. p.hidden.undone number n (own number n) (g.valid number n l);
      into_from = λ own g number n l. p.hidden_back.undone number n (own number n) (g.valid number n l);
    }
