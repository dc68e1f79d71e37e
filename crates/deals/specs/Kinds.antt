-- The kinds of groups by their numbers, which are their places in the order of the body.
use Rattle.std.specs.Prelude.{ℕ}
use Rattle.deals.specs.declared.kinds.Kind.{Kind}
use Rattle.deals.specs.declared.kinds.Kind.TheVariants.{Square, Power, Triple, Last}

abbrev pub number_of : Kind → ℕ
number_of Square = 0
number_of Power = 1
number_of Triple = 2
number_of Last = 3
