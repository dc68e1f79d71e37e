-- The numbers around a half-written mark, computed.
use mathlib.Core.Path.{refl}
use Rattle.tally.specs.Tally.{tapes_of, is_fresh, late}
use Rattle.tally.specs.Highest.{Around}

pub around : Around
unfolding tapes_of is_fresh late
around = record { spent = refl; just_below = refl; at_it = refl; just_above = refl }
