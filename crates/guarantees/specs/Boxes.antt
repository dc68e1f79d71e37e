-- The two boxes.
use Rattle.std.specs.Prelude.{ℕ}

pub data Box : Type 0 where
  box1 box2 : Box

abbrev pub side_of : Box → ℕ
side_of box1 = 1
side_of box2 = 2

abbrev pub other_box : Box → Box
other_box box1 = box2
other_box box2 = box1
