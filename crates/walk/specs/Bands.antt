-- What both boxes are asked on tapes 1 and 2: a band, or a joined pair, and not always the same.
use Rattle.std.specs.Prelude.{ℕ, List, [], ◌∷◌}
use Rattle.rules.specs.declared.state.Task.{Task}
use Rattle.walk.specs.Walk.{joined_tapes}
use Rattle.walk.specs.Courses.{Asked, asked}

-- with plain tapes
abbrev pub on_two : Task → Task → List ℕ → List ℕ → Asked
on_two task1 task2 shares1 shares2 = asked 1 task1 task2 shares1 shares2 (joined_tapes (1 ∷ 1 ∷ []) 1) (joined_tapes (2 ∷ 2 ∷ []) 1)
