-- The plain tapes of document 01's plainrun: box 1's power words are 1 and all other body words 0.
use Rattle.std.specs.Prelude.{ℕ, ◌&&◌, cond, List, ◌++◌, eqb, leb, ltb}
use Rattle.lists.specs.Tabulate.{tabulate}
use Rattle.tape.specs.Layout.{section_start, body_length, trailer}

abbrev pub plain_word : ℕ → ℕ → ℕ → ℕ
plain_word n side j = cond (eqb side 1 && leb (section_start n 1) j && ltb j (section_start n 2)) 1 0

unfoldable pub plain_tape : ℕ → ℕ → ℕ → ℕ → List ℕ
plain_tape n pair side number = tabulate (body_length n) (plain_word n side) ++ trailer n pair side number
