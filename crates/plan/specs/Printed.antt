-- What the planner prints for a text (document 02, P8). Texts are lists of bytes.
use Rattle.std.specs.Prelude.{ℕ, cond, List, [], ◌∷◌, ◌++◌, eqb, get_or}
use Rattle.lines.specs.Reading.{is_line, line_numbers}
use Rattle.lines.specs.Writing.{named, row, refused_text}
use Rattle.needs.specs.Figures.{Figures, needs_rule}

-- the words of the tapes, of each round and of work, one line each
unfoldable pub figures_text : Figures → List ℕ
figures_text f =
    named (116 ∷ 97 ∷ 112 ∷ 101 ∷ 32 ∷ []) f.tape
    ++ row (114 ∷ 111 ∷ 117 ∷ 110 ∷ 100 ∷ 115 ∷ []) f.rounds
    ++ named (119 ∷ 111 ∷ 114 ∷ 107 ∷ 32 ∷ []) f.work

-- for a width and a count: the figures, or the refusal
unfoldable pub text_for : ℕ → ℕ → List ℕ
text_for n count =
    let f = needs_rule n count in
    cond (eqb f.refusal 0) (figures_text f) (refused_text f.refusal)

-- for a text whose first line is two numbers; `refused 0` for any other
unfoldable pub printed : List ℕ → List ℕ
printed text =
    let two = line_numbers text in
    cond (is_line 2 text) (text_for (get_or two 0 0) (get_or two 1 0)) (refused_text 0)
