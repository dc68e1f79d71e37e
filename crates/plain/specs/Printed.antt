-- What plainrun prints for a text (document 01, "The plainrun program"). Texts are lists of bytes.
use Rattle.std.specs.Prelude.{ℕ, ◌+◌, ◌%◌, ◌&&◌, cond, List, [], ◌∷◌, ◌++◌, eqb, leb, ltb, get_or}
use Rattle.field.specs.Width.{listed, modulus}
use Rattle.encoding.specs.Matching.{indicator}
use Rattle.protocol.specs.Sizes.{rounds_for}
use Rattle.lines.specs.Reading.{is_line, line_numbers}
use Rattle.lines.specs.Writing.{named, row, refused_text}

-- the number of the first refusal, 0 where there is none: 2 for a width that is not listed or is above 13, 9 for a share that is p or more
unfoldable pub plain_refusal : ℕ → ℕ → ℕ → ℕ → ℕ → ℕ
plain_refusal n x1 x2 y1 y2 =
    cond (leb n 13 && listed n)
    (cond (ltb x1 (modulus n) && ltb y1 (modulus n) && ltb x2 (modulus n) && ltb y2 (modulus n)) 0 9)
    2

-- x < y
unfoldable pub plain_less : ℕ → ℕ → ℕ → ℕ → ℕ → ℕ
plain_less n x1 x2 y1 y2 = indicator (ltb ((x1 + x2) % modulus n) ((y1 + y2) % modulus n))

-- the answer, and 0 where there is a refusal
unfoldable pub plain_answer : ℕ → ℕ → ℕ → ℕ → ℕ → ℕ
plain_answer n x1 x2 y1 y2 = cond (eqb (plain_refusal n x1 x2 y1 y2) 0) (plain_less n x1 x2 y1 y2) 0

-- the words of each round of one job, then the answer
unfoldable pub answer_text : ℕ → ℕ → List ℕ
answer_text n less =
    row (114 ∷ 111 ∷ 117 ∷ 110 ∷ 100 ∷ 115 ∷ []) (rounds_for n 1)
    ++ named (108 ∷ 101 ∷ 115 ∷ 115 ∷ 32 ∷ []) less

-- for five numbers, n x1 x2 y1 y2
unfoldable pub text_for : ℕ → ℕ → ℕ → ℕ → ℕ → List ℕ
text_for n x1 x2 y1 y2 =
    let refusal = plain_refusal n x1 x2 y1 y2 in
    cond (eqb refusal 0) (answer_text n (plain_less n x1 x2 y1 y2)) (refused_text refusal)

unfoldable pub printed : List ℕ → List ℕ
printed text =
    let five = line_numbers text in
    cond (is_line 5 text) (text_for (get_or five 0 0) (get_or five 1 0) (get_or five 2 0) (get_or five 3 0) (get_or five 4 0)) (refused_text 0)
