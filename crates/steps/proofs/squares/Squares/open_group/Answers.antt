-- What is stored from the group's place on are its words, by the code of its level.
use Rattle.std.proofs.Common.{ℕ, ◌≡◌, ◌+◌, ◌-◌, ◌*◌, ◌%◌, ◌<◌, ◌≤◌, List, sym, ap, ap₂, ◌∙◌, length, get_or, take, drop, length-drop, get_or-drop, mul-le-mul_right, arith}
use Rattle.std.proofs.Math.Seq.{take_all}
use Rattle.std.proofs.lemmas.List.Edits.{sets}
use borrow.Rule.Slice.PartMut.{put_mid}
use Rattle.lists.specs.Span.{span}
use Rattle.lists.proofs.Parts.{put_sets}
use Rattle.lists.proofs.Span.{length_span, span_shift}
use Rattle.shares.specs.Share.{masked}
use Rattle.tape.specs.Layout.{square_count}
use Rattle.tape.proofs.Sizes.{small}
use Rattle.encoding.specs.Codes.{level_code}
use Rattle.protocol.specs.Squares.{code_difference, bit_difference, square_opening}
use Rattle.protocol.proofs.Matches.{group_difference}
use Rattle.steps.proofs.squares.Squares.open_group.Goals.{Start}
use Rattle.steps.proofs.squares.Squares.open_group.Goals as goal

-- the rest of a list, as it is lent
rest : (at : ℕ) (l : List ℕ) → take (length l - at) (drop at l) ≡ drop at l
rest at l = take_all (length l - at) (drop at l) (omega (arith, length-drop at l))

module _ (n side doubled : ℕ) (squares out : List ℕ) (g : ℕ) where
  -- a word by its bit and by its place
  abbrev bit_word : ℕ → ℕ
  bit_word k = square_opening n (code_difference n side (level_code n side doubled (g % n)) k) (drop (g * n * 2) squares) k

  abbrev word : ℕ → ℕ
  word j = square_opening n (bit_difference n side (λ t. doubled) j) squares j

  same_word : (k : ℕ) → k < n → bit_word k ≡ word (g * n + k)
  same_word k less =
      let place : g * n * 2 + k * 2 ≡ (g * n + k) * 2 = omega arith in
      ap₂ (masked n) (sym (group_difference n side (λ t. doubled) g k less))
      (get_or-drop (g * n * 2) squares (k * 2) 0 ∙ ap (λ (i : ℕ). get_or squares i 0) place)

  -- stored in the rest of out, from bit `low` up
  group_words : (low : ℕ) → low ≤ n → g * n + n ≤ length out
      → put_mid (g * n) (length out - g * n) out (sets (take (length out - g * n) (drop (g * n) out)) low (span low n bit_word))
      ≡ sets out (g * n + low) (span (g * n + low) ((g + 1) * n) word)
  group_words low most room =
      let end : g * n + n ≡ (g + 1) * n = omega arith in
      put_sets (g * n) (length out - g * n) out low (span low n bit_word) (omega (arith, length_span low n bit_word))
      ∙ ap (λ (ws : List ℕ). sets out (g * n + low) ws)
      (span_shift (g * n) low n bit_word word (λ k above less. same_word k less) ∙ ap (λ (stop : ℕ). span (g * n + low) stop word) end)

-- the group's squares are dealt
placed : (s : Start) → s.args.g * s.args.self.n.bits + s.args.self.n.bits ≤ square_count s.args.self.n.bits
placed s = omega (arith, mul-le-mul_right s.args.self.n.bits s.requires.operands.1)

pub overflow_mul-at-2 : goal.overflow_mul-at-2
overflow_mul-at-2 c = omega (arith, placed (goal.at.overflow_mul-at-2 c).Start, small c.args.self.n.listed)

pub offset_bounds-self-at : goal.offset_bounds-self-at
offset_bounds-self-at c = omega (arith, placed (goal.at.offset_bounds-self-at c).Start, small c.args.self.n.listed)

pub slice_bounds-open_bits-count : goal.slice_bounds-open_bits-count
slice_bounds-open_bits-count c = omega (arith, placed (goal.at.slice_bounds-open_bits-count c).Start, c.args.self.long)

pub slice_bounds-open_bits-start : goal.slice_bounds-open_bits-start
slice_bounds-open_bits-start c = omega (arith, placed (goal.at.slice_bounds-open_bits-start c).Start, c.args.self.long)

pub offset_bounds-out-at : goal.offset_bounds-out-at
offset_bounds-out-at c = omega (arith, placed (goal.at.offset_bounds-out-at c).Start, small c.args.self.n.listed)

pub slice_bounds-open_bits-count-2 : goal.slice_bounds-open_bits-count-2
slice_bounds-open_bits-count-2 c = omega (arith, placed (goal.at.slice_bounds-open_bits-count-2 c).Start, c.requires.room)

pub slice_bounds-open_bits-start-2 : goal.slice_bounds-open_bits-start-2
slice_bounds-open_bits-start-2 c = omega (arith, placed (goal.at.slice_bounds-open_bits-start-2 c).Start, c.requires.room)

pub open_bits-requires : goal.open_bits-requires
open_bits-requires c =
    let a = c.args in
    let n = a.self.n.bits in
    let at = a.g * n in record {
      operands = omega (arith, c.beyond-low.ensures, c.requires.operands.3);
      below = rw (rest (at * 2) a.self.words.now, rest at a.out.now) (
        record { at = λ i. rw (get_or-drop (at * 2) a.self.words.now i 0) (a.self.below.at (at * 2 + i)) },
        omega (arith, placed (goal.at.open_bits-requires c).Start, length-drop (at * 2) a.self.words.now, a.self.long),
        omega (arith, placed (goal.at.open_bits-requires c).Start, length-drop at a.out.now, c.requires.room),
      );
    }

pub returns : goal.returns
returns c =
    let a = c.args in
    let n = a.self.n.bits in
    let low = a.from - a.g * n in
    ap (put_mid (a.g * n) (length a.out.now - a.g * n) a.out.now)
    (rw (rest (a.g * n * 2) a.self.words.now, c.beyond-low.ensures, c.level_code-code.ensures, c.requires.operands.2) at c.open_bits.ensures)
    ∙ group_words n a.side a.doubled a.self.words.now a.out.now a.g low (omega (arith, c.requires.operands.3)) (omega (arith, placed (goal.at.returns c).Start, c.requires.room))
