-- `tape::section_of` meets its contract: the trailer's distance leads back to the section's start.
use Prim.Native.Nat.{ℕ, ◌+◌, ◌-◌, ◌<◌}
use mathlib.Core.Path.{◌≡◌, refl}
use mathlib.Core.List.{List}
use native.Mathlib.Nat.{add-sub_cancel_left}
use native.Mathlib.Omega.{arith}
use lib.ListN.{length, get_or}
use Rattle.tape.specs.Layout.{section_start, section, body_length}
use Rattle.tape.specs.Order.{Readable}
use Rattle.tape.proofs.Sizes.{body_end}
use Rattle.tape.specs.Sections.{place}
use Rattle.tape.proofs.Sections.{section_back, section_within, place_below}
use Rattle.tape.proofs.section_of.Goals as goal

module _ {n : ℕ} {tape : List ℕ} (r : Readable n tape) (which : ℕ) (l : which < 3) where
  distance : section_start n which + get_or tape (length tape - 7 + which) 0 ≡ body_length n
  distance = rw (body_end n (length tape) r.long, r.distances which l) (section_back n which l)

  start : length tape - 7 - get_or tape (length tape - 7 + which) 0 ≡ section_start n which
  start = omega (arith, distance, body_end n (length tape) r.long)

pub overflow_cast-start : goal.overflow_cast-start
overflow_cast-start c = omega (arith, distance c.requires (place c.args.which) (place_below c.args.which), c.requires.long, c.well_formed)

pub overflow_sub-start : goal.overflow_sub-start
overflow_sub-start c = rw c.place_of.ensures (omega (arith, distance c.requires (place c.args.which) (place_below c.args.which), c.requires.long))

pub overflow_add-end : goal.overflow_add-end
overflow_add-end c =
    omega (
      arith,
      start c.requires (place c.args.which) (place_below c.args.which),
      section_within c.args.n.bits (place c.args.which) (place_below c.args.which),
      c.section_words.ensures,
      c.requires.long,
      c.well_formed,
    )

pub slice_bounds-result-end : goal.slice_bounds-result-end
slice_bounds-result-end c =
    rw c.place_of.ensures (omega (
      arith,
      start c.requires (place c.args.which) (place_below c.args.which),
      section_within c.args.n.bits (place c.args.which) (place_below c.args.which),
      c.section_words.ensures,
      c.requires.long,
    ))

pub returns : goal.returns
unfolding section
returns c =
    rw (c.place_of.ensures, c.section_words.ensures, add-sub_cancel_left, ← start c.requires (place c.args.which) (place_below c.args.which)) refl
