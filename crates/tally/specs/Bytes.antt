-- The marks of a tally one after the other, each as a list of its bytes, which is a tally of one tape.
use Rattle.std.specs.Prelude.{ℕ, List, length}
use Rattle.std.specs.Simd.{first_chunks}
use Rattle.tally.specs.Tally.{mark_bytes, tapes_of}

unfoldable pub marks_of : List ℕ → List (List ℕ)
marks_of tally = first_chunks mark_bytes (tapes_of (length tally)) tally
