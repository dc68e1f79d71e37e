-- Buffers that are lent full of filler: their fronts, and what is past the words that a call uses.
use Prim.Native.Nat.{ℕ, ◌+◌, ◌≤◌}
use mathlib.Core.Path.{◌≡◌, ap}
use mathlib.Core.Bool.{Bool, true}
use mathlib.Core.List.{List}
use native.Mathlib.Omega.{arith}
use lib.ListN.{length, take, drop, length-replicate}
use Rattle.std.proofs.lemmas.List.{take-replicate, take_all, length-drop}
use Rattle.walk.specs.Walk.{filler}

pub front : (count room : ℕ) → count ≤ room → take count (filler room) ≡ filler count
front count room fits = take-replicate count room 9 fits

pub long : (count : ℕ) → filler (length (filler count)) ≡ filler count
long count = ap filler (length-replicate count 9)

-- what is past the words that a call uses, told of a buffer that is as the rule leaves it
pub rest : (used more : ℕ) (l left : List ℕ) {test : Bool} → length l ≡ used + more → l ≡ left
    → (test ≡ true → take more (drop used l) ≡ filler (length (take more (drop used l))))
    × (take more (drop used l) ≡ filler (length (take more (drop used l))) → test ≡ true)
    → (test ≡ true → drop used left ≡ filler more) × (drop used left ≡ filler more → test ≡ true)
rest used more l left size same told =
    let count : length (drop used l) ≡ more = omega (arith, length-drop used l) in
    let all : take more (drop used l) ≡ drop used l = take_all more (drop used l) (omega arith) in
    rw same at rw (all, count) at told
