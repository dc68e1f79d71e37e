-- The laws of stretches, and runs of stores from the end down: what is put in front of a stretch makes it longer.
use Prim.Native.Nat.{ℕ, suc, ◌+◌, ◌-◌, ◌<◌, ◌≤◌}
use mathlib.Core.Path.{◌≡◌, refl, sym, ap, ◌∙◌}
use mathlib.Core.List.{List, [], ◌∷◌, ◌++◌}
use mathlib.Core.Logic.{by_cases}
use native.Mathlib.Nat.{add-zero, zero-add, add-suc, suc-add}
use native.Mathlib.Decide.{dec_lt}
use native.Mathlib.Omega.{arith}
use lib.ListN.{length, set, drop}
use lib.Seq.{sets, set_comm, drop_at}
use Rattle.lists.specs.Tabulate.{tabulate}
use Rattle.lists.specs.Span.{span, later}
use Rattle.lists.proofs.Tabulate.{length_tabulate, tabulate_same, tabulate_append}

pub length_span : (from stop : ℕ) (f : ℕ → ℕ) → length (span from stop f) ≡ stop - from
length_span from stop f = length_tabulate (stop - from) (λ i. f (from + i))

pub span_none : (from stop : ℕ) (f : ℕ → ℕ) → stop ≤ from → span from stop f ≡ []
span_none from stop f over =
    let none : stop - from ≡ 0 = omega arith in
    ap (λ (k : ℕ). tabulate k (λ i. f (from + i))) none

pub span_same : (from stop : ℕ) (f g : ℕ → ℕ) → ((j : ℕ) → from ≤ j → j < stop → f j ≡ g j) → span from stop f ≡ span from stop g
span_same from stop f g h =
    tabulate_same (stop - from) (λ i. f (from + i)) (λ i. g (from + i)) (λ i less. h (from + i) (omega arith) (omega arith))

-- the places moved by a distance
pub span_shift : (at from stop : ℕ) (f g : ℕ → ℕ) → ((k : ℕ) → from ≤ k → k < stop → f k ≡ g (at + k))
    → span from stop f ≡ span (at + from) (at + stop) g
span_shift at from stop f g h =
    let long : stop - from ≡ at + stop - (at + from) = omega arith in
    tabulate_same (stop - from) (λ i. f (from + i)) (λ i. g (at + from + i))
    (λ i less. h (from + i) (omega arith) (omega arith) ∙ ap g (omega arith))
    ∙ ap (λ (k : ℕ). tabulate k (λ i. g (at + from + i))) long

pub span_split : (a b c : ℕ) (f : ℕ → ℕ) → a ≤ b → b ≤ c → span a c f ≡ span a b f ++ span b c f
span_split a b c f low high =
    let long : c - a ≡ b - a + (c - b) = omega arith in
    ap (λ (k : ℕ). tabulate k (λ i. f (a + i))) long
    ∙ tabulate_append (b - a) (c - b) (λ i. f (a + i))
    ∙ ap (λ (rest : List ℕ). span a b f ++ rest)
    (tabulate_same (c - b) (λ j. f (a + (b - a + j))) (λ j. f (b + j)) (λ j less. ap f (omega arith)))

-- a tabulated list from a place on
pub drop_tabulate : (from stop : ℕ) (f : ℕ → ℕ) → from ≤ stop → drop from (tabulate stop f) ≡ span from stop f
drop_tabulate from stop f room =
    let long : stop ≡ from + (stop - from) = omega arith in
    ap (λ (k : ℕ). drop from (tabulate k f)) long
    ∙ ap (drop from) (tabulate_append from (stop - from) f)
    ∙ drop_at (tabulate from f) (span from stop f) from (length_tabulate from f)

-- ---- stores

-- one store before a run
set_before : (l : List ℕ) (i v at : ℕ) (ws : List ℕ) → i < at → set (sets l at ws) i v ≡ sets (set l i v) at ws
set_before l i v at [] less = refl
set_before l i v at (w ∷ ws) less =
    set_before (set l at w) i v (suc at) ws (omega arith)
    ∙ ap (λ (m : List ℕ). sets m (suc at) ws) (set_comm l at i w v (λ same. omega arith))

-- a run put in front of another is one run
sets_before : (l : List ℕ) (at : ℕ) (vs ws : List ℕ) → sets (sets l (at + length vs) ws) at vs ≡ sets l at (vs ++ ws)
sets_before l at [] ws = ap (λ (k : ℕ). sets l k ws) (add-zero at)
sets_before l at (v ∷ vs) ws =
    let next : at + suc (length vs) ≡ suc at + length vs = add-suc at (length vs) ∙ sym (suc-add at (length vs)) in
    ap (λ (m : List ℕ). sets m (suc at) vs) (set_before l at v (at + suc (length vs)) ws (omega arith))
    ∙ ap (λ (k : ℕ). sets (sets (set l at v) k ws) (suc at) vs) next
    ∙ sets_before (set l at v) (suc at) vs ws

-- What stands from b up grows down to a. Where a is b or above it there is nothing to put before, and what stands begins at a.
pub sets_span : (l : List ℕ) (at a b c : ℕ) (f : ℕ → ℕ) → b ≤ c
    → sets (sets l (at + later b a) (span (later b a) c f)) (at + a) (span a b f) ≡ sets l (at + a) (span a c f)
sets_span l at a b c f high =
    by_cases (dec_lt a b)
    (λ below.
    let upper : later b a ≡ b = omega arith in
    let place : at + b ≡ at + a + length (span a b f) = omega (arith, length_span a b f) in
    rw upper
    (ap (λ (k : ℕ). sets (sets l k (span b c f)) (at + a) (span a b f)) place
    ∙ sets_before l (at + a) (span a b f) (span b c f)
    ∙ ap (λ (ws : List ℕ). sets l (at + a) ws) (sym (span_split a b c f (omega arith) high))))
    (λ over.
    let upper : later b a ≡ a = omega arith in
    rw (upper, span_none a b f (omega arith)) refl)

-- the same of a stretch whose words are counted by their places
pub sets_later : (l : List ℕ) (a b c : ℕ) (f : ℕ → ℕ) → b ≤ c
    → sets (sets l (later b a) (span (later b a) c f)) a (span a b f) ≡ sets l a (span a c f)
sets_later l a b c f high = rw (zero-add a, zero-add (later b a)) at (sets_span l 0 a b c f high)
