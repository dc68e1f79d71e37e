-- Runs of stores: `sets l at vs` is l with the words vs from place `at` on.
use Prim.Native.Nat.{ℕ, zero, suc, ◌+◌, ◌<◌, ◌≤◌}
use mathlib.Core.Path.{◌≡◌, refl, sym, ap, ◌∙◌}
use mathlib.Core.List.{List, [], ◌∷◌, ◌++◌, append-nil}
use mathlib.Core.Logic.{◌⊎◌, inl, inr, ⊎_elim}
use native.Mathlib.Nat.{add-zero, zero-add, add-suc, suc-add, not-suc-le-zero, le_of_suc-le-suc}
use native.Mathlib.Numerals.{add-one}
use native.Mathlib.Omega.{arith}
use lib.ListN.{length, get_or, set, drop, length-set, drop_of_length-le}
use lib.Seq.{sets, sets-eq, get_or-set_same, get_or-set_other}
use Rattle.lists.specs.Tabulate.{tabulate}
use Rattle.lists.proofs.Tabulate.{length_tabulate, get_d_tabulate}

-- one run after another is one run
pub sets_append : (l : List ℕ) (at : ℕ) (vs ws : List ℕ) → sets l at (vs ++ ws) ≡ sets (sets l at vs) (at + length vs) ws
sets_append l at [] ws = rw (add-zero at)
sets_append l at (v ∷ vs) ws =
    sets_append (set l at v) (suc at) vs ws
    ∙ ap (λ (k : ℕ). sets (sets (set l at v) (suc at) vs) k ws) (suc-add at (length vs) ∙ sym (add-suc at (length vs)))

-- a turn of a loop that stores: the run grows by one word
pub sets_more : (l : List ℕ) (at k : ℕ) (f : ℕ → ℕ) → set (sets l at (tabulate k f)) (at + k) (f k) ≡ sets l at (tabulate (k + 1) f)
sets_more l at k f =
    sym
    (ap (λ (m : ℕ). sets l at (tabulate m f)) (add-one k)
    ∙ sets_append l at (tabulate k f) (f k ∷ [])
    ∙ ap (λ (m : ℕ). set (sets l at (tabulate k f)) (at + m) (f k)) (length_tabulate k f))

-- the rest is as it was
pub get_or_sets_out : (l : List ℕ) (at : ℕ) (vs : List ℕ) (j : ℕ) → (j < at) ⊎ (at + length vs ≤ j) → get_or (sets l at vs) j 0 ≡ get_or l j 0
get_or_sets_out l at [] j h = refl
get_or_sets_out l at (v ∷ vs) j h =
    get_or_sets_out (set l at v) (suc at) vs j (⊎_elim (λ low. inl (omega arith)) (λ high. inr (omega arith)) h)
    ∙ get_or-set_other l at j v 0 (⊎_elim (λ low e. omega arith) (λ high e. omega arith) h)

-- what was stored is read back
pub get_or_sets_in : (l : List ℕ) (at : ℕ) (vs : List ℕ) (i : ℕ) → i < length vs → at + length vs ≤ length l
    → get_or (sets l at vs) (at + i) 0 ≡ get_or vs i 0
get_or_sets_in l at [] i h room = absurd (not-suc-le-zero h)
get_or_sets_in l at (v ∷ vs) zero h room =
    get_or_sets_out (set l at v) (suc at) vs (at + 0) (inl (omega arith))
    ∙ rw (add-zero at) (get_or-set_same l at v 0 (omega arith))
get_or_sets_in l at (v ∷ vs) (suc i) h room =
    ap (λ (k : ℕ). get_or (sets (set l at v) (suc at) vs) k 0) (add-suc at i ∙ sym (suc-add at i))
    ∙ get_or_sets_in (set l at v) (suc at) vs i (le_of_suc-le-suc h) (rw (length-set l at v) (omega arith))

-- a tabulated run, read by its places
pub get_or_sets_tabulate : (l : List ℕ) (at n : ℕ) (f : ℕ → ℕ) (i : ℕ) → i < n → at + n ≤ length l
    → get_or (sets l at (tabulate n f)) (at + i) 0 ≡ f i
get_or_sets_tabulate l at n f i h room =
    get_or_sets_in l at (tabulate n f) i (rw (length_tabulate n f) h) (rw (length_tabulate n f) room) ∙ get_d_tabulate n f i 0 h

pub get_or_sets_beside : (l : List ℕ) (at n : ℕ) (f : ℕ → ℕ) (j : ℕ) → (j < at) ⊎ (at + n ≤ j)
    → get_or (sets l at (tabulate n f)) j 0 ≡ get_or l j 0
get_or_sets_beside l at n f j h = get_or_sets_out l at (tabulate n f) j (rw (length_tabulate n f) h)

-- at the front: the words, then the rest of the list as it was
pub sets_front : (l vs : List ℕ) → length vs ≤ length l → sets l 0 vs ≡ vs ++ drop (length vs) l
sets_front l vs room = sets-eq vs l 0 (omega arith) ∙ ap (λ (k : ℕ). vs ++ drop k l) (zero-add (length vs))

-- all of the list
pub sets_whole : (l vs : List ℕ) → length vs ≡ length l → sets l 0 vs ≡ vs
sets_whole l vs full =
    sets_front l vs (omega arith)
    ∙ ap (λ (rest : List ℕ). vs ++ rest) (drop_of_length-le l {i = length vs} (omega arith))
    ∙ append-nil vs
