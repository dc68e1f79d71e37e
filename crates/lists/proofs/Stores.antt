-- Loops that store one word a turn: the words passed stand in their places, and the rest is as it was.
use Prim.Native.Nat.{ℕ, ◌+◌, ◌-◌, ◌<◌, ◌≤◌}
use mathlib.Core.Path.{◌≡◌, refl, sym, ap, ◌∙◌}
use mathlib.Core.List.{List, [], ◌∷◌}
use mathlib.Core.Logic.{◌⊎◌}
use native.Mathlib.Nat.{add-zero}
use native.Mathlib.Omega.{arith}
use lib.ListN.{length, get_or, set, length-set}
use lib.Seq.{sets}
use Rattle.lists.specs.Tabulate.{tabulate}
use Rattle.lists.specs.Span.{span, later}
use Rattle.lists.proofs.Sets.{sets_more, get_or_sets_beside}
use Rattle.lists.proofs.Span.{span_none, sets_span}

-- ---- from a place up: after k turns the first k words stand there

pub record Stored (old : List ℕ) (at count : ℕ) (f : ℕ → ℕ) (l : List ℕ) (k : ℕ) : Type 0 where
  pub turns : k ≤ count
  pub long : length l ≡ length old
  pub same : l ≡ sets old at (tabulate k f)

pub stored_none : {l : List ℕ} {at count : ℕ} {f : ℕ → ℕ} → Stored l at count f l 0
stored_none = record { turns = omega arith; long = refl; same = refl }

module _ {old : List ℕ} {at count : ℕ} {f : ℕ → ℕ} {l : List ℕ} {k : ℕ} (h : Stored old at count f l k) where
  -- a turn
  pub stored_more : (place v : ℕ) → k < count → place ≡ at + k → v ≡ f k → Stored old at count f (set l place v) (k + 1)
  stored_more place v less e word =
      record {
        turns = omega arith;
        long = length-set l place v ∙ h.long;
        same = rw (e, word, h.same) (sets_more old at k f);
      }

  -- the end
  pub stored_all : count ≤ k → l ≡ sets old at (tabulate count f)
  stored_all end =
      let done : k ≡ count = omega arith in
      h.same ∙ ap (λ (m : ℕ). sets old at (tabulate m f)) done

  -- what no turn has reached
  pub stored_beside : (j : ℕ) → (j < at) ⊎ (at + k ≤ j) → get_or l j 0 ≡ get_or old j 0
  stored_beside j out = ap (λ (m : List ℕ). get_or m j 0) h.same ∙ get_or_sets_beside old at k f j out

-- ---- from word `stop` down to word `low`: the words from k up stand in their places

pub record StoredDown (old : List ℕ) (at low stop : ℕ) (f : ℕ → ℕ) (l : List ℕ) (k : ℕ) : Type 0 where
  pub least : low ≤ k
  pub most : k ≤ stop
  pub long : length l ≡ length old
  pub same : l ≡ sets old (at + k) (span k stop f)

pub down_none : {l : List ℕ} {at low stop : ℕ} {f : ℕ → ℕ} → low ≤ stop → StoredDown l at low stop f l stop
down_none {l} {at} {low} {stop} {f} room =
    record {
      least = room;
      most = omega arith;
      long = refl;
      same = sym (ap (λ (ws : List ℕ). sets l (at + stop) ws) (span_none stop stop f (omega arith)));
    }

-- one word in front of a stretch
set_span : (l : List ℕ) (at k stop : ℕ) (f : ℕ → ℕ) → k < stop
    → set (sets l (at + (k + 1)) (span (k + 1) stop f)) (at + k) (f k) ≡ sets l (at + k) (span k stop f)
set_span l at k stop f less =
    let one : k + 1 - k ≡ 1 = omega arith in
    let word : span k (k + 1) f ≡ f k ∷ [] = ap (λ (m : ℕ). tabulate m (λ i. f (k + i))) one ∙ ap (λ (j : ℕ). f j ∷ []) (add-zero k) in
    let upper : later (k + 1) k ≡ k + 1 = omega arith in
    ap (λ (ws : List ℕ). sets (sets l (at + (k + 1)) (span (k + 1) stop f)) (at + k) ws) (sym word)
    ∙ ap (λ (m : ℕ). sets (sets l (at + m) (span m stop f)) (at + k) (span k (k + 1) f)) (sym upper)
    ∙ sets_span l at k (k + 1) stop f (omega arith)

module _ {old : List ℕ} {at low stop : ℕ} {f : ℕ → ℕ} {l : List ℕ} {k : ℕ} (h : StoredDown old at low stop f l k) where
  -- a turn
  pub down_more : (place v : ℕ) → low < k → place ≡ at + (k - 1) → v ≡ f (k - 1) → StoredDown old at low stop f (set l place v) (k - 1)
  down_more place v less e word =
      let next : k ≡ k - 1 + 1 = omega arith in
      let before : l ≡ sets old (at + (k - 1 + 1)) (span (k - 1 + 1) stop f) =
      h.same ∙ ap (λ (m : ℕ). sets old (at + m) (span m stop f)) next in
      record {
        least = omega arith;
        most = omega (arith, h.most);
        long = length-set l place v ∙ h.long;
        same = rw (e, word, before) (set_span old at (k - 1) stop f (omega (arith, h.most)));
      }

  -- the end
  pub down_all : k ≤ low → l ≡ sets old (at + low) (span low stop f)
  down_all end =
      let done : k ≡ low = omega (arith, h.least) in
      h.same ∙ ap (λ (m : ℕ). sets old (at + m) (span m stop f)) done
