-- `dealer::plain` meets its contract: the body, then the trailer, are the whole tape.
use Prim.Native.Nat.{ℕ}
use mathlib.Core.Path.{◌≡◌, sym, ap, ◌∙◌}
use mathlib.Core.List.{List}
use native.Mathlib.Omega.{arith}
use lib.ListN.{length}
use lib.Seq.{sets}
use Rattle.lists.specs.Tabulate.{tabulate}
use Rattle.lists.proofs.Tabulate.{length_tabulate}
use Rattle.tape.specs.Layout.{body_length, trailer}
use Rattle.tape.specs.Plain.{plain_word, plain_tape}
use Rattle.dealer.proofs.Stores.{whole}
use Rattle.dealer.proofs.plain.Goals as goal

pub returns : goal.returns
unfolding plain_tape
returns c =
    let a = c.args in
    let body = tabulate (body_length a.n.bits) (plain_word a.n.bits a.label.side) in
    let tail = trailer a.n.bits a.label.pair a.label.side a.label.number in
    let long : length body ≡ body_length a.n.bits = length_tabulate (body_length a.n.bits) (plain_word a.n.bits a.label.side) in
    c.trailer.ensures
    ∙ ap (λ (t : List ℕ). sets t (body_length a.n.bits) tail) c.plain_body.ensures
    ∙ ap (λ (m : ℕ). sets (sets a.tape.now 0 body) m tail) (sym long)
    ∙ whole a.tape.now body tail (omega (arith, long, c.requires))
