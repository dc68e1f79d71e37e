-- `dealer::trailer` meets its contract: the seven words are a tape's last.
use Prim.Native.Nat.{ℕ}
use mathlib.Core.Path.{◌≡◌, ap, ap₂, ◌∙◌}
use mathlib.Core.List.{List}
use native.Mathlib.Omega.{arith}
use lib.ListN.{length}
use lib.Seq.{sets}
use Rattle.lists.proofs.Parts.{put_whole}
use Rattle.tape.specs.Layout.{body_length}
use Rattle.dealer.proofs.trailer.Goals as goal

pub returns : goal.returns
returns c =
    let a = c.args in
    let here : c.body_words-body.result ≡ body_length a.n.bits = omega (arith, c.body_words-body.ensures) in
    let words = c.copy_from_slice.ensures.after ∙ c.trailer_of-words.ensures in
    put_whole _ _ a.tape.now _ c.copy_from_slice.ensures.len (omega (arith, ap length words))
    ∙ ap₂ (λ (at : ℕ) (ws : List ℕ). sets a.tape.now at ws) here words
