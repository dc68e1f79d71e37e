use Prim.Native.Nat.{ℕ, ◌+◌, ◌%◌}
use mathlib.Core.Path.{◌≡◌, sym, ap, ◌∙◌}
use native.Mathlib.Nat.{zero-add}
use native.Mathlib.Numerals.{add-one}
use native.Mathlib.Omega.{arith}
use lib.ListN.{length}
use Rattle.lists.proofs.Stores.{stored_none, stored_more, stored_all}
use Rattle.lists.proofs.Sets.{sets_whole}
use Rattle.lists.proofs.Tabulate.{length_tabulate}
use Rattle.field.specs.Width.{modulus}
use Rattle.draws.specs.Draws.{next, draw}
use Rattle.draws.proofs.Draws.{draw_none, draw_next}
use Rattle.draws.proofs.fill.Goals as goal

pub loop-word-init : goal.loop-word-init
loop-word-init c = (sym (draw_none _), stored_none)

pub loop-word-preserved : goal.loop-word-preserved
loop-word-preserved c =
    let i = c.loop-word.word-index in
    let last : c.next-last.result ≡ draw c.args.v (i + 1) = c.next-last.ensures ∙ ap next c.loop-word.invariant.0 ∙ sym (draw_next c.args.v i) in (
      last,
      stored_more c.loop-word.invariant.1 _ _ (omega arith) (sym (zero-add i))
          (c.reduce.ensures.value ∙ ap (λ (w : ℕ). w % modulus c.args.n.bits) (last ∙ ap (draw c.args.v) (add-one i))),
    )

pub returns-clause-filled : goal.returns-clause-filled
returns-clause-filled c =
    stored_all c.loop-word.invariant.1 (omega arith) ∙ sets_whole c.args.words.now _ (length_tabulate (length c.args.words.now) _)
