-- `deals::deal` meets its contract: what its check lets pass can be written.
use mathlib.Core.Path.{sym}
use native.Mathlib.Omega.{arith}
use Rattle.deals.proofs.Grounds.{passed}
use Rattle.deals.proofs.deal.Goals as goal

-- in either order of the buffers: which tape goes where is for the outcome to say
pub write-requires : goal.write-requires
write-requires c =
    let a = c.args in
    let p = passed a.seed a.n a.t1.now a.t2.now (sym c.in_ok-n.ensures.ground) in
    rw c.in_ok-n.ensures.width (omega (arith, p.1, p.2), omega (arith, p.1, p.2))
