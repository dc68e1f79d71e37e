use Prim.Native.Nat.{ℕ}
use lib.ListN.{length-replicate}
use Rattle.vectors.proofs.data.blank_room.Goals as goal

pub returns : goal.returns
returns c = length-replicate {A = ℕ} 524288 0
