-- `encoding::codes::bit` meets its contract: the mask 1 leaves the last bit.
use Prim.Native.Nat.{◌/◌, ◌^◌}
use lib.Bits.{and_mask}
use Rattle.encoding.proofs.codes.bit.Goals as goal

pub returns : goal.returns
returns c = and_mask (c.args.v / 2 ^ c.args.k) 1
