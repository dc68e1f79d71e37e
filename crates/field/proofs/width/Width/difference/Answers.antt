-- `field::width::Width::difference` meets its contract: where u − v is negative the top bit of the wrapped difference is 1, and p is added.
use Rattle.std.proofs.Common.{◌≡◌, ◌+◌, ◌-◌, ◌%◌, ◌^◌, mod-lt, arith}
use Rattle.field.proofs.Widths.{bounds}
use Rattle.field.proofs.Remainders.{wrapped}
use Rattle.field.proofs.width.Width.difference.Goals as goal

pub returns : goal.returns
returns c =
    let a = c.args in
    let b = bounds a.self.listed in
    let d = (a.u + (2 ^ 32 - a.v)) % 2 ^ 32 in
    let back : (d + a.v) % 2 ^ 32 ≡ a.u = omega (arith, c.ranges.u.fits, c.ranges.v.fits) in
    let r = wrapped {d = d} b.word c.ranges.v.fits (mod-lt _ (omega arith)) c.requires.0 c.requires.1 back in
    rw c.modulus.ensures (record { value = r.0; below = r.1 })
