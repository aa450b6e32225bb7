-- What the loops of `listing::put::start_by` keep.
use Prim.Native.Nat.{◌+◌, ◌*◌, ◌^◌, ◌≤◌}
use mathlib.Core.Path.{◌≡◌}
use Rattle.listing.specs.Header.{listed, start_of}
use Rattle.listing.proofs.put.start_by.Given as goal

abbrev pub invariant-loop-i : goal.invariant-loop-i
invariant-loop-i l = (l.at ≡ start_of (listed l.sizes) l.i) × (l.at ≤ 64 + l.i * 2 ^ 32)
