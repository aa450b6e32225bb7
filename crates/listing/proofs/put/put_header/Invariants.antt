-- What the loops of `listing::put::put_header` keep.
use Prim.Native.Nat.{◌≤◌}
use mathlib.Core.Path.{◌≡◌}
use lib.ListN.{length}
use Rattle.octets.specs.Octets.{filled}
use Rattle.listing.specs.Header.{listed, pairs}
use Rattle.listing.proofs.put.put_header.Given as goal

abbrev pub invariant-loop-k : goal.invariant-loop-k
invariant-loop-k l = (64 ≤ length l.initial.out) × (length l.out ≡ length l.initial.out) × (l.out ≡ filled (pairs l.version (listed l.counts) (listed l.sizes) l.k) l.initial.out)
