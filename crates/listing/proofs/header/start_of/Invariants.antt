-- What the loops of `listing::header::start_of` keep.
use Prim.Native.Nat.{◌+◌, ◌*◌, ◌^◌, ◌≤◌}
use mathlib.Core.Path.{◌≡◌}
use Rattle.listing.specs.Listing.{start}
use Rattle.listing.proofs.header.start_of.Given as goal

abbrev pub invariant-loop-i : goal.invariant-loop-i
invariant-loop-i l = (l.at ≡ start l.f l.s l.i) × (l.at ≤ 64 + l.i * 2 ^ 40)
