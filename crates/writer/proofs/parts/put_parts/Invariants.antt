-- What the loops of `writer::parts::put_parts` keep.
use Prim.Native.Nat.{◌+◌}
use mathlib.Core.List.{map}
use mathlib.Core.Path.{◌≡◌}
use lib.ListN.{length}
use lib.Seq.{sets}
use Rattle.listing.specs.Listing.{numbered}
use Rattle.writer.specs.Parts.{joined}
use Rattle.writer.proofs.parts.put_parts.Given as goal

abbrev pub invariant-loop-k : goal.invariant-loop-k
invariant-loop-k l =
    (l.at ≡ 64 + length (joined (numbered (map (λ x. x.now) l.parts)) l.k))
    × (length l.out ≡ length l.initial.out)
    × (l.out ≡ sets l.initial.out 64 (joined (numbered (map (λ x. x.now) l.parts)) l.k))
