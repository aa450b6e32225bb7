-- What the loops of `seek::tiles::first_at` keep.
use Prim.Native.Nat.{◌-◌}
use mathlib.Core.List.{map}
use Rattle.octets.specs.Numbers.{signed}
use Rattle.octets.specs.SearchLaws.{Seeking}
use Rattle.octets.specs.Texts.{spell}
use Rattle.pack.specs.Tables.{tiles_in}
use Rattle.rules.specs.Tiles.{at_address}
use Rattle.seek.proofs.tiles.first_at.Given as goal

abbrev pub invariant-loop-i : goal.invariant-loop-i
invariant-loop-i l = Seeking (λ j. at_address (spell l.names l.a.name) (signed l.a.zoom) (signed l.a.column) (signed l.a.row) ((tiles_in l.tables.form (map (λ x. x.now) l.tables.slices) l.names).row j)) l.i l.n

abbrev pub decreases-loop-i : goal.decreases-loop-i
decreases-loop-i l = l.n - l.i
