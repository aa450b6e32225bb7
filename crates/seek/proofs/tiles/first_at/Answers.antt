-- `seek::tiles::first_at` meets its contract.
use Rattle.octets.proofs.SearchLaws.{seek_hit}
use Rattle.seek.specs.ScanLaws.{at-start, at_more}
use borrow.Author.Rules.{rules}
use Rattle.seek.proofs.tiles.first_at.Goals as goal

pub loop-i-init : goal.loop-i-init
loop-i-init c = at-start _ _ _ _ _ _ _ _ _ c.skip_to_place-i.ensures

pub returns-then-at_address : goal.returns-then-at_address
returns-then-at_address c = search (rw c.tile_at.ensures at c.at_address.ensures, seek_hit, rules)

pub loop-i-preserved : goal.loop-i-preserved
loop-i-preserved c = at_more _ _ _ _ _ _ _ _ _ _ _ c.loop-i.invariant c.loop-i-test.true (rw c.tile_at.ensures at c.at_address.ensures) c.if-at_address.false c.skip_to_place-i-in-loop-i.ensures
