-- What grows less with each turn of the loop of `read_listings::say_each`.
use Rattle.std.proofs.Common.{length}
use Rattle.read_listings.proofs.say_each.Given as goal

abbrev pub decreases-loop-size : goal.decreases-loop-size
decreases-loop-size g l = length l.rest
