-- `seek::scan::Entries::count` meets its contract.
use Rattle.std.proofs.Common.{rules}
use Rattle.octets.specs.SkipLaws.{counted-more}
use Rattle.seek.proofs.scan.Entries.count.Goals as goal

pub loop-i-preserved : goal.loop-i-preserved
loop-i-preserved c = search (counted-more, rules)
