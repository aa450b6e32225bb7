-- `octets::put_octets` meets its contract.
use lib.ListN.{length-set}
use Rattle.octets.specs.BufferLaws.{put-none, put-more, put_whole}
use borrow.Author.Rules.{rules}
use Rattle.octets.proofs.put_octets.Goals as goal

pub loop-i-init : goal.loop-i-init
loop-i-init c = search (put-none, rules)

pub loop-i-preserved : goal.loop-i-preserved
loop-i-preserved c = search (put-more, length-set, rules)

pub returns : goal.returns
returns c = search (put_whole, rules)
