-- `listing::put::put_pair` meets its contract.
use Rattle.octets.specs.BufferLaws.{put_two}
use Rattle.listing.specs.Header.{two}
use borrow.Author.Rules.{rules}
use Rattle.listing.proofs.put.put_pair.Goals as goal

pub returns : goal.returns
unfolding two
returns c = search (put_two, rules)
