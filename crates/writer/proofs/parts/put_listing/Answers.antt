-- `writer::parts::put_listing` meets its contract.
use Rattle.writer.proofs.Laws.{listing_put, header-room, parts-room}
use borrow.Author.Rules.{rules}
use Rattle.writer.proofs.parts.put_listing.Goals as goal

pub put_header-requires : goal.put_header-requires
put_header-requires c = search (header-room, rules)

pub put_parts-requires : goal.put_parts-requires
put_parts-requires c = search (parts-room, rules)

pub returns : goal.returns
returns c = search (listing_put, rules)
