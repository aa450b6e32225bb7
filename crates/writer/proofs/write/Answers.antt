-- `writer::write` meets its contract.
use Rattle.writer.proofs.Laws.{write_none, write_whole, write_sized, write_room}
use borrow.Author.Rules.{rules}
use Rattle.writer.proofs.write.Goals as goal

pub returns-in_err-octets : goal.returns-in_err-octets
returns-in_err-octets c = search (write_none, c.in_err-octets.was, rules)

pub put_listing-requires : goal.put_listing-requires
put_listing-requires c = search (write_sized, write_room, c.in_ok-octets.was, rules)

pub returns : goal.returns
returns c = search (write_whole, c.in_ok-octets.was, rules)
