-- `listing::tables::table_at` meets its contract.
use Rattle.listing.specs.TableLaws.{numbered-at}
use borrow.Author.Rules.{rules}
use Rattle.listing.proofs.tables.table_at.Goals as goal

pub returns : goal.returns
returns c = search (numbered-at, rules)
