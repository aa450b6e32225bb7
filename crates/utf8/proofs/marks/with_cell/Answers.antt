-- `utf8::marks::with_cell` meets its contract.
use Rattle.utf8.specs.MarkLaws.{added_bit}
use borrow.Author.Rules.{rules}
use Rattle.utf8.proofs.marks.with_cell.Goals as goal

pub returns : goal.returns
returns c = search (added_bit, rules)
