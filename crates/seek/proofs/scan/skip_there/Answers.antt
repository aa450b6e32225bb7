-- `seek::scan::skip_there` meets its contract.
use Rattle.seek.specs.ScanLaws.{pass_rows, pass_entries, room-rows, room-columns, room-lines}
use borrow.Author.Rules.{rules}
use Rattle.seek.proofs.scan.skip_there.Goals as goal

pub skip_rows-requires : goal.skip_rows-requires
skip_rows-requires c = search (room-rows, rules)

pub invariant_of-skip : goal.invariant_of-skip
invariant_of-skip c = search (room-columns, room-lines, rules)

pub returns-in-Rows : goal.returns-in-Rows
returns-in-Rows c = search (pass_rows, rules)

pub returns-in-Columns : goal.returns-in-Columns
returns-in-Columns c = search (pass_entries, rules)
