-- `columns::entries::check_entries` meets its contract.
use Rattle.utf8.specs.MarkLaws.{marks_none}
use Rattle.columns.specs.EntryLaws.{entries-clean, entries-outside, entries-ill}
use Rattle.columns.proofs.Laws.{marked_reasons}
use borrow.Author.Rules.{rules}
use Rattle.columns.proofs.entries.check_entries.Goals as goal

pub of-marked-requires : goal.of-marked-requires
of-marked-requires c = search (marks_none, rules)

pub returns-then-n-either : goal.returns-then-n-either
returns-then-n-either c = marked_reasons _ _ _ _ _ c.of-marked.ensures (search (entries-clean, rules))

pub returns-then-outside-n : goal.returns-then-outside-n
returns-then-outside-n c = marked_reasons _ _ _ _ _ c.of-marked.ensures (search (entries-outside, rules))

pub returns-else-outside-n : goal.returns-else-outside-n
returns-else-outside-n c = marked_reasons _ _ _ _ _ c.of-marked.ensures (search (entries-ill, rules))
