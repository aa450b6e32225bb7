-- `columns::entries::count_others` meets its contract.
use Rattle.octets.specs.SkipLaws.{counted-more}
use Rattle.columns.proofs.Laws.{other_byte, byte_most}
use borrow.Author.Rules.{rules}
use Rattle.columns.proofs.entries.count_others.Goals as goal

pub loop-i-preserved : goal.loop-i-preserved
loop-i-preserved c = search (counted-more, other_byte, byte_most, rules)
