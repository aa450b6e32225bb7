-- `report::answers::put_words` meets its contract.
use borrow.Author.Rules.{rules}
use Rattle.report.proofs.Writing.{one_more}
use Rattle.report.proofs.answers.put_words.Goals as goal

pub loop-k-preserved : goal.loop-k-preserved
loop-k-preserved g c = search (one_more, rules)
