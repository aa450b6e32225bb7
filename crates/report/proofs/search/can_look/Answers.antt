-- `report::search::can_look` meets its contract.
use Rattle.report.proofs.Looking.{row_yes, row_no}
use Rattle.pack.specs.Tables.{content_of}
use Rattle.rules.specs.Contents.{of_type}
use Rattle.findings.specs.Answers.{can_look}
use borrow.Author.Rules.{rules}
use Rattle.report.proofs.search.can_look.Goals as goal

pub returns-then-k-contents : goal.returns-then-k-contents
unfolding can_look of_type content_of
returns-then-k-contents c = row_yes _ _ _ _ c.if-k-contents.true (rw c.contents_at-c.ensures at c.is_name.ensures)

pub returns : goal.returns
unfolding can_look of_type content_of
returns c = row_no _ _ _ c.if-k-contents.false
