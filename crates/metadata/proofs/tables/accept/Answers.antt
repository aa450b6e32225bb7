-- `metadata::tables/accept` meets its contract.
use Rattle.listing.proofs.FurtherLaws.{answer-clean}
use Rattle.metadata.specs.Refusals.{metadata_outcome}
use Rattle.metadata.proofs.Laws.{refused_on, fault_on}
use borrow.Author.Rules.{rules}
use Rattle.metadata.proofs.tables.accept.Goals as goal

pub returns-in_err-layout : goal.returns-in_err-layout
unfolding metadata_outcome
returns-in_err-layout c = search (refused_on, c.in_err-layout.was, rules)

pub returns-in_err-check : goal.returns-in_err-check
unfolding metadata_outcome
returns-in_err-check c = search (fault_on, c.in_ok-layout.was, c.in_err-check.was, rules)

pub returns : goal.returns
unfolding metadata_outcome
returns c = search (answer-clean, c.in_ok-layout.was, c.in_ok-check.was, rules)
