-- `listing::rows/first_flagged` meets its contract.
use mathlib.Core.Path.{refl, ap, ◌∙◌}
use Rattle.octets.specs.Search.{first}
use Rattle.octets.proofs.SearchLaws.{first_by}
use Rattle.listing.specs.Refusals.{flagged}
use Rattle.listing.proofs.Laws.{second-some, flags-inside}
use borrow.Author.Rules.{rules}
use Rattle.listing.proofs.rows.first_flagged.Goals as goal

pub rows_as-requires : goal.rows_as-requires
rows_as-requires c = search (second-some, rules)

pub first-requires : goal.first-requires
first-requires c = search (flags-inside, rules)

pub returns : goal.returns
unfolding first
returns c = first_by (flagged c.args.f c.args.table.now) _ _ _ refl (λ k b s l h. search rules) _ c.first.ensures ∙ ap (first (flagged c.args.f c.args.table.now)) c.rows_as.ensures
