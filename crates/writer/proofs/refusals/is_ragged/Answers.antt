-- `writer::refusals::is_ragged` meets its contract.
use native.Mathlib.Omega.{arith}
use Rattle.listing.specs.ListingLaws.{row-some}
use Rattle.writer.proofs.Laws.{ragged-of}
use borrow.Author.Rules.{rules}
use Rattle.writer.proofs.refusals.is_ragged.Goals as goal

pub nonzero_rem-result : goal.nonzero_rem-result
nonzero_rem-result c = omega (arith, row-some c.args.k (search rules) (search rules))

pub returns : goal.returns
returns c = search (ragged-of, rules)
