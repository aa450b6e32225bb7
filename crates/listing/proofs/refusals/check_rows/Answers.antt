-- `listing::refusals/check_rows` meets its contract.
use Rattle.listing.specs.Refusals.{row_reasons}
use Rattle.listing.proofs.Laws.{found-fits, flags-fit}
use Rattle.listing.proofs.Outcomes.{check_stop, flags-miss, ill_stop, ill-past, bodies}
use borrow.Author.Rules.{rules}
use Rattle.listing.proofs.refusals.check_rows.Goals as goal

pub refusal_at-requires : goal.refusal_at-requires
unfolding row_reasons
refusal_at-requires c = search (found-fits, flags-fit, rules)

pub returns-then-outside-last : goal.returns-then-outside-last
unfolding row_reasons
returns-then-outside-last c = search (check_stop 0, bodies)

pub overflow_cast-i : goal.overflow_cast-i
unfolding row_reasons
overflow_cast-i c = search (flags-fit, rules)

pub returns-then-i-rows_as : goal.returns-then-i-rows_as
unfolding row_reasons
returns-then-i-rows_as c = search (check_stop 1, bodies)

pub refusal_at-requires-then-either-last : goal.refusal_at-requires-then-either-last
unfolding row_reasons
refusal_at-requires-then-either-last c = search (found-fits, flags-fit, rules)

pub returns-then-either-last : goal.returns-then-either-last
unfolding row_reasons
returns-then-either-last c = search (ill_stop, flags-miss, rules)

pub returns : goal.returns
unfolding row_reasons
returns c = search (ill-past, flags-miss, rules)
