-- `listing::refusals/check_header` meets its contract.
use Rattle.listing.specs.Listing.{version, total}
use Rattle.listing.specs.Refusals.{header_reasons}
use Rattle.listing.proofs.Outcomes.{check_stop, header-past, headers}
use Rattle.listing.proofs.refusals.check_header.Goals as goal

pub returns-then-s-header_size : goal.returns-then-s-header_size
unfolding version total header_reasons
returns-then-s-header_size c = search (check_stop 0, headers)

pub returns-then-longest_of-s : goal.returns-then-longest_of-s
unfolding version total header_reasons
returns-then-longest_of-s c = search (check_stop 1, headers)

pub returns-then-word-edition_of : goal.returns-then-word-edition_of
unfolding version total header_reasons
returns-then-word-edition_of c = search (check_stop 2, headers)

pub returns-then-word-s : goal.returns-then-word-s
unfolding version total header_reasons
returns-then-word-s c = search (check_stop 3, headers) depth 10

pub returns-then-k-end : goal.returns-then-k-end
unfolding version total header_reasons
returns-then-k-end c = search (check_stop 4, headers) depth 10

pub returns-then-k-end-2 : goal.returns-then-k-end-2
unfolding version total header_reasons
returns-then-k-end-2 c = search (check_stop 5, headers) depth 10

pub returns : goal.returns
unfolding version total header_reasons
returns c = search (header-past, headers) depth 10
