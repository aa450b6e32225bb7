-- `spelling::dates::common_length` meets its contract.
use borrow.Author.Tests.{eq-eqb, ne_eqb}
use Rattle.spelling.specs.DateLaws.{by_number_lem}
use Rattle.spelling.proofs.dates.common_length.Goals as goal

pub returns-then-month-eq2 : goal.returns-then-month-eq2
returns-then-month-eq2 c = rw (by_number_lem _ c.requires.0 c.requires.1, eq-eqb _ _ c.if-month-eq2.true)

pub returns : goal.returns
returns c = rw (by_number_lem _ c.requires.0 c.requires.1, ne_eqb _ _ c.if-month-eq2.false)
