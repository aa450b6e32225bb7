-- `octets::text_of` meets its contract.
use borrow.Author.Tests.{eq-eqb, ne_eqb}
use Rattle.octets.proofs.text_of.Goals as goal

pub returns-then-len-eq0 : goal.returns-then-len-eq0
returns-then-len-eq0 c = simp (eq-eqb _ _ c.if-start-eq-NULL_START.true, eq-eqb _ _ c.if-len-eq0.true)

pub returns-else-len-eq0 : goal.returns-else-len-eq0
returns-else-len-eq0 c = simp (eq-eqb _ _ c.if-start-eq-NULL_START.true, ne_eqb _ _ c.if-len-eq0.false)

pub returns-else-start-eq-NULL_START : goal.returns-else-start-eq-NULL_START
returns-else-start-eq-NULL_START c = simp (ne_eqb _ _ c.if-start-eq-NULL_START.false)
