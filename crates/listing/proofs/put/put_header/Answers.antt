-- `listing::put::put_header` meets its contract.
use native.Mathlib.Omega.{arith}
use Rattle.listing.specs.HeaderLaws.{header-more}
use Rattle.listing.proofs.Laws.{header-one, header-whole}
use borrow.Author.Rules.{rules}
use Rattle.listing.proofs.put.put_header.Goals as goal

pub loop-k-init : goal.loop-k-init
loop-k-init c = (search rules, search rules, search (header-one, rules))

pub loop-k-preserved : goal.loop-k-preserved
loop-k-preserved c = let l = c.loop-k in
    (l.invariant.0, search rules, header-more _ _ _ l.k _ _ _ _ _ l.invariant.2 (omega arith) (omega arith) (search rules) c.start_by-in-loop-k.ensures.0 c.put_pair-in-loop-k.ensures)

pub returns : goal.returns
returns c = search (header-whole, c.loop-k.auto.k-end, rules)
