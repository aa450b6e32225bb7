-- `index::shelf::shelve` meets its contract.
use mathlib.Core.Path.{refl, sym, ◌∙◌}
use native.Mathlib.Omega.{arith}
use borrow.Author.Tests.{eq-eqb}
use Rattle.index.specs.WorkLaws.{keyed_start}
use Rattle.index.proofs.Entering.{keyed_none, keyed_all, may_settle, entered}
use Rattle.index.proofs.Shelving.{first_itself}
use Rattle.index.proofs.shelf.shelve.Goals as goal

pub returns-then-heads-eq0 : goal.returns-then-heads-eq0
returns-then-heads-eq0 c = keyed_none c.if-heads-eq0.true

pub loop-i-init : goal.loop-i-init
loop-i-init c = (keyed_start c.start-heads.ensures.1, refl)

pub settle-requires : goal.settle-requires
settle-requires c = may_settle c.loop-i.invariant.0 c.if-heads-eq0.false c.mix-mix.ensures.1 (omega arith)

pub loop-i-preserved : goal.loop-i-preserved
loop-i-preserved c = let mixed = c.mix-mix.ensures in
    let own = rw c.key_at.ensures.1 at mixed.0 in
    let put = entered c.loop-i.invariant.0 (omega arith) (eq-eqb c.loop-i.i _ refl) refl (sym (first_itself _)) (own, mixed.1) c.settle.ensures in
    (put.indexed, c.settle.auto.w ∙ c.loop-i.invariant.1)

pub returns : goal.returns
returns c = keyed_all c.loop-i.invariant.0 (omega arith)
