-- `index::entries::enter` meets its contract.
use mathlib.Core.Path.{sym, ◌∙◌}
use native.Mathlib.Nat.{le_of_lt}
use Rattle.index.proofs.Entering.{leads_by, may_settle, entered-none, entered, entered-never}
use Rattle.index.proofs.KeyLaws.{key_sound}
use Rattle.index.proofs.entries.enter.Goals as goal

pub returns-then-heads-eq0 : goal.returns-then-heads-eq0
returns-then-heads-eq0 c = let read = c.key_at-key.ensures in
    entered-none c.if-heads-eq0.true read.1 (rw read.0 at c.first_answer.ensures)

pub walk-r-requires : goal.walk-r-requires
walk-r-requires c = let pre = c.requires in
    let kind = c.key_at-key.ensures.0 in
    rw kind (leads_by pre.0 (key_sound _ _ _ c.key_at-key.result kind) c.if-heads-eq0.false c.mix-mix.ensures (le_of_lt pre.1))

pub answers_itself-requires : goal.answers_itself-requires
answers_itself-requires c = let read = c.key_at-key.ensures in rw read.0 read.1

pub settle-requires : goal.settle-requires
settle-requires c = may_settle c.requires.0 c.if-heads-eq0.false c.mix-mix.ensures.1 c.requires.1

pub returns-then-answers_itself : goal.returns-then-answers_itself
returns-then-answers_itself c = let pre = c.requires in
    let read = c.key_at-key.ensures in
    let own = rw read.0 at (sym c.answers_itself.ensures ∙ c.if-answers_itself.true) in
    entered pre.0 pre.1 own read.1 (rw read.0 at c.walk-r.ensures) c.mix-mix.ensures c.settle.ensures

pub returns-else-answers_itself : goal.returns-else-answers_itself
returns-else-answers_itself c = let read = c.key_at-key.ensures in
    let own = rw read.0 at (sym c.answers_itself.ensures ∙ c.if-answers_itself.false) in
    entered-never c.requires.0 own read.1 (rw read.0 at c.walk-r.ensures)
