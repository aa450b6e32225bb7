-- `report::search::look` meets its contract.
use mathlib.Core.Path.{ap}
use Rattle.std.specs.Prelude.{Err}
use Rattle.listing.specs.declared.Refusal.{Refusal}
use Rattle.report.proofs.Looking.{when_yes, when_no}
use Rattle.pack.specs.Tables.{content_of}
use Rattle.findings.specs.Answers.{looked_up}
use borrow.Author.Rules.{rules}
use Rattle.report.proofs.search.look.Goals as goal

pub returns-then-can_look : goal.returns-then-can_look
unfolding looked_up content_of
returns-then-can_look c = rw (← c.slice_of-contents.ensures, ← c.slice_of-names.ensures)
    (when_yes _ _ _ _ _ c.can_look.ensures c.if-can_look.true (rw c.contents_at-c.ensures at c.tile_of.ensures))

pub returns : goal.returns
unfolding looked_up content_of
returns c = rw (← c.slice_of-contents.ensures, ← c.slice_of-names.ensures) (when_no _ _ _ _ _ c.can_look.ensures c.if-can_look.false (ap (λ (e : Refusal). Err e) c.new.ensures))
