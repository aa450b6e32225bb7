-- `judge::tiles::of_range` meets its contract.
use Rattle.std.proofs.Common.{ap, ◌∙◌}
use Rattle.std.proofs.Math.Bool.{not}
use Rattle.pack.specs.Tables.{tile_of}
use Rattle.rules.specs.Judgments.{fault_if}
use Rattle.rules.specs.Tiles.{of551}
use Rattle.judge.proofs.Confining.{confines_named, confines_most, confines_least}
use Rattle.judge.proofs.Laws.{turned}
use Rattle.judge.proofs.tiles.of_range.Goals as goal
use Rattle.judge.proofs.tiles.of_range.Goals.{then-has_level, then-has_level-2, else-has_level-2, else-has_level}

pub has_level-requires-clause-confines : goal.has_level-requires-clause-confines
has_level-requires-clause-confines c = confines_named _ _ _

pub has_level-requires-then-has_level-clause-confines : goal.has_level-requires-then-has_level-clause-confines
unfolding tile_of
has_level-requires-then-has_level-clause-confines c = confines_most _ _ c.args.t

pub has_level-requires-then-has_level-2-clause-confines : goal.has_level-requires-then-has_level-2-clause-confines
unfolding tile_of
has_level-requires-then-has_level-2-clause-confines c = confines_least _ _ c.args.t

pub returns : goal.returns
unfolding of551 tile_of
returns c =
    elim c.if-has_level.branch [
      | then-has_level w ↦ elim w.if-has_level-2.branch [
        | then-has_level-2 v ↦ simp (← c.has_level.ensures, w.if-has_level.true, ← w.has_level-then-has_level.ensures, v.if-has_level-2.true, ← v.has_level-then-has_level-2.ensures) (c.fault_if.ensures ∙ ap fault_if (w.fault_if-is ∙ ap not v.fault_if-is) ∙ turned v.has_level-then-has_level-2.result)
        | else-has_level-2 v ↦ simp (← c.has_level.ensures, w.if-has_level.true, ← w.has_level-then-has_level.ensures, v.if-has_level-2.false) (c.fault_if.ensures ∙ ap fault_if (w.fault_if-is ∙ ap not (v.fault_if-is ∙ v.if-has_level-2.false)))
      ]
      | else-has_level w ↦ simp (← c.has_level.ensures, w.if-has_level.false) (c.fault_if.ensures ∙ ap fault_if (w.fault_if-is ∙ w.if-has_level.false))
    ]
