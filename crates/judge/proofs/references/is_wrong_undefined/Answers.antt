-- `judge::references/is_wrong_undefined` meets its contract.
use Rattle.std.proofs.Common.{◌≡◌, ap, ◌∙◌}
use Rattle.std.proofs.Math.Bool.{not, ◌&&◌, and-true, and-false}
use Rattle.octets.specs.Numbers.{signed, eq_z}
use Rattle.octets.specs.Texts.{same, spell}
use Rattle.pack.specs.Tables.{reference_of}
use Rattle.spelling.specs.Words.{undefined_word}
use Rattle.rules.specs.References.{has_id, wrong_undefined}
use Rattle.judge.proofs.references.is_wrong_undefined.Goals as goal
use Rattle.judge.proofs.references.is_wrong_undefined.Goals.{then-is_equal-2, else-is_equal-2, then-is_name, else-is_name}

pub returns-after-is_name : goal.returns-after-is_name
unfolding wrong_undefined has_id reference_of
returns-after-is_name c =
    let a = c.args in
    let v : c.if-is_equal-2.value ≡ (eq_z (signed a.id) (signed a.r.coordsys_id) && same (spell a.names.now a.r.definition) undefined_word) =
    elim c.if-is_equal-2.branch [
      | then-is_equal-2 w ↦ simp (← c.is_equal-then-is_equal.ensures, w.if-is_equal-2.true, ← w.is_name.ensures) w.value-is
      | else-is_equal-2 w ↦ simp (← c.is_equal-then-is_equal.ensures, w.if-is_equal-2.false) (w.value-is ∙ w.if-is_equal-2.false)
    ] in
    elim c.if-is_name.branch [
      | then-is_name w ↦ simp (← c.is_equal.ensures, c.if-is_equal.true, ← v, w.if-is_name.true, ← w.is_organization.ensures, and-true) (ap not w.result-is)
      | else-is_name w ↦ simp (← c.is_equal.ensures, c.if-is_equal.true, ← v, w.if-is_name.false, and-false) (ap not (w.result-is ∙ w.if-is_name.false))
    ]

pub returns-else-is_equal : goal.returns-else-is_equal
unfolding wrong_undefined has_id reference_of
returns-else-is_equal c = simp (← c.is_equal.ensures, c.if-is_equal.false)
