-- `octets::long_equal` meets its contract.
use Rattle.std.proofs.Common.{sym}
use Rattle.std.specs.Bool.{one_answer}
use Rattle.std.specs.Cmp.{unsigned_Decides}
use Rattle.std.proofs.lemmas.Slice.Eq.{slice_eq-Decides}
use Rattle.octets.proofs.TextLaws.{same_equal, equal_same}
use Rattle.octets.proofs.long_equal.Goals as goal

pub returns : goal.returns
returns c = one_answer _ _ (slice_eq-Decides unsigned_Decides c.args.a.now c.args.b.now _ c.eq.ensures)
    (same_equal c.args.a.now c.args.b.now, λ e. sym (equal_same _ _ e))
