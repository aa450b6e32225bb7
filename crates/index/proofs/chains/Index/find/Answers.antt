-- `index::chains::Index::find` meets its contract.
use mathlib.Core.Path.{refl}
use native.Mathlib.Nat.{le_refl}
use Rattle.index.proofs.Entering.{leads_by}
use Rattle.index.proofs.KeyLaws.{key_sound}
use Rattle.index.proofs.chains.Index.find.Goals as goal

pub returns-then-self-eq0 : goal.returns-then-self-eq0
returns-then-self-eq0 c = rw (c.count-n.ensures, c.kind_of.ensures) at c.first_answer.ensures

pub walk-requires : goal.walk-requires
walk-requires c = let args = c.args in
    let n = rw c.kind_of.ensures at c.count-n.ensures in
    rw n (leads_by c.requires (key_sound args.rows.now args.names.now _ args.key refl) c.if-self-eq0.false c.mix.ensures (le_refl _))

pub returns : goal.returns
returns c = rw (c.count-n.ensures, c.kind_of.ensures) at c.walk.ensures
