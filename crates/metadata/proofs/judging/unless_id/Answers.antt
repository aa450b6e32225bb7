-- `metadata::judging/unless_id` meets its contract.
use Rattle.std.proofs.Common.{rules, refl, ◌≡◌, length, ◌/◌}
use Rattle.octets.specs.Numbers.{signed}
use Rattle.octets.specs.Search.{first}
use Rattle.octets.proofs.SearchLaws.{first_by}
use Rattle.rules.specs.JudgmentLaws.{searched}
use Rattle.metadata.specs.Tables.{note_of, notes_of}
use Rattle.metadata.specs.Rules.{has_id}
use Rattle.metadata.proofs.judging.unless_id.Goals as goal

pub returns : goal.returns
unfolding first has_id note_of
returns c =
    let a = c.args in
    let e : c.first-first.result ≡ first (λ j. has_id (signed a.id) ((notes_of a.notes.now a.names.now).row j)) (length a.notes.now / 16) = first_by _ _ _ _ refl (λ k b s l h. search rules) _ c.first-first.ensures in
    search (searched, rules)
