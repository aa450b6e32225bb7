-- `metadata::scopes/has_note_scope` meets its contract.
use Rattle.std.proofs.Common.{rules, tests, ◌∙◌}
use Rattle.std.proofs.lemmas.Iterator.{YieldsList-from_slice}
use Rattle.std.proofs.lemmas.Iterator.Search.{any_from_yields_List}
use Rattle.octets.specs.Texts.{same}
use Rattle.metadata.specs.Rules.{note_scopes, is_note_scope}
use Rattle.metadata.proofs.Laws.{any_listed}
use Rattle.metadata.proofs.scopes.has_note_scope.Goals as goal

pub returns : goal.returns
unfolding note_scopes is_note_scope
returns c = any_from_yields_List (λ y. same c.args.x.now y.now) _ _ c.any.result c.any.ensures.ran (YieldsList-from_slice _ c.iter.ensures.rest) (λ x b q k. search (rules, tests)) ∙ any_listed (same c.args.x.now) note_scopes
