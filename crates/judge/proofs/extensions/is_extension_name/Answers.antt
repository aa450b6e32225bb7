-- `judge::extensions::is_extension_name` meets its contract.
use mathlib.Core.Path.{ap, ◌∙◌}
use Rattle.spelling.specs.ExtensionNames.{is_extension_name}
use Rattle.judge.proofs.Laws.{no_name_lem}
use Rattle.judge.proofs.extensions.is_extension_name.Goals as goal

pub returns-in_default : goal.returns-in_default
returns-in_default c = simp (c.in_default.is, no_name_lem)

pub returns : goal.returns
returns c = rw c.in-Some.is (c.is_extension_name.ensures ∙ ap is_extension_name c.spelled.ensures)
