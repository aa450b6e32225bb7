-- `pack::read::ExtensionRowRow::read` meets its contract.
use Rattle.pack.specs.Tables.{extension_at}
use borrow.Author.Rules.{rules}
use Rattle.pack.proofs.read.ExtensionRowRow.read.Goals as goal

pub text_at-requires : goal.text_at-requires
unfolding extension_at
text_at-requires c = search rules

pub text_at-requires-2 : goal.text_at-requires-2
unfolding extension_at
text_at-requires-2 c = search rules

pub text_at-requires-3 : goal.text_at-requires-3
unfolding extension_at
text_at-requires-3 c = search rules

pub text_at-requires-4 : goal.text_at-requires-4
unfolding extension_at
text_at-requires-4 c = search rules

pub returns : goal.returns
unfolding extension_at
returns c = cc
