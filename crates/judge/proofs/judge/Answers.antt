-- `judge::judge` meets its contract.
use mathlib.Core.List.{map}
use Rattle.pack.specs.Tables.{pack_in}
use Rattle.judge.proofs.Others.{no_table}
use borrow.Author.Rules.{rules}
use Rattle.judge.proofs.judge.Goals as goal

pub returns-in_default : goal.returns-in_default
returns-in_default c = no_table (pack_in c.args.ready.tables.form (map (λ x. x.now) c.args.ready.tables.slices)) _ _ _ c.requires (search rules)
