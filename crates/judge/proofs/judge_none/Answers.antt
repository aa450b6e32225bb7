-- `judge::judge_none` meets its contract.
use mathlib.Core.List.{map}
use Rattle.pack.specs.Tables.{pack_in}
use Rattle.judge.proofs.Others.{no_none_code}
use borrow.Author.Rules.{rules}
use Rattle.judge.proofs.judge_none.Goals as goal

pub returns-in_default : goal.returns-in_default
returns-in_default c = let a = c.args in no_none_code (pack_in a.tables.form (map (λ x. x.now) a.tables.slices)) a.code (search rules)
