-- `report::rulings::rule` meets its contract.
use native.Mathlib.Omega.{arith}
use mathlib.Core.List.{map}
use Rattle.pack.specs.Tables.{pack_in}
use Rattle.report.specs.PromiseLaws.{rule_fail, rule_clean}
use borrow.Author.Rules.{rules}
use Rattle.report.proofs.rulings.rule.Goals as goal

pub add_code-t-requires : goal.add_code-t-requires
add_code-t-requires c = record { surveyed = c.unknown.ensures (pack_in c.args.tables.form (map (λ x. x.now) c.args.tables.slices)); numbered = c.requires.numbered; table_value = c.requires.table_value; total_bound = omega arith }

pub returns-then-t-ne0 : goal.returns-then-t-ne0
returns-then-t-ne0 c = search (rule_fail, rules)

pub returns : goal.returns
returns c = search (rule_clean, c.requires.table_value, rules)
