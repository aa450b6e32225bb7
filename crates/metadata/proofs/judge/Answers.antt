-- `metadata::judge` meets its contract.
use borrow.Author.Tests.{ne_eqb}
use Rattle.metadata.specs.Codes.{judged}
use Rattle.metadata.proofs.Laws.{index_cut}
use borrow.Author.Rules.{rules}
use native.Mathlib.Omega.{arith}
use Rattle.metadata.proofs.judge.Goals as goal

pub of_975-requires : goal.of_975-requires
unfolding judged
of_975-requires c = search (index_cut, rules)

pub returns-in_default : goal.returns-in_default
unfolding judged
returns-in_default c =
    let k = c.args.code in
    simp (
      ne_eqb k 945 (omega arith),
      ne_eqb k 965 (omega arith),
      ne_eqb k 975 (omega arith),
      ne_eqb k 985 (omega arith),
      ne_eqb k 995 (omega arith),
      ne_eqb k 1005 (omega arith),
      ne_eqb k 1015 (omega arith),
      ne_eqb k 1025 (omega arith),
    )
