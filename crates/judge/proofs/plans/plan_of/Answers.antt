-- `judge::plans::plan_of` meets its contract.
use Rattle.std.proofs.Common.{◌≡◌, ◌≤◌, ⊎_elim, eq-or-lt_of_le, sym, arith}
use Rattle.judge.specs.Plans.{plan_of}
use Rattle.judge.proofs.Others.{no_plan}
use borrow.Author.Rules.{rules}
use Rattle.judge.proofs.plans.plan_of.Goals as goal

pub returns-in-341 : goal.returns-in-341
unfolding plan_of
returns-in-341 c = ⊎_elim (λ e. rw e) (λ o. ⊎_elim (λ e. rw e) (λ e. rw e) o) c.in-341.is

pub returns-in-432 : goal.returns-in-432
unfolding plan_of
returns-in-432 c = ⊎_elim (λ e. rw e) (λ o. ⊎_elim (λ e. rw e) (λ o. ⊎_elim (λ e. rw e) (λ e. rw e) o) o) c.in-432.is

pub returns-in-351 : goal.returns-in-351
unfolding plan_of
returns-in-351 c = rw c.in-351.is

pub returns-in-531 : goal.returns-in-531
unfolding plan_of
returns-in-531 c = rw c.in-531.is

pub returns-in-551 : goal.returns-in-551
unfolding plan_of
returns-in-551 c = rw c.in-551.is

pub returns-in_default : goal.returns-in_default
returns-in_default c = no_plan c.args.code (search rules)

pub returns-in_default-2 : goal.returns-in_default-2
returns-in_default-2 c = no_plan c.args.code (search rules)

pub returns-in-392 : goal.returns-in-392
unfolding plan_of
returns-in-392 c = ⊎_elim (λ e. rw e) (λ e. rw e) c.in-392.is

pub returns-in-392-2 : goal.returns-in-392-2
unfolding plan_of
returns-in-392-2 c =
    let low : 451 ≤ c.args.code = omega arith in
    ⊎_elim (λ e. let f : c.args.code ≡ 451 = sym e in rw f) (λ l. let e : c.args.code ≡ 452 = omega arith in rw e) (eq-or-lt_of_le low)
