-- `report::tiles::add_541` meets its contract.
use Prim.Native.Nat.{ℕ, ◌+◌, ◌^◌, ◌<◌}
use mathlib.Core.Path.{◌≡◌, sym, subst}
use mathlib.Core.List.{List}
use mathlib.Core.Bool.{Bool}
use Rattle.index.specs.Work.{Ready, Keyed}
use Rattle.index.specs.WorkLaws.{keyed_start}
use Rattle.findings.specs.Findings.{Finding}
use Rattle.report.specs.declared.Tally.{Tally}
use Rattle.report.specs.WalkLaws.{Walking, walk_start, walk-room, walk_end, more_541}
use borrow.Author.Rules.{rules}
use Rattle.report.proofs.tiles.add_541.Goals as goal

-- n is the count that was asked for
started : {K : Type 0} {key : ℕ → K} {passes : K → ℕ → Bool} {mixOf : K → ℕ} {w : List ℕ} {m n rows : ℕ} → Ready w m n → n ≡ rows → Keyed key passes mixOf w m rows 0
started {w = w} {m = m} r e = keyed_start (subst (λ (k : ℕ). Ready w m k) e r)

room : (f : ℕ → List Finding) (b : List ℕ) (t : Tally) (n m i : ℕ) (b' : List ℕ) (t' : Tally) → Walking f b t n i b' t' → i < n → n ≡ m → t.total + m < 2 ^ 64 → t'.total + 1 < 2 ^ 64
room f b t n m i b' t' w l e h = walk-room f b t n i b' t' w l (subst (λ (k : ℕ). t.total + k < 2 ^ 64) (sym e) h)

pub loop-i-init : goal.loop-i-init
loop-i-init c = (search (walk_start, rules), search (started, rules), search rules)

pub add-tally-requires : goal.add-tally-requires
add-tally-requires c = search (room, rules)

pub loop-i-preserved : goal.loop-i-preserved
loop-i-preserved c = (search (more_541, rules), search rules, search rules)

pub returns : goal.returns
returns c = search (walk_end, rules)
