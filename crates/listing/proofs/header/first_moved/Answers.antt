-- `listing::header::first_moved` meets its contract.
use mathlib.Core.Path.{ap}
use Prim.Native.Nat.{ℕ, ◌+◌}
use native.Mathlib.Omega.{arith}
use Rattle.listing.proofs.Laws.{first-table, moved_none}
use borrow.Author.Rules.{rules}
use Rattle.listing.proofs.header.first_moved.Goals as goal

pub returns : goal.returns
returns c =
    let d = ap (λ (n : ℕ). n + 1) c.table_count.ensures.0 in (
      first-table _ (moved_none _ _) _ _ _ _ d c.first.ensures (λ k b s l h. search rules),
      omega (arith, c.first.ensures.most),
    )
