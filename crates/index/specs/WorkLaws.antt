-- The laws that a caller needs: an index starts with no row; and of the rows below another, the lowest that a search of all rows finds.
use Rattle.std.specs.Prelude.{ℕ, ◌≤◌, ◌≡◌, List, Bool, ltb}
use Rattle.std.proofs.Common.{le_refl, le-ltb}
use Rattle.octets.specs.Search.{first}
use Rattle.rules.specs.Judgments.{partner}
use Rattle.index.specs.ChainLaws.{by_test, first-within}
use Rattle.index.specs.Work.{place_of, print_of, Ready, Keyed}

-- for whoever enters the rows itself
pub keyed_start : {K : Type 0} {key : ℕ → K} {passes : K → ℕ → Bool} {mixOf : K → ℕ} {w : List ℕ} {m rows : ℕ} → Ready w m rows → Keyed key passes mixOf w m rows 0
keyed_start {key = key} {passes = passes} {mixOf = mixOf} {m = m} r = record { there = r.there (λ x k. passes (key x) k) (λ k. place_of m (mixOf (key k))) (λ k. print_of (mixOf (key k))) }

-- for a rule that looks among the rows below row k alone: what is found among all n rows has the same partner
pub partner_of_all : (p : ℕ → Bool) (k n : ℕ) → k ≤ n → partner (first p n) k ≡ partner (first p k) k
unfolding partner
partner_of_all p k n l =
    rw (first-within p k n l)
    (by_test (ltb (first p n) k) (λ t. simp t) (λ t. simp (t, le-ltb k k (le_refl k))))
