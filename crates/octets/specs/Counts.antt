-- How many numbers pass a test: counted without a branch, so that many may be passed at once.
use Rattle.std.specs.Prelude.{ℕ, ◌+◌, ◌<◌, ◌≤◌, ◌≡◌, Bool, false, cond}

unfoldable pub one_if : Bool → ℕ
one_if b = cond b 1 0

-- c of those from start up to end, and where that is 0, none of them does
pub record Counted (p : ℕ → Bool) (start end c : ℕ) : Type 0 where
  pub few : start + c ≤ end
  pub none : c ≡ 0 → (k : ℕ) → start ≤ k → k < end → p k ≡ false
