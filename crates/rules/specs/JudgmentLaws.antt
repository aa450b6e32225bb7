-- What a rule says, from the answer of a search.
use Rattle.rules.specs.Judgments.{Judgment}
use Rattle.std.specs.Prelude.{ℕ, ◌<◌, ◌≤◌, ◌≡◌, Bool, cond, ltb}
use Rattle.std.proofs.Common.{lt-ltb, le-ltb}
use Rattle.octets.specs.Search.{first, any}

-- a search below n has answered r
pub is_found : (p : ℕ → Bool) (n r : ℕ) → r ≡ first p n → ltb r n ≡ any p n
unfolding any
is_found p n r e = simp (← e)

module _ (p : ℕ → Bool) (n r : ℕ) (v w u : Judgment) (e : r ≡ first p n) where
  pub searched : v ≡ cond (ltb r n) w u → v ≡ cond (any p n) w u
  searched q = simp (← is_found p n r e) q

  pub found : r < n → v ≡ w → v ≡ cond (any p n) w u
  found l q = searched (simp (lt-ltb r n l) q)

  pub missed : n ≤ r → v ≡ u → v ≡ cond (any p n) w u
  missed l q = searched (simp (le-ltb r n l) q)
