-- One finding, as the code adds it.
use Rattle.rules.specs.Judgments.{Judgment}
use Rattle.std.specs.Prelude.{None, Some}
use Prim.Native.Nat.{ℕ, suc, ◌+◌, ◌*◌, ◌<◌, ◌≤◌}
use mathlib.Core.Path.{◌≡◌, refl}
use mathlib.Core.List.{List}
use native.Mathlib.Omega.{arith}
use lib.Seq.{sets}
use borrow.Author.Tests.{lt-ltb, le-ltb, eq-eqb, ne_eqb}
use Rattle.octets.specs.Octets.{word}
use Rattle.findings.specs.Findings.{found}
use Rattle.findings.specs.Words.{room}
use Rattle.report.specs.Buffers.{finding_of, put_one, Added}
use Rattle.report.specs.BufferLaws.{added_none}
use Rattle.report.specs.declared.Tally.{Tally}

-- three words, one after the other, are the finding
module _ (b : List ℕ) (n c i p : ℕ) where
  pub put_three : (b₁ b₂ b₃ : List ℕ) → n < room b → b₁ ≡ sets b (12 * n) (word c) → b₂ ≡ sets b₁ (12 * n + 4) (word i) → b₃ ≡ sets b₂ (12 * n + 8) (word p)
      → b₃ ≡ put_one b n (finding_of c i p)
  unfolding put_one
  put_three b₁ b₂ b₃ h x y z =
      let e4 : 12 * n + 4 ≡ suc (suc (suc (suc (12 * n)))) = omega arith in
      let e8 : 12 * n + 8 ≡ suc (suc (suc (suc (suc (suc (suc (suc (12 * n)))))))) = omega arith in
      rw (lt-ltb n (room b) h, z, y, x, e4, e8)

  pub put_full : room b ≤ n → b ≡ put_one b n (finding_of c i p)
  unfolding put_one
  put_full h = rw (le-ltb n (room b) h)

-- what a judgment adds
module _ (c i : ℕ) (v : Judgment) (b b' : List ℕ) (t : Tally) where
  pub added-clean : v ≡ None → Added (found c i v) b t b t
  added-clean e = rw e (added_none b t)

  pub added-first : (p : ℕ) → v ≡ Some p → t.total ≡ 0 → b' ≡ put_one b t.total (finding_of c i p) → Added (found c i v) b t b' (record { total = 1; row = i })
  added-first p e z q = rw e (record { count = rw z; row = simp (eq-eqb t.total 0 z); buffer = q })

  pub added-later : (p : ℕ) → v ≡ Some p → (t.total ≡ 0 → ⊥) → b' ≡ put_one b t.total (finding_of c i p)
      → Added (found c i v) b t b' (record { total = t.total + 1; row = t.row })
  added-later p e z q = rw e (record { count = refl; row = simp (ne_eqb t.total 0 z); buffer = q })
