-- The cases of a lookup, as the code meets them.
use Prim.Native.Nat.{ℕ, ◌<◌, ◌≤◌}
use mathlib.Core.Path.{◌≡◌, sym, ap, ◌∙◌}
use mathlib.Core.Bool.{Bool, true, false, cond, ◌&&◌}
use mathlib.Core.List.{List}
use borrow.Author.Tests.{lt-ltb, le-ltb}
use lib.Dec.{ltb}
use Rattle.std.specs.Prelude.{Option, None, Some, Ok}
use Rattle.std.specs.Bool.{then_some}
use Rattle.findings.specs.Answers.{Located, located_row}

-- a row below the count, and one past it
pub row_yes : (k n : ℕ) (b r : Bool) → k < n → r ≡ b → r ≡ (ltb k n && b)
row_yes k n b r l e = simp (lt-ltb k n l) e

pub row_no : (k n : ℕ) (b : Bool) → n ≤ k → false ≡ (ltb k n && b)
row_no k n b l = simp (le-ltb k n l)

-- a test of the code is the definition's
module _ {A : Type 0} (b r : Bool) (v x y : A) (e : r ≡ b) where
  pub when_yes : r ≡ true → v ≡ x → v ≡ cond b x y
  when_yes f q = q ∙ ap (λ (b : Bool). cond b x y) (sym f ∙ e)

  pub when_no : r ≡ false → v ≡ y → v ≡ cond b x y
  when_no f q = q ∙ ap (λ (b : Bool). cond b x y) (sym f ∙ e)

-- a row that a search has found below the count, or none
pub row_or_none : (k n m i : ℕ) (v : Option ℕ) → v ≡ then_some (ltb k n) k → k ≡ m → n ≡ i → ◌≡◌ {A = Located} (Ok v) (located_row m i)
unfolding located_row
row_or_none k n m i v e f g = ap (λ (x : Option ℕ). Ok x) (e ∙ by (ltb k n)) ∙ (λ j. located_row (f j) (g j))
  where
    by : (b : Bool) → then_some b k ≡ cond b (Some k) None
    by true = λ j. Some k
    by false = λ j. None
