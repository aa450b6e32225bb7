-- The laws of tests that the code makes one after the other: r is the outcome of one that stands for a, c what is answered in the end.
-- What shows r comes first in each, so that `search` takes r from the code's own branches.
use Rattle.std.specs.Prelude.{◌≡◌, refl, Bool, true, false, not, ◌&&◌, ◌||◌}
use Rattle.std.proofs.Common.{sym, ap, ◌∙◌}

module _ (a r : Bool) where
  pub was_yes : r ≡ true → r ≡ a → true ≡ a
  was_yes f e = sym f ∙ e

  pub was_no : r ≡ false → r ≡ a → false ≡ a
  was_no f e = sym f ∙ e

  pub not_yes : r ≡ true → r ≡ a → false ≡ not a
  not_yes f e = ap not (was_yes f e)

  pub not_no : r ≡ false → r ≡ a → true ≡ not a
  not_no f e = ap not (was_no f e)

module _ (a b : Bool) where
  pub early_no : false ≡ a → false ≡ (a && b)
  early_no e = ap (λ (x : Bool). x && b) e

  pub early_yes : (c : Bool) → true ≡ a → c ≡ b → c ≡ (a && b)
  early_yes c e f = f ∙ ap (λ (x : Bool). x && b) e

  -- the second of the two tested first
  pub late_no : false ≡ b → false ≡ (a && b)
  late_no e = simp (← e) (by a)
    where
      by : (x : Bool) → false ≡ (x && false)
      by true = refl
      by false = refl

  pub late_yes : (c : Bool) → c ≡ a → true ≡ b → c ≡ (a && b)
  late_yes c f e = simp (← e) (f ∙ by a)
    where
      by : (x : Bool) → x ≡ (x && true)
      by true = refl
      by false = refl

  pub or_yes : true ≡ a → true ≡ (a || b)
  or_yes e = ap (λ (x : Bool). x || b) e

  pub or_no : (c : Bool) → false ≡ a → c ≡ b → c ≡ (a || b)
  or_no c e f = f ∙ ap (λ (x : Bool). x || b) e

pub ruleset tests = (was_yes, was_no, not_yes, not_no, early_no, early_yes, late_no, late_yes, or_yes, or_no)
