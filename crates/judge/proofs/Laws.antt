-- What the rules' proofs share beyond the laws of tests.
use Rattle.std.specs.Prelude.{None, Some}
use Prim.Native.Nat.{ℕ, ◌<◌, ◌≤◌}
use mathlib.Core.Path.{◌≡◌, refl, ap, ◌∙◌}
use mathlib.Core.Bool.{Bool, true, false, cond, not}
use mathlib.Core.List.{List, []}
use borrow.Author.Rules.{rules}
use borrow.Author.Tests.{lt-ltb, le-ltb}
use Rattle.octets.specs.Search.{first, any}
use Rattle.octets.specs.Texts.{Nullable, There, Null}
use Rattle.spelling.specs.ExtensionNames.{inside, is_extension_name}
use Rattle.rules.specs.Judgments.{none, partner, Judgment}
use Rattle.rules.specs.Extensions.{lacks601}
use Rattle.rules.specs.JudgmentLaws.{is_found, searched, found, missed}
use Rattle.index.specs.WorkLaws.{partner_of_all}
use Rattle.seek.specs.TestLaws.{was_yes, was_no, tests}

-- a finding where there is none, and none where there is one
pub turned : (b : Bool) → cond (not b) (Some none) None ≡ cond b None (Some none)
turned true = refl
turned false = refl

pub ruleset searches = (is_found, searched, found, missed, rules)

-- 351: the lowest row that breaks it, where the name has a tile (t) and is not free (f). The code asks in another order
module _ (t f : Bool) (p : ℕ → Bool) (n r : ℕ) (e : r ≡ first p n) where
  pub kept_351 : n ≤ r → None ≡ cond t (cond f None (partner (first p n) n)) None
  unfolding partner
  kept_351 l = simp (← e, le-ltb r n l) (by t f)
    where
      by : (a b : Bool) → ◌≡◌ {A = Judgment} None (cond a (cond b None None) None)
      by true true = refl
      by true false = refl
      by false b = refl

  pub free_351 : true ≡ f → None ≡ cond t (cond f None (partner (first p n) n)) None
  free_351 h = simp (← h) (by t)
    where
      by : (a : Bool) → ◌≡◌ {A = Judgment} None (cond a None None)
      by true = refl
      by false = refl

  pub bare_351 : false ≡ t → None ≡ cond t (cond f None (partner (first p n) n)) None
  bare_351 h = simp (← h)

  pub broken_351 : r < n → false ≡ f → true ≡ t → Some r ≡ cond t (cond f None (partner (first p n) n)) None
  unfolding partner
  broken_351 l g h = simp (← g, ← h, ← e, lt-ltb r n l)

pub ruleset gates = (was_yes, was_no, kept_351, free_351, bare_351, broken_351, rules)

-- 601 asks for nothing where the column is NULL
pub no_column : (t : Nullable (List ℕ)) → None ≡ lacks601 t Null
no_column (There x) = refl
no_column Null = refl

-- no octets are no extension name
pub no_name_lem : is_extension_name [] ≡ false
unfolding is_extension_name inside first any
no_name_lem = refl

-- an earlier row with the same key: the lowest of all rows is the lowest of those before row i, where there is one
pub before-row : (p : ℕ → Bool) (i n k : ℕ) (v : Judgment) → i ≤ n → k ≡ first p n → v ≡ partner k i → v ≡ partner (first p i) i
before-row p i n k v l e f = f ∙ ap (λ (r : ℕ). partner r i) e ∙ partner_of_all p i n l

-- searched among those before it
pub at-row : (p : ℕ → Bool) (i k : ℕ) (v : Judgment) → k ≡ first p i → v ≡ partner k i → v ≡ partner (first p i) i
at-row p i k v e f = f ∙ ap (λ (r : ℕ). partner r i) e
