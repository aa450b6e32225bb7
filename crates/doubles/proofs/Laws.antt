-- The cases of the definitions, in the shape in which goals ask for them.
use Prim.Native.Nat.{ℕ, ◌*◌, ◌/◌, ◌^◌, ◌<◌, ◌≤◌}
use mathlib.Core.Path.{◌≡◌, refl, sym, subst, ◌∙◌}
use mathlib.Core.Bool.{Bool, true, false, not}
use native.Mathlib.Nat.{le-div_iff_mul-le, div-lt_iff_lt-mul}
use native.Mathlib.Omega.{arith}
use borrow.Author.Rules.{rules}
use borrow.Author.Tests.{lt-ltb, le-leb, lt-leb}
use lib.Dec.{T}
use lib.IntN.{ℤ, pos}
use lib.Ieee.{Float, nan, inf, fin, binary64, lt, le, to_bits, is_nan, sub, mul, of_int}
use Rattle.octets.specs.Numbers.{natural}
use Rattle.doubles.specs.Doubles.{positive, magnitude, difference, within_four, same_length, measures_by, measures}

-- what tests as a NaN is the one NaN
pub is_nan_lem : (x : Float) → is_nan x ≡ true → nan ≡ x
unfolding is_nan
is_nan_lem nan e = refl
is_nan_lem (inf s) e = absurd (subst T (sym e) tt)
is_nan_lem (fin s m k) e = absurd (subst T (sym e) tt)

-- a positive double is no NaN, so its pattern may be taken
pub no_nan : (x : Float) (b : Bool) → b ≡ positive x → b ≡ true → T (not (is_nan x))
unfolding positive lt is_nan
no_nan nan b e f = subst T (sym f ∙ e) tt
no_nan (inf s) b e f = tt
no_nan (fin s m k) b e f = tt

-- a double that differs from itself is the NaN, whose magnitude is this; any other has a pattern
pub nan_magnitude : (x : Float) → is_nan x ≡ true → 0x7ff8_0000_0000_0000 ≡ magnitude x
unfolding magnitude to_bits is_nan
nan_magnitude nan e = refl
nan_magnitude (inf s) e = cc
nan_magnitude (fin s m k) e = cc

-- `within_four` where all three are finite and above 0: what is left is the comparison
pub within-asked : (gap a b : Float) → positive a ≡ true → positive b ≡ true → positive gap ≡ true
    → (t : Bool) → t ≡ le (difference a b) (mul binary64 (fin false 1 (pos 2)) gap) → t ≡ within_four gap a b
unfolding within_four
within-asked gap a b p q r t k = k ∙ rw (p, q, r)

-- the bound on a product, by a division
pub bounded : (n m : ℕ) → (m ≡ 0 → ⊥) → n ≤ 2 ^ 53 / m → n * m ≤ 2 ^ 53
bounded n m h l = (le-div_iff_mul-le {k = m} (omega arith)).0 l

-- `measures`, of the natural numbers n and m that the code takes from the two counts
module _ (low high pixel : Float) (count size : ℤ) (n m : ℕ) (e : n ≡ natural count) (f : m ≡ natural size) where
  pub no_count : n ≡ 0 → false ≡ measures low high count size pixel
  unfolding measures measures_by
  no_count h = rw (← e, h)

  pub no_size : (n ≡ 0 → ⊥) → m ≡ 0 → false ≡ measures low high count size pixel
  unfolding measures measures_by
  no_size p h = rw (← e, ← f, lt-ltb 0 n (omega arith), h)

  pub too_many : (n ≡ 0 → ⊥) → (m ≡ 0 → ⊥) → 2 ^ 53 / m < n → false ≡ measures low high count size pixel
  unfolding measures measures_by
  too_many p q h = rw (← e, ← f, lt-ltb 0 n (omega arith), lt-ltb 0 m (omega arith), lt-leb (n * m) (2 ^ 53) ((div-lt_iff_lt-mul {k = m} (omega arith)).0 h))

  pub in_bound : (n ≡ 0 → ⊥) → (m ≡ 0 → ⊥) → n ≤ 2 ^ 53 / m
      → (b : Bool) → b ≡ same_length low high (sub binary64 high low) (mul binary64 (of_int binary64 (pos (n * m))) pixel) → b ≡ measures low high count size pixel
  unfolding measures measures_by
  in_bound p q h b k = k ∙ rw (← e, ← f, lt-ltb 0 n (omega arith), lt-ltb 0 m (omega arith), le-leb (n * m) (2 ^ 53) (bounded n m q h))

pub ruleset measuring = (no_count, no_size, too_many, in_bound, rules)
