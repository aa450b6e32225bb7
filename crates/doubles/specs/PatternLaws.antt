-- Doubles that are not negative are ordered as their patterns are; the gap to the next one, and four times that gap, are exact.
use Prim.Native.Nat.{ℕ, zero, suc, ◌+◌, ◌-◌, ◌*◌, ◌/◌, ◌%◌, ◌^◌, ◌<◌, ◌≤◌}
use Rattle.std.specs.Prelude.{◌≡◌, refl, Bool, true, cond, leb, ltb, eqb, ℤ, pos, Float}
use Rattle.std.proofs.Common.{sym, ap, subst, subst₂, ◌∙◌, true≢false, inl, inr, mul-one, mul_assoc, mul_comm, mul_right_comm, mul-le-mul_right, mul-lt-mul_of_pos_right, le_of_lt, mod-eq_of_lt, pow-suc, eq-or-lt_of_le, le_of_suc-le-suc, lt_trans, le_of_eq, one-mul, mul-pos, arith, pow_pos, shl_lt}
use Rattle.std.proofs.Math.Bool.{false}
use Rattle.std.proofs.Math.Nat.{lt_of_mul-lt-mul_right, le_of_mul-le-mul_right, mul-sub}
use borrow.Author.Tests.{le-ltb, lt-leb, ne_eqb, ltb-true, ltb-false, leb-true, leb-false}
use Rattle.std.proofs.Math.Pow.{pow-lt}
use Rattle.std.specs.Float.{nan, inf, fin}
use Rattle.std.specs.Float.Ieee.{binary64, up, down, odd, lt, eq, le, sum, sub, mul, round, of_fields, of_bits}
use Rattle.std.specs.Float.Ieee.Bits.{is_true}
use Rattle.std.specs.Float.Ieee.Fits.{down_pos}
use Rattle.std.specs.Float.Ieee.Exact.{HasValue, odd_sign, round_exact}
use Rattle.std.specs.Float.Ieee.Order.{le_of_values}
use Rattle.std.specs.Float.Ieee.Scale.{round_same}
use Rattle.std.specs.Float.Ieee.Positive.{positive_of_value, mul_at}
use Rattle.doubles.specs.Doubles.{gap_above}

-- the pattern of the infinity: those below it are the finite magnitudes
abbrev pub endless : ℕ
endless = 0x7ff0_0000_0000_0000

-- ---- what a pattern is worth, in units of the least double

-- of an exponent's field and the digits: the field 0 has no leading one
abbrev pub worth : ℕ → ℕ → ℕ
worth zero t = t
worth (suc x) t = (2 ^ 52 + t) * 2 ^ x

abbrev pub units_of : ℕ → ℕ
units_of n = worth (n / 2 ^ 52) (n % 2 ^ 52)

fields_value : (x t : ℕ) → x < 2047 → HasValue (of_fields binary64 false x t) false (worth x t) (2 ^ 1074)
unfolding of_fields
fields_value zero t l = subst (λ (u : ℕ). HasValue (odd 53 false t 0 1074) false u (2 ^ 1074)) (mul-one t) (odd_sign 53 false t 0 1074)
fields_value (suc x) t l =
    subst (λ (b : Bool). HasValue (cond b (cond (eqb t 0) (inf false) nan) (odd 53 false (2 ^ 52 + t) x 1074)) false ((2 ^ 52 + t) * 2 ^ x) (2 ^ 1074))
    (sym (ne_eqb (suc x) 2047 (omega (arith, l)))) (odd_sign 53 false (2 ^ 52 + t) x 1074)

pub pattern_value : (n : ℕ) → n < endless → HasValue (of_bits binary64 n) false (units_of n) (2 ^ 1074)
unfolding of_bits
pattern_value n l = rw (lt-leb (2 ^ 63) n (omega arith), mod-eq_of_lt {n = n} {m = 2 ^ 63} (omega arith)) (fields_value (n / 2 ^ 52) (n % 2 ^ 52) (omega arith))

-- ---- the next pattern is worth a power of two more, by the exponent's field
abbrev exponent : ℕ → ℕ
exponent zero = 0
exponent (suc x) = x

abbrev pub step_of : ℕ → ℕ
step_of x = 2 ^ exponent x

one_more : (x t : ℕ) → worth x (t + 1) ≡ worth x t + step_of x
one_more zero t = refl
one_more (suc x) t = omega arith

carried : (x t : ℕ) → t + 1 ≡ 2 ^ 52 → worth (suc x) 0 ≡ worth x t + step_of x
carried zero t e = omega arith
carried (suc x) t e =
    let l : t ≡ 2 ^ 52 - 1 = omega arith in
    rw (l, pow-suc 2 x) (omega arith)

pub units_next : (n : ℕ) → units_of (suc n) ≡ units_of n + step_of (n / 2 ^ 52)
units_next n = by (ltb (n % 2 ^ 52 + 1) (2 ^ 52)) refl
  where
    kept : n % 2 ^ 52 + 1 < 2 ^ 52 → units_of (suc n) ≡ units_of n + step_of (n / 2 ^ 52)
    kept l =
        let f : suc n / 2 ^ 52 ≡ n / 2 ^ 52 = omega arith in
        let g : suc n % 2 ^ 52 ≡ n % 2 ^ 52 + 1 = omega arith in
        rw (f, g) (one_more (n / 2 ^ 52) (n % 2 ^ 52))

    over : 2 ^ 52 ≤ n % 2 ^ 52 + 1 → units_of (suc n) ≡ units_of n + step_of (n / 2 ^ 52)
    over l =
        let f : suc n / 2 ^ 52 ≡ suc (n / 2 ^ 52) = omega arith in
        let g : suc n % 2 ^ 52 ≡ 0 = omega arith in
        rw (f, g) (carried (n / 2 ^ 52) (n % 2 ^ 52) (omega arith))

    by : (b : Bool) → ltb (n % 2 ^ 52 + 1) (2 ^ 52) ≡ b → units_of (suc n) ≡ units_of n + step_of (n / 2 ^ 52)
    by true e = kept (ltb-true _ _ e)
    by false e = over (ltb-false _ _ e)

-- so a greater pattern is worth more
pub units_more : (a b : ℕ) → a < b → units_of a < units_of b
units_more a zero l = absurd (omega arith)
units_more a (suc b) l = elim (eq-or-lt_of_le (le_of_suc-le-suc l)) [ inl e ↦ subst (λ (n : ℕ). units_of n < units_of (suc b)) (sym e) (next b) | inr h ↦ lt_trans (units_more a b h) (next b) ]
  where
    next : (n : ℕ) → units_of n < units_of (suc n)
    next n = omega (arith, units_next n, pow_pos (exponent (n / 2 ^ 52)))

-- ---- doubles are ordered as their patterns are

-- a value over one denominator, brought to another
scaled : (a k u b c : ℕ) → a * c ≡ u * b → a * k * c ≡ u * (b * k)
scaled a k u b c h = mul_right_comm a k c ∙ ap (λ (z : ℕ). z * k) h ∙ mul_assoc u b k

sub-mul : (a b k : ℕ) → (a - b) * k ≡ a * k - b * k
sub-mul a b k = mul_comm (a - b) k ∙ mul-sub k a b ∙ rw (mul_comm k a, mul_comm k b)

-- a double with such a value is finite and not negative
valued : (u c : ℕ) (P : Float → Type 0) → ((m : ℕ) (e : ℤ) → m * up e * c ≡ u * down e → P (fin false m e)) → (x : Float) → HasValue x false u c → P x
valued u c P f nan h = absurd h
valued u c P f (inf s) h = absurd h
valued u c P f (fin true m e) h = absurd (true≢false h.0)
valued u c P f (fin false m e) h = f m e h.1

-- two of them, of values over the denominator c
module _ (u v c : ℕ) (m : ℕ) (e : ℤ) (n : ℕ) (d : ℤ) (h : m * up e * c ≡ u * down e) (k : n * up d * c ≡ v * down d) where
  high : m * up e * down d * c ≡ u * (down e * down d)
  high = scaled (m * up e) (down d) u (down e) c h

  low : n * up d * down e * c ≡ v * (down e * down d)
  low = scaled (n * up d) (down e) v (down d) c k ∙ ap (λ (z : ℕ). v * z) (mul_comm (down d) (down e))

  fin_not_above : v < u → le (fin false m e) (fin false n d) ≡ false
  unfolding le lt eq
  fin_not_above l =
      let below : n * up d * down e < m * up e * down d = lt_of_mul-lt-mul_right c (subst₂ ◌<◌ (sym low) (sym high) (mul-lt-mul_of_pos_right l (mul-pos (down_pos e) (down_pos d)))) in
      rw (le-ltb (m * up e * down d) (n * up d * down e) (le_of_lt below), ne_eqb (m * up e * down d) (n * up d * down e) (omega (arith, below)))

  fin_sub : 0 < c → v ≤ u → sub binary64 (fin false m e) (fin false n d) ≡ round binary64 false (u - v) c
  unfolding sub sum
  fin_sub p l =
      let no_more : n * up d * down e ≤ m * up e * down d = le_of_mul-le-mul_right (subst₂ ◌≤◌ (sym low) (sym high) (mul-le-mul_right (down e * down d) l)) p in
      let same : (m * up e * down d - n * up d * down e) * c ≡ (u - v) * (down e * down d) = sub-mul (m * up e * down d) (n * up d * down e) c ∙ rw (high, low) (sym (sub-mul u v (down e * down d))) in
      rw (le-ltb (m * up e * down d) (n * up d * down e) no_more)
      (round_same binary64 false (m * up e * down d - n * up d * down e) (down e * down d) (u - v) c (mul-pos (down_pos e) (down_pos d)) p same)

not-above : (x y : Float) (u v c : ℕ) → HasValue x false u c → HasValue y false v c → v < u → le x y ≡ false
not-above x y u v c h k l =
    valued u c (λ a. le a y ≡ false) (λ m e p. valued v c (λ b. le (fin false m e) b ≡ false) (λ n d q. fin_not_above u v c m e n d p q l) y k) x h

pub pattern_order : (a b : ℕ) → a < endless → b < endless → le (of_bits binary64 a) (of_bits binary64 b) ≡ leb a b
pattern_order a b p q = by (leb a b) refl
  where
    no_less : a ≤ b → units_of a ≤ units_of b
    no_less h = elim (eq-or-lt_of_le h) [ inl f ↦ le_of_eq (ap units_of f) | inr g ↦ le_of_lt (units_more a b g) ]

    by : (t : Bool) → leb a b ≡ t → le (of_bits binary64 a) (of_bits binary64 b) ≡ t
    by true e = is_true _ (le_of_values _ _ _ _ _ _ (pow_pos 1074) (pow_pos 1074) (pattern_value a p) (pattern_value b q) (mul-le-mul_right (2 ^ 1074) (no_less (leb-true a b e))))
    by false e = not-above (of_bits binary64 a) (of_bits binary64 b) (units_of a) (units_of b) (2 ^ 1074) (pattern_value a p) (pattern_value b q) (units_more b a (leb-false a b e))

-- ---- a gap is exact, and so is four times a gap
sub_at : (x y : Float) (u v c : ℕ) → 0 < c → HasValue x false u c → HasValue y false v c → v ≤ u → sub binary64 x y ≡ round binary64 false (u - v) c
sub_at x y u v c p h k l =
    valued u c (λ a. sub binary64 a y ≡ round binary64 false (u - v) c) (λ m e g. valued v c (λ b. sub binary64 (fin false m e) b ≡ round binary64 false (u - v) c) (λ n d q. fin_sub u v c m e n d g q p l) y k) x h

-- up to four of a power of two keep their value
power_exact : (q x : ℕ) → q ≤ 4 → x < 2047 → HasValue (round binary64 false (q * step_of x) (2 ^ 1074)) false (q * step_of x) (2 ^ 1074)
power_exact q x s l = round_exact binary64 false (q * step_of x) (2 ^ 1074) q (exponent x) (pow_pos 1074) (omega arith) (lt_trans (shl_lt 3 (exponent x) (omega arith)) (pow-lt (small x l))) refl
  where
    small : (x : ℕ) → x < 2047 → 3 + exponent x < 2098
    small zero h = omega arith
    small (suc x) h = omega arith

pub gap_exact : (n : ℕ) → suc n < endless → HasValue (gap_above n) false (step_of (n / 2 ^ 52)) (2 ^ 1074)
unfolding gap_above
gap_exact n l =
    let e : n + 1 ≡ suc n = omega arith in
    let step : units_of (suc n) - units_of n ≡ 1 * step_of (n / 2 ^ 52) = omega (arith, units_next n) in
    rw (e, sub_at (of_bits binary64 (suc n)) (of_bits binary64 n) (units_of (suc n)) (units_of n) (2 ^ 1074) (pow_pos 1074) (pattern_value (suc n) l) (pattern_value n (omega arith)) (omega (arith, units_next n)), step)
    (subst (λ (u : ℕ). HasValue (round binary64 false (1 * step_of (n / 2 ^ 52)) (2 ^ 1074)) false u (2 ^ 1074)) (one-mul (step_of (n / 2 ^ 52))) (power_exact 1 (n / 2 ^ 52) (omega arith) (omega arith)))

pub four_exact : (n : ℕ) → suc n < endless → HasValue (mul binary64 (fin false 1 (pos 2)) (gap_above n)) false (4 * step_of (n / 2 ^ 52)) (2 ^ 1074)
four_exact n l =
    rw (mul_at binary64 (fin false 1 (pos 2)) (gap_above n) 4 1 (step_of (n / 2 ^ 52)) (2 ^ 1074) tt
    (positive_of_value (gap_above n) (step_of (n / 2 ^ 52)) (2 ^ 1074) (gap_exact n l) (pow_pos (exponent (n / 2 ^ 52)))) (omega arith) (pow_pos 1074) (refl, refl) (gap_exact n l))
    (power_exact 4 (n / 2 ^ 52) (omega arith) (omega arith))
