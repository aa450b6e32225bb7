-- What 2026-02 says of a corner's magnitude, of its pattern: the larger magnitude has the greater pattern, and between a pattern and the next no double stands.
use Rattle.std.specs.Prelude.{ℕ, zero, suc, ◌+◌, ◌/◌, ◌%◌, ◌^◌, ◌<◌, ◌≤◌, ◌≡◌, refl, Bool, true, false, cond, T, leb, eqb, ℤ, Float}
use Rattle.std.proofs.Common.{sym, ap, subst, subst₂, ◌∙◌, true≢false, mod-eq_of_lt, arith, le-leb, leb-true, leb-false}
use Rattle.std.proofs.lemmas.Bool.{lt-leb}
use Rattle.std.specs.Float.{nan, inf, fin, binary64}
use Rattle.std.specs.Float.Ieee.{odd, le, of_fields, of_bits, to_bits, fits}
use Rattle.std.specs.Float.Ieee.Bits.{of_bits-to_bits}
use Rattle.std.specs.Float.Ieee.Scale.{finite}
use Rattle.doubles.specs.Doubles.{magnitude}
use Rattle.doubles.specs.PatternLaws.{endless, pattern_order}

-- ---- the pattern less the sign is that of the double less its sign
abbrev pub unsigned : Float → Float
unsigned nan = nan
unsigned (inf s) = inf false
unsigned (fin s m e) = fin false m e

abbrev negative : Float → Bool
negative nan = true
negative (inf s) = s
negative (fin s m e) = s

odd_negative : (d q k l : ℕ) → negative (odd d true q k l) ≡ true
unfolding odd
odd_negative d zero k l = refl
odd_negative d (suc q) k l = refl

fields_negative : (x t : ℕ) → negative (of_fields binary64 true x t) ≡ true
unfolding of_fields
fields_negative zero t = odd_negative 53 t 0 1074
fields_negative (suc x) t = by (eqb (suc x) 2047) (eqb t 0)
  where
    by : (a b : Bool) → negative (cond a (cond b (inf true) nan) (odd 53 true (2 ^ 52 + t) x 1074)) ≡ true
    by true true = refl
    by true false = refl
    by false b = odd_negative 53 (2 ^ 52 + t) x 1074

-- a pattern with the sign is no double without one
below_sign : (n : ℕ) → negative (of_bits binary64 n) ≡ false → n < 2 ^ 63
unfolding of_bits
below_sign n h = by (leb (2 ^ 63) n) refl
  where
    by : (b : Bool) → leb (2 ^ 63) n ≡ b → n < 2 ^ 63
    by true e = absurd (true≢false (sym (fields_negative (n % 2 ^ 63 / 2 ^ 52) (n % 2 ^ 52)) ∙ subst (λ (b : Bool). negative (of_fields binary64 b (n % 2 ^ 63 / 2 ^ 52) (n % 2 ^ 52)) ≡ false) e h))
    by false e = leb-false (2 ^ 63) n e

signed_bits : (s : Bool) (m : ℕ) (e : ℤ) → to_bits binary64 (fin s m e) ≡ cond s (2 ^ 63) 0 + to_bits binary64 (fin false m e)
unfolding to_bits
signed_bits false m e = omega arith
signed_bits true m e = omega arith

fits-unsigned : (s : Bool) (m : ℕ) (e : ℤ) → T (fits binary64 (fin s m e)) → T (fits binary64 (fin false m e))
unfolding fits
fits-unsigned s zero e f = f
fits-unsigned s (suc m) e f = f

bits_unsigned : (s : Bool) (m : ℕ) (e : ℤ) → T (fits binary64 (fin s m e)) → magnitude (fin s m e) ≡ to_bits binary64 (fin false m e)
unfolding magnitude
bits_unsigned s m e f = rw (signed_bits s m e) (without s (to_bits binary64 (fin false m e)) (below_sign (to_bits binary64 (fin false m e)) (ap negative (of_bits-to_bits binary64 (fin false m e) (fits-unsigned s m e f)))))
  where
    without : (t : Bool) (n : ℕ) → n < 2 ^ 63 → (cond t (2 ^ 63) 0 + n) % 2 ^ 63 ≡ n
    without true n l = omega arith
    without false n l = omega arith

pub magnitude-unsigned : (x : Float) → T (fits binary64 x) → of_bits binary64 (magnitude x) ≡ unsigned x
unfolding magnitude of_bits to_bits
magnitude-unsigned nan f = refl
magnitude-unsigned (inf true) f = refl
magnitude-unsigned (inf false) f = refl
magnitude-unsigned (fin s m e) f = ap (of_bits binary64) (bits_unsigned s m e f) ∙ of_bits-to_bits binary64 (fin false m e) (fits-unsigned s m e f)

-- ---- the corner larger in magnitude has the greater pattern
endless_fields : (t : ℕ) → finite (of_fields binary64 false 2047 t) ≡ false
unfolding of_fields
endless_fields t = by (eqb t 0)
  where
    by : (b : Bool) → finite (cond b (inf false) nan) ≡ false
    by true = refl
    by false = refl

from-endless : (n : ℕ) → endless ≤ n → n < 2 ^ 63 → finite (of_bits binary64 n) ≡ false
unfolding of_bits
from-endless n l b =
    let f : n / 2 ^ 52 ≡ 2047 = omega arith in
    rw (lt-leb (2 ^ 63) n b, mod-eq_of_lt {n = n} {m = 2 ^ 63} b, f) (endless_fields (n % 2 ^ 52))

magnitude-below : (x : Float) → magnitude x < 2 ^ 63
unfolding magnitude
magnitude-below x = omega arith

finite_magnitude : (x : Float) → T (fits binary64 x) → T (finite x) → magnitude x < endless
finite_magnitude x f g = by (leb endless (magnitude x)) refl
  where
    by : (b : Bool) → leb endless (magnitude x) ≡ b → magnitude x < endless
    by true e = absurd (subst T (sym (same x) ∙ ap finite (sym (magnitude-unsigned x f)) ∙ from-endless (magnitude x) (leb-true _ _ e) (magnitude-below x)) g)
      where
        same : (y : Float) → finite (unsigned y) ≡ finite y
        same nan = refl
        same (inf s) = refl
        same (fin s m k) = refl
    by false e = leb-false endless (magnitude x) e

pub larger : (x y : Float) → T (fits binary64 x) → T (finite x) → T (fits binary64 y) → T (finite y) → le (unsigned x) (unsigned y) ≡ leb (magnitude x) (magnitude y)
larger x y f g h k = subst₂ (λ (a b : Float). le a b ≡ leb (magnitude x) (magnitude y)) (magnitude-unsigned x f) (magnitude-unsigned y h) (pattern_order (magnitude x) (magnitude y) (finite_magnitude x f g) (finite_magnitude y h k))

-- ---- "the next double above that magnitude": a double that is not at most that of a pattern is at least that of the next
pub none_between : (n : ℕ) (x : Float) → suc n < endless → T (fits binary64 x) → T (finite x) → unsigned x ≡ x
    → le x (of_bits binary64 n) ≡ false → le (of_bits binary64 (suc n)) x ≡ true
none_between n x l f g u h =
    let same : of_bits binary64 (magnitude x) ≡ x = magnitude-unsigned x f ∙ u in
    let b = finite_magnitude x f g in
    let above : n < magnitude x = leb-false (magnitude x) n (sym (pattern_order (magnitude x) n b (omega arith)) ∙ subst (λ (y : Float). le y (of_bits binary64 n) ≡ false) (sym same) h) in
    subst (λ (y : Float). le (of_bits binary64 (suc n)) y ≡ true) same (pattern_order (suc n) (magnitude x) l b ∙ le-leb (suc n) (magnitude x) above)
