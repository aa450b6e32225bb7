-- Octets below 128 are a character each: a text of them is well-formed wherever it begins and ends.
use Rattle.std.specs.Prelude.{ℕ, suc, ◌+◌, ◌-◌, ◌*◌, ◌/◌, ◌<◌, ◌≤◌, ◌≡◌, refl, List, [], ◌∷◌, Bool, true, false, ltb, length, drop, take, get_or}
use Rattle.std.proofs.Common.{zero-le, ap, ◌∙◌, not-suc-le-zero, lt_of_not-le, arith, le-leb, ltb-true, length-take, length-drop, get_or-drop, get_or-take}
use Rattle.std.proofs.Math.Decide.{dec_le}
use Rattle.octets.specs.Octets.{part}
use Rattle.octets.specs.Search.{Sought}
use Rattle.octets.specs.SkipLaws.{side}
use Rattle.utf8.specs.Utf8.{size, well_formed}
use Rattle.utf8.specs.CharacterLaws.{one}
use Rattle.utf8.specs.WellFormedLaws.{well-none, well-step}
use Rattle.utf8.specs.StepLaws.{Ascii}

-- the first n octets are ASCII; n is no start of NULL
pub record Plain (s : List ℕ) (n : ℕ) : Type 0 where
  pub within : n ≤ length s
  pub small : n < 4294967295
  pub each : (k : ℕ) → k < n → get_or s k 0 < 128

-- the octets from start up to end are at most r
abbrev pub AtMost : List ℕ → ℕ → ℕ → ℕ → Type 0
AtMost s start end r = (k : ℕ) → start ≤ k → k < end → get_or s k 0 ≤ r

ascii_well : (s : List ℕ) → ((k : ℕ) → k < length s → get_or s k 0 < 128) → well_formed s ≡ true
ascii_well [] h = well-none [] refl
ascii_well (x ∷ s) h =
    let e : size (x ∷ s) ≡ 1 = one x s zero-le (omega (arith, h 0 (omega arith))) in
    well-step (x ∷ s) (omega (arith, e)) ∙ ap (λ (n : ℕ). well_formed (drop n (x ∷ s))) e ∙ ascii_well s (λ k l. h (suc k) (omega arith))

-- a text that ends in them
pub plain-part : (s : List ℕ) (n start len : ℕ) → Plain s n → start + len ≤ n → well_formed (part s start len) ≡ true
unfolding part
plain-part s n start len h l = simp (le-leb (start + len) (length s) (omega (arith, h.within))) (ascii_well (take len (drop start s)) octet)
  where
    octet : (k : ℕ) → k < length (take len (drop start s)) → get_or (take len (drop start s)) k 0 < 128
    octet k m =
        let b : k < len = omega (arith, length-take len (drop start s)) in
        let e : get_or (take len (drop start s)) k 0 ≡ get_or s (start + k) 0 = get_or-take len (drop start s) k 0 b ∙ get_or-drop start s k 0 in
        omega (arith, e, h.each (start + k) (omega arith))

-- ---- as the code finds them: none, and then more
module _ (s : List ℕ) where
  pub plain-start : Plain s 0
  plain-start = record { within = zero-le; small = omega arith; each = λ k l. absurd (not-suc-le-zero l) }

  pub plain_more : (p r : ℕ) → Plain s p → Ascii s p r → p + r ≤ length s → p ≤ 1048576 → r ≤ 8 → Plain s (p + r)
  plain_more p r h a l m b = record {
    within = l;
    small = omega arith;
    each = λ k n. elim (dec_le p k) [
      | yes g ↦ let e : p + (k - p) ≡ k = omega arith in let f : get_or s (p + (k - p)) 0 ≡ get_or s k 0 = ap (λ (i : ℕ). get_or s i 0) e in omega (arith, f, a.each (k - p) (omega arith))
      | no g ↦ h.each k (lt_of_not-le g)
    ];
  }

  -- some at a time, by the highest of them
  module _ (start : ℕ) where
    pub most-none : (r : ℕ) → AtMost s start start r
    most-none r k l h = absurd (omega arith)

    pub most-more : (i a b : ℕ) → AtMost s start i a → a ≤ b → get_or s i 0 ≤ b → AtMost s start (i + 1) b
    most-more i a b h p q k l m = side k i (λ n. omega (arith, h k l n)) (λ n. let e : k ≡ i = omega arith in omega (arith, q, ap (λ (j : ℕ). get_or s j 0) e))

    pub most-end : (i end r : ℕ) → AtMost s start i r → end ≤ i → AtMost s start end r
    most-end i end r h l k a b = h k a (omega arith)

  pub plain_block : (n r : ℕ) → Plain s n → n ≤ 1048576 → 64 ≤ length s - n → AtMost s n (n + 64) r → r ≤ 127 → Plain s (n + 64)
  plain_block n r h m l a b = record { within = omega (arith, h.within); small = omega arith; each = λ k d. side k n (λ c. h.each k c) (λ c. omega (arith, a k c d)) }

  -- some blocks, of which a test says so
  pub plain_by : (says : ℕ → Bool → Type 0) (n r : ℕ) → Sought says 0 n r → 64 * n ≤ length s → n ≤ 16385 → ((k : ℕ) → k < n → says k false → AtMost s (64 * k) (64 * k + 64) 127) → Plain s (64 * r)
  plain_by says n r h l m block = record {
    within = omega (arith, h.most);
    small = omega (arith, h.most);
    each = λ j d.
        let k : j / 64 < r = omega arith in
        omega (arith, block (j / 64) (omega (arith, h.most)) (h.below (j / 64) zero-le k) j (omega arith) (omega arith));
  }

  -- a block by the highest of its octets
  pub block_most : (p e r : ℕ) → p ≤ e → e ≤ length s → AtMost (take (e - p) (drop p s)) 0 (length (take (e - p) (drop p s))) r → ltb r 128 ≡ true → AtMost s p e 127
  block_most p e r l m h t k u v =
      let within : k - p < length (take (e - p) (drop p s)) = omega (arith, length-take (e - p) (drop p s), length-drop p s) in
      let same : get_or (take (e - p) (drop p s)) (k - p) 0 ≡ get_or s k 0 = get_or-take (e - p) (drop p s) (k - p) 0 (omega arith) ∙ get_or-drop p s (k - p) 0 ∙ ap (λ (i : ℕ). get_or s i 0) (omega arith) in
      omega (arith, same, ltb-true r 128 t, h (k - p) zero-le within)
