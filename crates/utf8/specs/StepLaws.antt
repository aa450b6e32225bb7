-- One step of the code through a text: a character, or some ASCII octets at once.
use Rattle.std.specs.Prelude.{ℕ, zero, suc, ◌+◌, ◌*◌, ◌/◌, ◌%◌, ◌^◌, ◌<◌, ◌≤◌, ◌≡◌, List, ◌∷◌, Bool, true, cond, ◌&&◌, ltb, length, drop, get_or}
use Rattle.std.proofs.Common.{zero-le, sym, ap, ◌∙◌, subst, ⊎_elim, add-zero, le_refl, le_antisymm, lt_of_not-le, not-suc-le-zero, eq-or-lt_of_le, arith, drop-cons, Fits}
use Rattle.std.proofs.Math.Path.{refl}
use Rattle.std.proofs.Math.Bool.{false}
use Rattle.std.proofs.Math.Decide.{dec_le}
use borrow.Author.Tests.{eqb-true, eqb-false, eq-eqb, ne_eqb, ltb-true, ltb-false}
use Rattle.std.proofs.Math.Dec.{eqb}
use Rattle.std.specs.Int.{w8}
use Rattle.octets.specs.Octets.{le64}
use Rattle.octets.specs.OctetLaws.{le64-low}
use Rattle.utf8.specs.Utf8.{in_range, size, well_formed}
use Rattle.utf8.specs.CharacterLaws.{one, three-e0, three_e1, three-ed, three_ee, four-f0, four_f1, four-f4}
use Rattle.utf8.specs.WellFormedLaws.{well-past, well_stop, well-more, size-inside}
use Rattle.utf8.specs.CoverLaws.{Stretch, Ends, stretch_none, stretch_join, stretch_one, ends-one}

-- whether b may follow a, a first octet from E0 to F4
unfoldable pub second : ℕ → ℕ → Bool
second a b =
    cond (eqb a 0xE0) (in_range 0xA0 0xBF b)
    (cond (eqb a 0xED) (in_range 0x80 0x9F b) (cond (eqb a 0xF0) (in_range 0x90 0xBF b) (cond (eqb a 0xF4) (in_range 0x80 0x8F b) (in_range 0x80 0xBF b))))

-- a number at least m that is not m
above : (m a : ℕ) → m ≤ a → (a ≡ m → ⊥) → suc m ≤ a
above m a p n = ⊎_elim (λ e. absurd (n (sym e))) (λ l. l) (eq-or-lt_of_le p)

below : (m a : ℕ) → a ≤ m → (a ≡ m → ⊥) → a < m
below m a p n = ⊎_elim (λ e. absurd (n e)) (λ l. l) (eq-or-lt_of_le p)

module _ (a b c : ℕ) (s : List ℕ) (p : 0xE0 ≤ a) (q : a ≤ 0xEF) where
  three-other : (z : Bool) → ltb a 0xED ≡ z → (a ≡ 0xE0 → ⊥) → (a ≡ 0xED → ⊥) → size (a ∷ b ∷ c ∷ s) ≡ cond (in_range 0x80 0xBF b && (in_range 0x80 0xBF c && true)) 3 0
  three-other true g m n = three_e1 a (b ∷ c ∷ s) (above 0xE0 a p m) (omega (arith, ltb-true a 0xED g))
  three-other false g m n = three_ee a (b ∷ c ∷ s) (above 0xED a (ltb-false a 0xED g) n) q

  pub three_law : size (a ∷ b ∷ c ∷ s) ≡ cond (second a b && (in_range 0x80 0xBF c && true)) 3 0
  unfolding second
  three_law = by (eqb a 0xE0) (eqb a 0xED) refl refl
    where
      f0 : eqb a 0xF0 ≡ false
      f0 = ne_eqb a 0xF0 (λ e. omega arith)

      f4 : eqb a 0xF4 ≡ false
      f4 = ne_eqb a 0xF4 (λ e. omega arith)

      by : (x y : Bool) → eqb a 0xE0 ≡ x → eqb a 0xED ≡ y
          → size (a ∷ b ∷ c ∷ s) ≡ cond (cond x (in_range 0xA0 0xBF b) (cond y (in_range 0x80 0x9F b) (cond (eqb a 0xF0) (in_range 0x90 0xBF b) (cond (eqb a 0xF4) (in_range 0x80 0x8F b) (in_range 0x80 0xBF b)))) && (in_range 0x80 0xBF c && true)) 3 0
      by true y e f = three-e0 a (b ∷ c ∷ s) (omega (arith, eqb-true a 0xE0 e)) (omega (arith, eqb-true a 0xE0 e))
      by false true e f = three-ed a (b ∷ c ∷ s) (omega (arith, eqb-true a 0xED f)) (omega (arith, eqb-true a 0xED f))
      by false false e f = simp (f0, f4) (three-other (ltb a 0xED) refl (eqb-false a 0xE0 e) (eqb-false a 0xED f))

module _ (a b c d : ℕ) (s : List ℕ) (p : 0xF0 ≤ a) (q : a ≤ 0xF4) where
  pub four_law : size (a ∷ b ∷ c ∷ d ∷ s) ≡ cond (second a b && (in_range 0x80 0xBF c && (in_range 0x80 0xBF d && true))) 4 0
  unfolding second
  four_law = by (eqb a 0xF0) (eqb a 0xF4) refl refl
    where
      e0 : eqb a 0xE0 ≡ false
      e0 = ne_eqb a 0xE0 (λ e. omega arith)

      ed : eqb a 0xED ≡ false
      ed = ne_eqb a 0xED (λ e. omega arith)

      by : (x y : Bool) → eqb a 0xF0 ≡ x → eqb a 0xF4 ≡ y
          → size (a ∷ b ∷ c ∷ d ∷ s) ≡ cond (cond (eqb a 0xE0) (in_range 0xA0 0xBF b) (cond (eqb a 0xED) (in_range 0x80 0x9F b) (cond x (in_range 0x90 0xBF b) (cond y (in_range 0x80 0x8F b) (in_range 0x80 0xBF b)))) && (in_range 0x80 0xBF c && (in_range 0x80 0xBF d && true))) 4 0
      by true y e f = simp (e0, ed) (four-f0 a (b ∷ c ∷ d ∷ s) (omega (arith, eqb-true a 0xF0 e)) (omega (arith, eqb-true a 0xF0 e)))
      by false true e f = simp (e0, ed) (four-f4 a (b ∷ c ∷ d ∷ s) (omega (arith, eqb-true a 0xF4 f)) (omega (arith, eqb-true a 0xF4 f)))
      by false false e f =
          let u : suc 0xF0 ≤ a = above 0xF0 a p (eqb-false a 0xF0 e) in
          let v : a < 0xF4 = below 0xF4 a q (eqb-false a 0xF4 f) in
          simp (e0, ed) (four_f1 a (b ∷ c ∷ d ∷ s) u (omega arith))

-- ---- a step of r octets from p
pub record Step (s : List ℕ) (p r : ℕ) : Type 0 where
  pub within : p + r ≤ length s
  pub covered : Stretch s p (p + r)
  pub more : 0 < r → well_formed (drop p s) ≡ well_formed (drop (p + r) s)
  pub none : r ≡ 0 → size (drop p s) ≡ 0
  pub ends : Ends s p → Ends s (p + r)

module _ (s : List ℕ) (p : ℕ) where
  -- of one character, or none
  pub step-one : (r : ℕ) → p < length s → r ≡ size (drop p s) → Step s p r
  step-one r l e = record {
    within = omega (arith, size-inside s p (omega arith));
    covered = stretch_one s p r (sym e);
    more = λ k. well-more s p r (sym e) k;
    none = λ k. sym e ∙ k;
    ends = λ h. ends-one s p r h (sym e);
  }

  -- of some ASCII octets
  pub record Ascii (n : ℕ) : Type 0 where
    pub each : (k : ℕ) → k < n → get_or s (p + k) 0 < 128

  ascii_more : (k n : ℕ) → Ascii n → p + n ≤ length s → k ≤ n → Stretch s p (p + k) × (well_formed (drop p s) ≡ well_formed (drop (p + k) s)) × (Ends s p → Ends s (p + k))
  ascii_more zero n h l m = (
    subst (λ (n : ℕ). Stretch s p n) (sym (add-zero p)) (stretch_none s p),
    ap (λ (n : ℕ). well_formed (drop n s)) (sym (add-zero p)),
    λ b. subst (λ (n : ℕ). Ends s n) (sym (add-zero p)) b,
  )
  ascii_more (suc k) n h l m =
      let e : size (drop (p + k) s) ≡ 1 = ap size (drop-cons s (p + k) 0 (omega arith)) ∙ one (get_or s (p + k) 0) (drop (suc (p + k)) s) zero-le (omega (arith, h.each k m)) in
      let i = ascii_more k n h l (omega arith) in
      let n : p + k + 1 ≡ p + suc k = omega arith in (
        subst (λ (n : ℕ). Stretch s p n) n (stretch_join s p (p + k) (p + k + 1) i.0 (stretch_one s (p + k) 1 e)),
        i.1 ∙ well-more s (p + k) 1 e (omega arith) ∙ ap (λ (n : ℕ). well_formed (drop n s)) n,
        λ b. subst (λ (n : ℕ). Ends s n) n (ends-one s (p + k) 1 (i.2 b) e),
      )

  pub step_ascii : (n : ℕ) → Ascii n → p + n ≤ length s → 0 < n → Step s p n
  step_ascii n h l m =
      let i = ascii_more n n h l (le_refl n) in
      record { within = l; covered = i.0; more = λ k. i.1; none = λ k. absurd (omega (arith, k)); ends = i.2 }

  -- one, or none
  pub ascii_one : get_or s p 0 ≤ 127 → Ascii 1
  ascii_one l = record { each = λ k m. let e : p + k ≡ p = omega arith in omega (arith, ap (λ (i : ℕ). get_or s i 0) e) }

  pub ascii_none : Ascii 0
  ascii_none = record { each = λ k m. absurd (not-suc-le-zero m) }

-- ---- some steps, one after the other
pub record Walking (s : List ℕ) (a p : ℕ) : Type 0 where
  pub after : a ≤ p
  pub within : p ≤ length s
  pub covered : Stretch s a p
  pub ends : Ends s a → Ends s p
  pub same : well_formed (drop a s) ≡ well_formed (drop p s)

pub walking_start : (s : List ℕ) (a : ℕ) → a ≤ length s → Walking s a a
walking_start s a h = record { after = le_refl a; within = h; covered = stretch_none s a; ends = λ e. e; same = refl }

pub walking_more : (s : List ℕ) (a p r : ℕ) → Walking s a p → Step s p r → (r ≡ 0 → ⊥) → Walking s a (p + r)
walking_more s a p r w h n = record {
  after = omega (arith, w.after);
  within = h.within;
  covered = stretch_join s a p (p + r) w.covered h.covered;
  ends = λ e. h.ends (w.ends e);
  same = w.same ∙ h.more (lt_of_not-le (λ l. n (omega arith)));
}

-- a text is well-formed where they lead to its end
pub walked_whole : (s : List ℕ) (p : ℕ) → Walking s 0 p → (p < length s → size (drop p s) ≡ 0) → eqb p (length s) ≡ well_formed s
walked_whole s p w h = elim (dec_le (length s) p) [
  | yes l ↦ eq-eqb p (length s) (le_antisymm w.within l) ∙ sym (w.same ∙ well-past s p l)
  | no l ↦ ne_eqb p (length s) (λ e. l (omega (arith, e))) ∙ sym (w.same ∙ well_stop s p (lt_of_not-le l) (h (lt_of_not-le l)))
]

-- ---- eight octets at once, by the number that they make
-- the highest bit of each is 0
pub record Low (w : ℕ) : Type 0 where
  pub each : (k : ℕ) → k < 8 → w / (256 ^ k * 128) % 2 ≡ 0

pub low_by : (w : ℕ) → w / 0x80 % 2 ≡ 0 → w / 0x8000 % 2 ≡ 0 → w / 0x800000 % 2 ≡ 0 → w / 0x80000000 % 2 ≡ 0 → w / 0x8000000000 % 2 ≡ 0 → w / 0x800000000000 % 2 ≡ 0
    → w / 0x80000000000000 % 2 ≡ 0 → w / 0x8000000000000000 % 2 ≡ 0 → Low w
low_by w a b c d e f g h = record { each = bit }
  where
    bit : (k : ℕ) → k < 8 → w / (256 ^ k * 128) % 2 ≡ 0
    bit zero l = a
    bit (suc zero) l = b
    bit (suc (suc zero)) l = c
    bit (suc (suc (suc zero))) l = d
    bit (suc (suc (suc (suc zero)))) l = e
    bit (suc (suc (suc (suc (suc zero))))) l = f
    bit (suc (suc (suc (suc (suc (suc zero)))))) l = g
    bit (suc (suc (suc (suc (suc (suc (suc zero))))))) l = h
    bit (suc (suc (suc (suc (suc (suc (suc (suc k)))))))) l = absurd (omega (arith, l))

pub ascii_eight : (s : List ℕ) (p w : ℕ) (r : Bool) → ((k : ℕ) → Fits w8 (get_or s k 0)) → p + 8 ≤ length s → w ≡ le64 s p → (r ≡ true → Low w) → r ≡ true → Ascii s p 8
ascii_eight s p w r fit l e h t =
    record { each = λ k m. le64-low s p (λ j. (fit j).fits) l k m (ap (λ (n : ℕ). n / (256 ^ k * 128) % 2) (sym e) ∙ (h t).each k m) }
