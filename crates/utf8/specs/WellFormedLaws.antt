-- The laws of well-formed texts: one character after the other, as the code goes.
use Rattle.std.specs.Prelude.{ℕ, zero, suc, ◌+◌, ◌<◌, ◌≤◌, ◌≡◌, refl, List, Bool, true, false, ◌&&◌, ◌||◌, ltb, eqb, length, drop}
use Rattle.std.proofs.Common.{ap, ◌∙◌, le_refl, arith, eq-eqb, ne_eqb, lt-ltb, le-ltb, ltb-true, drop-drop}
use Rattle.std.proofs.Math.ListN.{length-drop}
use Rattle.utf8.specs.Utf8.{size, well_formed_by, well_formed}
use Rattle.utf8.specs.CharacterLaws.{size-length}

-- how many turns are allowed does not matter where they suffice
turns : (n m : ℕ) (s : List ℕ) → length s ≤ n → length s ≤ m → well_formed_by n s ≡ well_formed_by m s
turns zero zero s p q = refl
turns zero (suc m) s p q = let e : eqb (length s) 0 ≡ true = eq-eqb (length s) 0 (omega arith) in simp e
turns (suc n) zero s p q = let e : eqb (length s) 0 ≡ true = eq-eqb (length s) 0 (omega arith) in simp e
turns (suc n) (suc m) s p q = by (ltb 0 (size s)) refl (λ l. turns n m (drop (size s) s) (simp length-drop (omega arith)) (simp length-drop (omega arith)))
  where
    by : (b : Bool) → ltb 0 (size s) ≡ b → (0 < size s → well_formed_by n (drop (size s) s) ≡ well_formed_by m (drop (size s) s))
        → (eqb (length s) 0 || (b && well_formed_by n (drop (size s) s))) ≡ (eqb (length s) 0 || (b && well_formed_by m (drop (size s) s)))
    by true e h = ap (λ (x : Bool). eqb (length s) 0 || x) (h (ltb-true 0 (size s) e))
    by false e h = refl

module _ (s : List ℕ) where
  one_turn : 0 < length s → well_formed s ≡ (ltb 0 (size s) && well_formed_by (length s) (drop (size s) s))
  unfolding well_formed
  one_turn l =
      turns (length s) (suc (length s)) s (le_refl _) (omega arith) ∙ simp (ne_eqb (length s) 0 (λ e. omega arith))

  -- the empty text is well-formed
  pub well-none : length s ≡ 0 → well_formed s ≡ true
  unfolding well_formed
  well-none e = simp e

  -- a text that begins with no character is not
  pub well_stuck : 0 < length s → size s ≡ 0 → well_formed s ≡ false
  well_stuck l e = one_turn l ∙ simp (le-ltb 0 (size s) (omega arith))

  -- and one that begins with a character is where the rest is
  pub well-step : 0 < size s → well_formed s ≡ well_formed (drop (size s) s)
  unfolding well_formed
  well-step l =
      one_turn (omega (arith, size-length s)) ∙ simp (lt-ltb 0 (size s) l)
      (turns (length s) (length (drop (size s) s)) (drop (size s) s) (simp length-drop (omega arith)) (le_refl _))

-- the same from a place of a text
module _ (s : List ℕ) (p : ℕ) where
  pub well-past : length s ≤ p → well_formed (drop p s) ≡ true
  well-past l = well-none (drop p s) (simp length-drop (omega arith))

  pub well_stop : p < length s → size (drop p s) ≡ 0 → well_formed (drop p s) ≡ false
  well_stop l e = well_stuck (drop p s) (simp length-drop (omega arith)) e

  pub well-more : (k : ℕ) → size (drop p s) ≡ k → 0 < k → well_formed (drop p s) ≡ well_formed (drop (p + k) s)
  well-more k e l = well-step (drop p s) (omega arith) ∙ ap well_formed (drop-drop (size (drop p s)) p s) ∙ ap (λ (n : ℕ). well_formed (drop (p + n) s)) e

  pub size-inside : p ≤ length s → p + size (drop p s) ≤ length s
  size-inside l = omega (arith, size-length (drop p s), length-drop p s)
