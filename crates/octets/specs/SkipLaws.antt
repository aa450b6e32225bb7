-- Numbers that a search passes without a look at each: none of them passes the test.
use Rattle.std.specs.Prelude.{ℕ, ◌+◌, ◌-◌, ◌<◌, ◌≤◌, ◌≡◌, Bool, ltb}
use Rattle.std.proofs.Math.Path.{refl}
use Rattle.std.proofs.Common.{sym, ◌∙◌, subst, arith, le_refl, le_antisymm, add-one, ltb-true, ltb-false}
use Rattle.std.proofs.Math.Bool.{true, false}
use Rattle.std.proofs.Math.Decide.{le_ind}
use Rattle.octets.specs.Counts.{one_if, Counted}
use Rattle.octets.specs.SearchLaws.{Seeking, seek-more}

pub record Skipped (p : ℕ → Bool) (start n r : ℕ) : Type 0 where
  pub low : start ≤ r
  pub high : r ≤ n
  pub none : (k : ℕ) → start ≤ k → k < r → p k ≡ false

side-by : {A : Type 0} (m j : ℕ) (b : Bool) → ltb m j ≡ b → (m < j → A) → (j ≤ m → A) → A
side-by m j true e f g = f (ltb-true m j e)
side-by m j false e f g = g (ltb-false m j e)

pub side : {A : Type 0} (m j : ℕ) → (m < j → A) → (j ≤ m → A) → A
side m j = side-by m j (ltb m j) refl

module _ (p : ℕ → Bool) where
  none-one : (i m : ℕ) → one_if (p i) ≡ 0 → i ≡ m → p m ≡ false
  unfolding one_if
  none-one i m z s = by (p m) (subst (λ (j : ℕ). one_if (p j) ≡ 0) s z)
    where
      by : (b : Bool) → one_if b ≡ 0 → b ≡ false
      by true e = absurd (omega (arith, e))
      by false e = refl

  -- ---- a count
  pub counted_none : (start : ℕ) → Counted p start start 0
  counted_none start = record { few = omega arith; none = λ z k a b. absurd (omega arith) }

  pub counted-more : (start i c d : ℕ) → Counted p start i c → d ≡ one_if (p i) → d ≤ 1 → Counted p start (i + 1) (c + d)
  counted-more start i c d h e l = record {
    few = omega (arith, h.few);
    none = λ z k a b. side k i (λ s. h.none (omega arith) k a s) (λ s. none-one i k (sym e ∙ omega arith) (omega arith));
  }

  pub counted-end : (start i end c : ℕ) → Counted p start i c → end ≤ i → i ≤ end → Counted p start end c
  counted-end start i end c h l m = subst (λ (j : ℕ). Counted p start j c) (le_antisymm m l) h

  -- ---- a pass
  pub skipped_start : (start n : ℕ) → start ≤ n → Skipped p start n start
  skipped_start start n l = record { low = le_refl start; high = l; none = λ k a b. absurd (omega arith) }

  pub skipped_join : (start n i j : ℕ) → Skipped p start n i → i ≤ j → j ≤ n → ((k : ℕ) → i ≤ k → k < j → p k ≡ false) → Skipped p start n j
  skipped_join start n i j h l m f = record { low = omega (arith, h.low); high = m; none = λ k a b. side k i (λ s. h.none k a s) (λ s. f k s b) }

  pub skipped_one : (start n i c : ℕ) → Skipped p start n i → i < n → c ≡ one_if (p i) → c ≡ 0 → Skipped p start n (i + 1)
  skipped_one start n i c h l e z = skipped_join start n i (i + 1) h (omega arith) (omega arith) (λ k a b. none-one i k (sym e ∙ z) (omega arith))

  -- those of which none is counted
  pub skipped_counted : (start n i w c : ℕ) → Skipped p start n i → w ≤ n - i → Counted p i (i + w) c → c ≡ 0 → Skipped p start n (i + w)
  skipped_counted start n i w c h l d z = skipped_join start n i (i + w) h (omega arith) (omega (arith, h.high)) (d.none z)

  -- a search goes on behind what it has passed
  pub skipped_on : (i n r : ℕ) → Seeking p i n → Skipped p i n r → Seeking p r n
  skipped_on i n r s h = le_ind (λ (j : ℕ). j ≤ r → Seeking p j n) (λ l. s) (λ j l f m. subst (λ (k : ℕ). Seeking p k n) (add-one j) (seek-more p j n false (f (omega arith)) (omega (arith, h.high)) (sym (h.none j l (omega arith))) refl)) r h.low (le_refl r)
