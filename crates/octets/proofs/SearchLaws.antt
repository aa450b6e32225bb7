-- What a search finds: the theorems that rest on the order in which `first` asks (specs/Search.antt).
use Prim.Native.Nat.{ℕ, zero, suc, ◌≤◌, ◌<◌, zero-le}
use Rattle.std.specs.Prelude.{◌≡◌, Bool, cond, ◌||◌}
use Rattle.std.proofs.Math.Path.{refl, subst}
use Rattle.std.proofs.Common.{sym, ap, ◌∙◌, ⊎_elim, le_refl, le_of_suc-le-suc, eq-or-lt_of_le, not-suc-le-zero, arith, rules}
use Rattle.std.proofs.Math.Bool.{true, false}
use Rattle.std.proofs.lemmas.Bool.{false≢true, cases_order}
use Rattle.std.proofs.Math.Nat.{not-suc-le_self}
use borrow.Author.Tests.{lt-ltb, le-ltb, ltb-true, ltb-false}
use Rattle.std.proofs.Math.Dec.{ltb}
use Rattle.octets.specs.Search.{first, any, Sought, SoughtAny}
use Rattle.octets.specs.SearchLaws.{Seeking, Lowest, seek-start, seek-more, seek-end, any-end}

module _ (p : ℕ → Bool) where
  at-end : (n : ℕ) → first p n ≡ n → p n ≡ true → first p (suc n) ≡ n
  unfolding first
  at-end n h e = simp (h, e, le-ltb n n (le_refl n))

  before : (i n : ℕ) → i < n → first p n ≡ i → first p (suc n) ≡ i
  unfolding first
  before i n k h = simp (h, lt-ltb i n k)

  hit : (i n : ℕ) → i < n → first p i ≡ i → p i ≡ true → first p n ≡ i
  hit i zero l h e = absurd (not-suc-le-zero l)
  hit i (suc n) l h e =
      ⊎_elim (λ q. at-end n (subst (λ (m : ℕ). first p m ≡ m) q h) (subst (λ (m : ℕ). p m ≡ true) q e) ∙ sym q)
      (λ k. before i n k (hit i n k h e)) (eq-or-lt_of_le (le_of_suc-le-suc l))

  -- has found i, where the test holds (n is the code's own bound, m the definition's)
  pub seek_hit : (i n m : ℕ) (b : Bool) → Seeking p i n → i < n → b ≡ p i → b ≡ true → n ≡ m → i ≡ first p m
  seek_hit i n m b k l e f q = subst (λ (m : ℕ). i ≡ first p m) q (sym (hit i n l k.none (sym e ∙ f)))

  -- the same for a search whose answer is whether there is one
  pub any-hit : (i n m : ℕ) (b : Bool) → Seeking p i n → i < n → b ≡ p i → b ≡ true → n ≡ m → true ≡ any p m
  unfolding any
  any-hit i n m b k l e f q =
      subst (λ (m : ℕ). true ≡ ltb (first p m) m) q (sym (simp (hit i n l k.none (sym e ∙ f), lt-ltb i n l)))

pub ruleset seeks = (seek-start, seek-more, seek_hit, seek-end, any-hit, any-end, rules)

module _ (p : ℕ → Bool) where
  next : (n r : ℕ) (b c : Bool) → Lowest p n r → ltb r n ≡ b → p n ≡ c → Lowest p (suc n) (cond b r (cond c n (suc n)))
  next n r true c h e f = record { most = omega (arith, h.most); below = h.below; here = λ _. h.here (ltb-true r n e) }
  next n r false true h e f = record { most = omega arith; below = λ k l. h.below k (omega (arith, ltb-false r n e)); here = λ _. f }
  next n r false false h e f =
      record {
        most = le_refl (suc n);
        below = λ k l. ⊎_elim (λ q. subst (λ (m : ℕ). p m ≡ false) (sym q) f) (λ m. h.below k (omega (arith, ltb-false r n e))) (eq-or-lt_of_le (le_of_suc-le-suc l));
        here = λ l. absurd (not-suc-le_self (suc n) l);
      }

  pub first-lowest : (n : ℕ) → Lowest p n (first p n)
  unfolding first
  first-lowest zero = record { most = zero-le; below = λ k l. absurd (not-suc-le-zero l); here = λ l. absurd (not-suc-le-zero l) }
  first-lowest (suc n) = next n (first p n) (ltb (first p n) n) (p n) (first-lowest n) refl refl

  -- a test that holds somewhere below n, and one that holds nowhere
  pub any_some : (n i : ℕ) → i < n → p i ≡ true → any p n ≡ true
  unfolding any
  any_some n i l e = by (ltb (first p n) n) refl
    where
      by : (b : Bool) → ltb (first p n) n ≡ b → b ≡ true
      by true h = refl
      by false h = absurd (false≢true (sym ((first-lowest n).below i (omega (arith, ltb-false (first p n) n h))) ∙ e))

  -- a test that holds nowhere holds at none of them
  pub none-at : (n : ℕ) → any p n ≡ false → (i : ℕ) → i < n → p i ≡ false
  unfolding any
  none-at n e i l = (first-lowest n).below i (omega (arith, ltb-false (first p n) n e))

  pub any_none : (n : ℕ) → ((i : ℕ) → i < n → p i ≡ false) → any p n ≡ false
  unfolding any
  any_none n f = by (ltb (first p n) n) refl
    where
      by : (b : Bool) → ltb (first p n) n ≡ b → b ≡ false
      by true h = let l = ltb-true (first p n) n h in absurd (false≢true (sym (f (first p n) l) ∙ (first-lowest n).here l))
      by false h = refl

-- a search for one of two finds something where one of them does
module _ (p q : ℕ → Bool) (n : ℕ) where
  some : (r : ℕ → Bool) → any r n ≡ true → (first r n < n) × (r (first r n) ≡ true)
  unfolding any
  some r e = let l : first r n < n = ltb-true (first r n) n e in (l, (first-lowest r n).here l)

  pub any-or : any (λ i. p i || q i) n ≡ (any p n || any q n)
  any-or = by (any p n) (any q n) refl refl
    where
      right : (a : Bool) → (a || true) ≡ true
      right true = refl
      right false = refl

      by : (a b : Bool) → any p n ≡ a → any q n ≡ b → any (λ i. p i || q i) n ≡ (a || b)
      by true b e f = let s = some p e in any_some (λ i. p i || q i) n (first p n) s.0 (simp s.1)
      by false true e f = let s = some q f in any_some (λ i. p i || q i) n (first q n) s.0 (ap (λ (x : Bool). p (first q n) || x) s.1 ∙ right (p (first q n)))
      by false false e f = any_none (λ i. p i || q i) n (λ i l. let u : p i ≡ false = none-at p n e i l in let v : q i ≡ false = none-at q n f i l in simp (u, v))

-- ---- a search by a test of the code, which says of each number what the definition does
module _ (p : ℕ → Bool) (says : ℕ → Bool → Type 0) (start n : ℕ)
    (none : first p start ≡ start) (agrees : (k : ℕ) (b : Bool) → start ≤ k → k < n → says k b → b ≡ p k) where
  not_above : (r : ℕ) → Sought says start n r → first p n < r → ⊥
  not_above r s l =
      let found : p (first p n) ≡ true = (first-lowest p n).here (omega (arith, s.most)) in
      let passed : start ≤ first p n → ⊥ = λ h. false≢true (agrees (first p n) false h (omega (arith, s.most)) (s.below (first p n) h l) ∙ found) in
      let early : first p n < start → ⊥ = λ h. false≢true (sym ((first-lowest p start).below (first p n) (omega (arith, none))) ∙ found) in
      ⊎_elim (λ q. passed (omega arith)) (λ h. ⊎_elim (λ l. passed (omega arith)) early h) (cases_order start (first p n))

  not_below : (r : ℕ) → Sought says start n r → r < first p n → ⊥
  not_below r s l =
      let inside : r < n = omega (arith, (first-lowest p n).most) in
      false≢true (sym ((first-lowest p n).below r l) ∙ sym (agrees r true (s.from inside) inside (s.here inside)))

  pub first_by : (r : ℕ) → Sought says start n r → r ≡ first p n
  first_by r s = ⊎_elim (λ q. q) (λ h. ⊎_elim (λ l. absurd (not_below r s l)) (λ l. absurd (not_above r s l)) h) (cases_order r (first p n))

  pub any_by : (b : Bool) → SoughtAny says start n b → b ≡ any p n
  unfolding any
  any_by b s = s.found ∙ ap (λ (r : ℕ). ltb r n) (first_by s.lowest s.sought)
