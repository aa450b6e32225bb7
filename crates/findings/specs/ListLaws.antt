-- Lists of findings: what holds of every one, those that have a code, and what is in order.
use Rattle.std.specs.Prelude.{ℕ, zero, suc, ◌<◌, ◌≡◌, refl, Bool, true, false, cond, List, [], ◌∷◌, ◌++◌, eqb}
use Rattle.std.proofs.Common.{sym, ◌∙◌, subst, append-nil, ⊎_elim, eq-or-lt_of_le, le_of_suc-le-suc, not-suc-le-zero, arith, eq-eqb, ne_eqb}
use Rattle.octets.specs.Gather.{gather}
use Rattle.findings.specs.Findings.{Finding, only, Every, Before, Ordered}

-- ---- what holds of every finding
module _ (P : Finding → Type 0) where
  pub every_append : (xs ys : List Finding) → Every P xs → Every P ys → Every P (xs ++ ys)
  every_append [] ys a b = b
  every_append (x ∷ xs) ys a b = (a.0, every_append xs ys a.1 b)

  pub every-left : (xs ys : List Finding) → Every P (xs ++ ys) → Every P xs
  every-left [] ys a = tt
  every-left (x ∷ xs) ys a = (a.0, every-left xs ys a.1)

  pub every-right : (xs ys : List Finding) → Every P (xs ++ ys) → Every P ys
  every-right [] ys a = a
  every-right (x ∷ xs) ys a = every-right xs ys a.1

  pub every-gather : (f : ℕ → List Finding) (n : ℕ) → ((k : ℕ) → k < n → Every P (f k)) → Every P (gather n f)
  every-gather f zero h = tt
  every-gather f (suc n) h = every_append (gather n f) (f n) (every-gather f n (λ k l. h k (omega arith))) (h n (omega arith))

  pub every-part : (f : ℕ → List Finding) (n k : ℕ) → k < n → Every P (gather n f) → Every P (f k)
  every-part f zero k l a = absurd (not-suc-le-zero l)
  every-part f (suc n) k l a =
      ⊎_elim (λ (q : k ≡ n). subst (λ (m : ℕ). Every P (f m)) (sym q) (every-right (gather n f) (f n) a))
      (λ (m : k < n). every-part f n k m (every-left (gather n f) (f n) a)) (eq-or-lt_of_le (le_of_suc-le-suc l))

module _ (P Q : Finding → Type 0) (h : (f : Finding) → P f → Q f) where
  pub every_map : (fs : List Finding) → Every P fs → Every Q fs
  every_map [] a = tt
  every_map (f ∷ fs) a = (h f a.0, every_map fs a.1)

-- ---- those that have a code
cond-append : (b : Bool) (f : Finding) (xs ys : List Finding) → cond b (f ∷ (xs ++ ys)) (xs ++ ys) ≡ cond b (f ∷ xs) xs ++ ys
cond-append true f xs ys = refl
cond-append false f xs ys = refl

pub only-append : (c : ℕ) (xs ys : List Finding) → only c (xs ++ ys) ≡ only c xs ++ only c ys
only-append c [] ys = refl
only-append c (f ∷ xs) ys = rw (only-append c xs ys) (cond-append (eqb f.code c) f (only c xs) (only c ys))

pub only-all : (c : ℕ) (fs : List Finding) → Every (λ f. f.code ≡ c) fs → only c fs ≡ fs
only-all c [] a = refl
only-all c (f ∷ fs) a = rw (eq-eqb f.code c a.0, only-all c fs a.1)

pub only_none : (c : ℕ) (fs : List Finding) → Every (λ f. f.code ≡ c → ⊥) fs → only c fs ≡ []
only_none c [] a = refl
only_none c (f ∷ fs) a = rw (ne_eqb f.code c a.0) (only_none c fs a.1)

-- of lists that are gathered, where one alone has the code
module _ (c : ℕ) (f : ℕ → List Finding) where
  all_none : (n : ℕ) → ((k : ℕ) → k < n → only c (f k) ≡ []) → only c (gather n f) ≡ []
  all_none zero h = refl
  all_none (suc n) h = only-append c (gather n f) (f n) ∙ rw (all_none n (λ k l. h k (omega arith)), h n (omega arith))

  pub only_one : (j n : ℕ) → ((k : ℕ) → k < n → (k ≡ j → ⊥) → only c (f k) ≡ []) → only c (f j) ≡ f j → j < n → only c (gather n f) ≡ f j
  only_one j zero h e l = absurd (not-suc-le-zero l)
  only_one j (suc n) h e l =
      only-append c (gather n f) (f n)
      ∙ ⊎_elim
      (λ (q : j ≡ n). rw (all_none n (λ k m. h k (omega arith) (λ z. omega arith)), ← q) e)
      (λ (m : j < n). rw (only_one j n (λ k i. h k (omega arith)) e m, h n (omega arith) (λ z. omega arith)) (append-nil (f j)))
      (eq-or-lt_of_le (le_of_suc-le-suc l))

-- ---- a list after another, each of whose findings is before all of it
pub ordered-append : (xs ys : List Finding) → Ordered xs → Ordered ys → Every (λ x. Every (Before x) ys) xs → Ordered (xs ++ ys)
ordered-append [] ys a b h = b
ordered-append (x ∷ xs) ys a b h = (every_append (Before x) xs ys a.0 h.0, ordered-append xs ys a.1 b h.1)
