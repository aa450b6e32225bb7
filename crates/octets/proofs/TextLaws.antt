-- The laws of texts: what `same` says, and the cases in which the code answers at once.
use Rattle.std.specs.Prelude.{ℕ, ◌≤◌, List, Bool, true, false, not, ◌&&◌, ◌≡◌, refl, eqb, length, get_or}
use Rattle.std.proofs.Common.{sym, ap, ◌∙◌, subst, lt_of_lt_of_le, eq-eqb, eqb-true, ltb-false, ext_get_or}
use Rattle.std.proofs.lemmas.Bool.{false≢true, not-true, not-false}
use Rattle.octets.specs.Octets.{le64}
use Rattle.octets.specs.Search.{any}
use Rattle.octets.specs.Texts.{differ, same, spell}
use Rattle.octets.specs.TextLaws.{Alike}
use Rattle.octets.specs.declared.Name.{Name}
use Rattle.octets.proofs.SearchLaws.{any_none, first-lowest}

-- lists that `same` finds the same are equal
pub same_equal : (xs ys : List ℕ) → same xs ys ≡ true → xs ≡ ys
unfolding same any
same_equal xs ys e =
    ext_get_or 0 xs ys (eqb-true _ _ (left long none e))
    (λ i l. eqb-true _ _ (not-false _ ((first-lowest (differ xs ys) (length xs)).below i (lt_of_lt_of_le l (ltb-false _ _ (not-true _ (right long none e)))))))
  where
    long : Bool
    long = eqb (length xs) (length ys)

    none : Bool
    none = not (any (differ xs ys) (length xs))

    left : (a b : Bool) → (a && b) ≡ true → a ≡ true
    left true b e = refl
    left false b e = e

    right : (a b : Bool) → (a && b) ≡ true → b ≡ true
    right true b e = e
    right false b e = absurd (false≢true e)

-- and a list is the same as itself
pub same_refl : (xs : List ℕ) → true ≡ same xs xs
unfolding same
same_refl xs =
    simp (eq-eqb (length xs) (length xs) refl, any_none (differ xs xs) (length xs) (λ i l. simp (eq-eqb (get_or xs i 0) (get_or xs i 0) refl)))

pub equal_same : (xs ys : List ℕ) → xs ≡ ys → true ≡ same xs ys
equal_same xs ys e = subst (λ (zs : List ℕ). true ≡ same xs zs) e (same_refl xs)

-- which is which does not matter
pub same_sym : (xs ys : List ℕ) → same xs ys ≡ same ys xs
same_sym xs ys = by (same xs ys) (same ys xs) refl refl
  where
    by : (a b : Bool) → same xs ys ≡ a → same ys xs ≡ b → a ≡ b
    by true true e f = refl
    by true false e f = equal_same ys xs (sym (same_equal xs ys e)) ∙ f
    by false true e f = sym (equal_same xs ys (sym (same_equal ys xs f)) ∙ e)
    by false false e f = refl

-- one place has one text
pub same_place : (ns : List ℕ) (a b : Name) → a.start ≡ b.start → a.len ≡ b.len → true ≡ same (spell ns a) (spell ns b)
same_place ns a b e f = simp (← e, ← f) (same_refl (spell ns a))

-- the search for a difference, as the code makes it
module _ (xs ys : List ℕ) where
  -- texts of which anything is different are not the same
  unlike : {A : Type 0} (f : List ℕ → A) → (f xs ≡ f ys → ⊥) → false ≡ same xs ys
  unlike f h = by (same xs ys) refl
    where
      by : (b : Bool) → same xs ys ≡ b → false ≡ b
      by true e = absurd (h (ap f (same_equal xs ys e)))
      by false e = refl

  pub unlike-length : (length xs ≡ length ys → ⊥) → false ≡ same xs ys
  unlike-length h = unlike length h

  pub unlike-octet : (i : ℕ) → Alike xs ys i → (get_or xs i 0 ≡ get_or ys i 0 → ⊥) → false ≡ same xs ys
  unlike-octet i a h = unlike (λ zs. get_or zs i 0) h

  pub unlike_eight : (i x y : ℕ) → x ≡ le64 xs i → y ≡ le64 ys i → (x ≡ y → ⊥) → false ≡ same xs ys
  unlike_eight i x y e f h = unlike (λ zs. le64 zs i) (λ q. h (e ∙ q ∙ sym f))

  pub alike_end : (i : ℕ) → Alike xs ys i → length xs ≤ i → true ≡ same xs ys
  alike_end i a l = equal_same xs ys (ext_get_or 0 xs ys a.long (λ k m. a.below k (lt_of_lt_of_le m l)))
