-- What `is_extension_name` says, for a reader who does not want to trust its search: it holds exactly of the texts that split as rule 621 says.
use Rattle.std.specs.Prelude.{ℕ, ◌+◌, ◌<◌, ◌≡◌, List, Bool, ltb, length, get_or}
use Rattle.std.proofs.Math.Path.{refl, ap}
use Rattle.std.proofs.Common.{sym, ◌∙◌, arith}
use Rattle.std.proofs.Math.Bool.{true, false, not, and-eq-true_iff, or-true}
use Rattle.std.proofs.lemmas.Bool.{false≢true}
use Rattle.std.proofs.Math.Nat.{le_antisymm}
use borrow.Author.Tests.{lt-ltb, ltb-true, ltb-false, eq-eqb, eqb-true, not-true, not-false}
use Rattle.octets.specs.Search.{first, any}
use Rattle.octets.proofs.SearchLaws.{first-lowest, seek_hit, any_some, any_none}
use Rattle.spelling.specs.Characters.{between}
use Rattle.spelling.specs.ExtensionNames.{alphanumeric, underscore, name_octet, underscore_at, strange_at, first_underscore, inside, is_extension_name}

-- "one or more of a-z A-Z 0-9, an underscore, then one or more of those or underscores", with the underscore at k
pub record Split (s : List ℕ) (k : ℕ) : Type 0 where
  pub some : 0 < k
  pub before : (i : ℕ) → i < k → alphanumeric (get_or s i 0) ≡ true
  pub here : get_or s k 0 ≡ 95
  pub more : k + 1 < length s
  pub after : (i : ℕ) → k < i → i < length s → name_octet (get_or s i 0) ≡ true

-- an octet of a name that is no underscore is a letter or a digit, and the other way
module _ (c : ℕ) where
  letter : name_octet c ≡ true → underscore c ≡ false → alphanumeric c ≡ true
  unfolding name_octet
  letter e f = simp f at e

  letter-octet : alphanumeric c ≡ true → name_octet c ≡ true
  unfolding name_octet
  letter-octet e = simp (e, or-true)

  underscore-octet : c ≡ 95 → name_octet c ≡ true
  unfolding name_octet
  underscore-octet e = simp (eq-eqb c 95 e)

  no_underscore : alphanumeric c ≡ true → underscore c ≡ false
  unfolding alphanumeric between
  no_underscore e = by (underscore c) refl
    where
      by : (a : Bool) → underscore c ≡ a → a ≡ false
      by false f = refl
      by true f = absurd (false≢true (rw (eqb-true c 95 f) at e))

-- a test that holds nowhere below n
module _ (p : ℕ → Bool) (n : ℕ) where
  none-at : any p n ≡ false → (i : ℕ) → i < n → p i ≡ false
  none-at e i l = by (p i) refl
    where
      by : (a : Bool) → p i ≡ a → a ≡ false
      by false f = refl
      by true f = sym (any_some p n i l f) ∙ e

  none_first : ((i : ℕ) → i < n → p i ≡ false) → first p n ≡ n
  unfolding any
  none_first f = le_antisymm (first-lowest p n).most (ltb-false (first p n) n (any_none p n f))

module _ (s : List ℕ) (e : is_extension_name s ≡ true) where
  tests : (inside (first_underscore s) (length s) ≡ true) × (not (any (strange_at s) (length s)) ≡ true)
  unfolding is_extension_name
  tests = (and-eq-true_iff (inside (first_underscore s) (length s)) (not (any (strange_at s) (length s)))).0 e

  sides : (0 < first_underscore s) × (first_underscore s + 1 < length s)
  unfolding inside
  sides =
      let t = (and-eq-true_iff (ltb 0 (first_underscore s)) (ltb (first_underscore s + 1) (length s))).0 tests.0 in
      (ltb-true _ _ t.0, ltb-true _ _ t.1)

  octet-at : (i : ℕ) → i < length s → name_octet (get_or s i 0) ≡ true
  unfolding strange_at
  octet-at i l = not-false _ (none-at (strange_at s) (length s) (not-true _ tests.1) i l)

  -- a name splits at its first underscore
  pub name_splits : Split s (first_underscore s)
  unfolding underscore_at
  name_splits =
      let low = first-lowest (underscore_at s) (length s) in
      record {
        some = sides.0;
        before = λ i l. letter (get_or s i 0) (octet-at i (omega (arith, sides.1))) (low.below i l);
        here = eqb-true _ _ (low.here (omega (arith, sides.1)));
        more = sides.1;
        after = λ i _ l. octet-at i l;
      }

module _ (s : List ℕ) (k : ℕ) (h : Split s k) where
  is-first : k ≡ first_underscore s
  unfolding underscore_at
  is-first =
      seek_hit (underscore_at s) k (length s) (length s) true
      (record { within = omega (arith, h.more); none = none_first (underscore_at s) k (λ i l. no_underscore (get_or s i 0) (h.before i l)) })
      (omega (arith, h.more)) (sym (eq-eqb _ _ h.here)) refl refl

  octet-of : (i : ℕ) → i < length s → name_octet (get_or s i 0) ≡ true
  octet-of i l = by (ltb i k) (ltb k i) refl refl
    where
      by : (a b : Bool) → ltb i k ≡ a → ltb k i ≡ b → name_octet (get_or s i 0) ≡ true
      by true b e f = letter-octet (get_or s i 0) (h.before i (ltb-true i k e))
      by false true e f = h.after i (ltb-true k i f) l
      by false false e f =
          let q : i ≡ k = le_antisymm (ltb-false k i f) (ltb-false i k e) in
          underscore-octet (get_or s i 0) (ap (λ (j : ℕ). get_or s j 0) q ∙ h.here)

  -- and what splits so is a name
  pub split_name : is_extension_name s ≡ true
  unfolding is_extension_name inside strange_at
  split_name =
      simp
      (← is-first, lt-ltb 0 k h.some, lt-ltb (k + 1) (length s) h.more, any_none (strange_at s) (length s) (λ i l. ap not (octet-of i l)))
