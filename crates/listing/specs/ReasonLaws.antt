-- The laws of any list of reasons, whatever the answer is made of: each reason is given exactly when its fault is there and no earlier one is.
use Rattle.std.specs.Prelude.{ℕ, zero, suc, ◌<◌, ◌≤◌, ◌≡◌, refl, List, [], ◌∷◌, ◌++◌, Bool, true, false, cond, not, ◌&&◌, ◌⊎◌, ◌↔◌, eqb, length, drop, get_or, Ok, Err}
use Rattle.std.proofs.Math.Path.{sym, ap}
use Rattle.std.proofs.Common.{◌∙◌, subst, inl, inr, ⊎_elim, le_of_suc-le-suc, eq-or-lt_of_le, not-suc-le-zero, le_antisymm, lt_of_not-le, arith, eqb-true}
use Rattle.std.proofs.lemmas.Bool.{false≢true, not-false}
use Rattle.std.proofs.Math.Bool.{and-eq-true_iff}
use Rattle.std.proofs.Math.Decide.{dec_le}
use Rattle.octets.specs.Search.{first, any}
use Rattle.octets.proofs.SearchLaws.{none-at}
use Rattle.listing.specs.Refusals.{Reason, Checked, number, refusal, decide_by, checked}
use Rattle.listing.specs.declared.Refusal.{Refusal}

-- reason k of a list is there, counted from 0
abbrev pub there_at : List Reason → ℕ → Bool
there_at [] k = false
there_at (x ∷ xs) zero = x.there
there_at (x ∷ xs) (suc k) = there_at xs k

-- its number, 0 past the last
abbrev pub number_at : List Reason → ℕ → ℕ
number_at [] k = 0
number_at (x ∷ xs) zero = number x.why
number_at (x ∷ xs) (suc k) = number_at xs k

-- the answer that it gives
abbrev pub answer_by : {A : Type 0} → (Refusal → A) → List Reason → ℕ → A → A
answer_by refuse [] k o = o
answer_by refuse (x ∷ xs) zero o = refuse (refusal x.why x.at_table x.at_row)
answer_by refuse (x ∷ xs) (suc k) o = answer_by refuse xs k o

-- none of the first k is there
pub record Passed (xs : List Reason) (k : ℕ) : Type 0 where
  pub none : (i : ℕ) → i < k → there_at xs i ≡ false

pub passed_none : (xs : List Reason) → Passed xs 0
passed_none xs = record { none = λ i l. absurd (not-suc-le-zero l) }

passed-more : (k : ℕ) (xs : List Reason) → Passed xs k → there_at xs k ≡ false → Passed xs (suc k)
passed-more k xs h e =
    record { none = λ i l. ⊎_elim (λ q. ap (there_at xs) q ∙ e) (λ m. h.none i m) (eq-or-lt_of_le (le_of_suc-le-suc l)) }

passed-tail : (x : Reason) (xs : List Reason) (k : ℕ) → Passed (x ∷ xs) (suc k) → Passed xs k
passed-tail x xs k h = record { none = λ i l. h.none (suc i) (omega arith) }

-- one more reason is passed; `search` takes no numeral for a successor, so each number stands by itself
pub past_1 : (xs : List Reason) → Passed xs 0 → there_at xs 0 ≡ false → Passed xs 1
past_1 = passed-more 0

pub past_2 : (xs : List Reason) → Passed xs 1 → there_at xs 1 ≡ false → Passed xs 2
past_2 = passed-more 1

pub past_3 : (xs : List Reason) → Passed xs 2 → there_at xs 2 ≡ false → Passed xs 3
past_3 = passed-more 2

pub past_4 : (xs : List Reason) → Passed xs 3 → there_at xs 3 ≡ false → Passed xs 4
past_4 = passed-more 3

pub past_5 : (xs : List Reason) → Passed xs 4 → there_at xs 4 ≡ false → Passed xs 5
past_5 = passed-more 4

pub past_6 : (xs : List Reason) → Passed xs 5 → there_at xs 5 ≡ false → Passed xs 6
past_6 = passed-more 5

pub ruleset pasts = (passed_none, past_1, past_2, past_3, past_4, past_5, past_6)

-- no reason is there
abbrev pub Free : List Reason → Type 0
Free xs = (i : ℕ) → there_at xs i ≡ false

-- reason k is the one that is given: it is there, and none before it
pub record Given (xs : List Reason) (k : ℕ) : Type 0 where
  pub passed : Passed xs k
  pub there : there_at xs k ≡ true

-- no two are
pub given-one : (xs : List Reason) (j k : ℕ) → Given xs j → Given xs k → j ≡ k
given-one xs j k g h = le_antisymm (before j k g h) (before k j h g)
  where
    before : (j k : ℕ) → Given xs j → Given xs k → j ≤ k
    before j k g h = elim (dec_le j k) [ yes l ↦ l | no l ↦ absurd (false≢true (sym (g.passed.none k (lt_of_not-le l)) ∙ h.there)) ]

-- a reason is given, or none is there
pub given_or_none : (xs : List Reason) → ((k : ℕ) × Given xs k) ⊎ Free xs
given_or_none [] = inr (λ i. refl)
given_or_none (x ∷ xs) = by x.there refl (given_or_none xs)
  where
    before : (k : ℕ) → x.there ≡ false → Passed xs k → (i : ℕ) → i < suc k → there_at (x ∷ xs) i ≡ false
    before k e h zero l = e
    before k e h (suc i) l = h.none i (le_of_suc-le-suc l)

    never : x.there ≡ false → Free xs → Free (x ∷ xs)
    never e f zero = e
    never e f (suc i) = f i

    by : (b : Bool) → x.there ≡ b → ((k : ℕ) × Given xs k) ⊎ Free xs → ((k : ℕ) × Given (x ∷ xs) k) ⊎ Free (x ∷ xs)
    by true e h = inl (0, record { passed = passed_none (x ∷ xs); there = e })
    by false e (inl g) = inl (suc g.0, record { passed = record { none = before g.0 e g.1.passed }; there = g.1.there })
    by false e (inr f) = inr (never e f)

-- two runs of reasons: none of both is there exactly where none of either is
pub free-left : (xs ys : List Reason) → Free (xs ++ ys) → Free xs
free-left [] ys f i = refl
free-left (x ∷ xs) ys f zero = f zero
free-left (x ∷ xs) ys f (suc i) = free-left xs ys (λ j. f (suc j)) i

pub free-right : (xs ys : List Reason) → Free (xs ++ ys) → Free ys
free-right [] ys f i = f i
free-right (x ∷ xs) ys f i = free-right xs ys (λ j. f (suc j)) i

pub free-both : (xs ys : List Reason) → Free xs → Free ys → Free (xs ++ ys)
free-both [] ys f g i = g i
free-both (x ∷ xs) ys f g zero = f zero
free-both (x ∷ xs) ys f g (suc i) = free-both xs ys (λ j. f (suc j)) g i

-- ---- the answer
-- of one kind, turned into another
pub decide-turned : {A B : Type 0} (refuse : Refusal → A) (turn : Refusal → B) (f : A → B) → ((e : Refusal) → f (refuse e) ≡ turn e)
    → (xs : List Reason) (o : A) → f (decide_by refuse xs o) ≡ decide_by turn xs (f o)
decide-turned refuse turn f h [] o = refl
decide-turned refuse turn f h (x ∷ xs) o = by x.there (decide-turned refuse turn f h xs o)
  where
    by : (b : Bool) → f (decide_by refuse xs o) ≡ decide_by turn xs (f o)
        → f (cond b (refuse (refusal x.why x.at_table x.at_row)) (decide_by refuse xs o)) ≡ cond b (turn (refusal x.why x.at_table x.at_row)) (decide_by turn xs (f o))
    by true e = h (refusal x.why x.at_table x.at_row)
    by false e = e

module _ {A : Type 0} (refuse : Refusal → A) where
  -- past reasons that are not there, the others decide
  pub decide-past : (xs : List Reason) (o : A) (k : ℕ) → Passed xs k → decide_by refuse xs o ≡ decide_by refuse (drop k xs) o
  decide-past xs o zero h = refl
  decide-past [] o (suc k) h = refl
  decide-past (x ∷ xs) o (suc k) h =
      let e : x.there ≡ false = h.none 0 (omega arith) in
      simp e (decide-past xs o k (passed-tail x xs k h))

  -- the first that is there gives the answer
  pub decide_stop : (xs : List Reason) (o : A) (k : ℕ) → Passed xs k → there_at xs k ≡ true → decide_by refuse xs o ≡ answer_by refuse xs k o
  decide_stop [] o k h e = refl
  decide_stop (x ∷ xs) o zero h e = simp e
  decide_stop (x ∷ xs) o (suc k) h e =
      let f : x.there ≡ false = h.none 0 (omega arith) in
      simp f (decide_stop xs o k (passed-tail x xs k h) e)

  pub decide-none : (xs : List Reason) (o : A) → Free xs → decide_by refuse xs o ≡ o
  decide-none [] o f = refl
  decide-none (x ∷ xs) o f = let e : x.there ≡ false = f 0 in simp e (decide-none xs o (λ i. f (suc i)))

  -- of two runs the first decides, and then the second
  pub decide-both : (xs ys : List Reason) (o : A) → decide_by refuse (xs ++ ys) o ≡ decide_by refuse xs (decide_by refuse ys o)
  decide-both [] ys o = refl
  decide-both (x ∷ xs) ys o = ap (cond x.there (refuse (refusal x.why x.at_table x.at_row))) (decide-both xs ys o)

  -- what a check of them has said
  told : A → Checked → A
  told o (Ok tt) = o
  told o (Err e) = refuse e

  pub decide_fault : (xs : List Reason) (o : A) (r : Refusal) → checked xs ≡ Err r → decide_by refuse xs o ≡ refuse r
  unfolding checked told
  decide_fault xs o r e = sym (decide-turned Err refuse (told o) (λ e. refl) xs (Ok tt)) ∙ ap (told o) e

  pub decide-clean : (xs : List Reason) (o : A) → checked xs ≡ Ok tt → decide_by refuse xs o ≡ o
  unfolding checked told
  decide-clean xs o e = sym (decide-turned Err refuse (told o) (λ e. refl) xs (Ok tt)) ∙ ap (told o) e

-- ---- its number
module _ {A : Type 0} (refuse : Refusal → A) (num : A → ℕ) (says : (e : Refusal) → num (refuse e) ≡ number e.why) where
  number_of : (xs : List Reason) (o : A) (k : ℕ) → there_at xs k ≡ true → num (answer_by refuse xs k o) ≡ number_at xs k
  number_of [] o k e = absurd (false≢true e)
  number_of (x ∷ xs) o zero e = says (refusal x.why x.at_table x.at_row)
  number_of (x ∷ xs) o (suc k) e = number_of xs o k e

  given-number : (xs : List Reason) (o : A) (k : ℕ) → Given xs k → num (decide_by refuse xs o) ≡ number_at xs k
  given-number xs o k g = ap num (decide_stop refuse xs o k g.passed g.there) ∙ number_of xs o k g.there

  -- a number is given exactly where a reason of that number is there and none before it
  pub number-exactly : (xs : List Reason) (o : A) (n : ℕ) → num o ≡ 0 → 0 < n → (num (decide_by refuse xs o) ≡ n) ↔ ((k : ℕ) × Given xs k × (number_at xs k ≡ n))
  number-exactly xs o n z l = (λ e. by e (given_or_none xs), λ g. given-number xs o g.0 g.1 ∙ g.2)
    where
      by : num (decide_by refuse xs o) ≡ n → ((j : ℕ) × Given xs j) ⊎ Free xs → (k : ℕ) × Given xs k × (number_at xs k ≡ n)
      by e (inl g) = (g.0, g.1, sym (given-number xs o g.0 g.1) ∙ e)
      by e (inr f) = absurd (omega (arith, e, ap num (decide-none refuse xs o f), z))

-- a reason that is there is one of the list
pub there-within : (xs : List Reason) (k : ℕ) → there_at xs k ≡ true → k < length xs
there-within [] k e = absurd (false≢true e)
there-within (x ∷ xs) zero e = omega arith
there-within (x ∷ xs) (suc k) e = omega (arith, there-within xs k e)

-- no two reasons have one number, and none has 0, which is no refusal's: `place` finds each by its number
pub record Apart (xs : List Reason) (place : ℕ → ℕ) : Type 0 where
  pub found : (k : ℕ) → k < length xs → place (number_at xs k) ≡ k
  pub other : place 0 ≡ length xs

-- where a number stands among some, or how many there are
unfoldable pub place_in : List ℕ → ℕ → ℕ
place_in ns n = first (λ i. eqb (get_or ns i 0) n) (length ns)

-- each stands at its own place alone, and 0 at none
unfoldable pub distinct : List ℕ → Bool
distinct ns = not (any (λ k. not (eqb (place_in ns (get_or ns k 0)) k)) (length ns)) && eqb (place_in ns 0) (length ns)

abbrev pub numbers_of : List Reason → List ℕ
numbers_of [] = []
numbers_of (x ∷ xs) = number x.why ∷ numbers_of xs

numbers-length : (xs : List Reason) → length (numbers_of xs) ≡ length xs
numbers-length [] = refl
numbers-length (x ∷ xs) = ap suc (numbers-length xs)

numbers-at : (xs : List Reason) (k : ℕ) → number_at xs k ≡ get_or (numbers_of xs) k 0
numbers-at [] k = refl
numbers-at (x ∷ xs) zero = refl
numbers-at (x ∷ xs) (suc k) = numbers-at xs k

-- that a list's numbers are so is worked out
pub apart_by : (xs : List Reason) → distinct (numbers_of xs) ≡ true → Apart xs (place_in (numbers_of xs))
unfolding distinct
apart_by xs e = record {
  found = λ k l. ap (place_in ns) (numbers-at xs k) ∙ eqb-true (place_in ns (get_or ns k 0)) k (not-false _ (none-at (λ k. not (eqb (place_in ns (get_or ns k 0)) k)) (length ns) (not-true _ both.0) k (omega (arith, l, numbers-length xs))));
  other = eqb-true (place_in ns 0) (length ns) both.1 ∙ numbers-length xs;
}
  where
    ns : List ℕ
    ns = numbers_of xs

    both : (not (any (λ k. not (eqb (place_in ns (get_or ns k 0)) k)) (length ns)) ≡ true) × (eqb (place_in ns 0) (length ns) ≡ true)
    both = (and-eq-true_iff (not (any (λ k. not (eqb (place_in ns (get_or ns k 0)) k)) (length ns))) (eqb (place_in ns 0) (length ns))).0 e

    not-true : (b : Bool) → not b ≡ true → b ≡ false
    not-true true h = absurd (false≢true h)
    not-true false h = refl

-- and then each of the reasons is given exactly when its fault is there and no earlier one is
pub given-exactly : {A : Type 0} (refuse : Refusal → A) (num : A → ℕ) (says : (e : Refusal) → num (refuse e) ≡ number e.why)
    (xs : List Reason) (place : ℕ → ℕ) (o : A) (k : ℕ) → Apart xs place → num o ≡ 0 → k < length xs → (num (decide_by refuse xs o) ≡ number_at xs k) ↔ Given xs k
given-exactly refuse num says xs place o k a z l = (λ e. here (exactly.0 e), λ g. exactly.1 (k, g, refl))
  where
    some : (n : ℕ) → number_at xs k ≡ n → 0 < n
    some zero e = absurd (omega (arith, ap place e, a.found k l, a.other))
    some (suc n) e = omega arith

    exactly : (num (decide_by refuse xs o) ≡ number_at xs k) ↔ ((j : ℕ) × Given xs j × (number_at xs j ≡ number_at xs k))
    exactly = number-exactly refuse num says xs o (number_at xs k) z (some (number_at xs k) refl)

    here : (j : ℕ) × Given xs j × (number_at xs j ≡ number_at xs k) → Given xs k
    here g =
        let q : g.0 ≡ k = sym (a.found g.0 (there-within xs g.0 g.1.there)) ∙ ap place g.2 ∙ a.found k l in
        subst (λ (i : ℕ). Given xs i) q g.1

-- and where no number is given, none of them is there
pub none-given : {A : Type 0} (refuse : Refusal → A) (num : A → ℕ) (says : (e : Refusal) → num (refuse e) ≡ number e.why)
    (xs : List Reason) (place : ℕ → ℕ) (o : A) → Apart xs place → num (decide_by refuse xs o) ≡ 0 → Free xs
none-given refuse num says xs place o a e = by (given_or_none xs)
  where
    by : ((k : ℕ) × Given xs k) ⊎ Free xs → Free xs
    by (inl g) =
        let l : g.0 < length xs = there-within xs g.0 g.1.there in
        let z : number_at xs g.0 ≡ 0 = sym (given-number refuse num says xs o g.0 g.1) ∙ e in
        absurd (omega (arith, l, ap place z, a.found g.0 l, a.other))
    by (inr f) = f

-- ---- whether it is a refusal
module _ {A : Type 0} (refuse : Refusal → A) (good : A → Bool) (says : (e : Refusal) → good (refuse e) ≡ false) where
  refuses : (xs : List Reason) (o : A) (k : ℕ) → there_at xs k ≡ true → good (answer_by refuse xs k o) ≡ false
  refuses [] o k e = absurd (false≢true e)
  refuses (x ∷ xs) o zero e = says (refusal x.why x.at_table x.at_row)
  refuses (x ∷ xs) o (suc k) e = refuses xs o k e

  -- it is none exactly where no reason is there
  pub good-exactly : (xs : List Reason) (o : A) → good o ≡ true → (good (decide_by refuse xs o) ≡ true) ↔ Free xs
  good-exactly xs o z = (λ e. by e (given_or_none xs), λ f. ap good (decide-none refuse xs o f) ∙ z)
    where
      by : good (decide_by refuse xs o) ≡ true → ((k : ℕ) × Given xs k) ⊎ Free xs → Free xs
      by e (inl g) = absurd (false≢true (sym (ap good (decide_stop refuse xs o g.0 g.1.passed g.1.there) ∙ refuses xs o g.0 g.1.there) ∙ e))
      by e (inr f) = f
