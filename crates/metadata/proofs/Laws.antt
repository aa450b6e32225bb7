-- The cases of the definitions, in the shape in which goals ask for them.
use Rattle.std.specs.Prelude.{Option, None, Some, Ok, Err, IsErrAnd}
use Rattle.std.specs.Bool.{then_some}
use Rattle.std.specs.List.{list_any}
use Rattle.std.specs.Option.{is_some}
use Rattle.std.proofs.lemmas.Bool.{false≢true}
use Rattle.std.proofs.Common.{leb}
use Rattle.std.proofs.lemmas.Bool.Decides.{nat_tests}
use Rattle.std.proofs.Math.Bool.{beq}
use Prim.Native.Nat.{ℕ, zero, suc, ◌/◌}
use mathlib.Core.Path.{◌≡◌, refl, sym, ap, ◌∙◌}
use mathlib.Core.Bool.{Bool, true, false, cond, not, ◌||◌}
use mathlib.Core.List.{List, [], ◌∷◌}
use native.Mathlib.Omega.{arith}
use borrow.Author.Tests.{ne_eqb, lt-ltb, le-ltb, ltb-true}
use lib.Dec.{ltb}
use lib.ListN.{length}
use Rattle.octets.specs.Search.{first, any}
use Rattle.octets.specs.Octets.{part}
use Rattle.octets.specs.Numbers.{signed}
use Rattle.octets.specs.Slices.{nth}
use Rattle.octets.specs.Texts.{reads, There, Null}
use Rattle.octets.specs.Texts.{Text}
use Rattle.listing.specs.Refusals.{Reason, Checked, Outcome, checked, outcome, outcome_with}
use Rattle.listing.specs.declared.Layout.{Layout}
use Rattle.listing.specs.declared.Refusal.{Refusal}
use Rattle.listing.proofs.FurtherLaws.{answer-refused, answer_fault}
use Rattle.listing.proofs.Outcomes.{handed}
use Rattle.pack.specs.Tables.{contents_of}
use Rattle.rules.specs.Judgments.{none, unless_some, Judgment}
use Rattle.rules.specs.JudgmentLaws.{searched}
use Rattle.rules.specs.Contents.{content_named}
use Rattle.index.specs.declared.Kind.TheVariants.{ContentName}
use Rattle.index.specs.Keys.{Indexes}
use Rattle.metadata.specs.Rows.{Notebook, rows_of}
use Rattle.metadata.specs.Rules.{is_null, wrongly, in_contents}
use Rattle.metadata.specs.Prepared.{Prepared}

-- a case that a test has picked: r is what the test answered
module _ {A : Type 0} (b r : Bool) (x y : A) (e : r ≡ b) where
  pub when_yes : r ≡ true → x ≡ cond b x y
  when_yes f = simp (← e, f)

  pub when_no : (z : A) → r ≡ false → z ≡ y → z ≡ cond b x y
  when_no z f g = simp (← e, f) g

-- rows of a table that is neither
pub rows_other : (p : Notebook) (t : ℕ) → (t ≡ 11 → ⊥) → (t ≡ 12 → ⊥) → 0 ≡ rows_of p t
unfolding rows_of
rows_other p t a b = simp (ne_eqb t 11 a, ne_eqb t 12 b)

-- ---- Table 21: some item of a list passes a test
or_assoc : (a b c : Bool) → ((a || b) || c) ≡ (a || (b || c))
or_assoc true b c = refl
or_assoc false b c = refl

-- one more number is asked of last
any-more : (p : ℕ → Bool) (n : ℕ) → any p (suc n) ≡ (any p n || p n)
unfolding any first
any-more p n = by (ltb (first p n) n) refl (p n) refl
  where
    by : (a : Bool) → ltb (first p n) n ≡ a → (b : Bool) → p n ≡ b → ltb (cond (ltb (first p n) n) (first p n) (cond (p n) n (suc n))) (suc n) ≡ (ltb (first p n) n || p n)
    by true e b f = simp e (lt-ltb (first p n) (suc n) (omega (arith, ltb-true (first p n) n e)))
    by false e true f = simp (e, f) (lt-ltb n (suc n) (omega arith))
    by false e false f = simp (e, f) (le-ltb (suc n) (suc n) (omega arith))

any-one : (p : ℕ → Bool) → any p 1 ≡ (p zero || any (λ k. p (suc k)) zero)
unfolding any first
any-one p = by (p zero)
  where
    by : (b : Bool) → ltb (cond b zero 1) 1 ≡ (b || false)
    by true = refl
    by false = refl

-- or first
any-less : (p : ℕ → Bool) (n : ℕ) → any p (suc n) ≡ (p zero || any (λ k. p (suc k)) n)
any-less p zero = any-one p
any-less p (suc n) = any-more p (suc n) ∙ (ap (λ (b : Bool). b || p (suc n)) (any-less p n) ∙ (or_assoc (p zero) (any (λ k. p (suc k)) n) (p (suc n)) ∙ ap (λ (b : Bool). p zero || b) (sym (any-more (λ k. p (suc k)) n))))

pub any_listed : (test : List ℕ → Bool) (xs : List (List ℕ)) → list_any test xs ≡ any (λ k. test (nth xs k)) (length xs)
unfolding nth any first
any_listed test [] = refl
any_listed test (x ∷ xs) = ap (λ (b : Bool). test x || b) (any_listed test xs) ∙ sym (any-less (λ k. test (nth (x ∷ xs) k)) (length xs))

-- ---- NULL: what is asked of an option, and of what it means
pub some_read : (names : List ℕ) (t : Text) → is_some t ≡ not (is_null (reads names t))
some_read names (Some x) = refl
some_read names None = refl

-- a number that is absent where b holds
pub some_number : (b : Bool) (x : ℕ) (t : Option ℕ) → t ≡ cond b None (Some x) → is_some t ≡ not (is_null (cond b Null (There (signed x))))
some_number true x t e = ap is_some e
some_number false x t e = ap is_some e

not_alike : (a b : Bool) → not a ≡ not b → a ≡ b
not_alike true true e = refl
not_alike true false e = absurd (false≢true e)
not_alike false true e = absurd (false≢true (sym e))
not_alike false false e = refl

differ-wrongly : (shall null : Bool) → not (beq shall null) ≡ wrongly shall null
differ-wrongly true true = refl
differ-wrongly true false = refl
differ-wrongly false true = refl
differ-wrongly false false = refl

-- s is whether it is there, none whether it is not
pub wrong_null : (shall none null s : Bool) → s ≡ not none → s ≡ not null → not (beq shall none) ≡ wrongly shall null
wrong_null shall none null s e f = differ-wrongly shall none ∙ ap (wrongly shall) (not_alike none null (sym e ∙ f))

-- ---- a number and its flag
pub unless_flag : (b : Bool) (x : ℕ) → then_some (not b) x ≡ cond b None (Some x)
unless_flag true x = refl
unless_flag false x = refl

pub from_two : (f x : ℕ) → then_some (leb 2 f) x ≡ cond (ltb f 2) None (Some x)
from_two f x = grind (arith, nat_tests)

-- ---- a tile listing and its sibling: what was said of either and handed on
module _ (s : List ℕ) (ys : List Reason) (o r : Outcome) (e : o ≡ outcome s) where
  pub refused_on : (x : Refusal) → o ≡ Err x → IsErrAnd r (λ y. y ≡ x) → r ≡ outcome_with s ys
  refused_on x f h = answer-refused s ys o r e x f (handed x r h)

  pub fault_on : (l : Layout) → o ≡ Ok l → (c : Checked) → c ≡ checked ys → (x : Refusal) → c ≡ Err x → IsErrAnd r (λ y. y ≡ x) → r ≡ outcome_with s ys
  fault_on l f c g x q h = answer_fault s ys o r e l f c g x q (handed x r h)

-- ---- 975
-- what a search for the name among the contents has answered
module _ (ct names others : List ℕ) (t : Text) (start len r : ℕ) (x : List ℕ) (v : Judgment) where
  pub named_by : t ≡ Some (record { start = start; len = len }) → x ≡ part others start len → r ≡ first (λ k. content_named x ((contents_of ct names).row k)) (length ct / 40)
      → v ≡ cond (ltb r (length ct / 40)) None (Some none) → v ≡ in_contents (contents_of ct names) (reads others t)
  named_by e f g h = searched (λ k. content_named x ((contents_of ct names).row k)) (length ct / 40) r v None (Some none) g h ∙ ap (λ (y : List ℕ). unless_some (content_named y) (contents_of ct names)) f ∙ ap (λ (u : Text). in_contents (contents_of ct names) (reads others u)) (sym e)

-- the index is of the tables that were cut
pub index_cut : (ts : List (List ℕ)) (w ct names : List ℕ) (heads : ℕ) → ct ≡ nth ts 0 → names ≡ nth ts 1 → Prepared ts w heads → Indexes ContentName ct names w heads (length ct / 40)
unfolding Prepared
index_cut ts w ct names heads e f h = rw (e, f) h

pub cut_index : (ts : List (List ℕ)) (w ct names : List ℕ) (heads : ℕ) → ct ≡ nth ts 0 → names ≡ nth ts 1 → Indexes ContentName ct names w heads (length ct / 40) → Prepared ts w heads
unfolding Prepared
cut_index ts w ct names heads e f h = rw (← e, ← f) h
