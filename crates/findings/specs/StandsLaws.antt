-- What stands in a list of findings: in its parts, among those with a code, and in order.
use Rattle.std.specs.Prelude.{ℕ, zero, suc, ◌<◌, ◌≤◌, ◌≡◌, refl, Bool, true, false, cond, List, [], ◌∷◌, ◌++◌, ◌⊎◌, ◌↔◌, eqb}
use Rattle.std.proofs.Common.{sym, ap, ◌∙◌, subst, inl, inr, ⊎_elim, le_refl, eq-or-lt_of_le, le_of_suc-le-suc, not-suc-le-zero, arith, eqb-true}
use Rattle.std.proofs.lemmas.Bool.{eqb-false}
use Rattle.octets.specs.Gather.{gather}
use Rattle.findings.specs.Findings.{Finding, only, Every, Before, Ordered}
use Rattle.findings.specs.Demands.{Stands, Once}

module _ (f : Finding) where
  pub stands_left : (xs ys : List Finding) → Stands f xs → Stands f (xs ++ ys)
  stands_left [] ys h = elim h [ ]
  stands_left (x ∷ xs) ys (inl e) = inl e
  stands_left (x ∷ xs) ys (inr h) = inr (stands_left xs ys h)

  pub stands_right : (xs ys : List Finding) → Stands f ys → Stands f (xs ++ ys)
  stands_right [] ys h = h
  stands_right (x ∷ xs) ys h = inr (stands_right xs ys h)

  pub stands_either : (xs ys : List Finding) → Stands f (xs ++ ys) → Stands f xs ⊎ Stands f ys
  stands_either [] ys h = inr h
  stands_either (x ∷ xs) ys (inl e) = inl (inl e)
  stands_either (x ∷ xs) ys (inr h) = ⊎_elim (λ (l : Stands f xs). inl (inr l)) (λ (r : Stands f ys). inr r) (stands_either xs ys h)

  pub stands_gathered : (g : ℕ → List Finding) (n k : ℕ) → k < n → Stands f (g k) → Stands f (gather n g)
  stands_gathered g zero k l h = absurd (not-suc-le-zero l)
  stands_gathered g (suc n) k l h =
      ⊎_elim (λ (q : k ≡ n). stands_right (gather n g) (g n) (subst (λ (m : ℕ). Stands f (g m)) q h))
      (λ (m : k < n). stands_left (gather n g) (g n) (stands_gathered g n k m h)) (eq-or-lt_of_le (le_of_suc-le-suc l))

  pub stands_some : (g : ℕ → List Finding) (n : ℕ) → Stands f (gather n g) → (k : ℕ) × (k < n) × Stands f (g k)
  stands_some g zero h = elim h [ ]
  stands_some g (suc n) h =
      ⊎_elim (λ (l : Stands f (gather n g)). let q = stands_some g n l in (q.0, omega (arith, q.1), q.2)) (λ (r : Stands f (g n)). (n, omega arith, r)) (stands_either (gather n g) (g n) h)

-- what holds of every finding of a list holds of each that stands in it
pub every_stands : (P : Finding → Type 0) (fs : List Finding) → Every P fs ↔ ((f : Finding) → Stands f fs → P f)
every_stands P fs = (each fs, all fs)
  where
    each : (fs : List Finding) → Every P fs → (f : Finding) → Stands f fs → P f
    each [] a f h = elim h [ ]
    each (g ∷ fs) a f (inl e) = subst P (sym e) a.0
    each (g ∷ fs) a f (inr h) = each fs a.1 f h

    all : (fs : List Finding) → ((f : Finding) → Stands f fs → P f) → Every P fs
    all [] h = tt
    all (g ∷ fs) h = (h g (inl refl), all fs (λ f k. h f (inr k)))

-- what is before all that follow does not follow
pub ordered-once : (fs : List Finding) → Ordered fs → Once fs
ordered-once [] o = tt
ordered-once (f ∷ fs) o = (λ h. never ((every_stands (Before f) fs).0 o.0 f h), ordered-once fs o.1)
  where
    never : Before f f → ⊥
    never (inl l) = omega arith
    never (inr l) = omega (arith, l.1)

-- ---- those of a list that have a code
module _ (c : ℕ) where
  pub only_stands : (f : Finding) (fs : List Finding) → Stands f fs → f.code ≡ c → Stands f (only c fs)
  only_stands f [] h e = elim h [ ]
  only_stands f (g ∷ fs) h e = by (eqb g.code c) refl h (λ k. only_stands f fs k e)
    where
      by : (b : Bool) → eqb g.code c ≡ b → (f ≡ g) ⊎ Stands f fs → (Stands f fs → Stands f (only c fs)) → Stands f (cond b (g ∷ only c fs) (only c fs))
      by true q (inl k) rest = inl k
      by true q (inr k) rest = inr (rest k)
      by false q (inl k) rest = absurd (eqb-false g.code c q (sym (ap (λ (x : Finding). x.code) k) ∙ e))
      by false q (inr k) rest = rest k

  pub stands_only : (f : Finding) (fs : List Finding) → Stands f (only c fs) → Stands f fs × (f.code ≡ c)
  stands_only f [] h = elim h [ ]
  stands_only f (g ∷ fs) h = by (eqb g.code c) refl h (λ k. stands_only f fs k)
    where
      by : (b : Bool) → eqb g.code c ≡ b → Stands f (cond b (g ∷ only c fs) (only c fs)) → (Stands f (only c fs) → Stands f fs × (f.code ≡ c)) → ((f ≡ g) ⊎ Stands f fs) × (f.code ≡ c)
      by true q (inl k) rest = (inl k, ap (λ (x : Finding). x.code) k ∙ eqb-true g.code c q)
      by true q (inr k) rest = (inr (rest k).0, (rest k).1)
      by false q k rest = (inr (rest k).0, (rest k).1)

  pub ordered-only : (fs : List Finding) → Ordered fs → Ordered (only c fs)
  ordered-only [] o = tt
  ordered-only (f ∷ fs) o = by (eqb f.code c) (ordered-only fs o.1)
    where
      by : (b : Bool) → Ordered (only c fs) → Ordered (cond b (f ∷ only c fs) (only c fs))
      by true rest = ((every_stands (Before f) (only c fs)).1 (λ g h. (every_stands (Before f) fs).0 o.0 g (stands_only g fs h).0), rest)
      by false rest = rest

-- the first of an ordered list has the lowest row of its code
pub head-lowest : (f g : Finding) (fs : List Finding) → Ordered (f ∷ fs) → Stands g (f ∷ fs) → g.code ≡ f.code → f.row ≤ g.row
head-lowest f g fs o (inl e) q = subst (λ (x : Finding). x.row ≤ g.row) e (le_refl g.row)
head-lowest f g fs o (inr h) q = by ((every_stands (Before f) fs).0 o.0 g h)
  where
    by : Before f g → f.row ≤ g.row
    by (inl l) = absurd (omega arith)
    by (inr l) = omega (arith, l.1)
