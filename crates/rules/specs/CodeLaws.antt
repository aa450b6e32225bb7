-- Lists of codes with their tables, and what is worked out once for each; the table of a code, at each place, and of a code that is none of some.
use Rattle.std.specs.Prelude.{ℕ, suc, ◌<◌, ◌≡◌, refl, Bool, true, false, cond, ◌||◌, List, [], ◌∷◌, ◌↔◌, T, eqb, ltb, length, get_or, drop}
use Rattle.std.proofs.Common.{sym, ap, ◌∙◌, arith, eq-eqb, eqb-true, lt-ltb, eqb→eq, ltb→lt}
use Rattle.std.proofs.lemmas.Bool.{false≢true}
use Rattle.octets.specs.TableLaws.{every, at}
use Rattle.rules.specs.Codes.{codes, tables, code_count, code_at, table_at, seek, table_of}

-- ---- what codes ks and their tables ts have to be: each a test of their places, computed once
-- every earlier code is below
abbrev pub ascends : List ℕ → ℕ → ℕ → Bool
ascends ks k c = every (λ i d. cond (ltb i k) (ltb d c) true) 0 ks

-- the table found for the code is the one at its place
abbrev pub agrees : List ℕ → List ℕ → ℕ → ℕ → Bool
agrees ks ts k c = eqb (seek ks ts c) (get_or ts k 0)

-- "each belongs to one table": that is some table
abbrev pub belongs : List ℕ → ℕ → ℕ → Bool
belongs ts k c = ltb 0 (get_or ts k 0)

-- a u32 holds the code
abbrev pub small : ℕ → ℕ → Bool
small k c = ltb c 4294967296

pub record Sound (ks ts : List ℕ) : Type 0 where
  pub ascend : T (every (ascends ks) 0 ks)
  pub agree : T (every (agrees ks ts) 0 ks)
  pub belong : T (every (belongs ts) 0 ks)
  pub fit : T (every small 0 ks)

-- ---- a code that belongs to a table has a place among the codes
pub record Place (ks ts : List ℕ) (c t : ℕ) : Type 0 where
  pub place : ℕ
  pub within : place < length ks
  pub code : get_or ks place 0 ≡ c
  pub table : get_or ts place 0 ≡ t

tail : (ks ts : List ℕ) (k c t : ℕ) → Place ks (drop 1 ts) c t → Place (k ∷ ks) ts c t
tail ks [] k c t h = record { place = suc h.place; within = omega (arith, h.within); code = h.code; table = h.table }
tail ks (u ∷ ts) k c t h = record { place = suc h.place; within = omega (arith, h.within); code = h.code; table = h.table }

head : (ks ts : List ℕ) (k c t : ℕ) → c ≡ k → get_or ts 0 0 ≡ t → Place (k ∷ ks) ts c t
head ks [] k c t e f = record { place = 0; within = omega arith; code = sym e; table = f }
head ks (u ∷ ts) k c t e f = record { place = 0; within = omega arith; code = sym e; table = f }

mutual_step : (ks ts : List ℕ) (k c t : ℕ) (b : Bool) → eqb c k ≡ b → (t ≡ 0 → ⊥) → cond b (get_or ts 0 0) (seek ks (drop 1 ts) c) ≡ t
    → ((t ≡ 0 → ⊥) → seek ks (drop 1 ts) c ≡ t → Place ks (drop 1 ts) c t) → Place (k ∷ ks) ts c t
mutual_step ks ts k c t true e n q h = head ks ts k c t (eqb-true c k e) q
mutual_step ks ts k c t false e n q h = tail ks ts k c t (h n q)

placed : (ks ts : List ℕ) (c t : ℕ) → (t ≡ 0 → ⊥) → seek ks ts c ≡ t → Place ks ts c t
placed [] ts c t n q = absurd (n (sym q))
placed (k ∷ ks) ts c t n q = mutual_step ks ts k c t (eqb c k) refl n q (λ n' q'. placed ks (drop 1 ts) c t n' q')

pub code-place : (ks ts : List ℕ) (c : ℕ) → (seek ks ts c ≡ 0 → ⊥) → Place ks ts c (seek ks ts c)
code-place ks ts c n = placed ks ts c (seek ks ts c) n refl

-- ---- what that shows, place by place
module _ (ks ts : List ℕ) (sound : Sound ks ts) where
  pub codes-ascend : (i k : ℕ) → i < k → k < length ks → get_or ks i 0 < get_or ks k 0
  codes-ascend i k l m =
      let c : ℕ = get_or ks k 0 in
      ltb→lt _ _ (rw (lt-ltb i k l) at (at (λ i d. cond (ltb i k) (ltb d c) true) ks (at (ascends ks) ks sound.ascend k m) i (omega arith)))

  pub codes-agree : (k : ℕ) → k < length ks → seek ks ts (get_or ks k 0) ≡ get_or ts k 0
  codes-agree k l = eqb→eq _ _ (at (agrees ks ts) ks sound.agree k l)

  pub codes-fit : (k : ℕ) → k < length ks → get_or ks k 0 < 4294967296
  codes-fit k l = ltb→lt _ _ (at small ks sound.fit k l)

  -- a code has a table exactly where it has a place
  pub codes-listed : (c : ℕ) → (seek ks ts c ≡ 0 → ⊥) ↔ ((k : ℕ) × (k < length ks) × (get_or ks k 0 ≡ c))
  codes-listed c = (
    λ n. let h = code-place ks ts c n in (h.place, h.within, h.code),
    λ h z. omega (arith, codes-agree h.0 h.1, ap (seek ks ts) h.2, ltb→lt 0 (get_or ts h.0 0) (at (belongs ts) ks sound.belong h.0 h.1)),
  )

-- ---- the 36
pub codes-sound : Sound codes tables
codes-sound = record { ascend = tt; agree = tt; belong = tt; fit = tt }

pub place-table : (k : ℕ) → k < code_count → table_of (code_at k) ≡ table_at k
unfolding table_of table_at code_at
place-table = codes-agree codes tables codes-sound

pub listed-place : (c : ℕ) → (table_of c ≡ 0 → ⊥) → Place codes tables c (table_of c)
unfolding table_of
listed-place = code-place codes tables

-- ---- a code that is none of those of a table belongs to another
-- it is none of them, the last one first: the last arm of a match on them
abbrev pub Other : ℕ → List ℕ → Type 0
Other code [] = Unit {0}
Other code (c ∷ cs) = Other code cs × (code ≡ c → ⊥)

abbrev pub among : ℕ → List ℕ → Bool
among code [] = false
among code (c ∷ cs) = eqb code c || among code cs

pub none-among : (code : ℕ) (cs : List ℕ) → Other code cs → among code cs ≡ true → ⊥
none-among code [] o e = false≢true e
none-among code (c ∷ cs) o e = by (eqb code c) refl e (none-among code cs o.0)
  where
    by : (b : Bool) → eqb code c ≡ b → (b || among code cs) ≡ true → (among code cs ≡ true → ⊥) → ⊥
    by true f g h = o.1 (eqb-true code c f)
    by false f g h = h g

-- every code of table t is among cs: one computed test of the places
abbrev pub covered : ℕ → List ℕ → ℕ → ℕ → Bool
covered t cs k c = cond (eqb (get_or tables k 0) t) (among c cs) true

abbrev pub Covers : ℕ → List ℕ → Type 0
Covers t cs = T (every (covered t cs) 0 codes)

told : (b : Bool) → T b → b ≡ true
told true t = refl
told false t = absurd t

pub not_of_table : (t code : ℕ) (cs : List ℕ) → (t ≡ 0 → ⊥) → Covers t cs → table_of code ≡ t → Other code cs → ⊥
not_of_table t code cs n v e o =
    let h = listed-place code (λ z. n (sym e ∙ z)) in
    let here : among (get_or codes h.place 0) cs ≡ true = told _ (rw (eq-eqb (get_or tables h.place 0) t (h.table ∙ e)) at (at (covered t cs) codes v h.place h.within)) in
    none-among code cs o (ap (λ (x : ℕ). among x cs) (sym h.code) ∙ here)
