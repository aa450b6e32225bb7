-- The findings of a scheme: all that its rules ask for, each once, in order, and no other; how many there are; and that each number fits its word. Of every report.
use Prim.Native.Nat.{ℕ, zero, suc, ◌+◌, ◌*◌, ◌<◌, ◌≤◌}
use Rattle.std.specs.Prelude.{◌≡◌, refl, true, ◌⊎◌, ◌↔◌, length, None, Some, Ok, Err}
use Rattle.std.proofs.Common.{sym, ◌∙◌, arith}
use Rattle.std.proofs.Math.Path.{ap, subst}
use Rattle.std.proofs.lemmas.Bool.{false≢true}
use mathlib.Core.List.{List, [], ◌++◌}
use Rattle.std.proofs.Math.Logic.{inl, inr, ⊎_elim}
use Rattle.std.proofs.Math.ListN.{length-append}
use Rattle.octets.specs.Gather.{gather}
use Rattle.octets.specs.GatherLaws.{gather-length}
use Rattle.listing.specs.Refusals.{is_accepted, Outcome}
use Rattle.rules.specs.Judgments.{none, Judgment}
use Rattle.rules.specs.CodeLaws.{Sound, codes-ascend, codes-agree, codes-fit, codes-listed}
use Rattle.findings.specs.Findings.{Finding, found, only, Every, Before, Ordered}
use Rattle.findings.specs.Schemes.{Scheme, code_in, table_in, table_by, at_row_by, at_none_by, of_code_by, of_place_by, findings_of}
use Rattle.findings.specs.Answers.{findings_by}
use Rattle.findings.specs.Words.{words_of}
use Rattle.findings.specs.Demands.{Stands, Once, ListedBy, DueBy, Fits, AllFit}
use Rattle.findings.specs.ListLaws.{every_append, every-gather, every_map, only-all, only_none, only_one, ordered-append}
use Rattle.findings.specs.StandsLaws.{stands_left, stands_right, stands_either, stands_gathered, stands_some, every_stands, ordered-once}

-- ---- what a judgment gives: one finding at most, of its code and row, with its partner
found-length : (c i : ℕ) (v : Judgment) → length (found c i v) ≤ 1
found-length c i None = omega arith
found-length c i (Some j) = omega arith

found-ordered : (c i : ℕ) (v : Judgment) → Ordered (found c i v)
found-ordered c i None = tt
found-ordered c i (Some j) = (tt, tt)

abbrev At : ℕ → ℕ → Finding → Type 0
At c i f = (f.code ≡ c) × (f.row ≡ i)

found_at : (c i : ℕ) (v : Judgment) → Every (At c i) (found c i v)
found_at c i None = tt
found_at c i (Some j) = ((refl, refl), tt)

found_stands : (f : Finding) (v : Judgment) → v ≡ Some f.partner → Stands f (found f.code f.row v)
found_stands f v e = subst (λ (w : Judgment). Stands f (found f.code f.row w)) (sym e) (inl refl)

found-only : (f : Finding) (c i : ℕ) (v : Judgment) → Stands f (found c i v) → (f.code ≡ c) × (f.row ≡ i) × (v ≡ Some f.partner)
found-only f c i None h = elim h [ ]
found-only f c i (Some j) (inl e) = (ap (λ (g : Finding). g.code) e, ap (λ (g : Finding). g.row) e, sym (ap (λ (g : Finding). Some g.partner) e))
found-only f c i (Some j) (inr h) = elim h [ ]

-- ---- what the judgments of rows give: in order
-- of a code, and of a row below n
abbrev Below : ℕ → ℕ → Finding → Type 0
Below c n f = (f.code ≡ c) × (f.row < n)

module _ (c : ℕ) (v : ℕ → Judgment) where
  rows-below : (n : ℕ) → Every (Below c n) (gather n (λ i. found c i (v i)))
  rows-below n = every-gather (Below c n) (λ i. found c i (v i)) n (λ i l. every_map (At c i) (Below c n) (λ f a. (a.0, subst (λ (m : ℕ). m < n) (sym a.1) l)) (found c i (v i)) (found_at c i (v i)))

  -- findings of lower rows are before one of row n
  before-row : (n i : ℕ) (w : Judgment) (xs : List Finding) → n ≤ i → Every (Below c n) xs → Every (λ x. Every (Before x) (found c i w)) xs
  before-row n i w xs l a =
      every_map (Below c n) (λ x. Every (Before x) (found c i w))
      (λ x b. every_map (At c i) (Before x) (λ f q. inr (b.0 ∙ sym q.0, subst (λ (m : ℕ). x.row < m) (sym q.1) (omega (arith, b.1)))) (found c i w) (found_at c i w)) xs a

  rows-ordered : (n : ℕ) → Ordered (gather n (λ i. found c i (v i)))
  rows-ordered zero = tt
  rows-ordered (suc n) =
      ordered-append (gather n (λ i. found c i (v i))) (found c n (v n)) (rows-ordered n) (found-ordered c n (v n))
      (before-row n n (v n) (gather n (λ i. found c i (v i))) (omega arith) (rows-below n))

module _ (r : Scheme) where
  -- ---- how many there are: at most one a row
  pub scheme_rows_length : (c n : ℕ) → length (gather n (at_row_by r c)) ≤ n
  unfolding at_row_by
  scheme_rows_length c n = omega (arith, gather-length n 1 (λ i. found c i (r.says c i)) (λ i. found-length c i (r.says c i)))

  -- at most one a row and one more for a code
  pub scheme_code_length : (c t : ℕ) → length (of_code_by r c t) ≤ r.rows t + 1
  unfolding of_code_by at_none_by
  scheme_code_length c t = simp length-append (omega (arith, scheme_rows_length c (r.rows t), found-length c none (r.says_none c)))

  module _ (m : ℕ) (most : (t : ℕ) → r.rows t ≤ m) where
    pub scheme_places_length : (k : ℕ) → length (gather k (of_place_by r)) ≤ k * (m + 1)
    unfolding of_place_by
    scheme_places_length k =
        gather-length k (m + 1) (λ i. of_code_by r (code_in r i) (table_in r i)) (λ i. omega (arith, scheme_code_length (code_in r i) (table_in r i), most (table_in r i)))

    pub scheme_length : length (findings_of r) ≤ length r.codes * (m + 1)
    unfolding findings_of
    scheme_length = scheme_places_length (length r.codes)

  -- ---- those of a code: each has it, and they are in order
  code_coded : (c t : ℕ) → Every (λ f. f.code ≡ c) (of_code_by r c t)
  unfolding of_code_by at_row_by at_none_by
  code_coded c t =
      every_append (λ f. f.code ≡ c) (gather (r.rows t) (λ i. found c i (r.says c i))) (found c none (r.says_none c))
      (every_map (Below c (r.rows t)) (λ f. f.code ≡ c) (λ f a. a.0) (gather (r.rows t) (λ i. found c i (r.says c i))) (rows-below c (r.says c) (r.rows t)))
      (every_map (At c none) (λ f. f.code ≡ c) (λ f a. a.0) (found c none (r.says_none c)) (found_at c none (r.says_none c)))

  code-ordered : (c t : ℕ) → r.rows t ≤ none → Ordered (of_code_by r c t)
  unfolding of_code_by at_row_by at_none_by
  code-ordered c t l =
      ordered-append (gather (r.rows t) (λ i. found c i (r.says c i))) (found c none (r.says_none c)) (rows-ordered c (r.says c) (r.rows t)) (found-ordered c none (r.says_none c))
      (before-row c (r.says c) (r.rows t) none (r.says_none c) (gather (r.rows t) (λ i. found c i (r.says c i))) l (rows-below c (r.says c) (r.rows t)))

-- ---- by a sound table of codes
module _ (r : Scheme) (sound : Sound r.codes r.tables) where
  -- the codes ascend, each has the table at its place and fits its word, and they are those that are listed
  pub scheme_ascending : (i k : ℕ) → i < k → k < length r.codes → code_in r i < code_in r k
  unfolding code_in
  scheme_ascending = codes-ascend r.codes r.tables sound

  pub scheme_table : (k : ℕ) → k < length r.codes → table_by r (code_in r k) ≡ table_in r k
  unfolding code_in table_in table_by
  scheme_table = codes-agree r.codes r.tables sound

  code_fits : (k : ℕ) → k < length r.codes → Fits (code_in r k)
  unfolding code_in
  code_fits = codes-fit r.codes r.tables sound

  pub scheme_listed : (c : ℕ) → ListedBy r c ↔ ((k : ℕ) × (k < length r.codes) × (code_in r k ≡ c))
  unfolding code_in table_by
  scheme_listed = codes-listed r.codes r.tables sound

  -- ---- the findings of a code are those of the full list that have it, in that order
  pub scheme_only : (k : ℕ) → k < length r.codes → only (code_in r k) (findings_of r) ≡ of_place_by r k
  unfolding findings_of of_place_by
  scheme_only k h =
      let c : ℕ = code_in r k in
      only_one c (of_place_by r) k (length r.codes)
      (λ i l d.
      only_none c (of_code_by r (code_in r i) (table_in r i)) (every_map (λ f. f.code ≡ code_in r i) (λ f. f.code ≡ c → ⊥) (λ f e z. other i l d (sym e ∙ z)) (of_code_by r (code_in r i) (table_in r i)) (code_coded r (code_in r i) (table_in r i))))
      (only-all c (of_code_by r c (table_in r k)) (code_coded r c (table_in r k)))
      h
    where
      apart : (a b : ℕ) → (a ≡ b → ⊥) → (a < b) ⊎ (b < a)
      apart zero zero n = absurd (n refl)
      apart zero (suc b) n = inl (omega arith)
      apart (suc a) zero n = inr (omega arith)
      apart (suc a) (suc b) n = ⊎_elim (λ (l : a < b). inl (omega arith)) (λ (l : b < a). inr (omega arith)) (apart a b (λ q. n (ap suc q)))

      other : (i : ℕ) → i < length r.codes → (i ≡ k → ⊥) → code_in r i ≡ code_in r k → ⊥
      other i l d e = ⊎_elim (λ (m : i < k). omega (arith, scheme_ascending i k m h)) (λ (m : k < i). omega (arith, scheme_ascending k i m l)) (apart i k d)

  -- the same by the code itself
  pub scheme_only_code : (c : ℕ) → ListedBy r c → only c (findings_of r) ≡ of_code_by r c (table_by r c)
  unfolding of_place_by
  scheme_only_code c n =
      let h = (scheme_listed c).0 n in
      subst (λ (d : ℕ). only d (findings_of r) ≡ of_code_by r d (table_by r d)) h.2 (scheme_only h.0 h.1 ∙ ap (of_code_by r (code_in r h.0)) (sym (scheme_table h.0 h.1)))

  -- ---- all that the rules ask for, and no other
  module _ (f : Finding) where
    due_code : (c : ℕ) → ListedBy r c → Stands f (of_code_by r c (table_by r c)) → DueBy r f
    unfolding of_code_by at_row_by at_none_by
    due_code c n h = ⊎_elim row without (stands_either f (gather (r.rows (table_by r c)) (at_row_by r c)) (at_none_by r c) h)
      where
        row : Stands f (gather (r.rows (table_by r c)) (at_row_by r c)) → DueBy r f
        row a =
            let q = stands_some f (at_row_by r c) (r.rows (table_by r c)) a in
            let e = found-only f c q.0 (r.says c q.0) q.2 in
            record { listed = rw e.0 n; says = inl (rw (e.0, e.1) q.1, rw (e.0, e.1) e.2) }

        without : Stands f (at_none_by r c) → DueBy r f
        without a = let e = found-only f c none (r.says_none c) a in record { listed = rw e.0 n; says = inr (e.1, rw e.0 e.2) }

    code_due : DueBy r f → Stands f (of_code_by r f.code (table_by r f.code))
    unfolding of_code_by at_row_by at_none_by
    code_due d = ⊎_elim row without d.says
      where
        rows : List Finding
        rows = gather (r.rows (table_by r f.code)) (at_row_by r f.code)

        row : (f.row < r.rows (table_by r f.code)) × (r.says f.code f.row ≡ Some f.partner) → Stands f (rows ++ at_none_by r f.code)
        row q =
            stands_left f rows (at_none_by r f.code) (stands_gathered f (at_row_by r f.code) (r.rows (table_by r f.code)) f.row q.0 (found_stands f (r.says f.code f.row) q.1))

        without : (f.row ≡ none) × (r.says_none f.code ≡ Some f.partner) → Stands f (rows ++ at_none_by r f.code)
        without q =
            stands_right f rows (at_none_by r f.code) (subst (λ (i : ℕ). Stands f (found f.code i (r.says_none f.code))) q.0 (found_stands f (r.says_none f.code) q.1))

    pub scheme_exactly : Stands f (findings_of r) ↔ DueBy r f
    unfolding findings_of of_place_by
    scheme_exactly = (
      λ h.
          let q = stands_some f (of_place_by r) (length r.codes) h in
          due_code (code_in r q.0) ((scheme_listed (code_in r q.0)).1 (q.0, q.1, refl)) (rw (scheme_table q.0 q.1) q.2),
      λ d.
          let h = (scheme_listed f.code).0 d.listed in
          stands_gathered f (of_place_by r) (length r.codes) h.0 h.1 (rw (← scheme_table h.0 h.1, h.2) (code_due d)),
    )

  -- ---- "by code, then row, none last", where no row has the number that means none
  -- of the codes at places below k: of a lower code than that at k
  places_below : (k : ℕ) → k < length r.codes → Every (λ f. f.code < code_in r k) (gather k (of_place_by r))
  unfolding of_place_by
  places_below k h =
      every-gather (λ f. f.code < code_in r k) (λ i. of_code_by r (code_in r i) (table_in r i)) k
      (λ i l. every_map (λ f. f.code ≡ code_in r i) (λ f. f.code < code_in r k) (λ f e. subst (λ (m : ℕ). m < code_in r k) (sym e) (scheme_ascending i k l h)) (of_code_by r (code_in r i) (table_in r i)) (code_coded r (code_in r i) (table_in r i)))

  module _ (numbered : (t : ℕ) → r.rows t ≤ none) where
    places_ordered : (k : ℕ) → k ≤ length r.codes → Ordered (gather k (of_place_by r))
    unfolding of_place_by
    places_ordered zero h = tt
    places_ordered (suc k) h =
        let fs : List Finding = of_code_by r (code_in r k) (table_in r k) in
        ordered-append (gather k (of_place_by r)) fs (places_ordered k (omega arith)) (code-ordered r (code_in r k) (table_in r k) (numbered (table_in r k)))
        (every_map (λ f. f.code < code_in r k) (λ x. Every (Before x) fs)
        (λ x b. every_map (λ f. f.code ≡ code_in r k) (Before x) (λ f e. inl (subst (λ (m : ℕ). x.code < m) (sym e) b)) fs (code_coded r (code_in r k) (table_in r k)))
        (gather k (of_place_by r)) (places_below k h))

    pub scheme_ordered : Ordered (findings_of r)
    unfolding findings_of
    scheme_ordered = places_ordered (length r.codes) (omega arith)

    -- "each once"
    pub scheme_once : Once (findings_of r)
    scheme_once = ordered-once (findings_of r) scheme_ordered

    -- ---- code, row and partner fit their words, where every partner does
    module _ (partners : (f : Finding) → DueBy r f → Fits f.partner) where
      pub due_fits : (f : Finding) → DueBy r f → AllFit (words_of f)
      due_fits f d = (code ((scheme_listed f.code).0 d.listed), (row d.says, (partners f d, tt)))
        where
          code : ((k : ℕ) × (k < length r.codes) × (code_in r k ≡ f.code)) → Fits f.code
          code k = subst Fits k.2 (code_fits k.0 k.1)

          row : ((f.row < r.rows (table_by r f.code)) × (r.says f.code f.row ≡ Some f.partner)) ⊎ ((f.row ≡ none) × (r.says_none f.code ≡ Some f.partner)) → Fits f.row
          row (inl q) = omega (arith, q.0, numbered (table_by r f.code))
          row (inr q) = omega (arith, q.0)

      pub scheme_fits : Every (λ f. AllFit (words_of f)) (findings_of r)
      scheme_fits = (every_stands (λ f. AllFit (words_of f)) (findings_of r)).1 (λ f h. due_fits f ((scheme_exactly f).0 h))

-- ---- the report by an outcome: these findings of an accepted listing, and none of a refused one
module _ (o : Outcome) (r : Scheme) where
  -- what holds of none, and of all where the listing is accepted
  either : (P : List Finding → Type 0) → P [] → (is_accepted o ≡ true → P (findings_of r)) → P (findings_by o (findings_of r))
  either P n h = by o h
    where
      by : (q : Outcome) → (is_accepted q ≡ true → P (findings_of r)) → P (findings_by q (findings_of r))
      by (Ok l) h = h refl
      by (Err e₀) h = n

  pub outcome-length : (m : ℕ) → (is_accepted o ≡ true → (t : ℕ) → r.rows t ≤ m) → length (findings_by o (findings_of r)) ≤ length r.codes * (m + 1)
  outcome-length m most = either (λ fs. length fs ≤ length r.codes * (m + 1)) (omega arith) (λ a. scheme_length r m (most a))

  module _ (sound : Sound r.codes r.tables) where
    -- "all findings .. and no other": a finding stands in the report exactly where the listing is accepted and the rule of its code asks for it
    pub outcome-exactly : (f : Finding) → Stands f (findings_by o (findings_of r)) ↔ ((is_accepted o ≡ true) × DueBy r f)
    outcome-exactly f = by o
      where
        by : (q : Outcome) → Stands f (findings_by q (findings_of r)) ↔ ((is_accepted q ≡ true) × DueBy r f)
        by (Ok l) = (λ h. (refl, (scheme_exactly r sound f).0 h), λ d. (scheme_exactly r sound f).1 d.1)
        by (Err e₀) = (λ h. absurd h, λ d. absurd (false≢true d.0))

    module _ (numbered : is_accepted o ≡ true → (t : ℕ) → r.rows t ≤ none) where
      -- "by rule then row"
      pub outcome-ordered : Ordered (findings_by o (findings_of r))
      outcome-ordered = either Ordered tt (λ a. scheme_ordered r sound (numbered a))

      -- "each once"
      pub outcome-once : Once (findings_by o (findings_of r))
      outcome-once = ordered-once (findings_by o (findings_of r)) outcome-ordered

      pub outcome_fits : (is_accepted o ≡ true → (f : Finding) → DueBy r f → Fits f.partner) → Every (λ f. AllFit (words_of f)) (findings_by o (findings_of r))
      outcome_fits partners = either (Every (λ f. AllFit (words_of f))) tt (λ a. scheme_fits r sound (numbered a) (partners a))
