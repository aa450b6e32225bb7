-- "Where no doubled-address finding stands at an address, what a lookup returns there is the only tile there."
use Rattle.std.specs.Prelude.{ℕ, ◌<◌, ◌≤◌, ◌≡◌, Bool, false, cond, ◌&&◌, List, ltb, ℤ, Some, None, Ok}
use Rattle.std.proofs.Math.Path.{refl, sym, subst}
use Rattle.std.proofs.Common.{◌∙◌, arith, eq-or-lt_of_le, lt_of_not-le, ltb-true}
use Rattle.std.proofs.Math.Bool.{true, and-eq-true_iff}
use Rattle.std.proofs.lemmas.Bool.{false≢true}
use Rattle.std.proofs.Math.Logic.{⊎_elim}
use Rattle.std.proofs.Math.Decide.{dec_le}
use Rattle.octets.specs.Gather.{gather}
use Rattle.octets.specs.Numbers.{eq_z}
use Rattle.octets.specs.NumberLaws.{eq_z_true}
use Rattle.octets.specs.Search.{first, any}
use Rattle.octets.proofs.SearchLaws.{first-lowest, any_some}
use Rattle.octets.specs.Texts.{same}
use Rattle.octets.proofs.TextLaws.{same_equal}
use Rattle.pack.specs.Rows.{Tile, Pack, rows_in}
use Rattle.rules.specs.Judgments.{partner, first_row, Judgment}
use Rattle.rules.specs.Tiles.{at_address, of541}
use Rattle.rules.specs.Codes.{code_count, code_at, table_at, judged}
use Rattle.findings.specs.Findings.{Finding, found, at_row, of_code, of_place, findings, Every}
use Rattle.findings.specs.ListLaws.{every-left, every-part}
use Rattle.findings.specs.Answers.{located_row, tile_at, Located}

-- two tiles at one address: what is at the address of the one is at that of the other
both : (a b : Bool) → (a && b) ≡ true → (a ≡ true) × (b ≡ true)
both a b e = (and-eq-true_iff a b).0 e

pub same_address : (x : List ℕ) (z c r : ℤ) (t q : Tile) → at_address x z c r t ≡ true → at_address t.name t.zoom t.column t.row q ≡ at_address x z c r q
unfolding at_address
same_address x z c r t q e =
    let h = both (same x t.name) _ e in
    let i = both (eq_z z t.zoom) _ h.1 in
    let j = both (eq_z c t.column) (eq_z r t.row) i.1 in
    rw (sym (same_equal x t.name h.0), sym (eq_z_true z t.zoom i.0), sym (eq_z_true c t.column j.0), sym (eq_z_true r t.row j.1))

-- a lookup that finds row k has found it as the first, and below the count
pub located_at : (i n k : ℕ) → located_row i n ≡ Ok (Some k) → (i ≡ k) × (i < n)
unfolding located_row
located_at i n k e = by (ltb i n) refl e
  where
    by : (b : Bool) → ltb i n ≡ b → ◌≡◌ {A = Located} (Ok (cond b (Some i) None)) (Ok (Some k)) → (i ≡ k) × (i < n)
    by true h g = (cc, ltb-true _ _ h)
    by false h g = let w : ◌≡◌ {A = ℕ} 0 1 = cc in omega arith

-- no 541 finding on a tile row at the address
abbrev pub Undoubled : Pack → List ℕ → ℤ → ℤ → ℤ → Finding → Type 0
Undoubled p x z c r f = f.code ≡ 541 → at_address x z c r (p.tiles.row f.row) ≡ true → ⊥

module _ (p : Pack) (x : List ℕ) (z c r : ℤ) (clear : Every (Undoubled p x z c r) (findings p)) where
  abbrev here : ℕ → Bool
  here j = at_address x z c r (p.tiles.row j)

  -- 541 at row j, where a lower row i has its address
  hit : (j k : ℕ) → k < j → here j ≡ true → here k ≡ true → any (λ m. at_address (p.tiles.row j).name (p.tiles.row j).zoom (p.tiles.row j).column (p.tiles.row j).row (p.tiles.row m)) j ≡ true
  hit j k l e f = any_some _ j k l (same_address x z c r (p.tiles.row j) (p.tiles.row k) e ∙ f)

  judged541 : (j : ℕ) → judged p 541 j ≡ of541 p.tiles (p.tiles.row j) j
  unfolding judged
  judged541 j = refl

  at-row : (j : ℕ) → j < p.tiles.count → Every (Undoubled p x z c r) (found 541 j (judged p 541 j))
  unfolding findings of_place of_code at_row code_at table_at rows_in
  at-row j l =
      every-part (Undoubled p x z c r) (λ i. found 541 i (judged p 541 i)) p.tiles.count j l
      (every-left (Undoubled p x z c r) (gather p.tiles.count (λ i. found 541 i (judged p 541 i))) _
      (every-part (Undoubled p x z c r) (of_place p) code_count 28 (omega arith) clear))

  refuted : (j : ℕ) (v : Judgment) → v ≡ Some (first (λ m. at_address (p.tiles.row j).name (p.tiles.row j).zoom (p.tiles.row j).column (p.tiles.row j).row (p.tiles.row m)) j)
      → here j ≡ true → Every (Undoubled p x z c r) (found 541 j v) → ⊥
  refuted j v e h a = (subst (λ (w : Judgment). Every (Undoubled p x z c r) (found 541 j w)) e a).0 refl h

  -- no tile row after another at the address
  none_after : (j k : ℕ) → j < p.tiles.count → k < j → here j ≡ true → here k ≡ true → ⊥
  unfolding of541 partner any
  none_after j k l m e f = refuted j (judged p 541 j) (judged541 j ∙ simp (hit j k m e f)) e (at-row j l)

  -- what a lookup returns is the only tile there
  pub lookup_only : (k : ℕ) → tile_at p.tiles x z c r ≡ Ok (Some k) → (j : ℕ) → j < p.tiles.count → here j ≡ true → j ≡ k
  unfolding tile_at
  lookup_only k e j l h =
      let q = located_at (first_row (at_address x z c r) p.tiles) p.tiles.count k e in
      let low = first-lowest here p.tiles.count in
      let there : here k ≡ true = subst (λ (m : ℕ). here m ≡ true) q.0 (low.here q.1) in
      let least : k ≤ j = subst (λ (m : ℕ). m ≤ j) q.0 (at_most j low.below h) in
      ⊎_elim (λ (w : k ≡ j). sym w) (λ (w : k < j). absurd (none_after j k l w h there)) (eq-or-lt_of_le least)
    where
      at_most : (j : ℕ) → ((m : ℕ) → m < first here p.tiles.count → here m ≡ false) → here j ≡ true → first here p.tiles.count ≤ j
      at_most j below h = elim (dec_le (first here p.tiles.count) j) [
        | yes l ↦ l
        | no n ↦ absurd (false≢true (sym (below j (lt_of_not-le n)) ∙ h))
      ]
