-- "Where no doubled-address finding stands at an address, what a lookup returns there is the only tile there", and 10 and the reader's reasons: of every octet string.
use Rattle.std.specs.Prelude.{ℕ, ◌<◌, ◌≤◌, ◌≡◌, Bool, cond, ◌&&◌, List, ◌⊎◌, ◌↔◌, ltb, ℤ, get_or, Option, None, Some, Ok, Err}
use Rattle.std.proofs.Math.Path.{refl, subst}
use Rattle.std.proofs.Common.{sym, ap, ◌∙◌, inl, inr, ⊎_elim, le-ltb, ltb-false}
use Rattle.std.proofs.Math.Bool.{true, false, and-false}
use Rattle.std.proofs.lemmas.Bool.{false≢true}
use Rattle.octets.proofs.SearchLaws.{first-lowest}
use Rattle.spelling.specs.Words.{tiles}
use Rattle.listing.specs.Refusals.{outcome, number_of, is_accepted, Outcome, number, refusal}
use Rattle.listing.specs.RefusalLaws.{readers_own, accepted-is}
use Rattle.listing.specs.declared.Refusal.{Refusal}
use Rattle.listing.specs.declared.Why.TheVariants as why
use Rattle.pack.specs.Rows.{Rows, Content, Tile}
use Rattle.pack.specs.Tables.{pack_of}
use Rattle.rules.specs.Judgments.{first_row}
use Rattle.rules.specs.Contents.{of_type}
use Rattle.rules.specs.Tiles.{at_address}
use Rattle.findings.specs.Findings.{Every}
use Rattle.findings.specs.Answers.{reported, can_look, looked_up, located_row, tile_at, lookup_of, Located, is_refused}
use Rattle.findings.specs.Words.{located_words}
use Rattle.findings.specs.LookupLaws.{Undoubled, located_at, lookup_only}
use Rattle.findings.specs.ReportedLaws.{reported-judged}
use Rattle.findings.specs.RefusedLaws.{number-other}

-- the number of a refusal; whether an answer is a row
abbrev said_number : Located → ℕ
said_number a = get_or (located_words a) 1 0

abbrev is_at : Located → Bool
is_at (Ok (Some i)) = true
is_at (Ok None) = false
is_at (Err e) = false

-- a contents row can be looked at: it is there, and of tiles
pub can_look_lem : (cs : Rows Content) (k : ℕ) → (can_look cs k ≡ false) ↔ ((cs.count ≤ k) ⊎ (of_type tiles (cs.row k) ≡ false))
unfolding can_look
can_look_lem cs k = (by (ltb k cs.count) refl, back)
  where
    by : (b : Bool) → ltb k cs.count ≡ b → (b && of_type tiles (cs.row k)) ≡ false → (cs.count ≤ k) ⊎ (of_type tiles (cs.row k) ≡ false)
    by true e h = inr h
    by false e h = inl (ltb-false k cs.count e)

    back : (cs.count ≤ k) ⊎ (of_type tiles (cs.row k) ≡ false) → (ltb k cs.count && of_type tiles (cs.row k)) ≡ false
    back (inl l) = rw (le-ltb k cs.count l)
    back (inr h) = rw h (and-false (ltb k cs.count))

-- ---- a search for a tile: what it finds is there, and it refuses nothing
module _ (ts : Rows Tile) (x : List ℕ) (z c r : ℤ) where
  pub found-there : (i : ℕ) → tile_at ts x z c r ≡ Ok (Some i) → (i < ts.count) × (at_address x z c r (ts.row i) ≡ true)
  unfolding tile_at
  found-there i e =
      let q = located_at (first_row (at_address x z c r) ts) ts.count i e in
      let there = (first-lowest (λ j. at_address x z c r (ts.row j)) ts.count).here q.1 in
      (subst (λ (m : ℕ). m < ts.count) q.0 q.1, subst (λ (m : ℕ). at_address x z c r (ts.row m) ≡ true) q.0 there)

  pub never-refused : is_refused (tile_at ts x z c r) ≡ false
  unfolding tile_at located_row
  never-refused = by (ltb (first_row (at_address x z c r) ts) ts.count)
    where
      by : (b : Bool) → is_refused {A = Option ℕ} (Ok (cond b (Some (first_row (at_address x z c r) ts)) None)) ≡ false
      by true = refl
      by false = refl

-- ---- the lookup in an octet string
module _ (s : List ℕ) (k : ℕ) (z c r : ℤ) where
  abbrev cs : Rows Content
  cs = (pack_of s).contents

  abbrev ts : Rows Tile
  ts = (pack_of s).tiles

  -- the tile rows at the address, under the name of contents row k
  abbrev pub here : ℕ → Bool
  here j = at_address ((pack_of s).contents.row k).name z c r ((pack_of s).tiles.row j)

  pub lookup_turned : (e : Refusal) → outcome s ≡ Err e → lookup_of s k z c r ≡ Err e
  unfolding lookup_of
  lookup_turned e o = rw o

  pub lookup_judged : is_accepted (outcome s) ≡ true → lookup_of s k z c r ≡ looked_up (pack_of s) k z c r
  unfolding lookup_of
  lookup_judged a = rw (accepted-is s a)

  lookup_accepted : is_accepted (outcome s) ≡ true → lookup_of s k z c r ≡ cond (can_look cs k) (tile_at ts (cs.row k).name z c r) (Err (refusal why.NoTiles 0 0))
  unfolding looked_up
  lookup_accepted a = lookup_judged a

  -- what holds of the reader's refusals, of 10 and of a search holds of every lookup
  pub lookup_cases : (P : Located → Type 0) → ((e : Refusal) → outcome s ≡ Err e → P (Err e)) → (is_accepted (outcome s) ≡ true → can_look cs k ≡ false → P (Err (refusal why.NoTiles 0 0)))
      → (is_accepted (outcome s) ≡ true → can_look cs k ≡ true → P (tile_at ts (cs.row k).name z c r)) → P (lookup_of s k z c r)
  lookup_cases P turned ten looked = by (outcome s) (can_look cs k) refl refl
    where
      by : (o : Outcome) (b : Bool) → outcome s ≡ o → can_look cs k ≡ b → P (lookup_of s k z c r)
      by (Err w) b e h = subst P (sym (lookup_turned w e)) (turned w e)
      by (Ok l) true e h = subst P (sym (lookup_accepted (ap is_accepted e) ∙ rw h)) (looked (ap is_accepted e) h)
      by (Ok l) false e h = subst P (sym (lookup_accepted (ap is_accepted e) ∙ rw h)) (ten (ap is_accepted e) h)

  -- a lookup that is a refusal
  lookup_refused : (w : Refusal) → lookup_of s k z c r ≡ Err w → ((is_accepted (outcome s) ≡ true) × (can_look cs k ≡ false) × (10 ≡ number w.why)) ⊎ (outcome s ≡ Err w)
  lookup_refused w =
      lookup_cases (λ a. a ≡ Err w → ((is_accepted (outcome s) ≡ true) × (can_look cs k ≡ false) × (10 ≡ number w.why)) ⊎ (outcome s ≡ Err w))
      (λ v o e. inr (cc))
      (λ a h e. inl (a, h, ap said_number e))
      (λ a h e. absurd (false≢true (sym (never-refused ts (cs.row k).name z c r) ∙ ap is_refused e)))

  -- 10: "lookup on a contents row that isn't there or whose data_type is not tiles; checked after 8", and since 2026-03 after 13
  pub lookup_ten : (lookup_of s k z c r ≡ Err (refusal why.NoTiles 0 0)) ↔ ((is_accepted (outcome s) ≡ true) × ((cs.count ≤ k) ⊎ (of_type tiles (cs.row k) ≡ false)))
  lookup_ten = (
    λ e. ⊎_elim (λ h. (h.0, (can_look_lem cs k).0 h.1)) (λ o. absurd (number-other s 10 refl (ap number_of o))) (lookup_refused (refusal why.NoTiles 0 0) e),
    λ q.
        lookup_accepted q.0 ∙ rw ((can_look_lem cs k).1 q.1),
  )

  -- 1 to 8 and 13: exactly where the listing is refused so, with that place
  pub lookup_reader : (w : Refusal) → readers_own (number w.why) ≡ true → (lookup_of s k z c r ≡ Err w) ↔ (outcome s ≡ Err w)
  lookup_reader w l = (λ e. ⊎_elim (λ h. absurd (false≢true (ap readers_own h.2 ∙ l))) (λ o. o) (lookup_refused w e), lookup_turned w)

  -- a row that is returned was looked for in an accepted listing
  lookup_found : (i : ℕ) → lookup_of s k z c r ≡ Ok (Some i) → (is_accepted (outcome s) ≡ true) × (tile_at ts (cs.row k).name z c r ≡ Ok (Some i))
  lookup_found i =
      lookup_cases (λ a. a ≡ Ok (Some i) → (is_accepted (outcome s) ≡ true) × (tile_at ts (cs.row k).name z c r ≡ Ok (Some i)))
      (λ w o e. absurd (false≢true (ap is_at e)))
      (λ a b e. absurd (false≢true (ap is_at e)))
      (λ a b e. (a, e))

  -- what is returned is a tile at the address
  pub lookup_there : (i : ℕ) → lookup_of s k z c r ≡ Ok (Some i) → (i < ts.count) × (here i ≡ true)
  lookup_there i e = found-there ts (cs.row k).name z c r i (lookup_found i e).1

  -- and the only one, where no doubled-address finding of the report stands there
  pub lookup_only_tile : (i : ℕ) → lookup_of s k z c r ≡ Ok (Some i) → Every (Undoubled (pack_of s) (cs.row k).name z c r) (reported s)
      → (j : ℕ) → ((j < ts.count) × (here j ≡ true)) ↔ (j ≡ i)
  lookup_only_tile i e clear j = (only, λ q. rw q (lookup_there i e))
    where
      only : (j < ts.count) × (here j ≡ true) → j ≡ i
      only h =
          let f = lookup_found i e in
          lookup_only (pack_of s) (cs.row k).name z c r (subst (Every (Undoubled (pack_of s) (cs.row k).name z c r)) (reported-judged s f.0) clear) i f.1 j h.0 h.1
