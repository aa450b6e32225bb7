-- How the answers from columns go with those from rows.
use Rattle.std.specs.Prelude.{ℕ, ◌<◌, ◌≡◌, refl, List, false, ℤ, get_or, Ok, Err}
use Rattle.std.proofs.Common.{sym, ◌∙◌, true≢false}
use Rattle.std.proofs.Math.Path.{ap}
use Rattle.std.proofs.Math.Bool.{true}
use Rattle.octets.specs.Slices.{nth}
use Rattle.listing.specs.Listing.{table, tables_of, rows}
use Rattle.listing.specs.Refusals.{outcome, is_accepted, Outcome}
use Rattle.pack.specs.Rows.{Pack}
use Rattle.pack.specs.Tables.{pack_of}
use Rattle.columns.specs.Refusals.{is_short, column_outcome}
use Rattle.columns.specs.Tiles.{read, column_pack, respelled}
use Rattle.columns.specs.ColumnRefusalLaws.{accepted-long}
use Rattle.columns.specs.FilledLaws.{Holds, held_pack, held-outcome}
use Rattle.columns.specs.SpelledLaws.{spelled_listing}
use Rattle.columns.specs.PastLaws.{past_pack, past-outcome}
use Rattle.findings.specs.Findings.{findings}
use Rattle.findings.specs.Answers.{findings_by, reported, looked_up, located_by, lookup_of}
use Rattle.findings.specs.ColumnAnswers.{column_reported, column_lookup}

-- two that say the same: both refuse with one number and place, or both accept and the packs are equal
module _ (o q : Outcome) (e : o ≡ q) (p r : Pack) (same : is_accepted o ≡ true → p ≡ r) where
  findings-same : findings_by o (findings p) ≡ findings_by q (findings r)
  findings-same = by o refl ∙ ap (λ (x : Outcome). findings_by x (findings r)) e
    where
      by : (x : Outcome) → o ≡ x → findings_by x (findings p) ≡ findings_by x (findings r)
      by (Ok l) f = ap findings (same (ap is_accepted f))
      by (Err e₀) f = refl

  located_same : (k : ℕ) (z c i : ℤ) → located_by o (looked_up p k z c i) ≡ located_by q (looked_up r k z c i)
  located_same k z c i = by o refl ∙ ap (λ (x : Outcome). located_by x (looked_up r k z c i)) e
    where
      by : (x : Outcome) → o ≡ x → located_by x (looked_up p k z c i) ≡ located_by x (looked_up r k z c i)
      by (Ok l) f = ap (λ (w : Pack). looked_up w k z c i) (same (ap is_accepted f))
      by (Err e₀) f = refl

-- "Where the columns hold what the fill writes, both are proved equal to those from rows": of every listing, its octets p
module _ (s : List ℕ) (p : (k : ℕ) → get_or s k 0 < 256) (cs : List (List ℕ)) (h : Holds s cs) where
  held : column_outcome s cs ≡ outcome s
  held = held-outcome s p cs h

  same_pack : is_accepted (column_outcome s cs) ≡ true → column_pack s cs ≡ pack_of s
  same_pack a = held_pack s p cs h (sym (ap is_accepted held) ∙ a)

  pub filled-reported : column_reported s cs ≡ reported s
  unfolding column_reported reported
  filled-reported = findings-same (column_outcome s cs) (outcome s) held (column_pack s cs) (pack_of s) same_pack

  pub filled_lookup : (k : ℕ) (z c i : ℤ) → column_lookup s cs k z c i ≡ lookup_of s k z c i
  unfolding column_lookup lookup_of
  filled_lookup k z c i = located_same (column_outcome s cs) (outcome s) held (column_pack s cs) (pack_of s) same_pack k z c i

-- "Other column contents are judged as the tile rows they spell": as those of any listing t whose tables are those of s, with the rows that the columns spell for its table 5
module _ (s : List ℕ) (cs : List (List ℕ)) (p : (k : ℕ) → get_or (nth cs 0) k 0 < 256) (a : is_accepted (column_outcome s cs) ≡ true)
    (t : List ℕ) (e : tables_of t ≡ respelled s cs) (b : is_accepted (outcome t) ≡ true) where
  spelled : column_pack s cs ≡ pack_of t
  spelled = spelled_listing s cs (accepted-long s cs a) p t e

  pub spelled-reported : column_reported s cs ≡ reported t
  unfolding column_reported reported
  spelled-reported = by (column_outcome s cs) (outcome t) a b
    where
      by : (o q : Outcome) → is_accepted o ≡ true → is_accepted q ≡ true → findings_by o (findings (column_pack s cs)) ≡ findings_by q (findings (pack_of t))
      by (Ok l) (Ok m) f g = ap findings spelled
      by (Ok l) (Err e₀) f g = absurd (true≢false (sym g))
      by (Err e₀) q f g = absurd (true≢false (sym f))

  pub spelled_lookup : (k : ℕ) (z c i : ℤ) → column_lookup s cs k z c i ≡ lookup_of t k z c i
  unfolding column_lookup lookup_of
  spelled_lookup k z c i = by (column_outcome s cs) (outcome t) a b
    where
      by : (o q : Outcome) → is_accepted o ≡ true → is_accepted q ≡ true → located_by o (looked_up (column_pack s cs) k z c i) ≡ located_by q (looked_up (pack_of t) k z c i)
      by (Ok l) (Ok m) f g = ap (λ (w : Pack). looked_up w k z c i) spelled
      by (Ok l) (Err e₀) f g = absurd (true≢false (sym g))
      by (Err e₀) q f g = absurd (true≢false (sym f))

-- "Entries past the tile count": two lots of columns, none short, with the same entries before it, have the same answers
module _ (s : List ℕ) (cs ds : List (List ℕ)) (g : is_short (rows 5 (table s 5)) cs ≡ false) (h : is_short (rows 5 (table s 5)) ds ≡ false) (e : (k : ℕ) → k < 4 → read s cs k ≡ read s ds k) where
  pub past-reported : column_reported s cs ≡ column_reported s ds
  unfolding column_reported
  past-reported = findings-same (column_outcome s cs) (column_outcome s ds) (past-outcome s cs ds g h e) (column_pack s cs) (column_pack s ds) (λ _. past_pack s cs ds g h e)

  pub past_lookup : (k : ℕ) (z c i : ℤ) → column_lookup s cs k z c i ≡ column_lookup s ds k z c i
  unfolding column_lookup
  past_lookup k z c i = located_same (column_outcome s cs) (column_outcome s ds) (past-outcome s cs ds g h e) (column_pack s cs) (column_pack s ds) (λ _. past_pack s cs ds g h e) k z c i
