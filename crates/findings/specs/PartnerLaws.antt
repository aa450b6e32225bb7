-- A partner is a row of a table, or none: so it fits its word where the rows do.
use Rattle.std.specs.Prelude.{ℕ, ◌<◌, ◌≤◌, ◌≡◌, List, Bool, cond, ℤ, None, Some}
use Rattle.std.proofs.Math.Path.{refl, subst}
use Rattle.std.proofs.Math.Bool.{true, false}
use Rattle.std.proofs.Math.Logic.{inl, inr, ⊎_elim}
use Rattle.std.proofs.Common.{le_refl, arith}
use borrow.Author.Tests.{ltb-true}
use Rattle.std.proofs.Math.Dec.{ltb}
use Rattle.octets.specs.Texts.{Nullable, There, Null}
use Rattle.pack.specs.Rows.{Rows, Reference, Pack, rows_in}
use Rattle.rules.specs.Judgments.{none, partner, some, Judgment}
use Rattle.rules.specs.References.{of101, of111, of112, of113, lacks_id, has_id}
use Rattle.rules.specs.Contents.{of131, of151, lacks161, of161, of162, of401, none171}
use Rattle.rules.specs.Sets.{of391, of392, of411}
use Rattle.rules.specs.Matrices.{measured, of351, of431, of432, of451, of452, of461, of471, of481, of491, of501, of511, of521, of531}
use Rattle.rules.specs.Tiles.{placed, of341, of441, of541, of551, of561, of571}
use Rattle.rules.specs.Extensions.{lacks601, of601, of621, of622, of641}
use Rattle.rules.specs.Codes.{table_of, judged, judged_none}
use Rattle.findings.specs.Findings.{Finding}
use Rattle.findings.specs.Schemes.{table_by}
use Rattle.findings.specs.Demands.{Due, Partner}

module _ (p : Pack) where
  -- what a judgment gives is such a partner
  unfoldable Partnered : Judgment → Type 0
  Partnered None = Unit
  Partnered (Some j) = Partner p j

  clean : Partnered None
  unfolding Partnered
  clean = tt

  alone : Partnered (Some none)
  unfolding Partnered
  alone = inl refl

  either : (b : Bool) (v w : Judgment) → Partnered v → Partnered w → Partnered (cond b v w)
  either true v w x y = x
  either false v w x y = y

  -- the lowest of the first n rows, of a table that has so many
  row_of : (r n t : ℕ) → n ≤ rows_in p t → Partnered (partner r n)
  unfolding partner Partnered
  row_of r n t h = by (ltb r n) refl
    where
      by : (b : Bool) → ltb r n ≡ b → Partnered (cond b (Some r) None)
      by true e = inr (t, omega (arith, ltb-true r n e))
      by false e = tt

  of_161 : (rs : Rows Reference) (id : Nullable ℤ) → Partnered (lacks161 rs id)
  of_161 rs (There id) = either (some (has_id id) rs) None (Some none) clean alone
  of_161 rs Null = clean

  of_601 : (table column : Nullable (List ℕ)) → Partnered (lacks601 table column)
  of_601 (There x) c = clean
  of_601 Null (There c) = alone
  of_601 Null Null = clean

  set-row : (r : ℕ) → Partnered (partner r p.sets.count)
  unfolding rows_in
  set-row r = row_of r p.sets.count 3 (le_refl _)

  matrix-row : (r : ℕ) → Partnered (partner r p.matrices.count)
  unfolding rows_in
  matrix-row r = row_of r p.matrices.count 4 (le_refl _)

  judged_partnered : (c i : ℕ) → ((r : ℕ) → Partnered (partner r i)) → Partnered (judged p c i)
  unfolding judged of101 of111 of112 of113 of131 of151 of161 of162 of401 of391 of392 of411 of351 of431 of432 of451 of452 of461 of471 of481 of491 of501 of511 of521 of531 of341 of441 of541 of551 of561 of571 of601 of621 of622 of641 measured placed
  judged_partnered c i earlier = search (clean, alone, either, earlier, set-row, matrix-row, of_161, of_601) depth 80 fits 100000

  none_partnered : (c : ℕ) → Partnered (judged_none p c)
  unfolding judged_none lacks_id none171
  none_partnered c = search (clean, alone, either) depth 10

  -- of every finding that a rule asks for
  pub due_partner : (f : Finding) → Due p f → Partner p f.partner
  unfolding Partnered table_of table_by
  due_partner f d =
      ⊎_elim
      (λ (q : (f.row < rows_in p (table_of f.code)) × (judged p f.code f.row ≡ Some f.partner)).
      subst Partnered q.1 (judged_partnered f.code f.row (λ r. row_of r f.row (table_of f.code) (omega (arith, q.0)))))
      (λ (q : (f.row ≡ none) × (judged_none p f.code ≡ Some f.partner)). subst Partnered q.1 (none_partnered f.code))
      d.says
