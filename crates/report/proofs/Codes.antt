-- Looking a code up in the constant table: where it is found, and where it is not.
use Prim.Native.Nat.{ℕ, ◌<◌, ◌≤◌, zero-le}
use Rattle.std.specs.Prelude.{◌≡◌, Bool, true, false, List, length, get_or}
use Rattle.std.proofs.Common.{refl, sym, ap, ◌∙◌, arith}
use Rattle.std.proofs.lemmas.Bool.{false≢true, eqb-false}
use Rattle.std.proofs.Math.Dec.{eqb}
use borrow.Author.Tests.{eqb-true, eq-eqb}
use Rattle.octets.specs.Search.{Sought}
use Rattle.rules.specs.Codes.{codes, tables, code_count, code_at, table_at, table_of}
use Rattle.rules.specs.CodeLaws.{codes-listed, codes-sound, place-table, listed-place}

module _ (c : ℕ) (says : ℕ → Bool → Type 0) (k : ℕ) (s : Sought says 0 code_count k) (agrees : (i : ℕ) (b : Bool) → i < code_count → says i b → b ≡ eqb (code_at i) c) where
  at_code : k < code_count → code_at k ≡ c
  at_code l = eqb-true (code_at k) c (sym (agrees k true l (s.here l)))

  pub found-table : k < code_count → table_at k ≡ table_of c
  found-table l = sym (place-table k l) ∙ ap table_of (at_code l)

  pub found-listed : k < code_count → 0 < table_at k
  unfolding table_of code_at
  found-listed l =
      let n : table_of c ≡ 0 → ⊥ = (codes-listed codes tables codes-sound c).1 (k, l, at_code l) in
      omega (arith, n, found-table l)

  pub not_listed : code_count ≤ k → table_of c ≡ 0
  unfolding table_of code_at
  not_listed h = by (eqb (table_of c) 0) refl
    where
      by : (b : Bool) → eqb (table_of c) 0 ≡ b → table_of c ≡ 0
      by true e = eqb-true (table_of c) 0 e
      by false e =
          let q = listed-place c (eqb-false (table_of c) 0 e) in
          absurd (false≢true (agrees q.place false q.within (s.below q.place zero-le (omega (arith, q.within))) ∙ eq-eqb (code_at q.place) c q.code))
