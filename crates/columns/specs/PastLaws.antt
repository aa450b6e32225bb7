-- Entries past the tile count are not read: they change no answer.
use Rattle.std.specs.Prelude.{ℕ, ◌<◌, ◌≡◌, List, [], ◌∷◌, ◌++◌, Bool, length, Ok}
use Rattle.std.proofs.Math.Path.{sym, ap}
use Rattle.std.proofs.Common.{◌∙◌, arith}
use Rattle.std.proofs.Math.Bool.{false}
use Rattle.octets.specs.Search.{first, any}
use Rattle.octets.specs.SearchLaws.{first-agree, any-agree}
use Rattle.octets.specs.Slices.{nth}
use Rattle.octets.specs.Texts.{outside}
use Rattle.octets.specs.Texts.{Text}
use Rattle.listing.specs.Listing.{table, rows, layout}
use Rattle.listing.specs.Refusals.{Reason, ill, decide}
use Rattle.listing.specs.RefusalLaws.{reasons}
use Rattle.listing.specs.declared.Why.{Why}
use Rattle.listing.specs.declared.Why.TheVariants as why
use Rattle.columns.specs.Refusals.{is_short, entry_text, faulty_entry, entry_reason, entry_reasons, column_reasons, column_outcome}
use Rattle.columns.specs.SpelledLaws.{long-by, read_number}
use Rattle.columns.specs.Tiles.{read, column_tables, column_pack}

module _ (s : List ℕ) where
  -- a fault of an entry that is read
  fault_read : (fault : Bool → Text → Bool) (cs : List (List ℕ)) (i : ℕ) → is_short (rows 5 (table s 5)) cs ≡ false → i < rows 5 (table s 5) → faulty_entry fault (nth cs 0) i ≡ faulty_entry fault (read s cs 0) i
  unfolding faulty_entry read
  fault_read fault cs i h l = ap (λ (v : ℕ). fault false (entry_text v)) (sym (read_number cs (rows 5 (table s 5)) (long-by (rows 5 (table s 5)) cs h) i l 0 (omega arith)))

  -- "entries past the tile count": two lots of columns, none short, with the same entries before it
  module _ (cs ds : List (List ℕ)) (g : is_short (rows 5 (table s 5)) cs ≡ false) (h : is_short (rows 5 (table s 5)) ds ≡ false) (e : (k : ℕ) → k < 4 → read s cs k ≡ read s ds k) where
    pub past_pack : column_pack s cs ≡ column_pack s ds
    unfolding column_pack column_tables
    past_pack = rw (e 0 (omega arith), e 1 (omega arith), e 2 (omega arith), e 3 (omega arith))

    fault_same : (fault : Bool → Text → Bool) (i : ℕ) → i < rows 5 (table s 5) → faulty_entry fault (nth cs 0) i ≡ faulty_entry fault (nth ds 0) i
    fault_same fault i l = fault_read fault cs i g l ∙ ap (λ (c : List ℕ). faulty_entry fault c i) (e 0 (omega arith)) ∙ sym (fault_read fault ds i h l)

    reason_same : (w : Why) (fault : Bool → Text → Bool) → entry_reason w fault (nth cs 0) (rows 5 (table s 5)) ≡ entry_reason w fault (nth ds 0) (rows 5 (table s 5))
    reason_same w fault =
        let u : any (faulty_entry fault (nth cs 0)) (rows 5 (table s 5)) ≡ any (faulty_entry fault (nth ds 0)) (rows 5 (table s 5)) = any-agree (faulty_entry fault (nth cs 0)) (faulty_entry fault (nth ds 0)) (rows 5 (table s 5)) (fault_same fault) in
        let v : first (faulty_entry fault (nth cs 0)) (rows 5 (table s 5)) ≡ first (faulty_entry fault (nth ds 0)) (rows 5 (table s 5)) = first-agree (faulty_entry fault (nth cs 0)) (faulty_entry fault (nth ds 0)) (rows 5 (table s 5)) (fault_same fault) in
        rw (u, v)

    pub past-outcome : column_outcome s cs ≡ column_outcome s ds
    unfolding column_outcome column_reasons entry_reasons
    past-outcome =
        ap (λ (x : Bool). decide (reasons s ++ (record { why = why.Columns; there = x; at_table = 5; at_row = 0 } ∷ entry_reasons (table s 7) (nth cs 0) (rows 5 (table s 5)))) (Ok (layout s))) (g ∙ sym h)
        ∙ ap (λ (x : Reason). decide (reasons s ++ (record { why = why.Columns; there = is_short (rows 5 (table s 5)) ds; at_table = 5; at_row = 0 } ∷ x ∷ entry_reason why.IllFormed (ill (table s 7)) (nth cs 0) (rows 5 (table s 5)) ∷ [])) (Ok (layout s))) (reason_same why.Outside (outside (length (table s 7))))
        ∙ ap (λ (x : Reason). decide (reasons s ++ (record { why = why.Columns; there = is_short (rows 5 (table s 5)) ds; at_table = 5; at_row = 0 } ∷ entry_reason why.Outside (outside (length (table s 7))) (nth ds 0) (rows 5 (table s 5)) ∷ x ∷ [])) (Ok (layout s))) (reason_same why.IllFormed (ill (table s 7)))
