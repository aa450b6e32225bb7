-- What a listing that is written says: it fits, the reader accepts it, and that of an accepted listing's tables is written whole.
use Rattle.std.specs.Prelude.{ℕ, zero, suc, ◌<◌, ◌≤◌, List, [], ◌∷◌, ◌++◌, length, get_or, true, ◌≡◌, Ok, Err}
use Rattle.std.proofs.Math.Path.{refl, sym, ap}
use Rattle.std.proofs.Common.{◌∙◌, subst, le-ltb, ltb-false}
use Rattle.listing.specs.Listing.{table, layout}
use Rattle.listing.specs.TableLaws.{Seven}
use Rattle.listing.specs.Refusals.{header_reasons, row_reasons, outcome, is_accepted}
use Rattle.listing.specs.ReasonLaws.{Free, free-left, free-right, free-both, decide-none, good-exactly}
use Rattle.listing.specs.RefusalLaws.{accepted-exactly}
use Rattle.listing.specs.declared.Format.TheVariants.{Edition1}
use Rattle.writer.specs.Parts.{written}
use Rattle.writer.specs.PartLaws.{tables-sized}
use Rattle.writer.specs.Writing.{size_reasons, short_reason, write_reasons, write_answer}
use Rattle.writer.specs.WriteLaws.{is_written, sizes-none, rows-decide, octets-sized, writes_back}

module _ (ps : ℕ → List ℕ) (room n : ℕ) (e : write_answer ps room ≡ Ok n) where
  none : Free (write_reasons ps room)
  unfolding write_answer
  none = (good-exactly Err is_written (λ e. refl) (write_reasons ps room) (Ok (length (written ps))) refl).0 (ap is_written e)

  rest : Free (row_reasons Edition1 ps ++ (short_reason ps room ∷ []))
  unfolding write_reasons
  rest = free-right (size_reasons ps) (row_reasons Edition1 ps ++ (short_reason ps room ∷ [])) none

  pub octets-fit : length (written ps) ≤ room
  octets-fit = ltb-false room (length (written ps)) (free-right (row_reasons Edition1 ps) (short_reason ps room ∷ []) rest 0)

  module _ (v : Seven ps) where
    -- "what it writes, the reader accepts with the same rows and names"
    pub reader_accepts : outcome (written ps) ≡ Ok (layout (written ps))
    reader_accepts =
        rows-decide ps v (octets-sized ps room n e v.none)
        ∙ decide-none Err (row_reasons Edition1 ps) (Ok (layout (written ps))) (free-left (row_reasons Edition1 ps) (short_reason ps room ∷ []) rest)

-- ---- the tables of an accepted listing, in a buffer that has the room
module _ (s : List ℕ) (a : is_accepted (outcome s) ≡ true) (p : (k : ℕ) → get_or s k 0 < 256) where
  short : (room : ℕ) → length s ≤ room → Free (short_reason (table s) room ∷ [])
  short room l zero = le-ltb room (length (written (table s))) (subst (λ (n : ℕ). n ≤ room) (sym (ap length (writes_back s a p))) l)
  short room l (suc i) = refl

  free : (room : ℕ) → length s ≤ room → Free (write_reasons (table s) room)
  unfolding write_reasons
  free room l =
      free-both (size_reasons (table s)) (row_reasons Edition1 (table s) ++ (short_reason (table s) room ∷ [])) (sizes-none (table s) (tables-sized s a))
      (free-both (row_reasons Edition1 (table s)) (short_reason (table s) room ∷ []) (free-right (header_reasons Edition1 s) (row_reasons Edition1 (table s)) ((accepted-exactly s).0 a)) (short room l))

  pub writes_all : (room : ℕ) → length s ≤ room → write_answer (table s) room ≡ Ok (length s)
  unfolding write_answer
  writes_all room l = decide-none Err (write_reasons (table s) room) (Ok (length (written (table s)))) (free room l) ∙ ap (λ (n : ℕ). Ok n) (ap length (writes_back s a p))
