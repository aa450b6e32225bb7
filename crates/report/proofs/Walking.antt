-- The walk's own facts.
use Prim.Native.Nat.{ℕ, ◌+◌, ◌^◌, ◌<◌}
use mathlib.Core.Path.{◌≡◌, sym, ◌∙◌, subst}
use mathlib.Core.List.{List}
use Rattle.octets.specs.Gather.{gather}
use Rattle.pack.specs.Rows.{Pack, rows_in}
use Rattle.pack.specs.Tables.{pack_in}
use Rattle.pack.specs.declared.Form.{Form}
use Rattle.rules.specs.Judgments.{Judgment}
use Rattle.rules.specs.Codes.{judged}
use Rattle.findings.specs.Findings.{Finding}
use Rattle.report.specs.Buffers.{Added}
use Rattle.report.specs.declared.Tally.{Tally}

-- a code of table 5 has as many rows as there are tiles
module _ (p : Pack) (t n : ℕ) (e : t ≡ 5) (h : n ≡ rows_in p t) where
  tiles_in_lem : n ≡ p.tiles.count
  unfolding rows_in
  tiles_in_lem = h ∙ rw e

  pub tile-room : (k : ℕ) → k + n < 2 ^ 64 → k + p.tiles.count < 2 ^ 64
  tile-room k l = subst (λ (m : ℕ). k + m < 2 ^ 64) tiles_in_lem l

  pub tile-added : (f : ℕ → List Finding) (b b' : List ℕ) (s s' : Tally) → Added (gather p.tiles.count f) b s b' s' → Added (gather n f) b s b' s'
  tile-added f b b' s s' a = subst (λ (m : ℕ). Added (gather m f) b s b' s') (sym tiles_in_lem) a

-- what is said of a row by the code's indexes is what the rule says
pub ready_said : (g h : Form) (ts us : List (List ℕ)) (c d i : ℕ) (v : Judgment) → v ≡ judged (pack_in h us) d i → h ≡ g → us ≡ ts → d ≡ c → v ≡ judged (pack_in g ts) c i
ready_said g h ts us c d i v e f q r = e ∙ (λ j. judged (pack_in (f j) (q j)) (r j) i)
