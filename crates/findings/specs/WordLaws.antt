-- Numbers fit their words: each number of an answer is below 2^32, so that its four octets read as the number itself.
use Rattle.std.specs.Prelude.{ℕ, zero, suc, ◌+◌, ◌*◌, ◌-◌, ◌<◌, ◌≤◌, min, ◌≡◌, List, [], ◌∷◌, ◌++◌, ℤ, length, get_or, take, drop, None, Some, Ok, Err}
use Rattle.std.proofs.Math.Path.{refl, ap}
use Rattle.std.proofs.Common.{sym, ◌∙◌, subst, append_assoc, inl, inr, le_of_suc-le-suc, not-suc-le-zero, length-take}
use Rattle.std.proofs.Math.Bool.{true}
use Rattle.std.proofs.lemmas.Bool.{false≢true}
use native.Mathlib.Omega.{arith}
use Rattle.std.proofs.Math.Seq.{take-append-add}
use Rattle.octets.specs.Octets.{le32, word, filled}
use Rattle.octets.specs.BufferLaws.{filled-past}
use Rattle.octets.specs.OctetLaws.{le32-word, le32-past}
use Rattle.listing.specs.Refusals.{outcome, is_accepted, number}
use Rattle.listing.specs.declared.Refusal.{Refusal}
use Rattle.pack.specs.Rows.{rows_in}
use Rattle.pack.specs.Tables.{pack_of}
use Rattle.pack.specs.PackLaws.{rows-most, rows-numbered}
use Rattle.rules.specs.Judgments.{none}
use Rattle.rules.specs.CodeLaws.{codes-sound}
use Rattle.findings.specs.Findings.{Finding, Every}
use Rattle.findings.specs.Schemes.{tile_scheme}
use Rattle.findings.specs.Answers.{reported, tile_at, lookup_of, Located, is_refused}
use Rattle.findings.specs.Words.{octets_of, words_of, finding_octets, room, written_of, buffer_of, report_words, located_words}
use Rattle.findings.specs.Demands.{Due, Partner, Fits, AllFit}
use Rattle.findings.specs.SchemeLaws.{outcome-length, outcome_fits}
use Rattle.findings.specs.ReportedLaws.{tile-reported}
use Rattle.findings.specs.PartnerLaws.{due_partner}
use Rattle.findings.specs.RefusedLaws.{written-fit, place-fits}
use Rattle.findings.specs.LocatedLaws.{found-there, never-refused, lookup_cases}

-- ---- code, row and partner of a finding
module _ (s : List ℕ) where
  pub partner-fits : is_accepted (outcome s) ≡ true → (f : Finding) → Due (pack_of s) f → Fits f.partner
  partner-fits a f d = by (due_partner (pack_of s) f d)
    where
      by : Partner (pack_of s) f.partner → Fits f.partner
      by (inl e) = omega arith
      by (inr q) = omega (arith, q.1, rows-numbered s a q.0)

  -- code, row and partner of every finding of the report
  pub findings-fit : Every (λ f. AllFit (words_of f)) (reported s)
  findings-fit = subst (Every (λ f. AllFit (words_of f))) (tile-reported s) (outcome_fits (outcome s) (tile_scheme (pack_of s)) codes-sound (rows-numbered s) partner-fits)

  -- the total
  pub total-fits : Fits (length (reported s))
  total-fits = rw (← tile-reported s) (omega (arith, outcome-length (outcome s) (tile_scheme (pack_of s)) 262144 (rows-most s)))

  -- ---- the words of the three answers
  pub report_fits : (b : List ℕ) → AllFit (report_words s b)
  unfolding report_words written_of
  report_fits b =
      let q = place-fits s in
      (q.0, (q.1.0, (q.1.1.0, (total-fits, (omega (arith, total-fits), tt)))))

  -- those of a refusal
  pub turned-fits : (e : Refusal) → outcome s ≡ Err e → AllFit (number e.why ∷ e.table ∷ e.row ∷ [])
  turned-fits e o = rw o at (place-fits s)

  pub lookup_fits : (k : ℕ) (z c r : ℤ) → AllFit (located_words (lookup_of s k z c r))
  unfolding rows_in
  lookup_fits k z c r =
      lookup_cases s k z c r (λ a. AllFit (located_words a))
      (λ e o. (omega arith, turned-fits e o))
      (λ a b. written-fit (none ∷ 10 ∷ 0 ∷ 0 ∷ []) refl)
      (λ a b. by a (tile_at (pack_of s).tiles ((pack_of s).contents.row k).name z c r) refl)
    where
      by : is_accepted (outcome s) ≡ true → (v : Located) → tile_at (pack_of s).tiles ((pack_of s).contents.row k).name z c r ≡ v → AllFit (located_words v)
      by a (Ok (Some i)) e =
          (omega (arith, (found-there (pack_of s).tiles ((pack_of s).contents.row k).name z c r i e).0, rows-numbered s a 5), written-fit (0 ∷ 0 ∷ 0 ∷ []) refl)
      by a (Ok None) e = written-fit (none ∷ 0 ∷ 0 ∷ 0 ∷ []) refl
      by a (Err w) e = absurd (false≢true (sym (never-refused (pack_of s).tiles ((pack_of s).contents.row k).name z c r) ∙ ap is_refused e))

-- ---- reading: a word of some that fit
pub words-read : (ws rest : List ℕ) (k : ℕ) → AllFit ws → k < length ws → le32 (octets_of ws ++ rest) (4 * k) ≡ get_or ws k 0
words-read [] rest k h l = absurd (not-suc-le-zero l)
words-read (w ∷ ws) rest zero h l = le32-word w (octets_of ws ++ rest) h.0
words-read (w ∷ ws) rest (suc k) h l =
    let e : 4 * suc k ≡ 4 + 4 * k = omega arith in
    ap (le32 (octets_of (w ∷ ws) ++ rest)) e ∙ le32-past (word w) (octets_of ws ++ rest) (4 * k) ∙ words-read ws rest k h.1 (le_of_suc-le-suc l)

-- ---- the findings buffer
octets-append : (fs gs : List Finding) → finding_octets (fs ++ gs) ≡ finding_octets fs ++ finding_octets gs
octets-append [] gs = refl
octets-append (f ∷ fs) gs = ap (λ (os : List ℕ). octets_of (words_of f) ++ os) (octets-append fs gs)

octets-length : (fs : List Finding) → length (finding_octets fs) ≡ 12 * length fs
octets-length [] = refl
octets-length (f ∷ fs) = omega (arith, octets-length fs)

-- nothing to write leaves it as it was
pub buffer-none : (b : List ℕ) → buffer_of [] b ≡ b
unfolding buffer_of written_of
buffer-none b = let z : min 0 (room b) ≡ 0 = omega arith in rw z

-- "words past those keep their values"
pub buffer-past : (fs : List Finding) (b : List ℕ) (j : ℕ) → 12 * written_of fs b ≤ j → get_or (buffer_of fs b) j 0 ≡ get_or b j 0
unfolding buffer_of written_of filled
buffer-past fs b j h =
    let os : List ℕ = finding_octets (take (min (length fs) (room b)) fs) in
    let l : length os ≡ 12 * min (length fs) (room b) = octets-length (take (min (length fs) (room b)) fs) ∙ simp length-take (omega arith) in
    ap (λ (n : ℕ). get_or (os ++ drop n b) j 0) (sym l) ∙ filled-past os b j (omega arith)

-- a finding that is written reads, in its place, as its code, row and partner
read-after : (before : List Finding) (f : Finding) (after : List Finding) (rest : List ℕ) (m k : ℕ) → AllFit (words_of f) → k < 3
    → le32 (finding_octets (take (length before + suc m) (before ++ f ∷ after)) ++ rest) (12 * length before + 4 * k) ≡ get_or (words_of f) k 0
read-after before f after rest m k h l =
    rw (take-append-add before (f ∷ after) (suc m), octets-append before (f ∷ take m after), append_assoc (finding_octets before) (finding_octets (f ∷ take m after)) rest, ← octets-length before)
    (le32-past (finding_octets before) (octets_of (words_of f) ++ (finding_octets (take m after) ++ rest)) (4 * k) ∙ words-read (words_of f) (finding_octets (take m after) ++ rest) k h l)

pub finding-read : (b : List ℕ) (before : List Finding) (f : Finding) (after : List Finding) (k : ℕ) → AllFit (words_of f) → length before < written_of (before ++ f ∷ after) b → k < 3
    → le32 (buffer_of (before ++ f ∷ after) b) (12 * length before + 4 * k) ≡ get_or (words_of f) k 0
unfolding buffer_of
finding-read b before f after k h l m =
    let e : length before + suc (written_of (before ++ f ∷ after) b - suc (length before)) ≡ written_of (before ++ f ∷ after) b = omega arith in
    subst (λ (w : ℕ). le32 (finding_octets (take w (before ++ f ∷ after)) ++ drop (12 * written_of (before ++ f ∷ after) b) b) (12 * length before + 4 * k) ≡ get_or (words_of f) k 0) e
    (read-after before f after (drop (12 * written_of (before ++ f ∷ after) b) b) (written_of (before ++ f ∷ after) b - suc (length before)) k h m)
