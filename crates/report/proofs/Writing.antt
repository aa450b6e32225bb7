-- Words of an answer, one after the other.
use Prim.Native.Nat.{ℕ, suc, ◌+◌, ◌*◌, ◌<◌}
use mathlib.Core.Path.{◌≡◌, refl, sym, ap, ◌∙◌}
use mathlib.Core.List.{List, [], ◌∷◌, ◌++◌, append_assoc, append-nil}
use native.Mathlib.Omega.{arith}
use lib.ListN.{length, take, get_or}
use lib.Seq.{sets, take-suc}
use Rattle.std.proofs.Common.{length-take, add-one}
use Rattle.octets.specs.BufferLaws.{sets-append}
use Rattle.octets.specs.Octets.{word}
use Rattle.std.specs.Prelude.{Err}
use Rattle.listing.specs.Refusals.{number}
use Rattle.listing.specs.declared.Refusal.{Refusal}
use Rattle.rules.specs.Judgments.{none}
use Rattle.findings.specs.Words.{octets_of, ruling_words, located_words}
use Rattle.findings.specs.Answers.{Verdict, Located}

-- one word more behind those that are there
more-octets : (ws vs : List ℕ) → octets_of (ws ++ vs) ≡ octets_of ws ++ octets_of vs
more-octets [] vs = refl
more-octets (w ∷ ws) vs = ap (λ (os : List ℕ). word w ++ os) (more-octets ws vs) ∙ sym (append_assoc (word w) (octets_of ws) (octets_of vs))

octets-length : (ws : List ℕ) → length (octets_of ws) ≡ 4 * length ws
octets-length [] = refl
octets-length (w ∷ ws) = omega (arith, octets-length ws)

pub one_more : (b b₁ b₂ ws : List ℕ) (at k : ℕ) → b₁ ≡ sets b at (octets_of (take k ws)) → b₂ ≡ sets b₁ (at + 4 * k) (word (get_or ws k 0)) → k < length ws
    → b₂ ≡ sets b at (octets_of (take (k + 1) ws))
one_more b b₁ b₂ ws at k p q h =
    let n : length (octets_of (take k ws)) ≡ 4 * k = octets-length (take k ws) ∙ simp length-take (omega arith) in
    let e : octets_of (take (k + 1) ws) ≡ octets_of (take k ws) ++ word (get_or ws k 0) = rw (add-one, take-suc ws k 0 h, more-octets) (simp append-nil) in
    q ∙ rw (e, sets-append (octets_of (take k ws)) (word (get_or ws k 0)) b at, n, p)

-- the words of a refusal, by its number
module _ (e : Refusal) (n : ℕ) (b b' : List ℕ) where
  pub refused-ruling : (v : Verdict) → v ≡ Err e → n ≡ number e.why → b' ≡ sets b 0 (octets_of (3 ∷ none ∷ n ∷ e.table ∷ e.row ∷ [])) → b' ≡ sets b 0 (octets_of (ruling_words v))
  refused-ruling v f q h = rw f (rw q at h)

  pub refused_located : (a : Located) → a ≡ Err e → n ≡ number e.why → b' ≡ sets b 0 (octets_of (none ∷ n ∷ e.table ∷ e.row ∷ [])) → b' ≡ sets b 0 (octets_of (located_words a))
  refused_located a f q h = rw f (rw q at h)
