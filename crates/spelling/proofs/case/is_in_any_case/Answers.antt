-- `spelling::case::is_in_any_case` meets its contract.
use Rattle.std.proofs.Common.{◌≡◌, refl, length, arith}
use Rattle.std.proofs.lemmas.Grind.{common_steps}
use Rattle.octets.specs.Search.{first, any}
use Rattle.octets.proofs.SearchLaws.{any_by}
use Rattle.spelling.specs.Characters.{between}
use Rattle.spelling.specs.LetterCase.{unlike, upper, in_any_case}
use Rattle.spelling.proofs.case.is_in_any_case.Goals as goal

pub returns-then-s-word : goal.returns-then-s-word
unfolding first in_any_case unlike upper between
returns-then-s-word c =
    let e : c.any.result ≡ any (unlike c.args.s.now c.args.word.now) (length c.args.s.now) = any_by _ _ _ _ refl (λ k b s l h. grind (arith, common_steps)) _ c.any.ensures in
    grind (arith, common_steps)

pub returns-else-s-word : goal.returns-else-s-word
unfolding in_any_case
returns-else-s-word c = grind (arith, common_steps)
