-- `spelling::names::is_extension_name` meets its contract.
use Rattle.std.proofs.Common.{◌≡◌, rules, refl, length, arith}
use Rattle.std.proofs.lemmas.Grind.{common_steps}
use Rattle.octets.specs.Search.{first, any}
use Rattle.octets.proofs.SearchLaws.{any_by, first_by}
use Rattle.spelling.specs.ExtensionNames.{strange_at, first_underscore, underscore_at, inside, is_extension_name}
use Rattle.spelling.proofs.names.is_extension_name.Goals as goal

pub returns-then-underscore-s : goal.returns-then-underscore-s
unfolding first is_extension_name inside underscore_at strange_at
returns-then-underscore-s c =
    let f : c.first-underscore.result ≡ first_underscore c.args.s.now = first_by _ _ _ _ refl (λ k b s l h. search rules) _ c.first-underscore.ensures in
    let e : c.any.result ≡ any (strange_at c.args.s.now) (length c.args.s.now) = any_by _ _ _ _ refl (λ k b s l h. search rules) _ c.any.ensures in
    grind (arith, common_steps)

pub returns-else-underscore-s : goal.returns-else-underscore-s
unfolding first is_extension_name inside underscore_at
returns-else-underscore-s c =
    let f : c.first-underscore.result ≡ first_underscore c.args.s.now = first_by _ _ _ _ refl (λ k b s l h. search rules) _ c.first-underscore.ensures in
    grind (arith, common_steps)
