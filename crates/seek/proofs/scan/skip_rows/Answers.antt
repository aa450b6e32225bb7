-- `seek::scan::skip_rows` meets its contract.
use Rattle.std.proofs.Common.{arith}
use Rattle.std.proofs.lemmas.Grind.{common_steps}
use Rattle.octets.specs.SkipLaws.{skipped_start}
use Rattle.seek.specs.ScanLaws.{skipped_by}
use Rattle.seek.proofs.scan.skip_rows.Goals as goal

pub returns : goal.returns
returns c = skipped_by _ _ _ _ _ _ (skipped_start _ _ _ c.requires.0) (λ k a b h. grind (arith, common_steps)) c.first.ensures
