-- `seek::scan::Entries::skip` meets its contract.
use Rattle.std.proofs.Common.{arith}
use Rattle.std.proofs.lemmas.Grind.{common_steps}
use Rattle.seek.specs.ScanLaws.{skipped_by}
use Rattle.seek.proofs.scan.Entries.skip.Goals as goal

pub returns : goal.returns
returns c = skipped_by _ _ _ _ _ _ c.skip_eights-i.ensures (λ k a b h. grind (arith, common_steps)) c.first.ensures
