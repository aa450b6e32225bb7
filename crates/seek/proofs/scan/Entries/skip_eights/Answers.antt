-- `seek::scan::Entries::skip_eights` meets its contract.
use Rattle.std.proofs.Common.{rules}
use Rattle.seek.specs.ScanLaws.{skipped_eights, counted_nothing}
use Rattle.seek.proofs.scan.Entries.skip_eights.Goals as goal

pub returns : goal.returns
returns c = skipped_eights _ _ _ _ _ c.requires (λ e a h. search (counted_nothing, rules)) c.first-eights.ensures
