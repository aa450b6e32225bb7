-- `desterlin::put_summary` meets its contract.
use Rattle.std.proofs.Common.{refl}
use Rattle.desterlin.specs.Calls.{summary_words}
use Rattle.desterlin.proofs.Laws.{refused_words}
use Rattle.desterlin.proofs.put_summary.Goals as goal

pub returns-in-Err : goal.returns-in-Err
returns-in-Err c = refused_words _ _ _ c.in-Err.is c.from-number.ensures summary_words _ _ _ refl c.put_words-in-Err.ensures
