-- `desterlin::put_checked` meets its contract.
use Rattle.std.proofs.Common.{refl}
use Rattle.desterlin.specs.Calls.{checked_words}
use Rattle.desterlin.proofs.Laws.{refused_words}
use Rattle.desterlin.proofs.put_checked.Goals as goal

pub returns-in-Err : goal.returns-in-Err
returns-in-Err c = refused_words _ _ _ c.in-Err.is c.from-number.ensures checked_words _ _ _ refl c.put_refusal.ensures
