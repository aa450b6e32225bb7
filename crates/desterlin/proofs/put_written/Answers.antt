-- `desterlin::put_written` meets its contract.
use Rattle.std.proofs.Common.{refl}
use Rattle.desterlin.specs.Calls.{written_words}
use Rattle.desterlin.proofs.Laws.{refused_words}
use Rattle.desterlin.proofs.put_written.Goals as goal

pub returns-in-Err : goal.returns-in-Err
returns-in-Err c = refused_words _ _ _ c.in-Err.is c.from-number.ensures written_words _ _ _ refl c.put_words-in-Err.ensures
