use Rattle.tcb_pool.proofs.TableFacts.{alone}
use Rattle.tcb_pool.proofs.tables.Tcbs.stand_alone.Goals as goal

pub returns : goal.returns
returns c = rw (← c.self.view_is) (alone c.self.inside.records)
