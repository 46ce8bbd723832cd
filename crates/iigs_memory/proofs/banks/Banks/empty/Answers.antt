use Rattle.std.proofs.lemmas.Result.{on_ok_weaker}
use Rattle.iigs_meaning.specs.Moves.{Empties}
use Rattle.iigs_memory.proofs.Stores.{keeps_stays}
use Rattle.iigs_places.proofs.Moved.{emptied_stays}
use Rattle.iigs_memory.proofs.banks.Banks.empty.Goals as goal

pub returns-clause-emptied : goal.returns-clause-emptied
returns-clause-emptied c =
    on_ok_weaker c.empty.result
    (λ (e : Empties c.self.inside.places.slots c.args.h c.empty.new.self.slots). rw (← c.self.view_is, c.empty.ensures.banks) (record {
      empties = e;
      kept = rw e.next_is (keeps_stays c.self.inside.places.banks c.self.inside.bytes.items c.self.inside.places.slots _
          (emptied_stays c.self.inside.places.slots c.args.h e.block e.was c.self.inside.places.banks c.know_arranged.ensures));
    }))
    c.empty.ensures.emptied
