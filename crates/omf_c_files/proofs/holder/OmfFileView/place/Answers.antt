use Rattle.omf_c_files.specs.Opened.{IsPlaced}
use Rattle.omf_c_files.specs.Held.{inside}
use Rattle.omf_c_files.proofs.Placed.{on_open}
use Rattle.omf_c_files.proofs.holder.OmfFileView.place.Goals as goal

pub returns-clause-answered : goal.returns-clause-answered
returns-clause-answered c =
    on_open (inside c.args.self.now) (IsPlaced c.args.number c.args.addresses.now) c.put_placed-status.result (record { items = c.args.room.now; size = c.args.size.now })
    (record { items = c.put_placed-status.new.room; size = c.put_placed-status.new.size }) c.in-Some.load.value c.deref.result.now c.in-Some.ensures.taken c.deref.ensures c.put_placed-status.ensures
