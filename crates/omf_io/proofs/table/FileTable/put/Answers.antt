use Rattle.std.proofs.Common.{◌∙◌, ap, string_bytes}
use Rattle.std.specs.FinMap as map
use Rattle.omf_io.proofs.Tables.{put_file}
use Rattle.omf_io.proofs.table.FileTable.put.Goals as goal

pub returns-clause-ok : goal.returns-clause-ok
returns-clause-ok c =
    let placed = put_file c.self.inside.files c.insert.new.self (string_bytes c.in_ok-path.path) c.in_ok-bytes.bytes c.in_ok-insert.ensures.updates in
    rw (c.in_ok-path.ensures.ok, c.in_ok-bytes.ensures.items) at placed ∙ ap (λ m. map.insert m c.args.path.now c.args.bytes.now) c.self.view_is
