use Rattle.std.proofs.Common.{refl}
use Rattle.link_tables.specs.declared.names.NameTable.{NameTable}
use Rattle.link_tables.proofs.NameTables.{same_entries}
use Rattle.link_tables.proofs.names.NameTable.reserve.Goals as goal

pub returns : goal.returns
returns c = λ rows ix.
    let old = c.args.self.now in
    let new : NameTable = record { public = c.reserve.new.self; own = old.own; units = old.units } in
    same_entries rows old new c.reserve.ensures.entries refl refl ix
