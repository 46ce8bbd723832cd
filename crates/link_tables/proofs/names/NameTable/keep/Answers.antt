use Rattle.std.proofs.Common.{refl, sym, subst}
use Rattle.link_meaning.specs.declared.search.SearchStep.{SearchStep}
use Rattle.link_tables.specs.declared.names.NameTable.{NameTable}
use Rattle.link_tables.specs.declared.names.OwnName.{OwnName}
use Rattle.link_tables.specs.declared.names.UnitName.{UnitName}
use Rattle.link_tables.specs.declared.names.PublicName.{PublicName}
use Rattle.link_tables.specs.Names.{Keeps}
use Rattle.link_tables.proofs.NameTables.{named_as, keeps_public, keeps_own, keeps_unit}
use Rattle.link_tables.proofs.names.NameTable.keep.Goals as goal

pub returns-in_ok-before-in-Everyone-clause-kept : goal.returns-in_ok-before-in-Everyone-clause-kept
returns-in_ok-before-in-Everyone-clause-kept c =
    let old = c.args.self.now in
    let new : NameTable = record old { public = c.insert.new.self } in
    let k : PublicName = record { name = c.args.key.name } in
    subst (λ (s : SearchStep). Keeps old new (named_as s c.args.key.name.now) c.args.found) (sym c.in-Everyone.is)
    (keeps_public old new k c.args.found c.in_ok-before-in-Everyone.ensures.updates refl refl)

pub returns-in_ok-before-in-Within-clause-kept : goal.returns-in_ok-before-in-Within-clause-kept
returns-in_ok-before-in-Within-clause-kept c =
    let old = c.args.self.now in
    let new : NameTable = record old { own = c.insert-in-Within.new.self } in
    let k : OwnName = record { place = c.in-Within.place; name = c.args.key.name } in
    subst (λ (s : SearchStep). Keeps old new (named_as s c.args.key.name.now) c.args.found) (sym c.in-Within.is)
    (keeps_own old new k c.args.found c.in_ok-before-in-Within.ensures.updates refl refl)

pub returns-in_ok-before-in-OfUnit-clause-kept : goal.returns-in_ok-before-in-OfUnit-clause-kept
returns-in_ok-before-in-OfUnit-clause-kept c =
    let old = c.args.self.now in
    let new : NameTable = record old { units = c.insert-in-OfUnit.new.self } in
    let k : UnitName = record { file = c.in-OfUnit.file; from = c.in-OfUnit.from; name = c.args.key.name } in
    subst (λ (s : SearchStep). Keeps old new (named_as s c.args.key.name.now) c.args.found) (sym c.in-OfUnit.is)
    (keeps_unit old new k c.args.found c.in_ok-before-in-OfUnit.ensures.updates refl refl)
