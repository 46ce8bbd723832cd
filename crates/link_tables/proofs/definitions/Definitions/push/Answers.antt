use Rattle.link_tables.specs.declared.definitions.Definitions.{Definitions}
use Rattle.link_tables.specs.Names.{key_of}
use Rattle.link_tables.proofs.OnOks.{on_ok}
use Rattle.link_tables.proofs.DefinitionLaws.{pushed}
use Rattle.link_tables.proofs.definitions.Definitions.push.Goals as goal

pub returns : goal.returns
returns c =
    let new : Definitions = record { names = c.add.new.self; locals = c.add_local.new.locals; items = c.push.new.self } in
    on_ok c.push.result _ _
    (λ items fs f are key reported. pushed fs f c.args.self.now new (key_of c.args.key) c.count-number.result c.args.definition are key reported c.count-number.ensures.value c.in_ok-add.ensures items c.in_ok-add_local.ensures)
    c.push.ensures
