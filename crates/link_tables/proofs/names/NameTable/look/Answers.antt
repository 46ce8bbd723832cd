use Rattle.std.proofs.Common.{◌∙◌}
use Rattle.link_meaning.specs.declared.search.SearchStep.TheVariants.{Within, OfUnit, Everyone}
use Rattle.link_tables.specs.Names.{key_of}
use Rattle.link_tables.proofs.NameTables.{looked}
use Rattle.link_tables.proofs.names.NameTable.look.Goals as goal

pub returns-in-Everyone : goal.returns-in-Everyone
returns-in-Everyone c = λ rows ix. c.look_public.ensures ∙ looked rows c.args.self.now (key_of c.args.key) Everyone ix c.in-Everyone.is

pub returns-in-Within : goal.returns-in-Within
returns-in-Within c = λ rows ix. c.look_own.ensures ∙ looked rows c.args.self.now (key_of c.args.key) (Within c.in-Within.place) ix c.in-Within.is

pub returns-in-OfUnit : goal.returns-in-OfUnit
returns-in-OfUnit c = λ rows ix. c.look_unit.ensures ∙ looked rows c.args.self.now (key_of c.args.key) (OfUnit c.in-OfUnit.file c.in-OfUnit.from) ix c.in-OfUnit.is
