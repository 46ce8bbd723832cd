use Rattle.std.proofs.Common.{Bool, ◌++◌, ◌∷◌, [], sym, subst}
use Rattle.std.specs.Prelude.{if◌then◌else◌}
use Rattle.link_tables.specs.Names.{Indexes, key_of}
use Rattle.link_tables.proofs.OnOks.{on_ok}
use Rattle.link_tables.proofs.offers.add_title.Goals as goal

pub returns-then-titled : goal.returns-then-titled
returns-then-titled c =
    on_ok c.add.result _ _ (λ more rows ix. subst (λ (b : Bool). Indexes (if b then rows ++ (key_of c.args.key, c.args.number) ∷ [] else rows) c.add.new.self) (sym c.if-titled.true) (more rows ix)) c.add.ensures

pub returns : goal.returns
returns c = λ rows ix. subst (λ (b : Bool). Indexes (if b then rows ++ (key_of c.args.key, c.args.number) ∷ [] else rows) c.args.titles.now) (sym c.if-titled.false) ix
