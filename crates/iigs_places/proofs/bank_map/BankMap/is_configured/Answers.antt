use Rattle.std.proofs.Common.{◌≡◌, ◌∙◌, sym, true, false}
use Rattle.iigs_places.specs.Offsets.{is_named}
use Rattle.iigs_places.proofs.Counts.{named_of_less, named-Contains}
use Rattle.iigs_places.proofs.bank_map.BankMap.is_configured.Goals as goal

pub returns-clause-yes : goal.returns-clause-yes
returns-clause-yes c less = (named-Contains c.args.self.now c.args.bank).0
    (sym (named_of_less c.args.self.now c.args.bank _ _ c.start_of.ensures.value c.start_of-2.ensures.value) ∙ less)

pub returns-clause-no : goal.returns-clause-no
returns-clause-no c less named =
    let is : is_named c.args.self.now c.args.bank ≡ true = (named-Contains c.args.self.now c.args.bank).1 named in
    let no : true ≡ false = sym is ∙ sym (named_of_less c.args.self.now c.args.bank _ _ c.start_of.ensures.value c.start_of-2.ensures.value) ∙ less in
    cc
