use Rattle.std.proofs.Common.{Some, refl, sym, ap, subst, ◌∙◌}
use Rattle.iigs_meaning.specs.Banks.{IsBanksRefusal}
use Rattle.loader_agrees.specs.Agrees.{Loaded}
use Rattle.omf_c_loader.specs.Held.{Made, BankTwice}
use Rattle.omf_c_loader.proofs.keeping.make_loader.Goals as goal

pub returns-in-Err-BankTwice : goal.returns-in-Err-BankTwice
returns-in-Err-BankTwice c =
    let why = subst (IsBanksRefusal c.args.banks.now) c.in-Err-BankTwice.field-0-is c.in-Err-BankTwice.ensures.refused in
    BankTwice refl c.in_default.ensures.taken c.in-Err-BankTwice.field-0-0 why (c.take.ensures.empty ∙ sym c.in_default.ensures.taken)

pub returns-in-Ok-new : goal.returns-in-Ok-new
returns-in-Ok-new c =
    let kept = c.put-in-Ok-new.ensures ∙ ap (λ (l : Loaded). Some l) c.in-Ok-new.ensures.ok in
    Made refl c.in_default.ensures.taken c.in-Ok.loader kept c.in-Ok.ensures.empty.0 c.in-Ok.ensures.empty.1 c.in-Ok.ensures.agrees
