use Rattle.std.proofs.Common.{refl}
use Rattle.std.proofs.lemmas.Result.{err_from_is_err_and}
use Rattle.sys_loader.specs.Following.{NoJsl, NoPlace}
use Rattle.sys_loader.proofs.Reaching.{loaned_size}
use Rattle.sys_loader.proofs.loader.Loader.jsl_place.Goals as goal

pub called_address-requires : goal.called_address-requires
called_address-requires c = loaned_size c.args.self.now c.recall_invariant.ensures c.args.user c.args.segment c.args.at 4 c.in_ok-four.four.now c.in_ok-four.ensures.borrowed

pub returns-in_err-address-clause-refused : goal.returns-in_err-address-clause-refused
returns-in_err-address-clause-refused c =
    let p = err_from_is_err_and c.from_residual-in_err-address.result c.from_residual-in_err-address.ensures.1 in
    rw (p.1, p.2) (NoJsl c.in_ok-four.four.now c.in_ok-four.ensures.borrowed c.in_err-address.ensures.err)

pub returns-in-None-clause-refused : goal.returns-in-None-clause-refused
returns-in-None-clause-refused c =
    let jsl = c.in_ok-address.ensures.ok in
    NoPlace c.in_ok-address.address (record { bytes = c.in_ok-four.four.now; borrowed = c.in_ok-four.ensures.borrowed; jsl = jsl.0; address_is = jsl.1 }) c.in-None.ensures refl
