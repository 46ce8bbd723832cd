use Rattle.orca_symbols.specs.ModelView.{model}
use Rattle.orca_symbols.specs.View.{symbols_of}
use Rattle.orca_symbols.proofs.Binds.{bound_is}
use Rattle.orca_symbols.proofs.call.bind_arguments.Goals as goal

pub returns : goal.returns
returns c =
    bound_is (model c.args.of.now) c.args.label.bytes.now c.args.operand.bytes.now c.as_slice-parameters.result.now c.in-Some.place
    (symbols_of c.in_ok-symbols.symbols) (symbols_of c.bind_all.new.symbols) (symbols_of c.bind_label.new.symbols) (symbols_of c.bind_rest.new.symbols)
    c.as_slice-parameters.ensures.value c.in_ok-symbols.ensures (rw c.in-Some.is at c.in_ok-place.ensures.all) (rw c.in-Some.is at c.in_ok-place.ensures.reached)
    c.in_ok-bind_label.ensures c.in_ok-bind_rest.ensures
