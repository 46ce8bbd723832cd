use Rattle.std.proofs.Common.{◌≡◌, ◌≤◌, ℕ, List, length, slice_get, Some, sym, ap, ◌∙◌, rules}
use Rattle.std.proofs.lemmas.Option.{slice_get-get_or}
use Rattle.orca_symbols.specs.View.{symbols_of}
use Rattle.orca_symbols.proofs.Binds.{missing_next, missing_end}
use Rattle.orca_symbols.proofs.call.bind_rest.Goals as goal

pub returns : goal.returns
returns c =
    let end : length c.args.parameters.now ≤ c.parameters.at = search rules in
    missing_end c.args.parameters.now c.parameters.at (symbols_of c.parameters.symbols) _ end c.parameters.invariant

pub parameters-preserved : goal.parameters-preserved
parameters-preserved c =
    let is : slice_get c.args.parameters.now c.parameters.at ≡ Some c.in-Some.parameter.now =
    slice_get-get_or c.args.parameters.now c.parameters.at c.in-Some.parameter.now c.in-Some.ensures.lookup.3.0 ∙ ap (λ (n : List ℕ). Some n) (sym c.in-Some.ensures.lookup.1) in
    missing_next c.args.parameters.now c.parameters.at c.in-Some.parameter.now (symbols_of c.parameters.symbols) (symbols_of c.bind_missing.new.symbols) _ is c.parameters.invariant c.in_ok-bind_missing.ensures
