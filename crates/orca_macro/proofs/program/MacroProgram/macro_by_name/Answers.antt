use Rattle.std.proofs.Common.{map, length, ap, sym, ◌∙◌, arith}
use Rattle.std.proofs.lemmas.List.{length-map}
use Rattle.orca_macro.specs.Parts.{definition}
use Rattle.orca_macro.proofs.Firsts.{within}
use Rattle.orca_macro.proofs.program.MacroProgram.macro_by_name.Goals as goal

pub unreachable-requires : goal.unreachable-requires
unreachable-requires c =
    let few = within c.args.name.now (map definition c.self.inside.definitions.items) c.in-Some.place.now (sym (c.self.invariant c.args.name.now) ∙ sym c.in-Some.ensures) in
    omega (arith, few, c.in-None.ensures, ap length c.as_slice.ensures.value, length-map c.self.inside.definitions.items definition)
