-- A part of the table of directives.
use Rattle.std.specs.Prelude.{ℕ, List, ◌∷◌, codes, map}
use Rattle.asm_meaning.specs.declared.directives.Switch.TheVariants.{LongA, LongI, Msb}
use Rattle.asm_meaning.specs.declared.directives.Directive.{Directive}
use Rattle.asm_meaning.specs.declared.directives.Directive.TheVariants.{Constants, Space, Align, Org, Kind, Turn, Nothing}
use Rattle.asm_meaning.specs.Operations.{ignored_directives, as_ignored}

-- those after GEQU
abbrev pub directives_after_gequ : List (List ℕ × Directive)
directives_after_gequ =
    (codes "DC", Constants) ∷ (codes "DS", Space) ∷ (codes "ALIGN", Align) ∷ (codes "ORG", Org) ∷ (codes "KIND", Kind) ∷
    (codes "LONGA", Turn LongA) ∷ (codes "LONGI", Turn LongI) ∷ (codes "MSB", Turn Msb) ∷ (codes "ANOP", Nothing) ∷ map as_ignored ignored_directives
