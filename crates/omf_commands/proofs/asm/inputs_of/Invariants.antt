use Rattle.std.proofs.Common.{◌≡◌, ◌∷◌, take}
use Rattle.omf_making.specs.Words.{words_of}
use Rattle.omf_commands.proofs.asm.inputs_of.Given as goal

-- the source's path and those of the macro files so far
abbrev pub invariant-macros : goal.invariant-macros
invariant-macros l = words_of l.inputs.items ≡ l.source ∷ words_of (take l.path-index l.macros)
