-- How a model line is seen.
use Rattle.macro_meaning.specs.Definition as meaning
use Rattle.orca_symbols.specs.declared.model_line.ModelLine.{ModelLine}

-- a model line
abbrev pub model : ModelLine → meaning.Model
model m = record { name = m.name; label = m.label; parameters = m.parameters.items }
