-- How the fields of a line, lines and terms are seen.
use Rattle.orca_meaning.specs.Line as meaning
use Rattle.omf_format.specs.Expression as expression
use Rattle.orca_text.specs.declared.fields.LineFields.{LineFields}
use Rattle.orca_text.specs.declared.formula_term.FormulaTerm.{FormulaTerm}
use Rattle.orca_text.specs.declared.formula_term.FormulaTerm.TheVariants.{Operator, Location, Constant, Named, Offset}
use Rattle.orca_text.specs.declared.line.SourceLine.{SourceLine}

-- the places of a line's fields
abbrev pub fields : LineFields → meaning.LineFields
fields f = record { label = f.label; operation = f.operation; operand = f.operand }

-- a line with its file, its number and the places of its fields
abbrev pub line : SourceLine → meaning.Line
line l = record {
  file = l.file;
  number = l.line;
  text = l.text;
  fields = record { label = l.label; operation = l.operation; operand = l.operand };
}

-- a term as that of an expression
abbrev pub term : FormulaTerm → expression.Term
term (Operator code) = expression.Operator code
term Location = expression.Location
term (Constant n) = expression.Constant n
term (Named code name) = expression.Named code name
term (Offset n) = expression.Offset n
