-- Lines of definitions, as words of contracts between functions.
use Rattle.std.specs.Prelude.{ℕ, List, []}
use Rattle.std.specs.List.{flat_map}
use Rattle.omf_format.specs.declared.value.Value.{Value}
use Rattle.omf_format.specs.declared.value.ValueFault.{ValueFault}
use Rattle.omf_format.specs.Header.{HeaderFields}
use Rattle.object_meaning.specs.Defines.{Scope, ForSegment, ForUnit, ForAll, Definition, defined_in}
use Rattle.link_meaning.specs.Member.{Member}
use Rattle.link_meaning.specs.Layout.{load_headers}
use Rattle.link_meaning.specs.LinkValues.{EquateAnswer}
use Rattle.link_meaning.specs.LinkWritten.{export_at}
use Rattle.std.specs.Prelude.{Result}
use Rattle.link_map.specs.declared.symbols.Listed.{Listed}
use Rattle.link_map.specs.declared.symbols.Listed.TheVariants.{Symbols, Exports}
use Rattle.link_map.specs.declared.symbols.Seen.{Seen}
use Rattle.link_map.specs.declared.symbols.Seen.TheVariants.{Local, Private, Public}
use Rattle.link_map.specs.MapText.{scope_text, symbol_text, meant_by, export_line}

-- who sees a name
abbrev pub scope_as : Seen → Scope
scope_as Local = ForSegment
scope_as Private = ForUnit
scope_as Public = ForAll

-- the line of a name that all see, where its value is a place that is exported
abbrev pub exported_text : List HeaderFields → Scope → List ℕ → Result Value ValueFault → List ℕ
exported_text headers ForSegment name value = []
exported_text headers ForUnit name value = []
exported_text headers ForAll name value = flat_map export_line (export_at headers name value)

-- the line of a name with this value, of symbols or of exports
abbrev pub value_line : Listed → List HeaderFields → Scope → List ℕ → Result Value ValueFault → List ℕ
value_line Symbols headers scope name value = symbol_text (scope_text scope) name value
value_line Exports headers scope name value = exported_text headers scope name value

-- the line of a definition
abbrev pub definition_line : Listed → List Member → List EquateAnswer → ℕ → Member → Definition → List ℕ
definition_line listed list table place m d = value_line listed (load_headers list) d.scope d.name (meant_by list table place m d)

-- the lines of all that a member exports
abbrev pub exported_in : List Member → List EquateAnswer → ℕ → Member → List ℕ
exported_in list table place m = flat_map (definition_line Exports list table place m) (defined_in m.segment)
