-- How records and what a reader answers are seen.
use Rattle.std.specs.Prelude.{ℕ, List, [], ◌∷◌, Option, Some, None, Result, Ok, Err}
use Rattle.omf_format.specs.declared.fault.RecordFault.{RecordFault}
use Rattle.omf_format.specs.Field as field
use Rattle.omf_format.specs.Record.{Record}
use Rattle.omf_format.specs.Record as format
use Rattle.omf_records.specs.declared.layout.Layout.{Layout}
use Rattle.omf_records.specs.declared.record.Rec.{Rec}
use Rattle.omf_records.specs.declared.record.Rec.TheVariants as rec

-- a record without where its bytes lie
abbrev pub view : Rec → Record
view rec.End = format.End
view (rec.Const bytes) = format.Const bytes.now
view (rec.LongConst bytes) = format.LongConst bytes.now
view (rec.Align n) = format.Align n
view (rec.Org n) = format.Org n
view (rec.Space n) = format.Space n
view (rec.Reloc count shift location offset) = format.Reloc count shift location offset
view (rec.InterSeg count shift location file segment offset) = format.InterSeg count shift location file segment offset
view (rec.ShortReloc count shift location offset) = format.ShortReloc count shift location offset
view (rec.ShortInterSeg count shift location segment offset) = format.ShortInterSeg count shift location segment offset
view (rec.Super form bytes) = format.Super form bytes.now
view (rec.Using name) = format.Using name.now
view (rec.Strong name) = format.Strong name.now
view (rec.Label global name size form private) = format.Label global name.now size form private
view (rec.Equate global name size form private expr) = format.Equate global name.now size form private expr.now
view (rec.Formula code count n expr) = format.Formula code count n expr.now
view (rec.Entry segment offset name) = format.Entry segment offset name.now

-- a layout, with the bytes that a label's length has
abbrev pub view_layout : Layout → field.Layout
view_layout l = field.layout_of l.version l.lab_len

-- what a call of `next` answered
abbrev pub record_answer : Result (Option (ℕ × Rec)) RecordFault → Result (Option (ℕ × Record)) RecordFault
record_answer (Ok None) = Ok None
record_answer (Ok (Some found)) = Ok (Some (found.0, view found.1))
record_answer (Err fault) = Err fault

-- the first item of a list, and the items after it
abbrev pub first : List ℕ → Option ℕ
first [] = None
first (x ∷ xs) = Some x

abbrev pub bytes_after_first : List ℕ → List ℕ
bytes_after_first [] = []
bytes_after_first (x ∷ xs) = xs
