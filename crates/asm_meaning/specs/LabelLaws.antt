-- Where labels are: a label's place is the sum of the lengths of the statements before it, and the linker takes it from there.
use Rattle.std.proofs.Common.{◌≡◌, ◌≢◌, ℕ, ◌+◌, true, false, List, [], ◌∷◌, ◌++◌, length, map, Some, Ok}
use Rattle.std.specs.Prelude.{slice_get, sum}
use Rattle.std.specs.List.{AllByRecursion}
use Rattle.omf_format.specs.declared.codes.TheConstants.{DIRECTIVE_LABEL}
use Rattle.omf_format.specs.Expression.{Tree}
use Rattle.omf_format.specs.File as format
use Rattle.omf_format.specs.Record.{Record, Label}
use Rattle.orca_meaning.specs.Line.{Line, part}
use Rattle.object_meaning.specs.Sizes.{Located, records_with_offsets}
use Rattle.asm_meaning.specs.declared.directives.Class.{Class}
use Rattle.asm_meaning.specs.declared.directives.Directive.TheVariants as directives
use Rattle.asm_meaning.specs.declared.directives.Operation.{Operation}
use Rattle.asm_meaning.specs.declared.directives.Operation.TheVariants.{Direct}
use Rattle.asm_meaning.specs.Operations.{operation_of}
use Rattle.asm_meaning.specs.Pieces.{place_after, length_at}
use Rattle.asm_meaning.specs.State.{StartedSegment, State, start, cells_of, local_of, with_local_record}
use Rattle.asm_meaning.specs.Statement.{equate, label_of, IsStep}
use Rattle.asm_meaning.specs.Object.{AreSteps}

-- each statement moves the place by its length, whether it has a label or not
abbrev pub LengthsAdd : Type 0
LengthsAdd = (label : List ℕ) (form : ℕ) (contents : List Record) (s : StartedSegment) → cells_of (with_local_record label form contents s) ≡ cells_of s + length_at (cells_of s) contents

-- a statement's LOCAL is before its records, where the cells of the statements before it end
abbrev pub LocalStandsBefore : Type 0
LocalStandsBefore = (byte : ℕ) (label : List ℕ) (form : ℕ) (contents : List Record) (s : StartedSegment)
    → (with_local_record (byte ∷ label) form contents s).body ≡ s.body ++ (local_of (byte ∷ label) form (length_at (cells_of s) contents) ++ contents)

-- in a segment with these records the linker finds the record after others at the place where their cells end
abbrev pub LinkerSeesPlace : Type 0
LinkerSeesPlace = (s : format.Segment) (before following : List Record) (r : Record) → map (λ found. found.1) s.records ≡ before ++ r ∷ following
    → (l : Located) × (slice_get (records_with_offsets s) (length before) ≡ Some l) × (l.content ≡ r) × (l.location ≡ place_after 0 before)

-- ---- the statements of a segment

-- What a statement that leaves its segment open puts at the segment's end, and its length: ENTRY a GLOBAL of length 0, EQU and GEQU
-- their record, which gives no cells, and any other LOCAL with its length, where it has a label, and then its records, whose cells
-- are that length.
abbrev pub HasPut : Operation → List ℕ → StartedSegment → StartedSegment → ℕ → Type 0
HasPut (Direct directives.Entry) label s t size = (t.body ≡ s.body ++ Label true label 0 DIRECTIVE_LABEL 0 ∷ []) × (size ≡ 0)
HasPut (Direct directives.Equ) label s t size = (tree : Tree) × (t.body ≡ s.body ++ equate false label tree ∷ []) × (size ≡ 0)
HasPut (Direct directives.Gequ) label s t size = (tree : Tree) × (t.body ≡ s.body ++ equate true label tree ∷ []) × (size ≡ 0)
HasPut operation label s t size =
    (form : ℕ) × (contents : List Record) × (t.body ≡ s.body ++ (local_of label form size ++ contents)) × (size ≡ length_at (cells_of s) contents)

-- the line is a statement of the open segment and leaves it open, with this length
pub record IsWithin (state : State) (s : StartedSegment) (line : Line) (size : ℕ) (next : State) (t : StartedSegment) : Type 0 where
  pub step : IsStep state line (Ok next)
  pub operation : Operation
  pub is_operation : operation_of (part line.text line.fields.operation) ≡ Some operation
  pub label : List ℕ
  pub is_label : label_of state operation (part line.text line.fields.label) ≡ Ok label
  pub open' : next.segment ≡ Some t
  pub puts : HasPut operation label s t size

-- these lines are such statements one after another, with these lengths
abbrev pub AreWithin : State → StartedSegment → List Line → List ℕ → State → StartedSegment → Type 0
AreWithin state s [] [] last t = (state ≡ last) × (s ≡ t)
AreWithin state s (line ∷ lines) (size ∷ sizes) last t = (next : State) × (u : StartedSegment) × IsWithin state s line size next u × AreWithin next u lines sizes last t
AreWithin state s _ _ last t = ⊥

-- END isn't among the lines
abbrev pub HaveNoEnd : List Line → Type 0
HaveNoEnd lines = AllByRecursion (λ line. operation_of (part line.text line.fields.operation) ≢ Some (Direct directives.End)) lines

-- Of a source's lines without a fault, after the line that begins a segment and up to its END: the place at which a statement
-- begins, where its label is, is the sum of the lengths of the statements before it in the segment.
abbrev pub PlaceIsSum : Type 0
PlaceIsSum = (before lines : List Line) (opening : Line) (class : Class) (last : State) → AreSteps start (before ++ opening ∷ lines) last
    → operation_of (part opening.text opening.fields.operation) ≡ Some (Direct (directives.Begin class)) → HaveNoEnd lines
    → (first : State) × (s : StartedSegment) × (sizes : List ℕ) × (t : StartedSegment) × (first.segment ≡ Some s) × AreWithin first s lines sizes last t × (last.segment ≡ Some t)
    × (cells_of t ≡ sum sizes)
