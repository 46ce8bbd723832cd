-- Statements that give cells to the segment that is open.
use Rattle.std.proofs.Common.{◌≡◌, ℕ, ◌+◌, ◌<◌, ◌≤◌, List, [], ◌∷◌, ◌++◌, length, replicate, Option, sym, ap, ◌∙◌, append_assoc, arith}
use Rattle.omf_format.specs.Field.{written_layout}
use Rattle.omf_format.specs.Record.{Record, spelling}
use Rattle.object_meaning.specs.Sizes.{size_at}
use Rattle.asm_meaning.specs.laws.LabelProofs.{lengths_add}
use Rattle.asm_meaning.specs.Object.{records_text}
use Rattle.asm_meaning.specs.Pieces.{length_at}
use Rattle.asm_meaning.specs.State.{StartedSegment, cells_of, local_of, with_local_record}
use Rattle.orca_object.specs.BodyView.{ShowsBody}
use Rattle.orca_object.specs.declared.state.SegmentBody.{SegmentBody}
use Rattle.orca_object.specs.declared.state.OpenSegment.{OpenSegment}
use Rattle.orca_object.specs.StateView.{ShowsSegment, with_local_label}
use Rattle.orca_operands.specs.TextView.{text_within_limit, kept_text}
use Rattle.orca_object.proofs.Bodies.{records_text-append, one_text}
use Rattle.orca_object.proofs.OpenLaws.{length_at-one}
use Rattle.orca_operands.proofs.Putting.{Grows}

-- a label with its LOCAL, and after it records that give `size` cells
pub marked_grown : (label : List ℕ) (form size : ℕ) (contents : List Record) (s : StartedSegment) (o : OpenSegment) (b : SegmentBody) → ShowsSegment (with_local_label label form size s) o → o.body.cells ≡ cells_of s → size ≡ length_at (cells_of s) contents
    → b.cells ≡ o.body.cells + size → Grows (kept_text o.body.writer.text) (kept_text b.writer.text) (records_text contents) → ShowsBody (0x37 + length s.header.name) (with_local_record label form contents s).body b
marked_grown label form size contents s o b shown cells is more grows =
    let local = local_of label form size in
    let same : s.body ++ (local ++ contents) ≡ s.body ++ (local_of label form (length_at (cells_of s) contents) ++ contents) =
    ap (λ (k : ℕ). s.body ++ (local_of label form k ++ contents)) is in
    let front = replicate (0x37 + length s.header.name) 0 in
    record {
      text = grows (front ++ records_text (s.body ++ local)) shown.body.text
          ∙ ap text_within_limit (append_assoc front (records_text (s.body ++ local)) (records_text contents)
          ∙ ap (λ (l : List ℕ). front ++ l) (sym (records_text-append (s.body ++ local) contents) ∙ ap records_text (append_assoc s.body local contents ∙ same)));
      cells = omega (arith, cells, is, more, lengths_add label form contents s);
    }

-- a statement that gives more cells than any segment may have
pub marked_long : (label : List ℕ) (form size cells : ℕ) (contents : List Record) (s : StartedSegment) → cells ≡ cells_of s → size ≤ length_at (cells_of s) contents → 0xFFFFFF < cells + size → 0xFFFFFF < cells_of (with_local_record label form contents s)
marked_long label form size cells contents s is few many = omega (arith, is, few, many, lengths_add label form contents s)

-- the cells of one record
pub one_size : (size cells : ℕ) (r : Record) (s : StartedSegment) → size ≡ size_at cells r → cells ≡ cells_of s → size ≡ length_at (cells_of s) (r ∷ [])
one_size size cells r s is same = is ∙ ap (λ (k : ℕ). size_at k r) same ∙ sym (length_at-one (cells_of s) r)

-- the text of one record after those of a text
pub grown_one : (old mid new : Option (List ℕ)) (r : Record) → mid ≡ old → Grows mid new (spelling written_layout r) → Grows old new (records_text (r ∷ []))
grown_one old mid new r same grows text is = grows text (same ∙ is) ∙ ap (λ (l : List ℕ). text_within_limit (text ++ l)) (sym (one_text r))

pub grown_same : (old mid new : Option (List ℕ)) (more : List ℕ) → mid ≡ old → Grows mid new more → Grows old new more
grown_same old mid new more same grows text is = grows text (same ∙ is)
