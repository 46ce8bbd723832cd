-- One more record.
use Rattle.std.proofs.Common.{◌≡◌, ℕ, ◌+◌, List, [], ◌∷◌, ◌++◌, replicate, append_assoc, sym, ap, ◌∙◌, arith}
use Rattle.std.proofs.lemmas.List.Concat.{flat_map-append}
use Rattle.omf_format.specs.Field.{written_layout}
use Rattle.omf_format.specs.Record.{Record, spelling}
use Rattle.object_meaning.specs.Sizes.{size_at}
use Rattle.asm_meaning.specs.Object.{records_text}
use Rattle.asm_meaning.specs.Pieces.{place_after}
use Rattle.asm_meaning.specs.laws.PieceLaws.{place_after-append}
use Rattle.orca_object.specs.declared.state.SegmentBody.{SegmentBody}
use Rattle.orca_operands.specs.declared.record_bytes.RecordBytes.{RecordBytes}
use Rattle.orca_operands.specs.TextView.{text_within_limit, kept_text}
use Rattle.orca_object.specs.BodyView.{ShowsBody}

pub records_text-append : (a b : List Record) → records_text (a ++ b) ≡ records_text a ++ records_text b
unfolding records_text
records_text-append a b = flat_map-append (spelling written_layout) a b

pub one_text : (r : Record) → records_text (r ∷ []) ≡ spelling written_layout r
unfolding records_text
one_text r = Rattle.std.proofs.Common.append-nil (spelling written_layout r)

pub records_text-one : (records : List Record) (r : Record) → records_text (records ++ r ∷ []) ≡ records_text records ++ spelling written_layout r
records_text-one records r = records_text-append records (r ∷ []) ∙ ap (λ (l : List ℕ). records_text records ++ l) (one_text r)

pub cells-one : (at : ℕ) (records : List Record) (r : Record) → place_after at (records ++ r ∷ []) ≡ place_after at records + size_at (place_after at records) r
unfolding place_after
cells-one at records r = place_after-append at records (r ∷ [])

-- records that give no cells
pub begins : (b : SegmentBody) (text : RecordBytes) (room : ℕ) (records : List Record) → b.writer.text ≡ text → b.cells ≡ 0 → kept_text text ≡ text_within_limit (replicate room 0 ++ records_text records) → place_after 0 records ≡ 0 → ShowsBody room records b
begins b text room records same cells kept none = record { text = ap kept_text same ∙ kept; cells = cells ∙ sym none }

pub one_more : (old new : SegmentBody) (r : Record) → ((text : List ℕ) → kept_text old.writer.text ≡ text_within_limit text → kept_text new.writer.text ≡ text_within_limit (text ++ spelling written_layout r))
    → new.cells ≡ old.cells → size_at old.cells r ≡ 0 → (room : ℕ) (records : List Record) → ShowsBody room records old → ShowsBody room (records ++ r ∷ []) new
one_more old new r text cells none room records shows =
    let front = replicate room 0 in
    let nothing : size_at (place_after 0 records) r ≡ 0 = sym (ap (λ (k : ℕ). size_at k r) shows.cells) ∙ none in
    record {
      text = text (front ++ records_text records) shows.text
          ∙ ap text_within_limit (append_assoc front (records_text records) (spelling written_layout r) ∙ ap (λ (l : List ℕ). front ++ l) (sym (records_text-one records r)));
      cells = omega (arith, cells, shows.cells, cells-one 0 records r, nothing);
    }
