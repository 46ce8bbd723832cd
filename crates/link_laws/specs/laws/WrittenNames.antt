-- What a written segment exports: the records that its image has for that, and no others.
use Rattle.std.proofs.Common.{◌≡◌, ℕ, zero, suc, ◌+◌, Bool, true, false, leb, List, [], ◌∷◌, ◌++◌, map, filter, refl, ap, ◌∙◌, cond, inl, inr}
use Rattle.std.specs.Prelude.{◌&&◌, is_none}
use Rattle.std.specs.List.{flat_map, AllByRecursion}
use Rattle.std.proofs.lemmas.Bool.{cases_Bool}
use Rattle.std.proofs.lemmas.List.Concat.{flat_map-cons, flat_map-append}
use Rattle.omf_format.specs.Record.{Record}
use Rattle.omf_format.specs.File.{Segment}
use Rattle.object_meaning.specs.laws.RunLaws.{flat-placed}
use Rattle.load_meaning.specs.Cells.{Patch}
use Rattle.load_meaning.specs.Exports.{Export, exports_of_record, exports_from}
use Rattle.load_meaning.specs.WrittenBody.{is_own, is_short, super_form, lone_record, of_form, super_records, supers_from, data_records, written_data, body_records}
use Rattle.load_meaning.specs.WrittenFile.{Image}
use Rattle.load_meaning.specs.laws.Steps.{image_records}
use Rattle.link_meaning.specs.laws.WrittenSegments.{IsWritten, AreWrittenAs}

-- ---- the records of a body export nothing

abbrev pub Exports : ℕ → List Record → List Export
Exports holder records = flat_map (exports_of_record holder) records

module _ (holder : ℕ) where
  joined : (rs more : List Record) → Exports holder rs ≡ [] → Exports holder (rs ++ more) ≡ Exports holder more
  joined rs more none = flat_map-append (exports_of_record holder) rs more ∙ ap (λ (l : List Export). l ++ Exports holder more) none

  lone_none : (own : ℕ) (p : Patch) → exports_of_record holder (lone_record own p) ≡ []
  unfolding lone_record
  lone_none own p = elim (cases_Bool (is_own own p)) [
    | inl own' ↦ elim (cases_Bool (is_short p)) [ inl short ↦ rw (own', short) refl | inr long ↦ rw (own', long) refl ]
    | inr other ↦ elim (cases_Bool (leb p.segment 255 && is_short p)) [ inl short ↦ rw (other, short) refl | inr long ↦ rw (other, long) refl ]
  ]

  lones_none : (own : ℕ) (l : List Patch) → Exports holder (map (lone_record own) l) ≡ []
  lones_none own [] = refl
  lones_none own (p ∷ l) = flat_map-cons (exports_of_record holder) (lone_record own p) (map (lone_record own) l)
      ∙ ap (λ (l' : List Export). l' ++ Exports holder (map (lone_record own) l)) (lone_none own p) ∙ lones_none own l

  data_none : (bytes : List ℕ) → Exports holder (data_records bytes) ≡ []
  data_none [] = refl
  data_none (b ∷ bytes) = refl

  super_none : (form : ℕ) (l : List Patch) → Exports holder (super_records form l) ≡ []
  super_none form [] = refl
  super_none form (p ∷ l) = refl

  supers_none : (own : ℕ) (patches : List Patch) (form n : ℕ) → Exports holder (supers_from own patches form n) ≡ []
  supers_none own patches form zero = refl
  supers_none own patches form (suc n) =
      joined (super_records form (of_form own patches form)) (supers_from own patches (form + 1) n) (super_none form (of_form own patches form)) ∙ supers_none own patches (form + 1) n

  body_none : (own : ℕ) (content : List ℕ) (patches : List Patch) → Exports holder (body_records own content patches) ≡ []
  unfolding body_records
  body_none own content patches =
      let lones = map (lone_record own) (filter (λ p. is_none (super_form own p)) patches) in
      joined (data_records (written_data own content patches)) (lones ++ supers_from own patches 0 38) (data_none (written_data own content patches))
      ∙ joined lones (supers_from own patches 0 38) (lones_none own (filter (λ p. is_none (super_form own p)) patches))
      ∙ supers_none own patches 0 38

  image_exports : (image : Image) → Exports holder (image_records image) ≡ Exports holder image.exports
  image_exports image = by_kind image.whole
    where
      by_kind : (whole : Bool) → Exports holder ((cond whole (data_records image.content) (body_records image.fields.seg_num image.content image.patches)) ++ image.exports) ≡ Exports holder image.exports
      by_kind true = joined (data_records image.content) image.exports (data_none image.content)
      by_kind false = joined (body_records image.fields.seg_num image.content image.patches) image.exports (body_none image.fields.seg_num image.content image.patches)

  segment_exports : (image : Image) (s : Segment) → IsWritten image s → flat_map (λ (found : ℕ × Record). exports_of_record holder found.1) s.records ≡ Exports holder image.exports
  segment_exports image s is =
      ap (flat_map (λ (found : ℕ × Record). exports_of_record holder found.1)) is.records ∙ flat-placed (exports_of_record holder) is.end (image_records image) refl ∙ image_exports image

-- ---- all segments

-- what the images export, of which the first is the segment with this number
abbrev pub images_export : ℕ → List Image → List Export
images_export number [] = []
images_export number (image ∷ images) = Exports number image.exports ++ images_export (number + 1) images

pub exports_are_read : (number : ℕ) (images : List Image) (segments : List Segment) → AreWrittenAs images segments → exports_from number segments ≡ images_export number images
exports_are_read number [] [] written = refl
exports_are_read number [] (s ∷ segments) written = absurd written
exports_are_read number (image ∷ images) [] written = absurd written
exports_are_read number (image ∷ images) (s ∷ segments) written =
    ap (λ (l : List Export). l ++ exports_from (number + 1) segments) (segment_exports number image s written.0)
    ∙ ap (λ (l : List Export). Exports number image.exports ++ l) (exports_are_read (number + 1) images segments written.1)

-- images without exports
pub nothing_exported : (number : ℕ) (images : List Image) → AllByRecursion (λ image. image.exports ≡ []) images → images_export number images ≡ []
nothing_exported number [] none = refl
nothing_exported number (image ∷ images) none =
    ap (λ (l : List Record). Exports number l ++ images_export (number + 1) images) none.0 ∙ nothing_exported (number + 1) images none.1
