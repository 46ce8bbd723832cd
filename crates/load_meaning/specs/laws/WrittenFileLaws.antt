-- What is written for load segments is a file of exactly these, and each represents its cells.
use Rattle.std.proofs.Common.{◌≡◌, ℕ, ◌+◌, ◌-◌, ◌<◌, ◌≤◌, false, true, List, [], ◌∷◌, ◌++◌, length, take, drop, refl, sym, ap, subst, ◌∙◌, append_assoc, arith, Bool, map, replicate}
use Rattle.std.specs.List.{flat_map, AllByRecursion}
use Rattle.std.proofs.lemmas.List.{append-nil, take_at, drop_at, length-append}
use Rattle.std.proofs.lemmas.List.Concat.{flat_map-cons}
use Rattle.omf_format.specs.Field.{length_width_of}
use Rattle.omf_format.specs.Header.{HeaderFields, fields_of, header_fault, written_fields, header_bytes}
use Rattle.omf_format.specs.laws.HeaderLaws.{drop-more}
use Rattle.omf_format.specs.laws.WrittenHeaderLaws.{length-header, fields_of-written, header_fault-written}
use Rattle.omf_format.specs.Record.{Record, content_of}
use Rattle.omf_format.specs.Reading.{Reader, HandsOut}
use Rattle.omf_format.specs.File.{Segment, body_reader, IsSegment, AreSegments, IsFile}
use Rattle.omf_format.specs.Body.{body_bytes}
use Rattle.std.specs.Prelude.{cond}
use Rattle.omf_format.specs.laws.FileLaws.{HandsOut-same}
use Rattle.load_meaning.specs.Cells.{Byte, Patch, segment_bytes, patches_in, patches_of, patched_cells, cells}
use Rattle.load_meaning.specs.laws.ExportLaws.{exports_fit, exports_content, exports_patches}
use Rattle.load_meaning.specs.WrittenBody.{body_records, HasBody, data_records, written_cells}
use Rattle.object_meaning.specs.laws.RunLaws.{reader_at, text, placed, runs, IsBodyRecord, flat-placed}
use Rattle.load_meaning.specs.laws.WrittenBodyLaws.{records_fit, cells_are, without, without_places, data_content, data_patches, reader_is}
use Rattle.load_meaning.specs.WrittenFile.{Image, image_body, image_fields, image_text, file_text, IsImage, IsReadAs, AreReadAs, IsExport}
use Rattle.load_meaning.specs.laws.Steps.{image_records}

-- ---- where a segment is read from

-- the body is cut out of the file
body_cut : (front header body rest : List ℕ) (a h n : ℕ) → length front ≡ a → length header ≡ h → length body ≡ n
    → drop (a + h) (take (a + (h + n)) (front ++ ((header ++ body) ++ rest))) ≡ body
body_cut front header body rest a h n fa hh nn =
    let whole : take (a + (h + n)) (front ++ ((header ++ body) ++ rest)) ≡ front ++ (header ++ body) =
    ap (take (a + (h + n))) (sym (append_assoc front (header ++ body) rest))
    ∙ take_at (front ++ (header ++ body)) rest (a + (h + n)) (omega (arith, length-append front (header ++ body), length-append header body, fa, hh, nn)) in
    ap (drop (a + h)) whole ∙ drop-more front (header ++ body) a h fa ∙ drop_at header body h hh

-- a reader of a written body is at its start
reader-written : (f : HeaderFields) (at n : ℕ) (body file : List ℕ) → drop (at + (0x37 + length f.name)) (take (at + (0x37 + length f.name + n)) file) ≡ body
    → body_reader at (written_fields f n) file ≡ reader_at (at + (0x37 + length f.name + n)) body false
unfolding body_reader length_width_of
reader-written f at n body file cut = ap (λ (l : List ℕ). reader_at (at + (0x37 + length f.name + n)) l false) cut

-- ---- one segment

-- how many bytes are written for it
abbrev size_of : Image → ℕ
size_of image = 0x37 + length image.fields.name + length (image_body image)

length-image : (image : Image) → IsImage image → length (image_text image) ≡ size_of image
unfolding image_text
length-image image is =
    let n = length (image_body image) in
    omega (arith, length-append (header_bytes (image_fields image) n) (image_body image), length-header (image_fields image) n is.fits.load_name)

-- the segment that is read there
segment_read : ℕ → Image → Segment
segment_read at image = record {
  start = at;
  fields = written_fields (image_fields image) (length (image_body image));
  records = placed (at + size_of image) (image_records image);
}

-- the body is the text of its records
body_is : (image : Image) → image_body image ≡ text (image_records image)
unfolding image_body
body_is image = refl

-- the records have spellings
pub image_fit : (image : Image) → IsImage image → AllByRecursion IsBodyRecord (image_records image)
image_fit image is = all-append (cond image.whole (data_records image.content) (body_records image.fields.seg_num image.content image.patches)) image.exports (by_kind image.whole) (exports_fit image.exports is.exports')
  where
    data_fit : (bytes : List ℕ) → length bytes ≤ 0xFFFFFF → AllByRecursion IsBodyRecord (data_records bytes)
    data_fit [] small = tt
    data_fit (b ∷ bytes) small = ((omega (arith, small), refl), tt)

    by_kind : (w : Bool) → AllByRecursion IsBodyRecord (cond w (data_records image.content) (body_records image.fields.seg_num image.content image.patches))
    by_kind true = data_fit image.content is.small
    by_kind false = records_fit image.fields.seg_num image.content image.patches is.small is.patches'

    all-append : (xs ys : List Record) → AllByRecursion IsBodyRecord xs → AllByRecursion IsBodyRecord ys → AllByRecursion IsBodyRecord (xs ++ ys)
    all-append [] ys p q = q
    all-append (x ∷ xs) ys p q = (p.0, all-append xs ys p.1 q)

-- a segment without patches whose records are its content represents the content
whole_cells : (content : List ℕ) (exports : List Record) (end : ℕ) (s : Segment) → AllByRecursion IsExport exports → s.fields.length ≡ length content → s.records ≡ placed end (data_records content ++ exports)
    → cells s ≡ written_cells content []
unfolding cells written_cells segment_bytes body_bytes patches_of
whole_cells content exports end s all len is =
    let bytes : flat_map (λ (found : ℕ × Record). content_of found.1) s.records ≡ content =
    ap (flat_map (λ (found : ℕ × Record). content_of found.1)) is ∙ flat-placed content_of end (data_records content ++ exports) refl
    ∙ without content_of (data_records content) exports (exports_content exports all) ∙ data_content content in
    let size : s.fields.length - length (flat_map (λ (found : ℕ × Record). content_of found.1) s.records) ≡ 0 = omega (arith, len, ap length bytes) in
    let all_bytes : flat_map (λ (found : ℕ × Record). content_of found.1) s.records ++ replicate (s.fields.length - length (flat_map (λ (found : ℕ × Record). content_of found.1) s.records)) 0 ≡ content =
    ap (λ (n : ℕ). flat_map (λ (found : ℕ × Record). content_of found.1) s.records ++ replicate n 0) size ∙ append-nil _ ∙ bytes in
    let none : map (λ (p : ℕ × Patch). p.1) (flat_map (λ (found : ℕ × Record). map (λ (p : Patch). (found.0, p)) (patches_in s found.1)) s.records) ≡ [] =
    without_places s s.records ∙ ap (flat_map (λ (found : ℕ × Record). patches_in s found.1)) is ∙ flat-placed (patches_in s) end (data_records content ++ exports) refl
    ∙ without (patches_in s) (data_records content) exports (exports_patches s exports all) ∙ data_patches s content in
    ap (λ (l : List ℕ). patched_cells (map Byte l) (map (λ (p : ℕ × Patch). p.1) (flat_map (λ (found : ℕ × Record). map (λ (p : Patch). (found.0, p)) (patches_in s found.1)) s.records))) all_bytes
    ∙ ap (λ (l : List Patch). patched_cells (map Byte content) l) none

-- a part of a file: what is before a segment, the segment, and what is after it
record IsPart (at : ℕ) (image : Image) (rest file : List ℕ) : Type 0 where
  front : List ℕ
  size : length front ≡ at
  parts : file ≡ front ++ (image_text image ++ rest)

cut_there : (at : ℕ) (image : Image) (rest file : List ℕ) → IsImage image → IsPart at image rest file
    → drop (at + (0x37 + length image.fields.name)) (take (at + size_of image) file) ≡ image_body image
unfolding image_text
cut_there at image rest file is part =
    let n = length (image_body image) in
    let header = header_bytes (image_fields image) n in
    ap (λ (l : List ℕ). drop (at + (0x37 + length image.fields.name)) (take (at + size_of image) l)) part.parts
    ∙ body_cut part.front header (image_body image) rest at (0x37 + length image.fields.name) n part.size (length-header (image_fields image) n is.fits.load_name) refl

is_segment : (at : ℕ) (image : Image) (rest file : List ℕ) → IsImage image → IsPart at image rest file → IsSegment (segment_read at image) file
unfolding segment_read image_text
is_segment at image rest file is part =
    let f = image_fields image in
    let body = image_body image in
    let n = length body in
    let end = at + size_of image in
    let rs = image_records image in
    let there : drop at file ≡ header_bytes f n ++ (body ++ rest) =
    ap (drop at) part.parts ∙ drop_at part.front ((header_bytes f n ++ body) ++ rest) at part.size ∙ append_assoc (header_bytes f n) body rest in
    let reader : body_reader at (written_fields f n) file ≡ reader_at end (text rs) false = reader-written f at n body file (cut_there at image rest file is part) ∙ ap (λ (l : List ℕ). reader_at end l false) (body_is image) in
    record {
      header = record {
        passes = ap header_fault there ∙ header_fault-written f n (body ++ rest) is.fits is.writable (omega (arith, length-append body rest));
        fields = sym (ap fields_of there ∙ fields_of-written f n (body ++ rest) is.fits);
      };
      last = reader_at end [] true;
      records = subst (λ (r : Reader). HandsOut r (placed end rs) (reader_at end [] true)) (sym reader) (runs rs end (image_fit image is));
      ended = refl;
    }

is_read_as : (at : ℕ) (image : Image) (rest file : List ℕ) → IsImage image → IsPart at image rest file → IsReadAs image (segment_read at image)
unfolding segment_read
is_read_as at image rest file is part = record { fields = refl; cells' = by_kind image.whole refl }
  where
    by_kind : (w : Bool) → image.whole ≡ w → cells (segment_read at image) ≡ written_cells image.content image.patches
    by_kind true e =
        let rs : image_records image ≡ data_records image.content ++ image.exports = ap (λ (b : Bool). cond b (data_records image.content) (body_records image.fields.seg_num image.content image.patches) ++ image.exports) e in
        whole_cells image.content image.exports (at + size_of image) (segment_read at image) is.exports' is.length' (ap (placed (at + size_of image)) rs)
        ∙ ap (written_cells image.content) (sym (is.bare e))
    by_kind false e =
        let rs : image_records image ≡ body_records image.fields.seg_num image.content image.patches ++ image.exports = ap (λ (b : Bool). cond b (data_records image.content) (body_records image.fields.seg_num image.content image.patches) ++ image.exports) e in
        cells_are image.fields.seg_num image.content image.patches (segment_read at image) refl is.length' is.patches' (at + size_of image, image.exports, is.exports', ap (placed (at + size_of image)) rs)

-- the records of a segment whose body was written for an image
pub has_image : (image : Image) (s : Segment) (file : List ℕ) → IsImage image → HasBody image.fields.seg_num (length image.content) (image_body image) s file
    → (end : ℕ) × (s.records ≡ placed end (image_records image))
has_image image s file is has =
    let end = s.start + s.fields.byte_count in
    let rs = image_records image in
    let reader = reader_is image.fields.seg_num (length image.content) (image_body image) s file has ∙ ap (λ (l : List ℕ). reader_at end l false) (body_is image) in
    let given : HandsOut (reader_at end (text rs) false) s.records has.segment'.last = subst (λ (r : Reader). HandsOut r s.records has.segment'.last) reader has.segment'.records in
    (end, HandsOut-same (reader_at end (text rs) false) s.records (placed end rs) has.segment'.last (reader_at end [] true) given (runs rs end (image_fit image is)) has.segment'.ended refl)

-- ---- the file

segments_from : ℕ → List Image → List Segment
segments_from at [] = []
segments_from at (image ∷ images) = segment_read at image ∷ segments_from (at + size_of image) images

-- the file from there on
record IsLeft (at : ℕ) (images : List Image) (file : List ℕ) : Type 0 where
  front : List ℕ
  size : length front ≡ at
  parts : file ≡ front ++ flat_map image_text images

first_part : (at : ℕ) (image : Image) (images : List Image) (file : List ℕ) → IsLeft at (image ∷ images) file → IsPart at image (flat_map image_text images) file
first_part at image images file left = record { front = left.front; size = left.size; parts = left.parts ∙ ap (λ (l : List ℕ). left.front ++ l) (flat_map-cons image_text image images) }

others_left : (at : ℕ) (image : Image) (images : List Image) (file : List ℕ) → IsImage image → IsLeft at (image ∷ images) file → IsLeft (at + size_of image) images file
others_left at image images file is left = record {
  front = left.front ++ image_text image;
  size = omega (arith, length-append left.front (image_text image), left.size, length-image image is);
  parts = left.parts ∙ ap (λ (l : List ℕ). left.front ++ l) (flat_map-cons image_text image images) ∙ sym (append_assoc left.front (image_text image) (flat_map image_text images));
}

inside : (at : ℕ) (image : Image) (rest file : List ℕ) → IsImage image → IsPart at image rest file → at < length file
inside at image rest file is part =
    omega (arith, ap length part.parts, length-append part.front (image_text image ++ rest), length-append (image_text image) rest, length-image image is, part.size)

are_segments : (at : ℕ) (images : List Image) (file : List ℕ) → AllByRecursion IsImage images → IsLeft at images file
    → AreSegments (segments_from at images) at file (length file) × AreReadAs images (segments_from at images)
unfolding segments_from segment_read
are_segments at [] file all left = (sym (ap length (left.parts ∙ append-nil left.front) ∙ left.size), tt)
are_segments at (image ∷ images) file all left =
    let part = first_part at image images file left in
    let rest = flat_map image_text images in
    let others = are_segments (at + size_of image) images file all.1 (others_left at image images file all.0 left) in
    ((refl, inside at image rest file all.0 part, is_segment at image rest file all.0 part, others.0), (is_read_as at image rest file all.0 part, others.1))

pub file_stands_for : (images : List Image) → AllByRecursion IsImage images
    → (segments : List Segment) × IsFile segments (file_text images) × AreReadAs images segments
unfolding file_text
file_stands_for images all =
    let both = are_segments 0 images (flat_map image_text images) all (record { front = []; size = refl; parts = refl }) in
    (segments_from 0 images, both.0, both.1)
