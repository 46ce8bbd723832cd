-- Segments that were written for images: their records, and their patches.
use Rattle.std.proofs.Common.{◌-◌, replicate, ◌≡◌, ℕ, zero, suc, ◌+◌, leb, List, [], ◌∷◌, ◌++◌, length, map, take, drop, Option, Some, None, refl, sym, ap, subst, ◌∙◌, append_assoc, arith, inl, inr, Bool, true, false}
use Rattle.std.specs.Prelude.{◌&&◌, cond}
use Rattle.std.specs.List.{flat_map, AllByRecursion}
use Rattle.std.specs.Option.{option_or}
use Rattle.std.proofs.lemmas.Bool.{cases_Bool}
use Rattle.std.proofs.lemmas.List.{append-nil, take_at, drop_at, length-append}
use Rattle.std.proofs.lemmas.List.Concat.{flat_map-cons}
use Rattle.omf_format.specs.Header.{HeaderFields, header_bytes}
use Rattle.omf_format.specs.laws.WrittenHeaderLaws.{length-header}
use Rattle.omf_format.specs.Record.{Record, End, content_of, Const, LongConst, Align, Org, Space, Reloc, InterSeg, ShortReloc, ShortInterSeg, Super, Using, Strong, Label, Equate, Formula, Entry}
use Rattle.omf_format.specs.File.{Segment, IsSegment, AreSegments, IsFile}
use Rattle.load_meaning.specs.declared.load.LoadCause.{LoadCause}
use Rattle.load_meaning.specs.Cells.{Patch, segment_bytes, patches_in, patches_of}
use Rattle.load_meaning.specs.laws.CellLaws.{patches-cons}
use Rattle.load_meaning.specs.Loadable.{Fault, record_refusal, patch_refusal, first_refusal, entry_refusal, first_target_fault, target_fault, patch_list}
use Rattle.omf_format.specs.Body.{body_bytes}
use Rattle.load_meaning.specs.laws.ExportLaws.{exports_content, exports_patches}
use Rattle.object_meaning.specs.laws.RunLaws.{placed, flat-placed}
use Rattle.load_meaning.specs.laws.LayingLaws.{Has}
use Rattle.load_meaning.specs.WrittenBody.{is_own, is_short, lone_record, of_form, super_records, with_stored, supers_from, data_records, written_data, body_records, HasBody}
use Rattle.load_meaning.specs.laws.Steps.{patches_stored_alone, image_records, target_refusal}
use Rattle.load_meaning.specs.laws.WrittenBodyLaws.{without, without_places, data_content, data_patches, segment_has, stands, patches_are, from_records, HasRecords}
use Rattle.load_meaning.specs.WrittenFile.{Image, image_body, image_fields, image_text, file_text, IsImage, IsReadAs, AreReadAs, IsExport}
use Rattle.load_meaning.specs.laws.WrittenFileLaws.{has_image}
use Rattle.link_meaning.specs.laws.Reached.{all-both}

-- ---- what load files may have

-- a record that load files have, and that names no place by itself
abbrev pub IsAllowed : Record → Type 0
IsAllowed r = (record_refusal r ≡ None) × ((segments : List Segment) → entry_refusal segments r ≡ None)

-- a record that these segments' file may have: an ENTRY names a place of it
abbrev pub IsAllowedIn : List Segment → Record → Type 0
IsAllowedIn segments r = (record_refusal r ≡ None) × (entry_refusal segments r ≡ None)

allowed_in : (segments : List Segment) (rs : List Record) → AllByRecursion IsAllowed rs → AllByRecursion (IsAllowedIn segments) rs
allowed_in segments [] all = tt
allowed_in segments (r ∷ rs) all = ((all.0.0, all.0.1 segments), allowed_in segments rs all.1)

lone_allowed : (own : ℕ) (p : Patch) → IsAllowed (lone_record own p)
unfolding lone_record
lone_allowed own p = elim (cases_Bool (is_own own p)) [
  | inl own' ↦ elim (cases_Bool (is_short p)) [
    | inl short ↦ rw (own', short) (refl, λ segments. refl)
    | inr long ↦ rw (own', long) (refl, λ segments. refl)
  ]
  | inr other ↦ elim (cases_Bool (leb p.segment 255 && is_short p)) [
    | inl short ↦ rw (other, short) (refl, λ segments. refl)
    | inr long ↦ rw (other, long) (refl, λ segments. refl)
  ]
]

lones_allowed : (own : ℕ) (l : List Patch) → AllByRecursion IsAllowed (map (lone_record own) l)
lones_allowed own [] = tt
lones_allowed own (p ∷ l) = (lone_allowed own p, lones_allowed own l)

data_allowed : (bytes : List ℕ) → AllByRecursion IsAllowed (data_records bytes)
data_allowed [] = tt
data_allowed (b ∷ bytes) = ((refl, λ segments. refl), tt)

super_allowed : (form : ℕ) (l : List Patch) → AllByRecursion IsAllowed (super_records form l)
super_allowed form [] = tt
super_allowed form (p ∷ l) = ((refl, λ segments. refl), tt)

supers_allowed : (own : ℕ) (patches : List Patch) (form n : ℕ) → AllByRecursion IsAllowed (supers_from own patches form n)
supers_allowed own patches form zero = tt
supers_allowed own patches form (suc n) = all-both IsAllowed (super_records form (of_form own patches form)) (supers_from own patches (form + 1) n) (super_allowed form (of_form own patches form)) (supers_allowed own patches (form + 1) n)

body_allowed : (own : ℕ) (content : List ℕ) (patches : List Patch) → AllByRecursion IsAllowed (body_records own content patches)
unfolding body_records
body_allowed own content patches =
    all-both IsAllowed (data_records (written_data own content patches)) (map (lone_record own) (patches_stored_alone own patches) ++ supers_from own patches 0 38) (data_allowed (written_data own content patches))
    (all-both IsAllowed (map (lone_record own) (patches_stored_alone own patches)) (supers_from own patches 0 38) (lones_allowed own (patches_stored_alone own patches)) (supers_allowed own patches 0 38))

placed_allowed : (segments : List Segment) (end : ℕ) (rs : List Record) → AllByRecursion (IsAllowedIn segments) rs → AllByRecursion (λ (found : ℕ × Record). IsAllowedIn segments found.1) (placed end rs)
placed_allowed segments end [] all = ((refl, refl), tt)
placed_allowed segments end (r ∷ rs) all = (all.0, placed_allowed segments end rs all.1)

-- ---- targets

no_refusal : (segments : List Segment) (s : Segment) (patches : List Patch) → AllByRecursion (λ (p : Patch). patch_refusal segments s p ≡ None) patches → first_refusal segments s patches ≡ None
no_refusal segments s [] all = refl
no_refusal segments s (p ∷ patches) all = ap (λ (o : Option LoadCause). option_or o (first_refusal segments s patches)) all.0 ∙ no_refusal segments s patches all.1

all-front : {A : Type 0} → (P : A → Type 0) (xs ys : List A) → AllByRecursion P (xs ++ ys) → AllByRecursion P xs × AllByRecursion P ys
all-front P [] ys all = (tt, all)
all-front P (x ∷ xs) ys all = let rest = all-front P xs ys all.1 in ((all.0, rest.0), rest.1)

no_target : (segments : List Segment) (s : Segment) (founds : List (ℕ × Record)) → AllByRecursion (λ (found : ℕ × Record). IsAllowedIn segments found.1) founds
    → AllByRecursion (λ (p : Patch). patch_refusal segments s p ≡ None) (map (λ (f : ℕ × Patch). f.1) (flat_map (λ (found : ℕ × Record). map (λ (p : Patch). (found.0, p)) (patches_in s found.1)) founds))
    → first_target_fault segments s founds ≡ None
no_target segments s [] allowed all = refl
no_target segments s (found ∷ founds) allowed all =
    let Q : Patch → Type 0 = λ p. patch_refusal segments s p ≡ None in
    let both = all-front Q (patches_in s found.1) _ (subst (AllByRecursion Q) (patches-cons s found founds) all) in
    let here : target_refusal segments s found.1 ≡ None = ap (λ (o : Option LoadCause). option_or o (first_refusal segments s (patches_in s found.1))) (allowed.0.1) ∙ no_refusal segments s (patches_in s found.1) both.0 in
    none_more (target_refusal segments s found.1) found.0 (first_target_fault segments s founds) here (no_target segments s founds allowed.1 both.1)
  where
    none_more : (o : Option LoadCause) (at : ℕ) (rest : Option Fault) → o ≡ None → rest ≡ None → option_or (elim o as (λ x. Option Fault) [ None ↦ None | Some cause ↦ Some (cause, at) ]) rest ≡ None
    none_more None at rest e more = more
    none_more (Some cause) at rest e more = absurd cc

pub no_target_fault : (segments : List Segment) (number : ℕ) (s : Segment) → AllByRecursion (λ (found : ℕ × Record). IsAllowedIn segments found.1) s.records
    → AllByRecursion (λ (p : Patch). patch_refusal segments s p ≡ None) (patch_list s) → target_fault segments number s ≡ None
unfolding patches_of
no_target_fault segments number s allowed all = no_target segments s s.records allowed all

-- ---- what was written

-- a segment that was written for an image, with its records
pub record IsWritten (image : Image) (s : Segment) : Type 0 where
  pub image' : IsImage image
  pub read : IsReadAs image s
  pub end : ℕ
  pub records : s.records ≡ placed end (image_records image)

-- each for its image, and there are as many of the ones as of the others
abbrev pub AreWrittenAs : List Image → List Segment → Type 0
AreWrittenAs [] [] = Unit {0}
AreWrittenAs [] (s ∷ segments) = ⊥
AreWrittenAs (image ∷ images) [] = ⊥
AreWrittenAs (image ∷ images) (s ∷ segments) = IsWritten image s × AreWrittenAs images segments

-- the body is cut out of the file
body_there : (front header body rest file : List ℕ) (a h n : ℕ) → length front ≡ a → length header ≡ h → length body ≡ n → file ≡ front ++ ((header ++ body) ++ rest)
    → drop (a + h) (take (a + (h + n)) file) ≡ body
body_there front header body rest file a h n fa hh nn parts =
    let regrouped : file ≡ ((front ++ header) ++ body) ++ rest = parts ∙ sym (append_assoc front (header ++ body) rest) ∙ ap (λ (l : List ℕ). l ++ rest) (sym (append_assoc front header body)) in
    let first : length (front ++ header) ≡ a + h = omega (arith, length-append front header, fa, hh) in
    let all : length ((front ++ header) ++ body) ≡ a + (h + n) = omega (arith, length-append (front ++ header) body, first, nn) in
    ap (drop (a + h)) (ap (take (a + (h + n))) regrouped ∙ take_at ((front ++ header) ++ body) rest (a + (h + n)) all) ∙ drop_at (front ++ header) body (a + h) first

has_body : (image : Image) (s : Segment) (front rest file : List ℕ) → IsImage image → IsReadAs image s → IsSegment s file → length front ≡ s.start → file ≡ front ++ (image_text image ++ rest)
    → HasBody image.fields.seg_num (length image.content) (image_body image) s file
unfolding image_text
has_body image s front rest file is read segment size parts =
    let n = length (image_body image) in
    let header = header_bytes (image_fields image) n in
    let h = 0x37 + length image.fields.name in
    let there = body_there front header (image_body image) rest file s.start h n size (length-header (image_fields image) n is.fits.load_name) refl parts in
    let data' : s.fields.disp_data ≡ h = ap (λ (f : HeaderFields). f.disp_data) read.fields in
    let count : s.fields.byte_count ≡ h + n = ap (λ (f : HeaderFields). f.byte_count) read.fields in
    record {
      segment' = segment;
      version = ap (λ (f : HeaderFields). f.version) read.fields;
      lab_len = ap (λ (f : HeaderFields). f.lab_len) read.fields;
      seg_num = ap (λ (f : HeaderFields). f.seg_num) read.fields;
      length' = ap (λ (f : HeaderFields). f.length) read.fields ∙ is.length';
      body = ap (λ (k : ℕ). drop (s.start + k) (take (s.start + s.fields.byte_count) file)) data' ∙ ap (λ (k : ℕ). drop (s.start + h) (take (s.start + k) file)) count ∙ there;
    }

length-image : (image : Image) → IsImage image → length (image_text image) ≡ 0x37 + length image.fields.name + length (image_body image)
unfolding image_text
length-image image is = omega (arith, length-append (header_bytes (image_fields image) (length (image_body image))) (image_body image), length-header (image_fields image) (length (image_body image)) is.fits.load_name)

written_one : (image : Image) (s : Segment) (front rest file : List ℕ) → IsImage image → IsReadAs image s → IsSegment s file → length front ≡ s.start → file ≡ front ++ (image_text image ++ rest) → IsWritten image s
written_one image s front rest file is read segment size parts =
    let body = has_body image s front rest file is read segment size parts in
    let has = has_image image s file is body in
    record { image' = is; read = read; end = has.0; records = has.1 }

written_all : (images : List Image) (segments : List Segment) (at : ℕ) (front file : List ℕ) → length front ≡ at → file ≡ front ++ flat_map image_text images → AreSegments segments at file (length file)
    → AllByRecursion IsImage images → AreReadAs images segments → AreWrittenAs images segments
written_all [] [] at front file size parts are all read = tt
written_all [] (s ∷ segments) at front file size parts are all read = absurd read
written_all (image ∷ images) [] at front file size parts are all read = absurd read
written_all (image ∷ images) (s ∷ segments) at front file size parts are all read =
    let whole : file ≡ front ++ (image_text image ++ flat_map image_text images) = parts ∙ ap (λ (l : List ℕ). front ++ l) (flat_map-cons image_text image images) in
    let count : s.fields.byte_count ≡ 0x37 + length image.fields.name + length (image_body image) = ap (λ (f : HeaderFields). f.byte_count) read.0.fields in
    let next : length (front ++ image_text image) ≡ at + s.fields.byte_count = omega (arith, length-append front (image_text image), size, count, length-image image all.0) in (
      written_one image s front (flat_map image_text images) file all.0 read.0 are.2 (size ∙ sym are.0) whole,
      written_all images segments (at + s.fields.byte_count) (front ++ image_text image) file next (whole ∙ sym (append_assoc front (image_text image) (flat_map image_text images))) are.3 all.1 read.1,
    )

-- the segments of a file that was written
pub are_written_as : (images : List Image) (segments : List Segment) → IsFile segments (file_text images) → AllByRecursion IsImage images → AreReadAs images segments → AreWrittenAs images segments
unfolding file_text
are_written_as images segments are all read = written_all images segments 0 [] (flat_map image_text images) refl refl are all read

-- ---- its bytes and patches

pub length_written : (image : Image) (s : Segment) → IsWritten image s → s.fields.length ≡ length image.content
length_written image s is = ap (λ (f : HeaderFields). f.length) is.read.fields ∙ is.image'.length'

-- the records of an image that isn't whole
part_records : (image : Image) → image.whole ≡ false → image_records image ≡ body_records image.fields.seg_num image.content image.patches ++ image.exports
part_records image e = ap (λ (b : Bool). cond b (data_records image.content) (body_records image.fields.seg_num image.content image.patches) ++ image.exports) e

pub has_of : (image : Image) (s : Segment) → image.whole ≡ false → IsWritten image s → HasRecords image.fields.seg_num image.content image.patches s
has_of image s e is = (is.end, image.exports, is.image'.exports', is.records ∙ ap (placed is.end) (part_records image e))

-- the segment's bytes are the content with what the patches store over it
pub bytes_written : (image : Image) (s : Segment) → image.whole ≡ false → IsWritten image s → segment_bytes s ≡ with_stored image.fields.seg_num image.content image.patches
bytes_written image s e is = segment_has image.fields.seg_num image.content image.patches s (length_written image s is) is.image'.patches' (has_of image s e is)

-- and its patches are among the image's
pub patches_written : (image : Image) (s : Segment) → image.whole ≡ false → IsWritten image s → (p : Patch) → Has (patch_list s) p → Has image.patches p
patches_written image s e is p h =
    let own = image.fields.seg_num in
    let number : s.fields.seg_num ≡ own = ap (λ (f : HeaderFields). f.seg_num) is.read.fields in
    let st = stands own image.content image.patches s number (length_written image s is) is.image'.patches' (has_of image s e is) in
    from_records own image.patches p (subst (λ (l : List Patch). Has l p) (patches_are own image.content image.patches s (has_of image s e is) st) h)

-- its records are those of load files
pub records_written : (image : Image) (segments : List Segment) (s : Segment) → IsWritten image s → AllByRecursion (λ r. entry_refusal segments r ≡ None) image.exports
    → AllByRecursion (λ (found : ℕ × Record). IsAllowedIn segments found.1) s.records
records_written image segments s is names =
    subst (AllByRecursion (λ (found : ℕ × Record). IsAllowedIn segments found.1)) (sym is.records)
    (placed_allowed segments is.end (image_records image)
    (all-both (IsAllowedIn segments) (cond image.whole (data_records image.content) (body_records image.fields.seg_num image.content image.patches)) image.exports
    (by_kind image.whole) (exports_allowed image.exports is.image'.exports' names)))
  where
    by_kind : (b : Bool) → AllByRecursion (IsAllowedIn segments) (cond b (data_records image.content) (body_records image.fields.seg_num image.content image.patches))
    by_kind true = allowed_in segments (data_records image.content) (data_allowed image.content)
    by_kind false = allowed_in segments (body_records image.fields.seg_num image.content image.patches) (body_allowed image.fields.seg_num image.content image.patches)

    one : (r : Record) → IsExport r → record_refusal r ≡ None
    one (Entry segment offset name) is' = refl
    one End is' = absurd is'
    one (Const bytes) is' = absurd is'
    one (LongConst bytes) is' = absurd is'
    one (Align n) is' = absurd is'
    one (Org n) is' = absurd is'
    one (Space n) is' = absurd is'
    one (Reloc count shift location offset) is' = absurd is'
    one (InterSeg count shift location file segment offset) is' = absurd is'
    one (ShortReloc count shift location offset) is' = absurd is'
    one (ShortInterSeg count shift location segment offset) is' = absurd is'
    one (Super form bytes) is' = absurd is'
    one (Using name) is' = absurd is'
    one (Strong name) is' = absurd is'
    one (Label global name size form private) is' = absurd is'
    one (Equate global name size form private expr) is' = absurd is'
    one (Formula code count n expr) is' = absurd is'

    exports_allowed : (rs : List Record) → AllByRecursion IsExport rs → AllByRecursion (λ r. entry_refusal segments r ≡ None) rs → AllByRecursion (IsAllowedIn segments) rs
    exports_allowed [] all names' = tt
    exports_allowed (r ∷ rs) all names' = ((one r all.0, names'.0), exports_allowed rs all.1 names'.1)

-- ---- an image that keeps its zeros

whole_records : (image : Image) → image.whole ≡ true → image_records image ≡ data_records image.content ++ image.exports
whole_records image e = ap (λ (b : Bool). cond b (data_records image.content) (body_records image.fields.seg_num image.content image.patches) ++ image.exports) e

pub records_whole : (image : Image) (s : Segment) → image.whole ≡ true → (is : IsWritten image s) → s.records ≡ placed is.end (data_records image.content ++ image.exports)
records_whole image s e is = is.records ∙ ap (placed is.end) (whole_records image e)

-- its records' bytes are the content
pub body_whole : (image : Image) (s : Segment) → image.whole ≡ true → IsWritten image s → body_bytes s ≡ image.content
unfolding body_bytes
body_whole image s e is =
    ap (flat_map (λ (found : ℕ × Record). content_of found.1)) (records_whole image s e is) ∙ flat-placed content_of is.end (data_records image.content ++ image.exports) refl
    ∙ without content_of (data_records image.content) image.exports (exports_content image.exports is.image'.exports') ∙ data_content image.content

pub bytes_whole : (image : Image) (s : Segment) → image.whole ≡ true → IsWritten image s → segment_bytes s ≡ image.content
unfolding segment_bytes
bytes_whole image s e is =
    let bytes = body_whole image s e is in
    let size : s.fields.length - length (body_bytes s) ≡ 0 = omega (arith, length_written image s is, ap length bytes) in
    ap (λ (n : ℕ). body_bytes s ++ replicate n 0) size ∙ append-nil (body_bytes s) ∙ bytes

-- and it has no patch
pub patches_whole : (image : Image) (s : Segment) → image.whole ≡ true → IsWritten image s → patch_list s ≡ []
unfolding patches_of
patches_whole image s e is =
    without_places s s.records ∙ ap (flat_map (λ (found : ℕ × Record). patches_in s found.1)) (records_whole image s e is) ∙ flat-placed (patches_in s) is.end (data_records image.content ++ image.exports) refl
    ∙ without (patches_in s) (data_records image.content) image.exports (exports_patches s image.exports is.image'.exports') ∙ data_patches s image.content
