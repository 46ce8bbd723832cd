-- The load file of short load segments is short.
use Rattle.std.proofs.Common.{◌≡◌, ℕ, zero, suc, ◌+◌, ◌-◌, ◌*◌, ◌/◌, ◌%◌, ◌<◌, ◌≤◌, Bool, false, cond, eqb, leb, List, [], ◌∷◌, ◌++◌, length, map, replicate, refl, ap, ◌∙◌, arith, inl, inr}
use Rattle.std.specs.Prelude.{◌&&◌}
use Rattle.std.specs.List.{flat_map, AllByRecursion}
use Rattle.std.proofs.lemmas.Bool.{cases_Bool, and_parts, leb-true}
use Rattle.std.proofs.lemmas.List.{append-nil, length-append, length-map}
use Rattle.std.proofs.lemmas.List.Concat.{flat_map-cons}
use Rattle.std.proofs.lemmas.Grind.{flat_map-append}
use Rattle.byteorder.specs.Endian.{little_bytes}
use Rattle.byteorder.specs.Numbers.{length-bytes_low_first}
use Rattle.omf_format.specs.Field.{written_layout}
use Rattle.omf_format.specs.laws.FieldLaws.{length-trim}
use Rattle.omf_format.specs.Header.{header_bytes}
use Rattle.omf_format.specs.laws.WrittenHeaderLaws.{length-header}
use Rattle.omf_format.specs.Record.{Record, End, LongConst, Super, spelling}
use Rattle.omf_format.specs.Super.{Passed, Located, page_text}
use Rattle.load_meaning.specs.declared.table.Target.{Target}
use Rattle.load_meaning.specs.Cells.{Patch, byte_under}
use Rattle.load_meaning.specs.Table.{file_entry, table_bytes}
use Rattle.load_meaning.specs.laws.WrittenTableLaws.{length-table_bytes, length-plain_body}
use Rattle.load_meaning.specs.WrittenPages.{passing, Group, in_front, by_page, pages_from, pages_of, pages_text, Rise}
use Rattle.load_meaning.specs.laws.PageLaws.{held, all_held, all_held_again, Climb, climb_lower, climb_all}
use Rattle.load_meaning.specs.laws.PageSizeLaws.{Under}
use Rattle.load_meaning.specs.WrittenBody.{AreWritten, is_own, is_short, lone_record, data_records, written_data, super_form, of_form, super_records, supers_from, body_records, body_text}
use Rattle.load_meaning.specs.laws.Steps.{has_none, patches_stored_alone}
use Rattle.load_meaning.specs.laws.WrittenBodyLaws.{places, rise_form, under_form, length-written}
use Rattle.load_meaning.specs.WrittenFile.{Image, image_body, image_fields, image_text, file_text, table_fields, table_image}
use Rattle.link_meaning.specs.First.{IsIn}
use Rattle.link_meaning.specs.Member.{LinkSetting, without_runtimes, Member, setting_in, form_in}
use Rattle.link_meaning.specs.Layout.{load_length, load_names, load_fields}
use Rattle.link_meaning.specs.LinkValues.{EquateAnswer}
use Rattle.link_meaning.specs.LinkedCells.{table_number, targets, linked}
use Rattle.link_meaning.specs.LinkWritten.{exports, load_images, table_images, path_images, images, written_file}
use Rattle.link_meaning.specs.laws.Steps.{exports_for, image_of}
use Rattle.link_meaning.specs.laws.RunCells.{runs_written}
use Rattle.link_meaning.specs.laws.LinkedRuns.{MembersHave, linked_has}

-- ---- the pages of a SUPER

abbrev Below : List Group → Type 0
Below groups = AllByRecursion (λ (of : Group). of.0 < 17) groups

below_in_front : (at : ℕ) (groups : List Group) → at < 4352 → Below groups → Below (in_front at groups)
below_in_front at [] lt b = (omega arith, tt)
below_in_front at (of ∷ more) lt b = elim (cases_Bool (eqb (at / 256) of.0)) [
  | inl same ↦ rw same b
  | inr other ↦ rw other (omega arith, b)
]

below_all : (size : ℕ) (locations : List ℕ) → size ≤ 4352 → Under size locations → Below (by_page locations)
below_all size [] small u = tt
below_all size (at ∷ more) small u = below_in_front at (by_page more) (omega (arith, u.0, small)) (below_all size more small u.1)

text_many : (n : ℕ) → length (flat_map page_text (replicate n (Passed 127))) ≡ n
text_many zero = refl
text_many (suc n) = ap length (flat_map-cons page_text (Passed 127) (replicate n (Passed 127))) ∙ ap suc (text_many n)

text_passing : (n : ℕ) → length (flat_map page_text (passing n)) ≤ n
text_passing zero = omega arith
text_passing (suc n) =
    let last = Passed (n % 127 + 1) ∷ [] in
    let split : length (flat_map page_text (passing (suc n))) ≡ length (flat_map page_text (replicate (n / 127) (Passed 127))) + length (flat_map page_text last) =
    ap length (flat_map-append page_text (replicate (n / 127) (Passed 127)) last) ∙ length-append (flat_map page_text (replicate (n / 127) (Passed 127))) (flat_map page_text last) in
    let one : length (flat_map page_text last) ≡ 1 = refl in
    omega (arith, split, one, text_many (n / 127))

-- a byte for each page, and one for each location
pages_bound : (page : ℕ) (groups : List Group) → page ≤ 17 → Climb page groups → Below groups → length (flat_map page_text (pages_from page groups)) + page ≤ 17 + length (all_held groups)
pages_bound page [] le c b = omega arith
pages_bound page (of ∷ more) le c b =
    let rest = pages_bound (of.0 + 1) more (omega (arith, b.0)) c.1 b.1 in
    let skip = passing (of.0 - page) in
    let others = pages_from (of.0 + 1) more in
    let split : length (flat_map page_text (skip ++ Located of.1 ∷ others)) ≡ length (flat_map page_text skip) + length (flat_map page_text (Located of.1 ∷ others)) =
    ap length (flat_map-append page_text skip (Located of.1 ∷ others)) ∙ length-append (flat_map page_text skip) (flat_map page_text (Located of.1 ∷ others)) in
    let first : length (flat_map page_text (Located of.1 ∷ others)) ≡ suc (length of.1 + length (flat_map page_text others)) =
    ap length (flat_map-cons page_text (Located of.1) others) ∙ ap suc (length-append of.1 (flat_map page_text others)) in
    let lows : length (held of ++ all_held more) ≡ length of.1 + length (all_held more) = length-append (held of) (all_held more) ∙ ap (λ (n : ℕ). n + length (all_held more)) (length-map of.1 (λ (low : ℕ). of.0 * 256 + low)) in
    omega (arith, rest, split, first, lows, text_passing (of.0 - page), c.0)

pages_short : (size : ℕ) (locations : List ℕ) → size ≤ 4352 → Rise 0 locations → Under size locations → length (pages_text locations) ≤ 17 + length locations
unfolding pages_text pages_of
pages_short size locations small rise under =
    let climb = climb_lower 0 (0 / 256) (by_page locations) (omega arith) (climb_all 0 locations rise) in
    omega (arith, pages_bound 0 (by_page locations) (omega arith) climb (below_all size locations small under), ap length (all_held_again locations))

-- ---- the records

filter-le : {A : Type 0} (p : A → Bool) (xs : List A) → length (Rattle.std.proofs.Common.filter p xs) ≤ length xs
filter-le p [] = omega arith
filter-le p (x ∷ xs) = elim (cases_Bool (p x)) [
  | inl passes ↦ rw passes (omega (arith, filter-le p xs))
  | inr other ↦ rw other (omega (arith, filter-le p xs))
]

few_patches : (size low : ℕ) (patches : List Patch) → low ≤ size → AreWritten size low patches → length patches + low ≤ size
few_patches size low [] le are = omega (arith, le)
few_patches size low (p ∷ patches) le are =
    let one : 1 ≤ p.count = leb-true 1 p.count (and_parts (leb 1 p.count) (leb p.count 4) are.0.count').0 in
    omega (arith, few_patches size (p.location + p.count) patches are.0.inside are.2, are.1, one)

abbrev text_of : List Record → List ℕ
text_of rs = flat_map (spelling written_layout) rs

text_parts : (rs more : List Record) → length (text_of (rs ++ more)) ≡ length (text_of rs) + length (text_of more)
text_parts rs more = ap length (flat_map-append (spelling written_layout) rs more) ∙ length-append (text_of rs) (text_of more)

text_one : (r : Record) (more : List Record) → length (text_of (r ∷ more)) ≡ length (spelling written_layout r) + length (text_of more)
text_one r more = ap length (flat_map-cons (spelling written_layout) r more) ∙ length-append (spelling written_layout r) (text_of more)

data_short : (bytes : List ℕ) → length (text_of (data_records bytes)) ≤ 5 + length bytes
unfolding spelling
data_short [] = omega arith
data_short (b ∷ bytes) =
    omega (arith, text_one (LongConst (b ∷ bytes)) [], length-append (little_bytes 4 (length (b ∷ bytes))) (b ∷ bytes), length-bytes_low_first 0 4 (length (b ∷ bytes)))

lone_short : (own : ℕ) (p : Patch) → length (spelling written_layout (lone_record own p)) ≤ 15
unfolding lone_record spelling
lone_short own p = elim (cases_Bool (is_own own p)) [
  | inl own' ↦ elim (cases_Bool (is_short p)) [
    | inl short ↦ rw (own', short) (omega arith)
    | inr long ↦ rw (own', long) (omega arith)
  ]
  | inr other ↦ elim (cases_Bool (leb p.segment 255 && is_short p)) [
    | inl short ↦ rw (other, short) (omega arith)
    | inr long ↦ rw (other, long) (omega arith)
  ]
]

lones_short : (own : ℕ) (patches : List Patch) → length (text_of (map (lone_record own) patches)) ≤ 15 * length patches
lones_short own [] = omega arith
lones_short own (p ∷ patches) = omega (arith, text_one (lone_record own p) (map (lone_record own) patches), lone_short own p, lones_short own patches)

super_short : (size form : ℕ) (patches : List Patch) → size ≤ 4114 → Rise 0 (places patches) → Under size (places patches) → length patches ≤ size → length (text_of (super_records form patches)) ≤ 4137
unfolding spelling
super_short size form [] small rise under few = omega arith
super_short size form (p ∷ patches) small rise under few =
    let text = pages_text (places (p ∷ patches)) in
    omega (
      arith,
      text_one (Super form text) [],
      length-append (little_bytes 4 (length text + 1)) (form ∷ text),
      length-bytes_low_first 0 4 (length text + 1),
      pages_short size (places (p ∷ patches)) (omega (arith, small)) rise under,
      length-map (p ∷ patches) (λ (q : Patch). q.location),
      few,
      small,
    )

supers_short : (own size form n : ℕ) (patches : List Patch) → size ≤ 4114 → AreWritten size 0 patches → length (text_of (supers_from own patches form n)) ≤ 4137 * n
supers_short own size form zero patches small are = omega arith
supers_short own size form (suc n) patches small are =
    let these = of_form own patches form in
    let few : length these ≤ size = omega (arith, filter-le (λ p. Rattle.load_meaning.specs.laws.Steps.is_form form (super_form own p)) patches, few_patches size 0 patches (omega arith) are) in
    omega (
      arith,
      text_parts (super_records form these) (supers_from own patches (form + 1) n),
      super_short size form these small (rise_form own size 0 patches form are) (under_form own size 0 patches form are) few,
      supers_short own size (form + 1) n patches small are,
    )

body_short : (own : ℕ) (content : List ℕ) (patches : List Patch) → length content ≤ 4114 → AreWritten (length content) 0 patches → length (body_text own content patches) ≤ 223035
unfolding body_text body_records
body_short own content patches small are =
    let data' = data_records (written_data own content patches) in
    let lones = map (lone_record own) (patches_stored_alone own patches) in
    let supers = supers_from own patches 0 38 in
    omega (
      arith,
      text_parts data' (lones ++ supers),
      text_parts lones supers,
      data_short (written_data own content patches),
      length-written own content patches,
      lones_short own (patches_stored_alone own patches),
      filter-le (λ p. has_none (super_form own p)) patches,
      few_patches (length content) 0 patches (omega arith) are,
      supers_short own (length content) 0 38 patches small are,
      small,
    )

-- ---- the segments

-- an image without ENTRY records that isn't whole
record IsBare (image : Image) : Type 0 where
  none : image.exports ≡ []
  part : image.whole ≡ false

-- its body is the records of its cells, and END
bare_body : (image : Image) → IsBare image → length (image_body image) ≡ length (body_text image.fields.seg_num image.content image.patches) + length (spelling written_layout End)
unfolding image_body body_text
bare_body image bare =
    let own = body_records image.fields.seg_num image.content image.patches in
    let records : cond image.whole (data_records image.content) own ++ image.exports ≡ own =
    ap (λ (b : Bool). cond b (data_records image.content) own ++ image.exports) bare.part ∙ ap (λ (l : List Record). own ++ l) bare.none ∙ append-nil own in
    length-append (text_of (cond image.whole (data_records image.content) own ++ image.exports)) (spelling written_layout End)
    ∙ ap (λ (l : List Record). length (text_of l) + length (spelling written_layout End)) records

image_long : (image : Image) → length image.fields.load_name ≡ 10 → IsBare image
    → length (image_text image) ≡ length (header_bytes (image_fields image) (length (image_body image))) + length (body_text image.fields.seg_num image.content image.patches) + length (spelling written_layout End)
unfolding image_text
image_long image ten bare = omega (arith, length-append (header_bytes (image_fields image) (length (image_body image))) (image_body image), bare_body image bare)

image_short : (image : Image) → length image.fields.load_name ≡ 10 → length image.fields.name ≤ 10 → length image.content ≤ 4114 → AreWritten (length image.content) 0 image.patches → IsBare image → length (image_text image) ≤ 223101
unfolding spelling
image_short image ten name small are bare =
    omega (
      arith,
      image_long image ten bare,
      length-header (image_fields image) (length (image_body image)) ten,
      body_short image.fields.seg_num image.content image.patches small are,
      name,
    )

file_parts : (image : Image) (more : List Image) → length (file_text (image ∷ more)) ≡ length (image_text image) + length (file_text more)
unfolding file_text
file_parts image more = ap length (flat_map-cons image_text image more) ∙ length-append (image_text image) (flat_map image_text more)

file_both : (xs ys : List Image) → length (file_text (xs ++ ys)) ≡ length (file_text xs) + length (file_text ys)
unfolding file_text
file_both xs ys = ap length (flat_map-append image_text xs ys) ∙ length-append (flat_map image_text xs) (flat_map image_text ys)

module _ (list : List Member) (table : List EquateAnswer) (have : MembersHave list table) (short : (x : List ℕ) → load_length x list ≤ 4114) (own : setting_in list ≡ without_runtimes) where
  -- a program exports nothing
  none_exported : (number : ℕ) → exports_for (form_in list) number (exports list table) ≡ []
  none_exported number = ap (λ (s : LinkSetting). exports_for s.form number (exports list table)) own

  load_short : (number : ℕ) (x : List ℕ) → length x ≡ 10 → length (image_text (image_of (load_fields list number x) (linked list table x) (exports_for (form_in list) number (exports list table)))) ≤ 223101
  unfolding load_fields
  load_short number x ten =
      let cells = linked list table x in
      let has = linked_has list table x have in
      let size : length (map byte_under cells) ≡ length cells = length-map cells byte_under in
      image_short (image_of (load_fields list number x) cells (exports_for (form_in list) number (exports list table))) ten (omega (arith, length-trim 32 x, ten)) (omega (arith, size, has.size', short x)) (runs_written cells has.runs)
      (record { none = none_exported number; part = refl })

  loads_short : (number : ℕ) (xs : List (List ℕ)) → ((x : List ℕ) → IsIn xs x → length x ≡ 10) → length (file_text (load_images list table number xs)) ≤ 223101 * length xs
  unfolding file_text
  loads_short number [] ten = omega arith
  loads_short number (x ∷ xs) ten =
      omega (
        arith,
        file_parts (image_of (load_fields list number x) (linked list table x) (exports_for (form_in list) number (exports list table))) (load_images list table (number + 1) xs),
        load_short number x (ten x (inl refl)),
        loads_short (number + 1) xs (λ y is. ten y (inr is)),
      )

  table_short : (number : ℕ) (ts : List Target) → length ts ≤ 4680 → length (file_text (table_images number ts)) ≤ 66000
  unfolding file_text table_image table_fields spelling
  table_short number [] few = omega arith
  table_short number (t ∷ ts) few =
      let image = table_image number (map file_entry (t ∷ ts)) in
      let content = table_bytes (map file_entry (t ∷ ts)) in
      omega (
        arith,
        file_parts image [],
        image_long image refl (record { none = refl; part = refl }),
        length-header (image_fields image) (length (image_body image)) refl,
        length-plain_body number content,
        length-table_bytes (map file_entry (t ∷ ts)),
        length-map (t ∷ ts) (λ (u : Target). file_entry u),
        few,
      )

  no_paths : (number : ℕ) → length (file_text (path_images number (setting_in list).runtimes)) ≡ 0
  unfolding file_text
  no_paths number = ap (λ (s : LinkSetting). length (file_text (path_images number s.runtimes))) own

  pub file_short : length (load_names list) ≤ 65 → length (targets list table) ≤ 4680 → ((x : List ℕ) → IsIn (load_names list) x → length x ≡ 10) → length (written_file list table) ≤ 0x1000000
  unfolding written_file images
  file_short few entries ten =
      let tables = table_images (table_number list) (targets list table) in
      let paths = path_images (table_number list + length tables) (setting_in list).runtimes in
      omega (
        arith,
        file_both (load_images list table 1 (load_names list)) (tables ++ paths),
        file_both tables paths,
        no_paths (table_number list + length tables),
        loads_short 1 (load_names list) ten,
        table_short (table_number list) (targets list table) entries,
        few,
      )
