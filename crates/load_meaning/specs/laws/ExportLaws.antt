-- ENTRY records after a body don't change the cells.
use Rattle.std.proofs.Common.{◌≡◌, ℕ, List, [], ◌∷◌, ◌++◌, refl, ap, ◌∙◌}
use Rattle.std.specs.List.{flat_map, AllByRecursion}
use Rattle.std.proofs.lemmas.List.Concat.{flat_map-cons}
use Rattle.omf_format.specs.Record.{Record, End, Const, LongConst, Align, Org, Space, Reloc, InterSeg, ShortReloc, ShortInterSeg, Super, Using, Strong, Label, Equate, Formula, Entry, content_of}
use Rattle.omf_format.specs.File.{Segment}
use Rattle.load_meaning.specs.Cells.{Patch, patches_in}
use Rattle.object_meaning.specs.laws.RunLaws.{IsBodyRecord}
use Rattle.load_meaning.specs.WrittenFile.{IsExport}

pub export_fits : (r : Record) → IsExport r → IsBodyRecord r
export_fits (Entry segment offset name) is = (is, refl)
export_fits End is = absurd is
export_fits (Const bytes) is = absurd is
export_fits (LongConst bytes) is = absurd is
export_fits (Align n) is = absurd is
export_fits (Org n) is = absurd is
export_fits (Space n) is = absurd is
export_fits (Reloc count shift location offset) is = absurd is
export_fits (InterSeg count shift location file segment offset) is = absurd is
export_fits (ShortReloc count shift location offset) is = absurd is
export_fits (ShortInterSeg count shift location segment offset) is = absurd is
export_fits (Super form bytes) is = absurd is
export_fits (Using name) is = absurd is
export_fits (Strong name) is = absurd is
export_fits (Label global name size form private) is = absurd is
export_fits (Equate global name size form private expr) is = absurd is
export_fits (Formula code count n expr) is = absurd is

gives_none : (r : Record) → IsExport r → (s : Segment) → (content_of r ≡ []) × (patches_in s r ≡ [])
gives_none (Entry segment offset name) is s = (refl, refl)
gives_none End is s = absurd is
gives_none (Const bytes) is s = absurd is
gives_none (LongConst bytes) is s = absurd is
gives_none (Align n) is s = absurd is
gives_none (Org n) is s = absurd is
gives_none (Space n) is s = absurd is
gives_none (Reloc count shift location offset) is s = absurd is
gives_none (InterSeg count shift location file segment offset) is s = absurd is
gives_none (ShortReloc count shift location offset) is s = absurd is
gives_none (ShortInterSeg count shift location segment offset) is s = absurd is
gives_none (Super form bytes) is s = absurd is
gives_none (Using name) is s = absurd is
gives_none (Strong name) is s = absurd is
gives_none (Label global name size form private) is s = absurd is
gives_none (Equate global name size form private expr) is s = absurd is
gives_none (Formula code count n expr) is s = absurd is

pub exports_fit : (rs : List Record) → AllByRecursion IsExport rs → AllByRecursion IsBodyRecord rs
exports_fit [] all = tt
exports_fit (r ∷ rs) all = (export_fits r all.0, exports_fit rs all.1)

pub exports_content : (rs : List Record) → AllByRecursion IsExport rs → flat_map content_of rs ≡ []
exports_content [] all = refl
exports_content (r ∷ rs) all =
    flat_map-cons content_of r rs ∙ ap (λ (l : List ℕ). l ++ flat_map content_of rs) (gives_none r all.0 (record { start = 0; fields = none_fields; records = [] })).0 ∙ exports_content rs all.1
  where
    none_fields : Rattle.omf_format.specs.Header.HeaderFields
    none_fields = record { byte_count = 0; res_spc = 0; length = 0; lab_len = 0; version = 2; bank_size = 0; kind = 0; org = 0; align = 0; seg_num = 0; entry = 0; disp_name = 0; disp_data = 0; load_name = []; name = [] }

pub exports_patches : (s : Segment) (rs : List Record) → AllByRecursion IsExport rs → flat_map (patches_in s) rs ≡ []
exports_patches s [] all = refl
exports_patches s (r ∷ rs) all =
    flat_map-cons (patches_in s) r rs ∙ ap (λ (l : List Patch). l ++ flat_map (patches_in s) rs) (gives_none r all.0 s).1 ∙ exports_patches s rs all.1
