-- A dictionary's rows take twelve bytes each of the file.
use Rattle.std.proofs.Common.{◌≡◌, ℕ, ◌*◌, ◌≤◌, List, [], ◌∷◌, length, drop, map, Some, ap, subst, arith}
use Rattle.std.proofs.lemmas.List.{length-append, length-map}
use Rattle.omf_format.specs.Number.{IsBytes}
use Rattle.omf_format.specs.File.{Segment, body_reader, IsFile, segment_at}
use Rattle.omf_format.specs.laws.FileLaws.{header_lies}
use Rattle.omf_format.specs.laws.BodyLaws.{body_fits}
use Rattle.link_meaning.specs.Member.{OfferedRow}
use Rattle.link_meaning.specs.Dictionary.{rows_in}
use Rattle.lib_dict.specs.declared.dictionary.Row as declared
use Rattle.lib_dict.specs.Library.{row_view}
use Rattle.lib_dict.specs.Rows.{seen_row}
use Rattle.lib_dict.specs.Parts.{DictionaryTexts, HasParts}
use Rattle.lib_dict.specs.Tables.{AreRowsIn}
use Rattle.lib_dict.specs.DictionaryLayout.{AreRows}
use Rattle.lib_dict.proofs.PartLaws.{second_fits}
use Rattle.lib_dict.proofs.ReadLaws.{head_at, left_within, end_is}
use Rattle.lib_dict.proofs.LayoutLaws.{in_parts}

rows_size : (segments : List Segment) (numbers : List ℕ) (names : List (List ℕ)) (rows : List OfferedRow) (bytes : List ℕ) → AreRows segments numbers names rows bytes → length bytes ≡ 12 * length rows
rows_size segments numbers names [] bytes are = ap length are
rows_size segments numbers names (row ∷ rows) bytes are =
    let rest = rows_size segments numbers names rows are.1 are.5 in
    omega (arith, ap length are.2, length-append are.0 are.1, are.3, rest)

pub few_rows : (list : List Segment) (file : List ℕ) (s : Segment) (parts : DictionaryTexts) (rows : List declared.Row) → IsBytes file → IsFile list file → Some s ≡ segment_at list 1 → HasParts parts s.records
    → AreRowsIn list (rows_in s.start parts.at parts.first parts.second parts.third (drop 1 list)) rows → 12 * length (map seen_row rows) ≤ length file
few_rows list file s parts rows bytes is here has read =
    let are : IsFile (s ∷ drop 1 list) file = subst (λ (l : List Segment). IsFile l file) (head_at list s here) is in
    let r = body_reader s.start s.fields file in
    let lies = header_lies s.start s.fields file are.2.header in
    let fits = second_fits r are.2.last parts s.records has are.2.records (body_fits s.start s.fields file bytes) (left_within s.start s.fields file) in
    let end = end_is s.start s.fields file in
    let p = in_parts s (drop 1 list) parts.at parts.first parts.second parts.third read.found read.read in
    let size = rows_size (s ∷ drop 1 list) p.numbers p.names read.found parts.second p.rows' in
    let count = length-map read.found (row_view list) in
    omega (arith, fits.0, end, lies.within, size, count, ap length read.reported)
