-- Pathnames can be written as a load segment, and its cells are their bytes.
use Rattle.std.proofs.Common.{◌≡◌, ℕ, ◌+◌, ◌*◌, ◌^◌, ◌<◌, ◌≤◌, List, [], ◌∷◌, ◌++◌, length, map, replicate, refl, ap, arith}
use Rattle.std.specs.List.{flat_map, AllByRecursion}
use Rattle.std.proofs.lemmas.List.{append-nil, length-append}
use Rattle.byteorder.specs.Endian.{little_bytes}
use Rattle.byteorder.specs.Numbers.{length-bytes_low_first}
use Rattle.omf_format.specs.Field.{written_layout}
use Rattle.omf_format.specs.Record.{End, spelling}
use Rattle.omf_format.specs.File.{Segment}
use Rattle.load_meaning.specs.Cells.{Byte, cells}
use Rattle.load_meaning.specs.Pathnames.{IsPath, rows_text, paths_text, most_paths}
use Rattle.load_meaning.specs.WrittenBody.{written_cells, data_records}
use Rattle.load_meaning.specs.laws.WrittenTableLaws.{plain_data, length-end}
use Rattle.load_meaning.specs.WrittenFile.{image_body, IsImage, IsReadAs, table_fields, pathnames_fields, pathnames_image}

length-rows : (number : ℕ) (paths : List (List ℕ)) → AllByRecursion IsPath paths → length (rows_text number paths) ≤ 2 + 266 * length paths
length-rows number [] all = omega (arith, length-bytes_low_first 0 2 0)
length-rows number (path ∷ paths) all =
    let rest = rows_text (number + 1) paths in
    let body = length path ∷ path ++ rest in
    let zeros : List ℕ = replicate 8 0 in
    omega (
      arith,
      length-append (little_bytes 2 number) (zeros ++ body),
      length-append zeros body,
      length-append path rest,
      length-bytes_low_first 0 2 number,
      all.0.short,
      length-rows (number + 1) paths all.1,
    )

pub length-paths_text : (paths : List (List ℕ)) → AllByRecursion IsPath paths → length paths ≤ most_paths → length (paths_text paths) ≤ 4258
unfolding paths_text
length-paths_text paths all few = omega (arith, length-rows 2 paths all, few)

pub pathnames_image_is : (number : ℕ) (paths : List (List ℕ)) → number < 2 ^ 16 → AllByRecursion IsPath paths → length paths ≤ most_paths → IsImage (pathnames_image number paths)
unfolding pathnames_image pathnames_fields table_fields image_body
pathnames_image_is number paths small all few =
    let size = length-paths_text paths all few in
    let data' = plain_data (paths_text paths) in
    let end = length-end in
    let body' : length (image_body (pathnames_image number paths)) ≡ length (flat_map (spelling written_layout) (data_records (paths_text paths)) ++ spelling written_layout End) =
    ap (λ rs. length (flat_map (spelling written_layout) rs ++ spelling written_layout End)) (append-nil (data_records (paths_text paths))) in
    record {
      fits = record {
        res_spc = omega arith;
        length = omega (arith, size);
        bank_size = omega arith;
        kind = omega arith;
        org = omega arith;
        align = omega arith;
        seg_num = small;
        entry = omega arith;
        load_name = refl;
        name = omega arith;
        total = omega (arith, data', body', size, end, length-append (flat_map (spelling written_layout) (data_records (paths_text paths))) (spelling written_layout End));
      };
      writable = record { version = refl; banks = omega arith; listed = refl; spaced = omega arith };
      length' = refl;
      small = omega (arith, size);
      patches' = tt;
      exports' = tt;
      bare = λ e. refl;
    }

pub pathnames_cells : (number : ℕ) (paths : List (List ℕ)) (s : Segment) → IsReadAs (pathnames_image number paths) s → cells s ≡ map Byte (paths_text paths)
unfolding pathnames_image written_cells
pathnames_cells number paths s is = is.cells'
