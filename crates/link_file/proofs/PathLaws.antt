-- The pathname segment.
use Rattle.std.proofs.Common.{◌≡◌, ℕ, zero, suc, ◌+◌, ◌<◌, ◌≤◌, List, [], ◌∷◌, ◌++◌, length, map, replicate, Some, None, refl, sym, ap, ◌∙◌, append_assoc, append-nil, arith}
use Rattle.std.specs.Prelude.{slice_get, option_map, codes}
use Rattle.std.proofs.lemmas.List.{length-append, length-map}
use Rattle.std.proofs.lemmas.Option.{slice_get-map}
use Rattle.byteorder.specs.Endian.{little_bytes}
use Rattle.byteorder.specs.Numbers.{length-bytes_low_first}
use Rattle.omf_format.specs.Field.{written_layout}
use Rattle.omf_format.specs.Header.{HeaderFields, IsWritable, header_bytes}
use Rattle.omf_format.specs.laws.WrittenHeaderLaws.{length-header}
use Rattle.omf_format.specs.Record.{LongConst, spelling}
use Rattle.load_meaning.specs.Pathnames.{rows_text, paths_text}
use Rattle.load_meaning.specs.WrittenFile.{image_body, image_text, file_text, table_fields, pathnames_fields, pathnames_image}
use Rattle.load_meaning.specs.laws.WrittenPathLaws.{length-paths_text}
use Rattle.link_meaning.specs.Member.{RuntimeFile, Member, setting_in}
use Rattle.link_meaning.specs.LinkWritten.{path_images}
use Rattle.link_meaning.specs.laws.SettingLaws.{HasPaths, has_paths}
use Rattle.link_program.specs.OfFiles.{IsOfFiles}
use Rattle.omf_header.specs.Written.{written}
use Rattle.link_file.specs.Images.{with_space, whole_image}
use Rattle.link_file.specs.Paths.{paths_of}
use Rattle.link_file.proofs.FileLaws.{text_one}

-- ---- rows

pub paths_known : (list : List Member) → IsOfFiles list → HasPaths list
paths_known list of = has_paths of.given list of.bytes of.resolved.program

pub rows_all : (paths : List (List ℕ)) → rows_text 2 paths ≡ paths_text paths
unfolding paths_text
rows_all paths = refl

-- the path at a place
pub path_there : (rs : List RuntimeFile) (place : ℕ) (path : List ℕ) → Some path ≡ option_map (λ (r : RuntimeFile). r.path) (slice_get rs place) → slice_get (map (λ (r : RuntimeFile). r.path) rs) place ≡ Some path
path_there rs place path is = slice_get-map (λ (r : RuntimeFile). r.path) rs place ∙ sym is

pub path_gone : (rs : List RuntimeFile) (place : ℕ) → place < length rs → None ≡ option_map (λ (r : RuntimeFile). r.path) (slice_get rs place) → ⊥
path_gone [] place less is = omega (arith, less)
path_gone (r ∷ rs) zero less is = absurd cc
path_gone (r ∷ rs) (suc place) less is = path_gone rs place (omega (arith, less)) is

-- one row more
pub row_more : (number : ℕ) (path out new all : List ℕ) (left more : List (List ℕ)) → left ≡ path ∷ more → new ≡ out ++ (little_bytes 2 number ++ (replicate 8 0 ++ (length path ∷ path)))
    → out ++ rows_text number left ≡ all → new ++ rows_text (number + 1) more ≡ all
row_more number path out new all left more is put whole =
    let rest = rows_text (number + 1) more in
    let zeros : List ℕ = replicate 8 0 in
    let own = little_bytes 2 number ++ (zeros ++ (length path ∷ path)) in
    ap (λ (l : List ℕ). l ++ rest) put
    ∙ append_assoc out own rest
    ∙ ap (λ (l : List ℕ). out ++ l) (append_assoc (little_bytes 2 number) (zeros ++ (length path ∷ path)) rest ∙ ap (λ (l : List ℕ). little_bytes 2 number ++ l) (append_assoc zeros (length path ∷ path) rest))
    ∙ ap (λ (l : List (List ℕ)). out ++ rows_text number l) (sym is)
    ∙ whole

pub no_paths : (rs : List RuntimeFile) → length (map (λ (r : RuntimeFile). r.path) rs) ≡ length rs
no_paths rs = length-map rs (λ (r : RuntimeFile). r.path)

-- ---- the segment

abbrev named_fields : ℕ → ℕ → List ℕ → HeaderFields
named_fields number size name = written (replicate 10 32) name 0x0004 size 0x10000 number

pub pathnames_named : (number size : ℕ) (name : List ℕ) → name ≡ codes "~Pathnames" → named_fields number size name ≡ pathnames_fields number size
unfolding table_fields pathnames_fields
pathnames_named number size name e = ap (named_fields number size) e

pub pathnames_writable : (number size : ℕ) → IsWritable (with_space (pathnames_fields number size) 0)
unfolding table_fields pathnames_fields
pathnames_writable number size = record { version = refl; banks = omega arith; listed = refl; spaced = omega arith }

-- the body is one LCONST, and END
whole_body : (f : HeaderFields) (bytes : List ℕ) → 1 ≤ length bytes → spelling written_layout (LongConst bytes) ++ 0 ∷ [] ≡ image_body (whole_image f bytes)
unfolding image_body spelling
whole_body f [] some = absurd (omega (arith, some))
whole_body f (b ∷ bytes) some = ap (λ (l : List ℕ). l ++ 0 ∷ []) (sym (append-nil (spelling written_layout (LongConst (b ∷ bytes)))))

long_size : (bytes : List ℕ) → length (spelling written_layout (LongConst bytes)) ≡ 5 + length bytes
unfolding spelling
long_size bytes = omega (arith, length-append (little_bytes 4 (length bytes)) bytes, length-bytes_low_first 0 4 (length bytes))

pub whole_text : (f : HeaderFields) (bytes front : List ℕ) → 1 ≤ length bytes → front ≡ header_bytes (with_space f 0) (5 + length bytes + 1) → front ++ (spelling written_layout (LongConst bytes) ++ 0 ∷ []) ≡ image_text (whole_image f bytes)
unfolding image_text
whole_text f bytes front some h =
    let long = spelling written_layout (LongConst bytes) in
    let whole = whole_body f bytes some in
    let size : 5 + length bytes + 1 ≡ length (image_body (whole_image f bytes)) = omega (arith, long_size bytes, length-append long (0 ∷ []), ap length whole) in
    ap (λ (l : List ℕ). l ++ (long ++ 0 ∷ [])) (h ∙ ap (header_bytes (with_space f 0)) size)
    ∙ ap (λ (l : List ℕ). header_bytes (with_space f 0) (length (image_body (whole_image f bytes))) ++ l) whole

pub whole_size : (f : HeaderFields) (bytes : List ℕ) → 1 ≤ length bytes → length f.load_name ≡ 10 → length (image_text (whole_image f bytes)) ≡ 0x37 + length f.name + (5 + length bytes + 1)
unfolding image_text
whole_size f bytes some ten =
    let all = image_body (whole_image f bytes) in
    let long = spelling written_layout (LongConst bytes) in
    omega (arith, length-append (header_bytes (with_space f 0) (length all)) all, length-header (with_space f 0) (length all) ten, ap length (whole_body f bytes some), length-append long (0 ∷ []), long_size bytes)

-- ---- the file

pub no_pathnames : (number : ℕ) (rs : List RuntimeFile) (out : List ℕ) → length rs ≡ 0 → out ≡ out ++ file_text (path_images number rs)
unfolding file_text
no_pathnames number [] out none = sym (append-nil out)
no_pathnames number (r ∷ rs) out none = absurd (omega (arith, none))

pub pathnames_text : (number size : ℕ) (rs : List RuntimeFile) (f : HeaderFields) (text : List ℕ) → (length rs ≡ 0 → ⊥) → f ≡ pathnames_fields number size → text ≡ paths_text (map (λ (r : RuntimeFile). r.path) rs) → size ≡ length text
    → image_text (whole_image f text) ≡ file_text (path_images number rs)
unfolding pathnames_image
pathnames_text number size [] f text some f_is text_is size_is = absurd (some refl)
pathnames_text number size (r ∷ rs) f text some f_is text_is size_is =
    ap (λ (g : HeaderFields). image_text (whole_image g text)) (f_is ∙ ap (pathnames_fields number) (size_is ∙ ap length text_is))
    ∙ ap (λ (l : List ℕ). image_text (whole_image (pathnames_fields number (length (paths_text (map (λ (o : RuntimeFile). o.path) (r ∷ rs))))) l)) text_is
    ∙ sym (text_one (pathnames_image number (map (λ (o : RuntimeFile). o.path) (r ∷ rs))))

-- how long the text is
pub text_fits : (list : List Member) → IsOfFiles list → (text : List ℕ) → text ≡ paths_text (paths_of list) → length text ≤ 4258
text_fits list of text is =
    let known = paths_known list of in
    omega (arith, ap length is, length-paths_text (paths_of list) known.paths (omega (arith, no_paths (setting_in list).runtimes, known.few)))

pub text_some : (paths : List (List ℕ)) (text : List ℕ) → text ≡ paths_text paths → 1 ≤ length text
unfolding paths_text
text_some [] text is = omega (arith, ap length is, length-bytes_low_first 0 2 0)
text_some (path ∷ paths) text is =
    let zeros : List ℕ = replicate 8 0 in
    let rest = length path ∷ path ++ rows_text (2 + 1) paths in
    omega (arith, ap length is, length-append (little_bytes 2 2) (zeros ++ rest), length-bytes_low_first 0 2 2)
