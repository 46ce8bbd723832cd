-- The pathname segment of a load file: which file each number of its jump table is (GS/OS Reference, appendix F, pathname
-- segment; the rows are this project's own choice).
use Rattle.std.specs.Prelude.{◌≡◌, ◌≤◌, ℕ, zero, suc, ◌+◌, Bool, true, false, not, ◌&&◌, ◌||◌, List, [], ◌∷◌, ◌++◌, length, take, drop, replicate, Option, Some, None, nat_lt, nat_le, ◌==◌, if◌then◌else◌}
use Rattle.std.specs.List.{list_all}
use Rattle.std.specs.Option.{option_or, option_map_or}
use Rattle.byteorder.specs.Endian.{little_bytes}
use Rattle.omf_format.specs.Ascii.{exclamation, tilde}
use Rattle.omf_format.specs.Number.{number_at}
use Rattle.omf_format.specs.Header.{form_of}
use Rattle.omf_format.specs.Record.{Record, LongConst}
use Rattle.omf_format.specs.File.{Segment}
use Rattle.load_meaning.specs.Cells.{segment_bytes}

-- the segment is a pathname segment
abbrev pub has_pathnames : Segment → Bool
has_pathnames s = form_of s.fields.kind == 0x04

-- ---- the rows

-- a pathname segment has no more rows than these
abbrev pub most_paths : ℕ
most_paths = 16

-- a byte of a path is a printing character other than a space
abbrev pub is_path_byte : ℕ → Bool
is_path_byte b = nat_le exclamation b && nat_le b tilde

-- a path has 1 to 255 such bytes
pub record IsPath (path : List ℕ) : Type 0 where
  pub some : 1 ≤ length path
  pub short : length path ≤ 255
  pub plain : list_all is_path_byte path ≡ true

-- rows one after another, the first with this file number, and the number 0 after them; a row is its file number, eight zeros, the path's
-- length and the path
abbrev pub rows_text : ℕ → List (List ℕ) → List ℕ
rows_text number [] = little_bytes 2 0
rows_text number (path ∷ paths) = little_bytes 2 number ++ (replicate 8 0 ++ (length path ∷ path ++ rows_text (number + 1) paths))

-- the bytes of the pathname segment of these files, whose numbers begin with 2
unfoldable pub paths_text : List (List ℕ) → List ℕ
paths_text paths = rows_text 2 paths

-- how many bytes of a row are before its path
abbrev pub path_start : ℕ
path_start = 11

-- a row is at the start of the bytes: its number, eight zeros, the path's length, and the path
pub record IsRow (number : ℕ) (path bytes : List ℕ) : Type 0 where
  pub inside : path_start + length path ≤ length bytes
  pub number' : number_at 2 0 bytes ≡ number
  pub zeros : take 8 (drop 2 bytes) ≡ replicate 8 0
  pub size : number_at 1 10 bytes ≡ length path
  pub path' : take (length path) (drop path_start bytes) ≡ path
  pub some : 1 ≤ length path
  pub plain : list_all is_path_byte path ≡ true

-- the bytes are rows one after another, the first with this number, and the number 0
abbrev pub AreRows : ℕ → List (List ℕ) → List ℕ → Type 0
AreRows number [] bytes = (length bytes ≡ 2) × (number_at 2 0 bytes ≡ 0)
AreRows number (path ∷ paths) bytes = IsRow number path bytes × AreRows (number + 1) paths (drop (path_start + length path) bytes)

-- they are the rows of a pathname segment
pub record ArePaths (paths : List (List ℕ)) (bytes : List ℕ) : Type 0 where
  pub rows : AreRows 2 paths bytes
  pub some : 1 ≤ length paths
  pub few : length paths ≤ most_paths

-- ---- reading them

-- the length byte of the row at the start
abbrev pub path_size : List ℕ → ℕ
path_size bytes = number_at 1 10 bytes

-- the path of the row at the start
abbrev pub first_path : List ℕ → List ℕ
first_path bytes = take (path_size bytes) (drop path_start bytes)

-- what follows the row at the start
abbrev pub after_path : List ℕ → List ℕ
after_path bytes = drop (path_start + path_size bytes) bytes

-- the paths of n rows at most, up to the number 0
abbrev pub paths_in : ℕ → List ℕ → List (List ℕ)
paths_in zero bytes = []
paths_in (suc n) bytes = if number_at 2 0 bytes == 0 then [] else first_path bytes ∷ paths_in n (after_path bytes)

-- where, after its number, the first field of a row begins that is wrong or passes the end: its zeros, its length byte, its path
abbrev pub row_flaw : ℕ → List ℕ → Option ℕ
row_flaw at bytes =
    if nat_lt (length bytes) 10 || not (list_all (λ b. b == 0) (take 8 (drop 2 bytes))) then Some (at + 2)
    else if nat_lt (length bytes) path_start || path_size bytes == 0 then Some (at + 10)
    else if nat_lt (length bytes) (path_start + path_size bytes) || not (list_all is_path_byte (first_path bytes)) then Some (at + path_start)
    else None

-- what is wrong with the number at `at`, after `rows` rows: it is cut, or, if there are rows, it is 0 and bytes are after it; otherwise it
-- begins a row, and `row` says what is wrong with it
abbrev pub end_flaw : ℕ → ℕ → List ℕ → Option ℕ → Option ℕ
end_flaw rows at bytes row =
    if nat_lt (length bytes) 2 then Some at
    else if number_at 2 0 bytes == 0 && nat_lt 0 rows then (if length bytes == 2 then None else Some (at + 2))
    else row

-- where the first field begins that is wrong or passes the end, where these bytes begin at `at` after `rows` rows, and at most n more rows
-- may follow: the number is the next one, or after a row 0, and after that 0 there is nothing
abbrev pub rows_flaw : ℕ → ℕ → ℕ → List ℕ → Option ℕ
rows_flaw zero rows at bytes = end_flaw rows at bytes (Some at)
rows_flaw (suc n) rows at bytes = end_flaw rows at bytes
    (if not (number_at 2 0 bytes == rows + 2) then Some at
    else option_or (row_flaw at bytes) (rows_flaw n (rows + 1) (at + path_start + path_size bytes) (after_path bytes)))

-- ---- the segment

-- the bytes of an LCONST
abbrev pub long_bytes : Record → Option (List ℕ)
long_bytes (LongConst bytes) = Some bytes
long_bytes _ = None

-- the records are one LCONST of a given number of bytes, and END
abbrev pub is_one_long : ℕ → List (ℕ × Record) → Bool
is_one_long size (a ∷ end ∷ []) = option_map_or (λ bytes. length bytes == size) (long_bytes a.1) false
is_one_long size _ = false

-- the paths of a file: those of its first pathname segment
unfoldable pub paths_of : List Segment → List (List ℕ)
paths_of [] = []
paths_of (s ∷ segments) = if has_pathnames s then paths_in most_paths (segment_bytes s) else paths_of segments

-- the number of the first of these segments that is a pathname segment, where the first of them has this number
abbrev pub pathnames_from : ℕ → List Segment → Option ℕ
pathnames_from number [] = None
pathnames_from number (s ∷ segments) = if has_pathnames s then Some number else pathnames_from (number + 1) segments

-- the number of a file's pathname segment
abbrev pub pathnames_of : List Segment → Option ℕ
pathnames_of segments = pathnames_from 1 segments
