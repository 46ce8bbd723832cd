-- The jump table's lines, and the map as a whole.
use Rattle.std.proofs.Common.{◌≡◌, ℕ, ◌+◌, ◌*◌, List, [], ◌∷◌, ◌++◌, length, map, Some, refl, ap, ◌∙◌, arith}
use Rattle.std.specs.Prelude.{codes, slice_get, option_map}
use Rattle.std.proofs.lemmas.List.{length-map}
use Rattle.std.proofs.lemmas.Option.{slice_get-map}
use Rattle.omf_format.specs.Number.{number_at}
use Rattle.load_meaning.specs.declared.table.Target.{Target}
use Rattle.load_meaning.specs.Table.{entry_start, file_entry, table_bytes, IsTableOf}
use Rattle.load_meaning.specs.LoadTable.{target_at}
use Rattle.load_meaning.specs.WrittenFile.{table_fields}
use Rattle.link_meaning.specs.Member.{Member}
use Rattle.link_meaning.specs.Layout.{load_headers}
use Rattle.link_meaning.specs.LinkValues.{EquateAnswer}
use Rattle.link_meaning.specs.LinkedCells.{table_number, targets}
use Rattle.link_meaning.specs.LinkFaults.{LinkInput, IsResolved}
use Rattle.link_meaning.specs.LinkWritten.{table_images}
use Rattle.link_file.specs.Paths.{paths_of}
use Rattle.link_map.specs.MapText.{numbered_texts, load_text, load_line, entry_line, table_text, runtimes_text, exports_text, map_text, IsMapOf}
use Rattle.link_map.specs.Standing.{IsDrawn}
use Rattle.link_map.proofs.TextLaws.{both}

-- ---- the jump table

abbrev target : ℕ → ℕ → ℕ → Target
target file segment offset = record { file = file; segment = segment; offset = offset }

-- where an entry of the table's bytes leads
pub target_is : (ts : List Target) (bytes : List ℕ) (k : ℕ) (t : Target) → IsTableOf (map file_entry ts) bytes → slice_get ts k ≡ Some t → target_at bytes k ≡ t
unfolding target_at
target_is ts bytes k t is at =
    let entry = is.each k (file_entry t) (slice_get-map file_entry ts k ∙ ap (option_map file_entry) at) in
    ap (λ (n : ℕ). target n (number_at 2 (entry_start k + 4) bytes) (number_at 4 (entry_start k + 6) bytes)) entry.file
    ∙ ap (λ (n : ℕ). target t.file n (number_at 4 (entry_start k + 6) bytes)) entry.segment
    ∙ ap (λ (n : ℕ). target t.file t.segment n) entry.offset

-- how many bytes a table has
pub table_size : (ts : List Target) (bytes : List ℕ) → IsTableOf (map file_entry ts) bytes → length bytes ≡ 12 + 14 * length ts
table_size ts bytes is = omega (arith, is.size, length-map ts file_entry)

-- the lines of one with entries
pub table_some : (number : ℕ) (ts : List Target) (size : ℕ) (name : List ℕ) → (length ts ≡ 0 → ⊥) → size ≡ length (table_bytes (map file_entry ts)) → name ≡ codes "~JumpTable"
    → load_line number size 0x0002 0 name ++ numbered_texts (entry_line number) 0 ts ≡ table_text number ts
unfolding table_fields
table_some number [] size name some is named = absurd (some refl)
table_some number (t ∷ ts) size name some is named =
    ap (λ (n : ℕ). load_line number n 0x0002 0 name ++ numbered_texts (entry_line number) 0 (t ∷ ts)) is
    ∙ ap (λ (l : List ℕ). load_line number (length (table_bytes (map file_entry (t ∷ ts)))) 0x0002 0 l ++ numbered_texts (entry_line number) 0 (t ∷ ts)) named

-- ---- the map

-- the load segments, the table after them, the pathnames after it, and what is exported
pub map_is : (list : List Member) (table : List EquateAnswer) (loads called listed text : List ℕ) (number after : ℕ) (ts : List Target) → loads ≡ numbered_texts (load_text list table) 1 (load_headers list)
    → called ≡ loads ++ table_text number ts → listed ≡ called ++ runtimes_text after (paths_of list) → text ≡ listed ++ exports_text list table → number ≡ table_number list
    → after ≡ number + length (table_images number ts) → ts ≡ targets list table → text ≡ map_text list table
unfolding map_text
map_is list table loads called listed text number after ts drawn more files last counted at calls =
    let first = numbered_texts (load_text list table) 1 (load_headers list) in
    let exported = exports_text list table in
    let rest : ℕ → List Target → List ℕ = λ n l. table_text n l ++ (runtimes_text (n + length (table_images n l)) (paths_of list) ++ exported) in
    both loads (table_text number ts) (runtimes_text after (paths_of list) ++ exported) called text more (both called (runtimes_text after (paths_of list)) exported listed text files last)
    ∙ ap (λ (l : List ℕ). l ++ (table_text number ts ++ (runtimes_text after (paths_of list) ++ exported))) drawn
    ∙ ap (λ (n : ℕ). first ++ (table_text number ts ++ (runtimes_text n (paths_of list) ++ exported))) at
    ∙ ap (λ (n : ℕ). first ++ rest n ts) counted
    ∙ ap (λ (l : List Target). first ++ rest (table_number list) l) calls

-- the map of files that are linked
pub mapped_is : (given : LinkInput) (list : List Member) (text : List ℕ) → IsResolved given list → IsDrawn list text → IsMapOf given text
mapped_is given list text resolved drawn = record { list = list; table = drawn.table; linkable = record { resolved = resolved; emitted = drawn.emitted }; is = drawn.is }
