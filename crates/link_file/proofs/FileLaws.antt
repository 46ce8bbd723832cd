-- Load segments one after another, and the table.
use Rattle.std.proofs.Common.{◌≡◌, ℕ, ◌+◌, ◌<◌, ◌≤◌, List, [], ◌∷◌, ◌++◌, length, map, refl, sym, ap, subst, ◌∙◌, append_assoc, replicate, arith}
use Rattle.std.proofs.lemmas.List.{length-append, length-map, append-nil}
use Rattle.std.proofs.lemmas.List.Concat.{flat_map-cons}
use Rattle.std.proofs.lemmas.Grind.{flat_map-append}
use Rattle.std.specs.Prelude.{codes}
use Rattle.omf_format.specs.Header.{HeaderFields, IsWritable}
use Rattle.load_meaning.specs.declared.table.Target.{Target}
use Rattle.load_meaning.specs.Cells.{Byte, Patch, byte_under}
use Rattle.load_meaning.specs.Table.{file_entry, table_bytes}
use Rattle.load_meaning.specs.WrittenBody.{AreWritten}
use Rattle.load_meaning.specs.WrittenFile.{Image, image_text, file_text, table_fields, table_image}
use Rattle.load_meaning.specs.laws.WrittenTableLaws.{length-table_bytes}
use Rattle.link_meaning.specs.Member.{RuntimeFile}
use Rattle.link_meaning.specs.LinkWritten.{patches_of_cells, table_images, path_images}
use Rattle.load_writer.specs.WrittenParts.{seen}
use Rattle.link_content.specs.Holding.{Holding}
use Rattle.link_content.specs.Contents.{HoldsCells}
use Rattle.omf_header.specs.Written.{written}
use Rattle.link_file.specs.Images.{with_space, image_in, images_after, IsReady}
use Rattle.link_content.proofs.ContentLaws.{bytes_under, bytes_patches}
use Rattle.link_file.proofs.ImageLaws.{image}

pub no_text : file_text [] ≡ []
unfolding file_text
no_text = refl

pub text_cons : (image : Image) (images : List Image) → file_text (image ∷ images) ≡ image_text image ++ file_text images
unfolding file_text
text_cons image images = flat_map-cons image_text image images

pub text_both : (xs ys : List Image) → file_text (xs ++ ys) ≡ file_text xs ++ file_text ys
unfolding file_text
text_both xs ys = flat_map-append image_text xs ys

pub text_one : (image : Image) → file_text (image ∷ []) ≡ image_text image
text_one image = text_cons image [] ∙ ap (λ (l : List ℕ). image_text image ++ l) no_text ∙ whole (image_text image)
  where
    whole : (l : List ℕ) → l ++ [] ≡ l
    whole [] = refl
    whole (b ∷ l) = ap (λ (m : List ℕ). b ∷ m) (whole l)

-- the cells of the table are its bytes, without patches
pub table_under : (bytes : List ℕ) → map byte_under (map Byte bytes) ≡ bytes
table_under bytes = bytes_under [] bytes

pub table_unpatched : (bytes : List ℕ) → patches_of_cells (map Byte bytes) ≡ []
unfolding patches_of_cells
table_unpatched bytes = bytes_patches [] bytes

-- its fields may be written
pub table_writable : (number size : ℕ) → IsWritable (with_space (table_fields number size) 0)
unfolding table_fields
table_writable number size = record { version = refl; banks = omega arith; listed = refl; spaced = omega arith }

pub table_small : (targets : List Target) → length targets ≤ 4680 → length (table_bytes (map file_entry targets)) ≤ 0xFFFFFF
table_small targets few = omega (arith, length-table_bytes (map file_entry targets), length-map targets (λ (t : Target). file_entry t), few)

-- ---- the table's segment

abbrev named_fields : ℕ → ℕ → List ℕ → HeaderFields
named_fields number size name = written (replicate 10 32) name 0x0002 size 0x10000 number

pub table_named : (number size : ℕ) (name : List ℕ) → name ≡ codes "~JumpTable" → named_fields number size name ≡ table_fields number size
unfolding table_fields
table_named number size name e = ap (named_fields number size) e

pub no_table : (number count : ℕ) (ts : List Target) (out : List ℕ) → count ≡ length ts → count ≡ 0 → out ≡ out ++ file_text (table_images number ts)
unfolding file_text
no_table number count [] out is zero = sym (append-nil out)
no_table number count (t ∷ ts) out is zero = absurd (omega (arith, is, zero))

-- how long the table is
pub table_len : (ts : List Target) (n : ℕ) → length ts ≤ 4680 → n ≡ length (map Byte (table_bytes (map file_entry ts))) → (n ≡ length (table_bytes (map file_entry ts))) × (n ≤ 0xFFFFFF)
table_len ts n few is =
    let all = table_bytes (map file_entry ts) in
    (is ∙ length-map all (λ (b : ℕ). Byte b), omega (arith, is, length-map all (λ (b : ℕ). Byte b), table_small ts few))

module _ (number n : ℕ) (ts : List Target) (f : HeaderFields) (content : Holding) (fields' : f ≡ table_fields number n) (size : n ≡ length (table_bytes (map file_entry ts))) (few : length ts ≤ 4680)
    (holds : HoldsCells (map Byte (table_bytes (map file_entry ts))) content) where
  own_bytes : content.bytes ≡ table_bytes (map file_entry ts)
  own_bytes = holds.bytes' ∙ table_under (table_bytes (map file_entry ts))

  own_patches : map seen content.patches ≡ []
  own_patches = holds.patches' ∙ table_unpatched (table_bytes (map file_entry ts))

  pub table_ready : IsReady f content
  unfolding table_fields
  table_ready = subst (λ (g : HeaderFields). IsReady g content) (sym fields') (record {
    writable = table_writable number n;
    length' = size ∙ ap length (sym own_bytes);
    small = omega (arith, size, table_small ts few);
    patches' = subst (λ (l : List Patch). AreWritten (length content.bytes) 0 l) (sym own_patches) tt;
  })

  pub table_text : (length ts ≡ 0 → ⊥) → image_text (image_in f content []) ≡ file_text (table_images number ts)
  unfolding table_image
  table_text some =
      ap (λ (g : HeaderFields). image_text (image_in g content [])) (fields' ∙ ap (table_fields number) size)
      ∙ ap (λ (l : List ℕ). image_text (image (table_fields number (length (table_bytes (map file_entry ts)))) l (map seen content.patches) [])) own_bytes
      ∙ ap (λ (l : List Patch). image_text (image (table_fields number (length (table_bytes (map file_entry ts)))) (table_bytes (map file_entry ts)) l [])) own_patches
      ∙ by_targets ts some
    where
      by_targets : (us : List Target) → (length us ≡ 0 → ⊥) → image_text (table_image number (map file_entry us)) ≡ file_text (table_images number us)
      by_targets [] some = absurd (some refl)
      by_targets (u ∷ us) some = sym (text_one (table_image number (map file_entry (u ∷ us))))

-- ---- after the load segments

pub tables_none : (number : ℕ) (ts : List Target) → length ts ≡ 0 → number ≡ number + length (table_images number ts)
tables_none number [] none = omega arith
tables_none number (t ∷ ts) none = absurd (omega (arith, none))

pub tables_some : (number : ℕ) (ts : List Target) → (length ts ≡ 0 → ⊥) → number + 1 ≡ number + length (table_images number ts)
tables_some number [] some = absurd (some refl)
tables_some number (t ∷ ts) some = omega arith

-- the table, and the pathnames after it
pub rest_text : (number paths : ℕ) (ts : List Target) (rs : List RuntimeFile) (old mid new : List ℕ) → mid ≡ old ++ file_text (table_images number ts) → paths ≡ number + length (table_images number ts)
    → new ≡ mid ++ file_text (path_images paths rs) → new ≡ old ++ file_text (images_after number ts rs)
rest_text number paths ts rs old mid new first at more =
    let tables = table_images number ts in
    let following = path_images (number + length tables) rs in
    more
    ∙ ap (λ (l : List ℕ). l ++ file_text (path_images paths rs)) first
    ∙ append_assoc old (file_text tables) (file_text (path_images paths rs))
    ∙ ap (λ (n : ℕ). old ++ (file_text tables ++ file_text (path_images n rs))) at
    ∙ ap (λ (l : List ℕ). old ++ l) (sym (text_both tables following))

pub rest_long : (n number paths : ℕ) (ts : List Target) (rs : List RuntimeFile) (old mid : List ℕ) → mid ≡ old ++ file_text (table_images number ts) → paths ≡ number + length (table_images number ts)
    → n < length mid + length (file_text (path_images paths rs)) → n < length old + length (file_text (images_after number ts rs))
rest_long n number paths ts rs old mid first at long =
    let tables = table_images number ts in
    let following = path_images (number + length tables) rs in
    omega (
      arith,
      long,
      ap length first,
      length-append old (file_text tables),
      ap (λ (k : ℕ). length (file_text (path_images k rs))) at,
      ap length (text_both tables following),
      length-append (file_text tables) (file_text following),
    )

pub rest_first : (n number : ℕ) (ts : List Target) (rs : List RuntimeFile) (old : List ℕ) → n < length old + length (file_text (table_images number ts)) → n < length old + length (file_text (images_after number ts rs))
rest_first n number ts rs old long =
    let tables = table_images number ts in
    let following = path_images (number + length tables) rs in
    omega (arith, long, ap length (text_both tables following), length-append (file_text tables) (file_text following))

-- ---- both

pub both_text : (xs ys : List Image) (file new : List ℕ) → file ≡ file_text xs → new ≡ file ++ file_text ys → new ≡ file_text (xs ++ ys)
both_text xs ys file new first more = more ∙ ap (λ (l : List ℕ). l ++ file_text ys) first ∙ sym (text_both xs ys)

pub long_both : (n : ℕ) (xs ys : List Image) (file : List ℕ) → file ≡ file_text xs → n < length file + length (file_text ys) → n < length (file_text (xs ++ ys))
long_both n xs ys file first long = omega (arith, long, ap length first, ap length (text_both xs ys), length-append (file_text xs) (file_text ys))

pub long_first : (n : ℕ) (xs ys : List Image) → n < length (file_text xs) → n < length (file_text (xs ++ ys))
long_first n xs ys long = omega (arith, long, ap length (text_both xs ys), length-append (file_text xs) (file_text ys))
