-- A header that was written is read again, whatever follows it.
use Rattle.std.proofs.Common.{◌≡◌, ℕ, ◌+◌, ◌^◌, ◌<◌, ◌≤◌, Bool, false, not, ltb, List, ◌∷◌, ◌++◌, length, take, drop, None, refl, sym, ap, subst, ◌∙◌, append_assoc, arith}
use Rattle.std.specs.Prelude.{◌||◌}
use Rattle.std.proofs.lemmas.Bool.{le-ltb}
use Rattle.std.proofs.lemmas.List.{take_at, drop_at, length-append}
use Rattle.omf_format.specs.Number.{number_at}
use Rattle.omf_format.specs.Name.{name_at, name_size}
use Rattle.omf_format.specs.Header.{HeaderFields, version_of, kind_of, fields_of, names_end, checks_of, first_of, header_fault, laid_out, written_fields, header_bytes, IsWritable}
use Rattle.omf_format.specs.laws.Steps.{byte_count_of, written_numbers}
use Rattle.omf_format.specs.laws.HeaderLaws.{none_holds, length-laid_out, number_at-laid_out, drop-more}
use Rattle.omf_format.specs.WrittenHeader.{FitsWritten}

-- the fields are as wide as they are in a header
pub record FitsFields (f : HeaderFields) : Type 0 where
  pub byte_count : f.byte_count < 2 ^ 32
  pub res_spc : f.res_spc < 2 ^ 32
  pub length : f.length < 2 ^ 32
  pub lab_len : f.lab_len < 2 ^ 8
  pub version : f.version < 2 ^ 8
  pub bank_size : f.bank_size < 2 ^ 32
  pub kind : f.kind < 2 ^ 16
  pub org : f.org < 2 ^ 32
  pub align : f.align < 2 ^ 32
  pub seg_num : f.seg_num < 2 ^ 16
  pub entry : f.entry < 2 ^ 32
  pub disp_name : f.disp_name < 2 ^ 16
  pub disp_data : f.disp_data < 2 ^ 16

-- the numbers of a header are at their displacements
record Stands (f : HeaderFields) (bytes : List ℕ) : Type 0 where
  byte_count : number_at 4 0x00 bytes ≡ f.byte_count
  res_spc : number_at 4 0x04 bytes ≡ f.res_spc
  length' : number_at 4 0x08 bytes ≡ f.length
  lab_len : number_at 1 0x0D bytes ≡ f.lab_len
  num_len : number_at 1 0x0E bytes ≡ 4
  version : number_at 1 0x0F bytes ≡ f.version
  bank_size : number_at 4 0x10 bytes ≡ f.bank_size
  kind : number_at 2 0x14 bytes ≡ f.kind
  org : number_at 4 0x18 bytes ≡ f.org
  align : number_at 4 0x1C bytes ≡ f.align
  num_sex : number_at 1 0x20 bytes ≡ 0
  seg_num : number_at 2 0x22 bytes ≡ f.seg_num
  entry : number_at 4 0x24 bytes ≡ f.entry
  disp_name : number_at 2 0x28 bytes ≡ f.disp_name
  disp_data : number_at 2 0x2A bytes ≡ f.disp_data

stands : (f : HeaderFields) (rest : List ℕ) → FitsFields f → Stands f (laid_out (written_numbers f) ++ rest)
stands f rest fits =
    let all = written_numbers f in
    record {
      byte_count = number_at-laid_out all 0 4 f.byte_count rest refl fits.byte_count;
      res_spc = number_at-laid_out all 1 4 f.res_spc rest refl fits.res_spc;
      length' = number_at-laid_out all 2 4 f.length rest refl fits.length;
      lab_len = number_at-laid_out all 4 1 f.lab_len rest refl fits.lab_len;
      num_len = number_at-laid_out all 5 1 4 rest refl (omega arith);
      version = number_at-laid_out all 6 1 f.version rest refl fits.version;
      bank_size = number_at-laid_out all 7 4 f.bank_size rest refl fits.bank_size;
      kind = number_at-laid_out all 8 2 f.kind rest refl fits.kind;
      org = number_at-laid_out all 10 4 f.org rest refl fits.org;
      align = number_at-laid_out all 11 4 f.align rest refl fits.align;
      num_sex = number_at-laid_out all 12 1 0 rest refl (omega arith);
      seg_num = number_at-laid_out all 14 2 f.seg_num rest refl fits.seg_num;
      entry = number_at-laid_out all 15 4 f.entry rest refl fits.entry;
      disp_name = number_at-laid_out all 16 2 f.disp_name rest refl fits.disp_name;
      disp_data = number_at-laid_out all 17 2 f.disp_data rest refl fits.disp_data;
    }

-- the numbers take 44 bytes
length-numbers : (f : HeaderFields) → length (laid_out (written_numbers f)) ≡ 44
length-numbers f = length-laid_out (written_numbers f)

-- ---- names

-- after the numbers are the load name, and the length and the text of the segment's name
named : List ℕ → List ℕ → List ℕ → List ℕ → List ℕ
named numbers load_name name rest = numbers ++ (load_name ++ (length name ∷ (name ++ rest)))

length_byte : (numbers load_name name rest : List ℕ) → length numbers ≡ 44 → length load_name ≡ 10 → number_at 1 54 (named numbers load_name name rest) ≡ length name
unfolding named number_at
length_byte numbers load_name name rest n44 n10 =
    let skip : drop 54 (numbers ++ (load_name ++ (length name ∷ (name ++ rest)))) ≡ length name ∷ (name ++ rest) =
    drop-more numbers (load_name ++ (length name ∷ (name ++ rest))) 44 10 n44 ∙ drop_at load_name (length name ∷ (name ++ rest)) 10 n10 in
    rw skip (omega arith)

text_at : (numbers load_name name rest : List ℕ) → length numbers ≡ 44 → length load_name ≡ 10 → take (length name) (drop 55 (named numbers load_name name rest)) ≡ name
unfolding named
text_at numbers load_name name rest n44 n10 =
    let skip : drop 55 (numbers ++ (load_name ++ (length name ∷ (name ++ rest)))) ≡ name ++ rest =
    drop-more numbers (load_name ++ (length name ∷ (name ++ rest))) 44 11 n44 ∙ drop-more load_name (length name ∷ (name ++ rest)) 10 1 n10 in
    rw skip (take_at name rest (length name) refl)

load_name_at : (numbers load_name name rest : List ℕ) → length numbers ≡ 44 → length load_name ≡ 10 → take 10 (drop 44 (named numbers load_name name rest)) ≡ load_name
unfolding named
load_name_at numbers load_name name rest n44 n10 =
    rw (drop_at numbers (load_name ++ (length name ∷ (name ++ rest))) 44 n44, take_at load_name (length name ∷ (name ++ rest)) 10 n10) refl

regrouped : (f : HeaderFields) (n : ℕ) (rest : List ℕ) → header_bytes f n ++ rest ≡ named (laid_out (written_numbers (written_fields f n))) f.load_name f.name rest
unfolding header_bytes named
regrouped f n rest =
    let numbers = laid_out (written_numbers (written_fields f n)) in
    append_assoc (numbers ++ f.load_name) (length f.name ∷ f.name) rest ∙ append_assoc numbers f.load_name (length f.name ∷ (f.name ++ rest))

-- ---- the whole header

fits_fields : (f : HeaderFields) (n : ℕ) → FitsWritten f n → FitsFields (written_fields f n)
fits_fields f n fits = record {
  byte_count = fits.total;
  res_spc = fits.res_spc;
  length = fits.length;
  lab_len = omega arith;
  version = omega arith;
  bank_size = fits.bank_size;
  kind = fits.kind;
  org = fits.org;
  align = fits.align;
  seg_num = fits.seg_num;
  entry = fits.entry;
  disp_name = omega arith;
  disp_data = omega (arith, fits.name);
}

-- what is known of the bytes of a written header, whatever follows
record Written (f : HeaderFields) (n : ℕ) (bytes : List ℕ) : Type 0 where
  numbers : Stands (written_fields f n) bytes
  load_name : take 10 (drop 44 bytes) ≡ f.load_name
  name_length : number_at 1 54 bytes ≡ length f.name
  name : take (length f.name) (drop 55 bytes) ≡ f.name

written : (f : HeaderFields) (n : ℕ) (rest : List ℕ) → FitsWritten f n → Written f n (header_bytes f n ++ rest)
unfolding named
written f n rest fits =
    let numbers = laid_out (written_numbers (written_fields f n)) in
    let tail = f.load_name ++ (length f.name ∷ (f.name ++ rest)) in
    let n44 = length-numbers (written_fields f n) in
    let whole : Written f n (named numbers f.load_name f.name rest) = record {
      numbers = stands (written_fields f n) tail (fits_fields f n fits);
      load_name = load_name_at numbers f.load_name f.name rest n44 fits.load_name;
      name_length = length_byte numbers f.load_name f.name rest n44 fits.load_name;
      name = text_at numbers f.load_name f.name rest n44 fits.load_name;
    } in
    subst (λ (bytes : List ℕ). Written f n bytes) (sym (regrouped f n rest)) whole

pub length-header : (f : HeaderFields) (n : ℕ) → length f.load_name ≡ 10 → length (header_bytes f n) ≡ 0x37 + length f.name
unfolding header_bytes
length-header f n ten =
    let numbers = laid_out (written_numbers (written_fields f n)) in
    omega (arith, length-append (numbers ++ f.load_name) (length f.name ∷ f.name), length-append numbers f.load_name, length-numbers (written_fields f n), ten)

-- the names of a written header end where its body begins
names_end-written : (f : HeaderFields) (n : ℕ) (bytes : List ℕ) → Written f n bytes → names_end bytes ≡ 0x37 + length f.name
unfolding names_end name_size
names_end-written f n bytes w =
    rw (w.numbers.disp_name, w.numbers.lab_len) (omega (arith, w.name_length))

-- in version 2 BYTECNT counts bytes, and KIND is at $14
in_version_2 : (bytes : List ℕ) → version_of bytes ≡ 2 → (byte_count_of bytes ≡ number_at 4 0x00 bytes) × (kind_of bytes ≡ number_at 2 0x14 bytes)
unfolding kind_of
in_version_2 bytes is = (rw is refl, rw is refl)

version-written : (f : HeaderFields) (n : ℕ) (bytes : List ℕ) → Written f n bytes → version_of bytes ≡ 2
unfolding version_of
version-written f n bytes w = w.numbers.version

-- the fields that are read are those that were written
pub fields_of-written : (f : HeaderFields) (n : ℕ) (rest : List ℕ) → FitsWritten f n → fields_of (header_bytes f n ++ rest) ≡ written_fields f n
unfolding fields_of name_at
fields_of-written f n rest fits =
    let w = written f n rest fits in
    let s = w.numbers in
    let two = version-written f n (header_bytes f n ++ rest) w in
    let in2 = in_version_2 (header_bytes f n ++ rest) two in
    rw (two, in2.1, s.byte_count, s.res_spc, s.length', s.lab_len, s.bank_size, s.kind, s.org, s.align, s.seg_num, s.entry, s.disp_name, s.disp_data)
    (rw (w.load_name, w.name_length, w.name) refl)

-- and none of the checks holds, where the whole body follows
pub header_fault-written : (f : HeaderFields) (n : ℕ) (rest : List ℕ) → FitsWritten f n → IsWritable f → n ≤ length rest → header_fault (header_bytes f n ++ rest) ≡ None
unfolding header_fault
header_fault-written f n rest fits writable long =
    let bytes = header_bytes f n ++ rest in
    let w = written f n rest fits in
    let body = 0x37 + length f.name in
    let ends = names_end-written f n bytes w in
    let len : length bytes ≡ 0x37 + length f.name + length rest = omega (arith, length-append (header_bytes f n) rest, length-header f n fits.load_name) in
    ap (λ (g : HeaderFields). first_of (checks_of g bytes)) (fields_of-written f n rest fits)
    ∙ none_holds (checks_of (written_fields f n) bytes) (
      le-ltb _ _ (omega arith),
      (
        rw w.numbers.num_len refl,
        (
          refl,
          (
            le-ltb _ _ writable.banks,
            (
              ap not writable.listed,
              (
                rw w.numbers.num_sex refl,
                (
                  refl,
                  (
                    le-ltb _ _ (omega arith),
                    (
                      rw ends (both_false (ltb body body) (ltb (body + n) body) (le-ltb body body (omega arith)) (le-ltb (body + n) body (omega arith))),
                      (le-ltb _ _ writable.spaced, tt),
                    ),
                  ),
                ),
              ),
            ),
          ),
        ),
      ),
    )
  where
    both_false : (a b : Bool) → a ≡ false → b ≡ false → (a || b) ≡ false
    both_false a b p q = rw (p, q) refl

-- bytes that are a written header pass the checks, and are read as its fields
pub written_passes : (f : HeaderFields) (n : ℕ) (header rest : List ℕ) → header ≡ header_bytes f n → FitsWritten f n → IsWritable f → n ≤ length rest → header_fault (header ++ rest) ≡ None
written_passes f n header rest is fits writable long = ap (λ (h : List ℕ). header_fault (h ++ rest)) is ∙ header_fault-written f n rest fits writable long

pub written_reads : (f : HeaderFields) (n : ℕ) (header rest : List ℕ) → header ≡ header_bytes f n → FitsWritten f n → fields_of (header ++ rest) ≡ written_fields f n
written_reads f n header rest is fits = ap (λ (h : List ℕ). fields_of (h ++ rest)) is ∙ fields_of-written f n rest fits
