-- The object that is assembled from a listing is listed as it was.
use Rattle.std.proofs.Common.{◌≡◌, ℕ, ◌+◌, Bool, true, false, cond, List, [], ◌∷◌, ◌++◌, Ok, Err, refl, sym, ap, subst, ◌∙◌, arith}
use Rattle.std.specs.Prelude.{◌&&◌, ◌||◌, ◌==◌, not, nat_le, Result}
use Rattle.std.specs.Int.{is_power_of_two}
use Rattle.std.specs.List.{AllByRecursion, list_all, flat_map}
use Rattle.std.proofs.lemmas.Bool.{eq-eqb, and_parts}
use Rattle.omf_format.specs.Field.{◌>>=◌}
use Rattle.omf_format.specs.File.{Segment}
use Rattle.omf_format.specs.Header.{HeaderFields, form_of}
use Rattle.omf_format.specs.Record.{Record}
use Rattle.object_meaning.specs.Sizes.{records_with_offsets, body_size}
use Rattle.asm_meaning.specs.ObjectFile.{IsReadAs, AreReadAs}
use Rattle.asm_meaning.specs.State.{FinishedSegment}
use Rattle.list_meaning.specs.Listed.{ListedStatement}
use Rattle.list_meaning.specs.Listing.{PendingRun, both_long, is_listable, is_listable_load_name, has_listable_header, front_of, is_short, said_from, equate_name, in_segment, listing_of, listing_from}
use Rattle.list_meaning.specs.laws.Steps.{is_listed_form, has_lost_place, greatest_length, at_front, equates_of}
use Rattle.list_laws.specs.Flat.{contents_of, AreAlike, AreAllAlike}
use Rattle.list_laws.specs.laws.Again.{IsWrittenAs, AreSaid, said_all, none_lost, no_lost_place, equates_located}
use Rattle.list_laws.specs.laws.SegmentLines.{ListedParts, IsSaidAgain, AreSaidAgain}

-- ---- the header

-- what is asked of the fields that the object has from the file
abbrev pub fields_hold : HeaderFields → Bool
fields_hold f =
    is_listed_form (form_of f.kind) && is_listable f.name && is_listable_load_name f.load_name && (f.bank_size == 0 || f.bank_size == 0x10000)
    && (f.align == 0 || (is_power_of_two f.align && nat_le f.align 0x10000))

-- the fields that a listing has
record HaveSame (f h : HeaderFields) : Type 0 where
  name : f.name ≡ h.name
  load_name : f.load_name ≡ h.load_name
  kind : f.kind ≡ h.kind
  bank_size : f.bank_size ≡ h.bank_size
  org : f.org ≡ h.org
  align : f.align ≡ h.align

same_fields : (s o : Segment) → AreAlike s o → HaveSame s.fields o.fields
same_fields s o are = record { name = are.name; load_name = are.load_name; kind = are.kind; bank_size = are.bank_size; org = are.org; align = are.align }

hold_same : (f h : HeaderFields) → HaveSame f h → fields_hold f ≡ fields_hold h
hold_same f h same =
    ap (λ (k : ℕ). is_listed_form (form_of k) && is_listable f.name && is_listable_load_name f.load_name && (f.bank_size == 0 || f.bank_size == 0x10000) && (f.align == 0 || (is_power_of_two f.align && nat_le f.align 0x10000))) same.kind
    ∙ ap (λ (n : List ℕ). is_listed_form (form_of h.kind) && is_listable n && is_listable_load_name f.load_name && (f.bank_size == 0 || f.bank_size == 0x10000) && (f.align == 0 || (is_power_of_two f.align && nat_le f.align 0x10000))) same.name
    ∙ ap (λ (n : List ℕ). is_listed_form (form_of h.kind) && is_listable h.name && is_listable_load_name n && (f.bank_size == 0 || f.bank_size == 0x10000) && (f.align == 0 || (is_power_of_two f.align && nat_le f.align 0x10000))) same.load_name
    ∙ ap (λ (k : ℕ). is_listed_form (form_of h.kind) && is_listable h.name && is_listable_load_name h.load_name && (k == 0 || k == 0x10000) && (f.align == 0 || (is_power_of_two f.align && nat_le f.align 0x10000))) same.bank_size
    ∙ ap (λ (k : ℕ). is_listed_form (form_of h.kind) && is_listable h.name && is_listable_load_name h.load_name && (h.bank_size == 0 || h.bank_size == 0x10000) && (k == 0 || (is_power_of_two k && nat_le k 0x10000))) same.align

-- the fields as a listing has them, and all others 0
abbrev pub listed_fields : HeaderFields → HeaderFields
listed_fields f = record {
  byte_count = 0;
  res_spc = 0;
  length = 0;
  lab_len = 0;
  version = 0;
  bank_size = f.bank_size;
  kind = f.kind;
  org = f.org;
  align = f.align;
  seg_num = 0;
  entry = 0;
  disp_name = 0;
  disp_data = 0;
  load_name = f.load_name;
  name = f.name;
}

listed_same : (f h : HeaderFields) → HaveSame f h → listed_fields f ≡ listed_fields h
listed_same f h same = rw (same.name, same.load_name, same.kind, same.bank_size, same.org, same.align) refl

front_same : (f h : HeaderFields) → HaveSame f h → front_of f ≡ front_of h
unfolding front_of
front_same f h same = ap front_of (listed_same f h same)

-- ---- a segment

abbrev right_lines : List ListedStatement → Result (List ListedStatement) ℕ
right_lines l = Ok l

all_true : (a b c d e : Bool) → a ≡ true → b ≡ true → c ≡ true → d ≡ true → e ≡ true → (a && b && c && d && e) ≡ true
all_true a b c d e p q r s t = rw (p, q, r, s, t) refl

module _ (s o : Segment) (e : FinishedSegment) (lines : List ListedStatement) (said : IsSaidAgain s e lines) (read : IsReadAs e o) (are : AreAlike s o) (spaced : o.fields.res_spc ≡ 0) where
  abbrev parts : ListedParts s lines
  parts = said.parts

  written : IsWrittenAs s.fields o.fields
  written = record { align = sym are.align; lab_len = ap (λ (f : HeaderFields). f.lab_len) read.fields; spaced = spaced }

  records_said : (c : PendingRun) × AreSaid o.fields (equates_of s) (at_front s.fields) (contents_of o) parts.more c
  records_said =
      let again = said.again o.fields written in
      (again.0, subst (λ (l : List Record). AreSaid o.fields (equates_of s) (at_front s.fields) l parts.more again.0) (sym read.records) again.1)

  same_equates : equates_of s ≡ equates_of o
  same_equates = said.same_equates ∙ ap (flat_map equate_name) (sym read.records) ∙ sym (equates_located o.records)

  is_said : said_from o.fields (equates_of o) (at_front o.fields) o.records ≡ Ok parts.more
  is_said =
      said_all o.fields (equates_of o) (at_front o.fields) o.records parts.more records_said.0
      (subst (λ (n : List (List ℕ)). AreSaid o.fields n (at_front o.fields) (contents_of o) parts.more records_said.0) same_equates
      (subst (λ (n : List ℕ). AreSaid o.fields (equates_of s) (record { widths = both_long; run = []; names = n ∷ [] }) (contents_of o) parts.more records_said.0) are.name records_said.1))

  no_lost : has_lost_place o ≡ false
  unfolding records_with_offsets
  no_lost = no_lost_place 0 o.records (none_lost o.fields (equates_of s) (at_front s.fields) (contents_of o) parts.more records_said.0 records_said.1)

  header : has_listable_header o ≡ true
  header =
      let f = s.fields in
      let h = and_parts _ (nat_le f.length (greatest_length f.bank_size)) parts.header in
      let g = and_parts _ (f.length == body_size s + f.res_spc) h.0 in
      let n = and_parts _ (not (has_lost_place s)) g.0 in
      let d = and_parts (fields_hold f) (f.entry == 0) n.0 in
      let entry : o.fields.entry ≡ 0 = ap (λ (x : HeaderFields). x.entry) read.fields ∙ said.entry in
      let size : o.fields.length ≡ body_size o + o.fields.res_spc = omega (arith, read.cells, spaced) in
      all_true (fields_hold o.fields) (o.fields.entry == 0) (not (has_lost_place o)) (o.fields.length == body_size o + o.fields.res_spc) (nat_le o.fields.length (greatest_length o.fields.bank_size))
      (sym (hold_same s.fields o.fields (same_fields s o are)) ∙ d.0)
      (ap (λ (k : ℕ). k == 0) entry)
      (ap not no_lost)
      (eq-eqb o.fields.length (body_size o + o.fields.res_spc) size)
      (ap (λ (k : ℕ). nat_le k (greatest_length o.fields.bank_size)) (sym are.length) ∙ ap (λ (k : ℕ). nat_le s.fields.length (greatest_length k)) (sym are.bank_size) ∙ h.1)

  listed_again : listing_of o ≡ Ok lines
  unfolding listing_of
  listed_again =
      let front = front_same s.fields o.fields (same_fields s o are) in
      let short : list_all is_short (front_of o.fields) ≡ true = ap (list_all is_short) (sym front) ∙ parts.front_short in
      let r = said_from o.fields (equates_of o) (at_front o.fields) o.records in
      ap (λ (x : Bool). cond (x && list_all is_short (front_of o.fields)) (r >>= λ more. Ok (front_of o.fields ++ more)) (Err o.start)) header
      ∙ ap (λ (x : Bool). cond x (r >>= λ more. Ok (front_of o.fields ++ more)) (Err o.start)) short
      ∙ ap (λ (x : Result (List ListedStatement) ℕ). x >>= λ more. Ok (front_of o.fields ++ more)) is_said
      ∙ ap right_lines (ap (λ (l : List ListedStatement). l ++ parts.more) (sym front) ∙ sym parts.whole)

-- ---- a file

abbrev right_file : List ListedStatement → Result (List ListedStatement) (ℕ × ℕ)
right_file l = Ok l

-- nothing is left for RESSPC
abbrev pub AreSpaced : List Segment → Type 0
AreSpaced others = AllByRecursion (λ o. o.fields.res_spc ≡ 0) others

pub file_listed : (k : ℕ) (segments others : List Segment) (ended : List FinishedSegment) (lines : List ListedStatement) → AreSaidAgain segments ended lines → AreReadAs ended others → AreAllAlike segments others → AreSpaced others
    → listing_from k others ≡ Ok lines
unfolding listing_from
file_listed k [] [] [] lines said read are spaced = ap right_file (sym said)
file_listed k [] [] (e ∷ ended) lines said read are spaced = absurd said
file_listed k [] (o ∷ others) [] lines said read are spaced = absurd are
file_listed k [] (o ∷ others) (e ∷ ended) lines said read are spaced = absurd said
file_listed k (s ∷ segments) [] [] lines said read are spaced = absurd said
file_listed k (s ∷ segments) [] (e ∷ ended) lines said read are spaced = absurd read
file_listed k (s ∷ segments) (o ∷ others) [] lines said read are spaced = absurd said
file_listed k (s ∷ segments) (o ∷ others) (e ∷ ended) lines said read are spaced =
    let first = listed_again s o e said.0 said.2 read.0 are.0 spaced.0 in
    let rest = file_listed (k + 1) segments others ended said.1 said.4 read.1 are.1 spaced.1 in
    ap (λ (x : Result (List ListedStatement) ℕ). in_segment k x >>= λ first. listing_from (k + 1) others >>= λ more. Ok (first ++ more)) first
    ∙ ap (λ (x : Result (List ListedStatement) (ℕ × ℕ)). x >>= λ more. Ok (said.0 ++ more)) rest ∙ ap right_file (sym said.3)
