-- The linked load segments can be written, and the file of them is the one that the linker writes.
use Rattle.std.proofs.Common.{◌≡◌, ℕ, ◌+◌, ◌^◌, ◌<◌, ◌≤◌, Bool, false, cond, List, [], ◌∷◌, ◌++◌, length, map, refl, sym, ap, subst, ◌∙◌, arith, inl, inr}
use Rattle.std.specs.List.{AllByRecursion}
use Rattle.std.proofs.lemmas.Bool.{ne_eqb}
use Rattle.std.proofs.lemmas.List.{length-map}
use Rattle.omf_format.specs.Header.{HeaderFields}
use Rattle.omf_format.specs.Record.{Record}
use Rattle.omf_header.specs.View.{fields}
use Rattle.omf_header.specs.declared.header.Header.{Header}
use Rattle.load_meaning.specs.declared.table.Target.{Target}
use Rattle.load_meaning.specs.Cells.{Cell, Patch, byte_under}
use Rattle.load_meaning.specs.WrittenBody.{AreWritten}
use Rattle.load_meaning.specs.WrittenFile.{Image, file_text}
use Rattle.link_meaning.specs.First.{IsIn}
use Rattle.link_meaning.specs.declared.form.LinkForm.{LinkForm}
use Rattle.link_meaning.specs.declared.form.LinkForm.TheVariants.{Program, Runtime as LibraryForm}
use Rattle.link_meaning.specs.Member.{Member, setting_in, form_in}
use Rattle.link_meaning.specs.Layout.{load_length, load_names, load_fields, headers_from, load_headers}
use Rattle.link_meaning.specs.LinkValues.{EquateAnswer, IsTable}
use Rattle.link_meaning.specs.LinkedCells.{items, table_number, targets, linked}
use Rattle.link_meaning.specs.LinkWritten.{exports, load_images, images, written_file, AreMade, start}
use Rattle.link_meaning.specs.LinkFaults.{LinkInput, HasBytes, IsResolved}
use Rattle.link_meaning.specs.laws.Steps.{is_too_long, exports_for, image_of}
use Rattle.link_meaning.specs.laws.RunCells.{AreRuns, runs_written}
use Rattle.link_meaning.specs.laws.LinkedRuns.{HasCells, MembersHave, members_have, linked_has, AreSized}
use Rattle.link_meaning.specs.laws.ReadMembers.{IsRead, members_read, HasHeader, read_header, read_size, read_some}
use Rattle.link_meaning.specs.laws.LinkWrittenLaws.{few_loads, short_loads, short_length, load_header_fits, in_at}
use Rattle.link_meaning.specs.laws.ValueFits.{all_sound}
use Rattle.load_writer.specs.WrittenParts.{seen}
use Rattle.link_content.specs.Holding.{Holding}
use Rattle.link_content.specs.Contents.{HoldsCells}
use Rattle.link_file.specs.Images.{image_in, images_in, images_after, IsReady, AreReady, HoldLinked, AreLoads}

-- ---- the file

abbrev image : HeaderFields → List ℕ → List Patch → List Record → Image
image f content patches exports = record { fields = f; content = content; patches = patches; exports = exports; whole = false }

image_same : (f : HeaderFields) (cells : List Cell) (content : Holding) (exports : List Record) → HoldsCells cells content → image_in f content exports ≡ image_of f cells exports
image_same f cells content exports holds =
    ap (λ (l : List ℕ). image f l (map seen content.patches) exports) holds.bytes' ∙ ap (λ (l : List Patch). image f (map byte_under cells) l exports) holds.patches'

-- after the first load segment none exports anything
none_later : (form : LinkForm) (number : ℕ) (all : List Record) → 1 ≤ number → exports_for form (number + 1) all ≡ []
none_later Program number all some = refl
none_later LibraryForm number all some = ap (λ (b : Bool). cond b all []) (ne_eqb (number + 1) 1 (λ (e : number + 1 ≡ 1). absurd (omega (arith, e, some))))

heads : (f g : HeaderFields) (fs gs : List HeaderFields) → f ∷ fs ≡ g ∷ gs → f ≡ g
heads f g fs gs e = cc

tails : (f g : HeaderFields) (fs gs : List HeaderFields) → f ∷ fs ≡ g ∷ gs → fs ≡ gs
tails f g fs gs e = cc

images_same : (list : List Member) (table : List EquateAnswer) (number : ℕ) (xs : List (List ℕ)) (headers : List Header) (contents : List Holding) → 1 ≤ number
    → map fields headers ≡ headers_from list number xs → HoldLinked list table xs contents → images_in (exports_for (form_in list) number (exports list table)) headers contents ≡ load_images list table number xs
images_same list table number [] [] contents some same hold = refl
images_same list table number [] (h ∷ headers) contents some same hold = absurd cc
images_same list table number (x ∷ xs) [] contents some same hold = absurd cc
images_same list table number (x ∷ xs) (h ∷ headers) [] some same hold = absurd hold
images_same list table number (x ∷ xs) (h ∷ headers) (content ∷ contents) some same hold =
    let own = exports_for (form_in list) number (exports list table) in
    let head = heads (fields h) (load_fields list number x) (map fields headers) (headers_from list (number + 1) xs) same in
    let tail = tails (fields h) (load_fields list number x) (map fields headers) (headers_from list (number + 1) xs) same in
    ap (λ (f : HeaderFields). image_in f content own ∷ images_in [] headers contents) head
    ∙ ap (λ (i : Image). i ∷ images_in [] headers contents) (image_same (load_fields list number x) (linked list table x) content own hold.0)
    ∙ ap (λ (l : List Image). image_of (load_fields list number x) (linked list table x) own ∷ l)
    (ap (λ (l : List Record). images_in l headers contents) (sym (none_later (form_in list) number (exports list table) some)) ∙ images_same list table (number + 1) xs headers contents (omega (arith, some)) tail hold.1)

length-headers_from : (list : List Member) (number : ℕ) (xs : List (List ℕ)) → length (headers_from list number xs) ≡ length xs
length-headers_from list number [] = refl
length-headers_from list number (x ∷ xs) = omega (arith, length-headers_from list (number + 1) xs)

pub loads_size : (list : List Member) → length (load_headers list) ≡ length (load_names list)
unfolding load_headers
loads_size list = length-headers_from list 1 (load_names list)

-- how many headers there are
pub headers_size : (list : List Member) (headers : List Header) → map fields headers ≡ load_headers list → length headers ≡ length (load_names list)
unfolding load_headers
headers_size list headers same = sym (length-map headers (λ (h : Header). fields h)) ∙ ap length same ∙ length-headers_from list 1 (load_names list)

pub written_same : (list : List Member) (table : List EquateAnswer) (headers : List Header) (contents : List Holding) (ts : List Target) → AreLoads list table headers contents → ts ≡ targets list table
    → file_text (images_in (exports_for (form_in list) 1 (exports list table)) headers contents ++ images_after (length headers + 1) ts (setting_in list).runtimes) ≡ written_file list table
unfolding written_file images load_headers
written_same list table headers contents ts are same =
    let rs = (setting_in list).runtimes in
    ap (λ (l : List Image). file_text (l ++ images_after (length headers + 1) ts rs)) (images_same list table 1 (load_names list) headers contents (omega arith) are.headers' are.contents')
    ∙ ap (λ (n : ℕ). file_text (load_images list table 1 (load_names list) ++ images_after (n + 1) ts rs)) (headers_size list headers are.headers')
    ∙ ap (λ (l : List Target). file_text (load_images list table 1 (load_names list) ++ images_after (table_number list) l rs)) same

-- ---- they can be written

is_ready : (f : HeaderFields) (cells : List Cell) (content : Holding) → HasHeader f → f.version ≡ 2 → f.length ≡ length cells → f.length ≤ 0xFFFFFF → AreRuns cells → HoldsCells cells content → IsReady f content
is_ready f cells content header version size small runs holds = record {
  writable = record { version = version; banks = header.bank; listed = header.listed; spaced = omega arith };
  length' = size ∙ sym (length-map cells byte_under) ∙ ap length (sym holds.bytes');
  small = small;
  patches' = subst (λ (l : List ℕ). AreWritten (length l) 0 (map seen content.patches)) (sym holds.bytes')
      (subst (λ (l : List Patch). AreWritten (length (map byte_under cells)) 0 l) (sym holds.patches') (runs_written cells runs));
}

load_ready : (list : List Member) (table : List EquateAnswer) (number : ℕ) (x : List ℕ) (content : Holding) → HasHeader (load_fields list number x) → is_too_long (load_fields list number x) ≡ false
    → HasCells (load_length x list) (linked list table x) → HoldsCells (linked list table x) content → IsReady (load_fields list number x) content
unfolding load_fields
load_ready list table number x content header long has holds =
    is_ready (load_fields list number x) (linked list table x) content header refl (sym has.size') (short_length (load_fields list number x) long) has.runs holds

all_ready : (list : List Member) (table : List EquateAnswer) (number : ℕ) (xs : List (List ℕ)) (headers : List Header) (contents : List Holding) → ((m : Member) → IsIn list m → HasHeader m.segment.fields)
    → MembersHave list table → ((x : List ℕ) → IsIn xs x → IsIn (load_names list) x) → AllByRecursion (λ f. is_too_long f ≡ false) (headers_from list number xs)
    → map fields headers ≡ headers_from list number xs → HoldLinked list table xs contents → AreReady headers contents
all_ready list table number [] [] [] each have among short same hold = tt
all_ready list table number [] [] (content ∷ contents) each have among short same hold = absurd hold
all_ready list table number [] (h ∷ headers) contents each have among short same hold = absurd cc
all_ready list table number (x ∷ xs) [] contents each have among short same hold = absurd cc
all_ready list table number (x ∷ xs) (h ∷ headers) [] each have among short same hold = absurd hold
all_ready list table number (x ∷ xs) (h ∷ headers) (content ∷ contents) each have among short same hold =
    let head = heads (fields h) (load_fields list number x) (map fields headers) (headers_from list (number + 1) xs) same in
    let tail = tails (fields h) (load_fields list number x) (map fields headers) (headers_from list (number + 1) xs) same in (
      subst (λ (f : HeaderFields). IsReady f content) (sym head) (load_ready list table number x content (load_header_fits list number x each (among x (inl refl))) short.0 (linked_has list table x have) hold.0),
      all_ready list table (number + 1) xs headers contents each have (λ y is. among y (inr is)) short.1 tail hold.1,
    )

-- where each record gives its cells
pub loads_ready : (given : LinkInput) (list : List Member) (table : List EquateAnswer) (headers : List Header) (contents : List Holding) → HasBytes given → IsResolved given list → IsTable list table
    → AreMade list table start (items list) → AreLoads list table headers contents → AreReady headers contents
unfolding load_headers
loads_ready given list table headers contents bytes resolved is_table are loads =
    let read : (m : Member) → IsIn list m → IsRead m.segment = λ m is. members_read given list m bytes resolved.program is in
    let small : table_number list < 2 ^ 16 = omega (arith, few_loads given list resolved) in
    let sized : AreSized list = λ front m back parts. let r = read m (in_at list front m back parts) in (read_size m.segment r, read_some m.segment r) in
    let have = members_have list table small are (all_sound given list table bytes resolved is_table) sized in
    all_ready list table 1 (load_names list) headers contents (λ m is. read_header m.segment (read m is)) have (λ x is. is) (short_loads given list resolved) loads.headers' loads.contents'
