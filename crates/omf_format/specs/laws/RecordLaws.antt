-- The two laws of records: what is read is spelled so, and what is spelled so is read, whatever follows it.
use Rattle.std.proofs.Common.{◌≡◌, ℕ, ℤ, zero, suc, ◌+◌, ◌-◌, ◌^◌, ◌<◌, ◌≤◌, Bool, true, false, cond, ltb, eqb, List, [], ◌∷◌, ◌++◌, length, Ok, refl, sym, ap, subst, ◌∙◌, append_assoc, arith, inl, inr}
use Rattle.std.specs.List.{AllByRecursion}
use Rattle.std.proofs.lemmas.Bool.{lt-ltb, ltb-true, leb-true, eqb-true, ne_eqb, and_parts}
use Rattle.byteorder.specs.Endian.{little_bytes}
use Rattle.omf_format.specs.declared.fault.Flaw.TheVariants.{Unread, Broken}
use Rattle.omf_format.specs.Number.{IsBytes}
use Rattle.omf_format.specs.Field.{Layout, ◌>>=◌, Reads, ◌⊗◌, field_that_passes, taken_as, byte_field, bytes_field, number_field, name_field, name_text, IsName, is_count, count_field, is_shift, shift_byte, shift_field}
use Rattle.omf_format.specs.laws.FieldLaws.{IsBytes-front, IsBytes-rest, either, bind_ok, done, ok_is, chosen, Takes, Takes-then, Takes-code, bytes_again, IsField, byte_is_field, bytes_is_field, number_is_field, name_is_field, checked_is_field, both_are_field, count_is_field, shift_is_field}
use Rattle.omf_format.specs.Expression.{IsExpression, expression_field}
use Rattle.omf_format.specs.laws.ExpressionLaws.{expression-takes, expression-again}
use Rattle.omf_format.specs.Super.{is_super, HavePages}
use Rattle.omf_format.specs.laws.SuperLaws.{pages-read, pages-again}
use Rattle.omf_format.specs.Record.{Record, End, Const, LongConst, Align, Org, Space, Reloc, InterSeg, ShortReloc, ShortInterSeg, Super, Using, Strong, Label, Equate, Formula, Entry, is_formula, spelling, IsDistance, IsRecord}
use Rattle.omf_format.specs.Reading.{patch_field, super_field, attributes_field, label_field, equate_field, formula_field, rows, by_code, first_record}
use Rattle.omf_format.specs.laws.Steps.{constant_field, long_constant_field, align_field, org_field, space_field, reloc_field, interseg_field, short_reloc_field, short_interseg_field, using_field, strong_field, distance_field, entry_field, are_pages}

-- ---- the fields of each record

abbrev Is4 : ℕ → Type 0
Is4 n = n < 256 ^ 4

abbrev Is2 : ℕ → Type 0
Is2 n = n < 256 ^ 2

abbrev Is1 : ℕ → Type 0
Is1 n = n < 256

abbrev Passes : {A : Type 0} → (A → Bool) → A → Type 0
Passes test x = test x ≡ true

abbrev one : ℕ → List ℕ
one b = b ∷ []

n4 : IsField Is4 (little_bytes 4) (number_field 4)
n4 = number_is_field 4

n2 : IsField Is2 (little_bytes 2) (number_field 2)
n2 = number_is_field 2

n1 : IsField Is1 one byte_field
n1 = byte_is_field

expression : (l : ℕ) → IsField (IsExpression l) (λ text. text) (expression_field l)
expression l = record {
  takes = λ bytes found fits e. let t = expression-takes l bytes found fits e in (t.expression, t.taken);
  again = λ text rest is. expression-again l text rest is;
}

abbrev ShiftText : ℤ → List ℕ
ShiftText s = shift_byte s ∷ []

abbrev Both : {A B : Type 0} → (A → Type 0) → (B → Type 0) → A × B → Type 0
Both IsA IsB x = IsA x.0 × IsB x.1

abbrev texts : {A B : Type 0} → (A → List ℕ) → (B → List ℕ) → A × B → List ℕ
texts textA textB x = textA x.0 ++ textB x.1

-- two fields, one after the other
both : {A B : Type 0} (IsA : A → Type 0) (IsB : B → Type 0) (textA : A → List ℕ) (textB : B → List ℕ) (readA : Reads A) (readB : Reads B)
    → IsField IsA textA readA → IsField IsB textB readB → IsField (Both IsA IsB) (texts textA textB) (readA ⊗ readB)
both IsA IsB textA textB readA readB fieldA fieldB = both_are_field IsA IsB textA textB readA readB fieldA fieldB

abbrev Patch : ℕ × ℤ → Type 0
Patch = Both (Passes is_count) (Passes is_shift)

abbrev patch_text : ℕ × ℤ → List ℕ
patch_text = texts one ShiftText

patch : IsField Patch patch_text patch_field
unfolding patch_field
patch = both (Passes is_count) (Passes is_shift) one ShiftText count_field shift_field count_is_field shift_is_field

abbrev Attributes : ℕ → ℕ × (ℕ × ℕ) → Type 0
Attributes w = Both (λ n. n < 256 ^ w) (Both Is1 Is1)

abbrev attributes_text : ℕ → ℕ × (ℕ × ℕ) → List ℕ
attributes_text w = texts (little_bytes w) (texts one one)

attributes : (w : ℕ) → IsField (Attributes w) (attributes_text w) (attributes_field w)
unfolding attributes_field
attributes w = both (λ n. n < 256 ^ w) (Both Is1 Is1) (little_bytes w) (texts one one) (number_field w) (byte_field ⊗ byte_field) (number_is_field w) (both Is1 Is1 one one byte_field byte_field n1 n1)

-- two numbers of four bytes, and of two
two4 : IsField (Both Is4 Is4) (texts (little_bytes 4) (little_bytes 4)) (number_field 4 ⊗ number_field 4)
two4 = both Is4 Is4 (little_bytes 4) (little_bytes 4) (number_field 4) (number_field 4) n4 n4

two2 : IsField (Both Is2 Is2) (texts (little_bytes 2) (little_bytes 2)) (number_field 2 ⊗ number_field 2)
two2 = both Is2 Is2 (little_bytes 2) (little_bytes 2) (number_field 2) (number_field 2) n2 n2

reloc : IsField (Both Patch (Both Is4 Is4)) (texts patch_text (texts (little_bytes 4) (little_bytes 4))) (patch_field ⊗ number_field 4 ⊗ number_field 4)
reloc = both Patch (Both Is4 Is4) patch_text (texts (little_bytes 4) (little_bytes 4)) patch_field (number_field 4 ⊗ number_field 4) patch two4

short_reloc : IsField (Both Patch (Both Is2 Is2)) (texts patch_text (texts (little_bytes 2) (little_bytes 2))) (patch_field ⊗ number_field 2 ⊗ number_field 2)
short_reloc = both Patch (Both Is2 Is2) patch_text (texts (little_bytes 2) (little_bytes 2)) patch_field (number_field 2 ⊗ number_field 2) patch two2

abbrev InterSegs : ℕ × (ℕ × (ℕ × ℕ)) → Type 0
InterSegs = Both Is4 (Both Is2 (Both Is2 Is4))

abbrev interseg_text : ℕ × (ℕ × (ℕ × ℕ)) → List ℕ
interseg_text = texts (little_bytes 4) (texts (little_bytes 2) (texts (little_bytes 2) (little_bytes 4)))

intersegs : IsField InterSegs interseg_text (number_field 4 ⊗ number_field 2 ⊗ number_field 2 ⊗ number_field 4)
intersegs = both Is4 (Both Is2 (Both Is2 Is4)) (little_bytes 4) (texts (little_bytes 2) (texts (little_bytes 2) (little_bytes 4))) (number_field 4) (number_field 2 ⊗ number_field 2 ⊗ number_field 4) n4
    (both Is2 (Both Is2 Is4) (little_bytes 2) (texts (little_bytes 2) (little_bytes 4)) (number_field 2) (number_field 2 ⊗ number_field 4) n2
    (both Is2 Is4 (little_bytes 2) (little_bytes 4) (number_field 2) (number_field 4) n2 n4))

interseg : IsField (Both Patch InterSegs) (texts patch_text interseg_text) (patch_field ⊗ number_field 4 ⊗ number_field 2 ⊗ number_field 2 ⊗ number_field 4)
interseg = both Patch InterSegs patch_text interseg_text patch_field (number_field 4 ⊗ number_field 2 ⊗ number_field 2 ⊗ number_field 4) patch intersegs

abbrev ShortInterSegs : ℕ × (ℕ × ℕ) → Type 0
ShortInterSegs = Both Is2 (Both Is1 Is2)

abbrev short_interseg_text : ℕ × (ℕ × ℕ) → List ℕ
short_interseg_text = texts (little_bytes 2) (texts one (little_bytes 2))

short_intersegs : IsField ShortInterSegs short_interseg_text (number_field 2 ⊗ byte_field ⊗ number_field 2)
short_intersegs = both Is2 (Both Is1 Is2) (little_bytes 2) (texts one (little_bytes 2)) (number_field 2) (byte_field ⊗ number_field 2) n2 (both Is1 Is2 one (little_bytes 2) byte_field (number_field 2) n1 n2)

short_interseg : IsField (Both Patch ShortInterSegs) (texts patch_text short_interseg_text) (patch_field ⊗ number_field 2 ⊗ byte_field ⊗ number_field 2)
short_interseg = both Patch ShortInterSegs patch_text short_interseg_text patch_field (number_field 2 ⊗ byte_field ⊗ number_field 2) patch short_intersegs

label : (l : Layout) → IsField (Both (IsName l.lab_len) (Attributes l.length_width)) (texts (name_text l.lab_len) (attributes_text l.length_width)) (name_field l.lab_len ⊗ attributes_field l.length_width)
label l = both (IsName l.lab_len) (Attributes l.length_width) (name_text l.lab_len) (attributes_text l.length_width) (name_field l.lab_len) (attributes_field l.length_width) (name_is_field l.lab_len) (attributes l.length_width)

abbrev as_it_is : List ℕ → List ℕ
as_it_is text = text

equate : (l : Layout) → IsField (Both (IsName l.lab_len) (Both (Attributes l.length_width) (IsExpression l.lab_len))) (texts (name_text l.lab_len) (texts (attributes_text l.length_width) as_it_is)) (name_field l.lab_len ⊗ attributes_field l.length_width ⊗ expression_field l.lab_len)
equate l = both (IsName l.lab_len) (Both (Attributes l.length_width) (IsExpression l.lab_len)) (name_text l.lab_len) (texts (attributes_text l.length_width) as_it_is) (name_field l.lab_len) (attributes_field l.length_width ⊗ expression_field l.lab_len) (name_is_field l.lab_len)
    (both (Attributes l.length_width) (IsExpression l.lab_len) (attributes_text l.length_width) as_it_is (attributes_field l.length_width) (expression_field l.lab_len) (attributes l.length_width) (expression l.lab_len))

abbrev Entries : ℕ → ℕ × (ℕ × List ℕ) → Type 0
Entries l = Both Is2 (Both Is4 (IsName l))

abbrev entry_text : ℕ → ℕ × (ℕ × List ℕ) → List ℕ
entry_text l = texts (little_bytes 2) (texts (little_bytes 4) (name_text l))

entry : (l : ℕ) → IsField (Entries l) (entry_text l) (number_field 2 ⊗ number_field 4 ⊗ name_field l)
entry l = both Is2 (Both Is4 (IsName l)) (little_bytes 2) (texts (little_bytes 4) (name_text l)) (number_field 2) (number_field 4 ⊗ name_field l) n2
    (both Is4 (IsName l) (little_bytes 4) (name_text l) (number_field 4) (name_field l) n4 (name_is_field l))

formula : (l : ℕ) → IsField (Both (Passes is_count) (IsExpression l)) (texts one as_it_is) (count_field ⊗ expression_field l)
formula l = both (Passes is_count) (IsExpression l) one as_it_is count_field (expression_field l) count_is_field (expression l)

distance : (l : ℕ) → IsField (Both (Passes is_count) (Both Is4 (IsExpression l))) (texts one (texts (little_bytes 4) as_it_is)) (count_field ⊗ number_field 4 ⊗ expression_field l)
distance l = both (Passes is_count) (Both Is4 (IsExpression l)) one (texts (little_bytes 4) as_it_is) count_field (number_field 4 ⊗ expression_field l) count_is_field
    (both Is4 (IsExpression l) (little_bytes 4) as_it_is (number_field 4) (expression_field l) n4 (expression l))

org : IsField (λ n. Is4 n × Passes (λ n. ltb n (2 ^ 31)) n) (little_bytes 4) (field_that_passes (λ n. ltb n (2 ^ 31)) Unread (number_field 4))
org = checked_is_field Is4 (little_bytes 4) (number_field 4) (λ n. ltb n (2 ^ 31)) Unread n4

super_size : IsField (λ n. Is4 n × Passes (ltb 0) n) (little_bytes 4) (field_that_passes (ltb 0) Broken (number_field 4))
super_size = checked_is_field Is4 (little_bytes 4) (number_field 4) (ltb 0) Broken n4

super_form : IsField (λ n. Is1 n × Passes is_super n) one (field_that_passes is_super Unread byte_field)
super_form = checked_is_field Is1 one byte_field is_super Unread n1

super_bytes : (n : ℕ) → IsField (λ bytes. (length bytes ≡ n) × Passes are_pages bytes) as_it_is (field_that_passes are_pages Broken (bytes_field n))
super_bytes n = checked_is_field (λ bytes. length bytes ≡ n) as_it_is (bytes_field n) are_pages Broken (bytes_is_field n)

-- ---- what was read is spelled so

-- what was taken is the spelling of a record
pub record TakesRecord (l : Layout) (bytes : List ℕ) (found : Record × List ℕ) : Type 0 where
  pub record' : IsRecord l found.0
  pub taken : Takes bytes (spelling l found.0) found.1

-- what is read after the row's code is a record, and the code and the bytes read are its spelling
abbrev TakesRow : Layout → ℕ × Reads Record → Type 0
TakesRow l row = (rest : List ℕ) (found : Record × List ℕ) → IsBytes rest → row.1 rest ≡ Ok found → TakesRecord l (row.0 ∷ rest) found

-- the fields spell a record
abbrev Spelled : Layout → ℕ → List ℕ → Record → Type 0
Spelled l code text r = IsRecord l r × (code ∷ text ≡ spelling l r)

row_takes : {A : Type 0} (Is : A → Type 0) (text : A → List ℕ) (read : Reads A) → IsField Is text read → (l : Layout) (code : ℕ) (make : A → Record)
    → ((x : A) → Is x → Spelled l code (text x) (make x)) → TakesRow l (code, taken_as make read)
row_takes {A} Is text read field l code make spelled rest found fits e =
    let x = bind_ok (read rest) (λ x. Ok (make x.0, x.1)) found e in
    let t = field.takes rest x.0 fits x.1 in
    let s = spelled x.0.0 t.0 in
    let made : Record × List ℕ = (make x.0.0, x.0.1) in
    let whole : Takes (code ∷ rest) (spelling l (make x.0.0)) x.0.1 = subst (λ (b : List ℕ). Takes (code ∷ rest) b x.0.1) s.1 (Takes-code code rest (text x.0.0) x.0.1 t.1) in
    let is_made : TakesRecord l (code ∷ rest) made = record { record' = s.0; taken = whole } in
    subst (TakesRecord l (code ∷ rest)) (ok_is made found x.2) is_made

constant_takes : (l : Layout) (code : ℕ) → 1 ≤ code → code < 0xE0 → TakesRow l (code, constant_field code)
unfolding spelling
constant_takes l code low high = row_takes (λ bytes. length bytes ≡ code) as_it_is (bytes_field code) (bytes_is_field code) l code Const
    (λ bytes is. ((omega arith, omega arith), ap (λ (n : ℕ). n ∷ bytes) (sym is)))

long_constant_takes : (l : Layout) → TakesRow l (0xF2, long_constant_field)
unfolding spelling
long_constant_takes l rest found fits e =
    let a = bind_ok (number_field 4 rest) (λ n. taken_as LongConst (bytes_field n.0) n.1) found e in
    let b = bind_ok (bytes_field a.0.0 a.0.1) (λ bytes. Ok (LongConst bytes.0, bytes.1)) found a.2 in
    let t = n4.takes rest a.0 fits a.1 in
    let u = (bytes_is_field a.0.0).takes a.0.1 b.0 t.1.rest_fits b.1 in
    let both' = Takes-code 0xF2 rest _ _ (Takes-then rest (little_bytes 4 a.0.0) a.0.1 b.0.0 b.0.1 t.1 u.1) in
    let whole : Takes (0xF2 ∷ rest) (0xF2 ∷ (little_bytes 4 (length b.0.0) ++ b.0.0)) b.0.1 = subst (λ (n : ℕ). Takes (0xF2 ∷ rest) (0xF2 ∷ (little_bytes 4 n ++ b.0.0)) b.0.1) (sym u.0) both' in
    let made : Record × List ℕ = (LongConst b.0.0, b.0.1) in
    let is_made : TakesRecord l (0xF2 ∷ rest) made = record { record' = omega (arith, t.0, u.0); taken = whole } in
    subst (TakesRecord l (0xF2 ∷ rest)) (ok_is made found b.2) is_made

super_takes : (l : Layout) → TakesRow l (0xF7, super_field)
unfolding super_field spelling
super_takes l rest found fits e =
    let a = bind_ok (field_that_passes (ltb 0) Broken (number_field 4) rest) (λ size. field_that_passes is_super Unread byte_field size.1 >>= λ form. field_that_passes are_pages Broken (bytes_field (size.0 - 1)) form.1 >>= λ bytes. Ok (Super form.0 bytes.0, bytes.1)) found e in
    let b = bind_ok (field_that_passes is_super Unread byte_field a.0.1) (λ form. field_that_passes are_pages Broken (bytes_field (a.0.0 - 1)) form.1 >>= λ bytes. Ok (Super form.0 bytes.0, bytes.1)) found a.2 in
    let c = bind_ok (field_that_passes are_pages Broken (bytes_field (a.0.0 - 1)) b.0.1) (λ bytes. Ok (Super b.0.0 bytes.0, bytes.1)) found b.2 in
    let t = super_size.takes rest a.0 fits a.1 in
    let u = super_form.takes a.0.1 b.0 t.1.rest_fits b.1 in
    let v = (super_bytes (a.0.0 - 1)).takes b.0.1 c.0 u.1.rest_fits c.1 in
    let size : a.0.0 ≡ length c.0.0 + 1 = omega (arith, ltb-true 0 a.0.0 t.0.1, v.0.0) in
    let following = Takes-then a.0.1 (b.0.0 ∷ []) b.0.1 c.0.0 c.0.1 u.1 v.1 in
    let all = Takes-code 0xF7 rest _ _ (Takes-then rest (little_bytes 4 a.0.0) a.0.1 (b.0.0 ∷ c.0.0) c.0.1 t.1 following) in
    let whole : Takes (0xF7 ∷ rest) (0xF7 ∷ (little_bytes 4 (length c.0.0 + 1) ++ b.0.0 ∷ c.0.0)) c.0.1 = subst (λ (n : ℕ). Takes (0xF7 ∷ rest) (0xF7 ∷ (little_bytes 4 n ++ b.0.0 ∷ c.0.0)) c.0.1) size all in
    let short : length c.0.0 + 1 < 2 ^ 32 = omega (arith, size, t.0.0) in
    let fits' : IsBytes c.0.0 = IsBytes-front b.0.1 c.0.0 c.0.1 u.1.rest_fits v.1.parts in
    let made : Record × List ℕ = (Super b.0.0 c.0.0, c.0.1) in
    let is_made : TakesRecord l (0xF7 ∷ rest) made = record { record' = (u.0.1, short, pages-read c.0.0 fits' v.0.1); taken = whole } in
    subst (TakesRecord l (0xF7 ∷ rest)) (ok_is made found c.2) is_made

-- the rows of numbers, patches, names and formulas
align_takes : (l : Layout) → TakesRow l (0xE0, align_field)
unfolding spelling
align_takes l = row_takes Is4 (little_bytes 4) (number_field 4) n4 l 0xE0 Align (λ n is. (is, refl))

org_takes : (l : Layout) → TakesRow l (0xE1, org_field)
unfolding spelling
org_takes l = row_takes (λ n. Is4 n × Passes (λ n. ltb n (2 ^ 31)) n) (little_bytes 4) (field_that_passes (λ n. ltb n (2 ^ 31)) Unread (number_field 4)) org l 0xE1 Org (λ n is. (ltb-true n (2 ^ 31) is.1, refl))

space_takes : (l : Layout) → TakesRow l (0xF1, space_field)
unfolding spelling
space_takes l = row_takes Is4 (little_bytes 4) (number_field 4) n4 l 0xF1 Space (λ n is. (is, refl))

reloc_takes : (l : Layout) → TakesRow l (0xE2, reloc_field)
unfolding spelling
reloc_takes l = row_takes (Both Patch (Both Is4 Is4)) (texts patch_text (texts (little_bytes 4) (little_bytes 4))) (patch_field ⊗ number_field 4 ⊗ number_field 4) reloc l 0xE2
    (λ x. Reloc x.0.0 x.0.1 x.1.0 x.1.1) (λ x is. ((is.0, is.1.0, is.1.1), refl))

interseg_takes : (l : Layout) → TakesRow l (0xE3, interseg_field)
unfolding spelling
interseg_takes l = row_takes (Both Patch InterSegs) (texts patch_text interseg_text) (patch_field ⊗ number_field 4 ⊗ number_field 2 ⊗ number_field 2 ⊗ number_field 4) interseg l 0xE3
    (λ x. InterSeg x.0.0 x.0.1 x.1.0 x.1.1.0 x.1.1.1.0 x.1.1.1.1) (λ x is. ((is.0, is.1.0, is.1.1.0, is.1.1.1.0, is.1.1.1.1), refl))

short_reloc_takes : (l : Layout) → TakesRow l (0xF5, short_reloc_field)
unfolding spelling
short_reloc_takes l = row_takes (Both Patch (Both Is2 Is2)) (texts patch_text (texts (little_bytes 2) (little_bytes 2))) (patch_field ⊗ number_field 2 ⊗ number_field 2) short_reloc l 0xF5
    (λ x. ShortReloc x.0.0 x.0.1 x.1.0 x.1.1) (λ x is. ((is.0, is.1.0, is.1.1), refl))

short_interseg_takes : (l : Layout) → TakesRow l (0xF6, short_interseg_field)
unfolding spelling
short_interseg_takes l = row_takes (Both Patch ShortInterSegs) (texts patch_text short_interseg_text) (patch_field ⊗ number_field 2 ⊗ byte_field ⊗ number_field 2) short_interseg l 0xF6
    (λ x. ShortInterSeg x.0.0 x.0.1 x.1.0 x.1.1.0 x.1.1.1) (λ x is. ((is.0, is.1.0, is.1.1.0, is.1.1.1), refl))

using_takes : (l : Layout) → TakesRow l (0xE4, using_field l.lab_len)
unfolding spelling
using_takes l = row_takes (IsName l.lab_len) (name_text l.lab_len) (name_field l.lab_len) (name_is_field l.lab_len) l 0xE4 Using (λ n is. (is, refl))

strong_takes : (l : Layout) → TakesRow l (0xE5, strong_field l.lab_len)
unfolding spelling
strong_takes l = row_takes (IsName l.lab_len) (name_text l.lab_len) (name_field l.lab_len) (name_is_field l.lab_len) l 0xE5 Strong (λ n is. (is, refl))

abbrev label_code : Bool → ℕ
label_code global = cond global 0xE6 0xEF

label_takes : (l : Layout) (global : Bool) → TakesRow l (label_code global, label_field l global)
unfolding label_field spelling
label_takes l global = row_takes (Both (IsName l.lab_len) (Attributes l.length_width)) (texts (name_text l.lab_len) (attributes_text l.length_width)) (name_field l.lab_len ⊗ attributes_field l.length_width) (label l) l (label_code global)
    (λ x. Label global x.0 x.1.0 x.1.1.0 x.1.1.1) (λ x is. ((is.0, (is.1.0, is.1.1.0, is.1.1.1)), refl))

abbrev equate_code : Bool → ℕ
equate_code global = cond global 0xE7 0xF0

equate_takes : (l : Layout) (global : Bool) → TakesRow l (equate_code global, equate_field l global)
unfolding equate_field spelling
equate_takes l global = row_takes (Both (IsName l.lab_len) (Both (Attributes l.length_width) (IsExpression l.lab_len))) (texts (name_text l.lab_len) (texts (attributes_text l.length_width) as_it_is)) (name_field l.lab_len ⊗ attributes_field l.length_width ⊗ expression_field l.lab_len) (equate l) l (equate_code global)
    (λ x. Equate global x.0 x.1.0.0 x.1.0.1.0 x.1.0.1.1 x.1.1) (λ x is. ((is.0, (is.1.0.0, is.1.0.1.0, is.1.0.1.1), is.1.1), refl))

formula_takes : (l : Layout) (code : ℕ) → is_formula code ≡ true → eqb code 0xEE ≡ false → TakesRow l (code, formula_field l.lab_len code)
unfolding formula_field spelling
formula_takes l code is_code other = row_takes (Both (Passes is_count) (IsExpression l.lab_len)) (texts one as_it_is) (count_field ⊗ expression_field l.lab_len) (formula l.lab_len) l code
    (λ x. Formula code x.0 0 x.1) (λ x is. let none : IsDistance (eqb code 0xEE) 0 = rw other refl in ((is_code, is.0, none, is.1), ap (λ (b : Bool). code ∷ x.0 ∷ cond b (little_bytes 4 0 ++ x.1) x.1) (sym other)))

distance_takes : (l : Layout) → TakesRow l (0xEE, distance_field l.lab_len)
unfolding spelling
distance_takes l = row_takes (Both (Passes is_count) (Both Is4 (IsExpression l.lab_len))) (texts one (texts (little_bytes 4) as_it_is)) (count_field ⊗ number_field 4 ⊗ expression_field l.lab_len) (distance l.lab_len) l 0xEE
    (λ x. Formula 0xEE x.0 x.1.0 x.1.1) (λ x is. ((refl, is.0, is.1.0, is.1.1), refl))

entry_takes : (l : Layout) → TakesRow l (0xF4, entry_field l.lab_len)
unfolding spelling
entry_takes l = row_takes (Entries l.lab_len) (entry_text l.lab_len) (number_field 2 ⊗ number_field 4 ⊗ name_field l.lab_len) (entry l.lab_len) l 0xF4
    (λ x. Entry x.0 x.1.0 x.1.1) (λ x is. ((is.0, is.1.0, is.1.1), refl))

rows_take : (l : Layout) → AllByRecursion (TakesRow l) (rows l)
unfolding rows
rows_take l = (
  align_takes l,
  (
    org_takes l,
    (
      reloc_takes l,
      (
        interseg_takes l,
        (
          using_takes l,
          (
            strong_takes l,
            (
              label_takes l true,
              (
                equate_takes l true,
                (
                  formula_takes l 0xEB refl refl,
                  (
                    formula_takes l 0xEC refl refl,
                    (
                      formula_takes l 0xED refl refl,
                      (
                        distance_takes l,
                        (
                          label_takes l false,
                          (
                            equate_takes l false,
                            (space_takes l, (long_constant_takes l, (formula_takes l 0xF3 refl refl, (entry_takes l, (short_reloc_takes l, (short_interseg_takes l, (super_takes l, tt))))))),
                          ),
                        ),
                      ),
                    ),
                  ),
                ),
              ),
            ),
          ),
        ),
      ),
    ),
  ),
)

by_code_takes : (l : Layout) (table : List (ℕ × Reads Record)) → AllByRecursion (TakesRow l) table → (code : ℕ) (rest : List ℕ) (found : Record × List ℕ) → IsBytes rest → by_code table code rest ≡ Ok found → TakesRecord l (code ∷ rest) found
by_code_takes l [] all code rest found fits e = absurd cc
by_code_takes l (row ∷ more) all code rest found fits e =
    elim (chosen (eqb code row.0) _ _ (Ok found) e) [
      | inl p ↦ subst (λ (c : ℕ). TakesRecord l (c ∷ rest) found) (sym (eqb-true code row.0 p.0)) (all.0 rest found fits p.1)
      | inr p ↦ by_code_takes l more all.1 code rest found fits p.1
    ]

end_takes : (l : Layout) (code : ℕ) (rest : List ℕ) (found : Record × List ℕ) → IsBytes rest → code ≡ 0 → (End, rest) ≡ found → TakesRecord l (code ∷ rest) found
unfolding spelling
end_takes l code rest found fits zero-is e =
    let is_made : TakesRecord l (0 ∷ rest) (End, rest) = record { record' = tt; taken = record { parts = refl; rest_fits = fits } } in
    let at_found : TakesRecord l (0 ∷ rest) found = subst (TakesRecord l (0 ∷ rest)) e is_made in
    subst (λ (c : ℕ). TakesRecord l (c ∷ rest) found) (sym zero-is) at_found

-- what is read is spelled so
pub front-takes : (l : Layout) (bytes : List ℕ) (found : Record × List ℕ) → IsBytes bytes → first_record l bytes ≡ Ok found → TakesRecord l bytes found
unfolding first_record
front-takes l [] found fits e = absurd cc
front-takes l (code ∷ rest) found fits e =
    let rest_fits = IsBytes-rest code rest fits in
    elim (chosen (eqb code 0x00) _ _ (Ok found) e) [
      | inl p ↦ end_takes l code rest found rest_fits (eqb-true _ _ p.0) (ok_is (End, rest) found p.1)
      | inr p ↦ elim (chosen (ltb code 0xE0) _ _ (Ok found) p.1) [
        | inl q ↦ constant_takes l code (above code p.0) (ltb-true _ _ q.0) rest found rest_fits q.1
        | inr q ↦ by_code_takes l (rows l) (rows_take l) code rest found rest_fits q.1
      ]
    ]
  where
    above : (code : ℕ) → eqb code 0 ≡ false → 1 ≤ code
    above zero e = absurd cc
    above (suc n) e = omega arith

-- ---- what is spelled so is read

row_again : {A : Type 0} (Is : A → Type 0) (text : A → List ℕ) (read : Reads A) → IsField Is text read → (make : A → Record) (x : A) (rest : List ℕ) → Is x → taken_as make read (text x ++ rest) ≡ Ok (make x, rest)
row_again Is text read field make x rest is = rw (field.again x rest is) refl

-- a type fits a byte
small : (form : ℕ) → is_super form ≡ true → form < 256
small form is = elim (either _ _ is) [
  | inl p ↦ omega (arith, leb-true form 2 p)
  | inr p ↦ omega (arith, leb-true form 37 (and_parts _ _ p).1)
]

super_again : (form : ℕ) (bytes rest : List ℕ) → is_super form ≡ true → length bytes + 1 < 2 ^ 32 → HavePages bytes → super_field ((little_bytes 4 (length bytes + 1) ++ form ∷ bytes) ++ rest) ≡ Ok (Super form bytes, rest)
unfolding super_field
super_again form bytes rest is short have =
    let size = super_size.again (length bytes + 1) (form ∷ bytes ++ rest) (omega arith, lt-ltb _ _ (omega arith)) in
    let formed = super_form.again form (bytes ++ rest) (small form is, is) in
    let count : length bytes + 1 - 1 ≡ length bytes = omega arith in
    let all = (super_bytes (length bytes)).again bytes rest (refl, pages-again bytes have) in
    rw (append_assoc (little_bytes 4 (length bytes + 1)) (form ∷ bytes) rest, size, formed, count, all) refl

-- a formula's code is one of five
formula_code : (P : ℕ → Type 0) (code : ℕ) → is_formula code ≡ true → P 0xEB → P 0xEC → P 0xED → P 0xEE → P 0xF3 → P code
formula_code P code is a b c d e = elim (either _ _ is) [
  | inr p ↦ at p e
  | inl p ↦ elim (either _ _ p) [
    | inr q ↦ at q d
    | inl q ↦ elim (either _ _ q) [
      | inr r ↦ at r c
      | inl r ↦ elim (either _ _ r) [
        | inr s ↦ at s b
        | inl s ↦ at s a
      ]
    ]
  ]
]
  where
    at : {other : ℕ} → eqb code other ≡ true → P other → P code
    at {other} e p = subst P (sym (eqb-true code other e)) p

-- what is spelled under this code is read
abbrev IsAgain : Layout → ℕ → List ℕ → List ℕ → ℕ → Type 0
IsAgain l count expr rest code = (n : ℕ) → IsDistance (eqb code 0xEE) n → first_record l (spelling l (Formula code count n expr) ++ rest) ≡ Ok (Formula code count n expr, rest)

plain_again : (l : Layout) (code count : ℕ) (expr rest : List ℕ) → is_count count ≡ true → IsExpression l.lab_len expr → formula_field l.lab_len code ((count ∷ expr) ++ rest) ≡ Ok (Formula code count 0 expr, rest)
unfolding formula_field
plain_again l code count expr rest is is_expr = row_again (Both (Passes is_count) (IsExpression l.lab_len)) (texts one as_it_is) (count_field ⊗ expression_field l.lab_len) (formula l.lab_len) (λ x. Formula code x.0 0 x.1) (count, expr) rest (is, is_expr)

-- without an n
without_n : (l : Layout) (code count n : ℕ) (expr rest : List ℕ) → n ≡ 0 → first_record l ((code ∷ count ∷ expr) ++ rest) ≡ Ok (Formula code count 0 expr, rest) → first_record l ((code ∷ count ∷ expr) ++ rest) ≡ Ok (Formula code count n expr, rest)
without_n l code count n expr rest none e = e ∙ ap (λ (m : ℕ). done (Formula code count m expr, rest)) (sym none)

formula_again : (l : Layout) (code count n : ℕ) (expr rest : List ℕ) → is_formula code ≡ true → is_count count ≡ true → IsDistance (eqb code 0xEE) n → IsExpression l.lab_len expr
    → first_record l (spelling l (Formula code count n expr) ++ rest) ≡ Ok (Formula code count n expr, rest)
unfolding first_record spelling rows
formula_again l code count n expr rest is is_count' far is_expr = formula_code (IsAgain l count expr rest) code is
    (λ n far. without_n l 0xEB count n expr rest far (plain_again l 0xEB count expr rest is_count' is_expr))
    (λ n far. without_n l 0xEC count n expr rest far (plain_again l 0xEC count expr rest is_count' is_expr))
    (λ n far. without_n l 0xED count n expr rest far (plain_again l 0xED count expr rest is_count' is_expr))
    (λ n far. row_again (Both (Passes is_count) (Both Is4 (IsExpression l.lab_len))) (texts one (texts (little_bytes 4) as_it_is)) (count_field ⊗ number_field 4 ⊗ expression_field l.lab_len) (distance l.lab_len)
    (λ x. Formula 0xEE x.0 x.1.0 x.1.1) (count, (n, expr)) rest (is_count', (far, is_expr)))
    (λ n far. without_n l 0xF3 count n expr rest far (plain_again l 0xF3 count expr rest is_count' is_expr))
    n far

-- what is spelled so is read, whatever follows
pub front-again : (l : Layout) (r : Record) (rest : List ℕ) → IsRecord l r → first_record l (spelling l r ++ rest) ≡ Ok (r, rest)
unfolding first_record spelling rows label_field equate_field
front-again l End rest fits = refl
front-again l (Const []) rest fits = absurd (omega arith)
front-again l (Const (x ∷ bytes)) rest fits =
    let bytes' = x ∷ bytes in
    let some : eqb (length bytes') 0 ≡ false = ne_eqb _ _ (λ e. absurd (omega arith)) in
    let short : ltb (length bytes') 0xE0 ≡ true = lt-ltb _ _ (omega arith) in
    rw (some, short, bytes_again (length bytes') bytes' rest refl) refl
front-again l (LongConst bytes) rest fits =
    rw (append_assoc (little_bytes 4 (length bytes)) bytes rest, n4.again (length bytes) (bytes ++ rest) fits, bytes_again (length bytes) bytes rest refl) refl
front-again l (Align n) rest fits = row_again Is4 (little_bytes 4) (number_field 4) n4 Align n rest fits
front-again l (Org n) rest fits = row_again (λ n. Is4 n × Passes (λ n. ltb n (2 ^ 31)) n) (little_bytes 4) (field_that_passes (λ n. ltb n (2 ^ 31)) Unread (number_field 4)) org Org n rest (omega arith, lt-ltb n (2 ^ 31) fits)
front-again l (Space n) rest fits = row_again Is4 (little_bytes 4) (number_field 4) n4 Space n rest fits
front-again l (Reloc count shift location offset) rest fits =
    row_again (Both Patch (Both Is4 Is4)) (texts patch_text (texts (little_bytes 4) (little_bytes 4))) (patch_field ⊗ number_field 4 ⊗ number_field 4) reloc
    (λ x. Reloc x.0.0 x.0.1 x.1.0 x.1.1) ((count, shift), (location, offset)) rest (fits.0, (fits.1, fits.2))
front-again l (InterSeg count shift location file segment offset) rest fits =
    row_again (Both Patch InterSegs) (texts patch_text interseg_text) (patch_field ⊗ number_field 4 ⊗ number_field 2 ⊗ number_field 2 ⊗ number_field 4) interseg
    (λ x. InterSeg x.0.0 x.0.1 x.1.0 x.1.1.0 x.1.1.1.0 x.1.1.1.1) ((count, shift), (location, (file, (segment, offset)))) rest (fits.0, (fits.1, (fits.2, (fits.3, fits.4))))
front-again l (ShortReloc count shift location offset) rest fits =
    row_again (Both Patch (Both Is2 Is2)) (texts patch_text (texts (little_bytes 2) (little_bytes 2))) (patch_field ⊗ number_field 2 ⊗ number_field 2) short_reloc
    (λ x. ShortReloc x.0.0 x.0.1 x.1.0 x.1.1) ((count, shift), (location, offset)) rest (fits.0, (fits.1, fits.2))
front-again l (ShortInterSeg count shift location segment offset) rest fits =
    row_again (Both Patch ShortInterSegs) (texts patch_text short_interseg_text) (patch_field ⊗ number_field 2 ⊗ byte_field ⊗ number_field 2) short_interseg
    (λ x. ShortInterSeg x.0.0 x.0.1 x.1.0 x.1.1.0 x.1.1.1) ((count, shift), (location, (segment, offset))) rest (fits.0, (fits.1, (fits.2, fits.3)))
front-again l (Super form bytes) rest fits = super_again form bytes rest fits.0 fits.1 fits.2
front-again l (Using name) rest fits = row_again (IsName l.lab_len) (name_text l.lab_len) (name_field l.lab_len) (name_is_field l.lab_len) Using name rest fits
front-again l (Strong name) rest fits = row_again (IsName l.lab_len) (name_text l.lab_len) (name_field l.lab_len) (name_is_field l.lab_len) Strong name rest fits
front-again l (Label true name size form private) rest fits =
    row_again (Both (IsName l.lab_len) (Attributes l.length_width)) (texts (name_text l.lab_len) (attributes_text l.length_width)) (name_field l.lab_len ⊗ attributes_field l.length_width) (label l)
    (λ x. Label true x.0 x.1.0 x.1.1.0 x.1.1.1) (name, (size, (form, private))) rest (fits.0, (fits.1.0, (fits.1.1, fits.1.2)))
front-again l (Label false name size form private) rest fits =
    row_again (Both (IsName l.lab_len) (Attributes l.length_width)) (texts (name_text l.lab_len) (attributes_text l.length_width)) (name_field l.lab_len ⊗ attributes_field l.length_width) (label l)
    (λ x. Label false x.0 x.1.0 x.1.1.0 x.1.1.1) (name, (size, (form, private))) rest (fits.0, (fits.1.0, (fits.1.1, fits.1.2)))
front-again l (Equate true name size form private expr) rest fits =
    row_again (Both (IsName l.lab_len) (Both (Attributes l.length_width) (IsExpression l.lab_len))) (texts (name_text l.lab_len) (texts (attributes_text l.length_width) as_it_is)) (name_field l.lab_len ⊗ attributes_field l.length_width ⊗ expression_field l.lab_len) (equate l)
    (λ x. Equate true x.0 x.1.0.0 x.1.0.1.0 x.1.0.1.1 x.1.1) (name, ((size, (form, private)), expr)) rest (fits.0, ((fits.1.0, (fits.1.1, fits.1.2)), fits.2))
front-again l (Equate false name size form private expr) rest fits =
    row_again (Both (IsName l.lab_len) (Both (Attributes l.length_width) (IsExpression l.lab_len))) (texts (name_text l.lab_len) (texts (attributes_text l.length_width) as_it_is)) (name_field l.lab_len ⊗ attributes_field l.length_width ⊗ expression_field l.lab_len) (equate l)
    (λ x. Equate false x.0 x.1.0.0 x.1.0.1.0 x.1.0.1.1 x.1.1) (name, ((size, (form, private)), expr)) rest (fits.0, ((fits.1.0, (fits.1.1, fits.1.2)), fits.2))
front-again l (Formula code count n expr) rest fits = formula_again l code count n expr rest fits.0 fits.1 fits.2 fits.3
front-again l (Entry segment offset name) rest fits =
    row_again (Entries l.lab_len) (entry_text l.lab_len) (number_field 2 ⊗ number_field 4 ⊗ name_field l.lab_len) (entry l.lab_len)
    (λ x. Entry x.0 x.1.0 x.1.1) (segment, (offset, name)) rest (fits.0, (fits.1, fits.2))
