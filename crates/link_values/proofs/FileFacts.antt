-- What is known of the linked list of resolved files.
use Rattle.std.proofs.Common.{◌≡◌, ◌⊎◌, inl, inr, ℕ, zero, suc, ◌+◌, ◌^◌, ◌<◌, ◌≤◌, Bool, true, false, eqb, List, [], ◌∷◌, ◌++◌, length, Some, None, refl, sym, ap, subst, ◌∙◌, arith}
use Rattle.link_meaning.specs.laws.Steps.{has_expr}
use Rattle.std.specs.Prelude.{slice_get, cond, nat_le}
use Rattle.std.specs.List.{flat_map, AllByRecursion}
use Rattle.std.proofs.lemmas.Bool.{ne_eqb, leb-true}
use Rattle.std.proofs.lemmas.List.Concat.{flat_map-cons}
use Rattle.omf_format.specs.Field.{layout_of}
use Rattle.omf_format.specs.Expression.{Term, Operator, Location, Constant, Named, Offset, IsExpression, terms_in}
use Rattle.omf_format.specs.Record.{Record, IsRecord, End, Const, LongConst, Align, Org, Space, Reloc, InterSeg, ShortReloc, ShortInterSeg, Super, Using, Strong, Label, Equate, Formula, Entry}
use Rattle.omf_format.specs.File.{Segment}
use Rattle.link_meaning.specs.declared.search.SearchKind.{SearchKind}
use Rattle.link_meaning.specs.declared.search.SearchKind.TheVariants.{One, Any}
use Rattle.link_meaning.specs.First.{IsIn}
use Rattle.object_meaning.specs.Sizes.{Located, size_at, located_from, body_size}
use Rattle.link_meaning.specs.Member.{Member}
use Rattle.object_meaning.specs.Defines.{Definition, defined_by}
use Rattle.object_meaning.specs.Terms.{asks_value}
use Rattle.link_meaning.specs.Uses.{Use, used_by_term, used_by, uses_of}
use Rattle.link_meaning.specs.Search.{FoundDefinition, entries, finds}
use Rattle.link_meaning.specs.LinkedList.{asked_from, all_uses, found_for}
use Rattle.link_meaning.specs.Layout.{load_names, offset_of}
use Rattle.link_meaning.specs.LinkValues.{place_value}
use Rattle.link_meaning.specs.LinkFaults.{use_cause}
use Rattle.link_meaning.specs.laws.PlaceFits.{IsPlaceIn, place_fits, entry_there, offset-le, short_load, name_there, in_parts, in-append}
use Rattle.link_meaning.specs.laws.LinkWrittenLaws.{few_loads}
use Rattle.link_meaning.specs.laws.ReadMembers.{IsRead, members_read, read_size, read_records}
use Rattle.link_meaning.specs.laws.EquatePlaces.{in_records, of_record, in_entries_is}
use Rattle.link_meaning.specs.laws.EquateOrder.{one_number}
use Rattle.link_program.specs.Linked.{member_at}
use Rattle.link_program.specs.OfFiles.{IsOfFiles}
use Rattle.link_program.specs.Outside.{all_found}
use Rattle.link_program.specs.UsesResolve.{use_resolves, in_left, in_right, asked_of, asked_there, found_any}
use Rattle.link_values.specs.Slots.{AreOnce}
use Rattle.link_values.specs.Equates.{FindOne}
use Rattle.link_values.proofs.AllFound.{entry_in, inside_equate}

-- ---- members

pub read_of : (list : List Member) → IsOfFiles list → (m : Member) → IsIn list m → IsRead m.segment
read_of list of m is = members_read of.given list m of.bytes of.resolved.program is

pub body_within : (list : List Member) → IsOfFiles list → (m : Member) → IsIn list m → body_size m.segment ≤ m.segment.fields.length
body_within list of m is = omega (arith, read_size m.segment (read_of list of m is))

pub few_of : (list : List Member) → IsOfFiles list → length (load_names list) ≤ 254
few_of list of = few_loads of.given list of.resolved

-- a place in a member fits 32 bits
pub near_of : (list : List Member) → IsOfFiles list → (place : ℕ) (m : Member) (at : ℕ) → IsPlaceIn list place m at → offset_of list place m + at < 2 ^ 32
unfolding place_value
near_of list of place m at is = (place_fits of.given list place m at of.resolved (body_within list of) is).2 refl

-- a member ends within its load segment
pub end_of : (list : List Member) → IsOfFiles list → (front : List Member) (m : Member) (back : List Member) → list ≡ front ++ m ∷ back → offset_of list (length front + 1) m + m.segment.fields.length ≤ 0xFFFFFF
end_of list of front m back parts =
    let le = offset-le list front m back parts in
    omega (arith, le, short_load of.given list m.segment.fields.load_name of.resolved (name_there list m (in_parts list front m back parts)))

get_parts : (front : List Member) (m : Member) (back : List Member) → slice_get (front ++ m ∷ back) (length front) ≡ Some m
get_parts [] m back = refl
get_parts (o ∷ front) m back = get_parts front m back

pub parts_there : (list front : List Member) (m : Member) (back : List Member) → list ≡ front ++ m ∷ back → member_at list (length front + 1) ≡ Some m
parts_there list front m back parts =
    let next : length front + 1 ≡ suc (length front) = omega arith in
    ap (member_at list) next ∙ ap (λ (l : List Member). slice_get l (length front)) parts ∙ get_parts front m back

pub place_there : (list : List Member) (place : ℕ) (m : Member) (at : ℕ) → IsPlaceIn list place m at → member_at list place ≡ Some m
place_there list place m at is = ap (member_at list) is.number ∙ parts_there list is.front m is.back is.parts

-- ---- definitions

pub entry_at : (fs : List FoundDefinition) (f : FoundDefinition) → IsIn fs f → (k : ℕ) × (slice_get fs k ≡ Some f)
entry_at [] f is = absurd is
entry_at (g ∷ fs) f (inl e) = (zero, ap (λ (x : FoundDefinition). Some x) e)
entry_at (g ∷ fs) f (inr more) = let rest = entry_at fs f more in (suc rest.0, rest.1)

pub definition_place : (list : List Member) (k : ℕ) (f : FoundDefinition) → slice_get (entries list) k ≡ Some f → IsPlaceIn list f.place f.member f.definition.place
definition_place list k f at = entry_there list f (entry_in (entries list) k f at)

pub once_of : (list : List Member) → IsOfFiles list → AreOnce (all_found list)
once_of list of i j e f here there p q place at =
    one_number of.given list i j e f of.bytes of.resolved (inside_equate list i e here p) (inside_equate list j f there q) p q place at

-- ---- the record of an equate

all_in : {A : Type 0} (P : A → Type 0) (xs : List A) (x : A) → AllByRecursion P xs → IsIn xs x → P x
all_in P [] x all is = absurd is
all_in P (y ∷ xs) x all (inl e) = subst P e all.0
all_in P (y ∷ xs) x all (inr more) = all_in P xs x all.1 more

-- the record that is located among others
from_located : (loc : ℕ) (founds : List (ℕ × Record)) (r : Located) → IsIn (located_from loc founds) r → IsIn founds (r.at, r.content)
from_located loc [] r is = is
from_located loc (found ∷ founds) r (inl e) = inl (ap (λ (x : Located). (x.at, x.content)) e)
from_located loc (found ∷ founds) r (inr more) = inr (from_located (loc + size_at loc found.1) founds r more)

record OfEquate (s : Segment) (text : List ℕ) : Type 0 where
  at : ℕ
  global : Bool
  name : List ℕ
  size : ℕ
  form : ℕ
  private : ℕ
  among : IsIn s.records (at, Equate global name size form private text)

same_text : (x y : List ℕ) → Some x ≡ Some y → x ≡ y
same_text x y e = cc

equate_record : (s : Segment) (at place : ℕ) (r : Record) (d : Definition) (text : List ℕ) → IsIn s.records (at, r) → IsIn (defined_by at place r) d → d.expr ≡ Some text → OfEquate s text
equate_record s at place End d text among is e = absurd is
equate_record s at place (Const bytes) d text among is e = absurd is
equate_record s at place (LongConst bytes) d text among is e = absurd is
equate_record s at place (Align n) d text among is e = absurd is
equate_record s at place (Org n) d text among is e = absurd is
equate_record s at place (Space n) d text among is e = absurd is
equate_record s at place (Reloc count shift location offset) d text among is e = absurd is
equate_record s at place (InterSeg count shift location file segment offset) d text among is e = absurd is
equate_record s at place (ShortReloc count shift location offset) d text among is e = absurd is
equate_record s at place (ShortInterSeg count shift location segment offset) d text among is e = absurd is
equate_record s at place (Super form bytes) d text among is e = absurd is
equate_record s at place (Using name) d text among is e = absurd is
equate_record s at place (Strong name) d text among is e = absurd is
equate_record s at place (Label global name size form private) d text among (inl same) e = absurd (none_some (ap (λ (x : Definition). x.expr) same ∙ e))
  where
    none_some : None ≡ Some text → ⊥
    none_some e = cc
equate_record s at place (Label global name size form private) d text among (inr more) e = absurd more
equate_record s at place (Equate global name size form private expr) d text among (inl same) e =
    let is : expr ≡ text = same_text expr text (ap (λ (x : Definition). x.expr) same ∙ e) in
    record { at = at; global = global; name = name; size = size; form = form; private = private; among = subst (λ (t : List ℕ). IsIn s.records (at, Equate global name size form private t)) is among }
equate_record s at place (Equate global name size form private expr) d text among (inr more) e = absurd more
equate_record s at place (Formula code count n expr) d text among is e = absurd is
equate_record s at place (Entry segment offset name) d text among is e = absurd is

of_equate : (list : List Member) (k : ℕ) (f : FoundDefinition) (text : List ℕ) → slice_get (entries list) k ≡ Some f → f.definition.expr ≡ Some text → OfEquate f.member.segment text
of_equate list k f text at e =
    let s = f.member.segment in
    let there = in_records 0 s.records f.definition (of_record s f.definition (in_entries_is list f (entry_in (entries list) k f at)) (ap has_expr e)) in
    equate_record s there.0.at there.0.location there.0.content f.definition text (from_located 0 s.records there.0 there.1) there.2 e

-- its expression is one
pub spelled_of : (list : List Member) → IsOfFiles list → (k : ℕ) (f : FoundDefinition) (text : List ℕ) → slice_get (entries list) k ≡ Some f → f.definition.expr ≡ Some text → IsExpression f.member.segment.fields.lab_len text
spelled_of list of k f text at e =
    let s = f.member.segment in
    let r = of_equate list k f text at e in
    let is = definition_place list k f at in
    let read = read_of list of f.member (in_parts list is.front f.member is.back is.parts) in
    (all_in (λ (found : ℕ × Record). IsRecord (layout_of s.fields.version s.fields.lab_len) found.1) s.records _ (read_records s read) r.among).2

-- ---- names that are asked

-- a use of an expression
record NameUse (us : List Use) (name : List ℕ) : Type 0 where
  use' : Use
  among : IsIn us use'
  is : use'.name ≡ name
  wants : (use'.want ≡ Any) ⊎ (use'.want ≡ One)

term_use : (at : ℕ) (term : Term) (name : List ℕ) → IsIn (asks_value term) name → NameUse (used_by_term at term) name
term_use at (Operator code) name is = absurd is
term_use at Location name is = absurd is
term_use at (Constant n) name is = absurd is
term_use at (Offset n) name is = absurd is
term_use at (Named code of) name is = by_test (nat_le code 0x83) refl is
  where
    use_by : Bool → Use
    use_by b = record { want = cond b Any One; name = of; at = at }

    wants_by : (b : Bool) → ((use_by b).want ≡ Any) ⊎ ((use_by b).want ≡ One)
    wants_by true = inl refl
    wants_by false = inr refl

    one : (e : of ≡ name) (c : Bool) → c ≡ false → NameUse (cond c [] (use_by (eqb code 0x82) ∷ [])) name
    one e c is = subst (λ (b : Bool). NameUse (cond b [] (use_by (eqb code 0x82) ∷ [])) name) (sym is) (record { use' = use_by (eqb code 0x82); among = inl refl; is = e; wants = wants_by (eqb code 0x82) })

    by_test : (b : Bool) → nat_le code 0x83 ≡ b → IsIn (cond b (of ∷ []) []) name → NameUse (used_by_term at (Named code of)) name
    by_test true le (inl e) = one e (eqb code 0x86) (ne_eqb code 0x86 (λ same. absurd (omega (arith, leb-true code 0x83 le, same))))
    by_test true le (inr more) = absurd more
    by_test false le is = absurd is

text_use : (at : ℕ) (terms : List (ℕ × Term)) (name : List ℕ) → IsIn (flat_map (λ placed. asks_value placed.1) terms) name → NameUse (flat_map (λ placed. used_by_term at placed.1) terms) name
text_use at [] name is = absurd is
text_use at (t ∷ terms) name is = by_part (in-append (asks_value t.1) (flat_map (λ (placed : ℕ × Term). asks_value placed.1) terms) name (subst (λ (l : List (List ℕ)). IsIn l name) (flat_map-cons (λ (placed : ℕ × Term). asks_value placed.1) t terms) is)) (λ more. text_use at terms name more)
  where
    whole : flat_map (λ (placed : ℕ × Term). used_by_term at placed.1) (t ∷ terms) ≡ used_by_term at t.1 ++ flat_map (λ (placed : ℕ × Term). used_by_term at placed.1) terms
    whole = flat_map-cons (λ (placed : ℕ × Term). used_by_term at placed.1) t terms

    moved : (u : NameUse (used_by_term at t.1 ++ flat_map (λ (placed : ℕ × Term). used_by_term at placed.1) terms) name) → NameUse (flat_map (λ (placed : ℕ × Term). used_by_term at placed.1) (t ∷ terms)) name
    moved u = subst (λ (l : List Use). NameUse l name) (sym whole) u

    by_part : IsIn (asks_value t.1) name ⊎ IsIn (flat_map (λ (placed : ℕ × Term). asks_value placed.1) terms) name → (IsIn (flat_map (λ (placed : ℕ × Term). asks_value placed.1) terms) name → NameUse (flat_map (λ (placed : ℕ × Term). used_by_term at placed.1) terms) name)
        → NameUse (flat_map (λ (placed : ℕ × Term). used_by_term at placed.1) (t ∷ terms)) name
    by_part (inl h) go =
        let u = term_use at t.1 name h in
        moved (record { use' = u.use'; among = in_left (used_by_term at t.1) (flat_map (λ (placed : ℕ × Term). used_by_term at placed.1) terms) u.use' u.among; is = u.is; wants = u.wants })
    by_part (inr h) go =
        let u = go h in
        moved (record { use' = u.use'; among = in_right (used_by_term at t.1) (flat_map (λ (placed : ℕ × Term). used_by_term at placed.1) terms) u.use' u.among; is = u.is; wants = u.wants })

in_flat : {A B : Type 0} (f : A → List B) (xs : List A) (x : A) (y : B) → IsIn xs x → IsIn (f x) y → IsIn (flat_map f xs) y
in_flat f [] x y is there = absurd is
in_flat {A} {B} f (z ∷ xs) x y (inl e) there = subst (λ (l : List B). IsIn l y) (sym (flat_map-cons f z xs)) (in_left (f z) (flat_map f xs) y (subst (λ (w : A). IsIn (f w) y) (sym e) there))
in_flat {A} {B} f (z ∷ xs) x y (inr more) there = subst (λ (l : List B). IsIn l y) (sym (flat_map-cons f z xs)) (in_right (f z) (flat_map f xs) y (in_flat f xs x y more there))

one_of : (want : SearchKind) (found : List FoundDefinition) (f g : FoundDefinition) → (want ≡ Any) ⊎ (want ≡ One) → use_cause want found ≡ None → IsIn found f → IsIn found g → f ≡ g
one_of want [] f g wants e is there = absurd is
one_of want (x ∷ []) f g wants e (inl a) (inl b) = sym a ∙ b
one_of want (x ∷ []) f g wants e (inl a) (inr b) = absurd b
one_of want (x ∷ []) f g wants e (inr a) there = absurd a
one_of want (x ∷ y ∷ more) f g (inl any) e is there = absurd (several (ap (λ (w : SearchKind). use_cause w (x ∷ y ∷ more)) (sym any) ∙ e))
  where
    several : use_cause Any (x ∷ y ∷ more) ≡ None → ⊥
    several e = cc
one_of want (x ∷ y ∷ more) f g (inr one) e is there = absurd (several (ap (λ (w : SearchKind). use_cause w (x ∷ y ∷ more)) (sym one) ∙ e))
  where
    several : use_cause One (x ∷ y ∷ more) ≡ None → ⊥
    several e = cc

-- a name of an equate's expression finds one thing at most
pub find_one_of : (list : List Member) → IsOfFiles list → (k : ℕ) (e : FoundDefinition) (text : List ℕ) → slice_get (entries list) k ≡ Some e → e.definition.expr ≡ Some text
    → FindOne list e.place e.member (flat_map (λ placed. asks_value placed.1) (terms_in e.member.segment.fields.lab_len 0 text))
unfolding all_uses uses_of
find_one_of list of k e text at has name f g asks is there =
    let s = e.member.segment in
    let r = of_equate list k e text at has in
    let u = text_use r.at (terms_in s.fields.lab_len 0 text) name asks in
    let p = definition_place list k e at in
    let used : IsIn (uses_of s) u.use' = in_flat (λ (found : ℕ × Record). used_by s.fields.lab_len found.0 found.1) s.records (r.at, Equate r.global r.name r.size r.form r.private text) u.use' r.among u.among in
    let place : 1 + length p.front ≡ e.place = omega (arith, p.number) in
    let in_list : IsIn (asked_from 1 list) (asked_of e.place e.member u.use') =
    subst (λ (n : ℕ). IsIn (asked_from 1 list) (asked_of n e.member u.use')) place (subst (λ (l : List Member). IsIn (asked_from 1 l) (asked_of (1 + length p.front) e.member u.use')) (sym p.parts) (asked_there 1 p.front e.member p.back u.use' used)) in
    let cause = use_resolves list of (asked_of e.place e.member u.use') in_list in
    let found : found_for list e.place e.member u.use' ≡ finds list e.place e.member name = found_any list e.place e.member u.use' u.wants ∙ ap (finds list e.place e.member) u.is in
    one_of u.use'.want (finds list e.place e.member name) f g u.wants (ap (use_cause u.use'.want) (sym found) ∙ cause) is there
