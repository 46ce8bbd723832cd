-- The lines of what a member defines.
use Rattle.std.proofs.Common.{◌≡◌, ℕ, ◌+◌, Bool, List, [], ◌∷◌, ◌++◌, Option, Result, Ok, None, Some, refl, sym, ap, subst, ◌∙◌, append_assoc, append-nil}
use Rattle.std.specs.List.{flat_map}
use Rattle.std.proofs.lemmas.Grind.{flat_map-append}
use Rattle.std.proofs.lemmas.List.Concat.{flat_map-cons}
use Rattle.omf_format.specs.declared.value.Value.{Value}
use Rattle.omf_format.specs.declared.value.ValueFault.{ValueFault}
use Rattle.omf_format.specs.Expression.{IsExpression}
use Rattle.omf_format.specs.Header.{is_private}
use Rattle.omf_format.specs.Record.{Record, Label, Equate}
use Rattle.omf_format.specs.Reading.{Reader}
use Rattle.omf_format.specs.File.{Segment}
use Rattle.object_meaning.specs.Sizes.{size_at, place_after}
use Rattle.link_meaning.specs.Member.{Member}
use Rattle.link_meaning.specs.Layout.{load_headers}
use Rattle.object_meaning.specs.Defines.{Scope, Definition, scope_of, outer_scope, title_of, defined_by, defined_in}
use Rattle.link_meaning.specs.LinkValues.{place_value, value_in}
use Rattle.link_tables.specs.Coming.{Coming}
use Rattle.link_program.specs.Linked.{member_at}
use Rattle.link_values.specs.Circulars.{defined_so_far}
use Rattle.link_file.specs.Valued.{Valued}
use Rattle.link_values.proofs.CircularLaws.{so_far-more, so_far-all, title_empty}
use Rattle.link_values.proofs.LocatedLaws.{following-append}
use Rattle.link_map.specs.declared.symbols.Listed.{Listed}
use Rattle.link_map.specs.Listings.{value_line, definition_line}
use Rattle.link_map.specs.Standing.{HasRecord}
use Rattle.link_map.proofs.TextLaws.{same_some}

abbrev pub lines_of : Listed → Valued → ℕ → Member → List Definition → List ℕ
lines_of listed v place m ds = flat_map (definition_line listed v.list v.table place m) ds

lines_one : (listed : Listed) (v : Valued) (place : ℕ) (m : Member) (d : Definition) → lines_of listed v place m (d ∷ []) ≡ definition_line listed v.list v.table place m d
lines_one listed v place m d = flat_map-cons (definition_line listed v.list v.table place m) d [] ∙ append-nil (definition_line listed v.list v.table place m d)

-- the line of a name with this value
abbrev line_with : Listed → Valued → Scope → List ℕ → Result Value ValueFault → List ℕ
line_with listed v scope name answer = value_line listed (load_headers v.list) scope name answer

-- ---- the segment's name

-- the definition of a segment's name
abbrev named : Segment → List ℕ → Definition
named s name = record { name = name; scope = outer_scope (is_private s.fields.kind); place = 0; at = s.start; expr = None; size = 0; form = 0x4E }

title_full : (s : Segment) → (s.fields.name ≡ [] → ⊥) → title_of s ≡ named s s.fields.name ∷ []
unfolding title_of
title_full s some = by_name s.fields.name some
  where
    by_name : (name : List ℕ) → (name ≡ [] → ⊥) → (elim name as (λ n. List Definition) [
      | [] ↦ []
      | b ∷ bs ↦ record { name = b ∷ bs; scope = outer_scope (is_private s.fields.kind); place = 0; at = s.start; expr = None; size = 0; form = 0x4E } ∷ []
    ]) ≡ named s name ∷ []
    by_name [] some = absurd (some refl)
    by_name (b ∷ bs) some = refl

pub title_none : (listed : Listed) (v : Valued) (place : ℕ) (m : Member) (s : Segment) → s.fields.name ≡ [] → lines_of listed v place m (title_of s) ≡ []
title_none listed v place m s none = ap (lines_of listed v place m) (title_empty s none)

abbrev its : Value → Result Value ValueFault
its value = Ok value

pub title_line : (listed : Listed) (v : Valued) (place : ℕ) (m : Member) (s : Segment) (scope : Scope) (name : List ℕ) (value : Value) → scope ≡ outer_scope (is_private s.fields.kind) → name ≡ s.fields.name → (name ≡ [] → ⊥)
    → value ≡ place_value v.list place m 0 → line_with listed v scope name (Ok value) ≡ lines_of listed v place m (title_of s)
title_line listed v place m s scope name value scoped reported some valued =
    ap (λ (x : Scope). line_with listed v x name (its value)) scoped
    ∙ ap (λ (l : List ℕ). line_with listed v (outer_scope (is_private s.fields.kind)) l (its value)) reported
    ∙ ap (λ (x : Value). line_with listed v (outer_scope (is_private s.fields.kind)) s.fields.name (its x)) valued
    ∙ sym (ap (lines_of listed v place m) (title_full s (λ none. some (reported ∙ none))) ∙ lines_one listed v place m (named s s.fields.name))

-- ---- records

-- the definition of a label, and of an equate
abbrev defined : ℕ → ℕ → Bool → List ℕ → ℕ → ℕ → ℕ → Option (List ℕ) → Definition
defined at location global name size form private expr = record { name = name; scope = scope_of global private; place = location; at = at; expr = expr; size = size; form = form }

pub label_line : (listed : Listed) (v : Valued) (place : ℕ) (m : Member) (at location : ℕ) (r : Record) (global : Bool) (name : List ℕ) (size form private : ℕ) (scope : Scope) (value : Value) → r ≡ Label global name size form private
    → scope ≡ scope_of global private → value ≡ place_value v.list place m location → line_with listed v scope name (Ok value) ≡ lines_of listed v place m (defined_by at location r)
label_line listed v place m at location r global name size form private scope value is scoped valued =
    ap (λ (x : Scope). line_with listed v x name (its value)) scoped
    ∙ ap (λ (x : Value). line_with listed v (scope_of global private) name (its x)) valued
    ∙ sym (lines_one listed v place m (defined at location global name size form private None))
    ∙ ap (λ (x : Record). lines_of listed v place m (defined_by at location x)) (sym is)

pub equate_line : (listed : Listed) (v : Valued) (place : ℕ) (m : Member) (at location : ℕ) (r : Record) (global : Bool) (name : List ℕ) (size form private : ℕ) (expr : List ℕ) (scope : Scope) (answer : Result Value ValueFault) → r ≡ Equate global name size form private expr
    → scope ≡ scope_of global private → answer ≡ value_in v.list v.table place m location expr → line_with listed v scope name answer ≡ lines_of listed v place m (defined_by at location r)
equate_line listed v place m at location r global name size form private expr scope answer is scoped valued =
    ap (λ (x : Scope). line_with listed v x name answer) scoped
    ∙ ap (λ (x : Result Value ValueFault). line_with listed v (scope_of global private) name x) valued
    ∙ sym (lines_one listed v place m (defined at location global name size form private (Some expr)))
    ∙ ap (λ (x : Record). lines_of listed v place m (defined_by at location x)) (sym is)

-- the expression of an equate is one
pub equate_spelled : (list : List Member) (place location : ℕ) (m : Member) (global : Bool) (name : List ℕ) (size form private : ℕ) (expr : List ℕ) → HasRecord list place location (Equate global name size form private expr)
    → member_at list place ≡ Some m → IsExpression m.segment.fields.lab_len expr
equate_spelled list place location m global name size form private expr has there =
    let same = same_some has.here.member m (sym has.here.there ∙ there) in
    subst (λ (n : ℕ). IsExpression n expr) (has.spelled.1 ∙ ap (λ (o : Member). o.segment.fields.lab_len) same) has.spelled.2.2

-- ---- the walk over the records

-- the lines of what the name and the first records define follow a text, and the other records remain
pub record IsTelling (listed : Listed) (v : Valued) (place : ℕ) (s : Segment) (at : Reader) (location : ℕ) (before text : List ℕ) : Type 0 where
  pub done : List (ℕ × Record)
  pub back : List (ℕ × Record)
  pub parts : s.records ≡ done ++ back
  pub coming : Coming at back
  pub location' : location ≡ place_after 0 done
  pub is : (m : Member) → member_at v.list place ≡ Some m → text ≡ before ++ lines_of listed v place m (defined_so_far s done)

-- at first
pub telling_none : (listed : Listed) (v : Valued) (place : ℕ) (s : Segment) (at : Reader) (before text : List ℕ) → Coming at s.records
    → ((m : Member) → member_at v.list place ≡ Some m → text ≡ before ++ lines_of listed v place m (title_of s)) → IsTelling listed v place s at 0 before text
telling_none listed v place s at before text coming titled = record {
  done = [];
  back = s.records;
  parts = refl;
  coming = coming;
  location' = refl;
  is = λ m there. titled m there ∙ ap (λ (ds : List Definition). before ++ lines_of listed v place m ds) (sym (append-nil (title_of s)));
}

-- after one record more
pub telling_more : (listed : Listed) (v : Valued) (place : ℕ) (s : Segment) (at next : Reader) (location following : ℕ) (before text after : List ℕ) (found : ℕ × Record) (more : List (ℕ × Record)) (t : IsTelling listed v place s at location before text)
    → t.back ≡ found ∷ more → Coming next more → following ≡ location + size_at location found.1
    → ((m : Member) (at : ℕ) → member_at v.list place ≡ Some m → after ≡ text ++ lines_of listed v place m (defined_by at location found.1)) → IsTelling listed v place s next following before after
telling_more listed v place s at next location following before text after found more t back coming size lines = record {
  done = t.done ++ found ∷ [];
  back = more;
  parts = t.parts ∙ ap (λ (l : List (ℕ × Record)). t.done ++ l) back ∙ sym (append_assoc t.done (found ∷ []) more);
  coming = coming;
  location' = size ∙ ap (λ (n : ℕ). n + size_at n found.1) t.location' ∙ sym (following-append 0 t.done (found ∷ []));
  is = λ m there.
      let f = definition_line listed v.list v.table place m in
      let first = defined_so_far s t.done in
      let own = defined_by found.0 (place_after 0 t.done) found.1 in
      lines m found.0 there
      ∙ ap (λ (n : ℕ). text ++ flat_map f (defined_by found.0 n found.1)) t.location'
      ∙ ap (λ (l : List ℕ). l ++ flat_map f own) (t.is m there)
      ∙ append_assoc before (flat_map f first) (flat_map f own)
      ∙ ap (λ (l : List ℕ). before ++ l) (sym (flat_map-append f first own))
      ∙ ap (λ (ds : List Definition). before ++ flat_map f ds) (sym (so_far-more s t.done found));
}

-- after the last
pub telling_all : (listed : Listed) (v : Valued) (place : ℕ) (s : Segment) (at : Reader) (location : ℕ) (before text : List ℕ) (t : IsTelling listed v place s at location before text) → t.back ≡ []
    → (m : Member) → member_at v.list place ≡ Some m → text ≡ before ++ lines_of listed v place m (defined_in s)
telling_all listed v place s at location before text t none m there =
    let all = so_far-all s t.done [] (t.parts ∙ ap (λ (l : List (ℕ × Record)). t.done ++ l) none) in
    t.is m there ∙ ap (λ (ds : List Definition). before ++ lines_of listed v place m ds) (sym (all ∙ append-nil (defined_so_far s t.done)))
