-- Tables of definitions, and one more definition.
use Rattle.std.proofs.Common.{◌≡◌, ℕ, suc, ◌+◌, ◌≤◌, Bool, true, false, List, [], ◌∷◌, ◌++◌, length, map, Option, Some, None, refl, sym, ap, subst, ◌∙◌, append_assoc, arith}
use Rattle.std.specs.Prelude.{filter, slice_get, option_map, if◌then◌else◌}
use Rattle.std.specs.List.{flat_map, AllByRecursion}
use Rattle.std.proofs.lemmas.Bool.{ne_eqb}
use Rattle.std.proofs.lemmas.List.{map-append, length-map, append-nil}
use Rattle.std.proofs.lemmas.Option.{slice_get-map}
use Rattle.std.proofs.lemmas.Grind.{flat_map-append}
use Rattle.std.proofs.lemmas.List.Concat.{flat_map-cons}
use Rattle.std.proofs.lemmas.List.Elements.{filter-append}
use Rattle.std.specs.Str.{bytes_eq}
use Rattle.omf_format.specs.Record.{Record}
use Rattle.omf_format.specs.Reading.{Reader}
use Rattle.omf_format.specs.File.{Segment}
use Rattle.object_meaning.specs.Sizes.{Located, size_at, located_from, place_after}
use Rattle.link_meaning.specs.Member.{Member}
use Rattle.object_meaning.specs.Defines.{Definition, outer_scope, defined_by, title_of}
use Rattle.omf_format.specs.Header.{is_private}
use Rattle.link_meaning.specs.Search.{FoundDefinition, step_for, step_of, is_step, with_this_name}
use Rattle.link_meaning.specs.laws.Steps.{is_seen_by_step}
use Rattle.link_meaning.specs.declared.search.SearchStep.{SearchStep}
use Rattle.link_meaning.specs.declared.search.SearchStep.TheVariants.{Within, OfUnit, Everyone}
use Rattle.link_tables.specs.declared.names.Matches.{Matches}
use Rattle.link_tables.specs.declared.names.Matches.TheVariants.{One, Several}
use Rattle.link_tables.specs.declared.names.NameTable.{NameTable}
use Rattle.link_tables.specs.declared.definitions.Defined as kept
use Rattle.link_tables.specs.declared.definitions.Definitions.{Definitions}
use Rattle.link_tables.specs.declared.definitions.Origin.{Origin}
use Rattle.link_tables.specs.Names.{Named, Row, Indexes, is_row, seen_of, outcome}
use Rattle.link_tables.specs.Coming.{Coming, Walks}
use Rattle.link_tables.specs.Definitions.{DefinitionRow, definition_of, definition_view, key_of_found, is_found, numbered_rows, local_under, local_rows, AreDefinitions, Sees, IsElsewhere, IsOf, founds_in}
use Rattle.link_tables.proofs.Grown.{grows}

-- ---- look-ups

sees_more : (all : List FoundDefinition) (f : FoundDefinition) (n : ℕ) (row : Row) (ys : List FoundDefinition) (rs : List Row) → row.1 ≡ n → slice_get all n ≡ Some f → Sees all ys (seen_of rs) → Sees all (f ∷ ys) (seen_of (row ∷ rs))
sees_more all f n row [] [] is at s = (n, ap One is, at)
sees_more all f n row [] (r ∷ []) is at s = absurd cc
sees_more all f n row [] (r ∷ r' ∷ rs) is at s = absurd cc
sees_more all f n row (y ∷ []) [] is at s = let clash = s.1 in absurd cc
sees_more all f n row (y ∷ y' ∷ ys) [] is at s = let clash = s.1 in absurd cc
sees_more all f n row (y ∷ []) (r ∷ rs) is at s = (n, ap Several is, at)
sees_more all f n row (y ∷ y' ∷ ys) (r ∷ rs) is at s = (n, ap Several is, at)

seen_from : (all fs : List FoundDefinition) (n : ℕ) (key : Named) → ((k : ℕ) → slice_get all (n + k) ≡ slice_get fs k) → Sees all (filter (is_found key) fs) (outcome (numbered_rows n fs) key)
seen_from all [] n key at = refl
seen_from all (f ∷ fs) n key at = settle (is_found key f) (seen_from all fs (n + 1) key (λ k. let same : n + 1 + k ≡ n + suc k = omega arith in ap (slice_get all) same ∙ at (suc k)))
  where
    here : slice_get all n ≡ Some f
    here = let same : n ≡ n + 0 = omega arith in ap (slice_get all) same ∙ at 0

    settle : (b : Bool) → Sees all (filter (is_found key) fs) (outcome (numbered_rows (n + 1) fs) key)
        → Sees all (if b then f ∷ filter (is_found key) fs else filter (is_found key) fs) (seen_of (if b then (key_of_found f, n) ∷ filter (is_row key) (numbered_rows (n + 1) fs) else filter (is_row key) (numbered_rows (n + 1) fs)))
    settle true s = sees_more all f n (key_of_found f, n) (filter (is_found key) fs) (filter (is_row key) (numbered_rows (n + 1) fs)) refl here s
    settle false s = s

-- what a table of names answers for definitions in their order
pub seen_under : (fs : List FoundDefinition) (names : NameTable) (key : Named) (answer : Matches) → Indexes (numbered_rows 0 fs) names → ((rows : List Row) → Indexes rows names → answer ≡ outcome rows key)
    → Sees fs (filter (is_found key) fs) answer
seen_under fs names key answer are looks =
    subst (λ (o : Matches). Sees fs (filter (is_found key) fs) o) (sym (looks (numbered_rows 0 fs) are)) (seen_from fs fs 0 key (λ k. let same : 0 + k ≡ k = omega arith in ap (slice_get fs) same))

pub seen_all : (fs : List FoundDefinition) (table : Definitions) (key : Named) (answer : Matches) → AreDefinitions fs table → ((rows : List Row) → Indexes rows table.names → answer ≡ outcome rows key)
    → Sees fs (filter (is_found key) fs) answer
seen_all fs table key answer are looks = seen_under fs table.names key answer are.names looks

pub got : (fs : List FoundDefinition) (table : Definitions) (number : ℕ) (answer : Option kept.Defined) → AreDefinitions fs table → option_map definition_of answer ≡ slice_get table.items number
    → option_map definition_of answer ≡ option_map definition_view (slice_get fs number)
got fs table number answer are is = is ∙ ap (λ (l : List DefinitionRow). slice_get l number) are.items ∙ slice_get-map definition_view fs number

-- ---- what segments have for themselves

-- no row has this place
abbrev Apart : ℕ → List Row → Type 0
Apart place rows = AllByRecursion (λ row. row.1 ≡ place → ⊥) rows

apart_seen : (place : ℕ) (rows : List Row) → IsElsewhere place (seen_of rows) → Apart place rows
apart_seen place [] apart = tt
apart_seen place (r ∷ []) apart = (apart, tt)
apart_seen place (r ∷ r' ∷ rows) apart = absurd apart

apart_back : (place : ℕ) (xs ys : List Row) → Apart place (xs ++ ys) → Apart place ys
apart_back place [] ys apart = apart
apart_back place (x ∷ xs) ys apart = apart_back place xs ys apart.1

abbrev all_key : List ℕ → Named
all_key name = record { step = Everyone; name = name }

no_local_rows : (fs : List FoundDefinition) (name : List ℕ) (place : ℕ) → Apart place (filter (is_row (all_key name)) (local_rows fs)) → filter (is_seen_by_step (Within place)) (filter (λ f. bytes_eq name f.definition.name) fs) ≡ []
no_local_rows [] name place none = refl
no_local_rows (f ∷ fs) name place none = settle (step_of f) refl (bytes_eq name f.definition.name) refl both (no_local_rows fs name place (apart_back place (filter (is_row (all_key name)) (local_under (step_of f) f.definition.name)) others both))
  where
    here : List Row
    here = local_under (step_of f) f.definition.name

    others : List Row
    others = filter (is_row (all_key name)) (local_rows fs)

    rest : List FoundDefinition
    rest = filter (λ g. bytes_eq name g.definition.name) fs

    both : Apart place (filter (is_row (all_key name)) here ++ others)
    both = subst (Apart place) (ap (filter (is_row (all_key name))) (flat_map-cons (λ (g : FoundDefinition). local_under (step_of g) g.definition.name) f fs) ∙ filter-append (is_row (all_key name)) here (local_rows fs)) none

    unseen : (t : SearchStep) → step_of f ≡ t → is_step (Within place) t ≡ false → filter (is_seen_by_step (Within place)) rest ≡ [] → filter (is_seen_by_step (Within place)) (f ∷ rest) ≡ []
    unseen t is apart again = ap (λ (u : Bool). if u then f ∷ filter (is_seen_by_step (Within place)) rest else filter (is_seen_by_step (Within place)) rest) (ap (is_step (Within place)) is ∙ apart) ∙ again

    settle : (t : SearchStep) → step_of f ≡ t → (b : Bool) → bytes_eq name f.definition.name ≡ b → Apart place (filter (is_row (all_key name)) here ++ others) → filter (is_seen_by_step (Within place)) rest ≡ []
        → filter (is_seen_by_step (Within place)) (if bytes_eq name f.definition.name then f ∷ rest else rest) ≡ []
    settle t is false e none again = ap (λ (b : Bool). filter (is_seen_by_step (Within place)) (if b then f ∷ rest else rest)) e ∙ again
    settle (OfUnit file from) is true e none again = ap (λ (b : Bool). filter (is_seen_by_step (Within place)) (if b then f ∷ rest else rest)) e ∙ unseen (OfUnit file from) is refl again
    settle Everyone is true e none again = ap (λ (b : Bool). filter (is_seen_by_step (Within place)) (if b then f ∷ rest else rest)) e ∙ unseen Everyone is refl again
    settle (Within p) is true e none again =
        let row : filter (is_row (all_key name)) here ≡ (all_key f.definition.name, p) ∷ [] =
        ap (λ (u : SearchStep). filter (is_row (all_key name)) (local_under u f.definition.name)) is ∙ ap (λ (b : Bool). if b then (all_key f.definition.name, p) ∷ [] else []) e in
        let apart : Apart place ((all_key f.definition.name, p) ∷ others) = subst (λ (l : List Row). Apart place (l ++ others)) row none in
        ap (λ (b : Bool). filter (is_seen_by_step (Within place)) (if b then f ∷ rest else rest)) e ∙ unseen (Within p) is (ne_eqb place p (λ same. apart.0 (sym same))) again

-- a segment has none of a name for itself that none has, or another alone
pub seen_elsewhere : (fs : List FoundDefinition) (table : Definitions) (name : List ℕ) (o : Matches) (place : ℕ) → AreDefinitions fs table → ((rows : List Row) → Indexes rows table.locals → o ≡ outcome rows (all_key name)) → IsElsewhere place o
    → filter (is_seen_by_step (Within place)) (with_this_name name fs) ≡ []
unfolding with_this_name
seen_elsewhere fs table name o place are looks apart =
    no_local_rows fs name place (apart_seen place (filter (is_row (all_key name)) (local_rows fs)) (subst (IsElsewhere place) (looks (local_rows fs) are.locals) apart))

-- ---- one more

pub numbered-snoc : (n : ℕ) (fs : List FoundDefinition) (f : FoundDefinition) → numbered_rows n (fs ++ f ∷ []) ≡ numbered_rows n fs ++ (key_of_found f, n + length fs) ∷ []
numbered-snoc n [] f = let same : n ≡ n + 0 = omega arith in ap (λ (k : ℕ). (key_of_found f, k) ∷ []) same
numbered-snoc n (g ∷ fs) f =
    let same : n + 1 + length fs ≡ n + suc (length fs) = omega arith in
    ap (λ (l : List Row). (key_of_found g, n) ∷ l) (numbered-snoc (n + 1) fs f ∙ ap (λ (k : ℕ). numbered_rows (n + 1) fs ++ (key_of_found f, k) ∷ []) same)

locals-snoc : (fs : List FoundDefinition) (f : FoundDefinition) → local_rows fs ++ local_under (step_of f) f.definition.name ≡ local_rows (fs ++ f ∷ [])
locals-snoc [] f = sym (flat_map-cons (λ (g : FoundDefinition). local_under (step_of g) g.definition.name) f [] ∙ append-nil (local_under (step_of f) f.definition.name))
locals-snoc (g ∷ fs) f =
    let L : FoundDefinition → List Row = λ x. local_under (step_of x) x.definition.name in
    ap (λ (l : List Row). l ++ L f) (flat_map-cons L g fs) ∙ append_assoc (L g) (local_rows fs) (L f) ∙ ap (λ (l : List Row). L g ++ l) (locals-snoc fs f) ∙ sym (flat_map-cons L g (fs ++ f ∷ []))

pub pushed : (fs : List FoundDefinition) (f : FoundDefinition) (old new : Definitions) (key : Named) (number : ℕ) (d : kept.Defined) → AreDefinitions fs old → key ≡ key_of_found f → definition_of d ≡ definition_view f
    → number ≡ length old.items → ((rows : List Row) → Indexes rows old.names → Indexes (rows ++ (key, number) ∷ []) new.names) → new.items ≡ old.items ++ definition_of d ∷ []
    → ((rows : List Row) → Indexes rows old.locals → Indexes (rows ++ local_under key.step key.name) new.locals) → AreDefinitions (fs ++ f ∷ []) new
pushed fs f old new key number d are key_is reported_is number_is more items more_locals =
    let size : length old.items ≡ length fs = ap length are.items ∙ length-map fs definition_view in
    let front : length fs ≡ 0 + length fs = omega arith in
    let rows : numbered_rows 0 fs ++ (key, number) ∷ [] ≡ numbered_rows 0 (fs ++ f ∷ []) =
    ap (λ (k : Named). numbered_rows 0 fs ++ (k, number) ∷ []) key_is ∙ ap (λ (k : ℕ). numbered_rows 0 fs ++ (key_of_found f, k) ∷ []) (number_is ∙ size) ∙ ap (λ (k : ℕ). numbered_rows 0 fs ++ (key_of_found f, k) ∷ []) front ∙ sym (numbered-snoc 0 fs f) in
    let locals : local_rows fs ++ local_under key.step key.name ≡ local_rows (fs ++ f ∷ []) =
    ap (λ (k : Named). local_rows fs ++ local_under k.step k.name) key_is ∙ locals-snoc fs f in
    record {
      names = subst (λ (l : List Row). Indexes l new.names) rows (more (numbered_rows 0 fs) are.names);
      locals = subst (λ (l : List Row). Indexes l new.locals) locals (more_locals (local_rows fs) are.locals);
      items =
          items ∙ ap (λ (l : List DefinitionRow). l ++ definition_of d ∷ []) are.items
          ∙ ap (λ (t : DefinitionRow). map definition_view fs ++ t ∷ []) reported_is
          ∙ sym (map-append definition_view fs (f ∷ []));
    }

-- ---- a segment's

-- what a table gains: for all that it holds, it holds so much more
abbrev pub Gains : Definitions → Definitions → Origin → ℕ → List Definition → Type 0
Gains old new origin place ds = (fs : List FoundDefinition) (m : Member) → IsOf m origin → AreDefinitions fs old → AreDefinitions (fs ++ founds_in place m ds) new

pub gains_none : (table : Definitions) (origin : Origin) (place : ℕ) → Gains table table origin place []
gains_none table origin place fs m of are = subst (λ (l : List FoundDefinition). AreDefinitions l table) (sym (append-nil fs)) are

pub gains_both : (old middle new : Definitions) (origin : Origin) (place : ℕ) (xs ys : List Definition) → Gains old middle origin place xs → Gains middle new origin place ys → Gains old new origin place (xs ++ ys)
gains_both old middle new origin place xs ys p q fs m of are =
    let whole : (fs ++ founds_in place m xs) ++ founds_in place m ys ≡ fs ++ founds_in place m (xs ++ ys) =
    append_assoc fs (founds_in place m xs) (founds_in place m ys) ∙ ap (λ (l : List FoundDefinition). fs ++ l) (sym (map-append (λ (d : Definition). record { place = place; member = m; definition = d }) xs ys)) in
    subst (λ (l : List FoundDefinition). AreDefinitions l new) whole (q (fs ++ founds_in place m xs) m of (p fs m of are))

abbrev pub defined_at : Located → List Definition
defined_at r = defined_by r.at r.location r.content

-- the records so far were added, and the others remain
pub record Defining (all : List (ℕ × Record)) (at : Reader) (location : ℕ) (old new : Definitions) (origin : Origin) (place : ℕ) : Type 0 where
  pub back : List (ℕ × Record)
  pub coming : Coming at back
  pub whole : place_after 0 all ≡ place_after location back
  pub done : List Located
  pub parts : located_from 0 all ≡ done ++ located_from location back
  pub gains : Gains old new origin place (flat_map defined_at done)

pub defining_all : (all : List (ℕ × Record)) (at : Reader) (table : Definitions) (origin : Origin) (place : ℕ) → Coming at all → Defining all at 0 table table origin place
defining_all all at table origin place coming = record { back = all; coming = coming; whole = refl; done = []; parts = refl; gains = gains_none table origin place }

pub defining_end : (all : List (ℕ × Record)) (at : Reader) (location : ℕ) (old new : Definitions) (origin : Origin) (place : ℕ) (d : Defining all at location old new origin place) → d.back ≡ []
    → Gains old new origin place (flat_map defined_at (located_from 0 all))
defining_end all at location old new origin place d end =
    let whole : d.done ≡ located_from 0 all = sym (d.parts ∙ ap (λ (l : List (ℕ × Record)). d.done ++ located_from location l) end ∙ append-nil d.done) in
    subst (λ (l : List Located). Gains old new origin place (flat_map defined_at l)) whole d.gains

-- no record makes the location pass the body's size
pub defining_within : (all : List (ℕ × Record)) (at after : Reader) (location : ℕ) (old new : Definitions) (origin : Origin) (place : ℕ) (found : ℕ × Record) (d : Defining all at location old new origin place)
    → Walks after d.back (Some found) → location + size_at location found.1 ≤ place_after 0 all
defining_within all at after location old new origin place found d w =
    let less = grows (location + size_at location found.1) w.0 in
    let whole : place_after 0 all ≡ place_after (location + size_at location found.1) w.0 = d.whole ∙ ap (place_after location) w.1 in
    omega (arith, less, whole)

pub defining_more : (all : List (ℕ × Record)) (at after : Reader) (location next : ℕ) (old new newer : Definitions) (origin : Origin) (place : ℕ) (found : ℕ × Record) (d : Defining all at location old new origin place)
    → Walks after d.back (Some found) → Gains new newer origin place (defined_by found.0 location found.1) → next ≡ location + size_at location found.1 → Defining all after next old newer origin place
defining_more all at after location next old new newer origin place found d w gains is =
    let r : Located = record { at = found.0; location = location; content = found.1 } in
    let both = gains_both old new newer origin place (flat_map defined_at d.done) (defined_by found.0 location found.1) d.gains gains in
    let one : flat_map defined_at d.done ++ defined_by found.0 location found.1 ≡ flat_map defined_at (d.done ++ r ∷ []) =
    ap (λ (l : List Definition). flat_map defined_at d.done ++ l) (sym (append-nil (defined_at r))) ∙ sym (flat_map-append defined_at d.done (r ∷ [])) in
    record {
      back = w.0;
      coming = w.2;
      whole = d.whole ∙ ap (place_after location) w.1 ∙ ap (λ (n : ℕ). place_after n w.0) (sym is);
      done = d.done ++ r ∷ [];
      parts =
          d.parts ∙ ap (λ (l : List (ℕ × Record)). d.done ++ located_from location l) w.1
          ∙ ap (λ (n : ℕ). d.done ++ (r ∷ located_from n w.0)) (sym is)
          ∙ sym (append_assoc d.done (r ∷ []) (located_from next w.0));
      gains = subst (λ (l : List Definition). Gains old newer origin place l) one both;
    }

pub titled_none : (table : Definitions) (origin : Origin) (place : ℕ) (s : Segment) (name : List ℕ) → name ≡ s.fields.name → name ≡ [] → Gains table table origin place (title_of s)
unfolding title_of
titled_none table origin place s name is none = by_name s.fields.name (sym is ∙ none)
  where
    by_name : (n : List ℕ) → n ≡ [] → Gains table table origin place (elim n as (λ n. List Definition) [
      | [] ↦ []
      | b ∷ bs ↦ record { name = b ∷ bs; scope = outer_scope (is_private s.fields.kind); place = 0; at = s.start; expr = None; size = 0; form = 0x4E } ∷ []
    ])
    by_name [] e = gains_none table origin place
    by_name (b ∷ bs) e = absurd cc

abbrev key_as : SearchStep → List ℕ → Named
key_as t n = record { step = t; name = n }

-- what a push of one definition gains
abbrev pub Pushes : Definitions → Definitions → Named → DefinitionRow → Type 0
Pushes old new key reported = (fs : List FoundDefinition) (f : FoundDefinition) → AreDefinitions fs old → key ≡ key_of_found f → reported ≡ definition_view f → AreDefinitions (fs ++ f ∷ []) new

pub titled : (old new : Definitions) (origin : Origin) (place : ℕ) (s : Segment) (name : List ℕ) (private : Bool) (step : SearchStep) → name ≡ s.fields.name → (name ≡ [] → ⊥) → private ≡ is_private s.fields.kind
    → ((p : ℕ) → step ≡ step_for p origin.file origin.from (outer_scope private))
    → Pushes old new (record { step = step; name = name }) (record { member = place; at = 0; expr = None; length = 0; form = 0x4E }) → Gains old new origin place (title_of s)
unfolding title_of
titled old new origin place s name private step is some hidden step_is pushes = by_name s.fields.name (sym is) (λ e. some (is ∙ e))
  where
    by_name : (n : List ℕ) → n ≡ name → (n ≡ [] → ⊥) → Gains old new origin place (elim n as (λ n. List Definition) [
      | [] ↦ []
      | b ∷ bs ↦ record { name = b ∷ bs; scope = outer_scope (is_private s.fields.kind); place = 0; at = s.start; expr = None; size = 0; form = 0x4E } ∷ []
    ])
    by_name [] e more = absurd (more refl)
    by_name (b ∷ bs) e more = λ fs m of are.
        let f : FoundDefinition = record { place = place; member = m; definition = record { name = b ∷ bs; scope = outer_scope (is_private s.fields.kind); place = 0; at = s.start; expr = None; size = 0; form = 0x4E } } in
        let key : key_as step name ≡ key_of_found f =
        ap (λ (n : List ℕ). key_as step n) (sym e)
        ∙ ap (λ (t : SearchStep). key_as t (b ∷ bs)) (step_is place
        ∙ ap (λ (h : Bool). step_for place origin.file origin.from (outer_scope h)) hidden
        ∙ ap (λ (n : ℕ). step_for place n origin.from (outer_scope (is_private s.fields.kind))) (sym of.0)
        ∙ ap (λ (n : ℕ). step_for place m.file n (outer_scope (is_private s.fields.kind))) (sym of.2)) in
        pushes fs f are key refl
