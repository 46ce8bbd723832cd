-- One more member of the linked list.
use Rattle.std.proofs.Common.{◌≡◌, ℕ, zero, suc, ◌+◌, ◌-◌, ◌≤◌, ◌<◌, Bool, true, false, Option, None, List, [], ◌∷◌, ◌++◌, length, map, drop, Some, refl, sym, ap, subst, ◌∙◌, append_assoc, append-nil, arith}
use Rattle.std.specs.Prelude.{slice_get, option_map, nat_eq, ◌&&◌, ◌||◌, if◌then◌else◌}
use Rattle.std.specs.List.{flat_map}
use Rattle.std.specs.Borrow.{Bor}
use Rattle.std.specs.Map.{lookup}
use Rattle.std.proofs.Math.Seq.{drop-append_seam}
use Rattle.std.proofs.lemmas.List.{map-append, length-map}
use Rattle.std.proofs.lemmas.Bool.{eqb-true, eq-eqb}
use Rattle.std.proofs.lemmas.Option.{slice_get-map, slice_get_within, slice_get_past}
use Rattle.std.proofs.lemmas.List.Concat.{flat_map-cons}
use Rattle.omf_format.specs.File.{Segment}
use Rattle.link_meaning.specs.Member.{Member}
use Rattle.object_meaning.specs.Defines.{Definition, defined_in, data_title_of}
use Rattle.link_meaning.specs.Uses.{Use, uses_of, usings_of}
use Rattle.link_meaning.specs.laws.Steps.{data_name}
use Rattle.link_meaning.specs.Search.{FoundDefinition, entries_from, entries, data_titles}
use Rattle.link_meaning.specs.LinkedList.{PlacedUse, asked_from, all_uses}
use Rattle.link_tables.specs.declared.definitions.Origin.{Origin}
use Rattle.link_program.specs.declared.linked.Linked.{Linked}
use Rattle.link_tables.specs.Names.{Indexes}
use Rattle.link_tables.specs.Definitions.{AreDefinitions, IsOf, founds_in}
use Rattle.link_tables.specs.Uses.{use_view, at_place, HaveShortNames}
use Rattle.link_program.specs.Linked.{title_of_data, title_in, name_at, names_of, usings_at, is_among, has_using, usings_in, origin_of, place_rows, Holds, GainsTitle, OriginOf, member_at}

-- ---- lists

pub entries_from-snoc : (defines : Segment → List Definition) (place : ℕ) (list : List Member) (m : Member) → entries_from defines place (list ++ m ∷ []) ≡ entries_from defines place list ++ founds_in (place + length list) m (defines m.segment)
entries_from-snoc defines place [] m =
    let same : place ≡ place + 0 = omega arith in
    append-nil (founds_in place m (defines m.segment)) ∙ ap (λ (p : ℕ). founds_in p m (defines m.segment)) same
entries_from-snoc defines place (x ∷ list) m =
    let same : place + 1 + length list ≡ place + suc (length list) = omega arith in
    ap (λ (l : List FoundDefinition). founds_in place x (defines x.segment) ++ l) (entries_from-snoc defines (place + 1) list m ∙ ap (λ (p : ℕ). entries_from defines (place + 1) list ++ founds_in p m (defines m.segment)) same)
    ∙ sym (append_assoc (founds_in place x (defines x.segment)) (entries_from defines (place + 1) list) (founds_in (place + suc (length list)) m (defines m.segment)))

abbrev pub uses_at : ℕ → Member → List Use → List PlacedUse
uses_at place m uses = map (λ u. record { place = place; member = m; use' = u }) uses

pub asked_from-snoc : (place : ℕ) (list : List Member) (m : Member) → asked_from place (list ++ m ∷ []) ≡ asked_from place list ++ uses_at (place + length list) m (uses_of m.segment)
asked_from-snoc place [] m =
    let same : place ≡ place + 0 = omega arith in
    append-nil (uses_at place m (uses_of m.segment)) ∙ ap (λ (p : ℕ). uses_at p m (uses_of m.segment)) same
asked_from-snoc place (x ∷ list) m =
    let same : place + 1 + length list ≡ place + suc (length list) = omega arith in
    ap (λ (l : List PlacedUse). uses_at place x (uses_of x.segment) ++ l) (asked_from-snoc (place + 1) list m ∙ ap (λ (p : ℕ). asked_from (place + 1) list ++ uses_at p m (uses_of m.segment)) same)
    ∙ sym (append_assoc (uses_at place x (uses_of x.segment)) (asked_from (place + 1) list) (uses_at (place + suc (length list)) m (uses_of m.segment)))

reported-uses_at : (place : ℕ) (m : Member) (uses : List Use) → map use_view (uses_at place m uses) ≡ at_place place uses
reported-uses_at place m [] = refl
reported-uses_at place m (u ∷ uses) = ap (λ (l : List (ℕ × Use)). (place, u) ∷ l) (reported-uses_at place m uses)

-- ---- names of USING

names_at_place : (place : ℕ) (us : List Use) → flat_map (λ p. data_name p.1) (at_place place us) ≡ flat_map data_name us
names_at_place place [] = refl
names_at_place place (u ∷ us) =
    flat_map-cons (λ (p : ℕ × Use). data_name p.1) (place, u) (at_place place us)
    ∙ ap (λ (l : List (List ℕ)). data_name u ++ l) (names_at_place place us)
    ∙ sym (flat_map-cons data_name u us)

pub usings_are : (place : ℕ) (s : Segment) (old new : List (ℕ × Use)) (names : List (Bor (List ℕ))) → new ≡ old ++ at_place place (uses_of s)
    → names_of names ≡ flat_map (λ u. data_name u.1) (drop (length old) new) → names_of names ≡ usings_of s
unfolding usings_of
usings_are place s old new names more is =
    is
    ∙ ap (λ (l : List (ℕ × Use)). flat_map (λ p. data_name p.1) (drop (length old) l)) more
    ∙ ap (λ (l : List (ℕ × Use)). flat_map (λ p. data_name p.1) l) (drop-append_seam old (at_place place (uses_of s)))
    ∙ names_at_place place (uses_of s)

-- ---- the whole

pub count_is : (list : List Member) (kept : Linked) → Holds list kept → length kept.members.items ≡ length list
count_is list kept holds = ap length holds.members ∙ length-map list origin_of

abbrev from_there : ℕ → ℕ → ℕ → Origin
from_there file number from = record { file = file; segment = number; from = from }

end_place : (list : List Member) (m : Member) → slice_get (list ++ m ∷ []) (length list) ≡ Some m
end_place [] m = refl
end_place (x ∷ list) m = end_place list m

other_place : (list : List Member) (m : Member) (k : ℕ) → (k ≡ length list → ⊥) → slice_get (list ++ m ∷ []) k ≡ slice_get list k
other_place [] m zero other = absurd (other refl)
other_place [] m (suc k) other = refl
other_place (x ∷ list) m zero other = refl
other_place (x ∷ list) m (suc k) other = other_place list m k (λ e. other (ap suc e))

at_end : (list : List Member) (m : Member) (place other : ℕ) → place ≡ 1 + length list → nat_eq place other ≡ true → (member_at list other ≡ None) × (member_at (list ++ m ∷ []) other ≡ Some m)
at_end list m place other at e =
    let there : other ≡ suc (length list) = sym (eqb-true place other e) ∙ omega (arith, at) in
    (ap (member_at list) there ∙ slice_get_past list (length list) (omega arith), ap (member_at (list ++ m ∷ [])) there ∙ end_place list m)

before_end : (list : List Member) (m : Member) (place other : ℕ) → place ≡ 1 + length list → nat_eq place other ≡ false → member_at list other ≡ member_at (list ++ m ∷ []) other
before_end list m place zero at e = refl
before_end list m place (suc k) at e = sym (other_place list m k (λ same. let clash : true ≡ false = sym (eq-eqb place (suc k) (omega (arith, same, at))) ∙ e in cc))

usings_more : (list : List Member) (m : Member) (old new : Linked) (names : List (List ℕ)) (place : ℕ) → Holds list old → place ≡ 1 + length list → names ≡ usings_of m.segment
    → (usings_at old.usings place ≡ [] → (other : ℕ) → usings_at new.usings other ≡ (if nat_eq place other then names else usings_at old.usings other))
    → (other : ℕ) → usings_at new.usings other ≡ usings_in (member_at (list ++ m ∷ []) other)
usings_more list m old new names place holds at are more other = more none other ∙ settle (nat_eq place other) refl
  where
    none : usings_at old.usings place ≡ []
    none = holds.usings place ∙ ap usings_in (at_end list m place place at (eq-eqb place place refl)).0

    settle : (b : Bool) → nat_eq place other ≡ b → (if b then names else usings_at old.usings other) ≡ usings_in (member_at (list ++ m ∷ []) other)
    settle true e = are ∙ sym (ap usings_in (at_end list m place other at e).1)
    settle false e = holds.usings other ∙ ap usings_in (before_end list m place other at e)

-- the names of data segments, with one member more
names_more : (list : List Member) (m : Member) (old new : Linked) (title : Option (List ℕ)) (place : ℕ) → Holds list old → place ≡ 1 + length list → title ≡ title_of_data m.segment
    → (name_at old.names place ≡ None → (other : ℕ) → name_at new.names other ≡ (if nat_eq place other then title else name_at old.names other))
    → (other : ℕ) → name_at new.names other ≡ title_in (member_at (list ++ m ∷ []) other)
names_more list m old new title place holds at is more other = more none other ∙ settle (nat_eq place other) refl
  where
    none : name_at old.names place ≡ None
    none = holds.names place ∙ ap title_in (at_end list m place place at (eq-eqb place place refl)).0

    settle : (b : Bool) → nat_eq place other ≡ b → (if b then title else name_at old.names other) ≡ title_in (member_at (list ++ m ∷ []) other)
    settle true e = is ∙ sym (ap title_in (at_end list m place other at e).1)
    settle false e = holds.names other ∙ ap title_in (before_end list m place other at e)

-- and of the names of USING one by one
each_more : (list : List Member) (m : Member) (old new : Linked) (names : List (List ℕ)) (place : ℕ) → Holds list old → place ≡ 1 + length list → names ≡ usings_of m.segment
    → ((other : ℕ) (name : List ℕ) → has_using new.usings other name ≡ ((nat_eq place other && is_among name names) || has_using old.usings other name))
    → (other : ℕ) (name : List ℕ) → has_using new.usings other name ≡ is_among name (usings_in (member_at (list ++ m ∷ []) other))
each_more list m old new names place holds at are more other name = more other name ∙ settle (nat_eq place other) refl
  where
    or_none : (b : Bool) → (b || false) ≡ b
    or_none true = refl
    or_none false = refl

    settle : (b : Bool) → nat_eq place other ≡ b → ((b && is_among name names) || has_using old.usings other name) ≡ is_among name (usings_in (member_at (list ++ m ∷ []) other))
    settle true e =
        let end = at_end list m place other at e in
        ap (λ (b : Bool). is_among name names || b) (holds.each other name ∙ ap (λ (o : Option Member). is_among name (usings_in o)) end.0)
        ∙ or_none (is_among name names) ∙ ap (is_among name) are ∙ sym (ap (λ (o : Option Member). is_among name (usings_in o)) end.1)
    settle false e = holds.each other name ∙ ap (λ (o : Option Member). is_among name (usings_in o)) (before_end list m place other at e)

pub held_more : (list : List Member) (m : Member) (old new : Linked) (s : Segment) (origin : Origin) (names : List (List ℕ)) (place : ℕ)
    → IsOf m origin → m.segment ≡ s → Holds list old → place ≡ length old.members.items + 1 → new.members.items ≡ old.members.items ++ origin ∷ []
    → (name_at old.names place ≡ None → (other : ℕ) → name_at new.names other ≡ (if nat_eq place other then title_of_data s else name_at old.names other))
    → ((fs : List FoundDefinition) (n : Member) → IsOf n origin → AreDefinitions fs old.definitions → AreDefinitions (fs ++ founds_in place n (defined_in s)) new.definitions)
    → GainsTitle old.titles new.titles origin place (data_title_of s)
    → new.uses ≡ old.uses ++ at_place place (uses_of s) → (HaveShortNames old.uses → HaveShortNames new.uses) → names ≡ usings_of s
    → (usings_at old.usings place ≡ [] → (other : ℕ) → usings_at new.usings other ≡ (if nat_eq place other then names else usings_at old.usings other))
    → ((other : ℕ) (n : List ℕ) → has_using new.usings other n ≡ ((nat_eq place other && is_among n names) || has_using old.usings other n)) → Holds (list ++ m ∷ []) new
unfolding entries data_titles all_uses
held_more list m old new s origin names place of same holds place_is members titled defines titles uses short are usings each =
    let at : place ≡ 1 + length list = omega (arith, place_is, count_is list old holds) in
    let same_origin : origin ≡ origin_of m =
    ap (λ (n : ℕ). from_there n origin.segment origin.from) (sym of.0) ∙ ap (λ (n : ℕ). from_there m.file n origin.from) (sym of.1) ∙ ap (λ (n : ℕ). from_there m.file m.number n) (sym of.2) in
    let founds : founds_in place m (defined_in s) ≡ founds_in (1 + length list) m (defined_in m.segment) =
    ap (λ (p : ℕ). founds_in p m (defined_in s)) at ∙ ap (λ (x : Segment). founds_in (1 + length list) m (defined_in x)) (sym same) in
    let named : founds_in place m (data_title_of s) ≡ founds_in (1 + length list) m (data_title_of m.segment) =
    ap (λ (p : ℕ). founds_in p m (data_title_of s)) at ∙ ap (λ (x : Segment). founds_in (1 + length list) m (data_title_of x)) (sym same) in
    let all_entries : entries_from defined_in 1 list ++ founds_in place m (defined_in s) ≡ entries_from defined_in 1 (list ++ m ∷ []) =
    ap (λ (l : List FoundDefinition). entries_from defined_in 1 list ++ l) founds ∙ sym (entries_from-snoc defined_in 1 list m) in
    let all_titles : entries_from data_title_of 1 list ++ founds_in place m (data_title_of s) ≡ entries_from data_title_of 1 (list ++ m ∷ []) =
    ap (λ (l : List FoundDefinition). entries_from data_title_of 1 list ++ l) named ∙ sym (entries_from-snoc data_title_of 1 list m) in
    record {
      members =
          members ∙ ap (λ (l : List Origin). l ++ origin ∷ []) holds.members ∙ ap (λ (o : Origin). map origin_of list ++ o ∷ []) same_origin ∙ sym (map-append origin_of list (m ∷ []));
      names = names_more list m old new (title_of_data s) place holds at (ap title_of_data (sym same)) titled;
      usings = usings_more list m old new names place holds at (are ∙ ap usings_of (sym same)) usings;
      each = each_more list m old new names place holds at (are ∙ ap usings_of (sym same)) each;
      definitions = subst (λ (l : List FoundDefinition). AreDefinitions l new.definitions) all_entries (defines (entries_from defined_in 1 list) m of holds.definitions);
      titles = subst (λ (l : List FoundDefinition). Indexes (place_rows l) new.titles) all_titles (titles (entries_from data_title_of 1 list) m of holds.titles);
      uses =
          uses ∙ ap (λ (l : List (ℕ × Use)). l ++ at_place place (uses_of s)) holds.uses
          ∙ ap (λ (p : ℕ). map use_view (asked_from 1 list) ++ at_place p (uses_of s)) at
          ∙ ap (λ (x : Segment). map use_view (asked_from 1 list) ++ at_place (1 + length list) (uses_of x)) (sym same)
          ∙ ap (λ (l : List (ℕ × Use)). map use_view (asked_from 1 list) ++ l) (sym (reported-uses_at (1 + length list) m (uses_of m.segment)))
          ∙ sym (map-append use_view (asked_from 1 list) (uses_at (1 + length list) m (uses_of m.segment)))
          ∙ ap (map use_view) (sym (asked_from-snoc 1 list m));
      short = short holds.short;
    }

pub held_none : (new : Linked) → new.members.items ≡ [] → new.names.entries ≡ [] → ((place : ℕ) → usings_at new.usings place ≡ []) → ((place : ℕ) (name : List ℕ) → has_using new.usings place name ≡ false) → AreDefinitions [] new.definitions → Indexes [] new.titles → new.uses ≡ [] → Holds [] new
unfolding entries data_titles all_uses
held_none new members names usings each definitions titles uses = record { members = members; names = λ place. ap (λ (es : List (ℕ × Bor (List ℕ))). option_map (λ (n : Bor (List ℕ)). n.now) (lookup (nat_eq place) es)) names ∙ untitled place; usings = λ place. usings place ∙ none place; each = λ place name. each place name ∙ ap (is_among name) (none place); definitions = definitions; titles = titles; uses = uses; short = subst HaveShortNames (sym uses) tt }
  where
    none : (place : ℕ) → [] ≡ usings_in (member_at [] place)
    none zero = refl
    none (suc k) = refl

    untitled : (place : ℕ) → None ≡ title_in (member_at [] place)
    untitled zero = refl
    untitled (suc k) = refl

some_same : (a b : Origin) → Some a ≡ Some b → a ≡ b
some_same a b e = cc

-- what is kept of the member at a place
pub member_is : (list : List Member) (kept : Linked) (k : ℕ) (m : Member) (x : Origin) → Holds list kept → slice_get list k ≡ Some m → slice_get kept.members.items k ≡ Some x → IsOf m x
member_is list kept k m x holds at there =
    let is : x ≡ origin_of m = some_same x (origin_of m) (sym there ∙ ap (λ (l : List Origin). slice_get l k) holds.members ∙ slice_get-map origin_of list k ∙ ap (option_map origin_of) at) in
    (sym (ap (λ (o : Origin). o.file) is), sym (ap (λ (o : Origin). o.segment) is), sym (ap (λ (o : Origin). o.from) is))

-- ---- the origin of a member

place_as : (place : ℕ) → 0 < place → (k : ℕ) × (place ≡ suc k)
place_as zero some = absurd (omega arith)
place_as (suc k) some = (k, refl)

pub usings_is : (list : List Member) (kept : Linked) (place : ℕ) (m : Member) → Holds list kept → 0 < place → slice_get list (place - 1) ≡ Some m → usings_at kept.usings place ≡ usings_of m.segment
usings_is list kept place m holds some at =
    let p = place_as place some in
    let less : p.0 ≡ place - 1 = omega (arith, p.1) in
    holds.usings place ∙ ap (λ (n : ℕ). usings_in (member_at list n)) p.1 ∙ ap usings_in (ap (slice_get list) less ∙ at)

pub each_is : (list : List Member) (kept : Linked) (place : ℕ) (m : Member) (name : List ℕ) → Holds list kept → 0 < place → slice_get list (place - 1) ≡ Some m → has_using kept.usings place name ≡ is_among name (usings_of m.segment)
each_is list kept place m name holds some at =
    let p = place_as place some in
    let less : p.0 ≡ place - 1 = omega (arith, p.1) in
    holds.each place name ∙ ap (λ (n : ℕ). is_among name (usings_in (member_at list n))) p.1 ∙ ap (λ (o : Option Member). is_among name (usings_in o)) (ap (slice_get list) less ∙ at)

pub origin_some : (list : List Member) (kept : Linked) (place : ℕ) (x : Origin) → Holds list kept → 0 < place → slice_get kept.members.items (place - 1) ≡ Some x → OriginOf (member_at list place) (Some x)
origin_some list kept place x holds some there =
    let p = place_as place some in
    let less : place - 1 ≡ p.0 = omega (arith, p.1) in
    let at : slice_get kept.members.items p.0 ≡ Some x = ap (slice_get kept.members.items) (sym less) ∙ there in
    subst (λ (n : ℕ). OriginOf (member_at list n) (Some x)) (sym p.1) (settle (slice_get list p.0) p.0 refl at)
  where
    settle : (o : Option Member) → (k : ℕ) → slice_get list k ≡ o → slice_get kept.members.items k ≡ Some x → OriginOf o (Some x)
    settle None k e at =
        let clash : None ≡ Some x =
        sym (ap (option_map origin_of) e) ∙ sym (slice_get-map origin_of list k) ∙ sym (ap (λ (l : List Origin). slice_get l k) holds.members) ∙ at in
        cc
    settle (Some m) k e at = member_is list kept k m x holds e at

pub origin_none : (list : List Member) (kept : Linked) (place : ℕ) → Holds list kept → 0 < place → length kept.members.items ≤ place - 1 → OriginOf (member_at list place) None
origin_none list kept place holds some past =
    let p = place_as place some in
    subst (λ (n : ℕ). OriginOf (member_at list n) None) (sym p.1) (settle (slice_get list p.0) refl)
  where
    settle : (o : Option Member) → slice_get list (place_as place some).0 ≡ o → OriginOf o None
    settle None e = tt
    settle (Some m) e =
        let p = place_as place some in
        let within = slice_get_within list p.0 m e in
        absurd (omega (arith, within, past, p.1, count_is list kept holds))
