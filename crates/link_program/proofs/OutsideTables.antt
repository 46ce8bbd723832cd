-- Tables of the names that run-time library files export, and numbers of all that a name can find.
use Rattle.std.proofs.Common.{◌≡◌, ◌⊎◌, inl, inr, ℕ, zero, suc, ◌+◌, ◌<◌, Bool, List, [], ◌∷◌, ◌++◌, length, map, take, Option, Some, None, refl, sym, ap, subst, ◌∙◌, append_assoc, append-nil, arith}
use Rattle.std.specs.Prelude.{filter, ◌&&◌, if◌then◌else◌, slice_get, option_map, IsSomeAnd}
use Rattle.std.specs.List.{AllByRecursion, filter_map, cons_option}
use Rattle.std.specs.Str.{bytes_eq}
use Rattle.std.proofs.lemmas.List.{map-append, length-map}
use Rattle.std.proofs.lemmas.List.Elements.{filter_map-append}
use Rattle.std.proofs.lemmas.Option.{slice_get-map, slice_get_within, slice_get_past}
use Rattle.link_meaning.specs.declared.search.SearchStep.TheVariants.{Everyone}
use Rattle.omf_format.specs.File.{Segment, segment_at}
use Rattle.load_meaning.specs.Exports.{Export, exports_of}
use Rattle.link_meaning.specs.Member.{RuntimeFile, Member, without_runtimes, setting_in}
use Rattle.object_meaning.specs.Defines.{Scope, ForAll}
use Rattle.link_meaning.specs.Search.{FoundDefinition, step_for, is_step, with_this_name, or_else, entries, outside_of, outside, finds}
use Rattle.link_meaning.specs.laws.Steps.{finds_inside}
use Rattle.link_tables.specs.declared.names.Matches.{Matches}
use Rattle.link_tables.specs.declared.names.Matches.TheVariants.{Nothing, One, Several}
use Rattle.link_program.specs.declared.outside.Far.{Far}
use Rattle.link_program.specs.declared.outside.OutsideNames.{OutsideNames}
use Rattle.link_tables.specs.Names.{Named, Row, Indexes, outcome}
use Rattle.link_tables.specs.Definitions.{key_of_found, is_found, numbered_rows, Sees}
use Rattle.link_program.specs.Outside.{all_found, far_of, IsFar, AreOutside, IsBelow, with_number_after}
use Rattle.link_tables.proofs.DefinitionLaws.{seen_under, numbered-snoc}
use Rattle.link_tables.proofs.Lists.{take_more}

abbrev all_key : List ℕ → Named
all_key name = record { step = Everyone; name = name }

-- ---- look-ups

-- all see what is far
seen_by_all : (name : List ℕ) (f : FoundDefinition) → IsFar f → is_found (all_key name) f ≡ bytes_eq name f.definition.name
seen_by_all name f far = ap (λ (s : Scope). is_step Everyone (step_for f.place f.member.file f.member.from s) && bytes_eq name f.definition.name) far.scope

named_far : (name : List ℕ) (fs : List FoundDefinition) → AllByRecursion IsFar fs → filter (is_found (all_key name)) fs ≡ with_this_name name fs
unfolding with_this_name
named_far name [] far = refl
named_far name (f ∷ fs) far =
    ap (λ (b : Bool). if b then f ∷ filter (is_found (all_key name)) fs else filter (is_found (all_key name)) fs) (seen_by_all name f far.0)
    ∙ ap (λ (l : List FoundDefinition). if bytes_eq name f.definition.name then f ∷ l else l) (named_far name fs far.1)

pub looked : (fs : List FoundDefinition) (table : OutsideNames) (name : List ℕ) (answer : Matches) → AreOutside fs table → ((rows : List Row) → Indexes rows table.names → answer ≡ outcome rows (all_key name)) → Sees fs (with_this_name name fs) answer
looked fs table name answer are looks =
    subst (λ (l : List FoundDefinition). Sees fs l answer) (named_far name fs are.far) (seen_under fs table.names (all_key name) answer are.names looks)

-- the number is one of the table's
pub below : (n : ℕ) (fs found : List FoundDefinition) (answer : Matches) → length fs < n → Sees fs found answer → IsBelow n answer
below n fs [] answer few seen = subst (IsBelow n) (sym seen) tt
below n fs (f ∷ []) answer few seen = subst (IsBelow n) (sym seen.1) (let within = slice_get_within fs seen.0 f seen.2 in omega (arith, within, few))
below n fs (f ∷ g ∷ more) answer few seen = subst (IsBelow n) (sym seen.1) (let within = slice_get_within fs seen.0 f seen.2 in omega (arith, within, few))

pub size_is : (fs : List FoundDefinition) (table : OutsideNames) → AreOutside fs table → length table.places.items ≡ length fs
size_is fs table are = ap length are.places ∙ length-map fs far_of

pub place_at : (fs : List FoundDefinition) (table : OutsideNames) (number : ℕ) → AreOutside fs table → slice_get table.places.items number ≡ option_map far_of (slice_get fs number)
place_at fs table number are = ap (λ (l : List Far). slice_get l number) are.places ∙ slice_get-map far_of fs number

-- ---- one more

all_snoc : (fs : List FoundDefinition) (f : FoundDefinition) → AllByRecursion IsFar fs → IsFar f → AllByRecursion IsFar (fs ++ f ∷ [])
all_snoc [] f all one = (one, tt)
all_snoc (g ∷ fs) f all one = (all.0, all_snoc fs f all.1 one)

key_far : (f : FoundDefinition) → IsFar f → all_key f.definition.name ≡ key_of_found f
key_far f far = ap (λ (s : Scope). record { step = step_for f.place f.member.file f.member.from s; name = f.definition.name }) (sym far.scope)

pub pushed_far : (fs : List FoundDefinition) (f : FoundDefinition) (old new : OutsideNames) (name : List ℕ) (place : Far) → AreOutside fs old → IsFar f → f.definition.name ≡ name → far_of f ≡ place
    → ((rows : List Row) → Indexes rows old.names → Indexes (rows ++ (all_key name, length old.places.items) ∷ []) new.names) → new.places.items ≡ old.places.items ++ place ∷ [] → AreOutside (fs ++ f ∷ []) new
pushed_far fs f old new name place are far name_is place_is more items =
    let size : length old.places.items ≡ 0 + length fs = omega (arith, size_is fs old are) in
    let rows : numbered_rows 0 fs ++ (all_key name, length old.places.items) ∷ [] ≡ numbered_rows 0 (fs ++ f ∷ []) =
    ap (λ (n : List ℕ). numbered_rows 0 fs ++ (all_key n, length old.places.items) ∷ []) (sym name_is)
    ∙ ap (λ (k : Named). numbered_rows 0 fs ++ (k, length old.places.items) ∷ []) (key_far f far)
    ∙ ap (λ (k : ℕ). numbered_rows 0 fs ++ (key_of_found f, k) ∷ []) size
    ∙ sym (numbered-snoc 0 fs f) in
    record {
      names = subst (λ (l : List Row). Indexes l new.names) rows (more (numbered_rows 0 fs) are.names);
      places =
          items ∙ ap (λ (l : List Far). l ++ place ∷ []) are.places
          ∙ ap (λ (p : Far). map far_of fs ++ p ∷ []) (sym place_is)
          ∙ sym (map-append far_of fs (f ∷ []));
      far = all_snoc fs f are.far far;
    }

-- ---- numbers of all that a name can find

get_front : (xs ys : List FoundDefinition) (k : ℕ) (f : FoundDefinition) → slice_get xs k ≡ Some f → slice_get (xs ++ ys) k ≡ Some f
get_front [] ys k f e = absurd cc
get_front (x ∷ xs) ys zero f e = e
get_front (x ∷ xs) ys (suc k) f e = get_front xs ys k f e

get_after : (xs ys : List FoundDefinition) (k : ℕ) → slice_get (xs ++ ys) (length xs + k) ≡ slice_get ys k
get_after [] ys k = let same : 0 + k ≡ k = omega arith in ap (slice_get ys) same
get_after (x ∷ xs) ys k = let same : suc (length xs) + k ≡ suc (length xs + k) = omega arith in ap (slice_get (x ∷ xs ++ ys)) same ∙ get_after xs ys k

pub sees_front : (xs ys found : List FoundDefinition) (answer : Matches) → Sees xs found answer → Sees (xs ++ ys) found answer
sees_front xs ys [] answer seen = seen
sees_front xs ys (f ∷ []) answer seen = (seen.0, seen.1, get_front xs ys seen.0 f seen.2)
sees_front xs ys (f ∷ g ∷ more) answer seen = (seen.0, seen.1, get_front xs ys seen.0 f seen.2)

pub sees_after : (xs ys found : List FoundDefinition) (n : ℕ) (answer : Matches) → n ≡ length xs → Sees ys found answer → Sees (xs ++ ys) found (with_number_after n answer)
sees_after xs ys [] n answer size seen = ap (with_number_after n) seen
sees_after xs ys (f ∷ []) n answer size seen =
    (n + seen.0, ap (with_number_after n) seen.1, ap (λ (k : ℕ). slice_get (xs ++ ys) (k + seen.0)) size ∙ get_after xs ys seen.0 ∙ seen.2)
sees_after xs ys (f ∷ g ∷ more) n answer size seen =
    (n + seen.0, ap (with_number_after n) seen.1, ap (λ (k : ℕ). slice_get (xs ++ ys) (k + seen.0)) size ∙ get_after xs ys seen.0 ∙ seen.2)

-- ---- the whole search

-- what the members define decides
pub found_inside : (list : List Member) (place : ℕ) (m : Member) (name : List ℕ) (answer : Matches) → Sees (entries list) (finds_inside list place m name) answer → (answer ≡ Nothing → ⊥)
    → Sees (all_found list) (finds list place m name) answer
unfolding finds
found_inside list place m name answer seen some = by_found (finds_inside list place m name) seen
  where
    by_found : (found : List FoundDefinition) → Sees (entries list) found answer → Sees (all_found list) (or_else found (with_this_name name (outside (setting_in list)))) answer
    by_found [] s = absurd (some s)
    by_found (f ∷ found) s = sees_front (entries list) (outside (setting_in list)) (f ∷ found) answer s

-- or else what the run-time library files export
pub found_outside : (list : List Member) (place : ℕ) (m : Member) (name : List ℕ) (n : ℕ) (inside answer : Matches) → Sees (entries list) (finds_inside list place m name) inside → inside ≡ Nothing → n ≡ length (entries list)
    → Sees (outside (setting_in list)) (with_this_name name (outside (setting_in list))) answer → Sees (all_found list) (finds list place m name) (with_number_after n answer)
unfolding finds
found_outside list place m name n inside answer seen none size far = by_found (finds_inside list place m name) seen
  where
    by_found : (found : List FoundDefinition) → Sees (entries list) found inside → Sees (all_found list) (or_else found (with_this_name name (outside (setting_in list)))) (with_number_after n answer)
    by_found [] s = sees_after (entries list) (outside (setting_in list)) (with_this_name name (outside (setting_in list))) n answer size far
    by_found (f ∷ []) s = let clash : One s.0 ≡ Nothing = sym s.1 ∙ none in absurd cc
    by_found (f ∷ g ∷ more) s = let clash : Several s.0 ≡ Nothing = sym s.1 ∙ none in absurd cc

-- ---- the names of a file

-- an ENTRY name as something that is found
abbrev pub found_of : ℕ → Export → Segment → FoundDefinition
found_of file e s = record {
  place = 0;
  member = record { file = file; number = e.segment; from = 0; segment = s; setting = without_runtimes };
  definition = record { name = e.name; scope = ForAll; place = e.offset; at = s.start; expr = None; size = 0; form = 0x4E };
}

is_far : (file : ℕ) (e : Export) (s : Segment) → IsFar (found_of file e s)
is_far file e s = record { place = refl; scope = refl; expr = refl; size = refl; form = refl }

-- a name whose segment is there
pub added_export : (fs : List FoundDefinition) (file : ℕ) (r : RuntimeFile) (e : Export) (found : Option Segment) (s : Segment) (old new : OutsideNames) (name : List ℕ) (place : Far) → AreOutside fs old
    → outside_of file r e ≡ option_map (found_of file e) found → found ≡ Some s → e.name ≡ name → record { file = file; segment = e.segment; offset = e.offset } ≡ place
    → ((fs : List FoundDefinition) (f : FoundDefinition) → AreOutside fs old → IsFar f → f.definition.name ≡ name → far_of f ≡ place → AreOutside (fs ++ f ∷ []) new) → AreOutside (fs ++ filter_map (outside_of file r) (e ∷ [])) new
added_export fs file r e found s old new name place are is there with_this_name placed adds =
    let one : filter_map (outside_of file r) (e ∷ []) ≡ found_of file e s ∷ [] =
    ap (λ (o : Option FoundDefinition). cons_option o []) (is ∙ ap (option_map (found_of file e)) there) in
    subst (λ (l : List FoundDefinition). AreOutside (fs ++ l) new) (sym one) (adds fs (found_of file e s) are (is_far file e s) with_this_name placed)

pub segment_there : (P : Segment → Type 0) (o : Option Segment) → IsSomeAnd o P → (s : Segment) × (o ≡ Some s)
segment_there P None is = absurd is
segment_there P (Some s) is = (s, refl)

pub no_segment : (segments : List Segment) (number : ℕ) → (number ≡ 0) ⊎ (length segments < number) → segment_at segments number ≡ None
no_segment segments zero is = refl
no_segment segments (suc k) (inl e) = absurd cc
no_segment segments (suc k) (inr less) = slice_get_past segments k (omega (arith, less))

-- a name whose segment isn't there adds nothing
pub no_export : (fs : List FoundDefinition) (file : ℕ) (r : RuntimeFile) (e : Export) (found : Option Segment) (table : OutsideNames) → AreOutside fs table → outside_of file r e ≡ option_map (found_of file e) found → found ≡ None
    → AreOutside (fs ++ filter_map (outside_of file r) (e ∷ [])) table
no_export fs file r e found table are is none =
    let nothing : filter_map (outside_of file r) (e ∷ []) ≡ [] = ap (λ (o : Option FoundDefinition). cons_option o []) (is ∙ ap (option_map (found_of file e)) none) in
    subst (λ (l : List FoundDefinition). AreOutside l table) (sym (append-nil fs) ∙ ap (λ (l : List FoundDefinition). fs ++ l) (sym nothing)) are

-- one name more of a file
pub added_more : (fs : List FoundDefinition) (file : ℕ) (r : RuntimeFile) (k : ℕ) (e : Export) (old new : OutsideNames) → slice_get (exports_of r.segments) k ≡ Some e → AreOutside (fs ++ filter_map (outside_of file r) (take k (exports_of r.segments))) old
    → ((fs : List FoundDefinition) → AreOutside fs old → AreOutside (fs ++ filter_map (outside_of file r) (e ∷ [])) new) → AreOutside (fs ++ filter_map (outside_of file r) (take (k + 1) (exports_of r.segments))) new
added_more fs file r k e old new at are adds =
    let es = exports_of r.segments in
    let front = filter_map (outside_of file r) (take k es) in
    let one = filter_map (outside_of file r) (e ∷ []) in
    let all : filter_map (outside_of file r) (take (k + 1) es) ≡ front ++ one = ap (filter_map (outside_of file r)) (take_more es k e at) ∙ filter_map-append (outside_of file r) (take k es) (e ∷ []) in
    subst (λ (l : List FoundDefinition). AreOutside l new) (append_assoc fs front one ∙ ap (λ (l : List FoundDefinition). fs ++ l) (sym all)) (adds (fs ++ front) are)
