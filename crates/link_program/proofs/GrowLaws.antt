-- The list grows member by member, and each row serves once.
use Rattle.std.proofs.Common.{◌≡◌, ◌⊎◌, inl, inr, ℕ, zero, suc, ◌+◌, ◌≤◌, ◌<◌, ◌^◌, Bool, true, false, List, [], ◌∷◌, ◌++◌, length, get_or, replicate, Option, Some, None, refl, sym, ap, subst, ◌∙◌, append_assoc, append-nil, arith}
use Rattle.std.specs.Prelude.{slice_get, option_and_then, if◌then◌else◌}
use Rattle.std.proofs.Math.ListN.{set}
use Rattle.std.proofs.lemmas.List.{get_or-set_other, length-append, length-set, length-replicate, length-map}
use Rattle.omf_format.specs.File.{Segment, segment_at}
use Rattle.link_meaning.specs.First.{IsIn}
use Rattle.link_meaning.specs.laws.FirstLaws.{first_some-first}
use Rattle.link_meaning.specs.Member.{Member, Offer, Input, LinkSetting, setting_in, members_from, objects_from, objects, library_offers, is_library}
use Rattle.link_meaning.specs.declared.search.SearchKind.{SearchKind}
use Rattle.link_meaning.specs.declared.search.SearchKind.TheVariants.{Data, One, Any}
use Rattle.link_meaning.specs.Search.{FoundDefinition, finds, finds_data}
use Rattle.link_meaning.specs.LinkedList.{all_uses, row_for, found_for, wanted, Follow}
use Rattle.link_meaning.specs.laws.Steps.{unless_found}
use Rattle.object_meaning.specs.Sizes.{body_size}
use Rattle.link_meaning.specs.LinkFaults.{segments_fault}
use Rattle.link_program.proofs.BodyLengths.{body_short}
use Rattle.link_meaning.specs.laws.ProgressLaws.{AreSound, fresh_name, fresh_data}
use Rattle.link_tables.specs.declared.definitions.Origin.{Origin}
use Rattle.link_program.specs.declared.linked.Linked.{Linked}
use Rattle.link_tables.specs.declared.offers.Offers as kept
use Rattle.link_program.specs.declared.outside.OutsideNames.{OutsideNames}
use Rattle.link_program.specs.Outside.{IsOutsideOf, AreOutside}
use Rattle.link_meaning.specs.Search.{outside}
use Rattle.std.specs.List.{AllByRecursion}
use Rattle.link_tables.specs.Definitions.{IsOf}
use Rattle.link_program.specs.Linked.{Holds}
use Rattle.link_tables.specs.Offers.{origin_view}
use Rattle.link_program.specs.Opening.{OpensNothing}
use Rattle.link_program.specs.Wanted.{wanted_at, WantsNothing, IsWanted}
use Rattle.link_program.specs.Files.{segment_in, IsAmong, AllAmong}
use Rattle.link_program.specs.Grown.{MayGrow, HasGrown}
use Rattle.link_tables.proofs.OfferLaws.{row_any}
use Rattle.link_tables.proofs.Lists.{in_at, within_length}
use Rattle.link_program.proofs.OpeningLaws.{in_front, in_back, in_either, nothing_more, asked_grows}

-- ---- the list

-- each of these is wanted by those before it
abbrev pub Leads : List Offer → List Member → List Member → Type 0
Leads os before [] = Unit {0}
Leads os before (m ∷ members) = (wanted os before ≡ Some m) × Leads os (before ++ m ∷ []) members

leads_more : (os : List Offer) (before added : List Member) (m : Member) → Leads os before added → wanted os (before ++ added) ≡ Some m → Leads os before (added ++ m ∷ [])
leads_more os before [] m leads is = (subst (λ (l : List Member). wanted os l ≡ Some m) (append-nil before) is, tt)
leads_more os before (x ∷ added) m leads is =
    (leads.0, leads_more os (before ++ x ∷ []) added m leads.1 (subst (λ (l : List Member). wanted os l ≡ Some m) (sym (append_assoc before (x ∷ []) added)) is))

leads_end : (os : List Offer) (before added : List Member) → Leads os before added → wanted os (before ++ added) ≡ None → Follow os before added
leads_end os before [] leads is = subst (λ (l : List Member). wanted os l ≡ None) (append-nil before) is
leads_end os before (x ∷ added) leads is =
    (leads.0, leads_end os (before ++ x ∷ []) added leads.1 (subst (λ (l : List Member). wanted os l ≡ None) (sym (append_assoc before (x ∷ []) added)) is))

-- ---- a wanted member is new

fresh_by : (os : List Offer) (list : List Member) (place : ℕ) (u m : Member) (want : SearchKind) (name : List ℕ) (at : ℕ) → AreSound os
    → unless_found (found_for list place u (record { want = want; name = name; at = at })) (row_for os u (record { want = want; name = name; at = at })) ≡ Some m → IsIn list m → ⊥
fresh_by os list place u m Data name at sound e there = settle (finds_data list u name) refl e
  where
    settle : (f : List FoundDefinition) → finds_data list u name ≡ f → unless_found f (row_for os u (record { want = Data; name = name; at = at })) ≡ Some m → ⊥
    settle [] none row = fresh_data os list u m name at none row there
    settle (f ∷ fs) some row = absurd cc
fresh_by os list place u m One name at sound e there = settle (finds list place u name) refl e
  where
    settle : (f : List FoundDefinition) → finds list place u name ≡ f → unless_found f (row_for os u (record { want = One; name = name; at = at })) ≡ Some m → ⊥
    settle [] none row = fresh_name os list place u m name at sound none row there
    settle (f ∷ fs) some row = absurd cc
fresh_by os list place u m Any name at sound e there = settle (finds list place u name) e
  where
    settle : (f : List FoundDefinition) → unless_found f (row_for os u (record { want = Any; name = name; at = at })) ≡ Some m → ⊥
    settle [] row = let clash : None ≡ Some m = sym (row_any os u name at) ∙ row in absurd cc
    settle (f ∷ fs) row = absurd cc

pub fresh : (os : List Offer) (list : List Member) (m : Member) → AreSound os → wanted os list ≡ Some m → IsIn list m → ⊥
unfolding wanted
fresh os list m sound is there =
    let first = first_some-first (wanted_at os list) (all_uses list) m is in
    let a = first.item in
    fresh_by os list a.place a.member m a.use'.want a.use'.name a.use'.at sound first.here there

-- ---- flags

-- how many flags aren't set
abbrev pub unset : List Bool → ℕ
unset [] = 0
unset (b ∷ flags) = (if b then 0 else 1) + unset flags

pub set_less : (flags : List Bool) (k : ℕ) → k < length flags → get_or flags k false ≡ false → unset (set flags k true) + 1 ≡ unset flags
set_less [] k less is = absurd (omega arith)
set_less (true ∷ flags) zero less is = absurd cc
set_less (false ∷ flags) zero less is = omega arith
set_less (b ∷ flags) (suc k) less is = let rest = set_less flags k (omega arith) is in omega arith

unset_none : (n : ℕ) → unset (replicate n false) ≡ n
unset_none zero = refl
unset_none (suc n) = let rest = unset_none n in omega arith

-- a row whose flag is set has its member in the list
abbrev pub AreTaken : List Offer → List Member → List Bool → Type 0
AreTaken os list flags = (k : ℕ) (o : Offer) → get_or flags k false ≡ true → slice_get os k ≡ Some o → IsIn list o.member

-- ---- the setting

abbrev Has : LinkSetting → Member → Type 0
Has setting m = m.setting ≡ setting

all_members : (setting : LinkSetting) (file n : ℕ) (segments : List Segment) → AllByRecursion (Has setting) (members_from setting file n segments)
all_members setting file n [] = tt
all_members setting file n (s ∷ segments) = (refl, all_members setting file (n + 1) segments)

all_both : (setting : LinkSetting) (xs ys : List Member) → AllByRecursion (Has setting) xs → AllByRecursion (Has setting) ys → AllByRecursion (Has setting) (xs ++ ys)
all_both setting [] ys a b = b
all_both setting (x ∷ xs) ys a b = (a.0, all_both setting xs ys a.1 b)

all_objects : (setting : LinkSetting) (file : ℕ) (inputs : List Input) → AllByRecursion (Has setting) (objects_from setting file inputs)
all_objects setting file [] = tt
all_objects setting file (input ∷ inputs) = all_both setting (if is_library input.segments then [] else members_from setting file 1 input.segments) (objects_from setting (file + 1) inputs) (by_library (is_library input.segments)) (all_objects setting (file + 1) inputs)
  where
    by_library : (b : Bool) → AllByRecursion (Has setting) (if b then [] else members_from setting file 1 input.segments)
    by_library true = tt
    by_library false = all_members setting file 1 input.segments

-- the list has the setting of its object files
pub setting_is : (setting : LinkSetting) (inputs : List Input) (added : List Member) → (objects setting inputs ≡ [] → ⊥) → setting_in (objects setting inputs ++ added) ≡ setting
unfolding objects
setting_is setting inputs added some = first (objects_from setting 1 inputs) (all_objects setting 1 inputs) some
  where
    first : (xs : List Member) → AllByRecursion (Has setting) xs → (xs ≡ [] → ⊥) → setting_in (xs ++ added) ≡ setting
    first [] all more = absurd (more refl)
    first (x ∷ xs) all more = all.0

-- so the table has the names that it can find
pub outside_is : (setting : LinkSetting) (inputs : List Input) (files : List (List Segment)) (table : OutsideNames) (os : kept.Offers) (linked : Linked) (added : List Member) → MayGrow setting inputs files table os linked
    → IsOutsideOf (objects setting inputs ++ added) table
outside_is setting inputs files table os linked added may = subst (λ (x : LinkSetting). AreOutside (outside x) table) (sym (setting_is setting inputs added may.some)) may.table'

-- ---- the loop

pub record Growing (setting : LinkSetting) (inputs : List Input) (files : List (List Segment)) (linked : Linked) (taken : List Bool) (cursor : ℕ) : Type 0 where
  pub added : List Member
  pub holds : Holds (objects setting inputs ++ added) linked
  pub leads : Leads (library_offers setting inputs) (objects setting inputs) added
  pub nothing : WantsNothing (library_offers setting inputs) (objects setting inputs ++ added) cursor
  pub within : cursor ≤ length (all_uses (objects setting inputs ++ added))
  pub size : length taken ≡ length (library_offers setting inputs)
  pub taken' : AreTaken (library_offers setting inputs) (objects setting inputs ++ added) taken
  pub among : AllAmong files (objects setting inputs ++ added)
  pub few : length (objects setting inputs ++ added) + unset taken + 1 < 2 ^ 32

pub growing_start : (setting : LinkSetting) (inputs : List Input) (files : List (List Segment)) (table : OutsideNames) (os : kept.Offers) (linked : Linked) (taken : List Bool) (n : ℕ) → MayGrow setting inputs files table os linked → n ≡ length os.origins.items
    → taken ≡ replicate n false → Growing setting inputs files linked taken 0
growing_start setting inputs files table os linked taken n may count none =
    let whole : objects setting inputs ≡ objects setting inputs ++ [] = sym (append-nil (objects setting inputs)) in
    let size : n ≡ length (library_offers setting inputs) = omega (arith, count, ap length may.offers'.origins, length-map (library_offers setting inputs) origin_view) in
    record {
      added = [];
      holds = subst (λ (l : List Member). Holds l linked) whole may.objects';
      leads = tt;
      nothing = refl;
      within = omega arith;
      size = ap length none ∙ length-replicate n false ∙ size;
      taken' = λ k o set' at. absurd (no_flag k (sym (ap (λ (l : List Bool). get_or l k false) none) ∙ set'));
      among = subst (λ (l : List Member). AllAmong files l) whole may.there;
      few = omega (arith, may.few, size, ap length whole, ap unset none, unset_none n);
    }
  where
    none_set : (m k : ℕ) → get_or (replicate m false) k false ≡ false
    none_set zero k = refl
    none_set (suc m) zero = refl
    none_set (suc m) (suc k) = none_set m k

    no_flag : (k : ℕ) → get_or (replicate n false) k false ≡ true → ⊥
    no_flag k e = let clash : false ≡ true = sym (none_set n k) ∙ e in absurd cc

pub growing_end : (setting : LinkSetting) (inputs : List Input) (files : List (List Segment)) (linked : Linked) (taken : List Bool) (cursor : ℕ) (g : Growing setting inputs files linked taken cursor) → wanted (library_offers setting inputs) (objects setting inputs ++ g.added) ≡ None
    → HasGrown setting inputs files linked
growing_end setting inputs files linked taken cursor g none = record {
  list = objects setting inputs ++ g.added;
  is_linked = record { added = g.added; parts = refl; follow = leads_end (library_offers setting inputs) (objects setting inputs) g.added g.leads none };
  holds = g.holds;
  among = g.among;
  few = omega (arith, g.few);
}

-- the flag of a row that is wanted isn't set
pub flag_free : (os : List Offer) (list : List Member) (flags : List Bool) (k : ℕ) (o : Offer) → AreSound os → AreTaken os list flags → slice_get os k ≡ Some o → wanted os list ≡ Some o.member → get_or flags k false ≡ false
flag_free os list flags k o sound taken at is = settle (get_or flags k false) refl
  where
    settle : (b : Bool) → get_or flags k false ≡ b → b ≡ false
    settle true e = absurd (fresh os list o.member sound is (taken k o e at))
    settle false e = refl

nat_same : (a b : ℕ) → (a ≡ b) ⊎ (a ≡ b → ⊥)
nat_same zero zero = inl refl
nat_same zero (suc b) = inr (λ e. omega (arith, e))
nat_same (suc a) zero = inr (λ e. omega (arith, e))
nat_same (suc a) (suc b) = next (nat_same a b)
  where
    next : (a ≡ b) ⊎ (a ≡ b → ⊥) → (suc a ≡ suc b) ⊎ (suc a ≡ suc b → ⊥)
    next (inl e) = inl (ap suc e)
    next (inr other) = inr (λ e. other (omega (arith, e)))

taken_more : (os : List Offer) (list : List Member) (flags : List Bool) (k : ℕ) (o : Offer) → slice_get os k ≡ Some o → k < length flags → AreTaken os list flags → AreTaken os (list ++ o.member ∷ []) (set flags k true)
taken_more os list flags k o at within taken j p is there = settle (nat_same j k)
  where
    offer_same : (a b : Offer) → Some a ≡ Some b → a ≡ b
    offer_same a b e = cc

    settle : (j ≡ k) ⊎ (j ≡ k → ⊥) → IsIn (list ++ o.member ∷ []) p.member
    settle (inl e) =
        let same : o ≡ p = offer_same o p (sym at ∙ ap (slice_get os) (sym e) ∙ there) in
        in_back list (o.member ∷ []) p.member (inl (ap (λ (x : Offer). x.member) same))
    settle (inr other) = in_front list (o.member ∷ []) p.member (taken j p (sym (get_or-set_other flags k j true false other) ∙ is) there)

-- one more member: the cursor stays at the use that wanted it, or goes back to the first use
pub growing_more : (setting : LinkSetting) (inputs : List Input) (files : List (List Segment)) (table : OutsideNames) (os : kept.Offers) (first old new : Linked) (taken flags : List Bool) (cursor number row next : ℕ) (origin : Origin) (s : Segment) (may : MayGrow setting inputs files table os first)
    (g : Growing setting inputs files old taken cursor) (w : IsWanted (library_offers setting inputs) (objects setting inputs ++ g.added) (Some (number, row)))
    → number < length (all_uses (objects setting inputs ++ g.added)) → origin ≡ origin_view w.0 → s ≡ w.0.member.segment
    → ((list : List Member) (m : Member) → IsOf m origin → m.segment ≡ s → Holds list old → Holds (list ++ m ∷ []) new)
    → (next ≡ 0) ⊎ ((next ≡ number) × OpensNothing (objects setting inputs ++ g.added) w.0.member)
    → flags ≡ set taken row true → Growing setting inputs files new flags next
growing_more setting inputs files table os first old new taken flags cursor number row next origin s may g w inside from same adds goes flagged =
    let o = w.0 in
    let list = objects setting inputs ++ g.added in
    let whole : list ++ o.member ∷ [] ≡ objects setting inputs ++ (g.added ++ o.member ∷ []) = append_assoc (objects setting inputs) g.added (o.member ∷ []) in
    let of : IsOf o.member origin = (sym (ap (λ (x : Origin). x.file) from), sym (ap (λ (x : Origin). x.segment) from), sym (ap (λ (x : Origin). x.from) from)) in
    let row_in : row < length taken = omega (arith, within_length (library_offers setting inputs) row o w.1, g.size) in
    let free = flag_free (library_offers setting inputs) list taken row o may.defined g.taken' w.1 w.2 in
    let less = set_less taken row row_in free in
    record {
      added = g.added ++ o.member ∷ [];
      holds = subst (λ (l : List Member). Holds l new) whole (adds list o.member of (sym same) g.holds);
      leads = leads_more (library_offers setting inputs) (objects setting inputs) g.added o.member g.leads w.2;
      nothing = subst (λ (l : List Member). WantsNothing (library_offers setting inputs) l next) whole (settle goes);
      within = subst (λ (l : List Member). next ≤ length (all_uses l)) whole (room goes);
      size = ap length flagged ∙ length-set taken row true ∙ g.size;
      taken' = subst (λ (l : List Member). AreTaken (library_offers setting inputs) l flags) whole (subst (λ (f : List Bool). AreTaken (library_offers setting inputs) (list ++ o.member ∷ []) f) (sym flagged) (taken_more (library_offers setting inputs) list taken row o w.1 row_in g.taken'));
      among = subst (λ (l : List Member). AllAmong files l) whole (λ m is. there m (in_either list (o.member ∷ []) m is));
      few = omega (arith, g.few, less, ap unset flagged, sym (ap length whole), length-append list (o.member ∷ []));
    }
  where
    settle : (next ≡ 0) ⊎ ((next ≡ number) × OpensNothing (objects setting inputs ++ g.added) w.0.member) → WantsNothing (library_offers setting inputs) ((objects setting inputs ++ g.added) ++ w.0.member ∷ []) next
    settle (inl e) = subst (λ (n : ℕ). WantsNothing (library_offers setting inputs) ((objects setting inputs ++ g.added) ++ w.0.member ∷ []) n) (sym e) refl
    settle (inr stays) =
        subst (λ (n : ℕ). WantsNothing (library_offers setting inputs) ((objects setting inputs ++ g.added) ++ w.0.member ∷ []) n) (sym stays.0)
        (nothing_more (library_offers setting inputs) (objects setting inputs ++ g.added) w.0.member number stays.1 (omega (arith, inside)) w.3)

    room : (next ≡ 0) ⊎ ((next ≡ number) × OpensNothing (objects setting inputs ++ g.added) w.0.member) → next ≤ length (all_uses ((objects setting inputs ++ g.added) ++ w.0.member ∷ []))
    room (inl e) = omega (arith, e)
    room (inr stays) = omega (arith, stays.0, inside, asked_grows (objects setting inputs ++ g.added) w.0.member)

    there : (m : Member) → IsIn (objects setting inputs ++ g.added) m ⊎ IsIn (w.0.member ∷ []) m → IsAmong files m
    there m (inl is) = g.among m is
    there m (inr (inl e)) = subst (IsAmong files) e (may.among w.0 (in_at (library_offers setting inputs) row w.0 w.1))
    there m (inr (inr more)) = absurd more

pub cursor_goes : (b : Bool) (number next : ℕ) (P : Type 0) → next ≡ (if b then 0 else number) → (b ≡ false → P) → (next ≡ 0) ⊎ ((next ≡ number) × P)
cursor_goes true number next P is so = inl is
cursor_goes false number next P is so = inr (is, so refl)

-- ---- the row's segment

pub origin_of : (o : Offer) (origin : Origin) → origin ≡ origin_view o → IsOf o.member origin
origin_of o origin from = (sym (ap (λ (x : Origin). x.file) from), sym (ap (λ (x : Origin). x.segment) from), sym (ap (λ (x : Origin). x.from) from))

pub among_origin : (files : List (List Segment)) (o : Offer) (origin : Origin) → origin ≡ origin_view o → IsAmong files o.member → segment_in files origin.file origin.segment ≡ Some o.member.segment
among_origin files o origin from among = ap (λ (x : Origin). segment_in files x.file x.segment) from ∙ among

same_segment : (a b : Segment) → Some a ≡ Some b → a ≡ b
same_segment a b e = cc

pub origin_among : (files : List (List Segment)) (o : Offer) (origin : Origin) (s : Segment) → origin ≡ origin_view o → IsAmong files o.member → Some s ≡ segment_in files origin.file origin.segment → s ≡ o.member.segment
origin_among files o origin s from among is = same_segment s o.member.segment (is ∙ among_origin files o origin from among)

pub no_segment : (files : List (List Segment)) (o : Offer) (origin : Origin) → origin ≡ origin_view o → IsAmong files o.member → None ≡ segment_in files origin.file origin.segment → ⊥
no_segment files o origin from among is = let clash : None ≡ Some o.member.segment = is ∙ among_origin files o origin from among in absurd cc

-- a file's segment that was looked up is short
pub short_body : (files : List (List Segment)) (origin : Origin) (s : Segment) → ((segments : List Segment) → IsIn files segments → segments_fault 1 segments ≡ None) → Some s ≡ segment_in files origin.file origin.segment → body_size s ≤ s.fields.length
short_body files origin s sound is = by_file origin.file (sym is)
  where
    by_number : (segments : List Segment) (n : ℕ) → segments_fault 1 segments ≡ None → segment_at segments n ≡ Some s → body_size s ≤ s.fields.length
    by_number segments zero none e = absurd cc
    by_number segments (suc k) none e = body_short segments k s none e

    by_list : (o : Option (List Segment)) (k : ℕ) → slice_get files k ≡ o → option_and_then (λ segments. segment_at segments origin.segment) o ≡ Some s → body_size s ≤ s.fields.length
    by_list None k at e = absurd cc
    by_list (Some segments) k at e = by_number segments origin.segment (sound segments (in_at files k segments at)) e

    by_file : (n : ℕ) → segment_in files n origin.segment ≡ Some s → body_size s ≤ s.fields.length
    by_file zero e = absurd cc
    by_file (suc k) e = by_list (slice_get files k) k refl e
