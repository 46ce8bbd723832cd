-- A list in which no equate leads back to itself has one table of values at most.
use Rattle.std.proofs.Common.{◌≡◌, ◌⊎◌, inl, inr, ℕ, zero, suc, ◌+◌, ◌<◌, ◌≤◌, Bool, true, false, eqb, List, [], ◌∷◌, ◌++◌, length, Option, Some, None, Result, Ok, Err, refl, sym, ap, subst, ◌∙◌, arith, cond}
use Rattle.std.specs.Prelude.{◌||◌, filter, slice_get, nat_le, ◌==◌, if◌then◌else◌, filter_map, option_map}
use Rattle.std.specs.List.{AllByRecursion, list_any, cons_option}
use Rattle.std.specs.Option.{option_or}
use Rattle.std.specs.List.{IsDistinct}
use Rattle.std.proofs.lemmas.Bool.{eqb-true}
use Rattle.std.proofs.lemmas.Map.Steps.{length-le_from_distinct_below}
use Rattle.omf_format.specs.declared.value.Value.{Value}
use Rattle.omf_format.specs.declared.value.ValueFault.{ValueFault}
use Rattle.omf_format.specs.declared.value.ValueFault.TheVariants.{DivideByZero, NotRelocatable, Unknown}
use Rattle.omf_format.specs.Field.{◌>>=◌}
use Rattle.omf_format.specs.Expression.{Term, Operator, Location, Constant, Named, Offset, Tree, Leaf, Unary, Binary}
use Rattle.omf_format.specs.Value.{operand_value, apply_one, apply_two, size_of, value}
use Rattle.omf_format.specs.laws.Steps.{known_or_fault}
use Rattle.load_meaning.specs.Exports.{Export, exports_of}
use Rattle.omf_format.specs.File.{Segment, segment_at}
use Rattle.object_meaning.specs.Defines.{ForAll}
use Rattle.link_meaning.specs.First.{IsIn}
use Rattle.link_meaning.specs.laws.MemberLists.{in_filter, filter_in}
use Rattle.link_meaning.specs.Member.{Member, RuntimeFile, LinkSetting, setting_in, without_runtimes}
use Rattle.object_meaning.specs.Terms.{asks_value, asked_by, term_at, tree_in}
use Rattle.object_meaning.specs.laws.Steps.{asked_in}
use Rattle.link_meaning.specs.declared.search.SearchStep.{SearchStep}
use Rattle.link_meaning.specs.Search.{FoundDefinition, or_else, first_step_found, with_this_name, entries, finds, outside_of, outside_from, outside}
use Rattle.link_meaning.specs.Cycles.{is_equate, equates, LeadsTo, Path, Last, Through, IsCircular}
use Rattle.link_meaning.specs.LinkValues.{EquateAnswer, value_of_definition, found_value, label_value, member_environment, fault_named, value_or_equate_fault, value_in, equate_value, AreReported, IsTable}
use Rattle.link_meaning.specs.laws.Steps.{if_ok, fault_found, tree_value, steps_of, is_seen_by_step, names_in}

-- ---- members of lists

in_either : (a b : List FoundDefinition) (f : FoundDefinition) → IsIn (or_else a b) f → IsIn a f ⊎ IsIn b f
in_either [] b f is = inr is
in_either (g ∷ a) b f is = inl is

in_decided : (steps : List SearchStep) (all : List FoundDefinition) (f : FoundDefinition) → IsIn (first_step_found steps all) f → IsIn all f
in_decided [] all f is = absurd is
in_decided (s ∷ steps) all f is = settle (in_either (filter (is_seen_by_step s) all) (first_step_found steps all) f is) (λ more. in_decided steps all f more)
  where
    settle : IsIn (filter (is_seen_by_step s) all) f ⊎ IsIn (first_step_found steps all) f → (IsIn (first_step_found steps all) f → IsIn all f) → IsIn all f
    settle (inl here) go = in_filter (is_seen_by_step s) all f here
    settle (inr more) go = go more

-- what a name finds is an entry, or a name of a run-time library file
pub in_found : (list : List Member) (place : ℕ) (m : Member) (name : List ℕ) (f : FoundDefinition) → IsIn (finds list place m name) f → IsIn (entries list) f ⊎ IsIn (outside (setting_in list)) f
unfolding finds with_this_name
in_found list place m name f is = elim (in_either (first_step_found (steps_of list place m) (with_this_name name (entries list))) (with_this_name name (outside (setting_in list))) f is) [
  | inl h ↦ inl (in_filter _ (entries list) f (in_decided (steps_of list place m) (with_this_name name (entries list)) f h))
  | inr h ↦ inr (in_filter _ (outside (setting_in list)) f h)
]

-- names of run-time library files are at place 0, and aren't equates
pub record IsOutside (f : FoundDefinition) : Type 0 where
  pub nowhere : f.place ≡ 0
  pub place : f.definition.expr ≡ None

outside_one : (file : ℕ) (r : RuntimeFile) (es : List Export) (f : FoundDefinition) → IsIn (filter_map (outside_of file r) es) f → IsOutside f
outside_one file r [] f is = absurd is
outside_one file r (e ∷ es) f is = by_segment (λ h. outside_one file r es f h) (segment_at r.segments e.segment) is
  where
    found : Segment → FoundDefinition
    found s = record {
      place = 0;
      member = record { file = file; number = e.segment; from = 0; segment = s; setting = without_runtimes };
      definition = record { name = e.name; scope = ForAll; place = e.offset; at = s.start; expr = None; size = 0; form = 0x4E };
    }

    by_segment : (IsIn (filter_map (outside_of file r) es) f → IsOutside f) → (o : Option Segment) → IsIn (cons_option (option_map found o) (filter_map (outside_of file r) es)) f → IsOutside f
    by_segment go None h = go h
    by_segment go (Some s) (inl same) = subst IsOutside same (record { nowhere = refl; place = refl })
    by_segment go (Some s) (inr more) = go more

outside_all : (file : ℕ) (rs : List RuntimeFile) (f : FoundDefinition) → IsIn (outside_from file rs) f → IsOutside f
outside_all file [] f is = absurd is
outside_all file (r ∷ rs) f is = elim (in_parts (filter_map (outside_of file r) (exports_of r.segments)) (outside_from (file + 1) rs) f is) [
  | inl h ↦ outside_one file r (exports_of r.segments) f h
  | inr h ↦ outside_all (file + 1) rs f h
]
  where
    in_parts : (xs ys : List FoundDefinition) (g : FoundDefinition) → IsIn (xs ++ ys) g → IsIn xs g ⊎ IsIn ys g
    in_parts [] ys g h = inr h
    in_parts (x ∷ xs) ys g (inl h) = inl (inl h)
    in_parts (x ∷ xs) ys g (inr h) = elim (in_parts xs ys g h) [ inl a ↦ inl (inr a) | inr b ↦ inr b ]

pub is_outside : (setting : LinkSetting) (f : FoundDefinition) → IsIn (outside setting) f → IsOutside f
unfolding outside
is_outside setting f is = outside_all 2 setting.runtimes f is

-- an equate that is found is an entry
pub in_entries : (list : List Member) (place : ℕ) (m : Member) (name : List ℕ) (f : FoundDefinition) → is_equate f ≡ true → IsIn (finds list place m name) f → IsIn (entries list) f
in_entries list place m name f equate is = elim (in_found list place m name f is) [
  | inl h ↦ h
  | inr h ↦ absurd (no_equate (sym (ap Rattle.link_meaning.specs.laws.Steps.has_expr (is_outside (setting_in list) f h).place) ∙ equate))
]
  where
    no_equate : false ≡ true → ⊥
    no_equate e = absurd cc

pub in_equates : (list : List Member) (e f : FoundDefinition) → LeadsTo list e f → IsIn (equates list) f
unfolding equates
in_equates list e f leads = filter_in is_equate (entries list) f (in_entries list e.place e.member leads.name f leads.equate leads.found) leads.equate

-- ---- the same value where names have the same values

-- two tables give the same value to what a name found first
abbrev pub Alike : List Member → List EquateAnswer → List EquateAnswer → List FoundDefinition → Type 0
Alike list a b [] = Unit {0}
Alike list a b (f ∷ found) = found_value list a f ≡ found_value list b f

abbrev pub AreAlike : List Member → List EquateAnswer → List EquateAnswer → ℕ → Member → List (List ℕ) → Type 0
AreAlike list a b place m names = AllByRecursion (λ name. Alike list a b (finds list place m name)) names

pub all_front : {A : Type 0} → (P : A → Type 0) (xs ys : List A) → AllByRecursion P (xs ++ ys) → AllByRecursion P xs
all_front P [] ys all = tt
all_front P (x ∷ xs) ys all = (all.0, all_front P xs ys all.1)

pub all_following : {A : Type 0} → (P : A → Type 0) (xs ys : List A) → AllByRecursion P (xs ++ ys) → AllByRecursion P ys
all_following P [] ys all = all
all_following P (x ∷ xs) ys all = all_following P xs ys all.1

label_same : (list : List Member) (a b : List EquateAnswer) (weak : Bool) (found : List FoundDefinition) → Alike list a b found → label_value list a weak found ≡ label_value list b weak found
label_same list a b weak [] same = refl
label_same list a b weak (f ∷ found) same = ap if_ok same

fault_same : (list : List Member) (a b : List EquateAnswer) (fault : ValueFault) (found : List FoundDefinition) → Alike list a b found → fault_found list a fault found ≡ fault_found list b fault found
fault_same list a b fault [] same = refl
fault_same list a b fault (f ∷ found) same = ap (λ (r : Result Value ValueFault). elim r [ Ok v ↦ fault | Err of ↦ of ]) same

operand_same : (list : List Member) (a b : List EquateAnswer) (place : ℕ) (m : Member) (location at : ℕ) (term : Term) → AreAlike list a b place m (asks_value term)
    → operand_value (member_environment list a place m location) at term ≡ operand_value (member_environment list b place m location) at term
unfolding operand_value member_environment
operand_same list a b place m location at (Operator code) all = refl
operand_same list a b place m location at Location all = refl
operand_same list a b place m location at (Constant n) all = refl
operand_same list a b place m location at (Offset n) all = refl
operand_same list a b place m location at (Named code name) all = by_code (nat_le code 0x83) all
  where
    by_code : (v : Bool) → AreAlike list a b place m (if v then name ∷ [] else [])
        → (if v then known_or_fault at (label_value list a (code == 0x82) (finds list place m name))
        else known_or_fault at ((member_environment list a place m location).attribute code name) >>= λ n. Ok (Rattle.omf_format.specs.declared.value.Value.TheVariants.Fixed n))
        ≡ (if v then known_or_fault at (label_value list b (code == 0x82) (finds list place m name))
        else known_or_fault at ((member_environment list b place m location).attribute code name) >>= λ n. Ok (Rattle.omf_format.specs.declared.value.Value.TheVariants.Fixed n))
    by_code true all = ap (known_or_fault at) (label_same list a b (code == 0x82) (finds list place m name) all.0)
    by_code false all = refl

value_same : (list : List Member) (a b : List EquateAnswer) (place : ℕ) (m : Member) (location l at : ℕ) (tree : Tree) → AreAlike list a b place m (asked_by tree)
    → value (member_environment list a place m location) l at tree ≡ value (member_environment list b place m location) l at tree
value_same list a b place m location l at (Leaf term) all = operand_same list a b place m location at term all
value_same list a b place m location l at (Unary code x) all = ap (λ (r : Result Value ValueFault). r >>= λ v. apply_one code v) (value_same list a b place m location l at x all)
value_same list a b place m location l at (Binary code x y) all =
    let P = λ (name : List ℕ). Alike list a b (finds list place m name) in
    let left = value_same list a b place m location l at x (all_front P (asked_by x) (asked_by y) all) in
    let right = value_same list a b place m location l (at + size_of l x) y (all_following P (asked_by x) (asked_by y) all) in
    ap (λ (r : Result Value ValueFault). r >>= λ v. value (member_environment list a place m location) l (at + size_of l x) y >>= λ w. apply_two code v w) left
    ∙ ap (λ (r : Result Value ValueFault). value (member_environment list b place m location) l at x >>= λ v. r >>= λ w. apply_two code v w) right

-- a term of the tree asks for what the tree asks for
abbrev AlikeAt : List Member → List EquateAnswer → List EquateAnswer → ℕ → Member → Option Term → Type 0
AlikeAt list a b place m None = Unit {0}
AlikeAt list a b place m (Some term) = AreAlike list a b place m (asks_value term)

either_alike : (list : List Member) (a b : List EquateAnswer) (place : ℕ) (m : Member) (x y : Option Term) → AlikeAt list a b place m x → AlikeAt list a b place m y → AlikeAt list a b place m (option_or x y)
either_alike list a b place m None y p q = q
either_alike list a b place m (Some t) y p q = p

term_alike : (list : List Member) (a b : List EquateAnswer) (place : ℕ) (m : Member) (l want at : ℕ) (tree : Tree) → AreAlike list a b place m (asked_by tree)
    → AlikeAt list a b place m (term_at l want at tree)
term_alike list a b place m l want at (Leaf term) all = by_place (at == want)
  where
    by_place : (v : Bool) → AlikeAt list a b place m (if v then Some term else None)
    by_place true = all
    by_place false = tt
term_alike list a b place m l want at (Unary code x) all = term_alike list a b place m l want at x all
term_alike list a b place m l want at (Binary code x y) all =
    let P = λ (name : List ℕ). Alike list a b (finds list place m name) in
    either_alike list a b place m (term_at l want at x) (term_at l want (at + size_of l x) y)
    (term_alike list a b place m l want at x (all_front P (asked_by x) (asked_by y) all))
    (term_alike list a b place m l want (at + size_of l x) y (all_following P (asked_by x) (asked_by y) all))

named_same : (list : List Member) (a b : List EquateAnswer) (place : ℕ) (m : Member) (fault : ValueFault) (term : Option Term) → AlikeAt list a b place m term
    → fault_named list a place m fault term ≡ fault_named list b place m fault term
named_same list a b place m fault None all = refl
named_same list a b place m fault (Some (Operator code)) all = refl
named_same list a b place m fault (Some Location) all = refl
named_same list a b place m fault (Some (Constant n)) all = refl
named_same list a b place m fault (Some (Offset n)) all = refl
named_same list a b place m fault (Some (Named code name)) all = by_code (nat_le code 0x83) all
  where
    by_code : (v : Bool) → AreAlike list a b place m (if v then name ∷ [] else [])
        → (if v then fault_found list a fault (finds list place m name) else fault) ≡ (if v then fault_found list b fault (finds list place m name) else fault)
    by_code true all = fault_same list a b fault (finds list place m name) all.0
    by_code false all = refl

settled_same : (list : List Member) (a b : List EquateAnswer) (place : ℕ) (m : Member) (tree : Tree) (r : Result Value ValueFault) → AreAlike list a b place m (asked_by tree)
    → value_or_equate_fault list a place m tree r ≡ value_or_equate_fault list b place m tree r
settled_same list a b place m tree (Ok v) all = refl
settled_same list a b place m tree (Err DivideByZero) all = refl
settled_same list a b place m tree (Err NotRelocatable) all = refl
settled_same list a b place m tree (Err (Unknown at)) all =
    ap (λ (f : ValueFault). failed f) (named_same list a b place m (Unknown at) (term_at m.segment.fields.lab_len at 0 tree) (term_alike list a b place m m.segment.fields.lab_len at 0 tree all))
  where
    failed : ValueFault → Result Value ValueFault
    failed f = Err f

tree_same : (list : List Member) (a b : List EquateAnswer) (place : ℕ) (m : Member) (location : ℕ) (tree : Option Tree) → AreAlike list a b place m (asked_in tree)
    → tree_value list a place m location tree ≡ tree_value list b place m location tree
tree_same list a b place m location None all = refl
tree_same list a b place m location (Some tree) all =
    ap (value_or_equate_fault list a place m tree) (value_same list a b place m location m.segment.fields.lab_len 0 tree all)
    ∙ settled_same list a b place m tree (value (member_environment list b place m location) m.segment.fields.lab_len 0 tree) all

pub equate_same : (list : List Member) (a b : List EquateAnswer) (e : FoundDefinition) → AreAlike list a b e.place e.member (names_in e.member.segment.fields.lab_len e.definition.expr)
    → equate_value list a e ≡ equate_value list b e
unfolding value_in
equate_same list a b e all = by_expr e.definition.expr all
  where
    by_expr : (x : Option (List ℕ)) → AreAlike list a b e.place e.member (names_in e.member.segment.fields.lab_len x)
        → elim x as (λ y. Result Value ValueFault) [ None ↦ Err NotRelocatable | Some text ↦ value_in list a e.place e.member e.definition.place text ]
        ≡ elim x as (λ y. Result Value ValueFault) [ None ↦ Err NotRelocatable | Some text ↦ value_in list b e.place e.member e.definition.place text ]
    by_expr None all = refl
    by_expr (Some text) all = tree_same list a b e.place e.member e.definition.place (tree_in e.member.segment.fields.lab_len text) all

all_from : {A : Type 0} → (P : A → Type 0) (xs : List A) → ((x : A) → IsIn xs x → P x) → AllByRecursion P xs
all_from P [] f = tt
all_from P (x ∷ xs) f = (f x (inl refl), all_from P xs (λ y is. f y (inr is)))

-- ---- ways between equates

pub path_on : (list : List Member) (x y z : FoundDefinition) → Path list x y → LeadsTo list y z → Path list x z
path_on list x y z (Last from to leads) on = Through x y z leads (Last y z on)
path_on list x y z (Through from next to leads path) on = Through x next z leads (path_on list next y z path on)

position_of : {A : Type 0} → (xs : List A) (x : A) → IsIn xs x → (k : ℕ) × (slice_get xs k ≡ Some x)
position_of [] x is = absurd is
position_of (y ∷ ys) x (inl e) = (0, ap Some e)
position_of (y ∷ ys) x (inr more) = let rest = position_of ys x more in (suc rest.0, rest.1)

below_length : {A : Type 0} → (xs : List A) (k : ℕ) (x : A) → slice_get xs k ≡ Some x → k < length xs
below_length [] k x e = absurd cc
below_length (y ∷ ys) zero x e = omega arith
below_length (y ∷ ys) (suc k) x e = omega (arith, below_length ys k x e)

-- at this place is an equate from which the other is reached
abbrev Before : List Member → FoundDefinition → ℕ → Type 0
Before list e v = (g : FoundDefinition) × (slice_get (equates list) v ≡ Some g) × Path list g e

all_on : (list : List Member) (e f : FoundDefinition) (visited : List ℕ) → AllByRecursion (Before list e) visited → LeadsTo list e f → AllByRecursion (Before list f) visited
all_on list e f [] all leads = tt
all_on list e f (v ∷ visited) all leads = ((all.0.0, all.0.1, path_on list all.0.0 e f all.0.2 leads), all_on list e f visited all.1 leads)

abbrev some : FoundDefinition → Option FoundDefinition
some f = Some f

one_found : (f g : FoundDefinition) → some f ≡ some g → f ≡ g
one_found f g e = cc

-- without cycles an equate isn't among those before it
apart : (list : List Member) (f : FoundDefinition) (j : ℕ) (visited : List ℕ) → (IsCircular list f → ⊥) → slice_get (equates list) j ≡ Some f
    → AllByRecursion (Before list f) visited → AllByRecursion (λ v. eqb j v ≡ false) visited
apart list f j [] straight at all = tt
apart list f j (v ∷ visited) straight at all = (by_test (eqb j v) refl, apart list f j visited straight at all.1)
  where
    by_test : (t : Bool) → eqb j v ≡ t → eqb j v ≡ false
    by_test false is = is
    by_test true is =
        let place : j ≡ v = eqb-true j v is in
        let same : all.0.0 ≡ f = one_found all.0.0 f (sym all.0.1 ∙ ap (slice_get (equates list)) (sym place) ∙ at) in
        absurd (straight (subst (λ (g : FoundDefinition). Path list g f) same all.0.2))

all_below : (list : List Member) (e : FoundDefinition) (visited : List ℕ) → AllByRecursion (Before list e) visited → AllByRecursion (λ v. v < length (equates list)) visited
all_below list e [] all = tt
all_below list e (v ∷ visited) all = (below_length (equates list) v all.0.0 all.0.1, all_below list e visited all.1)

one_below : (n : ℕ) (xs : List ℕ) → AllByRecursion (λ v. v < n) xs → (q : ℕ) → list_any (eqb q) xs ≡ true → q < n
one_below n [] all q is = let clash : false ≡ true = is in absurd cc
one_below n (x ∷ xs) all q is = by_test (eqb q x) refl is (λ more. one_below n xs all.1 q more)
  where
    by_test : (t : Bool) → eqb q x ≡ t → (t || list_any (eqb q) xs) ≡ true → (list_any (eqb q) xs ≡ true → q < n) → q < n
    by_test true e is go = omega (arith, eqb-true q x e, all.0)
    by_test false e is go = go is

-- ---- the law

abbrev Reports : List Member → List EquateAnswer → Type 0
Reports list table = (e : FoundDefinition) → IsIn (equates list) e → value_of_definition table e.place e.definition.at ≡ equate_value list table e

is_in_at : {A : Type 0} → (xs : List A) (k : ℕ) (x : A) → slice_get xs k ≡ Some x → IsIn xs x
is_in_at [] k x e = absurd cc
is_in_at {A} (y ∷ ys) zero x e = inl (some_same y x e)
  where
    some_same : (y x : A) → slice_get (y ∷ []) 0 ≡ Some x → y ≡ x
    some_same y x e = cc
is_in_at (y ∷ ys) (suc k) x e = inr (is_in_at ys k x e)

found_same : (list : List Member) (a b : List EquateAnswer) (e f : FoundDefinition) (name : List ℕ)
    → IsIn (names_in e.member.segment.fields.lab_len e.definition.expr) name → IsIn (finds list e.place e.member name) f
    → ((g : FoundDefinition) → LeadsTo list e g → value_of_definition a g.place g.definition.at ≡ value_of_definition b g.place g.definition.at) → found_value list a f ≡ found_value list b f
found_same list a b e f name asked found go = by_test (is_equate f) refl
  where
    no_expr : (x : Option (List ℕ)) (p r s : Result Value ValueFault) → Rattle.link_meaning.specs.laws.Steps.has_expr x ≡ false
        → elim x as (λ y. Result Value ValueFault) [ None ↦ p | Some text ↦ r ] ≡ elim x as (λ y. Result Value ValueFault) [ None ↦ p | Some text ↦ s ]
    no_expr None p r s is = refl
    no_expr (Some text) p r s is = let clash : true ≡ false = is in absurd cc

    by_test : (t : Bool) → is_equate f ≡ t → found_value list a f ≡ found_value list b f
    by_test false is = no_expr f.definition.expr _ _ _ is
    by_test true is =
        let leads : LeadsTo list e f = record { name = name; asked = asked; found = found; equate = is } in
        ap (λ (r : Result Value ValueFault). elim f.definition.expr as (λ y. Result Value ValueFault) [ None ↦ Ok (cond (eqb f.place 0) (Rattle.link_meaning.specs.LinkValues.outside_value f) (Rattle.link_meaning.specs.LinkValues.place_value list f.place f.member f.definition.place)) | Some text ↦ r ]) (go f leads)

pub alike_from : (list : List Member) (a b : List EquateAnswer) (e : FoundDefinition)
    → ((g : FoundDefinition) → LeadsTo list e g → value_of_definition a g.place g.definition.at ≡ value_of_definition b g.place g.definition.at)
    → AreAlike list a b e.place e.member (names_in e.member.segment.fields.lab_len e.definition.expr)
alike_from list a b e go =
    all_from (λ name. Alike list a b (finds list e.place e.member name)) (names_in e.member.segment.fields.lab_len e.definition.expr)
    (λ name asked. by_found (finds list e.place e.member name) (λ f is. found_same list a b e f name asked is go))
  where
    by_found : (found : List FoundDefinition) → ((f : FoundDefinition) → IsIn found f → found_value list a f ≡ found_value list b f) → Alike list a b found
    by_found [] each = tt
    by_found (f ∷ found) each = each f (inl refl)

reported_same : (n : ℕ) (list : List Member) (a b : List EquateAnswer) (visited : List ℕ) (e : FoundDefinition) (k : ℕ) → Reports list a → Reports list b
    → ((g : FoundDefinition) → IsIn (equates list) g → IsCircular list g → ⊥) → slice_get (equates list) k ≡ Some e → AllByRecursion (Before list e) visited
    → IsDistinct eqb (k ∷ visited) → length visited + n ≡ length (equates list) → value_of_definition a e.place e.definition.at ≡ value_of_definition b e.place e.definition.at
unfolding IsDistinct
reported_same zero list a b visited e k p q straight at before distinct size =
    let within = one_below (length (equates list)) (k ∷ visited) (below_length (equates list) k e at, all_below list e visited before) in
    let few : length (k ∷ visited) ≤ length (equates list) = length-le_from_distinct_below (k ∷ visited) (length (equates list)) distinct within in
    absurd (omega (arith, few, size))
reported_same (suc n) list a b visited e k p q straight at before distinct size =
    let here = is_in_at (equates list) k e at in
    p e here
    ∙ equate_same list a b e (alike_from list a b e (λ f leads.
    let inside = in_equates list e f leads in
    let place = position_of (equates list) f inside in
    let reached : AllByRecursion (Before list f) (k ∷ visited) = ((e, at, Last e f leads), all_on list e f visited before leads) in
    reported_same n list a b (k ∷ visited) f place.0 p q straight place.1 reached
    (apart list f place.0 (k ∷ visited) (straight f inside) place.1 reached, distinct) (omega (arith, size))))
    ∙ sym (q e here)

pub reports_of : (list : List Member) (table : List EquateAnswer) (es : List FoundDefinition) (rows : List EquateAnswer) → AreReported list table es rows
    → (e : FoundDefinition) → IsIn es e → value_of_definition table e.place e.definition.at ≡ equate_value list table e
reports_of list table [] rows are e is = absurd is
reports_of list table (x ∷ es) [] are e is = absurd are
reports_of list table (x ∷ es) (t ∷ rows) are e (inl same) =
    subst (λ (y : FoundDefinition). value_of_definition table y.place y.definition.at ≡ equate_value list table y) same are.3
reports_of list table (x ∷ es) (t ∷ rows) are e (inr more) = reports_of list table es rows are.4 e more

rows_same : (list : List Member) (a b : List EquateAnswer) (es : List FoundDefinition) (xs ys : List EquateAnswer) → AreReported list a es xs → AreReported list b es ys
    → ((e : FoundDefinition) → IsIn es e → value_of_definition a e.place e.definition.at ≡ value_of_definition b e.place e.definition.at) → xs ≡ ys
rows_same list a b [] [] [] p q same = refl
rows_same list a b [] [] (y ∷ ys) p q same = absurd q
rows_same list a b [] (x ∷ xs) ys p q same = absurd p
rows_same list a b (e ∷ es) [] ys p q same = absurd p
rows_same list a b (e ∷ es) (x ∷ xs) [] p q same = absurd q
rows_same list a b (e ∷ es) (x ∷ xs) (y ∷ ys) p q same =
    let answer : x.answer ≡ y.answer = p.2 ∙ same e (inl refl) ∙ sym q.2 in
    let head : x ≡ y = ap (λ (n : ℕ). row n x.at x.answer) (p.0 ∙ sym q.0) ∙ ap (λ (n : ℕ). row y.place n x.answer) (p.1 ∙ sym q.1) ∙ ap (row y.place y.at) answer in
    ap (λ (t : EquateAnswer). t ∷ xs) head ∙ ap (λ (l : List EquateAnswer). y ∷ l) (rows_same list a b es xs ys p.4 q.4 (λ f is. same f (inr is)))
  where
    row : ℕ → ℕ → Result Value ValueFault → EquateAnswer
    row place at answer = record { place = place; at = at; answer = answer }

pub one_table : (list : List Member) (a b : List EquateAnswer) → IsTable list a → IsTable list b → a ≡ b
unfolding IsDistinct
one_table list a b p q =
    let reports_a = reports_of list a (equates list) a p.rows in
    let reports_b = reports_of list b (equates list) b q.rows in
    rows_same list a b (equates list) a b p.rows q.rows (λ e is.
    let place = position_of (equates list) e is in
    reported_same (length (equates list)) list a b [] e place.0 reports_a reports_b p.straight place.1 tt (tt, tt) (omega arith))

-- ---- from equates to those that lead to them

by_cycles_from : (n : ℕ) (list : List Member) (P : FoundDefinition → Type 0) (visited : List ℕ) (e : FoundDefinition) (k : ℕ) → ((g : FoundDefinition) → IsIn (equates list) g → IsCircular list g → ⊥)
    → ((g : FoundDefinition) → IsIn (equates list) g → ((f : FoundDefinition) → LeadsTo list g f → P f) → P g) → slice_get (equates list) k ≡ Some e → AllByRecursion (Before list e) visited
    → IsDistinct eqb (k ∷ visited) → length visited + n ≡ length (equates list) → P e
unfolding IsDistinct
by_cycles_from zero list P visited e k straight step at before distinct size =
    let within = one_below (length (equates list)) (k ∷ visited) (below_length (equates list) k e at, all_below list e visited before) in
    let few : length (k ∷ visited) ≤ length (equates list) = length-le_from_distinct_below (k ∷ visited) (length (equates list)) distinct within in
    absurd (omega (arith, few, size))
by_cycles_from (suc n) list P visited e k straight step at before distinct size =
    step e (is_in_at (equates list) k e at) (λ f leads.
    let inside = in_equates list e f leads in
    let place = position_of (equates list) f inside in
    let reached : AllByRecursion (Before list f) (k ∷ visited) = ((e, at, Last e f leads), all_on list e f visited before leads) in
    by_cycles_from n list P (k ∷ visited) f place.0 straight step place.1 reached
    (apart list f place.0 (k ∷ visited) (straight f inside) place.1 reached, distinct) (omega (arith, size)))

-- Without cycles, what holds of an equate where it holds of all to which it leads, holds of every equate.
pub by_cycles : (list : List Member) (P : FoundDefinition → Type 0) → ((g : FoundDefinition) → IsIn (equates list) g → IsCircular list g → ⊥)
    → ((g : FoundDefinition) → IsIn (equates list) g → ((f : FoundDefinition) → LeadsTo list g f → P f) → P g) → (e : FoundDefinition) → IsIn (equates list) e → P e
unfolding IsDistinct
by_cycles list P straight step e is =
    let place = position_of (equates list) e is in
    by_cycles_from (length (equates list)) list P [] e place.0 straight step place.1 tt (tt, tt) (omega arith)
