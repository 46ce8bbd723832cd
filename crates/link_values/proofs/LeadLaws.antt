-- The numbers of the equates to which an equate leads.
use Rattle.std.proofs.Common.{◌≡◌, ◌⊎◌, inl, inr, ℕ, zero, suc, ◌+◌, ◌≤◌, Bool, true, false, cond, List, [], ◌∷◌, ◌++◌, length, Option, Some, None, refl, sym, ap, subst, ◌∙◌, append_assoc, append-nil}
use Rattle.std.specs.Prelude.{slice_get, drop}
use Rattle.std.proofs.lemmas.Bool.{le-leb}
use Rattle.std.specs.List.{flat_map}
use Rattle.std.proofs.lemmas.List.Concat.{flat_map-cons}
use Rattle.omf_format.specs.declared.value.Value.{Value}
use Rattle.omf_format.specs.Expression.{Term, Operator, Named, Tree, Leaf, Unary, Binary, terms_of, terms_text, placed_terms, terms_in, Spells}
use Rattle.omf_format.specs.laws.ExpressionLaws.{terms_are}
use Rattle.link_meaning.specs.First.{IsIn}
use Rattle.link_meaning.specs.Member.{Member}
use Rattle.object_meaning.specs.Terms.{asks_value, asked_by}
use Rattle.object_meaning.specs.laws.Steps.{asked_in}
use Rattle.object_meaning.specs.laws.TreeInLaws.{tree_in-again}
use Rattle.link_meaning.specs.Search.{FoundDefinition, entries, finds}
use Rattle.link_program.specs.Outside.{all_found}
use Rattle.link_meaning.specs.Cycles.{is_equate}
use Rattle.link_meaning.specs.laws.Steps.{names_in}
use Rattle.link_program.specs.Linked.{member_at}
use Rattle.link_program.specs.Finding.{IsFirstOf, finds_for}
use Rattle.cycles.specs.Graphs as cycle_order
use Rattle.link_values.specs.declared.slots.ValueSlot.{ValueSlot}
use Rattle.link_values.specs.declared.slots.ValueSlot.TheVariants.{Open, Done}
use Rattle.link_values.specs.Equates.{AreFirstSlots, IsOpen, IsRow, NameRow, FindOne}
use Rattle.link_values.proofs.ValueLaws.{placed-append}
use Rattle.link_program.specs.OfFiles.{IsOfFiles}
use Rattle.link_values.proofs.FileFacts.{spelled_of, find_one_of}
use Rattle.link_values.proofs.EquateLaws.{first_at}

-- ---- names of a tree

abbrev asks : ℕ × Term → List (List ℕ)
asks placed = asks_value placed.1

flat-append : (xs ys : List (ℕ × Term)) → flat_map asks (xs ++ ys) ≡ flat_map asks xs ++ flat_map asks ys
flat-append [] ys = refl
flat-append (x ∷ xs) ys =
    flat_map-cons asks x (xs ++ ys)
    ∙ ap (λ (l : List (List ℕ)). asks x ++ l) (flat-append xs ys)
    ∙ sym (append_assoc (asks x) (flat_map asks xs) (flat_map asks ys))
    ∙ ap (λ (l : List (List ℕ)). l ++ flat_map asks ys) (sym (flat_map-cons asks x xs))

asked_terms : (l p : ℕ) (t : Tree) → asked_by t ≡ flat_map asks (placed_terms l p (terms_of t))
asked_terms l p (Leaf term) = sym (append-nil (asks_value term)) ∙ sym (flat_map-cons asks (p, term) [])
asked_terms l p (Unary code a) =
    asked_terms l p a
    ∙ sym (append-nil (flat_map asks (placed_terms l p (terms_of a))))
    ∙ sym (flat-append (placed_terms l p (terms_of a)) (placed_terms l (p + length (terms_text l (terms_of a))) (Operator code ∷ [])))
    ∙ ap (flat_map asks) (sym (placed-append l p (terms_of a) (Operator code ∷ [])))
asked_terms l p (Binary code a b) =
    let following = p + length (terms_text l (terms_of a)) in
    let last = following + length (terms_text l (terms_of b)) in
    let right : asked_by b ≡ flat_map asks (placed_terms l following (terms_of b ++ Operator code ∷ [])) =
    asked_terms l following b
    ∙ sym (append-nil (flat_map asks (placed_terms l following (terms_of b))))
    ∙ sym (flat-append (placed_terms l following (terms_of b)) (placed_terms l last (Operator code ∷ [])))
    ∙ ap (flat_map asks) (sym (placed-append l following (terms_of b) (Operator code ∷ []))) in
    ap (λ (x : List (List ℕ)). x ++ asked_by b) (asked_terms l p a)
    ∙ ap (λ (x : List (List ℕ)). flat_map asks (placed_terms l p (terms_of a)) ++ x) right
    ∙ sym (flat-append (placed_terms l p (terms_of a)) (placed_terms l following (terms_of b ++ Operator code ∷ [])))
    ∙ ap (flat_map asks) (sym (placed-append l p (terms_of a) (terms_of b ++ Operator code ∷ [])))

pub names_are : (l : ℕ) (text : List ℕ) (t : Tree) → Spells l text t → names_in l (Some text) ≡ flat_map (λ placed. asks_value placed.1) (terms_in l 0 text)
names_are l text t spells = ap asked_in (tree_in-again l text t spells) ∙ asked_terms l 0 t ∙ ap (flat_map asks) (sym (terms_are l text t spells))

-- ---- rows of names

in_left : (xs ys : List (List ℕ)) (x : List ℕ) → IsIn xs x → IsIn (xs ++ ys) x
in_left [] ys x is = absurd is
in_left (y ∷ xs) ys x (inl e) = inl e
in_left (y ∷ xs) ys x (inr more) = inr (in_left xs ys x more)

in_right : (xs ys : List (List ℕ)) (x : List ℕ) → IsIn ys x → IsIn (xs ++ ys) x
in_right [] ys x is = is
in_right (y ∷ xs) ys x is = inr (in_right xs ys x is)

in_pushed : (xs : List (List ℕ)) (y x : List ℕ) → IsIn (xs ++ y ∷ []) x → IsIn xs x ⊎ (y ≡ x)
in_pushed [] y x (inl e) = inr e
in_pushed [] y x (inr more) = absurd more
in_pushed (z ∷ xs) y x (inl e) = inl (inl e)
in_pushed (z ∷ xs) y x (inr more) = elim (in_pushed xs y x more) [
  | inl h ↦ inl (inr h)
  | inr h ↦ inr h
]

row_front : (xs : List ℕ) (n x : ℕ) → cycle_order.IsIn xs x → cycle_order.IsIn (xs ++ n ∷ []) x
row_front [] n x is = absurd is
row_front (y ∷ xs) n x (inl e) = inl e
row_front (y ∷ xs) n x (inr more) = inr (row_front xs n x more)

row_last : (xs : List ℕ) (n : ℕ) → cycle_order.IsIn (xs ++ n ∷ []) n
row_last [] n = inl refl
row_last (y ∷ xs) n = inr (row_last xs n)

row_pushed : (xs : List ℕ) (n x : ℕ) → cycle_order.IsIn (xs ++ n ∷ []) x → cycle_order.IsIn xs x ⊎ (n ≡ x)
row_pushed [] n x (inl e) = inr e
row_pushed [] n x (inr more) = absurd more
row_pushed (z ∷ xs) n x (inl e) = inl (inl e)
row_pushed (z ∷ xs) n x (inr more) = elim (row_pushed xs n x more) [
  | inl h ↦ inl (inr h)
  | inr h ↦ inr h
]

more_sound : (list : List Member) (place : ℕ) (m : Member) (names : List (List ℕ)) (name : List ℕ) (row : List ℕ) → NameRow list place m names row → (k : ℕ) → cycle_order.IsIn row k
    → (f : FoundDefinition) × (slice_get (all_found list) k ≡ Some f) × ((other : List ℕ) × IsIn (names ++ name ∷ []) other × IsIn (finds list place m other) f) × (is_equate f ≡ true)
more_sound list place m names name row is k there =
    let s = is.sound k there in
    (s.0, s.1, (s.2.0, in_left names (name ∷ []) s.2.0 s.2.1, s.2.2), s.3)

-- a name that finds no equate
pub name_without : (list : List Member) (place : ℕ) (m : Member) (names : List (List ℕ)) (name : List ℕ) (row : List ℕ) → ((f : FoundDefinition) → IsIn (finds list place m name) f → is_equate f ≡ true → ⊥)
    → NameRow list place m names row → NameRow list place m (names ++ name ∷ []) row
name_without list place m names name row none is = record {
  sound = more_sound list place m names name row is;
  whole = λ f other asked found equate. elim (in_pushed names name other asked) [
    | inl h ↦ is.whole f other h found equate
    | inr e ↦ absurd (none f (subst (λ (x : List ℕ). IsIn (finds list place m x) f) (sym e) found) equate)
  ];
}

-- a name that finds one
pub name_with : (list : List Member) (place : ℕ) (m : Member) (names : List (List ℕ)) (name : List ℕ) (row : List ℕ) (n : ℕ) (f : FoundDefinition) → slice_get (all_found list) n ≡ Some f → is_equate f ≡ true
    → IsIn (finds list place m name) f → ((g : FoundDefinition) → IsIn (finds list place m name) g → f ≡ g) → NameRow list place m names row → NameRow list place m (names ++ name ∷ []) (row ++ n ∷ [])
name_with list place m names name row n f at equate found one is = record {
  sound = λ k there. by_sound k (row_pushed row n k there);
  whole = λ g other asked finds' equate'. by_whole g other finds' equate' (in_pushed names name other asked);
}
  where
    by_sound : (k : ℕ) → cycle_order.IsIn row k ⊎ (n ≡ k) → (f : FoundDefinition) × (slice_get (all_found list) k ≡ Some f) × ((other : List ℕ) × IsIn (names ++ name ∷ []) other × IsIn (finds list place m other) f) × (is_equate f ≡ true)
    by_sound k (inl h) = more_sound list place m names name row is k h
    by_sound k (inr e) = (f, subst (λ (x : ℕ). slice_get (all_found list) x ≡ Some f) e at, (name, in_right names (name ∷ []) name (inl refl), found), equate)

    by_whole : (g : FoundDefinition) (other : List ℕ) → IsIn (finds list place m other) g → is_equate g ≡ true → IsIn names other ⊎ (name ≡ other) → (k : ℕ) × cycle_order.IsIn (row ++ n ∷ []) k × (slice_get (all_found list) k ≡ Some g)
    by_whole g other finds' equate' (inl h) = let w = is.whole g other h finds' equate' in (w.0, row_front row n w.0 w.1, w.2)
    by_whole g other finds' equate' (inr e) =
        let same : f ≡ g = one g (subst (λ (x : List ℕ). IsIn (finds list place m x) g) (sym e) finds') in
        (n, row_last row n, subst (λ (x : FoundDefinition). slice_get (all_found list) n ≡ Some x) same at)

-- ---- what the number of the first that was found says

finds_there : (list : List Member) (place : ℕ) (m : Member) (name : List ℕ) (o : Option ℕ) → member_at list place ≡ Some m → IsFirstOf (all_found list) (finds_for list place (member_at list place) name) o
    → IsFirstOf (all_found list) (finds list place m name) o
finds_there list place m name o there first = subst (λ (x : Option Member). IsFirstOf (all_found list) (finds_for list place x name) o) there first

pub found_none : (list : List Member) (place : ℕ) (m : Member) (name : List ℕ) → member_at list place ≡ Some m → IsFirstOf (all_found list) (finds_for list place (member_at list place) name) None
    → (f : FoundDefinition) → IsIn (finds list place m name) f → is_equate f ≡ true → ⊥
found_none list place m name there first f is equate = by_found (finds list place m name) (finds_there list place m name None there first) is
  where
    by_found : (found : List FoundDefinition) → IsFirstOf (all_found list) found None → IsIn found f → ⊥
    by_found [] first is = is
    by_found (g ∷ found) first is = first

pub found_some : (list : List Member) (place : ℕ) (m : Member) (name : List ℕ) (n : ℕ) → member_at list place ≡ Some m → IsFirstOf (all_found list) (finds_for list place (member_at list place) name) (Some n)
    → (f : FoundDefinition) × (slice_get (all_found list) n ≡ Some f) × IsIn (finds list place m name) f
found_some list place m name n there first = by_found (finds list place m name) refl (finds_there list place m name (Some n) there first)
  where
    by_found : (found : List FoundDefinition) → finds list place m name ≡ found → IsFirstOf (all_found list) found (Some n) → (f : FoundDefinition) × (slice_get (all_found list) n ≡ Some f) × IsIn (finds list place m name) f
    by_found [] e first = absurd first
    by_found (f ∷ found) e first = (f, first, subst (λ (l : List FoundDefinition). IsIn l f) (sym e) (inl refl))

open_done : (v : Value) → Open ≡ Done v → ⊥
open_done v e = cc

has_slot_at : (list : List Member) (fs : List FoundDefinition) (slots : List ValueSlot) (n : ℕ) (f : FoundDefinition) → AreFirstSlots list fs slots → slice_get fs n ≡ Some f → (s : ValueSlot) × (slice_get slots n ≡ Some s)
has_slot_at list [] slots n f are here = absurd cc
has_slot_at list (g ∷ fs) [] n f are here = absurd are
has_slot_at list (g ∷ fs) (s ∷ slots) zero f are here = (s, refl)
has_slot_at list (g ∷ fs) (s ∷ slots) (suc k) f are here = has_slot_at list fs slots k f are.1 here

-- an unset slot is an equate's
pub open_is : (list : List Member) (slots : List ValueSlot) (n : ℕ) (f : FoundDefinition) → AreFirstSlots list (all_found list) slots → slice_get (all_found list) n ≡ Some f → IsOpen slots n → is_equate f ≡ true
open_is list slots n f are at unset = by_test (is_equate f) refl
  where
    by_test : (b : Bool) → is_equate f ≡ b → is_equate f ≡ true
    by_test true is = is
    by_test false is = absurd (open_done _ ((first_at list (all_found list) slots n f Open are at unset).label is))

pub shut_is : (list : List Member) (slots : List ValueSlot) (n : ℕ) (f : FoundDefinition) → AreFirstSlots list (all_found list) slots → slice_get (all_found list) n ≡ Some f → (IsOpen slots n → ⊥) → is_equate f ≡ true → ⊥
shut_is list slots n f are at shut equate =
    let s = has_slot_at list (all_found list) slots n f are at in
    shut (s.1 ∙ ap (λ (t : ValueSlot). Some t) ((first_at list (all_found list) slots n f s.0 are at s.1).equate equate))

-- ---- the row of a definition

pub row_of_names : (list : List Member) (e : FoundDefinition) (text : List ℕ) (t : Tree) (row : List ℕ) → e.definition.expr ≡ Some text → Spells e.member.segment.fields.lab_len text t
    → NameRow list e.place e.member (flat_map (λ placed. asks_value placed.1) (terms_in e.member.segment.fields.lab_len 0 text)) row → IsRow list e row
row_of_names list e text t row has spells is = record {
  sound = λ k there. let s = is.sound k there in (s.0, s.1, record { name = s.2.0; asked = subst (λ (l : List (List ℕ)). IsIn l s.2.0) (sym names) s.2.1; found = s.2.2; equate = s.3 });
  whole = λ f leads. is.whole f leads.name (subst (λ (l : List (List ℕ)). IsIn l leads.name) names leads.asked) leads.found leads.equate;
}
  where
    names : names_in e.member.segment.fields.lab_len e.definition.expr ≡ flat_map (λ (placed : ℕ × Term). asks_value placed.1) (terms_in e.member.segment.fields.lab_len 0 text)
    names = ap (names_in e.member.segment.fields.lab_len) has ∙ names_are e.member.segment.fields.lab_len text t spells

-- ---- the walk over terms

pub named_more : (list : List Member) (place : ℕ) (m : Member) (whole done : List (List ℕ)) (t : ℕ × Term) (terms all : List (ℕ × Term)) → done ++ flat_map asks all ≡ whole → all ≡ t ∷ terms
    → (done ++ asks t) ++ flat_map asks terms ≡ whole
named_more list place m whole done t terms all parts is =
    append_assoc done (asks t) (flat_map asks terms) ∙ ap (λ (l : List (List ℕ)). done ++ l) (sym (flat_map-cons asks t terms)) ∙ ap (λ (l : List (ℕ × Term)). done ++ flat_map asks l) (sym is) ∙ parts

pub one_more : (list : List Member) (place : ℕ) (m : Member) (whole done : List (List ℕ)) (t : ℕ × Term) (terms all : List (ℕ × Term)) → done ++ flat_map asks all ≡ whole → all ≡ t ∷ terms
    → FindOne list place m whole → FindOne list place m (asks t)
one_more list place m whole done t terms all parts is one name f g asked =
    one name f g (subst (λ (l : List (List ℕ)). IsIn l name) parts (in_right done (flat_map asks all) name (subst (λ (l : List (ℕ × Term)). IsIn (flat_map asks l) name) (sym is) (subst (λ (l : List (List ℕ)). IsIn l name) (sym (flat_map-cons asks t terms)) (in_left (asks t) (flat_map asks terms) name asked)))))

pub named_asks : (code : ℕ) (name : List ℕ) → code ≤ 0x83 → asks_value (Named code name) ≡ name ∷ []
named_asks code name le = ap (λ (b : Bool). cond b (name ∷ []) []) (le-leb code 0x83 le)

pub split_terms : (all rest : List (ℕ × Term)) (t : ℕ × Term) → Some t ≡ slice_get all 0 → rest ≡ drop 1 all → all ≡ t ∷ rest
split_terms [] rest t e is = absurd cc
split_terms (x ∷ all) rest t e is =
    let same : t ≡ x = cc in
    ap (λ (y : ℕ × Term). y ∷ all) (sym same) ∙ ap (λ (l : List (ℕ × Term)). t ∷ l) (sym is)

-- the row of the names that an equate's expression asks for
pub row_from : (list : List Member) → IsOfFiles list → (k : ℕ) (f : FoundDefinition) → slice_get (entries list) k ≡ Some f → (place l : ℕ) (text row old : List ℕ) → f.definition.expr ≡ Some text → place ≡ f.place
    → l ≡ f.member.segment.fields.lab_len → member_at list place ≡ Some f.member → old ≡ []
    → ((m : Member) → member_at list place ≡ Some m → FindOne list place m (flat_map (λ placed. asks_value placed.1) (terms_in l 0 text)) → old ≡ [] → NameRow list place m (flat_map (λ placed. asks_value placed.1) (terms_in l 0 text)) row)
    → IsRow list f row
row_from list of k f at place l text row old expr place_is l_is there none go =
    let spelled = spelled_of list of k f text at expr in
    let one = find_one_of list of k f text at expr in
    let one' : FindOne list place f.member (flat_map (λ (placed : ℕ × Term). asks_value placed.1) (terms_in l 0 text)) =
    subst (λ (n : ℕ). FindOne list n f.member (flat_map (λ (placed : ℕ × Term). asks_value placed.1) (terms_in l 0 text))) (sym place_is)
    (subst (λ (n : ℕ). FindOne list f.place f.member (flat_map (λ (placed : ℕ × Term). asks_value placed.1) (terms_in n 0 text))) (sym l_is) one) in
    row_of_names list f text spelled.tree row expr spelled.spells
    (subst (λ (n : ℕ). NameRow list f.place f.member (flat_map (λ (placed : ℕ × Term). asks_value placed.1) (terms_in n 0 text)) row) l_is
    (subst (λ (n : ℕ). NameRow list n f.member (flat_map (λ (placed : ℕ × Term). asks_value placed.1) (terms_in l 0 text)) row) place_is (go f.member there one' none)))
