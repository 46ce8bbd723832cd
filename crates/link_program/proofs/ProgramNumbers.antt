-- What numbers of definitions and of exported names mean, as a program reports it.
use Rattle.std.proofs.Common.{◌≡◌, inl, inr, ℕ, zero, suc, ◌+◌, ◌-◌, ◌<◌, ◌≤◌, Bool, false, eqb, cond, List, [], ◌∷◌, ◌++◌, length, Option, Some, None, refl, sym, ap, subst, ◌∙◌, arith}
use Rattle.std.specs.Prelude.{slice_get, option_map, ◌==◌, if◌then◌else◌}
use Rattle.std.specs.List.{AllByRecursion}
use Rattle.std.proofs.lemmas.Bool.{ne_eqb}
use Rattle.link_meaning.specs.First.{IsIn}
use Rattle.link_meaning.specs.Member.{Member, setting_in}
use Rattle.link_meaning.specs.Search.{FoundDefinition, entries, outside, finds}
use Rattle.link_meaning.specs.Layout.{load_of, offset_of}
use Rattle.link_meaning.specs.laws.PlaceFits.{entry_there}
use Rattle.link_tables.specs.Listed.{DefinitionRow}
use Rattle.link_tables.specs.Definitions.{definition_view}
use Rattle.link_program.specs.Linked.{member_at}
use Rattle.link_program.specs.Resolving.{first_found}
use Rattle.link_program.specs.Finding.{IsFirstOf, finds_for, found_in}
use Rattle.link_program.specs.declared.outside.Far.{Far}
use Rattle.link_program.specs.Outside.{all_found, far_of, IsFar}
use Rattle.link_program.specs.declared.program.LinkMember.{LinkMember}
use Rattle.link_program.specs.Programs.{SymbolView, symbol_view, linked_at}

-- ---- places of a list

get_front : (xs ys : List FoundDefinition) (k : ℕ) → k < length xs → slice_get (xs ++ ys) k ≡ slice_get xs k
get_front [] ys k less = absurd (omega (arith, less))
get_front (x ∷ xs) ys zero less = refl
get_front (x ∷ xs) ys (suc k) less = get_front xs ys k (omega (arith, less))

get_after : (xs ys : List FoundDefinition) (k : ℕ) → slice_get (xs ++ ys) (length xs + k) ≡ slice_get ys k
get_after [] ys k = let same : 0 + k ≡ k = omega arith in ap (slice_get ys) same
get_after (x ∷ xs) ys k = let same : suc (length xs) + k ≡ suc (length xs + k) = omega arith in ap (slice_get (x ∷ xs ++ ys)) same ∙ get_after xs ys k

-- a number below the count is that of a definition, and any other that of an exported name
pub inside_at : (list : List Member) (k : ℕ) → k < length (entries list) → slice_get (all_found list) k ≡ slice_get (entries list) k
inside_at list k less = get_front (entries list) (outside (setting_in list)) k less

pub outside_at : (list : List Member) (count k : ℕ) → count ≡ length (entries list) → count ≤ k → slice_get (all_found list) k ≡ slice_get (outside (setting_in list)) (k - count)
outside_at list count k is le =
    let same : k ≡ length (entries list) + (k - count) = omega (arith, is, le) in
    ap (slice_get (all_found list)) same ∙ get_after (entries list) (outside (setting_in list)) (k - count)

-- ---- an entry's place names its member

in_list : (fs : List FoundDefinition) (k : ℕ) (f : FoundDefinition) → slice_get fs k ≡ Some f → IsIn fs f
in_list [] k f e = absurd cc
in_list (g ∷ fs) zero f e = inl (same g f e)
  where
    same : (x y : FoundDefinition) → Some x ≡ Some y → x ≡ y
    same x y e = cc
in_list (g ∷ fs) (suc k) f e = inr (in_list fs k f e)

get_parts : (front : List Member) (m : Member) (back : List Member) → slice_get (front ++ m ∷ back) (length front) ≡ Some m
get_parts [] m back = refl
get_parts (o ∷ front) m back = get_parts front m back

record HasPlace (list : List Member) (f : FoundDefinition) : Type 0 where
  k : ℕ
  number : f.place ≡ suc k
  there : member_at list f.place ≡ Some f.member

entry_place : (list : List Member) (k : ℕ) (f : FoundDefinition) → slice_get (entries list) k ≡ Some f → HasPlace list f
entry_place list k f at =
    let is = entry_there list f (in_list (entries list) k f at) in
    let next : f.place ≡ suc (length is.front) = omega (arith, is.number) in
    record {
      k = length is.front;
      number = next;
      there = ap (member_at list) next ∙ ap (λ (l : List Member). slice_get l (length is.front)) is.parts ∙ get_parts is.front f.member is.back;
    }

-- ---- what is reported

abbrev symbol : List Member → ℕ → Member → ℕ → Option (List ℕ) → ℕ → ℕ → SymbolView
symbol list place m at expr size form = record {
  member = place;
  file = if place == 0 then m.file else 1;
  segment = if place == 0 then m.number else load_of list m;
  at = at;
  expr = expr;
  length = size;
  form = form;
}

-- of a definition that a member has
abbrev pub inside_symbol : DefinitionRow → ℕ → SymbolView
inside_symbol d load = record { member = d.member; file = 1; segment = load; at = d.at; expr = d.expr; length = d.length; form = d.form }

some_same : {A : Type 0} → (x y : A) → Some x ≡ Some y → x ≡ y
some_same x y e = cc

abbrev by_test : List Member → FoundDefinition → Bool → SymbolView
by_test list f b = record {
  member = f.place;
  file = cond b f.member.file 1;
  segment = cond b f.member.number (load_of list f.member);
  at = f.definition.place;
  expr = f.definition.expr;
  length = f.definition.size;
  form = f.definition.form;
}

inside_is : (list : List Member) (f : FoundDefinition) → HasPlace list f → inside_symbol (definition_view f) (load_of list f.member) ≡ symbol_view list f
inside_is list f has =
    let other : eqb f.place 0 ≡ false = ne_eqb f.place 0 (λ (e : f.place ≡ 0). absurd (omega (arith, has.number, e))) in
    sym (ap (by_test list f) other)

abbrev linked : List Member → ℕ → Member → LinkMember
linked list place m = record { file = m.file; segment = m.number; load_segment = load_of list m; offset = offset_of list place m }

load_is : (list : List Member) (place : ℕ) (m : Member) (lm : LinkMember) → Some lm ≡ linked_at list place → member_at list place ≡ Some m → lm.load_segment ≡ load_of list m
load_is list place m lm is there =
    let same : lm ≡ linked list place m = some_same lm (linked list place m) (is ∙ ap (option_map (linked list place)) there) in
    ap (λ (l : LinkMember). l.load_segment) same

pub member_symbol : (list : List Member) (k : ℕ) (d : DefinitionRow) (lm : LinkMember) → k < length (entries list) → Some d ≡ option_map definition_view (slice_get (entries list) k)
    → Some lm ≡ linked_at list d.member → Some (inside_symbol d lm.load_segment) ≡ option_map (symbol_view list) (slice_get (all_found list) k)
member_symbol list k d lm less reported is = by_found (slice_get (entries list) k) refl reported
  where
    by_found : (o : Option FoundDefinition) → slice_get (entries list) k ≡ o → Some d ≡ option_map definition_view o → Some (inside_symbol d lm.load_segment) ≡ option_map (symbol_view list) (slice_get (all_found list) k)
    by_found None at e = absurd cc
    by_found (Some f) at e =
        let has = entry_place list k f at in
        let same : d ≡ definition_view f = some_same d (definition_view f) e in
        let there : member_at list d.member ≡ Some f.member = ap (λ (t : DefinitionRow). member_at list t.member) same ∙ has.there in
        let load : lm.load_segment ≡ load_of list f.member = load_is list d.member f.member lm is there in
        ap (λ (t : DefinitionRow). Some (inside_symbol t lm.load_segment)) same
        ∙ ap (λ (n : ℕ). Some (inside_symbol (definition_view f) n)) load
        ∙ ap (λ (s : SymbolView). Some s) (inside_is list f has)
        ∙ sym (ap (option_map (symbol_view list)) (inside_at list k less ∙ at))

-- a number below the count has a definition
pub no_definition : (list : List Member) (k : ℕ) → k < length (entries list) → None ≡ option_map definition_view (slice_get (entries list) k) → ⊥
no_definition list k less e = by_found (slice_get (entries list) k) refl e
  where
    by_found : (o : Option FoundDefinition) → slice_get (entries list) k ≡ o → None ≡ option_map definition_view o → ⊥
    by_found None at e = past (entries list) k less at
      where
        past : (fs : List FoundDefinition) (n : ℕ) → n < length fs → slice_get fs n ≡ None → ⊥
        past [] n less at = omega (arith, less)
        past (g ∷ fs) zero less at = absurd cc
        past (g ∷ fs) (suc n) less at = past fs n (omega (arith, less)) at
    by_found (Some f) at e = absurd cc

-- and its member is there
pub no_member : (list : List Member) (k : ℕ) (d : DefinitionRow) → Some d ≡ option_map definition_view (slice_get (entries list) k) → None ≡ linked_at list d.member → ⊥
no_member list k d reported is = by_found (slice_get (entries list) k) refl reported
  where
    by_found : (o : Option FoundDefinition) → slice_get (entries list) k ≡ o → Some d ≡ option_map definition_view o → ⊥
    by_found None at e = absurd cc
    by_found (Some f) at e =
        let has = entry_place list k f at in
        let same : d ≡ definition_view f = some_same d (definition_view f) e in
        let there : linked_at list d.member ≡ Some (linked list d.member f.member) = ap (option_map (linked list d.member)) (ap (λ (t : DefinitionRow). member_at list t.member) same ∙ has.there) in
        none_some (linked list d.member f.member) (is ∙ there)
      where
        none_some : (x : LinkMember) → None ≡ Some x → ⊥
        none_some x e = cc

-- ---- exported names

abbrev pub outside_symbol : Far → SymbolView
outside_symbol far = record { member = 0; file = far.file; segment = far.segment; at = far.offset; expr = None; length = 0; form = 0x4E }

outside_is : (list : List Member) (f : FoundDefinition) → IsFar f → outside_symbol (far_of f) ≡ symbol_view list f
outside_is list f far =
    let d = f.definition in
    sym (ap (λ (p : ℕ). symbol list p f.member d.place d.expr d.size d.form) far.place
    ∙ ap (λ (e : Option (List ℕ)). symbol list 0 f.member d.place e d.size d.form) far.expr
    ∙ ap (λ (n : ℕ). symbol list 0 f.member d.place None n d.form) far.size
    ∙ ap (λ (n : ℕ). symbol list 0 f.member d.place None 0 n) far.form)

far_at : (fs : List FoundDefinition) (k : ℕ) (f : FoundDefinition) → AllByRecursion IsFar fs → slice_get fs k ≡ Some f → IsFar f
far_at [] k f all e = absurd cc
far_at (g ∷ fs) zero f all e = subst IsFar (some_same g f e) all.0
far_at (g ∷ fs) (suc k) f all e = far_at fs k f all.1 e

pub far_symbol : (list : List Member) (count k : ℕ) (far : Far) → AllByRecursion IsFar (outside (setting_in list)) → count ≡ length (entries list) → count ≤ k
    → Some far ≡ option_map far_of (slice_get (outside (setting_in list)) (k - count)) → Some (outside_symbol far) ≡ option_map (symbol_view list) (slice_get (all_found list) k)
far_symbol list count k far all is le reported = by_found (slice_get (outside (setting_in list)) (k - count)) refl reported
  where
    by_found : (o : Option FoundDefinition) → slice_get (outside (setting_in list)) (k - count) ≡ o → Some far ≡ option_map far_of o → Some (outside_symbol far) ≡ option_map (symbol_view list) (slice_get (all_found list) k)
    by_found None at e = absurd cc
    by_found (Some f) at e =
        ap (λ (x : Far). Some (outside_symbol x)) (some_same far (far_of f) e)
        ∙ ap (λ (s : SymbolView). Some s) (outside_is list f (far_at (outside (setting_in list)) (k - count) f all at))
        ∙ sym (ap (option_map (symbol_view list)) (outside_at list count k is le ∙ at))

pub no_far : (list : List Member) (count k : ℕ) → count ≡ length (entries list) → count ≤ k → None ≡ option_map far_of (slice_get (outside (setting_in list)) (k - count)) → None ≡ option_map (symbol_view list) (slice_get (all_found list) k)
no_far list count k is le reported = by_found (slice_get (outside (setting_in list)) (k - count)) refl reported
  where
    by_found : (o : Option FoundDefinition) → slice_get (outside (setting_in list)) (k - count) ≡ o → None ≡ option_map far_of o → None ≡ option_map (symbol_view list) (slice_get (all_found list) k)
    by_found None at e = sym (ap (option_map (symbol_view list)) (outside_at list count k is le ∙ at))
    by_found (Some f) at e = absurd cc

-- ---- the first that a name finds

first_of_member : (list : List Member) (place : ℕ) (m : Member) (name : List ℕ) (o : Option ℕ) → IsFirstOf (all_found list) (found_in list place name) o → member_at list place ≡ Some m → IsFirstOf (all_found list) (finds list place m name) o
first_of_member list place m name o is there = subst (λ (one : Option Member). IsFirstOf (all_found list) (finds_for list place one name) o) there is

pub first_symbol : (list : List Member) (place : ℕ) (name : List ℕ) (n : ℕ) (reported : Option SymbolView) → IsFirstOf (all_found list) (found_in list place name) (Some n) → reported ≡ option_map (symbol_view list) (slice_get (all_found list) n)
    → (m : Member) → member_at list place ≡ Some m → reported ≡ option_map (symbol_view list) (first_found (finds list place m name))
first_symbol list place name n reported is e m there = by_found (finds list place m name) (first_of_member list place m name (Some n) is there)
  where
    by_found : (found : List FoundDefinition) → IsFirstOf (all_found list) found (Some n) → reported ≡ option_map (symbol_view list) (first_found found)
    by_found [] is = absurd is
    by_found (f ∷ found) is = e ∙ ap (option_map (symbol_view list)) is

pub no_symbol : (list : List Member) (place : ℕ) (name : List ℕ) → IsFirstOf (all_found list) (found_in list place name) None
    → (m : Member) → member_at list place ≡ Some m → None ≡ option_map (symbol_view list) (first_found (finds list place m name))
no_symbol list place name is m there = by_found (finds list place m name) (first_of_member list place m name None is there)
  where
    by_found : (found : List FoundDefinition) → IsFirstOf (all_found list) found None → None ≡ option_map (symbol_view list) (first_found found)
    by_found [] is = refl
    by_found (f ∷ found) is = absurd is

-- where no member is, no name finds anything
pub first_nowhere : (list : List Member) (place : ℕ) (name : List ℕ) (n : ℕ) → IsFirstOf (all_found list) (found_in list place name) (Some n) → member_at list place ≡ None → ⊥
first_nowhere list place name n is none = subst (λ (one : Option Member). IsFirstOf (all_found list) (finds_for list place one name) (Some n)) none is
