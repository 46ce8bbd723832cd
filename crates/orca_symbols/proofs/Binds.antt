-- Operands that are bound one after another.
use Rattle.std.proofs.Common.{◌≡◌, ◌≤◌, ◌+◌, ℕ, Bool, true, false, cond, List, [], ◌∷◌, length, get_or, take, drop, Option, Some, None, refl, sym, ap, subst, ◌∙◌, inl, inr, zero, suc, eqb, arith}
use Rattle.std.specs.Prelude.{◌≢◌, ◌<◌, ◌⊎◌, slice_get, bytes_eq, is_none, is_some}
use Rattle.std.specs.Cmp.Lexicographic.{bytes_decides}
use Rattle.std.proofs.Math.Nat.{eq-or-lt_of_le}
use Rattle.std.proofs.lemmas.Bool.{ne_eqb}
use Rattle.std.proofs.lemmas.List.Folds.{list_any_at}
use Rattle.macro_meaning.specs.declared.statements.SymbolKind.TheVariants.{Text}
use Rattle.macro_meaning.specs.Symbol.{Symbol, Own, Symbols}
use Rattle.orca_meaning.specs.Names.{with_name}
use Rattle.macro_meaning.specs.Call.{Binding, binding, keyword_from, bound_arguments, bound_once, bound_all, with_missing, all_names, label_bound}
use Rattle.macro_meaning.specs.laws.Steps.{is_among, by_place, or_place, complete, arguments}
use Rattle.std.specs.List.{prefix_len}
use Rattle.orca_meaning.specs.Characters.{is_name_start, is_name_byte, folded}
use Rattle.orca_meaning.specs.Token.{name_at}
use Rattle.macro_meaning.specs.Definition.{list_of_option, Model}
use Rattle.orca_symbols.specs.Calling.{IsOnce, AreBound}
use Rattle.orca_symbols.proofs.Parted.{drop_next, drop_all}

pub once : (fresh : Bool) (name text : List ℕ) (old new : Symbols) → new ≡ with_name name (Own Text text) old → fresh ≡ is_none (old name) → IsOnce fresh name text old new
once fresh name text old new is test = subst (λ (b : Bool). IsOnce b name text old new) (sym test) (by_old (old name) refl)
  where
    by_old : (o : Option Symbol) → old name ≡ o → IsOnce (is_none o) name text old new
    by_old None none = rw none (ap (λ (s : Symbols). Some s) (sym is))
    by_old (Some s) some = rw some refl

-- what follows one operand
after_bound : List (List ℕ) → ℕ → List (List ℕ) → Option Symbols → Option Symbols
after_bound parameters place more found = elim found [ None ↦ None | Some now ↦ bound_all parameters place more now ]

after_binding : List (List ℕ) → List (List ℕ) → Symbols → Option Binding → Option Symbols
after_binding parameters more old found = elim found [
  | None ↦ None
  | Some b ↦ elim (bound_once b.name b.text old) [ None ↦ None | Some now ↦ bound_all parameters b.next more now ]
]

pub all_next : (parameters pieces more : List (List ℕ)) (place : ℕ) (piece : List ℕ) (b : Binding) (old now : Symbols) (whole : Option Symbols) → pieces ≡ piece ∷ more
    → binding parameters place piece ≡ Some b → bound_once b.name b.text old ≡ Some now → bound_all parameters place pieces old ≡ whole → bound_all parameters b.next more now ≡ whole
unfolding bound_all after_bound after_binding
all_next parameters pieces more place piece b old now whole is found fresh so =
    let front : bound_all parameters place (piece ∷ more) old ≡ bound_all parameters b.next more now = ap (after_binding parameters more old) found ∙ ap (after_bound parameters b.next more) fresh in
    sym front ∙ ap (λ (l : List (List ℕ)). bound_all parameters place l old) (sym is) ∙ so

pub all_end : (parameters pieces : List (List ℕ)) (place : ℕ) (piece : List ℕ) (b : Binding) (old now : Symbols) (whole : Option Symbols) → pieces ≡ piece ∷ []
    → binding parameters place piece ≡ Some b → bound_once b.name b.text old ≡ Some now → bound_all parameters place pieces old ≡ whole → whole ≡ Some now
unfolding bound_all
all_end parameters pieces place piece b old now whole is found fresh so = sym (all_next parameters pieces [] place piece b old now whole is found fresh so)

pub all_unbound : (parameters pieces more : List (List ℕ)) (place : ℕ) (piece : List ℕ) (old : Symbols) (whole : Option Symbols) → pieces ≡ piece ∷ more
    → binding parameters place piece ≡ None → bound_all parameters place pieces old ≡ whole → whole ≡ None
unfolding bound_all after_bound after_binding
all_unbound parameters pieces more place piece old whole is none so =
    let front : bound_all parameters place (piece ∷ more) old ≡ None = ap (after_binding parameters more old) none in
    sym so ∙ ap (λ (l : List (List ℕ)). bound_all parameters place l old) is ∙ front

pub all_twice : (parameters pieces more : List (List ℕ)) (place : ℕ) (piece : List ℕ) (b : Binding) (old : Symbols) (whole : Option Symbols) → pieces ≡ piece ∷ more
    → binding parameters place piece ≡ Some b → bound_once b.name b.text old ≡ None → bound_all parameters place pieces old ≡ whole → whole ≡ None
unfolding bound_all after_bound after_binding
all_twice parameters pieces more place piece b old whole is found bound_arguments so =
    let front : bound_all parameters place (piece ∷ more) old ≡ None = ap (after_binding parameters more old) found ∙ ap (after_bound parameters b.next more) bound_arguments in
    sym so ∙ ap (λ (l : List (List ℕ)). bound_all parameters place l old) is ∙ front

-- ---- parameters that were reached

pub none_reached : (names : List (List ℕ)) (symbols : Symbols) → AreBound names 0 symbols
none_reached names symbols i name less is = absurd (omega (arith, less))

-- what is bound stays bound
kept : (added : List ℕ) (s : Symbol) (old : Symbols) (name : List ℕ) → is_some (old name) ≡ true → is_some (with_name added s old name) ≡ true
kept added s old name some = by_test (bytes_eq added name)
  where
    by_test : (b : Bool) → is_some (cond b (Some s) (old name)) ≡ true
    by_test true = refl
    by_test false = some

there : (added name : List ℕ) (s : Symbol) (old : Symbols) → added ≡ name → is_some (with_name added s old name) ≡ true
there added name s old same = rw ((bytes_decides added name).1 same) refl

once_is : (name text : List ℕ) (old now : Symbols) → bound_once name text old ≡ Some now → with_name name (Own Text text) old ≡ now
once_is name text old now is = by_test (is_some (old name)) is
  where
    by_test : (b : Bool) → cond {A = Option Symbols} b None (Some (with_name name (Own Text text) old)) ≡ Some now → with_name name (Own Text text) old ≡ now
    by_test true e = absurd cc
    by_test false e = cc

-- an operand is bound by keyword, or to the parameter whose turn it is
next_is : (parameters : List (List ℕ)) (place : ℕ) (piece : List ℕ) (b : Binding) → binding parameters place piece ≡ Some b → (b.next ≡ place) ⊎ ((b.next ≡ place + 1) × (slice_get parameters place ≡ Some b.name))
unfolding binding
next_is parameters place piece b is = by_keyword (name_at piece) is
  where
    by_turn : (o : Option (List ℕ)) → by_place piece place o ≡ Some b → (b.next ≡ place + 1) × (o ≡ Some b.name)
    by_turn None e = absurd cc
    by_turn (Some name) e = let same : record { name = name; text = piece; next = place + 1 } ≡ b = cc in (sym (ap (λ (x : Binding). x.next) same), ap (λ (x : Binding). Some x.name) same)

    by_tests : (c d : Bool) (name text : List ℕ) → or_place (cond c (cond d (Some (record { name = name; text = text; next = place })) None) None) (by_place piece place (slice_get parameters place)) ≡ Some b
        → (b.next ≡ place) ⊎ ((b.next ≡ place + 1) × (slice_get parameters place ≡ Some b.name))
    by_tests true true name text e = let same : record { name = name; text = text; next = place } ≡ b = cc in inl (sym (ap (λ (x : Binding). x.next) same))
    by_tests true false name text e = inr (by_turn (slice_get parameters place) e)
    by_tests false d name text e = inr (by_turn (slice_get parameters place) e)

    by_keyword : (found : Option (List ℕ × List ℕ)) → or_place (keyword_from parameters place found) (by_place piece place (slice_get parameters place)) ≡ Some b
        → (b.next ≡ place) ⊎ ((b.next ≡ place + 1) × (slice_get parameters place ≡ Some b.name))
    by_keyword None e = inr (by_turn (slice_get parameters place) e)
    by_keyword (Some (name, [])) e = inr (by_turn (slice_get parameters place) e)
    by_keyword (Some (name, byte ∷ following)) e = by_tests (eqb byte 0x3D) (is_among parameters name) name following e

pub next_reached : (parameters : List (List ℕ)) (place : ℕ) (piece : List ℕ) (b : Binding) (old now : Symbols) → binding parameters place piece ≡ Some b → bound_once b.name b.text old ≡ Some now
    → AreBound parameters place old → AreBound parameters b.next now
next_reached parameters place piece b old now is fresh so i name less at =
    rw (← once_is b.name b.text old now fresh) (by_next (next_is parameters place piece b is))
  where
    before : i < place → is_some (with_name b.name (Own Text b.text) old name) ≡ true
    before less = kept b.name (Own Text b.text) old name (so i name less at)

    by_next : (b.next ≡ place) ⊎ ((b.next ≡ place + 1) × (slice_get parameters place ≡ Some b.name)) → is_some (with_name b.name (Own Text b.text) old name) ≡ true
    by_next (inl same) = before (omega (arith, less, same))
    by_next (inr (one_more, last)) = by_order (eq-or-lt_of_le (omega (arith, less, one_more)))
      where
        by_order : (i ≡ place) ⊎ (i < place) → is_some (with_name b.name (Own Text b.text) old name) ≡ true
        by_order (inr less) = before less
        by_order (inl same) =
            let found : Some b.name ≡ Some name = sym last ∙ ap (slice_get parameters) (sym same) ∙ at in
            there b.name name (Own Text b.text) old cc

-- ---- parameters without operands

pub was_bound : (name : List ℕ) (old : Symbols) (s : Symbol) → old name ≡ Some s → old ≡ with_missing (name ∷ []) old
unfolding with_missing
was_bound name old s is = rw is refl

pub was_missing : (name : List ℕ) (old new : Symbols) → old name ≡ None → new ≡ with_name name (Own Text []) old → new ≡ with_missing (name ∷ []) old
unfolding with_missing
was_missing name old new none is = rw none is

pub missing_next : (parameters : List (List ℕ)) (at : ℕ) (name : List ℕ) (old new whole : Symbols) → slice_get parameters at ≡ Some name → with_missing (drop at parameters) old ≡ whole
    → new ≡ with_missing (name ∷ []) old → with_missing (drop (at + 1) parameters) new ≡ whole
unfolding with_missing
missing_next parameters at name old new whole is so one =
    ap (with_missing (drop (at + 1) parameters)) one ∙ ap (λ (l : List (List ℕ)). with_missing l old) (sym (drop_next parameters at name is)) ∙ so

pub missing_end : (parameters : List (List ℕ)) (at : ℕ) (now whole : Symbols) → length parameters ≤ at → with_missing (drop at parameters) now ≡ whole → now ≡ whole
unfolding with_missing
missing_end parameters at now whole end so = ap (λ (l : List (List ℕ)). with_missing l now) (sym (drop_all parameters at end)) ∙ so

-- the parameters that were reached aren't missing
reached_stay : (place : ℕ) (names : List (List ℕ)) (symbols : Symbols) → AreBound names place symbols → with_missing names symbols ≡ with_missing (drop place names) symbols
unfolding with_missing
reached_stay zero names symbols so = refl
reached_stay (suc place) [] symbols so = refl
reached_stay (suc place) (name ∷ names) symbols so =
    rw (so 0 name (omega arith) refl) (reached_stay place names symbols (λ i other less is. so (suc i) other (omega (arith, less)) is))

-- nor are they once the label parameter is there
label_reached : (label : Option (List ℕ)) (names : List (List ℕ)) (place : ℕ) (symbols : Symbols) → AreBound names place symbols → AreBound names place (with_missing (list_of_option label) symbols)
unfolding with_missing
label_reached None names place symbols so i name less is = so i name less is
label_reached (Some label) names place symbols so i name less is = by_test (is_some (symbols label))
  where
    by_test : (b : Bool) → is_some (cond b symbols (with_name label (Own Text []) symbols) name) ≡ true
    by_test true = so i name less is
    by_test false = kept label (Own Text []) symbols name (so i name less is)

-- all of a call
pub bound_is : (m : Model) (label operand : List ℕ) (p : List (List ℕ)) (place : ℕ) (s0 s1 s2 s3 : Symbols) → p ≡ m.parameters → s0 ≡ label_bound m.label label → bound_all p 0 (arguments operand) s0 ≡ Some s1
    → AreBound p place s1 → s2 ≡ with_missing (list_of_option m.label) s1 → s3 ≡ with_missing (drop place p) s2 → bound_arguments m label operand ≡ Some s3
unfolding bound_arguments with_missing
bound_is m label operand p place s0 s1 s2 s3 p_is first all reached second third =
    ap (complete (all_names m)) whole ∙ ap (λ (s : Symbols). Some s) (by_label m.label second ∙ sym last)
  where
    whole : bound_all m.parameters 0 (arguments operand) (label_bound m.label label) ≡ Some s1
    whole = ap (λ (x : List (List ℕ)). bound_all x 0 (arguments operand) (label_bound m.label label)) (sym p_is) ∙ ap (bound_all p 0 (arguments operand)) (sym first) ∙ all

    still : AreBound p place s2
    still = subst (AreBound p place) (sym second) (label_reached m.label p place s1 reached)

    last : s3 ≡ with_missing m.parameters s2
    last = third ∙ sym (reached_stay place p s2 still) ∙ ap (λ (x : List (List ℕ)). with_missing x s2) p_is

    by_label : (o : Option (List ℕ)) → s2 ≡ with_missing (list_of_option o) s1 → with_missing (elim o [ None ↦ m.parameters | Some name ↦ name ∷ m.parameters ]) s1 ≡ with_missing m.parameters s2
    by_label None is = ap (with_missing m.parameters) (sym is)
    by_label (Some name) is = ap (with_missing m.parameters) (sym is)

pub bound_none : (m : Model) (label operand : List ℕ) (p : List (List ℕ)) (s0 : Symbols) → p ≡ m.parameters → s0 ≡ label_bound m.label label → bound_all p 0 (arguments operand) s0 ≡ None → bound_arguments m label operand ≡ None
unfolding bound_arguments
bound_none m label operand p s0 p_is first none =
    ap (complete (all_names m)) (ap (λ (x : List (List ℕ)). bound_all x 0 (arguments operand) (label_bound m.label label)) (sym p_is) ∙ ap (bound_all p 0 (arguments operand)) (sym first) ∙ none)

-- ---- the name before `=`

name_front : (piece following name rest : List ℕ) (first n : ℕ) → piece ≡ first ∷ following → is_name_start first ≡ true → n ≡ prefix_len is_name_byte following → name ≡ take (n + 1) piece → rest ≡ drop (n + 1) piece
    → name_at piece ≡ Some (folded name, rest)
unfolding name_at
name_front piece following name rest first n is starts n_is name_is rest_is =
    let more : prefix_len is_name_byte following + 1 ≡ suc (prefix_len is_name_byte following) = omega arith in
    rw (name_is, rest_is, n_is, is, starts, more) refl

pub has_name : (piece following name rest text : List ℕ) (first n : ℕ) → piece ≡ first ∷ following → is_name_start first ≡ true → n ≡ prefix_len is_name_byte following → name ≡ take (n + 1) piece → rest ≡ drop (n + 1) piece
    → rest ≡ 0x3D ∷ text → name_at piece ≡ Some (folded name, 0x3D ∷ text)
has_name piece following name rest text first n is starts n_is name_is rest_is equals =
    name_front piece following name rest first n is starts n_is name_is rest_is ∙ ap (λ (r : List ℕ). Some (folded name, r)) equals

pub no_bytes : (parameters : List (List ℕ)) (place : ℕ) (piece : List ℕ) → length piece ≡ 0 → keyword_from parameters place (name_at piece) ≡ None
unfolding name_at
no_bytes parameters place [] none = refl
no_bytes parameters place (byte ∷ piece) none = absurd (omega (arith, none))

pub no_start : (parameters : List (List ℕ)) (place : ℕ) (piece following : List ℕ) (first : ℕ) → piece ≡ first ∷ following → is_name_start first ≡ false → keyword_from parameters place (name_at piece) ≡ None
unfolding name_at
no_start parameters place piece following first is other = rw (is, other) refl

pub no_equals : (parameters : List (List ℕ)) (place : ℕ) (piece following name rest : List ℕ) (first n : ℕ) → piece ≡ first ∷ following → is_name_start first ≡ true → n ≡ prefix_len is_name_byte following
    → name ≡ take (n + 1) piece → rest ≡ drop (n + 1) piece → ((text : List ℕ) → rest ≢ 0x3D ∷ text) → keyword_from parameters place (name_at piece) ≡ None
no_equals parameters place piece following name rest first n is starts n_is name_is rest_is other =
    ap (keyword_from parameters place) (name_front piece following name rest first n is starts n_is name_is rest_is) ∙ by_rest rest other
  where
    by_rest : (r : List ℕ) → ((text : List ℕ) → r ≢ 0x3D ∷ text) → keyword_from parameters place (Some (folded name, r)) ≡ None
    by_rest [] none = refl
    by_rest (byte ∷ text) none = rw (ne_eqb byte 0x3D (λ same. none text (ap (λ (x : ℕ). x ∷ text) same))) refl

-- ---- a name among others

pub is_here : (names : List (List ℕ)) (i : ℕ) (first name : List ℕ) → i < length names → first ≡ get_or names i first → bytes_eq name first ≡ true → (is_among names name ≡ true) × (first ≡ name)
is_here names i first name less is same =
    (list_any_at (bytes_eq name) names i first less (subst (λ (x : List ℕ). bytes_eq name x ≡ true) is same), sym ((bytes_decides name first).0 same))
