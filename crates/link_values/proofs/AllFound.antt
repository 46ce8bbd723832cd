-- All that a name can find: what members define, and after it what run-time library files export, none of which is an equate.
use Rattle.std.proofs.Common.{◌≡◌, ◌⊎◌, inl, inr, ℕ, zero, suc, ◌+◌, Bool, true, false, cond, List, [], ◌∷◌, ◌++◌, Option, Some, None, refl, sym, ap, ◌∙◌}
use Rattle.std.specs.Prelude.{slice_get, filter, filter_map, option_map}
use Rattle.std.specs.List.{AllByRecursion, cons_option}
use Rattle.std.proofs.lemmas.Bool.{eq-eqb, ne_eqb}
use Rattle.omf_format.specs.File.{Segment, segment_at}
use Rattle.load_meaning.specs.Exports.{Export, exports_of}
use Rattle.link_meaning.specs.First.{IsIn}
use Rattle.link_meaning.specs.Member.{RuntimeFile, LinkSetting, without_runtimes, Member, setting_in}
use Rattle.object_meaning.specs.Defines.{ForAll}
use Rattle.link_meaning.specs.Search.{FoundDefinition, entries, outside_of, outside_from, outside}
use Rattle.link_meaning.specs.Cycles.{is_equate}
use Rattle.link_meaning.specs.laws.Steps.{has_expr}
use Rattle.link_meaning.specs.LinkValues.{place_value, outside_value}
use Rattle.link_program.specs.Outside.{all_found}
use Rattle.link_values.specs.Slots.{label_place}

-- ---- what run-time library files export

-- it is at no place of the list, and is no equate
abbrev IsOuter : FoundDefinition → Type 0
IsOuter f = (f.place ≡ 0) × (f.definition.expr ≡ None)

outer_file : (file : ℕ) (r : RuntimeFile) (es : List Export) → AllByRecursion IsOuter (filter_map (outside_of file r) es)
outer_file file r [] = tt
outer_file file r (e ∷ es) = by_segment (segment_at r.segments e.segment) (outer_file file r es)
  where
    found : Segment → FoundDefinition
    found s = record {
      place = 0;
      member = record { file = file; number = e.segment; from = 0; segment = s; setting = without_runtimes };
      definition = record { name = e.name; scope = ForAll; place = e.offset; at = s.start; expr = None; size = 0; form = 0x4E };
    }

    by_segment : (o : Option Segment) → AllByRecursion IsOuter (filter_map (outside_of file r) es) → AllByRecursion IsOuter (cons_option (option_map found o) (filter_map (outside_of file r) es))
    by_segment None rest = rest
    by_segment (Some s) rest = ((refl, refl), rest)

both : (xs ys : List FoundDefinition) → AllByRecursion IsOuter xs → AllByRecursion IsOuter ys → AllByRecursion IsOuter (xs ++ ys)
both [] ys p q = q
both (x ∷ xs) ys p q = (p.0, both xs ys p.1 q)

outer_from : (file : ℕ) (rs : List RuntimeFile) → AllByRecursion IsOuter (outside_from file rs)
outer_from file [] = tt
outer_from file (r ∷ rs) = both (filter_map (outside_of file r) (exports_of r.segments)) (outside_from (file + 1) rs) (outer_file file r (exports_of r.segments)) (outer_from (file + 1) rs)

outer : (setting : LinkSetting) → AllByRecursion IsOuter (outside setting)
unfolding outside
outer setting = outer_from 2 setting.runtimes

is_outer : (fs : List FoundDefinition) (f : FoundDefinition) → AllByRecursion IsOuter fs → IsIn fs f → IsOuter f
is_outer [] f all is = absurd is
is_outer (g ∷ fs) f all (inl e) = (ap (λ (x : FoundDefinition). x.place) (sym e) ∙ all.0.0, ap (λ (x : FoundDefinition). x.definition.expr) (sym e) ∙ all.0.1)
is_outer (g ∷ fs) f all (inr more) = is_outer fs f all.1 more

-- ---- numbers

pub found_same : (x y : FoundDefinition) → Some x ≡ Some y → x ≡ y
found_same x y e = cc

pub entry_in : (fs : List FoundDefinition) (k : ℕ) (f : FoundDefinition) → slice_get fs k ≡ Some f → IsIn fs f
entry_in [] k f e = absurd cc
entry_in (g ∷ fs) zero f e = inl (found_same g f e)
entry_in (g ∷ fs) (suc k) f e = inr (entry_in fs k f e)

in_part : (xs ys : List FoundDefinition) (k : ℕ) (f : FoundDefinition) → slice_get (xs ++ ys) k ≡ Some f → (slice_get xs k ≡ Some f) ⊎ IsIn ys f
in_part [] ys k f e = inr (entry_in ys k f e)
in_part (x ∷ xs) ys zero f e = inl e
in_part (x ∷ xs) ys (suc k) f e = in_part xs ys k f e

in_front : (xs ys : List FoundDefinition) (k : ℕ) (f : FoundDefinition) → slice_get xs k ≡ Some f → slice_get (xs ++ ys) k ≡ Some f
in_front [] ys k f e = absurd cc
in_front (x ∷ xs) ys zero f e = e
in_front (x ∷ xs) ys (suc k) f e = in_front xs ys k f e

-- what a member defines has the same number among all
pub outer_at : (list : List Member) (k : ℕ) (f : FoundDefinition) → slice_get (entries list) k ≡ Some f → slice_get (all_found list) k ≡ Some f
outer_at list k f e = in_front (entries list) (outside (setting_in list)) k f e

true_false : true ≡ false → ⊥
true_false e = cc

-- an equate is a member's
pub inside_equate : (list : List Member) (k : ℕ) (f : FoundDefinition) → slice_get (all_found list) k ≡ Some f → is_equate f ≡ true → slice_get (entries list) k ≡ Some f
inside_equate list k f e equate = elim (in_part (entries list) (outside (setting_in list)) k f e) [
  | inl h ↦ h
  | inr h ↦ absurd (true_false (sym equate ∙ ap has_expr (is_outer (outside (setting_in list)) f (outer (setting_in list)) h).1))
]

-- and so is what has a place in the list
pub inside_place : (list : List Member) (k : ℕ) (f : FoundDefinition) → slice_get (all_found list) k ≡ Some f → (f.place ≡ 0 → ⊥) → slice_get (entries list) k ≡ Some f
inside_place list k f e some = elim (in_part (entries list) (outside (setting_in list)) k f e) [
  | inl h ↦ h
  | inr h ↦ absurd (some (is_outer (outside (setting_in list)) f (outer (setting_in list)) h).0)
]

-- ---- equates

no_equates : (fs : List FoundDefinition) → AllByRecursion IsOuter fs → filter is_equate fs ≡ []
no_equates [] all = refl
no_equates (f ∷ fs) all = ap (λ (x : Option (List ℕ)). cond (has_expr x) (f ∷ filter is_equate fs) (filter is_equate fs)) all.0.1 ∙ no_equates fs all.1

filter-append : (xs ys : List FoundDefinition) → filter is_equate ys ≡ [] → filter is_equate (xs ++ ys) ≡ filter is_equate xs
filter-append [] ys none = none
filter-append (x ∷ xs) ys none = ap (λ (l : List FoundDefinition). cond (is_equate x) (x ∷ l) l) (filter-append xs ys none)

-- all equates are members'
pub all_equates : (list : List Member) → filter is_equate (all_found list) ≡ filter is_equate (entries list)
all_equates list = filter-append (entries list) (outside (setting_in list)) (no_equates (outside (setting_in list)) (outer (setting_in list)))

-- ---- labels

pub outside_label : (list : List Member) (f : FoundDefinition) → f.place ≡ 0 → label_place list f ≡ outside_value f
outside_label list f none = ap (λ (b : Bool). cond b (outside_value f) (place_value list f.place f.member f.definition.place)) (eq-eqb f.place 0 none)

pub inside_label : (list : List Member) (f : FoundDefinition) → (f.place ≡ 0 → ⊥) → label_place list f ≡ place_value list f.place f.member f.definition.place
inside_label list f some = ap (λ (b : Bool). cond b (outside_value f) (place_value list f.place f.member f.definition.place)) (ne_eqb f.place 0 some)
