-- All members of a linked list have one setting, which is the one that was given.
use Rattle.std.proofs.Common.{◌≡◌, ◌⊎◌, ℕ, ◌+◌, ◌≤◌, Bool, true, false, List, [], ◌∷◌, ◌++◌, length, map, Option, Some, None, refl, sym, ap, subst, ◌∙◌, arith, inl, inr, ◌-◌, suc}
use Rattle.std.specs.Prelude.{cond, filter_map, slice_get, option_map}
use Rattle.std.specs.List.{AllByRecursion}
use Rattle.omf_format.specs.File.{Segment}
use Rattle.load_meaning.specs.Pathnames.{IsPath, most_paths}
use Rattle.link_meaning.specs.declared.form.LinkForm.{LinkForm}
use Rattle.link_meaning.specs.declared.form.LinkForm.TheVariants.{Program, Runtime as LibraryForm}
use Rattle.link_meaning.specs.First.{IsIn}
use Rattle.link_meaning.specs.Member.{OfferedRow, Input, RuntimeFile, LinkSetting, Member, Offer, is_library, members_from, objects_from, objects, offer_of, offers_from, library_offers, setting_in, without_runtimes}
use Rattle.link_meaning.specs.LinkFaults.{LinkInput, HasBytes, MayHave, AreRuntimes, IsProgram}
use Rattle.link_meaning.specs.laws.ReadMembers.{from_filter, followed}

in-append : {A : Type 0} (xs ys : List A) (x : A) → IsIn (xs ++ ys) x → IsIn xs x ⊎ IsIn ys x
in-append [] ys x is = inr is
in-append (y ∷ xs) ys x (inl e) = inl (inl e)
in-append (y ∷ xs) ys x (inr more) = elim (in-append xs ys x more) [ inl h ↦ inl (inr h) | inr h ↦ inr h ]

abbrev Has : LinkSetting → Member → Type 0
Has setting m = m.setting ≡ setting

in_members : (setting : LinkSetting) (file number : ℕ) (segments : List Segment) (m : Member) → IsIn (members_from setting file number segments) m → Has setting m
in_members setting file number [] m is = absurd is
in_members setting file number (s ∷ segments) m (inl e) = ap (λ (x : Member). x.setting) (sym e)
in_members setting file number (s ∷ segments) m (inr more) = in_members setting file (number + 1) segments m more

in_objects : (setting : LinkSetting) (file : ℕ) (inputs : List Input) (m : Member) → IsIn (objects_from setting file inputs) m → Has setting m
in_objects setting file [] m is = absurd is
in_objects setting file (input ∷ inputs) m is = elim (in-append (cond (is_library input.segments) [] (members_from setting file 1 input.segments)) (objects_from setting (file + 1) inputs) m is) [
  | inl h ↦ by_library (is_library input.segments) h
  | inr h ↦ in_objects setting (file + 1) inputs m h
]
  where
    by_library : (b : Bool) → IsIn (cond b [] (members_from setting file 1 input.segments)) m → Has setting m
    by_library true h = absurd h
    by_library false h = in_members setting file 1 input.segments m h

one_offer : (a b : Offer) → Some a ≡ Some b → a ≡ b
one_offer a b e = cc

of_row : (setting : LinkSetting) (file : ℕ) (segments : List Segment) (row : OfferedRow) (o : Offer) → offer_of setting file segments row ≡ Some o → Has setting o.member
of_row setting file segments row o e = by_segment (slice_get segments (row.segment - 1)) e
  where
    by_segment : (x : Option Segment) → option_map (λ (s : Segment). record { name = row.name; private = row.private; member = record { file = file; number = row.segment; from = row.from; segment = s; setting = setting } }) x ≡ Some o → Has setting o.member
    by_segment None e = absurd cc
    by_segment (Some s) e = ap (λ (x : Offer). x.member.setting) (sym (one_offer (record { name = row.name; private = row.private; member = record { file = file; number = row.segment; from = row.from; segment = s; setting = setting } }) o e))

in_offers : (setting : LinkSetting) (file : ℕ) (inputs : List Input) (o : Offer) → IsIn (offers_from setting file inputs) o → Has setting o.member
in_offers setting file [] o is = absurd is
in_offers setting file (input ∷ inputs) o is = elim (in-append (filter_map (offer_of setting file input.segments) input.rows) (offers_from setting (file + 1) inputs) o is) [
  | inl h ↦ let row = from_filter (offer_of setting file input.segments) input.rows o h in of_row setting file input.segments row.0 o row.2
  | inr h ↦ in_offers setting (file + 1) inputs o h
]

-- each member has the setting
pub one_setting : (given : LinkInput) (list : List Member) (is : IsProgram given list) (m : Member) → IsIn list m → m.setting ≡ is.setting
unfolding objects library_offers
one_setting given list is m in' = by_part (in-append (objects is.setting is.inputs) is.linked.added m (subst (λ (l : List Member). IsIn l m) is.linked.parts in'))
  where
    by_part : IsIn (objects is.setting is.inputs) m ⊎ IsIn is.linked.added m → m.setting ≡ is.setting
    by_part (inl h) = in_objects is.setting 1 is.inputs m h
    by_part (inr h) =
        let offered = followed (library_offers is.setting is.inputs) (objects is.setting is.inputs) is.linked.added m is.linked.follow h in
        ap (λ (x : Member). x.setting) (sym offered.member) ∙ in_offers is.setting 1 is.inputs offered.offer offered.among

-- the paths of the run-time library files, of which there are few
pub record HasPaths (list : List Member) : Type 0 where
  pub paths : AllByRecursion IsPath (map (λ r. r.path) (setting_in list).runtimes)
  pub few : length (setting_in list).runtimes ≤ most_paths

paths_given : (files : List (List ℕ × List ℕ)) (runtimes : List RuntimeFile) → AreRuntimes files runtimes → AllByRecursion (λ file. IsPath file.0) files
    → AllByRecursion IsPath (map (λ (r : RuntimeFile). r.path) runtimes) × (length runtimes ≡ length files)
paths_given [] [] are all = (tt, refl)
paths_given [] (r ∷ runtimes) are all = absurd are
paths_given (f ∷ files) [] are all = absurd are
paths_given (f ∷ files) (r ∷ runtimes) are all =
    let rest = paths_given files runtimes are.2 all.1 in
    ((subst IsPath (sym are.0) all.0, rest.0), ap suc rest.1)

pub has_paths : (given : LinkInput) (list : List Member) → HasBytes given → IsProgram given list → HasPaths list
has_paths given list bytes is = by_list list (λ m in'. one_setting given list is m in')
  where
    all : AllByRecursion IsPath (map (λ (r : RuntimeFile). r.path) is.setting.runtimes) × (length is.setting.runtimes ≡ length given.runtimes)
    all = paths_given given.runtimes is.setting.runtimes is.is_setting.runtimes' bytes.2

    few : (form : LinkForm) → MayHave form given.runtimes → length given.runtimes ≤ most_paths
    few Program may = may
    few LibraryForm may = omega (arith, ap length may)

    by_list : (l : List Member) → ((m : Member) → IsIn l m → m.setting ≡ is.setting) → HasPaths l
    by_list [] each = record { paths = tt; few = omega arith }
    by_list (m ∷ l) each =
        let same = each m (inl refl) in
        record {
          paths = subst (λ (s : LinkSetting). AllByRecursion IsPath (map (λ (r : RuntimeFile). r.path) s.runtimes)) (sym same) all.0;
          few = omega (arith, ap (λ (s : LinkSetting). length s.runtimes) same, all.1, few given.form bytes.3);
        }

-- what holds for the setting that was given, and for none, holds for the list's
pub of_setting : (given : LinkInput) (list : List Member) (is : IsProgram given list) (P : LinkSetting → Type 0) → P without_runtimes → P is.setting → P (setting_in list)
of_setting given list is P none some = by_list list (λ m in'. one_setting given list is m in')
  where
    by_list : (l : List Member) → ((m : Member) → IsIn l m → m.setting ≡ is.setting) → P (setting_in l)
    by_list [] each = none
    by_list (m ∷ l) each = subst P (sym (each m (inl refl))) some

-- a list that isn't empty has the setting that was given
pub setting_of : (given : LinkInput) (list : List Member) (is : IsProgram given list) → (list ≡ [] → ⊥) → setting_in list ≡ is.setting
setting_of given list is some = by_list list some (λ m in'. one_setting given list is m in')
  where
    by_list : (l : List Member) → (l ≡ [] → ⊥) → ((m : Member) → IsIn l m → m.setting ≡ is.setting) → setting_in l ≡ is.setting
    by_list [] none each = absurd (none refl)
    by_list (m ∷ l) none each = each m (inl refl)
