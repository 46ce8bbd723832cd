-- What the uses of a member find, and where its segment is among the inputs.
use Rattle.std.proofs.Common.{◌≡◌, ◌⊎◌, inl, inr, ℕ, zero, suc, ◌+◌, ◌≤◌, Bool, true, false, List, [], ◌∷◌, length, map, Option, Some, None, Result, Ok, refl, sym, ap, subst, ◌∙◌, arith}
use Rattle.std.specs.Prelude.{slice_get, option_map, option_and_then, if◌then◌else◌, IfSome}
use Rattle.omf_format.specs.File.{Segment, IsFile, segment_at}
use Rattle.lib_dict.specs.DictionaryLayout.{RowsAreLaidOut}
use Rattle.link_meaning.specs.declared.search.SearchKind.{SearchKind}
use Rattle.link_meaning.specs.declared.search.SearchKind.TheVariants.{Data, One, Any}
use Rattle.link_meaning.specs.First.{IsIn}
use Rattle.link_meaning.specs.Member.{OfferedRow, Input, Member, is_library, objects, library_offers}
use Rattle.link_meaning.specs.Dictionary.{rows_of}
use Rattle.link_meaning.specs.Uses.{Use, uses_of}
use Rattle.link_meaning.specs.Search.{FoundDefinition, finds}
use Rattle.link_meaning.specs.LinkedList.{asked_from, all_uses, found_for}
use Rattle.link_meaning.specs.LinkFaults.{LinkInput, use_cause, IsInput, AreInputs, IsProgram, IsResolved}
use Rattle.link_meaning.specs.laws.LoadSegmentLaws.{split_at}
use Rattle.link_meaning.specs.laws.ReadMembers.{in_at, followed}
use Rattle.link_program.specs.Linked.{member_at}
use Rattle.link_program.specs.OfFiles.{IsOfFiles}
use Rattle.link_program.specs.UsesResolve.{use_resolves, asked_of, asked_there}
use Rattle.link_program.specs.Files.{segment_in, IsAmong}
use Rattle.link_program.specs.Inputs.{IsSoundInput, AllStand}
use Rattle.link_program.specs.Programs.{FindsOnly, StandsInInput}
use Rattle.link_program.proofs.OpeningLaws.{in_either}
use Rattle.link_program.proofs.AmongLaws.{objects_among, offers_among}
use Rattle.link_program.proofs.RowLaws.{rows_stand}

-- ---- what uses find

one_found : (found : List FoundDefinition) → use_cause One found ≡ None → length found ≡ 1
one_found [] e = absurd (nothing e)
  where
    nothing : use_cause One [] ≡ None → ⊥
    nothing e = cc
one_found (f ∷ []) e = omega arith
one_found (f ∷ g ∷ more) e = absurd (several e)
  where
    several : use_cause One (f ∷ g ∷ more) ≡ None → ⊥
    several e = cc

few_found : (found : List FoundDefinition) → use_cause Any found ≡ None → length found ≤ 1
few_found [] e = omega arith
few_found (f ∷ []) e = omega arith
few_found (f ∷ g ∷ more) e = absurd (several e)
  where
    several : use_cause Any (f ∷ g ∷ more) ≡ None → ⊥
    several e = cc

finds_only : (list : List Member) (place : ℕ) (m : Member) (name : List ℕ) (at : ℕ) (w : SearchKind) → use_cause w (found_for list place m (record { want = w; name = name; at = at })) ≡ None → FindsOnly w (finds list place m name)
finds_only list place m name at Data e = tt
finds_only list place m name at One e = one_found (finds list place m name) e
finds_only list place m name at Any e = few_found (finds list place m name) e

-- a use of a member of resolved files finds one definition, or where it may have none one at most
pub uses_find_only : (list : List Member) (place : ℕ) (m : Member) (u : Use) (name : List ℕ) → IsOfFiles list → member_at list place ≡ Some m → IsIn (uses_of m.segment) u → u.name ≡ name → FindsOnly u.want (finds list place m name)
unfolding all_uses
uses_find_only list zero m u name of there is same = absurd (nowhere there)
  where
    nowhere : member_at list 0 ≡ Some m → ⊥
    nowhere e = cc
uses_find_only list (suc k) m u name of there is same =
    let p = split_at list k m there in
    let at : 1 + length p.front ≡ suc k = omega (arith, p.size) in
    let among = asked_there 1 p.front m p.back u is in
    let here = subst (λ (l : List Member). IsIn (asked_from 1 l) (asked_of (1 + length p.front) m u)) (sym p.parts) among in
    let none = use_resolves list of (asked_of (suc k) m u) (subst (λ (n : ℕ). IsIn (asked_from 1 list) (asked_of n m u)) at here) in
    subst (λ (n : List ℕ). FindsOnly u.want (finds list (suc k) m n)) same (finds_only list (suc k) m u.name u.at u.want none)

-- ---- where a segment is

abbrev fine : List OfferedRow → Result (List OfferedRow) ℕ
fine rows = Ok rows

ok_same : (x y : List OfferedRow) → fine x ≡ fine y → x ≡ y
ok_same x y e = cc

-- what was read is sound, and the segment of each row is in it
input_sound : RowsAreLaidOut → (bytes : List ℕ) (i : Input) → IsInput bytes i → IsSoundInput i
input_sound law bytes i is = (is.sound, by_library (is_library i.segments) refl)
  where
    by_library : (b : Bool) → is_library i.segments ≡ b → AllStand i.segments i.rows
    by_library true e = rows_stand i.segments i.rows law e (sym (ap (λ (b : Bool). if b then rows_of i.segments else fine []) e) ∙ is.rows)
    by_library false e =
        let none : i.rows ≡ [] = ok_same i.rows [] (sym is.rows ∙ ap (λ (b : Bool). if b then rows_of i.segments else fine []) e) in
        λ row among. absurd (subst (λ (l : List OfferedRow). IsIn l row) none among)

inputs_sound : RowsAreLaidOut → (files : List (List ℕ)) (inputs : List Input) → AreInputs files inputs → (i : Input) → IsIn inputs i → IsSoundInput i
inputs_sound law [] [] are i is = absurd is
inputs_sound law [] (x ∷ inputs) are i is = absurd are
inputs_sound law (bytes ∷ files) [] are i is = absurd are
inputs_sound law (bytes ∷ files) (x ∷ inputs) are i (inl e) = subst IsSoundInput e (input_sound law bytes x are.0)
inputs_sound law (bytes ∷ files) (x ∷ inputs) are i (inr more) = inputs_sound law files inputs are.1 i more

-- the file whose segments are at a place
file_there : (files : List (List ℕ)) (inputs : List Input) (k : ℕ) (segments : List Segment) → AreInputs files inputs → slice_get (map (λ i. i.segments) inputs) k ≡ Some segments
    → (bytes : List ℕ) × (slice_get files k ≡ Some bytes) × IsFile segments bytes
file_there [] [] k segments are e = absurd cc
file_there [] (x ∷ inputs) k segments are e = absurd are
file_there (bytes ∷ files) [] k segments are e = absurd are
file_there (bytes ∷ files) (x ∷ inputs) zero segments are e = (bytes, refl, subst (λ (l : List Segment). IsFile l bytes) (same x.segments segments e) are.0.is_file)
  where
    same : (a b : List Segment) → Some a ≡ Some b → a ≡ b
    same a b e = cc
file_there (bytes ∷ files) (x ∷ inputs) (suc k) segments are e = file_there files inputs k segments are.1 e

in_input : (files : List (List ℕ)) (inputs : List Input) (file number : ℕ) (s : Segment) → AreInputs files inputs → segment_in (map (λ i. i.segments) inputs) file number ≡ Some s → StandsInInput files file number s
in_input files inputs zero number s are e = absurd (nowhere e)
  where
    nowhere : segment_in (map (λ i. i.segments) inputs) 0 number ≡ Some s → ⊥
    nowhere e = cc
in_input files inputs (suc k) number s are e = by_file (slice_get (map (λ (i : Input). i.segments) inputs) k) refl e
  where
    by_file : (o : Option (List Segment)) → slice_get (map (λ i. i.segments) inputs) k ≡ o → option_and_then (λ (segments : List Segment). segment_at segments number) o ≡ Some s → StandsInInput files (suc k) number s
    by_file None is e = absurd cc
    by_file (Some segments) is e =
        let f = file_there files inputs k segments are is in
        record { bytes = f.0; input = f.1; segments = segments; is_file = f.2; there = e }

-- each member's segment is in the input with the member's file number
pub member_in_input : RowsAreLaidOut → (given : LinkInput) (list : List Member) (place : ℕ) (m : Member) → IsProgram given list → member_at list place ≡ Some m → StandsInInput given.inputs m.file m.number m.segment
member_in_input law given list zero m is there = absurd (nowhere there)
  where
    nowhere : member_at list 0 ≡ Some m → ⊥
    nowhere e = cc
member_in_input law given list (suc k) m is there =
    in_input given.inputs is.inputs m.file m.number m.segment is.are_inputs
    (by_part (in_either (objects is.setting is.inputs) is.linked.added m (subst (λ (l : List Member). IsIn l m) is.linked.parts (in_at list k m there))))
  where
    files : List (List Segment)
    files = map (λ i. i.segments) is.inputs

    by_part : IsIn (objects is.setting is.inputs) m ⊎ IsIn is.linked.added m → IsAmong files m
    by_part (inl object) = objects_among is.setting files is.inputs refl m object
    by_part (inr added) =
        let o = followed (library_offers is.setting is.inputs) (objects is.setting is.inputs) is.linked.added m is.linked.follow added in
        subst (IsAmong files) o.member (offers_among is.setting files is.inputs refl (inputs_sound law given.inputs is.inputs is.are_inputs) o.offer o.among)

-- and so does what a view of it shows
pub shown_in_input : {V : Type 0} → RowsAreLaidOut → (list : List Member) (place : ℕ) (show : V → Segment) (view : Option V) → option_map show view ≡ option_map (λ m. m.segment) (member_at list place)
    → IfSome view (λ v. (given : LinkInput) (m : Member) → IsResolved given list → member_at list place ≡ Some m → StandsInInput given.inputs m.file m.number (show v))
shown_in_input law list place show None e = tt
shown_in_input law list place show (Some v) e = λ given m is there.
    let same : m.segment ≡ show v = one m.segment (show v) (sym (ap (option_map (λ (x : Member). x.segment)) there) ∙ sym e) in
    subst (StandsInInput given.inputs m.file m.number) same (member_in_input law given list place m is.program there)
  where
    one : (a b : Segment) → Some a ≡ Some b → a ≡ b
    one a b e = cc
