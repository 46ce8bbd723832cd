-- Of files there is one library, or a refusal, and not both.
use Rattle.std.proofs.Common.{◌≡◌, ℕ, Bool, true, false, List, [], ◌∷◌, ◌++◌, length, refl, sym, ap, subst, ◌∙◌, arith}
use Rattle.std.specs.Prelude.{◌||◌}
use Rattle.std.specs.List.{list_any}
use Rattle.omf_format.specs.File.{Segment, IsFile}
use Rattle.omf_format.specs.laws.FileLaws.{file_same, no_file}
use Rattle.lib_dict.specs.declared.fault.LibCause.{LibCause}
use Rattle.lib_dict.specs.declared.fault.LibCause.TheVariants.{Truncated, BadHeader, Unsupported, BadRecord, TooLong, Memory}
use Rattle.lib_dict.specs.declared.fault.LibFault.{LibFault}
use Rattle.lib_dict.specs.Library.{LibraryInput, LibraryFile, is_dictionary, IsMember, AreMembers, IsLibraryOf, IsTooLong, library_bytes}
use Rattle.lib_dict.specs.Made.{HasMemberFault, InFile, OfDictionary, IsFirstMemberFault, IsNowhere, ByCause, MadeIsRefusedForMemoryAlone}

-- files are read in one way
member_same : (g : LibraryInput) (a b : LibraryFile) → IsMember g a → IsMember g b → a ≡ b
member_same g a b p q =
    let bytes : a.bytes ≡ b.bytes = p.bytes ∙ sym q.bytes in
    let segments : a.segments ≡ b.segments = file_same a.segments b.segments b.bytes (subst (IsFile a.segments) bytes p.segments) q.segments in
    ap (λ (n : List ℕ). made n a.bytes a.segments) (p.name ∙ sym q.name) ∙ ap (λ (l : List ℕ). made b.name l a.segments) bytes ∙ ap (made b.name b.bytes) segments
  where
    made : List ℕ → List ℕ → List Segment → LibraryFile
    made name bytes segments = record { name = name; bytes = bytes; segments = segments }

pub members_same : (given : List LibraryInput) (a b : List LibraryFile) → AreMembers given a → AreMembers given b → a ≡ b
members_same [] [] [] p q = refl
members_same [] [] (y ∷ b) p q = absurd q
members_same [] (x ∷ a) b p q = absurd p
members_same (g ∷ given) [] b p q = absurd p
members_same (g ∷ given) (x ∷ a) [] p q = absurd q
members_same (g ∷ given) (x ∷ a) (y ∷ b) p q = ap (λ (f : LibraryFile). f ∷ a) (member_same g x y p.0 q.0) ∙ ap (λ (l : List LibraryFile). y ∷ l) (members_same given a b p.1 q.1)

member_in : (before : List LibraryInput) (g : LibraryInput) (following : List LibraryInput) (files : List LibraryFile) → AreMembers (before ++ g ∷ following) files → (f : LibraryFile) × IsMember g f
member_in [] g following [] are = absurd are
member_in [] g following (f ∷ files) are = (f, are.0)
member_in (x ∷ before) g following [] are = absurd are
member_in (x ∷ before) g following (f ∷ files) are = member_in before g following files are.1

any_in : (before : List Segment) (d : Segment) (following : List Segment) → is_dictionary d ≡ true → list_any is_dictionary (before ++ d ∷ following) ≡ true
any_in [] d following is = ap (λ (b : Bool). b || list_any is_dictionary following) is
any_in (s ∷ before) d following is = or_true (is_dictionary s) (list_any is_dictionary (before ++ d ∷ following)) (any_in before d following is)
  where
    or_true : (a b : Bool) → b ≡ true → (a || b) ≡ true
    or_true true b e = refl
    or_true false b e = e

differ : false ≡ true → ⊥
differ e = cc

no_fault : (g : LibraryInput) (f : LibraryFile) (cause : LibCause) (segment at : ℕ) → IsMember g f → HasMemberFault g.bytes cause segment at → ⊥
no_fault g f cause segment at is (InFile of first same number place) = no_file g.bytes of f.segments first (subst (IsFile f.segments) is.bytes is.segments)
no_fault g f cause segment at is (OfDictionary d same) =
    let all = file_same f.segments (d.before ++ d.dictionary ∷ d.following) g.bytes (subst (IsFile f.segments) is.bytes is.segments) d.is_file in
    differ (sym is.others ∙ ap (list_any is_dictionary) all ∙ any_in d.before d.dictionary d.following d.is)

no_member_fault : (given : List LibraryInput) (bytes : List ℕ) (fault : LibFault) → IsLibraryOf given bytes → IsFirstMemberFault given fault → ⊥
no_member_fault given bytes fault made first =
    let found = member_in first.before first.file first.following made.files (subst (λ (l : List LibraryInput). AreMembers l made.files) first.parts made.members) in
    no_fault first.file found.0 fault.cause fault.spot.segment fault.spot.at found.1 first.here

not_too_long : (given : List LibraryInput) (bytes : List ℕ) → IsLibraryOf given bytes → IsTooLong given → ⊥
not_too_long given bytes made long =
    let same = members_same given made.files long.files made.members long.members in
    absurd (omega (arith, made.short, ap length made.made, ap (λ (l : List LibraryFile). length (library_bytes l)) same, long.long))

pub made_excludes : MadeIsRefusedForMemoryAlone
made_excludes given bytes fault made refused = by fault.cause refused
  where
    by : (cause : LibCause) → ByCause cause (IsFirstMemberFault given fault) (IsTooLong given × IsNowhere fault.spot) (IsNowhere fault.spot) → cause ≡ Memory
    by Truncated h = absurd (no_member_fault given bytes fault made h)
    by BadHeader h = absurd (no_member_fault given bytes fault made h)
    by Unsupported h = absurd (no_member_fault given bytes fault made h)
    by BadRecord h = absurd (no_member_fault given bytes fault made h)
    by TooLong h = absurd (not_too_long given bytes made h.0)
    by Memory h = refl
