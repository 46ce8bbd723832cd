-- What inputs add to the list and to the offers.
use Rattle.std.proofs.Common.{◌≡◌, ◌⊎◌, inl, inr, ℕ, zero, suc, ◌+◌, Bool, true, false, List, [], ◌∷◌, ◌++◌, length, map, take, Some, None, Ok, Err, sym, ap, subst, ◌∙◌, append_assoc, append-nil, arith}
use Rattle.std.specs.Prelude.{slice_get, if◌then◌else◌}
use Rattle.std.specs.List.{filter_map}
use Rattle.std.proofs.lemmas.List.{map-append, length-map}
use Rattle.omf_format.specs.declared.fault.FileFault.{FileFault}
use Rattle.omf_format.specs.File.{Segment, IsFile, IsFirstFault}
use Rattle.omf_format.specs.laws.FileLaws.{file_same, no_file}
use Rattle.link_meaning.specs.declared.fault.LinkCause.TheVariants.{BadLibrary}
use Rattle.link_meaning.specs.First.{IsIn}
use Rattle.link_meaning.specs.Member.{OfferedRow, Input, Member, Offer, is_library, members_from, objects_from, objects, offer_of, offers_from, library_offers, LinkSetting}
use Rattle.link_meaning.specs.Dictionary.{rows_of}
use Rattle.link_meaning.specs.LinkFaults.{segments_fault, OfDictionary, IsInput}
use Rattle.link_meaning.specs.declared.fault.LinkFault.{LinkFault}
use Rattle.lib_dict.specs.DictionaryLayout.{AreRows, RowsAreLaidOut}
use Rattle.lib_dict.specs.Library.{LibraryRow, row_view, HasRows, IsFalseAt}
use Rattle.link_resolve.specs.declared.gather.Gathered as gathered
use Rattle.link_program.specs.Linked.{Holds}
use Rattle.link_tables.specs.Offers.{AreOffers}
use Rattle.link_program.specs.Inputs.{IsSoundInput}
use Rattle.link_resolve.specs.Reading.{IsFileRefused}
use Rattle.link_resolve.specs.Gathered as shown
use Rattle.link_resolve.specs.Gathered.{IsGathered, AddsInput}
use Rattle.link_resolve.proofs.LibraryLaws.{ascend}
use Rattle.link_program.proofs.OpeningLaws.{in_either}
use Rattle.link_program.proofs.RowLaws.{rows_stand}

-- ---- an object file's segments

abbrev pub member_as : LinkSetting → ℕ → ℕ → Segment → Member
member_as setting file number s = record { file = file; number = number; from = 0; segment = s; setting = setting }

pub members_more : (setting : LinkSetting) (file n : ℕ) (list : List Segment) (k : ℕ) (s : Segment) → slice_get list k ≡ Some s → members_from setting file n (take (k + 1) list) ≡ members_from setting file n (take k list) ++ member_as setting file (n + k) s ∷ []
members_more setting file n [] k s e = absurd cc
members_more setting file n (x ∷ list) zero s e =
    let same : x ≡ s = cc in
    let number : n ≡ n + 0 = omega arith in
    ap (λ (y : Segment). member_as setting file n y ∷ []) same ∙ ap (λ (i : ℕ). member_as setting file i s ∷ []) number
members_more setting file n (x ∷ list) (suc k) s e =
    let next : suc k + 1 ≡ suc (k + 1) = omega arith in
    let number : n + 1 + k ≡ n + suc k = omega arith in
    ap (λ (i : ℕ). members_from setting file n (take i (x ∷ list))) next
    ∙ ap (λ (l : List Member). member_as setting file n x ∷ l) (members_more setting file (n + 1) list k s e ∙ ap (λ (i : ℕ). members_from setting file (n + 1) (take k list) ++ member_as setting file i s ∷ []) number)

-- ---- a library's rows

pub reported_so : (list : List Segment) (bytes : List ℕ) (reported : List LibraryRow) → RowsAreLaidOut → IsFile list bytes → HasRows bytes reported → shown.AreRows list reported
reported_so list bytes reported law is_file has =
    let same : has.segments ≡ list = file_same has.segments list bytes has.is_file is_file in
    let read : rows_of list ≡ Ok has.found = ap rows_of (sym same) ∙ has.read in
    let library : is_library list ≡ true = ap is_library (sym same) ∙ has.library in
    record {
      rows = has.found;
      read = read;
      reported' = has.reported ∙ ap (λ (l : List Segment). map (row_view l) has.found) same;
      stand = rows_stand list has.found law library read;
      ascend = ascend list 0 bytes (length bytes) is_file;
    }

pub false_library : (list : List Segment) (bytes : List ℕ) (file at : ℕ) (fault : LinkFault) → IsFile list bytes → segments_fault 1 list ≡ None → is_library list ≡ true → IsFalseAt bytes at
    → fault ≡ record { cause = BadLibrary; name = None; spot = record { file = file; segment = 1; at = at } } → IsFileRefused file bytes fault
false_library list bytes file at fault is_file sound library is reported =
    let same : is.segments ≡ list = file_same is.segments list bytes is.is_file is_file in
    let rows : rows_of list ≡ Err at = ap rows_of (sym same) ∙ is.false' in
    inr (OfDictionary list at is_file sound (ap (λ (b : Bool). if b then rows_of list else Ok []) library ∙ rows) reported)

-- ---- one more input

objects-snoc : (setting : LinkSetting) (file : ℕ) (inputs : List Input) (input : Input) → objects_from setting file (inputs ++ input ∷ []) ≡ objects_from setting file inputs ++ (if is_library input.segments then [] else members_from setting (file + length inputs) 1 input.segments)
objects-snoc setting file [] input =
    let same : file ≡ file + 0 = omega arith in
    append-nil (if is_library input.segments then [] else members_from setting file 1 input.segments) ∙ ap (λ (n : ℕ). if is_library input.segments then [] else members_from setting n 1 input.segments) same
objects-snoc setting file (x ∷ inputs) input =
    let same : file + 1 + length inputs ≡ file + suc (length inputs) = omega arith in
    ap (λ (l : List Member). (if is_library x.segments then [] else members_from setting file 1 x.segments) ++ l)
    (objects-snoc setting (file + 1) inputs input ∙ ap (λ (n : ℕ). objects_from setting (file + 1) inputs ++ (if is_library input.segments then [] else members_from setting n 1 input.segments)) same)
    ∙ sym (append_assoc (if is_library x.segments then [] else members_from setting file 1 x.segments) (objects_from setting (file + 1) inputs) (if is_library input.segments then [] else members_from setting (file + suc (length inputs)) 1 input.segments))

offers-snoc : (setting : LinkSetting) (file : ℕ) (inputs : List Input) (input : Input) → offers_from setting file (inputs ++ input ∷ []) ≡ offers_from setting file inputs ++ filter_map (offer_of setting (file + length inputs) input.segments) input.rows
offers-snoc setting file [] input =
    let same : file ≡ file + 0 = omega arith in
    append-nil (filter_map (offer_of setting file input.segments) input.rows) ∙ ap (λ (n : ℕ). filter_map (offer_of setting n input.segments) input.rows) same
offers-snoc setting file (x ∷ inputs) input =
    let same : file + 1 + length inputs ≡ file + suc (length inputs) = omega arith in
    ap (λ (l : List Offer). filter_map (offer_of setting file x.segments) x.rows ++ l)
    (offers-snoc setting (file + 1) inputs input ∙ ap (λ (n : ℕ). offers_from setting (file + 1) inputs ++ filter_map (offer_of setting n input.segments) input.rows) same)
    ∙ sym (append_assoc (filter_map (offer_of setting file x.segments) x.rows) (offers_from setting (file + 1) inputs) (filter_map (offer_of setting (file + suc (length inputs)) input.segments) input.rows))

pub gathered_more : (inputs : List Input) (input : Input) (old new : gathered.Gathered) (file : ℕ) (list : List Segment) → IsGathered inputs old → file ≡ length old.files.items + 1 → AddsInput file input old new → IsSoundInput input → input.segments ≡ list
    → new.files.items ≡ old.files.items ++ list ∷ [] → IsGathered (inputs ++ input ∷ []) new
unfolding objects library_offers
gathered_more inputs input old new file list g number adds sound same files =
    let at : file ≡ 1 + length inputs = omega (arith, number, ap length g.files, length-map inputs (λ (i : Input). i.segments)) in
    record {
      files =
          files ∙ ap (λ (l : List (List Segment)). l ++ list ∷ []) g.files ∙ ap (λ (s : List Segment). map (λ (i : Input). i.segments) inputs ++ s ∷ []) (sym same)
          ∙ sym (map-append (λ (i : Input). i.segments) inputs (input ∷ []));
      objects' = λ setting. subst (λ (l : List Member). Holds l new.linked) (ap (λ (n : ℕ). objects_from setting 1 inputs ++ (if is_library input.segments then [] else members_from setting n 1 input.segments)) at ∙ sym (objects-snoc setting 1 inputs input))
          (adds.0 setting (objects_from setting 1 inputs) (g.objects' setting));
      offers' = λ setting. subst (λ (l : List Offer). AreOffers l new.offers) (ap (λ (n : ℕ). offers_from setting 1 inputs ++ filter_map (offer_of setting n input.segments) input.rows) at ∙ sym (offers-snoc setting 1 inputs input))
          (adds.1 setting (offers_from setting 1 inputs) (g.offers' setting));
      sound = λ i is. settle i (in_either inputs (input ∷ []) i is);
    }
  where
    settle : (i : Input) → IsIn inputs i ⊎ IsIn (input ∷ []) i → IsSoundInput i
    settle i (inl is) = g.sound i is
    settle i (inr (inl e)) = subst IsSoundInput e sound
    settle i (inr (inr more)) = absurd more

-- an object file's input
pub object_input : (list : List Segment) (bytes : List ℕ) → IsFile list bytes → segments_fault 1 list ≡ None → is_library list ≡ false → IsInput bytes (record { segments = list; rows = [] })
object_input list bytes is_file sound other = record { is_file = is_file; sound = sound; rows = ap (λ (b : Bool). if b then rows_of list else Ok []) other }

-- and a library's
pub library_input : (list : List Segment) (bytes : List ℕ) (rows : List OfferedRow) → IsFile list bytes → segments_fault 1 list ≡ None → is_library list ≡ true → rows_of list ≡ Ok rows → IsInput bytes (record { segments = list; rows = rows })
library_input list bytes rows is_file sound library read = record { is_file = is_file; sound = sound; rows = ap (λ (b : Bool). if b then rows_of list else Ok []) library ∙ read }

pub gathered_none : (new : gathered.Gathered) → new.files.items ≡ [] → Holds [] new.linked → AreOffers [] new.offers → IsGathered [] new
unfolding objects library_offers
gathered_none new files linked offered = record { files = files; objects' = λ setting. linked; offers' = λ setting. offered; sound = λ i is. absurd is }

-- a file that is one has no fault
pub no_file_fault : (list : List Segment) (bytes : List ℕ) (fault : FileFault) → IsFile list bytes → IsFirstFault bytes fault → ⊥
no_file_fault list bytes fault is first = no_file bytes fault list first is

-- what an object file adds
pub adds_object : (file : ℕ) (list : List Segment) (old new : gathered.Gathered) → is_library list ≡ false → new.offers ≡ old.offers
    → ((setting : LinkSetting) (before : List Member) → Holds before old.linked → Holds (before ++ members_from setting file 1 list) new.linked) → AddsInput file (record { segments = list; rows = [] }) old new
adds_object file list old new other offered linked = (
  λ setting before holds. subst (λ (b : Bool). Holds (before ++ (if b then [] else members_from setting file 1 list)) new.linked) (sym other) (linked setting before holds),
  λ setting os are. subst (λ (l : List Offer). AreOffers l new.offers) (sym (append-nil os)) (subst (AreOffers os) (sym offered) are),
)

-- and a library
pub adds_library : (file : ℕ) (list : List Segment) (rows : List OfferedRow) (old new : gathered.Gathered) → is_library list ≡ true → new.linked ≡ old.linked
    → ((setting : LinkSetting) (os : List Offer) → AreOffers os old.offers → AreOffers (os ++ filter_map (offer_of setting file list) rows) new.offers)
    → AddsInput file (record { segments = list; rows = rows }) old new
adds_library file list rows old new library linked offered = (
  λ setting before holds. subst (λ (b : Bool). Holds (before ++ (if b then [] else members_from setting file 1 list)) new.linked) (sym library)
      (subst (λ (l : List Member). Holds l new.linked) (sym (append-nil before)) (subst (Holds before) (sym linked) holds)),
  offered,
)
