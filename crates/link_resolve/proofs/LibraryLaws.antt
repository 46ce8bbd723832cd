-- The segments of a library by their starts, and its rows.
use Rattle.std.proofs.Common.{◌≡◌, ℕ, zero, suc, ◌+◌, ◌-◌, ◌≤◌, ◌<◌, Bool, true, false, not, ◌&&◌, List, [], ◌∷◌, ◌++◌, length, map, take, Option, Some, None, refl, sym, ap, subst, ◌∙◌, append_assoc, arith}
use Rattle.std.specs.Prelude.{slice_get, ◌||◌, option_map, if◌then◌else◌}
use Rattle.std.specs.List.{filter_map, cons_option, list_any}
use Rattle.std.specs.Str.{bytes_eq}
use Rattle.std.proofs.lemmas.Bool.{eq-eqb, ne_eqb}
use Rattle.omf_format.specs.Header.{form_of, is_private}
use Rattle.omf_format.specs.File.{Segment, AreSegments, segment_at}
use Rattle.omf_format.specs.laws.FileLaws.{header_lies}
use Rattle.omf_records.specs.declared.segment.SegmentView.{SegmentView}
use Rattle.omf_records.specs.Segments.{segment_of_view}
use Rattle.omf_records.specs.SegmentLaws.{shown_at}
use Rattle.std.proofs.lemmas.List.Elements.{filter_map-append}
use Rattle.link_meaning.specs.First.{IsIn}
use Rattle.link_meaning.specs.Member.{OfferedRow, Offer, offer_of, LinkSetting}
use Rattle.object_meaning.specs.Defines.{Definition, outer_scope, title_of, data_title_of}
use Rattle.link_meaning.specs.LinkedList.{has_title}
use Rattle.lib_dict.specs.Library.{LibraryRow, row_view}
use Rattle.link_tables.specs.declared.definitions.Origin.{Origin}
use Rattle.link_tables.specs.declared.offers.Offers.{Offers}
use Rattle.link_tables.specs.Offers.{origin_view, is_titled, IsOfferOf, AreOffers}
use Rattle.std.proofs.lemmas.Option.{slice_get-map}
use Rattle.std.proofs.lemmas.List.{length-map}
use Rattle.link_resolve.specs.Libraries.{StartsAscend}
use Rattle.link_program.specs.Inputs.{StandsIn, AllStand}
use Rattle.link_program.proofs.RowLaws.{row_place, offer_with, offer_same, offer_is}
use Rattle.link_tables.proofs.Lists.{in_at, take_more, take_all}

-- ---- starts

starts_later : (segments : List Segment) (next : ℕ) (file : List ℕ) (end place : ℕ) (s : Segment) → AreSegments segments next file end → slice_get segments place ≡ Some s → next ≤ s.start
starts_later [] next file end place s are here = absurd cc
starts_later (t ∷ segments) next file end zero s are here = let same : t ≡ s = cc in omega (arith, ap (λ (u : Segment). u.start) same, are.0)
starts_later (t ∷ segments) next file end (suc place) s are here =
    let rest = starts_later segments (next + t.fields.byte_count) file end place s are.3 here in
    omega arith

pub ascend : (segments : List Segment) (next : ℕ) (file : List ℕ) (end : ℕ) → AreSegments segments next file end → StartsAscend segments
ascend [] next file end are j k s t less a b = absurd cc
ascend (x ∷ segments) next file end are zero zero s t less a b = absurd (omega arith)
ascend (x ∷ segments) next file end are zero (suc k) s t less a b =
    let same : x ≡ s = cc in
    let lies = header_lies x.start x.fields file are.2.header in
    let later = starts_later segments (next + x.fields.byte_count) file end k t are.3 b in
    omega (arith, ap (λ (u : Segment). u.start) same, are.0, lies.some, later)
ascend (x ∷ segments) next file end are (suc j) zero s t less a b = absurd (omega arith)
ascend (x ∷ segments) next file end are (suc j) (suc k) s t less a b =
    ascend segments (next + x.fields.byte_count) file end are.3 j k s t (omega arith) a b

-- a segment that starts there is between these places
abbrev pub IsBetween : List Segment → ℕ → ℕ → ℕ → Type 0
IsBetween list at low high = (high ≤ length list) × ((k : ℕ) (s : Segment) → slice_get list k ≡ Some s → s.start ≡ at → (low ≤ k) × (k < high))

-- ---- titles

abbrev title_as : Segment → List ℕ → List Definition
title_as s n = elim n as (λ n. List Definition) [
  | [] ↦ []
  | b ∷ bs ↦ record { name = b ∷ bs; scope = outer_scope (is_private s.fields.kind); place = 0; at = s.start; expr = None; size = 0; form = 0x4E } ∷ []
]

abbrev privacy : Segment → Bool → Bool
privacy s private = if private then is_private s.fields.kind else not (is_private s.fields.kind)

abbrev has_name : List ℕ → List Definition → Bool
has_name name ds = list_any (λ d. bytes_eq name d.name) ds

or_false : (b : Bool) → (b || false) ≡ b
or_false true = refl
or_false false = refl

title_none : (s : Segment) (name n : List ℕ) → n ≡ [] → has_name name (title_as s n) ≡ false
title_none s name [] e = refl
title_none s name (b ∷ bs) e = absurd cc

title_some : (s : Segment) (name n : List ℕ) → (n ≡ [] → ⊥) → has_name name (title_as s n) ≡ bytes_eq name n
title_some s name [] some = absurd (some refl)
title_some s name (b ∷ bs) some = or_false (bytes_eq name (b ∷ bs))

pub other_form : (s : Segment) (name : List ℕ) (private : Bool) (form : ℕ) → form ≡ form_of s.fields.kind → (form ≡ 0x01 → ⊥) → false ≡ has_title s name private
unfolding data_title_of
other_form s name private form is other =
    sym (ap (λ (b : Bool). has_name name (if b then title_of s else []) && privacy s private) (ne_eqb (form_of s.fields.kind) 0x01 (λ e. other (is ∙ e))))

titled_by : (s : Segment) (name : List ℕ) (private : Bool) (form : ℕ) → form ≡ form_of s.fields.kind → form ≡ 0x01 → has_title s name private ≡ (has_name name (title_as s s.fields.name) && privacy s private)
unfolding data_title_of title_of
titled_by s name private form is data' = ap (λ (b : Bool). has_name name (if b then title_as s s.fields.name else []) && privacy s private) (eq-eqb (form_of s.fields.kind) 0x01 (sym is ∙ data'))

pub no_title : (s : Segment) (name : List ℕ) (private : Bool) (form : ℕ) (title : List ℕ) → form ≡ form_of s.fields.kind → form ≡ 0x01 → title ≡ s.fields.name → title ≡ [] → false ≡ has_title s name private
no_title s name private form title is data' named none =
    sym (titled_by s name private form is data' ∙ ap (λ (b : Bool). b && privacy s private) (title_none s name s.fields.name (sym named ∙ none)))

pub other_title : (s : Segment) (name : List ℕ) (private : Bool) (form : ℕ) (title : List ℕ) → form ≡ form_of s.fields.kind → form ≡ 0x01 → title ≡ s.fields.name → (title ≡ [] → ⊥) → bytes_eq name title ≡ false
    → false ≡ has_title s name private
other_title s name private form title is data' named some other =
    sym (titled_by s name private form is data' ∙ ap (λ (b : Bool). b && privacy s private) (title_some s name s.fields.name (λ e. some (named ∙ e)) ∙ ap (bytes_eq name) (sym named) ∙ other))

pub same_title : (s : Segment) (name : List ℕ) (private is_so : Bool) (form : ℕ) (title : List ℕ) → form ≡ form_of s.fields.kind → form ≡ 0x01 → title ≡ s.fields.name → (title ≡ [] → ⊥) → bytes_eq name title ≡ true
    → is_so ≡ privacy s private → is_so ≡ has_title s name private
same_title s name private is_so form title is data' named some same so =
    so ∙ sym (titled_by s name private form is data' ∙ ap (λ (b : Bool). b && privacy s private) (title_some s name s.fields.name (λ e. some (named ∙ e)) ∙ ap (bytes_eq name) (sym named) ∙ same))

-- ---- rows

pub there_is : (setting : LinkSetting) (file : ℕ) (segments : List Segment) (row : OfferedRow) (k : ℕ) (s : Segment) → row.segment ≡ suc k → slice_get segments k ≡ Some s
    → offer_of setting file segments row ≡ Some (record { name = row.name; private = row.private; member = record { file = file; number = row.segment; from = row.from; segment = s; setting = setting } })
there_is setting file segments row k s number here =
    let place : row.segment - 1 ≡ k = omega (arith, number) in
    ap (λ (x : Option Segment). option_map (offer_with setting file row) x) (ap (slice_get segments) place ∙ here)

pub offered_so : (setting : LinkSetting) (file : ℕ) (segments : List Segment) (row : OfferedRow) (reported : LibraryRow) (o : Offer) (k : ℕ) (s : Segment) (number : ℕ) (titled : Bool) → offer_of setting file segments row ≡ Some o → row.segment ≡ suc k → slice_get segments k ≡ Some s
    → reported ≡ row_view segments row → number ≡ k + 1 → titled ≡ has_title s reported.name reported.private → IsOfferOf o reported.name reported.private (record { file = file; segment = number; from = reported.file }) titled
offered_so setting file segments row reported o k s number titled is place here reported_is number_is titled_is =
    let same = offer_is setting file segments row o k s is place here in
    let name : row.name ≡ reported.name = sym (ap (λ (t : LibraryRow). t.name) reported_is) in
    let private : row.private ≡ reported.private = sym (ap (λ (t : LibraryRow). t.private) reported_is) in
    let from : row.from ≡ reported.file = sym (ap (λ (t : LibraryRow). t.file) reported_is) in
    record {
      name' = ap (λ (x : Offer). x.name) same ∙ name;
      private' = ap (λ (x : Offer). x.private) same ∙ private;
      origin' = ap origin_view same ∙ origin_same file row.segment row.from number reported.file (omega (arith, place, number_is)) from;
      titled' = ap is_titled same ∙ ap (λ (n : List ℕ). has_title s n row.private) name ∙ ap (λ (b : Bool). has_title s reported.name b) private ∙ sym titled_is;
    }
  where
    origin_at : ℕ → ℕ → ℕ → Origin
    origin_at file number from = record { file = file; segment = number; from = from }

    origin_same : (file number from number' from' : ℕ) → number ≡ number' → from ≡ from' → origin_at file number from ≡ origin_at file number' from'
    origin_same file number from number' from' e f = ap (λ (n : ℕ). origin_at file n from) e ∙ ap (origin_at file number') f

-- ---- the rows so far

-- one more row
pub offers_more : (setting : LinkSetting) (file : ℕ) (segments : List Segment) (os : List Offer) (rows : List OfferedRow) (k : ℕ) (row : OfferedRow) (o : Offer) → slice_get rows k ≡ Some row → offer_of setting file segments row ≡ Some o
    → (os ++ filter_map (offer_of setting file segments) (take k rows)) ++ o ∷ [] ≡ os ++ filter_map (offer_of setting file segments) (take (k + 1) rows)
offers_more setting file segments os rows k row o here is =
    let h = offer_of setting file segments in
    let one : filter_map h (row ∷ []) ≡ o ∷ [] = single (h row) is in
    append_assoc os (filter_map h (take k rows)) (o ∷ [])
    ∙ ap (λ (l : List Offer). os ++ (filter_map h (take k rows) ++ l)) (sym one)
    ∙ ap (λ (l : List Offer). os ++ l) (sym (filter_map-append h (take k rows) (row ∷ [])) ∙ ap (filter_map h) (sym (take_more rows k row here)))
  where
    single : (x : Option Offer) → x ≡ Some o → cons_option x [] ≡ o ∷ []
    single None e = absurd cc
    single (Some y) e = let same : y ≡ o = offer_same y o e in ap (λ (z : Offer). z ∷ []) same

pub not_true : (b : Bool) → not b ≡ true → b ≡ false
not_true true e = let clash : false ≡ true = e in absurd cc
not_true false e = refl

pub not_false : (b : Bool) → not b ≡ false → b ≡ true
not_false true e = refl
not_false false e = let clash : true ≡ false = e in absurd cc

number_same : (a b : ℕ) → Some a ≡ Some b → a ≡ b
number_same a b e = cc

-- what was looked up for a row
pub offered_row : (setting : LinkSetting) (file : ℕ) (segments : List Segment) (row : OfferedRow) (reported : LibraryRow) (o : Offer) (number : ℕ) (v : SegmentView) (titled : Bool) (stands : StandsIn segments row) (is : reported ≡ row_view segments row) → offer_of setting file segments row ≡ Some o
    → Some number ≡ Some ((row_place segments row reported is stands).k + 1) → Some (segment_of_view v) ≡ segment_at segments number → titled ≡ has_title (segment_of_view v) reported.name reported.private
    → IsOfferOf o reported.name reported.private (record { file = file; segment = number; from = reported.file }) titled
offered_row setting file segments row reported o number v titled stands is offer numbered there titled_is =
    let p = row_place segments row reported is stands in
    let n = number_same number (p.k + 1) numbered in
    let here : slice_get segments p.k ≡ Some (segment_of_view v) = shown_at segments p.k v (there ∙ ap (segment_at segments) n) in
    offered_so setting file segments row reported o p.k (segment_of_view v) number titled offer p.number here is n titled_is

-- ---- the loop

-- the row that is reported at a place
pub record IsRowAt (segments : List Segment) (rows : List OfferedRow) (k : ℕ) (reported : LibraryRow) : Type 0 where
  pub row : OfferedRow
  pub at : slice_get rows k ≡ Some row
  pub among : IsIn rows row
  pub reported' : reported ≡ row_view segments row

pub row_at : (segments : List Segment) (dictionary : List LibraryRow) (rows : List OfferedRow) (k : ℕ) (reported : LibraryRow) → dictionary ≡ map (row_view segments) rows → Some reported ≡ slice_get dictionary k → IsRowAt segments rows k reported
row_at segments dictionary rows k reported are at = settle (slice_get rows k) refl
  where
    both : option_map (row_view segments) (slice_get rows k) ≡ Some reported
    both = sym (slice_get-map (row_view segments) rows k) ∙ ap (λ (l : List LibraryRow). slice_get l k) (sym are) ∙ sym at

    reported_same : (a b : LibraryRow) → Some a ≡ Some b → a ≡ b
    reported_same a b e = cc

    settle : (o : Option OfferedRow) → slice_get rows k ≡ o → IsRowAt segments rows k reported
    settle None e = let clash : option_map (row_view segments) None ≡ Some reported = sym (ap (option_map (row_view segments)) e) ∙ both in absurd cc
    settle (Some row) e = record { row = row; at = e; among = in_at rows k row e; reported' = sym (reported_same (row_view segments row) reported (sym (ap (option_map (row_view segments)) e) ∙ both)) }

pub rows_next : (setting : LinkSetting) (file : ℕ) (segments : List Segment) (os : List Offer) (rows : List OfferedRow) (k : ℕ) (reported : LibraryRow) (r : IsRowAt segments rows k reported) → AllStand segments rows → (old new : Offers) → AreOffers (os ++ filter_map (offer_of setting file segments) (take k rows)) old
    → ((os' : List Offer) (row : OfferedRow) (o : Offer) → reported ≡ row_view segments row → StandsIn segments row → offer_of setting file segments row ≡ Some o → AreOffers os' old → AreOffers (os' ++ o ∷ []) new)
    → AreOffers (os ++ filter_map (offer_of setting file segments) (take (k + 1) rows)) new
rows_next setting file segments os rows k reported r stand old new are add =
    let s = stand r.row r.among in
    let p = row_place segments r.row reported r.reported' s in
    let offer = there_is setting file segments r.row p.k p.segment p.number p.here in
    let o : Offer = offer_with setting file r.row p.segment in
    subst (λ (l : List Offer). AreOffers l new) (offers_more setting file segments os rows k r.row o r.at offer) (add (os ++ filter_map (offer_of setting file segments) (take k rows)) r.row o r.reported' s offer are)

pub rows_all : (setting : LinkSetting) (file : ℕ) (segments : List Segment) (dictionary : List LibraryRow) (os : List Offer) (rows : List OfferedRow) (k : ℕ) (offers : Offers) → dictionary ≡ map (row_view segments) rows → length dictionary ≤ k
    → AreOffers (os ++ filter_map (offer_of setting file segments) (take k rows)) offers → AreOffers (os ++ filter_map (offer_of setting file segments) rows) offers
rows_all setting file segments dictionary os rows k offers are past is =
    let size : length rows ≤ k = omega (arith, past, ap length are, length-map rows (row_view segments)) in
    subst (λ (l : List OfferedRow). AreOffers (os ++ filter_map (offer_of setting file segments) l) offers) (take_all rows k size) is
