-- There are few members and offers of inputs.
use Rattle.std.proofs.Common.{◌≡◌, ℕ, suc, ◌+◌, ◌*◌, ◌≤◌, Bool, true, false, List, [], ◌∷◌, ◌++◌, length, Option, Some, None, Result, Ok, refl, sym, ap, ◌∙◌, arith}
use Rattle.std.specs.Prelude.{if◌then◌else◌}
use Rattle.std.specs.List.{filter_map, cons_option}
use Rattle.std.proofs.lemmas.List.{length-append}
use Rattle.omf_format.specs.File.{Segment}
use Rattle.omf_format.specs.laws.FileLaws.{segments_fit}
use Rattle.link_meaning.specs.Member.{OfferedRow, Input, Offer, is_library, members_from, objects_from, objects, offer_of, offers_from, library_offers, LinkSetting}
use Rattle.link_meaning.specs.Dictionary.{rows_of}
use Rattle.link_meaning.specs.LinkFaults.{AreInputs}
use Rattle.link_resolve.specs.Resolved.{total_size, FewRows}

members-length : (setting : LinkSetting) (file n : ℕ) (list : List Segment) → length (members_from setting file n list) ≡ length list
members-length setting file n [] = refl
members-length setting file n (s ∷ list) = ap suc (members-length setting file (n + 1) list)

offers-length : (setting : LinkSetting) (file : ℕ) (segments : List Segment) (rows : List OfferedRow) → length (filter_map (offer_of setting file segments) rows) ≤ length rows
offers-length setting file segments [] = omega arith
offers-length setting file segments (r ∷ rows) = settle (offer_of setting file segments r) (offers-length setting file segments rows)
  where
    settle : (x : Option Offer) → length (filter_map (offer_of setting file segments) rows) ≤ length rows → length (cons_option x (filter_map (offer_of setting file segments) rows)) ≤ suc (length rows)
    settle None less = omega arith
    settle (Some p) less = omega arith

pub few_more : (inputs : List Input) (files : List (List ℕ)) (i : Input) (bytes : List ℕ) → AreInputs files inputs → FewRows inputs files → 12 * length i.rows ≤ length bytes → FewRows (inputs ++ i ∷ []) (files ++ bytes ∷ [])
few_more [] [] i bytes are few less = (less, tt)
few_more [] (f ∷ files) i bytes are few less = absurd are
few_more (x ∷ inputs) [] i bytes are few less = absurd are
few_more (x ∷ inputs) (f ∷ files) i bytes are few less = (few.0, few_more inputs files i bytes are.1 few.1 less)

abbrev fine : List OfferedRow → Result (List OfferedRow) ℕ
fine rows = Ok rows

ok_same : (x y : List OfferedRow) → fine x ≡ fine y → x ≡ y
ok_same x y e = cc

pub all_few : (setting : LinkSetting) (file : ℕ) (files : List (List ℕ)) (inputs : List Input) → AreInputs files inputs → FewRows inputs files → 10 * (length (objects_from setting file inputs) + length (offers_from setting file inputs)) ≤ total_size files
all_few setting file [] [] are few = omega arith
all_few setting file [] (i ∷ inputs) are few = absurd are
all_few setting file (f ∷ files) [] are few = absurd are
all_few setting file (f ∷ files) (i ∷ inputs) are few =
    let rest = all_few setting (file + 1) files inputs are.1 few.1 in
    let own = settle (is_library i.segments) refl in
    omega (arith, rest, own, length-append (if is_library i.segments then [] else members_from setting file 1 i.segments) (objects_from setting (file + 1) inputs), length-append (filter_map (offer_of setting file i.segments) i.rows) (offers_from setting (file + 1) inputs))
  where
    settle : (b : Bool) → is_library i.segments ≡ b → 10 * (length (if is_library i.segments then [] else members_from setting file 1 i.segments) + length (filter_map (offer_of setting file i.segments) i.rows)) ≤ length f
    settle true e =
        let none : length (if is_library i.segments then [] else members_from setting file 1 i.segments) ≡ 0 = ap (λ (b : Bool). length (if b then [] else members_from setting file 1 i.segments)) e in
        omega (arith, none, offers-length setting file i.segments i.rows, few.0)
    settle false e =
        let all : length (if is_library i.segments then [] else members_from setting file 1 i.segments) ≡ length i.segments = ap (λ (b : Bool). length (if b then [] else members_from setting file 1 i.segments)) e ∙ members-length setting file 1 i.segments in
        let rows : i.rows ≡ [] = ok_same i.rows [] (sym are.0.rows ∙ ap (λ (b : Bool). if b then rows_of i.segments else fine []) e) in
        let none : length (filter_map (offer_of setting file i.segments) i.rows) ≡ 0 = ap (λ (r : List OfferedRow). length (filter_map (offer_of setting file i.segments) r)) rows in
        omega (arith, all, none, segments_fit i.segments 0 f (length f) are.0.is_file)

pub all_fit : (setting : LinkSetting) (files : List (List ℕ)) (inputs : List Input) → AreInputs files inputs → FewRows inputs files → 10 * (length (objects setting inputs) + length (library_offers setting inputs)) ≤ total_size files
unfolding objects library_offers
all_fit setting files inputs are few = all_few setting 1 files inputs are few
