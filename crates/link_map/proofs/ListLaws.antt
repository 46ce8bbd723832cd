-- What a linked list has at a place.
use Rattle.std.proofs.Common.{◌≡◌, ℕ, zero, suc, ◌+◌, ◌<◌, ◌≤◌, ◌^◌, List, [], ◌∷◌, ◌++◌, length, Some, None, refl, sym, ap, ◌∙◌, arith}
use Rattle.std.specs.Prelude.{slice_get, option_map}
use Rattle.omf_format.specs.Header.{HeaderFields}
use Rattle.omf_format.specs.Record.{Record}
use Rattle.omf_format.specs.File.{Segment}
use Rattle.object_meaning.specs.Sizes.{place_after, body_size}
use Rattle.link_meaning.specs.Member.{Member}
use Rattle.link_meaning.specs.Layout.{load_headers, load_of, offset_of}
use Rattle.link_meaning.specs.laws.PlaceFits.{IsPlaceIn, following-le}
use Rattle.link_program.specs.declared.program.LinkMember.{LinkMember}
use Rattle.link_program.specs.Linked.{member_at}
use Rattle.link_program.specs.OfFiles.{IsOfFiles}
use Rattle.link_program.specs.Programs.{linked_at, header_at}
use Rattle.link_values.proofs.FileFacts.{near_of}
use Rattle.link_values.proofs.LocatedLaws.{following-append}
use Rattle.link_map.specs.Standing.{HasMember, HasLoad}
use Rattle.link_map.proofs.TextLaws.{same_some, some_none, item_there}

-- ---- members and load segments by number

pub member_there : (list : List Member) (k : ℕ) → k < length list → HasMember list (k + 1)
member_there list k less =
    let next : k + 1 ≡ suc k = omega arith in
    let there = item_there list k less in
    (there.0, ap (member_at list) next ∙ there.1)

pub member_item : (list : List Member) (k : ℕ) (m : Member) → member_at list (k + 1) ≡ Some m → slice_get list k ≡ Some m
member_item list k m there =
    let next : suc k ≡ k + 1 = omega arith in
    ap (member_at list) next ∙ there

pub load_there : (list : List Member) (k : ℕ) → k < length (load_headers list) → HasLoad list (k + 1)
load_there list k less =
    let next : k + 1 ≡ suc k = omega arith in
    let there = item_there (load_headers list) k less in
    (there.0, ap (header_at (load_headers list)) next ∙ there.1)

pub load_item : (list : List Member) (k : ℕ) (f : HeaderFields) → header_at (load_headers list) (k + 1) ≡ Some f → slice_get (load_headers list) k ≡ Some f
load_item list k f there =
    let next : suc k ≡ k + 1 = omega arith in
    ap (header_at (load_headers list)) next ∙ there

-- ---- what a program reports of a member

abbrev link_of : List Member → ℕ → Member → LinkMember
link_of list place m = record { file = m.file; segment = m.number; load_segment = load_of list m; offset = offset_of list place m }

pub untold_member : (list : List Member) (place : ℕ) (m : Member) → member_at list place ≡ Some m → None ≡ linked_at list place → ⊥
untold_member list place m there is = some_none (link_of list place m) (sym (is ∙ ap (option_map (link_of list place)) there))

pub reported_segment : (list : List Member) (place : ℕ) (m : Member) (s : Segment) → member_at list place ≡ Some m → Some s ≡ option_map (λ (o : Member). o.segment) (member_at list place) → m.segment ≡ s
reported_segment list place m s there is = same_some m.segment s (sym (is ∙ ap (option_map (λ (o : Member). o.segment)) there))

pub untold_segment : (list : List Member) (place : ℕ) (m : Member) → member_at list place ≡ Some m → None ≡ option_map (λ (o : Member). o.segment) (member_at list place) → ⊥
untold_segment list place m there is = some_none m.segment (sym (is ∙ ap (option_map (λ (o : Member). o.segment)) there))

-- ---- places in members

split_at : {A : Type 0} (xs : List A) (k : ℕ) (x : A) → slice_get xs k ≡ Some x → (front : List A) × (back : List A) × (xs ≡ front ++ x ∷ back) × (k ≡ length front)
split_at [] k x found = absurd (some_none x (sym found))
split_at {A} (y ∷ xs) zero x found = ([], xs, ap (λ (z : A). z ∷ xs) (same_some y x found), refl)
split_at {A} (y ∷ xs) (suc k) x found =
    let rest = split_at xs k x found in
    (y ∷ rest.0, rest.1, ap (λ (l : List A). y ∷ l) rest.2, ap suc rest.3)

place_in : (list : List Member) (place : ℕ) (m : Member) (at : ℕ) → member_at list place ≡ Some m → at ≤ body_size m.segment → IsPlaceIn list place m at
place_in list zero m at there inside = absurd (some_none m (sym there))
place_in list (suc k) m at there inside =
    let parts = split_at list k m there in
    record { front = parts.0; back = parts.1; parts = parts.2; number = omega (arith, parts.3); inside = inside }

-- a place of a member has 32 bits
pub near_there : (list : List Member) → IsOfFiles list → (place : ℕ) (m : Member) (at : ℕ) → member_at list place ≡ Some m → at ≤ body_size m.segment → offset_of list place m + at < 2 ^ 32
near_there list of place m at there inside = near_of list of place m at (place_in list place m at there inside)

-- after some of a segment's first records there are no more cells than it has
pub after_within : (s : Segment) (done back : List (ℕ × Record)) → s.records ≡ done ++ back → place_after 0 done ≤ body_size s
unfolding body_size
after_within s done back parts =
    let whole : place_after 0 s.records ≡ place_after (place_after 0 done) back = ap (place_after 0) parts ∙ following-append 0 done back in
    omega (arith, whole, following-le (place_after 0 done) back)
