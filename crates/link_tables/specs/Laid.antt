-- What is kept of load segments.
use Rattle.std.specs.Prelude.{◌≡◌, ◌≤◌, ◌+◌, ℕ, Bool, not, ◌&&◌, ◌||◌, true, false, nat_lt, min, max, List, [], ◌∷◌, map, take, length, Some, None, Option, slice_get, ◌==◌, if◌then◌else◌}
use Rattle.omf_base.specs.declared.spot.Spot.{Spot}
use Rattle.std.specs.List.{list_any}
use Rattle.std.specs.Str.{bytes_eq}
use Rattle.omf_format.specs.File.{Segment}
use Rattle.omf_format.specs.Name.{without_trailing}
use Rattle.omf_format.specs.Header.{HeaderFields, is_dynamic, is_skipped}
use Rattle.link_meaning.specs.declared.search.SearchStep.TheVariants.{Everyone}
use Rattle.link_meaning.specs.declared.fault.LinkCause.TheVariants.{OrgConflict}
use Rattle.link_meaning.specs.declared.fault.LinkFault.{LinkFault}
use Rattle.link_meaning.specs.First.{HasNone, IsFirst}
use Rattle.link_meaning.specs.Member.{Member}
use Rattle.link_meaning.specs.Layout.{load_names, load_length, load_members, least_bank, greatest_align, of_first, load_of, offset_of, end_from, load_segment_kind}
use Rattle.link_meaning.specs.laws.Steps.{lesser_bank}
use Rattle.link_meaning.specs.LinkFaults.{HasOrgFault, first_spot, spot_in, LayoutCheck, Orgs, Count, Lengths, Kinds}
use Rattle.link_tables.specs.declared.layout.LoadLayout.{LoadLayout}
use Rattle.link_tables.specs.declared.layout.LoadOffset.{LoadOffset}
use Rattle.link_tables.specs.declared.layout.LinkLayout as kept
use Rattle.link_tables.specs.Names.{Row, Indexes}

abbrev pub layout_checks : List LayoutCheck
layout_checks = Orgs ∷ Count ∷ Lengths ∷ Kinds ∷ []

-- a load segment of one member, which starts there
pub record IsFresh (f : HeaderFields) (spot : Spot) (load : LoadLayout) : Type 0 where
  pub first : load.first ≡ spot
  pub load_name : load.load_name ≡ f.load_name
  pub kind : load.kind.bits ≡ load_segment_kind f.kind
  pub org : load.org ≡ f.org
  pub entry : load.entry ≡ f.entry
  pub align : load.align ≡ f.align
  pub bank_size : load.bank_size ≡ f.bank_size
  pub length' : load.length ≡ min f.length 16777216

-- with one more member
pub record IsJoined (f : HeaderFields) (offset : ℕ) (old new : LoadLayout) : Type 0 where
  pub first : new.first ≡ old.first
  pub load_name : new.load_name ≡ old.load_name
  pub kind : new.kind ≡ old.kind
  pub org : new.org ≡ old.org
  pub entry : new.entry ≡ old.entry
  pub align : new.align ≡ max old.align f.align
  pub bank_size : new.bank_size ≡ lesser_bank old.bank_size f.bank_size
  pub length' : new.length ≡ min (offset + f.length) 16777216

-- a load segment of these members that ends there
pub record IsLoadOf (members : List Member) (end : ℕ) (load : LoadLayout) : Type 0 where
  pub first : load.first ≡ first_spot members
  pub kind : load.kind.bits ≡ load_segment_kind (of_first (λ f. f.kind) members)
  pub org : load.org ≡ of_first (λ f. f.org) members
  pub entry : load.entry ≡ of_first (λ f. f.entry) members
  pub align : load.align ≡ greatest_align members
  pub bank_size : load.bank_size ≡ least_bank members
  pub length' : load.length ≡ min end 16777216

-- the load segment of its name
abbrev pub IsLoad : List Member → LoadLayout → Type 0
IsLoad list load = IsLoadOf (load_members load.load_name list) (load_length load.load_name list) load

-- where the first conflict is, if there was one or this member with another one before it asks for an address
abbrev pub conflict_with : Option Spot → ℕ → Spot → Option Spot
conflict_with None org spot = if org == 0 then None else Some spot
conflict_with (Some first) org spot = Some first

-- load names with their numbers, where the first has this one
abbrev pub load_rows : ℕ → List (List ℕ) → List Row
load_rows n [] = []
load_rows n (x ∷ xs) = (record { step = Everyone; name = x }, n) ∷ load_rows (n + 1) xs

-- the place is that of the member with this number, from 0; its offset where its load segment isn't too long before it
pub record IsPlace (list : List Member) (k : ℕ) (m : Member) (p : LoadOffset) : Type 0 where
  pub load : p.load + 1 ≡ load_of list m
  pub offset : end_from 0 m.segment.fields.load_name (take k list) ≤ 16777216 → p.offset ≡ offset_of list (k + 1) m

abbrev pub org_fault : Spot → LinkFault
org_fault spot = record { cause = OrgConflict; name = None; spot = spot }

-- where the first member with a conflict starts, if there is one
abbrev pub IsConflict : List Member → Option Spot → Type 0
IsConflict list None = HasNone HasOrgFault list
IsConflict list (Some spot) = IsFirst HasOrgFault list (org_fault spot)

-- these are the load segments of the list
pub record Laid (list : List Member) (kept : kept.LinkLayout) : Type 0 where
  pub named : map (λ load. load.load_name) kept.loads.items ≡ load_names list
  pub names : Indexes (load_rows 0 (load_names list)) kept.names
  pub loads : (k : ℕ) (load : LoadLayout) → slice_get kept.loads.items k ≡ Some load → IsLoad list load
  pub count : length kept.places.items ≡ length list
  pub places : (k : ℕ) (m : Member) (p : LoadOffset) → slice_get list k ≡ Some m → slice_get kept.places.items k ≡ Some p → IsPlace list k m p
  pub conflict : IsConflict list kept.conflict

-- the header of a load segment with this number
pub record ShowsLoad (load : LoadLayout) (number : ℕ) (f : HeaderFields) : Type 0 where
  pub fields : f ≡ record {
    byte_count = 0;
    res_spc = 0;
    length = load.length;
    lab_len = 0;
    version = 2;
    bank_size = load.bank_size;
    kind = load.kind.bits;
    org = load.org;
    align = load.align;
    seg_num = number;
    entry = load.entry;
    disp_name = 0;
    disp_data = 0;
    load_name = load.load_name;
    name = without_trailing 32 load.load_name;
  }

-- the text is among these
abbrev pub contains_text : List ℕ → List (List ℕ) → Bool
contains_text x xs = list_any (λ y. bytes_eq y x) xs

-- where the member starts
abbrev pub IsSpotOf : Member → Spot → Type 0
IsSpotOf m spot = spot ≡ spot_in m m.segment.start

-- the member's segment, and where it starts
abbrev pub IsAt : Member → Segment → Spot → Type 0
IsAt m s spot = (m.segment ≡ s) × IsSpotOf m spot

-- ---- lengths

-- the load segment is too long
abbrev pub is_long : LoadLayout → Bool
is_long load = load.length == 16777216 || (not (load.bank_size == 0) && nat_lt load.bank_size load.length)

abbrev pub AllShort : List LoadLayout → Type 0
AllShort loads = (k : ℕ) (load : LoadLayout) → slice_get loads k ≡ Some load → is_long load ≡ false

-- the first one that is too long starts there
pub record IsFirstLong (loads : List LoadLayout) (spot : Spot) : Type 0 where
  pub k : ℕ
  pub load : LoadLayout
  pub at : slice_get loads k ≡ Some load
  pub long : is_long load ≡ true
  pub spot' : spot ≡ load.first
  pub before : AllShort (take k loads)

-- the load segment may not be in a run-time library file
abbrev pub is_other : LoadLayout → Bool
is_other load = not (is_dynamic load.kind.bits && not (is_skipped load.kind.bits))

abbrev pub AllDynamic : List LoadLayout → Type 0
AllDynamic loads = (k : ℕ) (load : LoadLayout) → slice_get loads k ≡ Some load → is_other load ≡ false

-- the first one that may not starts there
pub record IsFirstOther (loads : List LoadLayout) (spot : Spot) : Type 0 where
  pub k : ℕ
  pub load : LoadLayout
  pub at : slice_get loads k ≡ Some load
  pub other : is_other load ≡ true
  pub spot' : spot ≡ load.first
  pub before : AllDynamic (take k loads)

-- the headers of load segments, the first with this number
abbrev pub AreHeaders : ℕ → List LoadLayout → List HeaderFields → Type 0
AreHeaders n [] fs = fs ≡ []
AreHeaders n (load ∷ loads) [] = ⊥
AreHeaders n (load ∷ loads) (f ∷ fs) = ShowsLoad load n f × AreHeaders (n + 1) loads fs
