-- Segments of a load file in their new blocks: what is written there is their content.
use Rattle.std.proofs.Common.{◌≡◌, inl, inr, ℕ, zero, suc, Bool, true, false, cond, ◌==◌, ◌+◌, ◌*◌, ◌≤◌, List, [], ◌∷◌, ◌++◌, length, map, Option, Some, None, refl, sym, ap, subst, ◌∙◌, arith}
use Rattle.std.specs.Prelude.{slice_get, unwrap_or, IsSomeAnd}
use Rattle.std.specs.List.{AllByRecursion}
use Rattle.std.specs.Option.{option_map, option_map_or, option_and_then}
use Rattle.std.proofs.lemmas.Option.{same_Some}
use Rattle.std.proofs.lemmas.List.{length-map}
use Rattle.omf_format.specs.Header.{form_of, is_dynamic}
use Rattle.omf_format.specs.File.{Segment, segment_at}
use Rattle.omf_io.specs.Counts.{IsFront}
use Rattle.load_meaning.specs.declared.table.Target.{Target}
use Rattle.load_meaning.specs.declared.table.Entry.{Entry}
use Rattle.load_meaning.specs.Cells as load
use Rattle.load_meaning.specs.Cells.{segment_bytes}
use Rattle.load_meaning.specs.laws.CellLaws.{loadable_has, length-segment_bytes}
use Rattle.load_meaning.specs.Table.{table_bytes, file_entry}
use Rattle.load_meaning.specs.LoadTable.{is_table, targets_of}
use Rattle.load_meaning.specs.Loadable.{IsSoundSegment, IsTarget, IsLoadable}
use Rattle.load_content.specs.Places.{address_in}
use Rattle.omf_cells.specs.Load.{table_targets}
use Rattle.iigs_meaning.specs.declared.handles.Handle.{Handle}
use Rattle.iigs_meaning.specs.Fits.{Slots}
use Rattle.loader_machine.specs.declared.seen.SegmentHead.{SegmentHead}
use Rattle.loader_machine.specs.Heads.{head_of, is_static}
use Rattle.loader_machine.specs.State.{HeldSegment, no_pokes}
use Rattle.loader_machine.specs.Presences.{handle_at, presence, presence_at, there_at, active_at}
use Rattle.loader_machine.specs.Stands as machine
use Rattle.loader_machine.specs.Stands.{AddressSetting, setting, stands}
use Rattle.loader_machine.specs.laws.Words.{entry_for, entries_bytes, read_bytes, no_far_segment, target_with}
use Rattle.loader_machine.specs.laws.PokeLaws.{over_none}
use Rattle.loader_machine.specs.Steps.{held_of_heads}
use Rattle.loader_agrees.specs.laws.Begun.{decide}
use Rattle.loader_agrees.specs.laws.Filled.{plain_stands}
use Rattle.loader_agrees.specs.laws.Lists.{number_map}
use Rattle.loader_users.specs.declared.user.UserSegment as users
use Rattle.loader_users.specs.Planned.{spread_handles}
use Rattle.loader_users.specs.Filling.{own_entry, AreSound, HasHead, IsSetting, IsFilled}
use Rattle.loader_users.proofs.Written.{handles_of}

-- ---- a load file's segments

pub are_sound : (file : List ℕ) (segments : List Segment) → IsLoadable file segments → AreSound segments
are_sound file segments taken number s is = loadable_has file segments taken number s is

some_and : {A : Type 0} (o : Option A) (P : A → Type 0) → IsSomeAnd o P → (x : A) × (o ≡ Some x) × P x
some_and None P is = absurd is
some_and (Some x) P is = (x, refl, is)

-- bytes that are a prefix of others
pub front_of : (o : Option Segment) (bytes : Segment → List ℕ) (front rest : List ℕ) → IsSomeAnd o (λ s. front ≡ bytes s) → IsSomeAnd o (λ s. IsFront (bytes s) (front ++ rest))
front_of None bytes front rest is = absurd is
front_of (Some s) bytes front rest is = (rest, ap (λ (l : List ℕ). l ++ rest) is)

module _ (segments : List Segment) (number : ℕ) (head : SegmentHead) (s : Segment) (there : segment_at segments number ≡ Some s) (is_head : head ≡ head_of s) where
  module _ (sound : AreSound segments) (is : (form_of head.kind == 0x02) ≡ true) where
    its_table : is_table s ≡ true
    its_table = ap (λ (x : SegmentHead). form_of x.kind == 0x02) (sym is_head) ∙ is

    sound_one : IsSoundSegment segments number s
    sound_one = sound number s there

    targets_are : table_targets segments ≡ targets_of s
    targets_are = ap (λ (o : Option ℕ). option_map_or targets_of (option_and_then (segment_at segments) o) []) (sound_one.only its_table) ∙ ap (λ (o : Option Segment). option_map_or targets_of o []) there

    room_is : (size : ℕ) → head.length ≤ size → 12 + 14 * length (table_targets segments) ≤ size
    room_is size fits =
        let laid = (sound_one.table its_table).laid_out.size in
        let long : length (segment_bytes s) ≡ s.fields.length = length-segment_bytes s sound_one.fits in
        let same : head.length ≡ s.fields.length = ap (λ (x : SegmentHead). x.length) is_head in
        let count : length (map file_entry (targets_of s)) ≡ length (targets_of s) = length-map (targets_of s) file_entry in
        omega (arith, fits, laid, long, same, count, ap length targets_are)

    entries_same : (user : ℕ) (at : AddressSetting) (ts : List Target) → at.id ≡ user → AllByRecursion (λ t. at.target t.file t.segment ≡ None) ts → map (entry_for at) ts ≡ map (own_entry user) ts
    entries_same user at [] id none = refl
    entries_same user at (t ∷ ts) id none =
        let entry : Option ℕ → ℕ → Entry = λ target own. record { user = own; file = t.file; segment = t.segment; offset = t.offset; loaded = option_map (λ place. place + t.offset) target } in
        let one : entry_for at t ≡ own_entry user t = ap (λ (target : Option ℕ). entry target at.id) none.0 ∙ ap (entry None) id in
        ap (λ (e : Entry). e ∷ map (entry_for at) ts) one ∙ ap (λ (es : List Entry). own_entry user t ∷ es) (entries_same user at ts id none.1)

    table_is : (user : ℕ) (places : List (Option ℕ)) (out : List ℕ) → IsFront (table_bytes (map (own_entry user) (table_targets segments))) out → (at : AddressSetting) → IsSetting segments user places at
        → IsFront (stands at no_pokes s) out
    unfolding stands
    table_is user places out front at set =
        let entries : map (entry_for at) (targets_of s) ≡ map (own_entry user) (targets_of s) = entries_same user at (targets_of s) set.id (set.targets number s there its_table) in
        let bytes : stands at no_pokes s ≡ table_bytes (map (own_entry user) (table_targets segments)) =
        over_none (read_bytes at s) ∙ ap (λ (t : Bool). cond t (entries_bytes at (targets_of s)) (map (load.byte_of at.place) (load.cells s))) its_table
        ∙ ap table_bytes entries ∙ ap (λ (ts : List Target). table_bytes (map (own_entry user) ts)) (sym targets_are) in
        subst (λ (content : List ℕ). IsFront content out) (sym bytes) front

  plain_is : (form_of head.kind == 0x02) ≡ false → (user : ℕ) (places : List (Option ℕ)) (out : List ℕ) → IsFront (load.stands (address_in places) s) out → (at : AddressSetting) → IsSetting segments user places at
      → IsFront (stands at no_pokes s) out
  plain_is is user places out front at set =
      let plain : is_table s ≡ false = ap (λ (x : SegmentHead). form_of x.kind == 0x02) (sym is_head) ∙ is in
      subst (λ (content : List ℕ). IsFront content out) (sym (plain_stands at s (address_in places) plain set.place)) front

module _ (segments : List Segment) (number : ℕ) (head : SegmentHead) (has : HasHead segments number head) where
  found : (s : Segment) × (segment_at segments number ≡ Some s) × (head ≡ head_of s)
  found = some_and (segment_at segments number) (λ s. head ≡ head_of s) has

  -- a table has room for its entries
  pub table_room : AreSound segments → (form_of head.kind == 0x02) ≡ true → (size : ℕ) → head.length ≤ size → 12 + 14 * length (table_targets segments) ≤ size
  table_room sound is size fits = room_is segments number head found.0 found.1 found.2 sound is size fits

  same_segment : (s : Segment) → segment_at segments number ≡ Some s → found.0 ≡ s
  same_segment s there = same_Some found.0 s (sym found.1 ∙ there)

  -- a table that was written entry by entry
  pub table_filled : AreSound segments → (form_of head.kind == 0x02) ≡ true → (user : ℕ) (places : List (Option ℕ)) (out : List ℕ)
      → IsFront (table_bytes (map (own_entry user) (table_targets segments))) out → IsFilled segments number user places out
  table_filled sound is user places out front at s set there =
      subst (λ (x : Segment). IsFront (stands at no_pokes x) out) (same_segment s there) (table_is segments number head found.0 found.1 found.2 sound is user places out front at set)

  -- a segment that is no table, with its patches
  pub plain_filled : (form_of head.kind == 0x02) ≡ false → (user : ℕ) (places : List (Option ℕ)) (out : List ℕ)
      → IsSomeAnd (segment_at segments number) (λ s. IsFront (load.stands (address_in places) s) out) → IsFilled segments number user places out
  plain_filled is user places out front at s set there =
      let its : IsFront (load.stands (address_in places) found.0) out = subst (λ (o : Option Segment). IsSomeAnd o (λ x. IsFront (load.stands (address_in places) x) out)) found.1 front in
      subst (λ (x : Segment). IsFront (stands at no_pokes x) out) (same_segment s there) (plain_is segments number head found.0 found.1 found.2 is user places out its at set)

-- ---- where the segments lie

abbrev pub addresses : Slots → List users.UserSegment → List (Option ℕ)
addresses slots segments = map (λ s. there_at (presence slots s.handle)) segments

pub address_is : (slots : Slots) (segments : List users.UserSegment) (n : ℕ) → address_in (addresses slots segments) n ≡ machine.place_in slots (handles_of segments) n
address_is slots segments zero = refl
address_is slots segments (suc k) = go segments k
  where
    go : (xs : List users.UserSegment) (i : ℕ) → unwrap_or (option_and_then (λ (a : Option ℕ). a) (slice_get (addresses slots xs) i)) 0
        ≡ unwrap_or (there_at (presence slots (option_and_then (λ (o : Option Handle). o) (slice_get (handles_of xs) i)))) 0
    go [] i = refl
    go (x ∷ xs) zero = refl
    go (x ∷ xs) (suc i) = go xs i

-- a segment that isn't static gets no handle
spread_other : (heads : List SegmentHead) (hs : List Handle) (k : ℕ) (head : SegmentHead) → slice_get heads k ≡ Some head → is_static head ≡ false → slice_get (map (λ (held : HeldSegment). held.handle) (held_of_heads heads hs)) k ≡ Some None
spread_other [] hs k head is other = absurd cc
spread_other (g ∷ heads) [] zero head is other = refl
spread_other (g ∷ heads) [] (suc k) head is other = spread_other heads [] k head is other
spread_other (g ∷ heads) (h ∷ hs) zero head is other = let its : is_static g ≡ false = ap is_static (same_Some g head is) ∙ other in rw its refl
spread_other (g ∷ heads) (h ∷ hs) (suc k) head is other = elim (decide (is_static g)) [
  | inl static ↦ rw static (spread_other heads hs k head is other)
  | inr its ↦ rw its (spread_other heads (h ∷ hs) k head is other)
]

dynamic_other : (head : SegmentHead) → is_dynamic head.kind ≡ true → is_static head ≡ false
dynamic_other head dynamic = rw dynamic refl

module _ (file : List ℕ) (segments : List Segment) (taken : IsLoadable file segments) (hs : List Handle) (slots : Slots) (user : ℕ) where
  not_there : (number : ℕ) (s : Segment) → segment_at segments number ≡ Some s → is_dynamic s.fields.kind ≡ true → handle_at (spread_handles segments hs) number ≡ None
  not_there zero s is dynamic = refl
  not_there (suc k) s is dynamic =
      let head : slice_get (map head_of segments) k ≡ Some (head_of s) = number_map head_of segments (suc k) ∙ ap (option_map head_of) is in
      ap (option_and_then (λ (o : Option Handle). o)) (spread_other (map head_of segments) hs k (head_of s) head (dynamic_other (head_of s) dynamic))

  none_active : (t : Target) → IsTarget segments t → target_with no_far_segment slots (spread_handles segments hs) t.file t.segment ≡ None
  none_active t (inl is) =
      let none : presence_at slots (spread_handles segments hs) t.segment ≡ presence slots None = ap (presence slots) (not_there t.segment is.segment' is.is is.dynamic) in
      go (t.file == 1) (ap active_at none)
    where
      go : (b : Bool) → active_at (presence_at slots (spread_handles segments hs) t.segment) ≡ None → cond b (active_at (presence_at slots (spread_handles segments hs) t.segment)) None ≡ None
      go true e = e
      go false e = refl
  none_active t (inr is) = let above : 2 ≤ t.file = is.beyond in let other : (t.file == 1) ≡ false = grind arith in rw other refl

  all_none : (ts : List Target) → AllByRecursion (IsTarget segments) ts → AllByRecursion (λ t. target_with no_far_segment slots (spread_handles segments hs) t.file t.segment ≡ None) ts
  all_none [] all = tt
  all_none (t ∷ ts) all = (none_active t all.0, all_none ts all.1)

  -- the setting of a program whose static segments have these handles
  pub is_setting : (kept : List users.UserSegment) → handles_of kept ≡ spread_handles segments hs → IsSetting segments user (addresses slots kept) (setting user slots (spread_handles segments hs))
  is_setting kept same = record {
    id = refl;
    place = λ n. address_is slots kept n ∙ ap (λ (handles : List (Option Handle)). machine.place_in slots handles n) same;
    targets = λ number s is table. all_none (targets_of s) ((loadable_has file segments taken number s is).table table).targets;
  }
