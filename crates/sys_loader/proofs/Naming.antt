-- Three bytes that name a place: the number that they hold, and what is found at it.
use Rattle.std.proofs.Common.{◌≡◌, ◌⊎◌, inl, inr, ℕ, zero, suc, Bool, true, false, cond, ◌+◌, ◌*◌, ◌/◌, ◌%◌, ◌^◌, ◌<◌, ◌≤◌, ◌==◌, List, [], ◌∷◌, ◌++◌, map, take, drop, All, get_or, Option, Some, None, IsSomeAnd, refl, sym, ap, subst, ◌∙◌, arith}
use Rattle.std.specs.Prelude.{pos, slice_get, option_map, unwrap_or, MatchOption}
use Rattle.std.specs.FinMap.{get}
use Rattle.std.specs.List.{AllByRecursion}
use Rattle.std.proofs.lemmas.List.{get_or-drop}
use Rattle.std.proofs.lemmas.List.Elements.{All-append, All-take, All-drop, All-cons, All-nil}
use Rattle.std.proofs.lemmas.Option.{same_Some, slice_get-map, slice_get_within, get_or_from_slice_get}
use Rattle.omf_format.specs.Number.{number_at}
use Rattle.omf_format.specs.Value.{wrapped_to_32_bits, shifted_bits}
use Rattle.omf_format.specs.File.{Segment, segment_at}
use Rattle.omf_io.specs.Files.{FileMap}
use Rattle.load_meaning.specs.Cells.{Cell, Byte, Part, Patch, cells, segment_bytes, parts_from, patched_cells, byte_of}
use Rattle.load_meaning.specs.laws.Steps.{with_patch}
use Rattle.load_meaning.specs.laws.CellLaws.{cells-bytes, loadable_has}
use Rattle.load_meaning.specs.Loadable.{patch_list, IsPatch, IsSoundSegment}
use Rattle.load_meaning.specs.LoadTable.{is_table, targets_of}
use Rattle.iigs_meaning.specs.declared.handles.Handle.{Handle}
use Rattle.iigs_meaning.specs.declared.slots.Slot.{Slot}
use Rattle.iigs_meaning.specs.declared.wants.Block.{Block}
use Rattle.iigs_meaning.specs.Slots.{slot_at, used_value}
use Rattle.iigs_meaning.specs.Fits.{Slots, HoldsByte}
use Rattle.iigs_meaning.specs.Blocks.{AreApart}
use Rattle.loader_machine.specs.Rule.{RoomRule}
use Rattle.iigs_places.specs.Holder.{Has}
use Rattle.loader_machine.specs.declared.seen.Life.TheVariants.{Running}
use Rattle.loader_machine.specs.declared.seen.Presence.{Presence}
use Rattle.loader_machine.specs.declared.seen.Presence.TheVariants.{Absent, Purged, Idle, Active}
use Rattle.loader_machine.specs.Heads.{head_of, is_static}
use Rattle.loader_machine.specs.State.{Pokes, User, Machine, handles_of, held_at}
use Rattle.loader_machine.specs.Presences.{presence_at, there_at, is_active}
use Rattle.loader_machine.specs.Stands.{AddressSetting, place_in, over_from, stands}
use Rattle.loader_machine.specs.laws.Words.{read_bytes, entries_bytes, setting_in}
use Rattle.loader_machine.specs.Found.{HoldsLoad}
use Rattle.loader_machine.specs.Commands.{Where, Lies}
use Rattle.loader_machine.specs.laws.OnceLaws.{one_load}
use Rattle.loader_machine.specs.Steps.{IsAt}
use Rattle.loader_agrees.specs.Agrees.{Outline, Loaded, Agrees, IsSound, Met}
use Rattle.loader_agrees.specs.Acts.{LiesIn}
use Rattle.loader_agrees.specs.laws.Apart.{back, steps_once_there}
use Rattle.loader_agrees.specs.laws.Reads.{lies_back, lies_met}
use Rattle.loader_agrees.specs.laws.Seeing.{kept_is}
use Rattle.sys_loader.specs.declared.answers.Entered.{Entered}
use Rattle.sys_loader.specs.Naming.{HasAddress, address_read}
use Rattle.sys_loader.specs.Replies.{where_reply}
use Rattle.loader_users.proofs.Lies.{lies_block}

-- ---- the bytes

over_at : (first : ℕ) (pokes : Pokes) (bytes : List ℕ) (k b : ℕ) → get pokes (first + k) ≡ None → slice_get bytes k ≡ Some b → slice_get (over_from first pokes bytes) k ≡ Some b
over_at first pokes [] k b none is = absurd cc
over_at first pokes (x ∷ bytes) zero b none is =
    let here : first + 0 ≡ first = omega arith in
    ap (λ (o : Option ℕ). Some (unwrap_or o x)) (ap (get pokes) (sym here) ∙ none) ∙ is
over_at first pokes (x ∷ bytes) (suc k) b none is =
    let there : first + 1 + k ≡ first + suc k = omega arith in
    over_at (first + 1) pokes bytes k b (ap (get pokes) there ∙ none) is

-- a fact of the segment that each part names
abbrev Reports : (ℕ → Type 0) → Cell → Type 0
Reports P (Byte b) = Unit {0}
Reports P (Part file segment offset shift index) = P segment

module _ (P : ℕ → Type 0) where
  bytes_report : (bytes : List ℕ) → All (Reports P) (map Byte bytes)
  bytes_report [] = All-nil (Reports P)
  bytes_report (b ∷ bytes) = All-cons (Reports P) (Byte b) (map Byte bytes) tt (bytes_report bytes)

  parts_report : (p : Patch) (index n : ℕ) → P p.segment → All (Reports P) (parts_from p index n)
  parts_report p index zero is = All-nil (Reports P)
  parts_report p index (suc n) is = All-cons (Reports P) (Part p.file p.segment p.offset p.shift index) (parts_from p (index + 1) n) is (parts_report p (index + 1) n is)

  patched_report : (patches : List Patch) (cs : List Cell) → All (Reports P) cs → AllByRecursion (λ (p : Patch). P p.segment) patches → All (Reports P) (patched_cells cs patches)
  patched_report [] cs all es = all
  patched_report (p ∷ patches) cs all es = patched_report patches (with_patch cs p)
      (All-append (Reports P) (take p.location cs ++ parts_from p 0 p.count) (drop (p.location + p.count) cs)
      (All-append (Reports P) (take p.location cs) (parts_from p 0 p.count) (All-take (Reports P) p.location cs all) (parts_report p 0 p.count es.0))
      (All-drop (Reports P) (p.location + p.count) cs all)) es.1

  cells_report : (s : Segment) → AllByRecursion (λ (p : Patch). P p.segment) (patch_list s) → All (Reports P) (cells s)
  unfolding cells
  cells_report s es = patched_report (patch_list s) (map Byte (segment_bytes s)) (bytes_report (segment_bytes s)) es

  part_reports : (s : Segment) → AllByRecursion (λ (p : Patch). P p.segment) (patch_list s) → (at file segment offset index : ℕ) → slice_get (cells s) at ≡ Some (Part file segment offset (pos 0) index) → P segment
  part_reports s es at file segment offset index is =
      let c = Part file segment offset (pos 0) index in
      subst (Reports P) (get_or_from_slice_get (cells s) at c c is) (cells_report s es at c (slice_get_within (cells s) at c is))

weaker : {X : Type 0} (P Q : X → Type 0) → ((x : X) → P x → Q x) → (xs : List X) → AllByRecursion P xs → AllByRecursion Q xs
weaker P Q f [] all = tt
weaker P Q f (x ∷ xs) all = (f x all.0, weaker P Q f xs all.1)

module _ (segments : List Segment) (number : ℕ) (s : Segment) (sound : IsSoundSegment segments number s) (at file target offset index : ℕ)
    (part : slice_get (cells s) at ≡ Some (Part file target offset (pos 0) index)) where
  -- the target is the segment itself, or static
  abbrev Near : ℕ → Type 0
  Near n = (t : Segment) → segment_at segments n ≡ Some t → (n ≡ number) ⊎ (is_static (head_of t) ≡ true)

  patch_near : (p : Patch) → IsPatch segments s p → Near p.segment
  patch_near p is t there =
      let same : t ≡ is.target = same_Some t is.target (sym there ∙ is.is) in
      elim is.near [
        | inl own ↦ inl (own ∙ sound.number')
        | inr static ↦ inr (rw (same, static, is.kept) refl)
      ]

  part_near : Near target
  part_near = part_reports Near s (weaker (IsPatch segments s) (λ (p : Patch). Near p.segment) patch_near (patch_list s) sound.patches) at file target offset index part

  -- a table has no parts
  pub part_plain : is_table s ≡ false
  part_plain = go (is_table s) refl
    where
      no_part : (o : Option ℕ) → option_map Byte o ≡ Some (Part file target offset (pos 0) index) → ⊥
      no_part None e = absurd cc
      no_part (Some b) e = absurd cc

      go : (b : Bool) → is_table s ≡ b → b ≡ false
      go false is = refl
      go true is = absurd (no_part (slice_get (segment_bytes s) at)
          (sym (slice_get-map Byte (segment_bytes s) at) ∙ ap (λ (cs : List Cell). slice_get cs at) (sym (cells-bytes s (sound.table is).unpatched)) ∙ part))

plain_bytes : (at : AddressSetting) (s : Segment) → is_table s ≡ false → read_bytes at s ≡ map (byte_of at.place) (cells s)
plain_bytes at s is = ap (λ (b : Bool). cond b (entries_bytes at (targets_of s)) (map (byte_of at.place) (cells s))) is

-- the content has the byte of a cell where nothing was written
pub cell_stands : (where' : AddressSetting) (pokes : Pokes) (s : Segment) (at : ℕ) (c : Cell) → is_table s ≡ false → slice_get (cells s) at ≡ Some c → get pokes at ≡ None
    → slice_get (stands where' pokes s) at ≡ Some (byte_of where'.place c)
unfolding stands
cell_stands where' pokes s at c plain is none = let same : 0 + at ≡ at = omega arith in
    over_at 0 pokes (read_bytes where' s) at (byte_of where'.place c) (ap (get pokes) same ∙ none)
    (ap (λ (bs : List ℕ). slice_get bs at) (plain_bytes where' s plain) ∙ slice_get-map (byte_of where'.place) (cells s) at ∙ ap (option_map (byte_of where'.place)) is)

-- ---- the number

whole : (n : ℕ) → n < 2 ^ 24 → shifted_bits (wrapped_to_32_bits n) (pos 0) ≡ n
whole n small = omega arith

three_bytes : (n : ℕ) → n < 2 ^ 24 → n / 256 ^ 0 % 256 + 256 * (n / 256 ^ 1 % 256 + 256 * (n / 256 ^ 2 % 256 + 256 * 0)) ≡ n
three_bytes n small = omega arith

pub number_of_three : (bytes : List ℕ) (at a b c : ℕ) → slice_get bytes (at + 0) ≡ Some a → slice_get bytes (at + 1) ≡ Some b → slice_get bytes (at + 2) ≡ Some c
    → number_at 3 at bytes ≡ a + 256 * (b + 256 * (c + 256 * 0))
unfolding number_at
number_of_three bytes at a b c one two three =
    let x : get_or (drop at bytes) 0 0 ≡ a = get_or-drop at bytes 0 0 ∙ get_or_from_slice_get bytes (at + 0) a 0 one in
    let y : get_or (drop at bytes) 1 0 ≡ b = get_or-drop at bytes 1 0 ∙ get_or_from_slice_get bytes (at + 1) b 0 two in
    let z : get_or (drop at bytes) 2 0 ≡ c = get_or-drop at bytes 2 0 ∙ get_or_from_slice_get bytes (at + 2) c 0 three in
    omega (arith, x, y, z)

module _ (setting : AddressSetting) (pokes : Pokes) (s : Segment) (at target offset : ℕ) (plain : is_table s ≡ false)
    (parts : (k : ℕ) → k < 3 → slice_get (cells s) (at + k) ≡ Some (Part 1 target offset (pos 0) k)) (none : (k : ℕ) → k < 3 → get pokes (at + k) ≡ None)
    (small : setting.place target + offset < 2 ^ 24) where
  pub byte_there : (k : ℕ) → k < 3 → slice_get (stands setting pokes s) (at + k) ≡ Some ((setting.place target + offset) / 256 ^ k % 256)
  byte_there k lt = cell_stands setting pokes s (at + k) (Part 1 target offset (pos 0) k) plain (parts k lt) (none k lt)
      ∙ ap (λ (n : ℕ). Some (n / 256 ^ k % 256)) (whole (setting.place target + offset) small)

  number_there : number_at 3 at (stands setting pokes s) ≡ setting.place target + offset
  number_there = number_of_three (stands setting pokes s) at _ _ _ (byte_there 0 (omega arith)) (byte_there 1 (omega arith)) (byte_there 2 (omega arith))
      ∙ three_bytes (setting.place target + offset) small

-- ---- the place

active_of : (p : Presence) → is_active p ≡ true → (h : Handle) × (first : ℕ) × (p ≡ Active h first)
active_of Absent e = absurd cc
active_of (Purged h) e = absurd cc
active_of (Idle h a) e = absurd cc
active_of (Active h a) e = (h, a, refl)

has_byte : (slots : Slots) (address : ℕ) (h : Handle) → Has slots address h → HoldsByte address (slot_at slots h.slot)
has_byte slots address h has = go (slot_at slots h.slot) ((slot_at slots h.slot).generation == h.generation) has
  where
    go : (slot : Slot Block) (b : Bool) → IsSomeAnd (cond b (used_value slot.content) None) (λ block. IsSomeAnd block.at (λ first. (first ≤ address) × (address < first + block.want.size)))
        → HoldsByte address slot
    go slot true is = is
    go slot false is = absurd is

module _ (held : FileMap) (loader : Loaded) (state : Machine) (agrees : Agrees held loader state) (sound : IsSound loader.memory loader.users)
    (below : (place address : ℕ) → HoldsByte address (slot_at loader.memory.slots place) → address < 2 ^ 24)
    (id number at target offset : ℕ) (has : HasAddress held state id number at target offset) where
  pub segment_sound : IsSoundSegment has.sees.segments number has.s
  segment_sound = loadable_has has.sees.holds.file has.sees.segments has.sees.holds.loadable number has.s has.is

  target_active : is_active (presence_at state.slots (handles_of has.sees.user) target) ≡ true
  target_active =
      let kept = back held loader state agrees sound id has.sees.user has.sees.made in
      let in_state = kept_is held loader state agrees id kept.0 kept.1 in
      let same : in_state.user ≡ has.sees.user = same_Some in_state.user has.sees.user (sym in_state.made ∙ has.sees.made) in
      let path : kept.0.path ≡ has.sees.user.path = ap (λ (o : Outline). o.path) in_state.does_agree.same ∙ ap (λ (u : User). u.path) same in
      let life : kept.0.life ≡ Running = ap (λ (o : Outline). o.life) in_state.does_agree.same ∙ ap (λ (u : User). u.life) same ∙ has.runs in
      let segments = one_load held has.sees.user.path in_state.does_agree.segments has.sees.segments (subst (λ (p : List ℕ). HoldsLoad held p in_state.does_agree.segments) path in_state.does_agree.holds) has.sees.holds in
      elim (part_near has.sees.segments number has.s segment_sound (at + 0) 1 target offset 0 (has.parts 0 (omega arith)) has.t has.target') [
        | inl own ↦ ap (λ (n : ℕ). is_active (presence_at state.slots (handles_of has.sees.user) n)) own ∙ has.active
        | inr static ↦
            (let there : segment_at in_state.does_agree.segments target ≡ Some has.t = ap (λ (ss : List Segment). segment_at ss target) segments ∙ has.target' in
            ap (λ (t : Slots). is_active (presence_at t (handles_of has.sees.user) target)) (sym agrees.slots)
            ∙ ap (λ (hs : List (Option Handle)). is_active (presence_at loader.memory.slots hs target)) (sym kept.2)
            ∙ in_state.does_agree.statics life target has.t there static)
      ]

  pub target_at : (first : ℕ) × (place_in state.slots (handles_of has.sees.user) target ≡ first) × IsAt held state (first + offset) id target offset
  target_at =
      let active = active_of (presence_at state.slots (handles_of has.sees.user) target) target_active in (
        active.1,
        ap (λ (p : Presence). unwrap_or (there_at p) 0) active.2,
        record { sees = has.sees; runs = has.runs; s = has.t; is = has.target'; h = active.0; first = active.1; active = active.2; sum = refl; inside = has.inside },
      )

  target_lies : LiesIn loader (place_in state.slots (handles_of has.sees.user) target + offset) id target offset
  target_lies =
      let t = target_at in
      subst (λ (n : ℕ). LiesIn loader (n + offset) id target offset) (sym t.1) (lies_back held loader state agrees RoomRule sound (t.0 + offset) id target offset t.2)

  pub target_small : place_in state.slots (handles_of has.sees.user) target + offset < 2 ^ 24
  target_small = below target_lies.h.slot _ (has_byte loader.memory.slots _ target_lies.h (lies_block loader sound _ id target offset target_lies).0)

  pub read_is : address_read has ≡ place_in state.slots (handles_of has.sees.user) target + offset
  read_is = number_there (setting_in state id has.sees.user) (held_at has.sees.user number).pokes has.s at target offset
      (part_plain has.sees.segments number has.s segment_sound (at + 0) 1 target offset 0 (has.parts 0 (omega arith))) has.parts has.unwritten target_small

  found_is : (address : ℕ) (found : Option Entered) → MatchOption found (Unit {0}) (λ (entered : Entered). entered.address ≡ address) → where_reply found ≡ Lies id target offset
      → found ≡ Some (record { user = id; segment = target; offset = offset; address = address })
  found_is address None is e = absurd cc
  found_is address (Some entered) is e =
      let user : entered.user ≡ id = cc in
      let segment : entered.segment ≡ target = cc in
      let place : entered.offset ≡ offset = cc in
      ap (λ (n : ℕ). Some (record { user = n; segment = entered.segment; offset = entered.offset; address = entered.address })) user
      ∙ ap (λ (n : ℕ). Some (record { user = id; segment = n; offset = entered.offset; address = entered.address })) segment
      ∙ ap (λ (n : ℕ). Some (record { user = id; segment = target; offset = n; address = entered.address })) place
      ∙ ap (λ (n : ℕ). Some (record { user = id; segment = target; offset = offset; address = n })) is

  pub names_place : AreApart loader.memory.banks loader.memory.slots → (address : ℕ) (found : Option Entered) → MatchOption found (Unit {0}) (λ (entered : Entered). entered.address ≡ address)
      → Met RoomRule held state (Where address) (where_reply found) loader → address_read has ≡ address
      → (address ≡ place_in state.slots (handles_of has.sees.user) target + offset) × (found ≡ Some (record { user = id; segment = target; offset = offset; address = address }))
  names_place apart address found is met read =
      let place : address ≡ place_in state.slots (handles_of has.sees.user) target + offset = sym read ∙ read_is in
      let other = lies_met held loader state agrees RoomRule address id target offset (subst (λ (n : ℕ). LiesIn loader n id target offset) (sym place) target_lies) in
      (place, found_is address found is (steps_once_there held loader state agrees sound apart (Where address) (where_reply found) (Lies id target offset) met.0 other.0 met.1 other.1).0)
