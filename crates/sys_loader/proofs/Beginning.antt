-- A program that has begun.
use Rattle.std.proofs.Common.{◌≡◌, ◌≢◌, inl, inr, ℕ, zero, suc, false, ◌+◌, ◌<◌, ◌≤◌, ◌^◌, List, [], ◌∷◌, ◌++◌, length, map, take, drop, Option, Some, None, refl, sym, ap, subst, ◌∙◌, arith}
use Rattle.std.specs.Prelude.{slice_get, string_bytes}
use Rattle.std.specs.Option.{option_map, option_and_then}
use Rattle.std.proofs.lemmas.Option.{slice_get_within}
use Rattle.std.proofs.lemmas.List.{length-map, length-replicate, map-append, append_assoc, take_at}
use Rattle.omf_format.specs.File.{Segment, segment_at}
use Rattle.omf_io.specs.Counts.{IsFront}
use Rattle.load_meaning.specs.Loadable.{IsLoadable}
use Rattle.load_meaning.specs.Pathnames.{paths_of}
use Rattle.iigs_meaning.specs.declared.handles.Handle.{Handle}
use Rattle.iigs_meaning.specs.declared.wants.Want.{Want}
use Rattle.iigs_meaning.specs.Fits.{Slots}
use Rattle.iigs_meaning.specs.Puts.{PutsAll}
use Rattle.loader_machine.specs.Rule.{RoomRule}
use Rattle.iigs_meaning.specs.Memory.{Memory, AreAllPlaced, bytes_at}
use Rattle.loader_machine.specs.declared.seen.SegmentHead.{SegmentHead}
use Rattle.loader_machine.specs.declared.seen.Life.{Life}
use Rattle.loader_machine.specs.declared.seen.Life.TheVariants.{Running}
use Rattle.loader_machine.specs.Heads.{head_of, at_number, want_of, wants_of, entry_in}
use Rattle.loader_machine.specs.laws.Words.{is_stack}
use Rattle.loader_machine.specs.State.{no_pokes, first_id, max_users, ids_from}
use Rattle.loader_machine.specs.Presences.{handle_at}
use Rattle.loader_machine.specs.Stands.{setting, stands, place_in}
use Rattle.loader_machine.specs.Steps.{lost_refusal}
use Rattle.loader_agrees.specs.Agrees.{LoadedUser, Loaded, IsSound}
use Rattle.loader_agrees.specs.Acts.{HasPlaced, HasBegun, started_kept, joined_kepts}
use Rattle.loader_agrees.specs.laws.Begun.{all_placed, all_length, decide}
use Rattle.loader_agrees.specs.laws.BegunSound.{AreDistinct, rest_apart, all_distinct, spread_want, spread_index, spread_once, want_size}
use Rattle.loader_agrees.specs.laws.BegunMore.{sound_begun}
use Rattle.loader_users.specs.declared.user.UserSegment as users
use Rattle.loader_users.specs.declared.user.User.{User}
use Rattle.loader_users.specs.View.{kept, loaded}
use Rattle.loader_users.specs.Filling.{IsReady, AreReady, AreFilled}
use Rattle.loader_users.specs.Planned.{spread_handles}
use Rattle.sys_loader.specs.Calls.{IsSettled, AreJoinedUsers}
use Rattle.loader_users.proofs.Written.{heads_of, handles_of}
use Rattle.loader_users.proofs.Settling.{addresses, is_setting}

-- ---- new blocks

pub want_some : (head : SegmentHead) → 0 < (want_of head).size
unfolding want_of
want_some head = elim (decide (is_stack head)) [ inl stack ↦ rw stack (grind arith) | inr plain ↦ rw plain (grind arith) ]

has_handle : (handles : List (Option Handle)) (k : ℕ) (h : Handle) → handle_at handles (suc k) ≡ Some h → slice_get handles k ≡ Some (Some h)
has_handle handles k h is = go (slice_get handles k) refl is
  where
    go : (o : Option (Option Handle)) → slice_get handles k ≡ o → option_and_then (λ (handle : Option Handle). handle) o ≡ Some h → slice_get handles k ≡ Some (Some h)
    go None e is = absurd cc
    go (Some x) e is = e ∙ ap (λ (y : Option Handle). Some y) is

module _ (before memory : Memory) (load : List Segment) (hs : List Handle) (user : ℕ) (placed : AreAllPlaced RoomRule before user false (wants_of (map head_of load)) hs memory) where
  abbrev heads : List SegmentHead
  heads = map head_of load

  one_ready : (n : ℕ) (head : SegmentHead) (h : Handle) → at_number heads n ≡ Some head → handle_at (spread_handles load hs) n ≡ Some h → IsReady memory head h
  one_ready zero head h is has = absurd cc
  one_ready (suc k) head h is has =
      let want = spread_want heads hs k head h is (has_handle (spread_handles load hs) k h has) in
      let there = all_placed before.banks user before.slots memory.slots (wants_of heads) hs placed.puts want.0 h want.1 in
      let zeros = placed.zeros want.0 (want_of head) h want.2 want.1 in
      let size : length (bytes_at memory h.slot) ≡ (want_of head).size = ap length zeros ∙ length-replicate {A = ℕ} (want_of head).size 0 in
      record {
        there = rw there.3 refl;
        fits = omega (arith, size, want_size head);
      }

  distinct : AreDistinct hs
  distinct = all_distinct before.banks user before.slots memory.slots (wants_of heads) hs placed.puts

  once : (m n : ℕ) (h k : Handle) → handle_at (spread_handles load hs) m ≡ Some h → handle_at (spread_handles load hs) n ≡ Some k → h.slot ≡ k.slot → m ≡ n
  once zero n h k is is' same = absurd cc
  once (suc m) zero h k is is' same = absurd cc
  once (suc m) (suc n) h k is is' same =
      ap suc (spread_once heads hs distinct m n h k (has_handle (spread_handles load hs) m h is) (has_handle (spread_handles load hs) n k is') same)

  pub all_ready : (kept : List users.UserSegment) → heads_of kept ≡ heads → handles_of kept ≡ spread_handles load hs → AreReady memory (heads_of kept) (handles_of kept)
  all_ready kept same handles =
      subst (λ (gs : List SegmentHead). AreReady memory gs (handles_of kept)) (sym same)
      (subst (λ (os : List (Option Handle)). AreReady memory heads os) (sym handles) (record { each = one_ready; once = once }))

-- ---- all written

number_within : (load : List Segment) (n : ℕ) (s : Segment) → segment_at load n ≡ Some s → n ≤ length load
number_within load zero s is = omega arith
number_within load (suc k) s is = omega (arith, slice_get_within load k s is)

pub same_count : (load : List Segment) (kept : List users.UserSegment) → heads_of kept ≡ map head_of load → length kept ≡ length load
same_count load kept same = sym (length-map kept (λ (s : users.UserSegment). s.head)) ∙ ap length same ∙ length-map load head_of

pub settled : (file : List ℕ) (load : List Segment) (hs : List Handle) (user : ℕ) (kept : List users.UserSegment) (old new : Memory) → IsLoadable file load → heads_of kept ≡ map head_of load
    → handles_of kept ≡ spread_handles load hs → AreFilled load (handles_of kept) user (addresses old.slots kept) old new (length kept) → IsSettled load user hs old new
settled file load hs user kept old new taken same handles filled = record {
  banks = filled.banks;
  slots = filled.slots;
  begins = λ n s h there has.
      filled.filled n h (omega (arith, number_within load n s there, same_count load kept same)) (ap (λ (os : List (Option Handle)). handle_at os n) handles ∙ has)
      (setting user old.slots (spread_handles load hs)) s (is_setting file load taken hs old.slots user kept handles) there;
  stay = λ place apart. filled.stay place (λ n h le is at. none place apart n h (ap (λ (os : List (Option Handle)). handle_at os n) (sym handles) ∙ is) at);
  sizes = filled.sizes;
}
  where
    none : (place : ℕ) → ((i : ℕ) (h : Handle) → slice_get hs i ≡ Some h → h.slot ≢ place) → (n : ℕ) (h : Handle) → handle_at (spread_handles load hs) n ≡ Some h → h.slot ≡ place → ⊥
    none place apart zero h is at = absurd cc
    none place apart (suc k) h is at =
        let one = spread_index (map head_of load) hs k h (has_handle (spread_handles load hs) k h is) in
        apart one.0 h one.1 at

-- ---- a user whose static segments have these handles

pub kept_started : (user : User) (load : List Segment) (path : List ℕ) (hs : List Handle) (ids : List ℕ) → heads_of user.segments.items ≡ map head_of load → handles_of user.segments.items ≡ spread_handles load hs
    → string_bytes user.path ≡ path → user.life ≡ Running → user.attached.items ≡ ids → kept user ≡ record (started_kept path (map head_of load) hs) { attached = ids }
kept_started user load path hs ids same handles path_is runs attached =
    let made : List ℕ → Life → List (Option Handle) → List SegmentHead → List ℕ → LoadedUser = λ p l os gs ids'. record { path = p; life = l; handles = os; heads = gs; attached = ids' } in
    ap (λ (p : List ℕ). made p user.life (handles_of user.segments.items) (heads_of user.segments.items) user.attached.items) path_is
    ∙ ap (λ (l : Life). made path l (handles_of user.segments.items) (heads_of user.segments.items) user.attached.items) runs
    ∙ ap (λ (os : List (Option Handle)). made path Running os (heads_of user.segments.items) user.attached.items) handles
    ∙ ap (λ (gs : List SegmentHead). made path Running (spread_handles load hs) gs user.attached.items) same
    ∙ ap (made path Running (spread_handles load hs) (map head_of load)) attached

-- ---- users that are put after others one by one

pub none_left : {X : Type 0} (xs : List X) → length xs ≡ 0 → xs ≡ []
none_left [] e = refl
none_left (x ∷ xs) e = absurd (omega (arith, e))

pub pushed_more : (us us' : List (Option User)) (rest rest' : List User) (u : User) (all : List (Option LoadedUser)) → us' ≡ us ++ Some u ∷ [] → rest ≡ u ∷ rest'
    → map (option_map kept) us ++ map (λ (k : LoadedUser). Some k) (map kept rest) ≡ all → map (option_map kept) us' ++ map (λ (k : LoadedUser). Some k) (map kept rest') ≡ all
pushed_more us us' rest rest' u all pushed steps so_far =
    ap (λ (l : List (Option User)). map (option_map kept) l ++ map (λ (k : LoadedUser). Some k) (map kept rest')) pushed
    ∙ ap (λ (l : List (Option LoadedUser)). l ++ map (λ (k : LoadedUser). Some k) (map kept rest')) (map-append (option_map kept) us (Some u ∷ []))
    ∙ append_assoc (map (option_map kept) us) (Some (kept u) ∷ []) (map (λ (k : LoadedUser). Some k) (map kept rest'))
    ∙ ap (λ (l : List User). map (option_map kept) us ++ map (λ (k : LoadedUser). Some k) (map kept l)) (sym steps) ∙ so_far

-- ---- one user more, and those of its rows

-- a user for each row
joined_length : (paths : List (List ℕ)) (all : List (List Segment)) → length all ≡ length paths → length (joined_kepts paths all) ≡ length paths
joined_length [] all long = refl
joined_length (path ∷ paths) [] long = absurd (omega (arith, long))
joined_length (path ∷ paths) (segments ∷ all) long = ap suc (joined_length paths all (omega (arith, long)))

pub rows_length : (paths : List (List ℕ)) (all : List (List Segment)) (joined : List LoadedUser) → AreJoinedUsers paths all joined → length joined ≡ length paths
rows_length paths all joined rows = sym (length-map joined (λ (k : LoadedUser). Some k)) ∙ ap length rows.users' ∙ joined_length paths all rows.long

module _ (memory middle new : Memory) (users' last : List (Option User)) (user : User) (joined : List User) (load : List Segment) (path : List ℕ) (all : List (List Segment)) (hs : List Handle) (id : ℕ) (entry : Option ℕ)
    (few : length users' + 1 + length joined ≤ max_users) (short : length load < 2 ^ 16) (id_is : id ≡ first_id + length users') (placed : AreAllPlaced RoomRule memory id false (wants_of (map head_of load)) hs middle)
    (is_settled : IsSettled load id hs middle new) (same : heads_of user.segments.items ≡ map head_of load) (handles : handles_of user.segments.items ≡ spread_handles load hs)
    (path_is : string_bytes user.path ≡ path) (runs : user.life ≡ Running) (attached : user.attached.items ≡ ids_from (id + 1) (length (paths_of load)))
    (entry_is : entry ≡ entry_in (heads_of user.segments.items) (place_in new.slots (handles_of user.segments.items)) 1)
    (rows : AreJoinedUsers (paths_of load) all (map kept joined))
    (pushed : map (option_map kept) last ≡ map (option_map kept) (users' ++ Some user ∷ []) ++ map (λ k. Some k) (map kept joined)) where
  abbrev its : LoadedUser
  its = record (started_kept path (map head_of load) hs) { attached = ids_from (id + 1) (length (paths_of load)) }

  kept_is : kept user ≡ its
  kept_is = kept_started user load path hs (ids_from (id + 1) (length (paths_of load))) same handles path_is runs attached

  count : length (map (option_map kept) users') ≡ length users'
  count = length-map users' (option_map kept)

  abbrev placed_new : HasPlaced memory path load id entry new
  placed_new = record {
    short = short;
    handles = hs;
    middle = middle;
    placed = placed;
    banks = is_settled.banks ∙ placed.kept.banks;
    slots = is_settled.slots;
    entry_is = entry_is ∙ ap (λ (gs : List SegmentHead). entry_in gs (place_in new.slots (handles_of user.segments.items)) 1) same
        ∙ ap (λ (os : List (Option Handle)). entry_in (map head_of load) (place_in new.slots os) 1) handles;
    stay = λ k live. is_settled.stay k.slot (λ i h is. rest_apart memory.banks id memory.slots middle.slots (wants_of (map head_of load)) hs placed.puts k live i h is);
    begins = λ n s h there has. subst (λ (slots : Slots). IsFront (stands (setting id slots (spread_handles load hs)) no_pokes s) (bytes_at new h.slot)) (sym is_settled.slots) (is_settled.begins n s h there has);
    sizes = is_settled.sizes;
  }

  fits : length (map (option_map kept) users') + 1 + length (paths_of load) ≤ max_users
  fits = omega (arith, few, count, length-map joined kept, rows_length (paths_of load) all (map kept joined) rows)

  users_are : map (option_map kept) last ≡ map (option_map kept) users' ++ Some its ∷ joined_kepts (paths_of load) all
  users_are =
      pushed
      ∙ ap (λ (us : List (Option LoadedUser)). us ++ map (λ k. Some k) (map kept joined)) (map-append (option_map kept) users' (Some user ∷ []))
      ∙ append_assoc (map (option_map kept) users') (Some (kept user) ∷ []) (map (λ k. Some k) (map kept joined))
      ∙ ap (λ (us : List (Option LoadedUser)). map (option_map kept) users' ++ Some (kept user) ∷ us) rows.users'
      ∙ ap (λ (k : LoadedUser). map (option_map kept) users' ++ Some k ∷ joined_kepts (paths_of load) all) kept_is

  pub begun : HasBegun (loaded memory users') path load all id entry (loaded new last)
  begun = record { few = fits; long = rows.long; shorts = rows.shorts; id_is = omega (arith, id_is, count); placed = placed_new; users = users_are }

-- ---- the same, as the loader's fields are

module _ (old : Loaded) (memory middle new : Memory) (users' last : List (Option User)) (user : User) (joined : List User) (load : List Segment) (path : List ℕ) (all : List (List Segment)) (wants : List Want) (hs given : List Handle) (id count : ℕ) (entry : Option ℕ)
    (view : old ≡ loaded memory users') (few : length old.users + 1 + length joined ≤ max_users) (short : length load < 2 ^ 16) (id_is : id ≡ first_id + count) (count_is : count ≡ length users')
    (placed : AreAllPlaced RoomRule memory id false wants given middle) (wants_are : wants ≡ wants_of (map head_of load)) (hs_are : hs ≡ given) (is_settled : IsSettled load id hs middle new)
    (same : heads_of user.segments.items ≡ map head_of load) (handles : handles_of user.segments.items ≡ spread_handles load hs) (path_is : string_bytes user.path ≡ path) (runs : user.life ≡ Running)
    (attached : user.attached.items ≡ ids_from (first_id + length old.users + 1) (length (paths_of load)))
    (entry_is : entry ≡ entry_in (heads_of user.segments.items) (place_in new.slots (handles_of user.segments.items)) 1)
    (rows : AreJoinedUsers (paths_of load) all (map kept joined))
    (pushed : map (option_map kept) last ≡ map (option_map kept) (users' ++ Some user ∷ []) ++ map (λ k. Some k) (map kept joined)) where
  old_count : length old.users ≡ length users'
  old_count = ap (λ (l : Loaded). length l.users) view ∙ length-map users' (option_map kept)

  as_begun : HasBegun (loaded memory users') path load all id entry (loaded new last)
  as_begun =
      begun memory middle new users' last user joined load path all hs id entry (omega (arith, few, old_count)) short (omega (arith, id_is, count_is))
      (subst (λ (ws : List Want). AreAllPlaced RoomRule memory id false ws hs middle) wants_are (subst (λ (given' : List Handle). AreAllPlaced RoomRule memory id false wants given' middle) (sym hs_are) placed))
      is_settled same handles path_is runs
      (attached ∙ ap (λ (n : ℕ). ids_from n (length (paths_of load))) (omega (arith, old_count, id_is, count_is)))
      entry_is rows pushed

  pub started : HasBegun old path load all id entry (loaded new last)
  started = subst (λ (l : Loaded). HasBegun l path load all id entry (loaded new last)) (sym view) as_begun

  pub started_sound : IsSound memory (map (option_map kept) users') → (file : List ℕ) → IsLoadable file load → lost_refusal (map (map head_of) all) load ≡ None → IsSound new (map (option_map kept) last)
  started_sound sound file loadable none = sound_begun (loaded memory users') (loaded new last) path load all id entry sound as_begun file loadable rows.runtimes none

-- the handles that were given, as the list of them holds them
pub same_handles : (banks : List ℕ) (user : ℕ) (slots last : Slots) (wants wants' : List Want) (hs given old : List Handle) (len : ℕ) → PutsAll RoomRule banks user slots wants given last → wants ≡ wants'
    → length old ≡ length wants' → len ≡ length old → hs ≡ take len (given ++ drop (length given) old) → hs ≡ given
same_handles banks user slots last wants wants' hs given old len puts same room is_len is =
    is ∙ take_at given (drop (length given) old) len (omega (arith, all_length banks user slots last wants given puts, ap length same, room, is_len))
