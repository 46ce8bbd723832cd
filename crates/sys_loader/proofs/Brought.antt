-- A segment of a load file that gets a block and is written into it.
use Rattle.std.proofs.Common.{◌≡◌, inl, inr, ℕ, zero, suc, Bool, true, false, ◌==◌, ◌+◌, ◌-◌, ◌<◌, ◌≤◌, List, [], ◌∷◌, length, map, Option, Some, None, IsSome, refl, sym, ap, subst, ◌∙◌, arith}
use Rattle.std.specs.Prelude.{slice_get, slice_set, unwrap_or, IsSomeAnd}
use Rattle.std.specs.List.{AllByRecursion}
use Rattle.std.proofs.lemmas.Option.{same_Some, slice_get_within}
use Rattle.std.proofs.lemmas.Bool.{cases_eq, cases_lt}
use Rattle.std.proofs.lemmas.List.{get_or-set_same, get_or-set_other}
use Rattle.std.proofs.Math.ListN.{get_or-eq_default}
use Rattle.omf_format.specs.Header.{is_dynamic}
use Rattle.omf_format.specs.File.{Segment, segment_at}
use Rattle.omf_io.specs.Counts.{IsFront}
use Rattle.load_meaning.specs.declared.table.Target.{Target}
use Rattle.load_meaning.specs.laws.CellLaws.{loadable_has}
use Rattle.load_meaning.specs.Loadable.{IsLoadable}
use Rattle.load_meaning.specs.LoadTable.{targets_of}
use Rattle.load_content.specs.Places.{address_in}
use Rattle.iigs_meaning.specs.declared.handles.Handle.{Handle}
use Rattle.iigs_meaning.specs.declared.wants.Block.{Block}
use Rattle.iigs_meaning.specs.Slots.{get}
use Rattle.iigs_meaning.specs.Fits.{Slots}
use Rattle.iigs_meaning.specs.Memory.{Memory, bytes_at}
use Rattle.loader_machine.specs.declared.seen.SegmentHead.{SegmentHead}
use Rattle.loader_machine.specs.Heads.{head_of, at_number}
use Rattle.loader_machine.specs.State.{no_pokes, first_id, user_of, with_user, led_by}
use Rattle.loader_machine.specs.Presences.{handle_at, presence, there_at, lies_in, lies_at}
use Rattle.loader_machine.specs.laws.Words.{no_far_segment, target_with}
use Rattle.loader_machine.specs.Stands as machine
use Rattle.loader_machine.specs.Stands.{AddressSetting, setting, stands}
use Rattle.loader_machine.specs.laws.StandsLaws.{AreAlike, stands_alike}
use Rattle.loader_agrees.specs.Agrees.{LoadedUser, Loaded, kept_outlines, Has, IsSound}
use Rattle.loader_agrees.specs.laws.BegunSound.{want_size}
use Rattle.loader_agrees.specs.laws.Keeping.{of_kept}
use Rattle.loader_agrees.specs.laws.Lists.{set_map}
use Rattle.loader_agrees.specs.laws.Reads.{head_at, headed}
use Rattle.loader_agrees.specs.laws.Seeing.{made_at, has_any}
use Rattle.loader_users.specs.declared.user.UserSegment as users
use Rattle.loader_users.specs.Renewing.{AreRoomy, AreRenewed}
use Rattle.loader_users.specs.Bytes.{with_bytes}
use Rattle.loader_users.specs.Filling.{HasHead, IsSetting, IsFilled, IsWritten}
use Rattle.sys_loader.specs.Activating.{CanLoad, IsBrought, HasCome}
use Rattle.loader_users.specs.Users.{with_handle}
use Rattle.sys_loader.proofs.Beginning.{want_some}
use Rattle.sys_loader.proofs.Came.{IsNew, is_new}
use Rattle.loader_users.proofs.Settling.{addresses, address_is}
use Rattle.loader_users.proofs.Written.{handles_of}

none_active : (ts : List Target) → AllByRecursion (λ (t : Target). ◌≡◌ {A = Option ℕ} None None) ts
none_active [] = tt
none_active (t ∷ ts) = (refl, none_active ts)

-- where no segment of an attached user is active, none is for a file above 1
no_far : (slots : Slots) (handles : List (Option Handle)) (file n : ℕ) → 2 ≤ file → target_with no_far_segment slots handles file n ≡ None
no_far slots handles file n above = let other : (file == 1) ≡ false = grind arith in rw other refl

module _ (old : Loaded) (id number : ℕ) (sound : IsSound old.memory old.users) (head : SegmentHead) (handle : Option Handle) (can : CanLoad old id number head handle)
    (h : Handle) (address : ℕ) (placed : Memory) (brought : IsBrought old.memory id head handle h address placed) where
  its_users : (slice_get old.users (id - first_id) ≡ Some (Some can.kept)) × (first_id + (id - first_id) ≡ id)
  its_users = made_at old.users id can.kept can.made

  new_one : IsNew old id number head handle h address placed
  new_one = is_new old id number sound can.kept head its_users.0 its_users.1 can.head' handle h address placed can.handle' brought

  -- ---- the new block

  pub there_address : there_at (presence placed.slots (Some h)) ≡ Some address
  there_address =
      ap (λ (o : Option Block). there_at (lies_in h o)) new_one.brings.live ∙ ap (λ (o : Option ℕ). there_at (lies_at h o new_one.brings.block.locked)) new_one.brings.at
      ∙ ap (λ l. there_at (lies_at h (Some address) l)) new_one.brings.locked

  pub address_of : (result : ℕ) → result ≡ unwrap_or (there_at (presence placed.slots (Some h))) 0 → address ≡ result
  address_of result is = sym (is ∙ ap (λ (o : Option ℕ). unwrap_or o 0) there_address)

  pub block_there : IsSomeAnd (get placed.slots h) (λ block. IsSome block.at)
  block_there = rw (new_one.brings.live, new_one.brings.at) refl

  pub block_fits : head.length ≤ length (bytes_at placed h.slot)
  block_fits = omega (arith, new_one.brings.size, want_size head)

  pub number_in : (1 ≤ number) × (number ≤ length can.kept.heads)
  number_in = go number can.head'
    where
      go : (n : ℕ) → at_number can.kept.heads n ≡ Some head → (1 ≤ n) × (n ≤ length can.kept.heads)
      go zero is = absurd cc
      go (suc k) is = let within = slice_get_within can.kept.heads k head is in (omega arith, omega (arith, within))

  slot_inside : h.slot < length placed.bytes
  slot_inside = elim (cases_lt h.slot (length placed.bytes)) [
    | inl lt ↦ lt
    | inr le ↦ (let none : bytes_at placed h.slot ≡ [] = get_or-eq_default placed.bytes [] le in absurd (omega (arith, new_one.brings.size, ap length none, want_some head)))
  ]

  -- ---- the places

  module _ (items : List users.UserSegment) (same_handles : handles_of items ≡ can.kept.handles) where
    abbrev one : users.UserSegment
    one = record { handle = Some h; head = head }

    places_are : slice_set (addresses placed.slots items) (number - 1) (Some address) ≡ addresses placed.slots (slice_set items (number - 1) one)
    places_are =
        ap (λ (o : Option ℕ). slice_set (addresses placed.slots items) (number - 1) o) (sym there_address)
        ∙ sym (set_map (λ (s : users.UserSegment). there_at (presence placed.slots s.handle)) items (number - 1) one)

    handles_are : handles_of (slice_set items (number - 1) one) ≡ (with_handle can.kept number h).handles
    handles_are = set_map (λ (s : users.UserSegment). s.handle) items (number - 1) one ∙ ap (λ (hs : List (Option Handle)). slice_set hs (number - 1) (Some h)) same_handles

    place_is : (n : ℕ) → address_in (slice_set (addresses placed.slots items) (number - 1) (Some address)) n ≡ machine.place_in placed.slots (with_handle can.kept number h).handles n
    place_is n =
        ap (λ (ps : List (Option ℕ)). address_in ps n) places_are ∙ address_is placed.slots (slice_set items (number - 1) one) n
        ∙ ap (λ (hs : List (Option Handle)). machine.place_in placed.slots hs n) handles_are

    -- the setting in which no target is active
    abbrev bare : AddressSetting
    bare = record { id = id; place = machine.place_in placed.slots (with_handle can.kept number h).handles; target = λ file segment. None }

    module _ (file : List ℕ) (load : List Segment) (taken : IsLoadable file load) (heads : map head_of load ≡ can.kept.heads) where
      bare_setting : IsSetting load id (slice_set (addresses placed.slots items) (number - 1) (Some address)) bare
      bare_setting = record { id = refl; place = place_is; targets = λ n s is table. none_active (targets_of s) }

      same_head : (s : Segment) → segment_at load number ≡ Some s → head_of s ≡ head
      same_head s is = same_Some (head_of s) head (sym (head_at load number s is) ∙ ap (λ (hs : List SegmentHead). at_number hs number) heads ∙ can.head')

      pub begins : (content : List ℕ) → IsFilled load number id (slice_set (addresses placed.slots items) (number - 1) (Some address)) content → (s : Segment) → segment_at load number ≡ Some s
          → IsFront (stands (setting id placed.slots (with_handle can.kept number h).handles) no_pokes s) content
      begins content filled s is =
          let its = loadable_has file load taken number s is in
          let alike : AreAlike load number s bare (setting id placed.slots (with_handle can.kept number h).handles) = record {
            id = refl;
            own = refl;
            static = λ n t there static. refl;
            target = λ table n t there dynamic kept'.
                let clash : true ≡ false = sym can.dynamic ∙ ap (λ (x : SegmentHead). is_dynamic x.kind) (sym (same_head s is)) ∙ (its.table table).static in absurd cc;
            far = λ table file n above. sym (no_far placed.slots (with_handle can.kept number h).handles file n above);
          } in
          subst (λ (bytes : List ℕ). IsFront bytes content) (stands_alike load number s its bare (setting id placed.slots (with_handle can.kept number h).handles) alike no_pokes) (filled bare s bare_setting is)

  -- ---- room for the tables

  at_block : (slots : Slots) (k : Handle) (block : Block) → get slots k ≡ Some block → IsSome (there_at (presence slots (Some k))) → IsSome block.at
  at_block slots k block is there = go block.at block.locked (subst (λ (o : Option Block). IsSome (there_at (lies_in k o))) is there)
    where
      go : (at : Option ℕ) (locked : Bool) → IsSome (there_at (lies_at k at locked)) → IsSome at
      go None locked e = absurd cc
      go (Some a) locked e = refl

  -- each segment of a user that is there has room in its block, where this content is in the new one
  pub roomy_now : (content : List ℕ) → length content ≡ length (bytes_at placed h.slot) → (owner : ℕ) (lead : LoadedUser) → user_of old.users owner ≡ Some lead → AreRoomy (with_bytes placed h.slot content) lead.heads lead.handles
  roomy_now content same owner lead lead_made = record { each = each; once = once }
    where
      lead_users : (slice_get old.users (owner - first_id) ≡ Some (Some lead)) × (first_id + (owner - first_id) ≡ owner)
      lead_users = made_at old.users owner lead lead_made

      here : (n : ℕ) (g : SegmentHead) (k : Handle) → at_number lead.heads n ≡ Some g → handle_at lead.handles n ≡ Some k → owner ≡ id → n ≡ number → g.length ≤ length (bytes_at (with_bytes placed h.slot content) k.slot)
      here n g k found has owns eq =
          let user : lead ≡ can.kept = same_Some lead can.kept (sym lead_made ∙ ap (user_of old.users) owns ∙ can.made) in
          let its : k ≡ h = new_one.own k (sym can.handle' ∙ ap (handle_at can.kept.handles) (sym eq) ∙ ap (λ (x : LoadedUser). handle_at x.handles n) (sym user) ∙ has) in
          let g_is : g ≡ head = same_Some g head (sym found ∙ ap (λ (x : LoadedUser). at_number x.heads n) user ∙ ap (at_number can.kept.heads) eq ∙ can.head') in
          let bytes : bytes_at (with_bytes placed h.slot content) k.slot ≡ content =
          ap (λ (x : Handle). bytes_at (with_bytes placed h.slot content) x.slot) its ∙ get_or-set_same placed.bytes h.slot content [] slot_inside in
          omega (arith, ap length bytes, same, block_fits, ap (λ (x : SegmentHead). x.length) g_is)

      apart : (n : ℕ) (g : SegmentHead) (k : Handle) → at_number lead.heads n ≡ Some g → handle_at lead.handles n ≡ Some k → ((owner ≡ id) → (n ≡ number) → ⊥) → IsSome (there_at (presence placed.slots (Some k)))
          → g.length ≤ length (bytes_at (with_bytes placed h.slot content) k.slot)
      apart n g k found has differ there =
          let it : Has old.users (owner - first_id) n g k = record { kept = lead; made = lead_users.0; head' = found; handle = has } in
          let other = new_one.apart (owner - first_id) n g k it (λ p q. differ (sym lead_users.1 ∙ p) q) in
          let of' = of_kept old.memory placed (first_id + (owner - first_id)) g k (sound.each (owner - first_id) n g k it) (new_one.brings.keeps (owner - first_id) n g k it other) in
          let room = of'.room (at_block placed.slots k of'.block of'.live there) in
          omega (arith, room, ap length (get_or-set_other placed.bytes h.slot k.slot content [] other))

      each : (n : ℕ) (g : SegmentHead) (k : Handle) → at_number lead.heads n ≡ Some g → handle_at lead.handles n ≡ Some k → IsSome (there_at (presence placed.slots (Some k)))
          → g.length ≤ length (bytes_at (with_bytes placed h.slot content) k.slot)
      each n g k found has there = elim (cases_eq owner id) [
        | inl owns ↦ elim (cases_eq n number) [ inl eq ↦ here n g k found has owns eq | inr ne ↦ apart n g k found has (λ o e. ne e) there ]
        | inr other ↦ apart n g k found has (λ o e. other o) there
      ]

      once : (m n : ℕ) (j k : Handle) → handle_at lead.handles m ≡ Some j → handle_at lead.handles n ≡ Some k → j.slot ≡ k.slot → m ≡ n
      once m n j k found found' same' =
          let one' = has_any old sound (owner - first_id) lead lead_users.0 m j found in
          let two = has_any old sound (owner - first_id) lead lead_users.0 n k found' in
          (sound.once (owner - first_id) (owner - first_id) m n one'.0 two.0 j k one'.1 two.1 same').1

  -- ---- as it is done

  module _ (k : LoadedUser) (made : user_of old.users id ≡ Some k) where
    same_kept : can.kept ≡ k
    same_kept = same_Some can.kept k (sym can.made ∙ made)

    pub number_inside : (1 ≤ number) × (number ≤ length k.heads)
    number_inside = subst (λ (x : LoadedUser). (1 ≤ number) × (number ≤ length x.heads)) same_kept number_in

    pub has_head : (load : List Segment) → map head_of load ≡ k.heads → HasHead load number head
    has_head load heads =
        let it = headed load number head (ap (λ (hs : List SegmentHead). at_number hs number) (heads ∙ ap (λ (x : LoadedUser). x.heads) (sym same_kept)) ∙ can.head') in
        rw it.1 (sym it.2)

    pub roomy_filled : (load : List Segment) (places : List (Option ℕ)) (filled : Memory) → IsWritten load number id places placed h filled → (owner : ℕ) (lead : LoadedUser) → user_of old.users owner ≡ Some lead
        → AreRoomy filled lead.heads lead.handles
    roomy_filled load places filled written owner lead lead_made =
        subst (λ (m : Memory). AreRoomy m lead.heads lead.handles) (sym written.new_is) (roomy_now written.content written.same owner lead lead_made)

    come_at : (last : Loaded) (items : List users.UserSegment) (file : List ℕ) (load : List Segment) (places : List (Option ℕ)) (filled new : Memory) (count : ℕ) (lead : LoadedUser)
        → user_of old.users (led_by (kept_outlines old.users) id).0 ≡ Some lead → handles_of items ≡ k.handles → IsLoadable file load
        → map head_of load ≡ k.heads → count ≡ length lead.heads → places ≡ slice_set (addresses placed.slots items) (number - 1) (Some address) → IsWritten load number id places placed h filled
        → AreRenewed lead.heads lead.handles (Some ((led_by (kept_outlines old.users) id).1, number)) (Some address) filled new count → last.memory ≡ new → last.users ≡ with_user old.users id (Some (with_handle k number h))
        → HasCome old id number k head handle load address last
    come_at last items file load places filled new count lead leads handles taken heads long at_places written renewed memory users' = record {
      h = h;
      placed = placed;
      brought = brought;
      content = written.content;
      same = written.same;
      begins = λ s is.
          subst (λ (x : LoadedUser). IsFront (stands (setting id placed.slots (with_handle x number h).handles) no_pokes s) written.content) same_kept
          (begins items (handles ∙ ap (λ (x : LoadedUser). x.handles) (sym same_kept)) file load taken (heads ∙ ap (λ (x : LoadedUser). x.heads) (sym same_kept)) written.content
          (subst (λ (ps : List (Option ℕ)). IsFilled load number id ps written.content) at_places written.filled) s is);
      lead = lead;
      leads = leads;
      renewed = subst (λ (m : Memory). AreRenewed lead.heads lead.handles (Some ((led_by (kept_outlines old.users) id).1, number)) (Some address) (with_bytes placed h.slot written.content) m (length lead.heads)) (sym memory)
          (subst (AreRenewed lead.heads lead.handles (Some ((led_by (kept_outlines old.users) id).1, number)) (Some address) (with_bytes placed h.slot written.content) new) long
          (subst (λ (m : Memory). AreRenewed lead.heads lead.handles (Some ((led_by (kept_outlines old.users) id).1, number)) (Some address) m new count) written.new_is renewed));
      users = users';
    }

-- ---- as the calls do it: the address is looked up, and the new block's place is set among those of the others

module _ (old : Loaded) (id number : ℕ) (sound : IsSound old.memory old.users) (head : SegmentHead) (handle : Option Handle) (can : CanLoad old id number head handle) (h : Handle) (placed : Memory)
    (brought : (at : ℕ) × IsBrought old.memory id head handle h at placed) (address : ℕ) (looked : address ≡ unwrap_or (there_at (presence placed.slots (Some h))) 0) where
  brought_there : IsBrought old.memory id head handle h address placed
  brought_there = subst (λ (a : ℕ). IsBrought old.memory id head handle h a placed) (address_of old id number sound head handle can h brought.0 placed brought.1 address looked) brought.1

  pub has_come : (k : LoadedUser) → user_of old.users id ≡ Some k → (last : Loaded) (items : List users.UserSegment) (file : List ℕ) (load : List Segment) (others places : List (Option ℕ)) (m n : ℕ) (filled new : Memory) (count : ℕ) (lead : LoadedUser)
      → user_of old.users (led_by (kept_outlines old.users) id).0 ≡ Some lead → count ≡ length lead.heads → handles_of items ≡ k.handles → IsLoadable file load → map head_of load ≡ k.heads → others ≡ addresses placed.slots items → m ≡ number → places ≡ slice_set others (m - 1) (Some address)
      → n ≡ number → IsWritten load n id places placed h filled → AreRenewed lead.heads lead.handles (Some ((led_by (kept_outlines old.users) id).1, number)) (Some address) filled new count → last.memory ≡ new
      → last.users ≡ with_user old.users id (Some (with_handle k number h)) → HasCome old id number k head handle load address last
  has_come k made last items file load others places m n filled new count lead leads long handles taken same others_so m_so placed_so n_so written renewed memory users' =
      come_at old id number sound head handle can h address placed brought_there k made last items file load places filled new count lead leads handles taken same long
      (placed_so ∙ ap (λ (x : ℕ). slice_set others (x - 1) (Some address)) m_so ∙ ap (λ (ps : List (Option ℕ)). slice_set ps (number - 1) (Some address)) others_so)
      (subst (λ (x : ℕ). IsWritten load x id places placed h filled) n_so written) renewed memory users'
