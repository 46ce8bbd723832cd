-- Static segments that are looked at, and made active, one by one.
use Rattle.std.proofs.Common.{◌≡◌, inl, inr, ℕ, suc, Bool, true, false, cond, ◌+◌, ◌<◌, ◌≤◌, List, [], ◌∷◌, ◌++◌, length, drop, take, map, get_or, Option, Some, None, IsSome, refl, sym, ap, subst, ◌∙◌, arith}
use Rattle.std.specs.Prelude.{not, ◌&&◌, ◌||◌, slice_get, IsSomeAnd}
use Rattle.std.specs.Option.{option_map, option_map_or, option_and_then}
use Rattle.std.proofs.Math.Seq.{drop-cons}
use Rattle.std.proofs.Math.ListN.{drop_of_length-le}
use Rattle.std.proofs.lemmas.Option.{slice_get-get_or, slice_get-map}
use Rattle.iigs_meaning.specs.declared.handles.Handle.{Handle}
use Rattle.iigs_meaning.specs.declared.slots.SlotContent.TheVariants.{Used}
use Rattle.iigs_meaning.specs.declared.wants.Block.{Block}
use Rattle.iigs_meaning.specs.Slots.{slot_at, get, with_value}
use Rattle.iigs_meaning.specs.Fits.{Slots}
use Rattle.iigs_meaning.specs.Blocks.{address_in}
use Rattle.iigs_meaning.specs.Memory.{Memory, Changes}
use Rattle.loader_machine.specs.Heads.{at_number, is_static}
use Rattle.loader_machine.specs.Presences.{handle_at, presence, is_there, lies_in, lies_at}
use Rattle.loader_machine.specs.Steps.{active_block, with_block_changed, changed_all, are_there, static_handles, is_read_again}
use Rattle.loader_machine.specs.Needs.{some_read_again}
use Rattle.loader_agrees.specs.laws.Begun.{decide}
use Rattle.loader_agrees.specs.laws.Lists.{number_map}
use Rattle.loader_agrees.specs.laws.Slotted.{slot_set, live_block}
use Rattle.loader_users.specs.declared.user.UserSegment.{UserSegment}
use Rattle.sys_loader.specs.Restarting.{static_handle, AreActivated}
use Rattle.loader_users.proofs.Written.{heads_of, handles_of}
use Rattle.loader_users.proofs.Comparing.{head_get}
use Rattle.sys_loader.proofs.Idling.{take_more, handle_get}
use Rattle.loader_users.proofs.Shifting.{set_is}
use Rattle.sys_loader.proofs.ChangedAll.{all_or, all_more, all_none}
use Rattle.sys_loader.proofs.Resuming.{next_number, statics_cons, statics_pass, there_all, again_is}

-- ---- those that are left

-- the first of the segments that are left, and its handle
first_left : (segments xs : List UserSegment) (i : ℕ) (d : UserSegment) → xs ≡ segments → i < length xs → drop i segments ≡ get_or xs i d ∷ drop (i + 1) segments
first_left segments xs i d same inside =
    let more : i + 1 ≡ suc i = omega arith in
    ap (λ (l : List UserSegment). drop i l) (sym same) ∙ drop-cons xs i d inside ∙ ap (λ (n : ℕ). get_or xs i d ∷ drop n xs) (sym more) ∙ ap (λ (l : List UserSegment). get_or xs i d ∷ drop (i + 1) l) same

handle_left : (segments xs : List UserSegment) (i : ℕ) (d : UserSegment) → xs ≡ segments → i < length xs → handle_at (handles_of segments) (i + 1) ≡ (get_or xs i d).handle
handle_left segments xs i d same inside =
    let more : i + 1 ≡ suc i = omega arith in
    let at : at_number segments (suc i) ≡ Some (get_or xs i d) = ap (λ (l : List UserSegment). at_number l (suc i)) (sym same) ∙ slice_get-get_or xs i d inside in
    ap (handle_at (handles_of segments)) more
    ∙ ap (option_and_then (λ (o : Option Handle). o)) (number_map (λ (s : UserSegment). s.handle) segments (suc i) ∙ ap (option_map (λ (s : UserSegment). s.handle)) at)

none_left : (segments xs : List UserSegment) (i : ℕ) → xs ≡ segments → length xs ≤ i → drop i segments ≡ []
none_left segments xs i same past = drop_of_length-le segments {i = i} (omega (arith, past, ap (λ (l : List UserSegment). length l) same))

-- ---- whether they are there

-- what is left of the test whether all are there, and whether one is read again
abbrev pub AllSought : Slots → List UserSegment → ℕ → Type 0
AllSought slots segments i = are_there slots (heads_of (drop i segments)) (handles_of segments) (i + 1) ≡ are_there slots (heads_of segments) (handles_of segments) 1

abbrev pub AgainSought : List UserSegment → ℕ → Type 0
AgainSought segments i = some_read_again (heads_of (drop i segments)) ≡ some_read_again (heads_of segments)

missing_none : (static there : Bool) → (static && not there) ≡ false → cond static there true ≡ true
missing_none true true e = refl
missing_none true false e = absurd cc
missing_none false there e = refl

missing_one : (static there : Bool) → (static && not there) ≡ true → cond static there true ≡ false
missing_one true true e = absurd cc
missing_one true false e = refl
missing_one false there e = absurd cc

and_yes : (a b : Bool) → a ≡ true → (a && b) ≡ b
and_yes a b e = rw e refl

and_no : (a b : Bool) → a ≡ false → (a && b) ≡ false
and_no a b e = rw e refl

module _ (slots : Slots) (segments xs : List UserSegment) (i : ℕ) (d : UserSegment) (same : xs ≡ segments) (inside : i < length xs) (sought : AllSought slots segments i) where
  whole : (cond (is_static (get_or xs i d).head) (is_there (presence slots (get_or xs i d).handle)) true && are_there slots (heads_of (drop (i + 1) segments)) (handles_of segments) (i + 1 + 1))
      ≡ are_there slots (heads_of segments) (handles_of segments) 1
  whole =
      ap (λ (o : Option Handle). cond (is_static (get_or xs i d).head) (is_there (presence slots o)) true && are_there slots (heads_of (drop (i + 1) segments)) (handles_of segments) (i + 1 + 1))
      (sym (handle_left segments xs i d same inside))
      ∙ ap (λ (l : List UserSegment). are_there slots (heads_of l) (handles_of segments) (i + 1)) (sym (first_left segments xs i d same inside)) ∙ sought

  pub all_more_sought : (is_static (get_or xs i d).head && not (is_there (presence slots (get_or xs i d).handle))) ≡ false → AllSought slots segments (i + 1)
  all_more_sought none = sym (and_yes _ _ (missing_none (is_static (get_or xs i d).head) (is_there (presence slots (get_or xs i d).handle)) none)) ∙ whole

  pub one_missing : (is_static (get_or xs i d).head && not (is_there (presence slots (get_or xs i d).handle))) ≡ true → are_there slots (heads_of segments) (handles_of segments) 1 ≡ false
  one_missing one = sym whole ∙ and_no _ _ (missing_one (is_static (get_or xs i d).head) (is_there (presence slots (get_or xs i d).handle)) one)

pub all_there : (slots : Slots) (segments xs : List UserSegment) (i : ℕ) → xs ≡ segments → AllSought slots segments i → length xs ≤ i → are_there slots (heads_of segments) (handles_of segments) 1 ≡ true
all_there slots segments xs i same sought past =
    sym sought ∙ ap (λ (l : List UserSegment). are_there slots (heads_of l) (handles_of segments) (i + 1)) (none_left segments xs i same past)

or_no : (a b : Bool) → a ≡ false → (a || b) ≡ b
or_no a b e = rw e refl

or_yes : (a b : Bool) → a ≡ true → (a || b) ≡ true
or_yes a b e = rw e refl

module _ (segments xs : List UserSegment) (i : ℕ) (d : UserSegment) (same : xs ≡ segments) (inside : i < length xs) (sought : AgainSought segments i) where
  again_whole : (is_read_again (get_or xs i d).head || some_read_again (heads_of (drop (i + 1) segments))) ≡ some_read_again (heads_of segments)
  again_whole = ap (λ (l : List UserSegment). some_read_again (heads_of l)) (sym (first_left segments xs i d same inside)) ∙ sought

  pub again_more_sought : is_read_again (get_or xs i d).head ≡ false → AgainSought segments (i + 1)
  again_more_sought plain = sym (or_no _ _ plain) ∙ again_whole

  pub one_again : is_read_again (get_or xs i d).head ≡ true → some_read_again (heads_of segments) ≡ true
  one_again again = sym again_whole ∙ or_yes _ _ again

pub none_again_left : (segments xs : List UserSegment) (i : ℕ) → xs ≡ segments → AgainSought segments i → length xs ≤ i → some_read_again (heads_of segments) ≡ false
none_again_left segments xs i same sought past = sym sought ∙ ap (λ (l : List UserSegment). some_read_again (heads_of l)) (none_left segments xs i same past)

-- ---- made active

-- a change of blocks that leaves their places leaves all places
module _ (f : Block → Block) (same_at : (b : Block) → (f b).at ≡ b.at) where
  pub address_same : (slots : Slots) (h : Handle) (n : ℕ) → address_in (slot_at (with_block_changed f slots h) n) ≡ address_in (slot_at slots n)
  address_same slots h n = go (get slots h) refl
    where
      go : (o : Option Block) → get slots h ≡ o → address_in (slot_at (option_map_or (λ b. with_value slots h (f b)) o slots) n) ≡ address_in (slot_at slots n)
      go None e = refl
      go (Some b) e = ap (λ (t : Slots). address_in (slot_at t n)) (set_is slots h b (f b) e)
          ∙ elim (slot_set slots h.slot (record { generation = h.generation; content = Used (f b) }) n) [
            | inl here ↦
                ap address_in here.1 ∙ same_at b
                ∙ sym (ap (λ (m : ℕ). address_in (slot_at slots m)) here.0 ∙ ap (λ (o : Option Block). option_and_then (λ x. x.at) o) (live_block slots h b e))
            | inr same ↦ ap address_in same
          ]

static_some : (s : UserSegment) (h : Handle) → static_handle s ≡ Some h → (is_static s.head ≡ true) × (s.handle ≡ Some h)
static_some s h is = go (is_static s.head) refl is
  where
    go : (b : Bool) → is_static s.head ≡ b → cond b s.handle None ≡ Some h → (is_static s.head ≡ true) × (s.handle ≡ Some h)
    go true e found = (e, found)
    go false e found = absurd cc

-- a segment that is there has a block that is there
pub live_of : (slots : Slots) (h : Handle) → is_there (presence slots (Some h)) ≡ true → (b : Block) × (get slots h ≡ Some b) × IsSome b.at
live_of slots h is = go (get slots h) refl is
  where
    some_at : (at : Option ℕ) (locked : Bool) → is_there (lies_at h at locked) ≡ true → IsSome at
    some_at None locked e = absurd cc
    some_at (Some a) locked e = refl

    go : (o : Option Block) → get slots h ≡ o → is_there (lies_in h o) ≡ true → (b : Block) × (get slots h ≡ Some b) × IsSome b.at
    go None e there = absurd cc
    go (Some b) e there = (b, e, some_at b.at b.locked there)

pub static_get : (segments : List UserSegment) (k : ℕ) (s : UserSegment) → k < length segments → s ≡ get_or segments k s → slice_get (map static_handle segments) k ≡ Some (static_handle s)
static_get segments k s inside is =
    slice_get-map static_handle segments k ∙ ap (option_map static_handle) (slice_get-get_or segments k s inside) ∙ ap (λ (x : UserSegment). Some (static_handle x)) (sym is)

-- the next static segment's block is there
pub activate_there : (segments : List UserSegment) (k : ℕ) (s : UserSegment) (h : Handle) (old now : Memory) → are_there old.slots (heads_of segments) (handles_of segments) 1 ≡ true
    → AreActivated (take k (map static_handle segments)) old now → k < length segments → s ≡ get_or segments k s → static_handle s ≡ Some h → IsSomeAnd (get now.slots h) (λ block. IsSome block.at)
activate_there segments k s h old now all so_far inside is has =
    let its = static_some s h has in
    let next : 1 + k ≡ suc k = omega arith in
    let handle : handle_at (handles_of segments) (1 + k) ≡ Some h =
    ap (handle_at (handles_of segments)) next ∙ ap (option_and_then (λ (o : Option Handle). o)) (handle_get segments k s inside is) ∙ its.1 in
    let there : is_there (presence old.slots (Some h)) ≡ true =
    ap (λ (o : Option Handle). is_there (presence old.slots o)) (sym handle) ∙ there_all old.slots (heads_of segments) (handles_of segments) 1 k s.head all (head_get segments k s inside is) its.0 in
    let live = live_of old.slots h there in
    let moved : get now.slots h ≡ get (changed_all active_block old.slots (take k (map static_handle segments))) h = ap (λ (t : Slots). get t h) so_far.slots in
    elim (all_or active_block again_is old.slots (take k (map static_handle segments)) h live.0 live.1) [
      | inl same ↦ subst (λ (o : Option Block). IsSomeAnd o (λ block. IsSome block.at)) (sym (moved ∙ same)) live.2
      | inr new ↦ subst (λ (o : Option Block). IsSomeAnd o (λ block. IsSome block.at)) (sym (moved ∙ new)) live.2
    ]

module _ (handles : List (Option Handle)) (k : ℕ) (o : Option Handle) (found : slice_get handles k ≡ Some o) (old now : Memory) (so_far : AreActivated (take k handles) old now) where
  pub activated_none : o ≡ None → AreActivated (take (k + 1) handles) old now
  activated_none is = record {
    slots = so_far.slots ∙ sym (ap (changed_all active_block old.slots) (take_more handles k o found ∙ ap (λ (x : Option Handle). take k handles ++ x ∷ []) is)
        ∙ all_none active_block again_is old.slots (take k handles));
    bytes = so_far.bytes;
  }

  pub activated_some : (h : Handle) → o ≡ Some h → (new : Memory) → Changes now h active_block new → AreActivated (take (k + 1) handles) old new
  activated_some h is new changes =
      let one : new.slots ≡ with_block_changed active_block now.slots h =
      changes.slots ∙ sym (ap (λ (x : Option Block). option_map_or (λ b. with_value now.slots h (active_block b)) x now.slots) changes.was) in
      record {
        slots = one ∙ ap (λ (t : Slots). with_block_changed active_block t h) so_far.slots
            ∙ sym (ap (changed_all active_block old.slots) (take_more handles k o found ∙ ap (λ (x : Option Handle). take k handles ++ x ∷ []) is)
            ∙ all_more active_block again_is old.slots (take k handles) h);
        bytes = record {
          banks = changes.kept.banks ∙ so_far.bytes.banks;
          bytes = λ place apart there. changes.kept.bytes place apart there
              ∙ so_far.bytes.bytes place apart (subst (λ (x : Option ℕ). IsSome x) (ap (λ (t : Slots). address_in (slot_at t place)) one ∙ address_same active_block (λ b. refl) now.slots h place) there);
        };
      }

-- the handles of the static segments, with none for the others, are those of the static ones
pub same_changed : (f : Block → Block) (slots : Slots) (segments : List UserSegment) → changed_all f slots (map static_handle segments) ≡ changed_all f slots (static_handles (heads_of segments) (handles_of segments) 1)
same_changed f slots segments = go segments (handles_of segments) 1 (λ i s is. first i s is) slots
  where
    first : (i : ℕ) (s : UserSegment) → slice_get segments i ≡ Some s → handle_at (handles_of segments) (1 + i) ≡ s.handle
    first i s is =
        let next : 1 + i ≡ suc i = omega arith in
        ap (handle_at (handles_of segments)) next ∙ ap (option_and_then (λ (o : Option Handle). o)) (slice_get-map (λ (x : UserSegment). x.handle) segments i ∙ ap (option_map (λ (x : UserSegment). x.handle)) is)

    step : (o : Option Handle) (a b : List (Option Handle)) (t : Slots) → ((u : Slots) → changed_all f u a ≡ changed_all f u b) → changed_all f t (o ∷ a) ≡ changed_all f t (o ∷ b)
    step None a b t rest = rest t
    step (Some h) a b t rest = rest (with_block_changed f t h)

    go : (xs : List UserSegment) (handles : List (Option Handle)) (n : ℕ) → ((i : ℕ) (s : UserSegment) → slice_get xs i ≡ Some s → handle_at handles (n + i) ≡ s.handle) → (t : Slots)
        → changed_all f t (map static_handle xs) ≡ changed_all f t (static_handles (heads_of xs) handles n)
    go [] handles n each t = refl
    go (x ∷ xs) handles n each t =
        let here : handle_at handles n ≡ x.handle = (let same : n ≡ n + 0 = omega arith in ap (handle_at handles) same) ∙ each 0 x refl in
        let later : (u : Slots) → changed_all f u (map static_handle xs) ≡ changed_all f u (static_handles (heads_of xs) handles (n + 1)) =
        λ u. go xs handles (n + 1) (λ i s is. ap (handle_at handles) (sym (next_number n i)) ∙ each (suc i) s is) u in
        elim (decide (is_static x.head)) [
          | inl static ↦
              let its : static_handle x ≡ handle_at handles n = ap (λ (b : Bool). cond b x.handle None) static ∙ sym here in
              ap (λ (o : Option Handle). changed_all f t (o ∷ map static_handle xs)) its ∙ step (handle_at handles n) (map static_handle xs) (static_handles (heads_of xs) handles (n + 1)) t later
              ∙ sym (ap (changed_all f t) (statics_cons x.head (heads_of xs) handles n static))
          | inr other ↦
              let its : static_handle x ≡ None = ap (λ (b : Bool). cond b x.handle None) other in
              ap (λ (o : Option Handle). changed_all f t (o ∷ map static_handle xs)) its ∙ later t ∙ sym (ap (changed_all f t) (statics_pass x.head (heads_of xs) handles n other))
        ]
