-- An address that lies in none of the segments so far, and then in one or in none.
use Rattle.std.proofs.Common.{◌≡◌, ◌≢◌, inl, inr, ℕ, zero, suc, Bool, true, false, ◌+◌, ◌-◌, ◌<◌, List, length, map, get_or, Option, Some, None, IsSomeAnd, nat_lt, refl, sym, ap, subst, ◌∙◌, arith}
use Rattle.std.specs.Prelude.{slice_get, option_map, ◌^◌}
use Rattle.std.proofs.lemmas.List.{length-map}
use Rattle.std.specs.Option.{option_and_then}
use Rattle.std.proofs.lemmas.Bool.{cases_lt}
use Rattle.std.proofs.lemmas.Option.{same_Some, slice_get-get_or, slice_get-map, slice_get_within}
use Rattle.iigs_meaning.specs.declared.handles.Handle.{Handle}
use Rattle.iigs_meaning.specs.declared.wants.Block.{Block}
use Rattle.iigs_meaning.specs.Slots.{get}
use Rattle.iigs_meaning.specs.Fits.{Slots}
use Rattle.iigs_meaning.specs.Memory.{Memory}
use Rattle.loader_machine.specs.declared.seen.SegmentHead.{SegmentHead}
use Rattle.loader_machine.specs.declared.seen.Presence.TheVariants.{Active}
use Rattle.loader_machine.specs.Heads.{at_number}
use Rattle.loader_machine.specs.State.{first_id, user_of}
use Rattle.loader_machine.specs.Presences.{handle_at, presence, lies_in, lies_at}
use Rattle.loader_agrees.specs.Agrees.{LoadedUser, Loaded, IsSound}
use Rattle.loader_agrees.specs.Acts.{LiesIn}
use Rattle.loader_agrees.specs.laws.Lists.{number_map}
use Rattle.loader_agrees.specs.laws.Seeing.{made_at, its_block}
use Rattle.iigs_places.specs.Holder.{Has, IsHolder}
use Rattle.loader_users.specs.View.{kept, loaded}
use Rattle.loader_users.specs.declared.user.User.{User}
use Rattle.loader_users.specs.declared.user.UserSegment.{UserSegment}
use Rattle.loader_users.specs.Lying.{LiesAt, LiesInNone, IsSomewhereOf, IsNowhereFor, IsSomewhere}

module _ (slots : Slots) (segments xs : List UserSegment) (h : Handle) (place address : ℕ) (d : UserSegment) (same : xs ≡ segments) (inside : place < length xs) where
  here : slice_get segments place ≡ Some (get_or xs place d)
  here = ap (λ (l : List UserSegment). slice_get l place) (sym same) ∙ slice_get-get_or xs place d inside

  pub none_more : LiesInNone slots segments place h address → ((offset : ℕ) → ¬ LiesAt slots (get_or xs place d) h address offset) → LiesInNone slots segments (place + 1) h address
  none_more none not k t offset less found = elim (cases_lt k place) [
    | inl before ↦ none k t offset before found
    | inr after ↦ λ lies.
        let at : k ≡ place = omega (arith, after, less) in
        let it : t ≡ get_or xs place d = same_Some t (get_or xs place d) (sym found ∙ ap (slice_get segments) at ∙ here) in
        not offset (subst (λ (x : UserSegment). LiesAt slots x h address offset) it lies)
  ]

-- ---- users

pub active_handle : (slots : Slots) (o : Option Handle) (h : Handle) (first : ℕ) → presence slots o ≡ Active h first → o ≡ Some h
active_handle slots None h first is = absurd cc
active_handle slots (Some k) h first is = ap (λ (x : Handle). Some x) (in_slot (get slots k) is)
  where
    at_place : (at : Option ℕ) (locked : Bool) → lies_at k at locked ≡ Active h first → k ≡ h
    at_place None locked e = absurd cc
    at_place (Some a) true e = cc
    at_place (Some a) false e = absurd cc

    in_slot : (b : Option Block) → lies_in k b ≡ Active h first → k ≡ h
    in_slot None e = absurd cc
    in_slot (Some block) e = at_place block.at block.locked e

-- an active segment's block begins at its address
at_first : (slots : Slots) (h : Handle) (block : Block) (first : ℕ) → get slots h ≡ Some block → presence slots (Some h) ≡ Active h first → block.at ≡ Some first
at_first slots h block first is active = go block.at block.locked (ap (lies_in h) (sym is) ∙ active)
  where
    go : (at : Option ℕ) (locked : Bool) → lies_at h at locked ≡ Active h first → at ≡ Some first
    go None locked e = absurd cc
    go (Some a) true e = cc
    go (Some a) false e = absurd cc

-- the block of the segment in which an address lies has the byte, and is the user's
pub lies_block : (loader : Loaded) → IsSound loader.memory loader.users → (address id number offset : ℕ) → (lies : LiesIn loader address id number offset)
    → Has loader.memory.slots address lies.h × IsSomeAnd (get loader.memory.slots lies.h) (λ block. block.user ≡ id)
lies_block loader sound address id number offset lies =
    let is = lies.is in
    let own = its_block loader sound id number lies.h is in
    let at = at_first loader.memory.slots lies.h own.block is.address own.live is.active in
    let id_is = (made_at loader.users id is.kept is.made).1 in (
      rw (own.live, at) (omega (arith, lies.sum), omega (arith, lies.sum, lies.inside, own.want)),
      rw own.live (own.user ∙ id_is),
    )

handle_is : (segments : List UserSegment) (number : ℕ) (s : UserSegment) → at_number segments number ≡ Some s → handle_at (map (λ (x : UserSegment). x.handle) segments) number ≡ s.handle
handle_is segments number s is = ap (option_and_then (λ (o : Option Handle). o)) (number_map (λ (x : UserSegment). x.handle) segments number ∙ ap (option_map (λ (x : UserSegment). x.handle)) is)

module _ (memory : Memory) (items : List (Option User)) where
  abbrev loader : Loaded
  loader = loaded memory items

  user_at : (k : ℕ) (user : User) → slice_get items k ≡ Some (Some user) → user_of (map (option_map kept) items) (first_id + k) ≡ Some (kept user)
  user_at k user is =
      let above : nat_lt (first_id + k) first_id ≡ false = grind arith in
      let place : first_id + k - first_id ≡ k = omega arith in
      rw (above, place) (ap (option_and_then (λ (u : Option LoadedUser). u)) (slice_get-map (option_map kept) items k ∙ ap (option_map (option_map kept)) is))

  pub lies_there : (h : Handle) (k id address number offset : ℕ) (user : Option User) → slice_get items k ≡ Some user → id ≡ first_id + k → IsSomewhereOf memory.slots user h address number offset
      → LiesIn (loaded memory items) address id number offset
  lies_there h k id address number offset None is e somewhere = absurd somewhere
  lies_there h k id address number offset (Some user) is e somewhere =
      let s = somewhere.1.0 in
      let at = somewhere.1.2 in
      let handle = active_handle memory.slots s.handle h at.first at.active in
      record {
        h = h;
        is = record {
          kept = kept user;
          made = ap (user_of (map (option_map kept) items)) e ∙ user_at k user is;
          runs = somewhere.0;
          head = s.head;
          head' = number_map (λ (x : UserSegment). x.head) user.segments.items number ∙ ap (option_map (λ (x : UserSegment). x.head)) somewhere.1.1;
          handle = handle_is user.segments.items number s somewhere.1.1 ∙ handle;
          address = at.first;
          active = ap (presence memory.slots) (sym handle) ∙ at.active;
        };
        sum = at.sum;
        inside = at.inside;
      }

  item_of : (k : ℕ) (one : LoadedUser) → slice_get (map (option_map kept) items) k ≡ Some (Some one) → (user : User) × (slice_get items k ≡ Some (Some user)) × (kept user ≡ one)
  item_of k one is = go (slice_get items k) refl (sym (slice_get-map (option_map kept) items k) ∙ is)
    where
      go : (o : Option (Option User)) → slice_get items k ≡ o → option_map (option_map kept) o ≡ Some (Some one) → (user : User) × (slice_get items k ≡ Some (Some user)) × (kept user ≡ one)
      go None e f = absurd cc
      go (Some None) e f = absurd cc
      go (Some (Some user)) e f = (user, e, same_Some (kept user) one (same_Some (Some (kept user)) (Some one) f))

  numbered : (segments : List UserSegment) (number : ℕ) (head : SegmentHead) → at_number (map (λ (x : UserSegment). x.head) segments) number ≡ Some head → (s : UserSegment) × (at_number segments number ≡ Some s) × (s.head ≡ head)
  numbered segments number head is = go (at_number segments number) refl (sym (number_map (λ (x : UserSegment). x.head) segments number) ∙ is)
    where
      go : (o : Option UserSegment) → at_number segments number ≡ o → option_map (λ (x : UserSegment). x.head) o ≡ Some head → (s : UserSegment) × (at_number segments number ≡ Some s) × (s.head ≡ head)
      go None e f = absurd cc
      go (Some s) e f = (s, e, same_Some s.head head f)

  at_place : (segments : List UserSegment) (number : ℕ) (s : UserSegment) → at_number segments number ≡ Some s → (k : ℕ) × (slice_get segments k ≡ Some s) × (k < length segments)
  at_place segments zero s is = absurd cc
  at_place segments (suc k) s is = (k, is, slice_get_within segments k s is)

  -- where it lies in no segment of the user of an ID under a handle, it lies in none of that handle's with that ID
  pub lies_nowhere : (h : Handle) (address id : ℕ) → IsNowhereFor memory.slots items h address id → (number offset : ℕ) → (lies : LiesIn (loaded memory items) address id number offset) → lies.h ≢ h
  lies_nowhere h address id nowhere number offset lies same =
      let is = lies.is in
      let both = made_at (map (option_map kept) items) id is.kept is.made in
      let item = item_of (id - first_id) is.kept both.0 in
      let user = item.0 in
      let found = numbered user.segments.items number is.head (ap (λ (x : LoadedUser). at_number x.heads number) item.2 ∙ is.head') in
      let s = found.0 in
      let place = at_place user.segments.items number s found.1 in
      let handle : s.handle ≡ Some h = sym (handle_is user.segments.items number s found.1) ∙ ap (λ (x : LoadedUser). handle_at x.handles number) item.2 ∙ is.handle ∙ ap (λ (k : Handle). Some k) same in
      let inside : offset < s.head.length = omega (arith, lies.inside, ap (λ (x : SegmentHead). x.length) found.2) in
      nowhere (Some user) (omega (arith, both.1)) item.1 (ap (λ (x : LoadedUser). x.life) item.2 ∙ is.runs)
      place.0 s offset place.2 place.1 (record { first = is.address; active = subst (λ (k : Handle). presence memory.slots s.handle ≡ Active k is.address) same (ap (presence memory.slots) (handle ∙ ap (λ (k : Handle). Some k) (sym same)) ∙ is.active); sum = lies.sum; inside = inside })

  module _ (sound : IsSound memory (map (option_map kept) items)) (address : ℕ) where
    pub none_held : ((h : Handle) → ¬ Has memory.slots address h) → (id number offset : ℕ) → ¬ LiesIn (loaded memory items) address id number offset
    none_held none id number offset lies = none lies.h (lies_block (loaded memory items) sound address id number offset lies).0

    same_user : (o : Option Block) (user id : ℕ) → IsSomeAnd o (λ block. block.user ≡ user) → IsSomeAnd o (λ block. block.user ≡ id) → user ≡ id
    same_user None user id one two = absurd one
    same_user (Some block) user id one two = sym one ∙ two

    pub none_owned : (h : Handle) → IsHolder memory.slots address h → (user : ℕ) → IsSomeAnd (get memory.slots h) (λ block. block.user ≡ user) → IsNowhereFor memory.slots items h address user
        → (id number offset : ℕ) → ¬ LiesIn (loaded memory items) address id number offset
    none_owned h holder user owner nowhere id number offset lies =
        let block = lies_block (loaded memory items) sound address id number offset lies in
        let one : IsSomeAnd (get memory.slots h) (λ block. block.user ≡ id) = subst (λ k. IsSomeAnd (get memory.slots k) (λ block. block.user ≡ id)) (holder.only lies.h block.0) block.1 in
        let same : user ≡ id = same_user (get memory.slots h) user id owner one in
        lies_nowhere h address id (subst (λ n. IsNowhereFor memory.slots items h address n) same nowhere) number offset lies (holder.only lies.h block.0)

    pub lies_owned : (h : Handle) (user number offset : ℕ) → IsSomewhere memory.slots items h address user number offset → LiesIn (loaded memory items) address user number offset
    lies_owned h user number offset there = lies_there h there.place user address number offset there.user there.is there.id_is there.lies

  -- what a sound loader's users keep
  pub short_users : IsSound memory (map (option_map kept) items) → (k : ℕ) (one : User) → slice_get items k ≡ Some (Some one) → length one.segments.items < 2 ^ 16
  short_users sound k one is =
      let made : slice_get (map (option_map kept) items) k ≡ Some (Some (kept one)) = slice_get-map (option_map kept) items k ∙ ap (option_map (option_map kept)) is in
      omega (arith, sound.short k (kept one) made, length-map one.segments.items (λ (x : UserSegment). x.head))
