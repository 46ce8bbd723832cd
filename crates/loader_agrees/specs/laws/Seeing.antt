-- The machine and a loader that agrees with it see a user alike.
use Rattle.std.proofs.Common.{◌≡◌, ℕ, zero, suc, Bool, true, false, cond, ◌+◌, ◌-◌, ◌<◌, ◌≤◌, List, length, map, Option, Some, None, IsSome, nat_lt, refl, sym, ap, subst, ◌∙◌, arith}
use Rattle.std.specs.Prelude.{slice_get, option_map}
use Rattle.std.specs.Option.{option_and_then}
use Rattle.std.proofs.lemmas.Option.{slice_get-map, slice_get_within}
use Rattle.loader_agrees.specs.laws.Lists.{get_inside}
use Rattle.omf_format.specs.File.{Segment}
use Rattle.omf_io.specs.Files.{FileMap}
use Rattle.iigs_meaning.specs.declared.handles.Handle.{Handle}
use Rattle.iigs_meaning.specs.declared.wants.Block.{Block}
use Rattle.iigs_meaning.specs.Slots.{get}
use Rattle.iigs_meaning.specs.Memory.{bytes_at}
use Rattle.loader_machine.specs.declared.faults.LoaderFault.{LoaderFault}
use Rattle.loader_machine.specs.declared.seen.SegmentHead.{SegmentHead}
use Rattle.loader_machine.specs.declared.seen.Presence.TheVariants.{Active}
use Rattle.iigs_meaning.specs.Fits.{Slots}
use Rattle.loader_machine.specs.Heads.{head_of}
use Rattle.loader_machine.specs.State.{User, Machine, UserSeen, first_id, user_of, handles_of}
use Rattle.loader_machine.specs.Presences.{handle_at, presence, lies_in, lies_at}
use Rattle.loader_machine.specs.Found.{HoldsLoad}
use Rattle.loader_machine.specs.Refusals.{Refuse}
use Rattle.loader_machine.specs.Steps as steps
use Rattle.loader_machine.specs.Commands.{Reply, Refused}
use Rattle.loader_machine.specs.Steps.{IsSeen, Does}
use Rattle.loader_agrees.specs.Agrees.{LoadedUser, Loaded, Outline, outline, outline_of, seen_in, seen_by, UserAgrees, Agrees, IsOf, Has, IsSound}
use Rattle.loader_agrees.specs.laws.Words.{far_in}
use Rattle.loader_agrees.specs.Acts.{IsActive}

-- ---- users by ID

pub user_is : {K U : Type 0} (f : K → U) (users : List (Option K)) (id : ℕ) → user_of (map (option_map f) users) id ≡ option_map f (user_of users id)
user_is {K} {U} f users id = go (nat_lt id first_id)
  where
    inner : (o : Option (Option K)) → option_and_then (λ (u : Option U). u) (option_map (option_map f) o) ≡ option_map f (option_and_then (λ (u : Option K). u) o)
    inner None = refl
    inner (Some None) = refl
    inner (Some (Some k)) = refl

    go : (b : Bool) → cond b None (option_and_then (λ (u : Option U). u) (slice_get (map (option_map f) users) (id - first_id))) ≡ option_map f (cond b None (option_and_then (λ (u : Option K). u) (slice_get users (id - first_id))))
    go true = refl
    go false = ap (option_and_then (λ (u : Option U). u)) (slice_get-map (option_map f) users (id - first_id)) ∙ inner (slice_get users (id - first_id))

pub made_at : {U : Type 0} (users : List (Option U)) (id : ℕ) (user : U) → user_of users id ≡ Some user → (slice_get users (id - first_id) ≡ Some (Some user)) × (first_id + (id - first_id) ≡ id)
made_at {U} users id user is = go (nat_lt id first_id) refl is
  where
    inner : (o : Option (Option U)) → option_and_then (λ (u : Option U). u) o ≡ Some user → o ≡ Some (Some user)
    inner None e = absurd cc
    inner (Some None) e = absurd cc
    inner (Some (Some u)) e = cc

    go : (b : Bool) → nat_lt id first_id ≡ b → cond b None (option_and_then (λ (u : Option U). u) (slice_get users (id - first_id))) ≡ Some user → (slice_get users (id - first_id) ≡ Some (Some user)) × (first_id + (id - first_id) ≡ id)
    go true lt e = absurd cc
    go false ge e = let le : first_id ≤ id = grind arith in (inner (slice_get users (id - first_id)) e, omega arith)

pub same_outlines : (held : FileMap) (loader : Loaded) (state : Machine) → Agrees held loader state → (id : ℕ) → option_map outline (user_of loader.users id) ≡ option_map outline_of (user_of state.users id)
same_outlines held loader state agrees id = sym (user_is outline loader.users id) ∙ ap (λ (us : List (Option Outline)). user_of us id) agrees.users ∙ user_is outline_of state.users id

-- ---- what is seen

module _ (held : FileMap) (loader : Loaded) (state : Machine) (agrees : Agrees held loader state) (id : ℕ) where
  -- a user of the loader is one of the state
  pub record IsKept (kept : LoadedUser) : Type 0 where
    pub user : User
    pub made : user_of state.users id ≡ Some user
    pub does_agree : UserAgrees held loader.memory (far_in loader id) id kept user

  pub kept_is : (kept : LoadedUser) → user_of loader.users id ≡ Some kept → IsKept kept
  kept_is kept is = go (user_of state.users id) refl
    where
      outlines : (o : Option User) → user_of state.users id ≡ o → Some (outline kept) ≡ option_map outline_of o
      outlines o e = ap (option_map outline) (sym is) ∙ same_outlines held loader state agrees id ∙ ap (option_map outline_of) e

      go : (o : Option User) → user_of state.users id ≡ o → IsKept kept
      go None e = let clash = outlines None e in absurd cc
      go (Some user) e =
          let one = made_at loader.users id kept is in
          let two = made_at state.users id user e in
          record { user = user; made = e; does_agree = subst (λ (n : ℕ). UserAgrees held loader.memory (far_in loader n) n kept user) one.1 (agrees.each (id - first_id) kept user one.0 two.0) }

  seen_same : (kept : LoadedUser) (user : User) (segments : List Segment) → outline kept ≡ outline_of user → kept.heads ≡ map head_of segments → seen_in kept ≡ steps.seen_of user segments
  seen_same kept user segments same heads =
      let life : kept.life ≡ user.life = ap (λ (o : Outline). o.life) same in
      let handles : kept.handles ≡ handles_of user = ap (λ (o : Outline). o.handles) same in
      cc

  pub is_seen : IsSeen held state id (seen_by loader id)
  is_seen = go (user_of loader.users id) refl
    where
      none : (o : Option User) → None ≡ option_map outline_of o → o ≡ None
      none None e = refl
      none (Some user) e = absurd cc

      go : (o : Option LoadedUser) → user_of loader.users id ≡ o → IsSeen held state id (option_map seen_in o)
      go None e = none (user_of state.users id) (ap (option_map outline) (sym e) ∙ same_outlines held loader state agrees id)
      go (Some kept) e =
          let is = kept_is kept e in
          let path : kept.path ≡ is.user.path = ap (λ (o : Outline). o.path) is.does_agree.same in (
            record { user = is.user; made = is.made; segments = is.does_agree.segments; holds = subst (λ (p : List ℕ). HoldsLoad held p is.does_agree.segments) path is.does_agree.holds },
            seen_same kept is.user is.does_agree.segments is.does_agree.same is.does_agree.heads,
          )

  -- a call is refused as the step is
  pub refuses : (refusal : Option UserSeen → Refuse) (fault : LoaderFault) (Done : User → Type 0) → refusal (seen_by loader id) ≡ Some fault → Does held state id refusal (Refused fault) state Done
  refuses refusal fault Done is = record { seen = seen_by loader id; is_seen = is_seen; is = rw is (refl, refl) }

  pub does : (refusal : Option UserSeen → Refuse) (reply : Reply) (next : Machine) (Done : User → Type 0) → refusal (seen_by loader id) ≡ None
      → (user : User) → user_of state.users id ≡ Some user → Done user → Does held state id refusal reply next Done
  does refusal reply next Done is user made done = record { seen = seen_by loader id; is_seen = is_seen; is = rw is (user, made, done) }

-- ---- active segments

there : (slots : Slots) (h : Handle) (block : Block) (address : ℕ) → get slots h ≡ Some block → presence slots (Some h) ≡ Active h address → IsSome block.at
there slots h block address is active = go block.at (ap (lies_in h) (sym is) ∙ active)
  where
    go : (at : Option ℕ) → lies_at h at block.locked ≡ Active h address → IsSome at
    go None e = absurd cc
    go (Some a) e = refl

module _ (loader : Loaded) (sound : IsSound loader.memory loader.users) (id number : ℕ) (h : Handle) (is : IsActive loader id number h) where
  pub has : Has loader.users (id - first_id) number is.head h
  has = record { kept = is.kept; made = (made_at loader.users id is.kept is.made).0; head' = is.head'; handle = is.handle }

  pub its_block : IsOf loader.memory (first_id + (id - first_id)) is.head h
  its_block = sound.each (id - first_id) number is.head h has

  pub block_there : IsSome its_block.block.at
  block_there = there loader.memory.slots h its_block.block is.address its_block.live is.active

  -- an active segment's block has room for LENGTH bytes
  pub block_room : is.head.length ≤ length (bytes_at loader.memory h.slot)
  block_room = its_block.room block_there

-- each handle of a user is a segment's
pub has_any : (loader : Loaded) → IsSound loader.memory loader.users → (place : ℕ) (kept : LoadedUser) → slice_get loader.users place ≡ Some (Some kept) → (number : ℕ) (h : Handle)
    → handle_at kept.handles number ≡ Some h → (head : SegmentHead) × Has loader.users place number head h
has_any loader sound place kept made zero h is = absurd cc
has_any loader sound place kept made (suc k) h is =
    let inside : k < length kept.handles = in_list (slice_get kept.handles k) refl is in
    let found = get_inside kept.heads k (omega (arith, inside, sound.lengths place kept made)) in
    (found.0, record { kept = kept; made = made; head' = found.1; handle = is })
  where
    in_list : (o : Option (Option Handle)) → slice_get kept.handles k ≡ o → option_and_then (λ (handle : Option Handle). handle) o ≡ Some h → k < length kept.handles
    in_list None e is = absurd cc
    in_list (Some x) e is = slice_get_within kept.handles k x e
