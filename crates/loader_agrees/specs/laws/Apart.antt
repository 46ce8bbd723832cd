-- A state with which a sound loader agrees is one whose blocks lie apart, and a purge makes room in one way.
use Rattle.std.proofs.Common.{◌≡◌, ℕ, ◌+◌, ◌-◌, ◌≤◌, List, Option, Some, None, refl, sym, ap, subst, ◌∙◌, arith}
use Rattle.std.specs.Prelude.{option_map}
use Rattle.std.proofs.lemmas.Option.{same_Some}
use Rattle.omf_format.specs.File.{Segment, segment_at}
use Rattle.omf_io.specs.Files.{FileMap}
use Rattle.iigs_meaning.specs.declared.handles.Handle.{Handle}
use Rattle.iigs_meaning.specs.declared.wants.Block.{Block}
use Rattle.iigs_meaning.specs.Slots.{get}
use Rattle.iigs_meaning.specs.Blocks.{AreApart}
use Rattle.loader_machine.specs.declared.seen.SegmentHead.{SegmentHead}
use Rattle.iigs_meaning.specs.Fits.{Slots}
use Rattle.loader_machine.specs.Rule.{RoomRule}
use Rattle.iigs_meaning.specs.laws.SlideRoomLaws.{purges_or_slides_once}
use Rattle.loader_machine.specs.Heads.{head_of, at_number}
use Rattle.loader_machine.specs.State.{User, Machine, first_id, user_of, handles_of}
use Rattle.loader_machine.specs.Presences.{handle_at}
use Rattle.loader_machine.specs.Found.{HoldsLoad}
use Rattle.loader_machine.specs.Steps.{Sees}
use Rattle.loader_machine.specs.laws.OnceLaws.{IsApartState, one_load, steps_once}
use Rattle.loader_agrees.specs.StepsOnce.{StepsOnce}
use Rattle.loader_agrees.specs.Agrees.{LoadedUser, Loaded, Outline, outline, outline_of, Agrees, Has, IsSound}
use Rattle.loader_agrees.specs.laws.Lists.{number_map}
use Rattle.loader_agrees.specs.laws.Seeing.{made_at, same_outlines, kept_is, has_any}

-- ---- agreement

module _ (held : FileMap) (loader : Loaded) (state : Machine) (agrees : Agrees held loader state) (sound : IsSound loader.memory loader.users) where
  -- a user of the state is one of the loader
  pub back : (id : ℕ) (user : User) → user_of state.users id ≡ Some user → (kept : LoadedUser) × (user_of loader.users id ≡ Some kept) × (kept.handles ≡ handles_of user)
  back id user is = go (user_of loader.users id) refl
    where
      outlines : (o : Option LoadedUser) → user_of loader.users id ≡ o → option_map outline o ≡ Some (outline_of user)
      outlines o e = ap (option_map outline) (sym e) ∙ same_outlines held loader state agrees id ∙ ap (option_map outline_of) is

      go : (o : Option LoadedUser) → user_of loader.users id ≡ o → (kept : LoadedUser) × (user_of loader.users id ≡ Some kept) × (kept.handles ≡ handles_of user)
      go None e = let clash = outlines None e in absurd cc
      go (Some kept) e = (kept, e, ap (λ (o : Outline). o.handles) (same_Some (outline kept) (outline_of user) (outlines (Some kept) e)))

  has_one : (id n : ℕ) (sees : Sees held state id) (h : Handle) → handle_at (handles_of sees.user) n ≡ Some h → (head : SegmentHead) × Has loader.users (id - first_id) n head h
  has_one id n sees h is =
      let kept = back id sees.user sees.made in
      has_any loader sound (id - first_id) kept.0 (made_at loader.users id kept.0 kept.1).0 n h (rw kept.2 is)

  id_is : (id : ℕ) → (sees : Sees held state id) → first_id + (id - first_id) ≡ id
  id_is id sees = (made_at state.users id sees.user sees.made).1

  its_want : (id n : ℕ) (sees : Sees held state id) (s : Segment) (h : Handle) (block : Block) → segment_at sees.segments n ≡ Some s → handle_at (handles_of sees.user) n ≡ Some h
      → get loader.memory.slots h ≡ Some block → s.fields.length ≤ block.want.size
  its_want id n sees s h block found is live =
      let kept = back id sees.user sees.made in
      let one = has_one id n sees h is in
      let is_of = sound.each (id - first_id) n one.0 h one.1 in
      let same : is_of.block ≡ block = same_Some is_of.block block (sym is_of.live ∙ live) in
      let in_state = kept_is held loader state agrees id kept.0 kept.1 in
      let user : in_state.user ≡ sees.user = same_Some in_state.user sees.user (sym in_state.made ∙ sees.made) in
      let path : kept.0.path ≡ sees.user.path = ap (λ (o : Outline). o.path) in_state.does_agree.same ∙ ap (λ (u : User). u.path) user in
      let segments = one_load held sees.user.path in_state.does_agree.segments sees.segments (subst (λ (p : List ℕ). HoldsLoad held p in_state.does_agree.segments) path in_state.does_agree.holds) sees.holds in
      let its_kept : one.1.kept ≡ kept.0 = kept_same one.1.kept kept.0 (sym one.1.made ∙ (made_at loader.users id kept.0 kept.1).0) in
      let facts : Some one.0 ≡ Some (head_of s) = sym one.1.head' ∙ ap (λ (k : LoadedUser). at_number k.heads n) its_kept ∙ ap (λ (fs : List SegmentHead). at_number fs n) in_state.does_agree.heads
      ∙ number_map head_of in_state.does_agree.segments n ∙ ap (λ (ss : List Segment). option_map head_of (segment_at ss n)) segments ∙ ap (option_map head_of) found in
      let f : one.0 ≡ head_of s = same_Some one.0 (head_of s) facts in
      omega (arith, is_of.want, ap (λ (x : SegmentHead). x.length) f, ap (λ (b : Block). b.want.size) same)
    where
      kept_same : (a b : LoadedUser) → Some (Some a) ≡ Some (Some b) → a ≡ b
      kept_same a b e = cc

  pub is_apart : AreApart loader.memory.banks loader.memory.slots → IsApartState held state
  is_apart apart = record {
    apart = rw (← agrees.banks, ← agrees.slots) apart;
    once = λ id other n m one two h k is is' same.
        let p = has_one id n one h is in
        let q = has_one other m two k is' in
        let both = sound.once (id - first_id) (other - first_id) n m p.0 q.0 h k p.1 q.1 same in
        (omega (arith, both.0, id_is id one, id_is other two), both.1);
    wide = λ id n sees s h block found is live. its_want id n sees s h block found is (ap (λ (t : Slots). get t h) agrees.slots ∙ live);
  }

-- in a state with which a sound loader agrees a command has one reply
pub steps_once_there : StepsOnce
steps_once_there held loader state agrees sound apart command one other next last p q =
    steps_once held state RoomRule purges_or_slides_once (is_apart held loader state agrees sound apart) command one other next last p q
