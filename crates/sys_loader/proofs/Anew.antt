-- A user that begins again in new blocks, as it is done.
use Rattle.std.proofs.Common.{◌≡◌, inl, inr, ℕ, true, false, ◌^◌, ◌<◌, List, length, map, Option, Some, None, Result, Ok, Err, refl, sym, ap, subst, ◌∙◌}
use Rattle.std.specs.Prelude.{IfOk, IfErr}
use Rattle.omf_format.specs.File.{Segment}
use Rattle.omf_io.specs.Counts.{IsFront}
use Rattle.load_meaning.specs.Loadable.{IsLoadable}
use Rattle.iigs_meaning.specs.declared.handles.Handle.{Handle}
use Rattle.iigs_meaning.specs.declared.wants.Want.{Want}
use Rattle.iigs_meaning.specs.Fits.{Slots}
use Rattle.iigs_meaning.specs.Puts.{without_user}
use Rattle.loader_machine.specs.Rule.{RoomRule}
use Rattle.iigs_meaning.specs.Memory.{Memory, AreAllPlaced, bytes_at}
use Rattle.loader_machine.specs.declared.faults.LoaderFault.{LoaderFault}
use Rattle.loader_machine.specs.declared.seen.SegmentHead.{SegmentHead}
use Rattle.loader_machine.specs.declared.seen.Life.TheVariants.{Running}
use Rattle.loader_machine.specs.Heads.{head_of, wants_of, entry_in}
use Rattle.loader_machine.specs.State.{no_pokes, with_user, with_all}
use Rattle.loader_machine.specs.Stands.{setting, stands, place_in}
use Rattle.loader_machine.specs.Steps.{lost_refusal}
use Rattle.loader_agrees.specs.Agrees.{LoadedUser, Loaded}
use Rattle.loader_agrees.specs.Acts.{started_kept}
use Rattle.loader_agrees.specs.laws.BegunSound.{rest_apart}
use Rattle.sys_loader.specs.declared.answers.Started.{Started}
use Rattle.loader_users.specs.declared.user.UserSegment as users
use Rattle.loader_users.specs.Planned.{spread_handles}
use Rattle.sys_loader.specs.Calls.{IsSettled, IsBeginRefusal}
use Rattle.loader_users.specs.Users.{with_life}
use Rattle.sys_loader.specs.Restarting.{is_whole, released_memory, HasBegunAnew, IsAgainRefusal, HasBegunFrom, IsOtherFile}
use Rattle.loader_users.specs.Users.{kept_heads}
use Rattle.loader_users.proofs.Written.{heads_of, handles_of}

-- what is placed in the place of all that a user has is placed where it has nothing
pub placed_freed : (memory middle : Memory) (id : ℕ) (wants : List Want) (hs : List Handle) → AreAllPlaced RoomRule memory id true wants hs middle → AreAllPlaced RoomRule (released_memory memory id) id false wants hs middle
placed_freed memory middle id wants hs placed = record {
  enough = placed.enough;
  puts = placed.puts;
  zeros = placed.zeros;
  kept = record { banks = placed.kept.banks; bytes = placed.kept.bytes };
}

module _ (old : Loaded) (middle new : Memory) (items : List users.UserSegment) (load : List Segment) (k : LoadedUser) (wants : List Want) (hs given : List Handle) (id : ℕ) (entry : Option ℕ) (short : length load < 2 ^ 16)
    (placed : AreAllPlaced RoomRule old.memory id true wants given middle) (wants_are : wants ≡ wants_of (map head_of load)) (hs_are : hs ≡ given) (is_settled : IsSettled load id hs middle new)
    (same : heads_of items ≡ map head_of load) (handles : handles_of items ≡ spread_handles load hs)
    (entry_is : entry ≡ entry_in (heads_of items) (place_in new.slots (handles_of items)) 1) where
  freed : AreAllPlaced RoomRule (released_memory old.memory id) id false (wants_of (map head_of load)) hs middle
  freed = placed_freed old.memory middle id (wants_of (map head_of load)) hs
      (subst (λ (ws : List Want). AreAllPlaced RoomRule old.memory id true ws hs middle) wants_are (subst (λ (given' : List Handle). AreAllPlaced RoomRule old.memory id true wants given' middle) (sym hs_are) placed))

  abbrev made : List (Option Handle) → List SegmentHead → LoadedUser
  made os gs = record { path = k.path; life = Running; handles = os; heads = gs; attached = k.attached }

  its_is : made (handles_of items) (heads_of items) ≡ record (started_kept k.path (map head_of load) hs) { attached = k.attached }
  its_is = ap (λ (os : List (Option Handle)). made os (heads_of items)) handles ∙ ap (made (spread_handles load hs)) same

  pub begun_anew : (users' : List (Option LoadedUser)) → users' ≡ with_all (with_life Running) (with_user old.users id (Some (record k { life = Running; handles = handles_of items; heads = heads_of items }))) k.attached
      → HasBegunAnew old id k load (record { user = id; entry = entry }) (record { memory = new; users = users' })
  begun_anew users' users_are = record {
    user = refl;
    placed = record {
      short = short;
      handles = hs;
      middle = middle;
      placed = freed;
      banks = is_settled.banks ∙ placed.kept.banks;
      slots = is_settled.slots;
      entry_is = entry_is ∙ ap (λ (gs : List SegmentHead). entry_in gs (place_in new.slots (handles_of items)) 1) same
          ∙ ap (λ (os : List (Option Handle)). entry_in (map head_of load) (place_in new.slots os) 1) handles;
      stay = λ j live. is_settled.stay j.slot (λ i h is. rest_apart old.memory.banks id (without_user old.memory.slots id) middle.slots (wants_of (map head_of load)) hs freed.puts j live i h is);
      begins = λ n s h there has. subst (λ (slots : Slots). IsFront (stands (setting id slots (spread_handles load hs)) no_pokes s) (bytes_at new h.slot)) (sym is_settled.slots) (is_settled.begins n s h there has);
      sizes = is_settled.sizes;
    };
    users' = users_are ∙ ap (λ (x : LoadedUser). with_all (with_life Running) (with_user old.users id (Some x)) k.attached) its_is;
  }

-- ---- a file that was read

module _ (file : List ℕ) (old : Loaded) (id : ℕ) (k : LoadedUser) (segments : List Segment) (taken : IsLoadable file segments) where
  pub begun_from : (new : Loaded) (r : Result Started LoaderFault) → lost_refusal (kept_heads old.users k.attached) segments ≡ None → map head_of segments ≡ k.heads
      → IfOk r (λ started. HasBegunAnew old id k segments started new) → IfOk r (λ started. HasBegunFrom file old id k started new)
  begun_from new (Ok started) none same did = (segments, taken, none, same, did)
  begun_from new (Err why) none same did = tt

  pub none_begins : (r : Result Started LoaderFault) → map head_of segments ≡ k.heads → is_whole old k ≡ false → IfErr r (IsBeginRefusal (released_memory old.memory id) id (map head_of segments)) → IfErr r (IsAgainRefusal file old id k)
  none_begins (Ok started) same gone none = tt
  none_begins (Err why) same gone none = inr (segments, taken, inr (same, gone, subst (λ (hs : List SegmentHead). IsBeginRefusal (released_memory old.memory id) id hs why) same none))

  pub again_other : (why : LoaderFault) → IsOtherFile old.users k segments why → IsAgainRefusal file old id k why
  again_other why is = inr (segments, taken, inl is)
