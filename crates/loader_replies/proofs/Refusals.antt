-- Replies and refusals other than `cannot read`.
use Rattle.std.proofs.Common.{◌≡◌, inl, inr, ℕ, true, false, cond, ◌+◌, Bool, Option, Some, None, Result, Ok, Err, refl, sym, ap, ◌∙◌}
use Rattle.std.specs.Prelude.{◌==◌, nat_le, IfErr}
use Rattle.std.proofs.lemmas.Option.{same_Some}
use Rattle.omf_format.specs.Header.{is_dynamic, is_skipped}
use Rattle.iigs_meaning.specs.declared.handles.Handle.{Handle}
use Rattle.iigs_meaning.specs.declared.wants.Want.{Want}
use Rattle.iigs_meaning.specs.declared.wants.Block.{Block}
use Rattle.iigs_meaning.specs.Slots.{get}
use Rattle.iigs_meaning.specs.Fits.{Slots}
use Rattle.iigs_meaning.specs.Memory.{Memory}
use Rattle.loader_machine.specs.declared.seen.SegmentHead.{SegmentHead}
use Rattle.loader_machine.specs.declared.faults.LoaderFault.{LoaderFault}
use Rattle.loader_machine.specs.declared.faults.LoaderFault.TheVariants as faults
use Rattle.loader_machine.specs.Heads.{at_number, is_table}
use Rattle.loader_machine.specs.State.{UserSeen, is_running, is_attached}
use Rattle.loader_machine.specs.Presences.{presence_at, is_active}
use Rattle.loader_machine.specs.Refusals.{Refuse, of_user, of_running, of_own, of_live, bytes_refusal, info_refusal, poke_refusal, unload_refusal, load_segment_refusal, restart_refusal, shut_down_refusal, purge_refusal, free_refusal, change_refusal, state_refusal}
use Rattle.loader_machine.specs.laws.Words.{of_head, of_there}
use Rattle.sys_loader.specs.declared.answers.Entered.{Entered}
use Rattle.sys_loader.specs.Replies.{done_reply, where_reply, IsAllocRefusal}
use Rattle.sys_loader.specs.Lives.{DidPoke, DidUnload, DidShutDown}
use Rattle.loader_agrees.specs.Agrees.{Loaded, kept_outlines, seen_by}
use Rattle.loader_replies.specs.Replied.{is_unread}
use Rattle.loader_replies.proofs.Words.{is_unread_fault}

pub where_safe : (o : Option Entered) → is_unread (where_reply o) ≡ false
where_safe None = refl
where_safe (Some entered) = refl

-- ---- refusals other than `cannot read`

abbrev Safe : Refuse → Type 0
Safe r = (why : LoaderFault) → r ≡ Some why → is_unread_fault why ≡ false

safe_some : (why : LoaderFault) → is_unread_fault why ≡ false → Safe (Some why)
safe_some why other f e = ap is_unread_fault (sym (same_Some why f e)) ∙ other

safe_none : Safe None
safe_none why e = absurd cc

safe_if : (b : Bool) (x y : Refuse) → Safe x → Safe y → Safe (cond b x y)
safe_if true x y p q = p
safe_if false x y p q = q

safe_user : (o : Option UserSeen) (rest : UserSeen → Refuse) → ((seen : UserSeen) → Safe (rest seen)) → Safe (of_user o rest)
safe_user None rest p = safe_some faults.NoUser refl
safe_user (Some seen) rest p = p seen

safe_head : (o : Option SegmentHead) (rest : SegmentHead → Refuse) → ((head : SegmentHead) → Safe (rest head)) → Safe (of_head o rest)
safe_head None rest p = safe_some faults.NoSegment refl
safe_head (Some head) rest p = safe_if (is_skipped head.kind) (Some faults.NoSegment) (rest head) (safe_some faults.NoSegment refl) (p head)

safe_live : (o : Option Block) (rest : Block → Refuse) → ((block : Block) → Safe (rest block)) → Safe (of_live o rest)
safe_live None rest p = safe_some faults.Stale refl
safe_live (Some block) rest p = p block

safe_there : (o : Option ℕ) (rest : Refuse) → Safe rest → Safe (of_there o rest)
safe_there None rest p = safe_some faults.Empty refl
safe_there (Some address) rest p = p

pub bytes_safe : (slots : Slots) (user : Option UserSeen) (number at count : ℕ) → Safe (bytes_refusal slots user number at count)
unfolding bytes_refusal
bytes_safe slots user number at count = safe_user user _ (λ seen.
    safe_if (is_running seen.life) _ (Some faults.NotRunning) (safe_head (at_number seen.heads number) _ (λ head.
    safe_if (is_active (presence_at slots seen.handles number)) _ (Some faults.NotActive)
    (safe_if (nat_le (at + count) head.length) None (Some faults.OutOfSegment) safe_none (safe_some faults.OutOfSegment refl)) (safe_some faults.NotActive refl))) (safe_some faults.NotRunning refl))

pub info_safe : (user : Option UserSeen) (number : ℕ) → Safe (info_refusal user number)
unfolding info_refusal
info_safe user number = safe_user user _ (λ seen. safe_head (at_number seen.heads number) _ (λ head. safe_none))

pub poke_safe : (slots : Slots) (user : Option UserSeen) (number at : ℕ) → Safe (poke_refusal slots user number at)
unfolding poke_refusal
poke_safe slots user number at = safe_user user _ (λ seen.
    safe_if (is_running seen.life) _ (Some faults.NotRunning) (safe_head (at_number seen.heads number) _ (λ head.
    safe_if (is_active (presence_at slots seen.handles number)) _ (Some faults.NotActive)
    (safe_if (is_table head) (Some faults.TableByte) _ (safe_some faults.TableByte refl)
    (safe_if (nat_le (at + 1) head.length) None (Some faults.OutOfSegment) safe_none (safe_some faults.OutOfSegment refl))) (safe_some faults.NotActive refl)))
    (safe_some faults.NotRunning refl))

pub unload_safe : (slots : Slots) (user : Option UserSeen) (number : ℕ) → Safe (unload_refusal slots user number)
unfolding unload_refusal
unload_safe slots user number = safe_user user _ (λ seen.
    safe_if (is_running seen.life) _ (Some faults.NotRunning) (safe_head (at_number seen.heads number) _ (λ head.
    safe_if (is_dynamic head.kind) _ (Some faults.Static)
    (safe_if (is_active (presence_at slots seen.handles number)) None (Some faults.NotActive) safe_none (safe_some faults.NotActive refl)) (safe_some faults.Static refl)))
    (safe_some faults.NotRunning refl))

pub segment_safe : (user : Option UserSeen) (number : ℕ) → Safe (load_segment_refusal user number)
unfolding load_segment_refusal
segment_safe user number = safe_user user _ (λ seen.
    safe_if (is_running seen.life) _ (Some faults.NotRunning) (safe_head (at_number seen.heads number) _ (λ head.
    safe_if (is_dynamic head.kind) None (Some faults.Static) safe_none (safe_some faults.Static refl)))
    (safe_some faults.NotRunning refl))

safe_own : (attached : Bool) (rest : Refuse) → Safe rest → Safe (of_own attached rest)
safe_own attached rest p = safe_if attached (Some faults.NoUser) rest (safe_some faults.NoUser refl) p

pub restart_safe : (attached : Bool) (user : Option UserSeen) → Safe (restart_refusal attached user)
unfolding restart_refusal
restart_safe attached user = safe_user user _ (λ seen.
    safe_own attached _ (safe_if (is_running seen.life) (Some faults.Running) None (safe_some faults.Running refl) safe_none))

pub shut_down_safe : (attached : Bool) (user : Option UserSeen) (keep : Bool) → Safe (shut_down_refusal attached user keep)
unfolding shut_down_refusal
shut_down_safe attached user keep = safe_user user _ (λ seen.
    safe_own attached _ (safe_if keep (of_running seen None) None (safe_if (is_running seen.life) None (Some faults.NotRunning) safe_none (safe_some faults.NotRunning refl)) safe_none))

pub purge_safe : (user : Option UserSeen) (id : ℕ) → Safe (purge_refusal user id)
unfolding purge_refusal
purge_safe user id = safe_if (id == 0) None _ safe_none (safe_user user _ (λ seen. safe_none))

-- why a call refuses, where that is reported with what it did
pub poke_why : (old new : Loaded) (id number at byte : ℕ) (done : Result (Unit {0}) LoaderFault) → DidPoke old id number at byte done new
    → IfErr done (λ why. poke_refusal old.memory.slots (seen_by old id) number at ≡ Some why)
poke_why old new id number at byte (Ok done) did = tt
poke_why old new id number at byte (Err why) did = did.0

pub unload_why : (old new : Loaded) (id number : ℕ) (done : Result (Unit {0}) LoaderFault) → DidUnload old id number done new
    → IfErr done (λ why. unload_refusal old.memory.slots (seen_by old id) number ≡ Some why)
unload_why old new id number (Ok done) did = tt
unload_why old new id number (Err why) did = did.0

pub shut_down_why : (old new : Loaded) (id : ℕ) (keep : Bool) (done : Result (Unit {0}) LoaderFault) → DidShutDown old id keep done new
    → IfErr done (λ why. shut_down_refusal (is_attached (kept_outlines old.users) id) (seen_by old id) keep ≡ Some why)
shut_down_why old new id keep (Ok done) did = tt
shut_down_why old new id true (Err why) did = did.0
shut_down_why old new id false (Err why) did = did.0

pub free_safe : (slots : Slots) (h : Handle) → Safe (free_refusal slots h)
unfolding free_refusal
free_safe slots h = safe_live (get slots h) _ (λ block. safe_if (block.user == 0) None (Some faults.LoaderOwned) safe_none (safe_some faults.LoaderOwned refl))

pub change_safe : (slots : Slots) (h : Handle) → Safe (change_refusal slots h)
unfolding change_refusal
change_safe slots h = safe_live (get slots h) _ (λ block.
    safe_if (block.user == 0) (of_there block.at None) (Some faults.LoaderOwned) (safe_there block.at None safe_none) (safe_some faults.LoaderOwned refl))

pub state_safe : (slots : Slots) (h : Handle) → Safe (state_refusal slots h)
unfolding state_refusal
state_safe slots h = safe_live (get slots h) _ (λ block. safe_none)

pub alloc_safe : (memory : Memory) (want : Want) (why : LoaderFault) → IsAllocRefusal memory want why → is_unread_fault why ≡ false
alloc_safe memory want why (inl full) = ap is_unread_fault full.0
alloc_safe memory want why (inr none) = ap is_unread_fault none.0

-- the reply of a call that reports nothing
pub done_safe : (done : Result (Unit {0}) LoaderFault) (refusal : Refuse) → Safe refusal → IfErr done (λ why. refusal ≡ Some why) → is_unread (done_reply done) ≡ false
done_safe (Ok done) refusal safe none = refl
done_safe (Err why) refusal safe none = safe why none
