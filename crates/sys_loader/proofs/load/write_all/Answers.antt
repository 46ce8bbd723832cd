use Rattle.std.proofs.Common.{ℕ, List, length, map, Option, sym, ap, subst, ◌∙◌}
use Rattle.loader_machine.specs.declared.seen.SegmentHead.{SegmentHead}
use Rattle.loader_machine.specs.Heads.{head_of, wants_of}
use Rattle.loader_machine.specs.State.{HeldSegment}
use Rattle.loader_machine.specs.Steps.{held_of_heads}
use Rattle.loader_agrees.specs.laws.Begun.{all_length}
use Rattle.loader_users.specs.Filling.{AreFilled}
use Rattle.loader_users.proofs.Written.{handles_of}
use Rattle.loader_users.proofs.Settling.{are_sound}
use Rattle.sys_loader.proofs.Beginning.{all_ready, settled}
use Rattle.sys_loader.proofs.load.write_all.Goals as goal

pub assign_handles-requires : goal.assign_handles-requires
assign_handles-requires c =
    let before = c.requires.placed.0 in
    all_length before.banks c.args.user before.slots c.args.banks.now.slots (wants_of (map head_of c.args.load.now)) c.args.handles.now c.requires.placed.1.puts
    ∙ ap (λ (gs : List SegmentHead). length (wants_of gs)) (sym c.requires.heads)

pub fill_all-requires-clause-sound : goal.fill_all-requires-clause-sound
fill_all-requires-clause-sound c = are_sound c.requires.taken.0 c.args.load.now c.requires.taken.1

pub fill_all-requires-clause-ready : goal.fill_all-requires-clause-ready
fill_all-requires-clause-ready c =
    all_ready c.requires.placed.0 c.args.banks.now c.args.load.now c.args.handles.now c.args.user c.requires.placed.1 c.assign_handles.new.segments.items (c.assign_handles.ensures.heads ∙ c.requires.heads)
    (c.assign_handles.ensures.handles ∙ ap (λ (gs : List SegmentHead). map (λ (held : HeldSegment). held.handle) (held_of_heads gs c.args.handles.now)) c.requires.heads)

pub returns-clause-settled : goal.returns-clause-settled
returns-clause-settled c =
    let kept = c.assign_handles.new.segments.items in
    settled c.requires.taken.0 c.args.load.now c.args.handles.now c.args.user kept c.args.banks.now c.fill_all.new.banks c.requires.taken.1 (c.assign_handles.ensures.heads ∙ c.requires.heads)
    (c.assign_handles.ensures.handles ∙ ap (λ (gs : List SegmentHead). map (λ (held : HeldSegment). held.handle) (held_of_heads gs c.args.handles.now)) c.requires.heads)
    (subst (λ (places : List (Option ℕ)). AreFilled c.args.load.now (handles_of kept) c.args.user places c.args.banks.now c.fill_all.new.banks (length kept)) c.set_places.ensures c.fill_all.ensures)
