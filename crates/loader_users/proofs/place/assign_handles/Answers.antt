use Rattle.std.proofs.Common.{ℕ, ◌+◌, Vec, Global, sym, subst, ◌∙◌}
use Rattle.loader_users.specs.declared.user.UserSegment.{UserSegment}
use Rattle.loader_users.proofs.Dealing.{Dealt, set_static, set_other, set_room}
use Rattle.loader_users.proofs.place.assign_handles.Goals.{then-is_static, else-is_static}
use Rattle.loader_users.proofs.place.assign_handles.Goals as goal

pub bounds-handles-next : goal.bounds-handles-next
bounds-handles-next c = set_room c.args.segments.now.items c.places.segments.items c.args.handles.now c.places.place c.places.next c.len-count.result c.index.result.now c.places.invariant c.places-test.true c.index.ensures
    (sym c.is_static.ensures ∙ c.if-is_static.true)

pub places-preserved : goal.places-preserved
places-preserved c = elim c.if-is_static.branch [
  | then-is_static w ↦
      (let step = set_static c.args.segments.now.items c.places.segments.items c.args.handles.now c.places.place c.places.next c.len-count.result c.index.result.now (record { slot = 0; generation = 0 })
      c.places.invariant c.places-test.true c.index.ensures (sym c.is_static.ensures ∙ w.if-is_static.true) in
      subst (λ (n : ℕ). Dealt c.args.segments.now.items c.args.handles.now (c.places.place + 1) n c.len-count.result c.if-is_static.segments.items) (sym w.next-is)
      (subst (λ (v : Vec UserSegment Global). Dealt c.args.segments.now.items c.args.handles.now (c.places.place + 1) (c.places.next + 1) c.len-count.result v.items) (sym w.segments-is) step))
  | else-is_static w ↦
      (let step = set_other c.args.segments.now.items c.places.segments.items c.args.handles.now c.places.place c.places.next c.len-count.result c.index.result.now
      c.places.invariant c.places-test.true c.index.ensures (sym c.is_static.ensures ∙ w.if-is_static.false) in
      subst (λ (n : ℕ). Dealt c.args.segments.now.items c.args.handles.now (c.places.place + 1) n c.len-count.result c.if-is_static.segments.items) (sym w.next-is)
      (subst (λ (v : Vec UserSegment Global). Dealt c.args.segments.now.items c.args.handles.now (c.places.place + 1) c.places.next c.len-count.result v.items) (sym w.segments-is) step))
]
