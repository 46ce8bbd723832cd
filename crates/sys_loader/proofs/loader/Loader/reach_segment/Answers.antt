use Rattle.std.proofs.Common.{◌≡◌, length, Some, sym, ap, subst, ◌∙◌, arith}
use Rattle.std.specs.Prelude.{IsSomeAnd}
use Rattle.iigs_meaning.specs.Memory.{bytes_at}
use Rattle.loader_machine.specs.declared.seen.SegmentHead.{SegmentHead}
use Rattle.loader_machine.specs.State.{user_of}
use Rattle.loader_agrees.specs.Agrees.{Loaded}
use Rattle.loader_users.specs.View.{kept}
use Rattle.sys_loader.proofs.Reaching.{head_same, handle_same, entry_in, borrowed_here, enters_place, no_entry, names_one, calls_entry}
use Rattle.sys_loader.proofs.loader.Loader.reach_segment.Goals as goal

pub returns-then-not-is_table-clause-reached : goal.returns-then-not-is_table-clause-reached
returns-then-not-is_table-clause-reached c user segment at leads =
    let p = c.args.place in
    let made : user_of c.args.self.now.users p.user ≡ Some (kept c.user_in.result.now) = ap (λ (l : Loaded). user_of l.users p.user) (sym c.self.view_is) ∙ c.user_in.ensures in
    enters_place c.args.self.now user segment at p leads (kept c.user_in.result.now) made c.segment_in-found.result.head c.segment_in-found.ensures.head (sym c.is_table.ensures ∙ c.if-not-is_table.true)

pub returns-in-None-clause-refused : goal.returns-in-None-clause-refused
returns-in-None-clause-refused c user segment at leads =
    let p = c.args.place in
    let made : user_of c.args.self.now.users p.user ≡ Some (kept c.user_in.result.now) = ap (λ (l : Loaded). user_of l.users p.user) (sym c.self.view_is) ∙ c.user_in.ensures in
    no_entry c.args.self.now user segment at p leads (kept c.user_in.result.now) made c.segment_in-found.result.head c.segment_in-found.ensures.head (sym c.is_table.ensures ∙ c.if-not-is_table.false) c.in-None.ensures

pub target_at-target-requires : goal.target_at-target-requires
target_at-target-requires c =
    let p = c.args.place in
    let made : user_of c.args.self.now.users p.user ≡ Some (kept c.user_in.result.now) = ap (λ (l : Loaded). user_of l.users p.user) (sym c.self.view_is) ∙ c.user_in.ensures in
    let head = head_same c.args.self.now p.address p.user p.segment p.offset c.requires.lies (kept c.user_in.result.now) made c.segment_in-found.result.head c.segment_in-found.ensures.head in
    let handle = handle_same c.args.self.now p.address p.user p.segment p.offset c.requires.lies (kept c.user_in.result.now) made c.segment_in-found.result.handle c.segment_in-found.ensures.handle in
    let bytes = borrowed_here c.args.self.now p.address p.user p.segment p.offset c.requires.lies c.segment_in-found.result.handle c.block_of.result.now handle
    (subst (λ (l : Loaded). IsSomeAnd c.segment_in-found.result.handle (λ h. c.block_of.result.now ≡ bytes_at l.memory h.slot)) c.self.view_is c.block_of.ensures) in
    omega (arith, ap length bytes, entry_in c.args.self.now p.address p.user p.segment p.offset c.requires.lies c.recall_invariant.ensures c.in-Some.k c.segment_in-found.result.head.length (ap (λ (h : SegmentHead). h.length) head) c.in-Some.ensures.0)

pub named_by-requires : goal.named_by-requires
named_by-requires c =
    let p = c.args.place in
    let made : user_of c.args.self.now.users p.user ≡ Some (kept c.user_in.result.now) = ap (λ (l : Loaded). user_of l.users p.user) (sym c.self.view_is) ∙ c.user_in.ensures in
    names_one c.args.self.now p.address p.user p.segment p.offset c.requires.lies (kept c.user_in.result.now) made c.segment_in-found.result.head c.segment_in-found.ensures.head c.recall_invariant.ensures
    c.segment_in-found.result.handle c.segment_in-found.ensures.handle (sym c.is_table.ensures ∙ c.if-not-is_table.false) c.in-Some.k c.in-Some.ensures.0
    c.block_of.result.now (subst (λ (l : Loaded). IsSomeAnd c.segment_in-found.result.handle (λ h. c.block_of.result.now ≡ bytes_at l.memory h.slot)) c.self.view_is c.block_of.ensures)
    c.target_at-target.result c.target_at-target.ensures

pub returns-clause-reached : goal.returns-clause-reached
returns-clause-reached c user segment at leads =
    let p = c.args.place in
    let made : user_of c.args.self.now.users p.user ≡ Some (kept c.user_in.result.now) = ap (λ (l : Loaded). user_of l.users p.user) (sym c.self.view_is) ∙ c.user_in.ensures in
    calls_entry c.args.self.now user segment at p leads (kept c.user_in.result.now) made c.segment_in-found.result.head c.segment_in-found.ensures.head c.recall_invariant.ensures
    c.segment_in-found.result.handle c.segment_in-found.ensures.handle (sym c.is_table.ensures ∙ c.if-not-is_table.false) c.in-Some.k c.in-Some.ensures.0 c.in-Some.ensures.1
    c.block_of.result.now (subst (λ (l : Loaded). IsSomeAnd c.segment_in-found.result.handle (λ h. c.block_of.result.now ≡ bytes_at l.memory h.slot)) c.self.view_is c.block_of.ensures)
    c.target_at-target.result c.target_at-target.ensures c.named_by.result c.named_by.ensures
