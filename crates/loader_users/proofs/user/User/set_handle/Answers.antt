use Rattle.std.proofs.Common.{◌≡◌, ◌<◌, ◌-◌, ℕ, List, length, Option, Some, ap, ◌∙◌, arith}
use Rattle.std.specs.Prelude.{slice_set, string_bytes}
use Rattle.iigs_meaning.specs.declared.handles.Handle.{Handle}
use Rattle.loader_machine.specs.declared.seen.SegmentHead.{SegmentHead}
use Rattle.loader_agrees.specs.Agrees.{LoadedUser}
use Rattle.loader_agrees.specs.laws.Lists.{set_map, set_same}
use Rattle.loader_users.specs.declared.user.UserSegment.{UserSegment}
use Rattle.loader_users.proofs.Comparing.{head_get}
use Rattle.loader_users.proofs.Written.{heads_of, handles_of}
use Rattle.loader_users.proofs.user.User.set_handle.Goals as goal

pub returns : goal.returns
returns c =
    let items = c.args.self.now.segments.items in
    let k = c.from-place.result - 1 in
    let one : UserSegment = record { handle = Some c.args.h; head = c.index.result.now.head } in
    let inside : k < length items = omega (arith, c.from-place.ensures, c.requires.some, c.requires.inside) in
    let made : List (Option Handle) → List SegmentHead → LoadedUser = λ hs gs. record { path = string_bytes c.args.self.now.path; life = c.args.self.now.life; handles = hs; heads = gs; attached = c.args.self.now.attached.items } in
    let handles : handles_of (slice_set items k one) ≡ slice_set (handles_of items) (c.args.number - 1) (Some c.args.h) =
    set_map (λ (s : UserSegment). s.handle) items k one ∙ ap (λ (n : ℕ). slice_set (handles_of items) (n - 1) (Some c.args.h)) c.from-place.ensures in
    let heads : heads_of (slice_set items k one) ≡ heads_of items =
    set_map (λ (s : UserSegment). s.head) items k one ∙ set_same (heads_of items) k c.index.result.now.head (head_get items k c.index.result.now inside c.index.ensures) in
    ap (λ (hs : List (Option Handle)). made hs (heads_of (slice_set items k one))) handles ∙ ap (made (slice_set (handles_of items) (c.args.number - 1) (Some c.args.h))) heads
