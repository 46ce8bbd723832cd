use Rattle.std.proofs.Common.{◌≡◌, ℕ, List, ap, ◌∙◌, arith}
use Rattle.loader_agrees.specs.Agrees.{Loaded}
use Rattle.std.specs.Prelude.{length}
use Rattle.iigs_meaning.specs.Memory.{bytes_at}
use Rattle.sys_loader.proofs.Script.{can_slice}
use Rattle.sys_loader.proofs.loader.Loader.borrow_bytes.Goals as goal

pub slice-requires : goal.slice-requires
slice-requires c =
    let within = can_slice c.args.self.now c.args.user c.args.segment c.args.at c.args.count c.in_ok-h.h c.recall_invariant.ensures c.in_ok-h.ensures.can in
    let same : c.in-Ok.bytes.now ≡ bytes_at c.args.self.now.memory c.in_ok-h.h.slot = c.in-Ok.ensures.borrowed.is ∙ ap (λ (l : Loaded). bytes_at l.memory c.in_ok-h.h.slot) c.self.view_is in
    omega (arith, within, ap (λ (bs : List ℕ). length bs) same)
