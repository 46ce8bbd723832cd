use Rattle.std.proofs.Common.{◌≡◌, ◌++◌, ◌+◌, List, ℕ, replicate, ap, subst, arith}
use Rattle.std.specs.Borrow.{Bor}
use Rattle.load_writer.specs.Joined.{joined}
use Rattle.link_content.specs.Holding.{Holding, or_borrowed}
use Rattle.link_content.proofs.ZerosAfter.{settled_bytes, settled_patches, settled_some, on_ok}
use Rattle.link_content.proofs.content.LoadContent.append_patched.Goals as goal

pub invariant_of-self-2 : goal.invariant_of-self-2
invariant_of-self-2 c =
    let inside = c.self.inside in
    let own = inside.own.items in
    let new = c.own_bytes.new.own.items in
    let borrowed = joined inside.borrowed.items in
    let bytes = ap (λ (h : Holding). h.bytes) c.self.view_is in
    let settled = subst (λ (l : List (Bor (List ℕ))). new ≡ or_borrowed own (joined l) ++ replicate (inside.trailing_zeros + c.args.count) 0) c.as_slice.ensures.value c.in_ok-own_bytes.ensures.ok in (
      c.self.invariant.0,
      (λ none. absurd (settled_some own new borrowed inside.trailing_zeros c.args.count settled c.requires.some none)),
      settled_patches own new borrowed inside.trailing_zeros c.args.count c.args.self.now.bytes c.append_patch.result inside.patches.items c.append_patch.new.patches.items c.args.patch
          settled bytes c.requires.inside c.self.invariant.2 c.append_patch.ensures.ok c.append_patch.ensures.err,
      c.self.invariant.3,
      omega arith,
    )

pub returns-clause-bytes : goal.returns-clause-bytes
returns-clause-bytes c =
    let inside = c.self.inside in
    let own = inside.own.items in
    let new = c.own_bytes.new.own.items in
    let settled = subst (λ (l : List (Bor (List ℕ))). new ≡ or_borrowed own (joined l) ++ replicate (inside.trailing_zeros + c.args.count) 0) c.as_slice.ensures.value c.in_ok-own_bytes.ensures.ok in
    on_ok c.append_patch.result
    (settled_bytes own new (joined inside.borrowed.items) inside.trailing_zeros c.args.count c.args.self.now.bytes settled c.requires.some (ap (λ (h : Holding). h.bytes) c.self.view_is))
