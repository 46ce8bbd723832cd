use Rattle.std.proofs.Common.{◌≡◌, ◌+◌, ◌-◌, ◌<◌, length, sym, ap, ◌∙◌, arith}
use Rattle.loader_machine.specs.Heads.{at_number}
use Rattle.loader_machine.specs.Presences.{handle_at}
use Rattle.loader_users.proofs.Written.{heads_of, handles_of, head_here, handle_here}
use Rattle.sys_loader.proofs.jsl.segment_in.Goals as goal

pub returns-clause-head : goal.returns-clause-head
returns-clause-head c =
    let items = c.args.user.now.segments.items in
    let k = c.from.result - 1 in
    let inside : k < length items = omega (arith, c.from.ensures, c.requires.some, c.requires.inside) in
    let number : k + 1 ≡ c.args.number = omega (arith, c.from.ensures, c.requires.some) in
    ap (at_number (heads_of items)) (sym number) ∙ head_here items k c.index.result.now inside c.index.ensures

pub returns-clause-handle : goal.returns-clause-handle
returns-clause-handle c =
    let items = c.args.user.now.segments.items in
    let k = c.from.result - 1 in
    let inside : k < length items = omega (arith, c.from.ensures, c.requires.some, c.requires.inside) in
    let number : k + 1 ≡ c.args.number = omega (arith, c.from.ensures, c.requires.some) in
    ap (handle_at (handles_of items)) (sym number) ∙ handle_here items k c.index.result.now inside c.index.ensures
