use Rattle.std.proofs.Common.{List, ℕ, Option, Some, map, subst, arith}
use Rattle.load_content.specs.Places.{Stands}
use Rattle.omf_c_files.proofs.Placed.{small_placed, all_placed, are_stood}
use Rattle.omf_c_files.proofs.parts.put_placed.Goals as goal

pub returns-then-room-length : goal.returns-then-room-length
returns-then-room-length c =
    small_placed c.args.load.now c.args.number c.args.addresses.now c.args.room.now c.args.size.now c.in-Some.found.0.now c.in-Some.ensures.shows
    (omega (arith, c.if-addresses-count.false, c.count.ensures)) c.if-room-length.true

pub returns : goal.returns
returns c =
    let shows = c.in-Some.ensures.shows in
    let places = map (λ (a : ℕ). Some a) c.args.addresses.now in
    let stood : Stands c.args.load.now c.args.number places c.patch_into.new.out =
    subst (λ (places : List (Option ℕ)). Stands c.args.load.now c.args.number places c.patch_into.new.out) c.in-Ok.ensures c.patch_into.ensures in
    all_placed c.args.load.now c.args.number c.args.addresses.now c.args.room.now c.args.size.now c.in-Some.found.0.now shows
    (omega (arith, c.if-addresses-count.false, c.count.ensures)) c.patch_into.new.out (omega (arith, c.if-room-length.false))
    (are_stood c.args.load.now c.args.number places c.in-Some.found.0.now c.patch_into.new.out shows stood)
