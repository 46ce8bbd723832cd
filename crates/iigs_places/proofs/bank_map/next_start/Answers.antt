use Rattle.std.proofs.Common.{◌≡◌, ◌+◌, ◌≤◌, ◌*◌, true, false, refl, sym, ◌∙◌, arith}
use Rattle.iigs_places.specs.Offsets.{bytes_below, is_named}
use Rattle.iigs_places.proofs.Counts.{bytes_below-suc, bytes_below_le}
use Rattle.iigs_places.proofs.bank_map.next_start.Goals as goal

pub overflow_add-result : goal.overflow_add-result
overflow_add-result c =
    let le : bytes_below c.args.banks.now c.args.bank ≤ 0x10000 * c.args.bank = bytes_below_le c.args.banks.now c.args.bank in
    omega (arith, c.requires.start)

pub returns-then-is_named : goal.returns-then-is_named
returns-then-is_named c =
    let named : is_named c.args.banks.now c.args.bank ≡ true = sym c.is_named.ensures ∙ c.if-is_named.true in
    let next : bytes_below c.args.banks.now (c.args.bank + 1) ≡ bytes_below c.args.banks.now c.args.bank + 0x10000 = bytes_below-suc c.args.banks.now c.args.bank ∙ rw named refl in
    rw c.requires.start (sym next)

pub returns : goal.returns
returns c =
    let named : is_named c.args.banks.now c.args.bank ≡ false = sym c.is_named.ensures ∙ c.if-is_named.false in
    let next : bytes_below c.args.banks.now (c.args.bank + 1) ≡ bytes_below c.args.banks.now c.args.bank + 0 = bytes_below-suc c.args.banks.now c.args.bank ∙ rw named refl in
    omega (arith, c.requires.start)
