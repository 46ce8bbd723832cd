use Rattle.std.proofs.Common.{◌≡◌, ◌+◌, ◌-◌, true, false, refl, sym, ◌∙◌, arith}
use Rattle.iigs_meaning.specs.Free.{free_end, first_free}
use Rattle.iigs_places.specs.Sizes.{free_below}
use Rattle.iigs_places.specs.Offsets.{is_named}
use Rattle.iigs_places.proofs.Counts.{free_below-suc}
use Rattle.iigs_places.proofs.bank_map.next_free.Goals as goal

pub returns-then-is_named-clause-value : goal.returns-then-is_named-clause-value
returns-then-is_named-clause-value c =
    let named : is_named c.args.banks.now c.args.bank ≡ true = sym c.is_named.ensures ∙ c.if-is_named.true in
    let next : free_below c.args.banks.now (c.args.bank + 1) ≡ free_below c.args.banks.now c.args.bank + (free_end c.args.bank - first_free c.args.bank) = free_below-suc c.args.banks.now c.args.bank ∙ rw named refl in
    rw (c.requires.total, c.free_bytes.ensures.value) (sym next)

pub returns-clause-value : goal.returns-clause-value
returns-clause-value c =
    let named : is_named c.args.banks.now c.args.bank ≡ false = sym c.is_named.ensures ∙ c.if-is_named.false in
    let next : free_below c.args.banks.now (c.args.bank + 1) ≡ free_below c.args.banks.now c.args.bank + 0 = free_below-suc c.args.banks.now c.args.bank ∙ rw named refl in
    omega (arith, c.requires.total)
