use Rattle.std.proofs.Common.{◌≡◌, ◌∷◌, length, Some, sym, ap, ◌∙◌, arith}
use Rattle.orca_meaning.specs.Token.{name_at}
use Rattle.orca_operands.proofs.Listed.{some_list}
use Rattle.orca_operands.proofs.NamesListed.{name_shorter, reads_more, reads_none, reads_wrong}
use Rattle.orca_operands.proofs.lists.names_in.Goals as goal

pub returns-in_default-clause-none : goal.returns-in_default-clause-none
returns-in_default-clause-none c = reads_none c.args.text.bytes.now c.names.out.items c.names.left.now c.names.invariant (rw c.in_default.is at c.in_ok-name.ensures)

pub returns-in_default-after_byte-clause-none : goal.returns-in_default-after_byte-clause-none
returns-in_default-after_byte-clause-none c =
    reads_wrong c.args.text.bytes.now c.names.out.items c.names.left.now c.in-Some.rest.now c.in-Some.name c.names.invariant (rw c.in-Some.is at c.in_ok-name.ensures)
    (some_list c.in-Some.rest.now (sym c.is_empty.ensures ∙ c.if-is_empty.false)) c.in_default-after_byte.ensures

pub names-preserved : goal.names-preserved
names-preserved c =
    reads_more c.args.text.bytes.now c.names.out.items c.push.new.self.items c.names.left.now c.in-Some.rest.now c.in-Some-after_byte.following.now c.in-Some.name c.names.invariant (rw c.in-Some.is at c.in_ok-name.ensures)
    c.in_ok-push.ensures.items c.in-Some-after_byte.ensures

pub names-smaller : goal.names-smaller
names-smaller c =
    let here : name_at c.names.left.now ≡ Some (c.in-Some.name, c.in-Some.rest.now) = rw c.in-Some.is at c.in_ok-name.ensures in
    let comma : c.in-Some.rest.now ≡ 0x2C ∷ c.in-Some-after_byte.following.now = c.in-Some-after_byte.ensures in
    omega (arith, name_shorter c.names.left.now c.in-Some.name c.in-Some.rest.now here, ap length comma)
