use Rattle.std.proofs.Common.{◌&&◌, ℕ, ◌<◌, Bool, List, [], true, length, get_or, nat_eq, ap, ◌∙◌, arith}
use Rattle.std.specs.Prelude.{if◌then◌else◌}
use Rattle.std.specs.Borrow.{Bor}
use Rattle.std.specs.Str.{bytes_eq}
use Rattle.link_tables.specs.Usings.{holds_name}
use Rattle.link_tables.proofs.UsingNames.{among_more}
use Rattle.link_tables.proofs.usings.add_each.Goals as goal

abbrev none : Bor (List ℕ)
none = record { ref_ptr = (0, 0); now = [] }

pub loop-name-preserved : goal.loop-name-preserved
loop-name-preserved c = λ other name.
    let names = c.args.names.now in
    let k = c.loop-name.name-index in
    let own = nat_eq c.args.place other in
    let less : k < length names = omega (arith, c.loop-name-test.true) in
    let last = get_or names k none in
    c.in_ok-insert.ensures.updates.0 (record { place = other; name = record last { now = name } })
    ∙ ap (λ (b : Bool). if (own && bytes_eq last.now name) then true else b) (c.loop-name.invariant other name)
    ∙ among_more own (holds_name c.args.each.now other name) names k none name less
