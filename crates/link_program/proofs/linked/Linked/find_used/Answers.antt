use Rattle.std.proofs.Common.{◌≡◌, ℕ, ◌<◌, List, [], length, get_or, Some, arith}
use Rattle.std.specs.Prelude.{slice_get}
use Rattle.std.specs.Borrow.{Bor}
use Rattle.link_meaning.specs.declared.search.SearchStep.TheVariants.{Within}
use Rattle.link_meaning.specs.Search.{FoundDefinition, entries, with_this_name}
use Rattle.link_tables.specs.declared.names.Matches.TheVariants.{Nothing, One, Several}
use Rattle.link_program.proofs.SearchLaws.{seen_definitions, reported_titles, used_found, used_empty, used_other, one_some, several_some, nothing_one, several_one}
use Rattle.link_program.proofs.linked.Linked.find_used.Goals.{in-One+in-Nothing-look, in-Nothing, in-Several}
use Rattle.link_program.proofs.linked.Linked.find_used.Goals as goal

abbrev none : Bor (List ℕ)
none = record { ref_ptr = (0, 0); now = [] }

pub returns-in-One-look : goal.returns-in-One-look
returns-in-One-look c = λ list m holds of.
    let fs = entries list in
    let T : FoundDefinition → ℕ → Type 0 = λ f number. slice_get fs number ≡ Some f in
    let less : c.loop-using.using-index < length c.args.usings.now = omega (arith, c.loop-using-test.true) in
    let seen = seen_definitions fs (Within c.in-One.data) c.args.name.now c.look.result (One c.in-One-look.first) (c.look.ensures fs holds.definitions) c.in-One-look.is in
    let titles = reported_titles list m (get_or c.args.usings.now c.loop-using.using-index none).now c.find_data.result (One c.in-One.data) c.in-One.is (c.find_data.ensures list m holds of) in
    used_found T list m c.args.usings.now c.loop-using.using-index none (with_this_name c.args.name.now fs) c.in-One.data (One c.in-One-look.first) less titles (c.loop-using.invariant list m holds of) seen (one_some c.in-One-look.first)

pub returns-in-Several-look : goal.returns-in-Several-look
returns-in-Several-look c = λ list m holds of.
    let fs = entries list in
    let T : FoundDefinition → ℕ → Type 0 = λ f number. slice_get fs number ≡ Some f in
    let less : c.loop-using.using-index < length c.args.usings.now = omega (arith, c.loop-using-test.true) in
    let seen = seen_definitions fs (Within c.in-One.data) c.args.name.now c.look.result (Several c.in-Several-look.first) (c.look.ensures fs holds.definitions) c.in-Several-look.is in
    let titles = reported_titles list m (get_or c.args.usings.now c.loop-using.using-index none).now c.find_data.result (One c.in-One.data) c.in-One.is (c.find_data.ensures list m holds of) in
    used_found T list m c.args.usings.now c.loop-using.using-index none (with_this_name c.args.name.now fs) c.in-One.data (Several c.in-Several-look.first) less titles (c.loop-using.invariant list m holds of) seen (several_some c.in-Several-look.first)

pub loop-using-preserved : goal.loop-using-preserved
loop-using-preserved c = λ list m holds of.
    let fs = entries list in
    let T : FoundDefinition → ℕ → Type 0 = λ f number. slice_get fs number ≡ Some f in
    let less : c.loop-using.using-index < length c.args.usings.now = omega (arith, c.loop-using-test.true) in
    let so_far = c.loop-using.invariant list m holds of in
    elim c.match-find_data.branch [
      | in-One+in-Nothing-look w ↦
          let seen = seen_definitions fs (Within w.in-One.data) c.args.name.now w.look.result Nothing (w.look.ensures fs holds.definitions) w.in-Nothing-look.is in
          let titles = reported_titles list m (get_or c.args.usings.now c.loop-using.using-index none).now c.find_data.result (One w.in-One.data) w.in-One.is (c.find_data.ensures list m holds of) in
          used_empty T list m c.args.usings.now c.loop-using.using-index none (with_this_name c.args.name.now fs) w.in-One.data less titles so_far seen
      | in-Nothing w ↦
          let titles = reported_titles list m (get_or c.args.usings.now c.loop-using.using-index none).now c.find_data.result Nothing w.in-Nothing.is (c.find_data.ensures list m holds of) in
          used_other list m c.args.usings.now c.loop-using.using-index none (with_this_name c.args.name.now fs) Nothing less titles nothing_one so_far
      | in-Several w ↦
          let titles = reported_titles list m (get_or c.args.usings.now c.loop-using.using-index none).now c.find_data.result (Several w.in-Several.field-0) w.in-Several.is (c.find_data.ensures list m holds of) in
          used_other list m c.args.usings.now c.loop-using.using-index none (with_this_name c.args.name.now fs) (Several w.in-Several.field-0) less titles (several_one w.in-Several.field-0) so_far
    ]
