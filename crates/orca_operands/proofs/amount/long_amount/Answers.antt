use Rattle.std.proofs.Common.{map, ◌∷◌, refl, sym, ap, ◌∙◌}
use Rattle.std.specs.Prelude.{◌&&◌}
use Rattle.omf_expr.specs.View.{view}
use Rattle.orca_operands.specs.AmountView.{worth_view, is_number_term}
use Rattle.orca_operands.specs.NamesView.{constants}
use Rattle.orca_text.specs.View.{term}
use Rattle.orca_operands.proofs.Written.{first_put, first_number, others_open, amount_open, worth_apart, number_is, divided_is, open_is}
use Rattle.orca_operands.proofs.amount.long_amount.Goals as goal
use Rattle.orca_operands.proofs.amount.long_amount.Goals.{then-not-all-via-then-not-all, then-not-all-via-else-not-all+then-not-is_number_term}

pub returns-then-not-all : goal.returns-then-not-all
returns-then-not-all c = λ t tree is formula.
    amount_open (constants c.args.known) c.args.back (t ∷ map term c.args.others.now) c.put_terms.new.out.items
    (first_put (constants c.args.known) c.args.back t (view c.args.first) (map term c.args.others.now) c.new-out.result.items c.put_placed.new.out.items c.put_terms.new.out.items c.new-out.ensures.items is c.in_ok-put_placed.ensures c.in_ok-all.ensures.text)
    (first_number (constants c.args.known) t (view c.args.first) (map term c.args.others.now) (is_number_term (view c.args.first)) c.in_ok-all.all is refl c.in_ok-all.ensures.numbers
    ∙ elim c.then-not-all.branch [
      | then-not-all-via-then-not-all w ↦ others_open (is_number_term (view c.args.first)) c.in_ok-all.all w.if-not-all.true
      | then-not-all-via-else-not-all+then-not-is_number_term w ↦ ap (λ b. b && c.in_ok-all.all) (sym w.is_number_term.ensures ∙ w.if-not-is_number_term.true)
    ])
    tree formula

pub returns-in-Number : goal.returns-in-Number
returns-in-Number c = λ t tree is formula.
    number_is (constants c.args.known) c.args.back c.in-Number.n tree (sym (ap worth_view c.in-Number.is)
    ∙ worth_apart (constants c.args.known) c.args.back t (view c.args.first) (map term c.args.others.now) c.put_terms.new.out.items c.is_number_term.result c.in_ok-all.all _ tree
    (first_put (constants c.args.known) c.args.back t (view c.args.first) (map term c.args.others.now) c.new-out.result.items c.put_placed.new.out.items c.put_terms.new.out.items c.new-out.ensures.items is c.in_ok-put_placed.ensures c.in_ok-all.ensures.text)
    is c.is_number_term.ensures c.in_ok-all.ensures.numbers c.if-not-is_number_term.false c.if-not-all.false c.requires.first c.in_ok-all.ensures.fine c.in_ok-worth.ensures.value formula)

pub returns-in-Divided : goal.returns-in-Divided
returns-in-Divided c = λ t tree is formula.
    divided_is (constants c.args.known) c.args.back tree (sym (ap worth_view c.in-Divided.is)
    ∙ worth_apart (constants c.args.known) c.args.back t (view c.args.first) (map term c.args.others.now) c.put_terms.new.out.items c.is_number_term.result c.in_ok-all.all _ tree
    (first_put (constants c.args.known) c.args.back t (view c.args.first) (map term c.args.others.now) c.new-out.result.items c.put_placed.new.out.items c.put_terms.new.out.items c.new-out.ensures.items is c.in_ok-put_placed.ensures c.in_ok-all.ensures.text)
    is c.is_number_term.ensures c.in_ok-all.ensures.numbers c.if-not-is_number_term.false c.if-not-all.false c.requires.first c.in_ok-all.ensures.fine c.in_ok-worth.ensures.value formula)

pub returns-in-Open : goal.returns-in-Open
returns-in-Open c = λ t tree is formula.
    let text = first_put (constants c.args.known) c.args.back t (view c.args.first) (map term c.args.others.now) c.new-out.result.items c.put_placed.new.out.items c.put_terms.new.out.items c.new-out.ensures.items is c.in_ok-put_placed.ensures c.in_ok-all.ensures.text in
    open_is (constants c.args.known) c.args.back (t ∷ map term c.args.others.now) c.put_terms.new.out.items c.value_after.new.out.items tree text c.in_ok-worth.ensures.text formula (sym (ap worth_view c.in-Open.is)
    ∙ worth_apart (constants c.args.known) c.args.back t (view c.args.first) (map term c.args.others.now) c.put_terms.new.out.items c.is_number_term.result c.in_ok-all.all _ tree text
    is c.is_number_term.ensures c.in_ok-all.ensures.numbers c.if-not-is_number_term.false c.if-not-all.false c.requires.first c.in_ok-all.ensures.fine c.in_ok-worth.ensures.value formula)
