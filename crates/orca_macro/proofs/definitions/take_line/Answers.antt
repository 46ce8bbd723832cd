use Rattle.std.proofs.Common.{[], ◌∷◌, ap, sym, ◌∙◌, map}
use Rattle.std.proofs.lemmas.List.{map-append}
use Rattle.orca_text.specs.View.{line}
use Rattle.orca_macro.specs.Parts.{definition}
use Rattle.orca_macro.proofs.Scans.{outside_line, inside_line, end_line, bad_line}
use Rattle.orca_macro.proofs.definitions.take_line.Goals as goal

pub take_outside-requires-clause-own : goal.take_outside-requires-clause-own
take_outside-requires-clause-own c = c.requires.own c.args.at (line c.in-Some.line.now) c.in-Some.ensures.line

pub returns-in_default-begun-clause-ok : goal.returns-in_default-begun-clause-ok
returns-in_default-begun-clause-ok c = λ old is.
    outside_line c.args.in_source c.args.lines.now c.args.at (line c.in-Some.line.now) c.args.scan.now.plain old (map definition c.args.definitions.now.items) c.take_outside.new.scan.plain
    c.args.scan.now.begun c.take_outside.new.scan.begun c.in_default-begun.is is c.in-Some.ensures.line c.in_ok-take_outside.ensures.0 c.in_ok-take_outside.ensures.1

pub returns-then-not-operation_is-clause-ok : goal.returns-then-not-operation_is-clause-ok
returns-then-not-operation_is-clause-ok c = λ old is.
    inside_line c.args.in_source c.args.lines.now c.args.at (line c.in-Some.line.now) c.args.scan.now.plain old (map definition c.args.definitions.now.items)
    c.args.scan.now.begun c.in-Some-begun.begins c.in-Some-begun.is is c.in-Some.ensures.line (sym c.operation_is.ensures ∙ c.if-not-operation_is.true)

pub returns-in_ok-push-in-Ok-clause-ok : goal.returns-in_ok-push-in-Ok-clause-ok
returns-in_ok-push-in-Ok-clause-ok c = λ old is.
    end_line c.args.in_source c.args.lines.now c.args.at (line c.in-Some.line.now) c.args.scan.now.plain old (map definition c.args.definitions.now.items) c.args.scan.now.begun c.in-Some-begun.begins
    c.counts_after.result (line c.in-Some-get.first.now) c.in-Ok.d (map definition c.push.new.self.items) c.in-Some-begun.is c.counts_after.ensures is c.in-Some.ensures.line c.in-Some-get.ensures.line
    (sym c.operation_is.ensures ∙ c.if-not-operation_is.false)
    (rw c.in-Ok.is at (c.in_ok-d.ensures (line c.in-Some-get.first.now) (line c.in-Some.line.now) c.in-Some-get.ensures.line c.in-Some.ensures.line))
    (ap (map definition) c.in_ok-push-in-Ok.ensures.items ∙ map-append definition c.args.definitions.now.items (c.in-Ok.d ∷ []))

pub returns-in-Err-clause-ok : goal.returns-in-Err-clause-ok
returns-in-Err-clause-ok c = λ old is.
    bad_line c.args.in_source c.args.lines.now c.args.at (line c.in-Some.line.now) c.args.scan.now.plain old (map definition c.args.definitions.now.items) c.args.scan.now.begun c.in-Some-begun.begins
    c.counts_after.result (line c.in-Some-get.first.now) c.in-Err.fault c.in-Some-begun.is is c.in-Some.ensures.line c.in-Some-get.ensures.line
    (sym c.operation_is.ensures ∙ c.if-not-operation_is.false)
    (rw c.in-Err.is at (c.in_ok-d.ensures (line c.in-Some-get.first.now) (line c.in-Some.line.now) c.in-Some-get.ensures.line c.in-Some.ensures.line))
