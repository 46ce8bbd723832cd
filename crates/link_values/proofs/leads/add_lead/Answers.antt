use Rattle.std.proofs.Common.{◌≡◌, ◌++◌, ◌∷◌, [], ℕ, List, inl, refl, sym, ap, subst, ◌∙◌}
use Rattle.omf_expr.specs.View.{view}
use Rattle.omf_expr.specs.declared.term.Term as declared
use Rattle.link_meaning.specs.First.{IsIn}
use Rattle.link_meaning.specs.Cycles.{is_equate}
use Rattle.link_meaning.specs.Search.{FoundDefinition}
use Rattle.object_meaning.specs.Terms.{asks_value}
use Rattle.link_values.specs.Equates.{NameRow}
use Rattle.link_values.proofs.LeadLaws.{name_without, name_with, found_none, found_some, open_is, shut_is, named_asks}
use Rattle.link_values.proofs.leads.add_lead.Goals as goal

pub returns-in_ok-push-in-Some : goal.returns-in_ok-push-in-Some
returns-in_ok-push-in-Some c = λ m names there one row.
    let list = c.args.program.now in
    let place = c.args.place in
    let name = c.in-Named.name.now in
    let n = c.in-Some.number in
    let asks : asks_value (view c.args.term) ≡ name ∷ [] = ap (λ (t : declared.Term). asks_value (view t)) c.in-Named.is ∙ named_asks c.in-Named.code name c.if-code-le131.true in
    let asked = subst (λ (l : List (List ℕ)). IsIn l name) (sym asks) (inl refl) in
    let f = found_some list place m name n there c.in-Some.ensures in
    subst (λ (l : List (List ℕ)). NameRow list place m (names ++ l) c.push.new.self.items) (sym asks) (subst (NameRow list place m (names ++ name ∷ [])) (sym c.in_ok-push-in-Some.ensures.items)
    (name_with list place m names name c.args.row.now.items n f.0 f.1 (open_is list c.args.slots.now n f.0 c.requires f.1 c.if-is_open.ensures.holds) f.2 (λ g is. one name f.0 g asked f.2 is) row))

pub returns-else-is_open : goal.returns-else-is_open
returns-else-is_open c = λ m names there one row.
    let list = c.args.program.now in
    let place = c.args.place in
    let name = c.in-Named.name.now in
    let n = c.in-Some.number in
    let asks : asks_value (view c.args.term) ≡ name ∷ [] = ap (λ (t : declared.Term). asks_value (view t)) c.in-Named.is ∙ named_asks c.in-Named.code name c.if-code-le131.true in
    let asked = subst (λ (l : List (List ℕ)). IsIn l name) (sym asks) (inl refl) in
    let f = found_some list place m name n there c.in-Some.ensures in
    subst (λ (l : List (List ℕ)). NameRow list place m (names ++ l) c.args.row.now.items) (sym asks)
    (name_without list place m names name c.args.row.now.items (λ g is equate. shut_is list c.args.slots.now n f.0 c.requires f.1 (c.if-is_open.ensures.fails refl) (ap (λ (x : FoundDefinition). is_equate x) (one name f.0 g asked f.2 is) ∙ equate)) row)

pub returns-in-None : goal.returns-in-None
returns-in-None c = λ m names there one row.
    let list = c.args.program.now in
    let place = c.args.place in
    let name = c.in-Named.name.now in
    let asks : asks_value (view c.args.term) ≡ name ∷ [] = ap (λ (t : declared.Term). asks_value (view t)) c.in-Named.is ∙ named_asks c.in-Named.code name c.if-code-le131.true in
    subst (λ (l : List (List ℕ)). NameRow list place m (names ++ l) c.args.row.now.items) (sym asks)
    (name_without list place m names name c.args.row.now.items (λ g is equate. found_none list place m name there c.in-None.ensures g is equate) row)
