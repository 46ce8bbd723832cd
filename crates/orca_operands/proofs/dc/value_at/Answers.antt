use Rattle.std.proofs.Common.{sym, subst}
use Rattle.std.specs.Prelude.{IfNone}
use Rattle.orca_operands.specs.declared.element.ElementKind.{ElementKind}
use Rattle.orca_operands.specs.DcView.{HasNoValue}
use Rattle.orca_operands.specs.ElementView.{element_kind}
use Rattle.orca_operands.proofs.dc.value_at.Goals as goal

pub returns-in_ok-found-in-Number-clause-none : goal.returns-in_ok-found-in-Number-clause-none
returns-in_ok-found-in-Number-clause-none c =
    subst (λ (k : ElementKind). IfNone c.in_ok-found-in-Number.found (HasNoValue (element_kind k) c.args.text.bytes.now)) (sym c.in-Number.is) c.in_ok-found-in-Number.ensures.none

pub returns-in_ok-found-in-Hexadecimal-clause-none : goal.returns-in_ok-found-in-Hexadecimal-clause-none
returns-in_ok-found-in-Hexadecimal-clause-none c =
    subst (λ (k : ElementKind). IfNone c.in_ok-found-in-Hexadecimal.found (HasNoValue (element_kind k) c.args.text.bytes.now)) (sym c.in-Hexadecimal.is) c.in_ok-found-in-Hexadecimal.ensures.none

pub returns-in_ok-found-in-Binary-clause-none : goal.returns-in_ok-found-in-Binary-clause-none
returns-in_ok-found-in-Binary-clause-none c =
    subst (λ (k : ElementKind). IfNone c.in_ok-found-in-Binary.found (HasNoValue (element_kind k) c.args.text.bytes.now)) (sym c.in-Binary.is) c.in_ok-found-in-Binary.ensures.none

pub returns-in_ok-found-in-Characters-clause-none : goal.returns-in_ok-found-in-Characters-clause-none
returns-in_ok-found-in-Characters-clause-none c =
    subst (λ (k : ElementKind). IfNone c.in_ok-found-in-Characters.found (HasNoValue (element_kind k) c.args.text.bytes.now)) (sym c.in-Characters.is) c.in_ok-found-in-Characters.ensures.none

pub returns-in_ok-found-in-References-clause-none : goal.returns-in_ok-found-in-References-clause-none
returns-in_ok-found-in-References-clause-none c =
    subst (λ (k : ElementKind). IfNone c.in_ok-found-in-References.found (HasNoValue (element_kind k) c.args.text.bytes.now)) (sym c.in-References.is) c.in_ok-found-in-References.ensures.none

pub returns-in_ok-found-in-WeakReferences-clause-none : goal.returns-in_ok-found-in-WeakReferences-clause-none
returns-in_ok-found-in-WeakReferences-clause-none c =
    subst (λ (k : ElementKind). IfNone c.in_ok-found-in-WeakReferences.found (HasNoValue (element_kind k) c.args.text.bytes.now)) (sym c.in-WeakReferences.is) c.in_ok-found-in-WeakReferences.ensures.none
