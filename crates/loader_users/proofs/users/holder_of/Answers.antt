use Rattle.std.proofs.Common.{length, Some, refl, sym, ap, ◌∙◌, arith, map}
use Rattle.std.specs.Prelude.{option_map}
use Rattle.std.proofs.lemmas.Option.{slice_get_read, slice_get-map}
use Rattle.std.proofs.lemmas.List.{length-map}
use Rattle.loader_agrees.specs.Agrees.{outline}
use Rattle.loader_machine.specs.State.{holder_of}
use Rattle.loader_users.specs.View.{kept}
use Rattle.loader_users.proofs.Families.{holder_here, holder_next, holder_past}
use Rattle.loader_users.proofs.users.holder_of.Goals as goal

pub users-init : goal.users-init
users-init c = refl

pub file_of-requires : goal.file_of-requires
file_of-requires c k is =
    let items = c.args.users.now.items in
    let at = slice_get_read items (length items) c.users.place c.index.result.now refl (omega (arith, c.users-test.true, c.len-place-end.ensures)) c.index.ensures in
    c.requires.attached.few c.users.place k (slice_get-map (option_map kept) items c.users.place ∙ ap (option_map (option_map kept)) at ∙ ap (λ o. Some o) is)

pub returns-in-Some : goal.returns-in-Some
unfolding holder_of
returns-in-Some c =
    let items = c.args.users.now.items in
    let at = slice_get_read items (length items) c.users.place c.index.result.now refl (omega (arith, c.users-test.true, c.len-place-end.ensures)) c.index.ensures in
    sym (c.users.invariant ∙ holder_here (map (option_map kept) items) c.args.id c.users.place c.in-Some.file (option_map kept c.index.result.now)
    (slice_get-map (option_map kept) items c.users.place ∙ ap (option_map (option_map kept)) at) (sym c.file_of.ensures ∙ c.in-Some.is))

pub users-preserved : goal.users-preserved
users-preserved c =
    let items = c.args.users.now.items in
    let at = slice_get_read items (length items) c.users.place c.index.result.now refl (omega (arith, c.users-test.true, c.len-place-end.ensures)) c.index.ensures in
    c.users.invariant ∙ holder_next (map (option_map kept) items) c.args.id c.users.place (option_map kept c.index.result.now)
    (slice_get-map (option_map kept) items c.users.place ∙ ap (option_map (option_map kept)) at) (sym c.file_of.ensures ∙ c.in-None.is)

pub returns : goal.returns
unfolding holder_of
returns c =
    let items = c.args.users.now.items in
    sym (c.users.invariant ∙ holder_past (map (option_map kept) items) c.args.id c.users.place
    (omega (arith, c.users-test.false, c.len-place-end.ensures, length-map items (option_map kept), length-map (map (option_map kept) items) (option_map outline))))
