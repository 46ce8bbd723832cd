use Rattle.std.proofs.Common.{◌≡◌, length, refl, sym, ap, subst, ◌∙◌}
use Rattle.link_meaning.specs.laws.Steps.{aligned_from}
use Rattle.std.specs.Vec.{with_item}
use Rattle.std.proofs.lemmas.Option.{slice_get_read}
use Rattle.omf_format.specs.Header.{HeaderFields, alignment_of}
use Rattle.link_tables.specs.declared.layout.LoadOffset.{LoadOffset}
use Rattle.link_tables.specs.declared.layout.LinkLayout.{LinkLayout}
use Rattle.link_tables.specs.Laid.{IsJoined, conflict_with}
use Rattle.link_tables.proofs.LaidLaws.{laid_same}
use Rattle.link_tables.proofs.layout.LinkLayout.join.Goals as goal

pub returns : goal.returns
returns c = λ list m at same named laid.
    let old = c.args.self.now in
    let new : LinkLayout = record { names = old.names; loads = with_item old.loads c.args.load c.load_with_member.result; places = c.push.new.self; conflict = c.conflict_with-self.result } in
    let place : LoadOffset = record { load = c.args.load; offset = c.align_up-offset.result } in
    let was = c.index-old.result.now in
    let there = slice_get_read old.loads.items (length old.loads.items) c.args.load was refl c.requires c.index-old.ensures in
    let offset : c.align_up-offset.result ≡ aligned_from (alignment_of m.segment.fields.align) was.length =
    c.align_up-offset.ensures.value ∙ ap (λ n. aligned_from n was.length) (c.alignment.ensures ∙ ap (λ (f : HeaderFields). alignment_of f.align) (sym same)) in
    laid_same list m old new c.args.spot c.args.load was c.load_with_member.result place laid named there at refl offset
    (subst (λ (f : HeaderFields). IsJoined f c.align_up-offset.result was c.load_with_member.result) (sym same) c.load_with_member.ensures) refl c.in_ok-push.ensures.items
    (c.conflict_with-self.ensures ∙ ap (λ (f : HeaderFields). conflict_with old.conflict f.org c.args.spot) (sym same)) refl
