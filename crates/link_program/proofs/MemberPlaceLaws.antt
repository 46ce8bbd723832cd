-- Where members are.
use Rattle.std.proofs.Common.{◌≡◌, ℕ, List, Option, Some, None, refl, sym, ap, ◌∙◌}
use Rattle.std.specs.Prelude.{option_map}
use Rattle.omf_format.specs.File.{Segment}
use Rattle.link_meaning.specs.Member.{Member}
use Rattle.link_meaning.specs.Layout.{load_of, offset_of}
use Rattle.link_program.specs.declared.program.LinkMember.{LinkMember}
use Rattle.link_program.specs.declared.member_place.MemberPlace.{MemberPlace}
use Rattle.link_program.specs.Linked.{member_at}
use Rattle.link_program.specs.Programs.{linked_at}
use Rattle.link_program.specs.MemberPlaces.{MemberPlaceOf}

abbrev nothing : {A : Type 0} → Option A
nothing = None

abbrev something : {A : Type 0} → A → Option A
something x = Some x

some_none : {A : Type 0} (x : A) → something x ≡ nothing → ⊥
some_none x e = cc

same_some : {A : Type 0} (x y : A) → something x ≡ something y → x ≡ y
same_some x y e = cc

abbrev link_of : List Member → ℕ → Member → LinkMember
link_of list place m = record { file = m.file; segment = m.number; load_segment = load_of list m; offset = offset_of list place m }

pub no_member : (list : List Member) (place : ℕ) → linked_at list place ≡ None → MemberPlaceOf list place (member_at list place) None
no_member list place e = by_member (member_at list place) e
  where
    by_member : (o : Option Member) → option_map (link_of list place) o ≡ None → MemberPlaceOf list place o None
    by_member None e = tt
    by_member (Some m) e = absurd (some_none (link_of list place m) e)

pub set_place : (list : List Member) (place : ℕ) (lm : LinkMember) (s : Segment) (member_place : MemberPlace) → linked_at list place ≡ Some lm → option_map (λ (m : Member). m.segment) (member_at list place) ≡ Some s
    → member_place.place ≡ place → member_place.lab_len ≡ s.fields.lab_len → member_place.load_segment ≡ lm.load_segment → member_place.offset ≡ lm.offset → MemberPlaceOf list place (member_at list place) (Some member_place)
set_place list place lm s member_place e f at lab_len load offset = by_member (member_at list place) refl e f
  where
    by_member : (o : Option Member) → member_at list place ≡ o → option_map (link_of list place) o ≡ Some lm → option_map (λ (m : Member). m.segment) o ≡ Some s → MemberPlaceOf list place o (Some member_place)
    by_member None is e f = absurd (some_none lm (sym e))
    by_member (Some m) is e f =
        let same : link_of list place m ≡ lm = same_some (link_of list place m) lm e in
        let segment : m.segment ≡ s = same_some m.segment s f in (
          at,
          record {
            there = ap (member_at list) at ∙ is;
            lab_len' = lab_len ∙ ap (λ (t : Segment). t.fields.lab_len) (sym segment);
            load = load ∙ ap (λ (l : LinkMember). l.load_segment) (sym same);
            offset' = offset ∙ ap (λ (l : LinkMember). l.offset) (sym same) ∙ ap (λ (n : ℕ). offset_of list n m) (sym at);
          },
        )
