use Rattle.std.proofs.Common.{◌≡◌, ◌-◌, ℕ, List, Option, ap, subst, ◌∙◌}
use Rattle.std.specs.Prelude.{slice_get, option_map}
use Rattle.omf_format.specs.File.{Segment}
use Rattle.link_meaning.specs.Member.{RuntimeFile, setting_in}
use Rattle.omf_cells.specs.Load.{HasFields, IsOutside}
use Rattle.omf_header.specs.View.{fields}
use Rattle.link_content.proofs.OutsideLengths.{length_found, length_gone, length_nowhere}
use Rattle.link_content.proofs.fit.length_outside.Goals as goal

abbrev segments_at : List RuntimeFile → ℕ → Option (List Segment)
segments_at runtimes place = option_map (λ (r : RuntimeFile). r.segments) (slice_get runtimes place)

pub returns-in-None : goal.returns-in-None
returns-in-None c =
    let place : c.saturating_sub.result ≡ c.args.file - 2 = c.saturating_sub.ensures ∙ ap (λ (n : ℕ). n - 2) c.from.ensures in
    length_nowhere (setting_in c.args.program.now) c.args.file c.args.segment (c.in-None.ensures ∙ ap (segments_at (setting_in c.args.program.now).runtimes) place)

pub returns-in-Some-header : goal.returns-in-Some-header
returns-in-Some-header c =
    let place : c.saturating_sub.result ≡ c.args.file - 2 = c.saturating_sub.ensures ∙ ap (λ (n : ℕ). n - 2) c.from.ensures in
    length_found (setting_in c.args.program.now) c.args.file c.args.segment c.in-Some.load.now (fields c.in-Some-header.header.now) (c.in-Some.ensures ∙ ap (segments_at (setting_in c.args.program.now).runtimes) place) (subst (λ (n : ℕ). HasFields c.in-Some.load.now n (fields c.in-Some-header.header.now)) c.from-2.ensures c.in-Some-header.ensures)

pub returns-in-None-header : goal.returns-in-None-header
returns-in-None-header c =
    let place : c.saturating_sub.result ≡ c.args.file - 2 = c.saturating_sub.ensures ∙ ap (λ (n : ℕ). n - 2) c.from.ensures in
    length_gone (setting_in c.args.program.now) c.args.file c.args.segment c.in-Some.load.now (c.in-Some.ensures ∙ ap (segments_at (setting_in c.args.program.now).runtimes) place) (subst (IsOutside c.in-Some.load.now) c.from-2.ensures c.in-None-header.ensures)
