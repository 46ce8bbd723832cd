use Rattle.std.proofs.Common.{◌++◌, ℕ, List, sym, ap, ◌∙◌}
use Rattle.std.proofs.lemmas.Result.{on_ok_weaker}
use Rattle.omf_format.specs.Header.{HeaderFields}
use Rattle.omf_header.specs.View.{fields}
use Rattle.link_meaning.specs.Member.{Member}
use Rattle.link_meaning.specs.Layout.{load_headers}
use Rattle.link_program.specs.Programs.{header_at}
use Rattle.link_map.specs.MapText.{numbered_texts, text_in, load_line, header_line, load_text}
use Rattle.link_map.proofs.TextLaws.{same_some, some_none, both}
use Rattle.link_map.proofs.members.put_load.Goals as goal

pub unreachable-requires : goal.unreachable-requires
unreachable-requires c =
    some_none c.requires.0 (sym (c.in-None.ensures ∙ ap (λ (l : List Member). header_at (load_headers l) c.args.number) c.program-program.ensures ∙ c.requires.1))

pub returns : goal.returns
returns c =
    let list = c.args.values.now.list in
    let table = c.args.values.now.table in
    let number = c.args.number in
    on_ok_weaker c.put_members.result
    (λ is f there.
    let header = fields c.in-Some.header.now in
    let same = same_some header f (c.in-Some.ensures ∙ ap (λ (l : List Member). header_at (load_headers l) number) c.program-program.ensures ∙ there) in
    both c.args.line.now (header_line number header) (numbered_texts (text_in list table number) 1 list) c.put_load_line.new.line c.put_members.new.line
    (c.in_ok-put_load_line.ensures ∙ ap (λ (name : List ℕ). c.args.line.now ++ load_line number header.length header.kind header.align name) c.bytes.ensures.value) is
    ∙ ap (λ (x : HeaderFields). c.args.line.now ++ load_text list table number x) same)
    c.put_members.ensures
