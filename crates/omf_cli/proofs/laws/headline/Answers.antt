use Rattle.std.proofs.Common.{List, sym, ap, ◌∙◌}
use Rattle.omf_format.specs.File.{Segment}
use Rattle.dump_lines.specs.Listing.{listing_from}
use Rattle.omf_cli.proofs.laws.headline.Goals as goal

pub returns : goal.returns
returns c = record {
  assembled = (c.sources_have_one_object.ensures.object, c.sources_have_one_object.ensures.beside);
  written = c.objects_are_files.ensures;
  linked = c.files_have_one_answer.ensures.files;
  stands_for = c.linked_files_have_their_headers_and_cells.ensures.stand_for;
  reached = (c.linked_files_have_their_headers_and_cells.ensures.reach, c.parts_are_of_the_file.ensures.parts, c.parts_are_of_the_file.ensures.called);
  spelled = (c.formulas_are_spelled.ensures.found, c.formulas_are_spelled.ensures.spelled);
  patched = c.patches_are_by_pages.ensures;
  named = (c.linked_names_are_read_back.ensures.exports, c.linked_names_are_read_back.ensures.paths);
  loadable = c.linked_files_are_loaded.ensures.loadable;
  loaded = c.linked_files_begin.ensures;
  answered = c.commands_have_one_reply.ensures;
  listed = λ file one other a b.
      a.is ∙ ap (λ (s : List Segment). listing_from 1 s) (c.files_are_read_in_one_way.ensures.one_list file a.segments b.segments a.is_file b.is_file) ∙ sym b.is;
  sourced = (c.files_have_one_listing.ensures.listing, c.listings_are_read_again.ensures.again);
  has_object = c.sources_have_one_object.ensures.some;
  has_link = c.links_are_answered.ensures;
  has_library = c.libraries_are_answered.ensures.made;
  has_listing = c.dumps_are_answered.ensures;
  has_source = c.sources_are_listed.ensures;
  has_form = c.load_files_are_compacted.ensures;
  has_commands = c.scripts_are_answered.ensures;
  has_reply = c.commands_are_answered.ensures;
}
