use Rattle.link_meaning.specs.laws.LinkLoadableLaws.{is_loaded, is_runtime, has_no_pathnames, has_no_load_fault}
use Rattle.link_meaning.specs.laws.LoadSegmentLaws.{is_read_whole}
use Rattle.link_meaning.proofs.laws.linked_files_are_loaded.Goals as goal

pub returns : goal.returns
returns c = record { loadable = is_loaded; no_fault = has_no_load_fault; runtime = is_runtime; pathless = has_no_pathnames; short = is_read_whole }
