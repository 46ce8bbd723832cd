-- The headline on one page: what an object, a load file, a load of it, a reply and a listing are, as laws about the definitions that
-- the contracts of the commands cite. The contracts tie these to the bytes that are written and the lines that are printed.
use Rattle.std.specs.Prelude.{◌≡◌, ℕ, List}
use Rattle.answers.specs.Commands.{CommandsAreAnswered}
use Rattle.answers.specs.Inputs.{DumpsAreAnswered, LibrariesAreAnswered, LoadFilesAreCompacted, SourcesAreListed, LinksAreAnswered, ScriptsAreAnswered}
use Rattle.source_meaning.specs.ObjectLaws.{OneObject, NoFaultBeside, NoneUnanswered, ObjectIsFile}
use Rattle.link_meaning.specs.EmitFaults.{OneLinkAnswer}
use Rattle.link_laws.specs.ReadBack.{ExportsAreReadBack, PathsAreReadBack}
use Rattle.link_laws.specs.Formulas.{FormulasAreSpelled, SpelledIsFound}
use Rattle.link_laws.specs.Pages.{PatchesAreByPages}
use Rattle.link_laws.specs.Parts.{OutsideIsCalled, PartsAreOfTheFile}
use Rattle.link_meaning.specs.LinkLoadable.{StandsForLinkedCells, OnlyCallsReachDynamic, IsLoadedWhereNoneSkipped}
use Rattle.loader_agrees.specs.StepsOnce.{StepsOnce}
use Rattle.dump_lines.specs.Listing.{IsListing}
use Rattle.list_laws.specs.ListingLaws.{ListingIsListedAgain, ListingIsOne}
use Rattle.omf_cli.specs.Loads.{LinkedFilesBegin}

-- a file has one listing at most
abbrev pub OneListing : Type 0
OneListing = (file one other : List ℕ) → IsListing file one → IsListing file other → one ≡ other

pub record Headline : Type 0 where
  -- a source with macro files has one object at most, and then no fault
  pub assembled : OneObject × NoFaultBeside
  -- the object is a file of the segments that the source's lines leave
  pub written : ObjectIsFile
  -- files have one answer at most: their load file, or their first fault
  pub linked : OneLinkAnswer
  -- the segments of the load file, read back, have the headers of the layout and the linked cells
  pub stands_for : StandsForLinkedCells
  -- of another dynamic segment nothing but a call through the jump table names a place, no cell names a place in another file, and one there
  -- is reached by a call alone
  pub reached : OnlyCallsReachDynamic × PartsAreOfTheFile × OutsideIsCalled
  -- each formula of the linked list spells one tree, the one from which its value is found
  pub spelled : SpelledIsFound × FormulasAreSpelled
  -- the patches of a SUPER record are at the locations of its pages
  pub patched : PatchesAreByPages
  -- its exports, read back, are the public definitions of a run-time library file, and its rows are the given paths
  pub named : ExportsAreReadBack × PathsAreReadBack
  -- where nothing in it names a skipped segment it is a load file
  pub loadable : IsLoadedWhereNoneSkipped
  -- and a load of it is answered by its program, or refused for a reason outside the file
  pub loaded : LinkedFilesBegin
  -- a command of a script has one reply and one next state at most
  pub answered : StepsOnce
  pub listed : OneListing
  -- a file has one source at most, which is that of the object that is assembled from it
  pub sourced : ListingIsOne × ListingIsListedAgain
  -- every input has an answer, which isn't Memory: a source not none of the two, and constructively all others
  pub has_object : NoneUnanswered
  pub has_link : LinksAreAnswered
  pub has_library : LibrariesAreAnswered
  pub has_listing : DumpsAreAnswered
  pub has_source : SourcesAreListed
  pub has_form : LoadFilesAreCompacted
  pub has_commands : ScriptsAreAnswered
  pub has_reply : CommandsAreAnswered
