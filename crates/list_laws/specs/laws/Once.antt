-- A file has one listing or one first fault.
use Rattle.std.proofs.Common.{◌≡◌, ℕ, true, false, List, Ok, Err, sym, ap, ◌∙◌}
use Rattle.std.specs.Prelude.{Result}
use Rattle.omf_format.specs.declared.fault.FileFault.{FileFault}
use Rattle.omf_format.specs.File.{Segment, IsFile}
use Rattle.omf_format.specs.laws.FileLaws.{file_same, no_file, one_first_fault}
use Rattle.list_meaning.specs.declared.faults.ListCause.TheVariants.{NotListable}
use Rattle.list_meaning.specs.declared.faults.ListFault.{ListFault}
use Rattle.list_meaning.specs.Listed.{ListedStatement, listing_text}
use Rattle.list_meaning.specs.Listing.{listing_from, is_small}
use Rattle.list_meaning.specs.Answer.{OutOfMemory, InFile, InSegment, InSize, cause_of}
use Rattle.list_laws.specs.ListingLaws.{ListingIsOne, NoFaultBeside, FaultIsOne}

abbrev Lines : Type 0
Lines = Result (List ListedStatement) (ℕ × ℕ)

listed : List ListedStatement → Lines
listed all = Ok all

refused : ℕ × ℕ → Lines
refused place = Err place

same_lines : (a b : List ListedStatement) → listed a ≡ listed b → a ≡ b
unfolding listed
same_lines a b e = cc

same_place : (a b : ℕ × ℕ) → refused a ≡ refused b → a ≡ b
unfolding refused
same_place a b e = cc

not_both : (all : List ListedStatement) (place : ℕ × ℕ) → listed all ≡ refused place → ⊥
unfolding listed refused
not_both all place e = absurd cc

-- one file has one outcome
outcome : (file : List ℕ) (a b : List Segment) (p q : Lines) → IsFile a file → IsFile b file → listing_from 1 a ≡ p → listing_from 1 b ≡ q → p ≡ q
outcome file a b p q is other first second = sym first ∙ ap (listing_from 1) (file_same a b file is other) ∙ second

pub listing_is_one : ListingIsOne
unfolding listed
listing_is_one file one other p q =
    p.is ∙ ap listing_text (same_lines p.all q.all (outcome file p.segments q.segments (listed p.all) (listed q.all) p.is_file q.is_file p.lines q.lines)) ∙ sym q.is

true_false : true ≡ false → ⊥
true_false e = absurd cc

pub no_fault_beside : NoFaultBeside
unfolding listed refused
no_fault_beside file text fault p (OutOfMemory is) = ap (λ (f : ListFault). f.cause) is
no_fault_beside file text fault p (InFile found first is) = absurd (no_file file found p.segments first p.is_file)
no_fault_beside file text fault p (InSegment number at q is) =
    absurd (not_both p.all (number, at) (outcome file p.segments q.segments (listed p.all) (refused (number, at)) p.is_file q.is_file p.lines q.refused))
no_fault_beside file text fault p (InSize q is) =
    let same = same_lines p.all q.all (outcome file p.segments q.segments (listed p.all) (listed q.all) p.is_file q.is_file p.lines q.lines) in
    absurd (true_false (sym p.small ∙ ap is_small same ∙ q.large))

pub fault_is_one : FaultIsOne
unfolding listed refused
fault_is_one file a b (OutOfMemory is) q first second = absurd (first (ap (λ (f : ListFault). f.cause) is))
fault_is_one file a b p (OutOfMemory is) first second = absurd (second (ap (λ (f : ListFault). f.cause) is))
fault_is_one file a b (InFile found p is) (InFile other q are) first second =
    is ∙ ap (λ (f : FileFault). record { cause = cause_of f.cause; segment = f.segment; at = f.at }) (one_first_fault file found other p q) ∙ sym are
fault_is_one file a b (InFile found p is) (InSegment number at q are) first second = absurd (no_file file found q.segments p q.is_file)
fault_is_one file a b (InFile found p is) (InSize q are) first second = absurd (no_file file found q.segments p q.is_file)
fault_is_one file a b (InSegment number at p is) (InFile other q are) first second = absurd (no_file file other p.segments q p.is_file)
fault_is_one file a b (InSegment number at p is) (InSegment n k q are) first second =
    let same = same_place (number, at) (n, k) (outcome file p.segments q.segments (refused (number, at)) (refused (n, k)) p.is_file q.is_file p.refused q.refused) in
    is ∙ sym (are ∙ ap (λ (place : ℕ × ℕ). fault_at place) (sym same))
  where
    fault_at : ℕ × ℕ → ListFault
    fault_at place = record { cause = NotListable; segment = place.0; at = place.1 }
fault_is_one file a b (InSegment number at p is) (InSize q are) first second =
    absurd (not_both q.all (number, at) (sym (outcome file p.segments q.segments (refused (number, at)) (listed q.all) p.is_file q.is_file p.refused q.lines)))
fault_is_one file a b (InSize p is) (InFile other q are) first second = absurd (no_file file other p.segments q p.is_file)
fault_is_one file a b (InSize p is) (InSegment number at q are) first second =
    absurd (not_both p.all (number, at) (outcome file p.segments q.segments (listed p.all) (refused (number, at)) p.is_file q.is_file p.lines q.refused))
fault_is_one file a b (InSize p is) (InSize q are) first second = is ∙ sym are
