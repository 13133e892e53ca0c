-- How a command ends, by its status: what was read and run, what there is to write, and what a status blames.
use Rattle.std.specs.Prelude.{ℕ, List, [], ◌∷◌, ◌++◌, ◌-◌, ◌≡◌, ◌≤◌, ◌⊎◌, true, false, Option, Some, None, Result, Ok, Err, codes, length, slice_get}
use Rattle.dkg_infos.specs.declared.entry.Entry.{Entry}
use Rattle.dkg_infos.specs.declared.entry.Entry.TheVariants as entry
use Rattle.dkg_infos.specs.declared.fault.Fault.{Fault}
use Rattle.dkg_infos.specs.declared.fault.Fault.TheVariants as fault
use Rattle.dkg_text.specs.declared.script.Script.{Script}
use Rattle.dkg_text.specs.Fields.{number_field}
use Rattle.dkg_reading.specs.Grammar.{script_of, script_or_place}
use Rattle.dkg_text.specs.Printing.{lines_of}
use Rattle.dkg_text.specs.Summary.{summary_of}
use Rattle.dkg_text.specs.Writing.{text_of}
use Rattle.dkg_generator.specs.Made.{made_script}
use Rattle.dkg_script.specs.InForm.{is_in_form}
use Rattle.dkg_script.specs.Inclusion.{IsFormOfInclusion}
use Rattle.dkg_run.specs.Command.{IsTold}
use Rattle.dkg_script.specs.Ends.{IsNodeFault}
use Rattle.dkg_outside.specs.Outside.{TookAll}
use Rattle.dkg_outside.specs.declared.status.Status.{Status}
use Rattle.dkg_outside.specs.declared.status.Status.TheVariants as status
use Rattle.dkg_promises.specs.Over.{DevicesAround}
use Rattle.dkg_promises.specs.Promised.{RunsLives}

-- the status of a run that a fault ended
abbrev pub fault_status : Fault → Status
fault_status fault.NoMemory = status.NoMemory
fault_status fault.Disk = status.Device
fault_status fault.Secrets = status.Device
fault_status other = status.Fault other

-- the last line that is written for a status, where it has one
abbrev pub last_of : Status → List ℕ
last_of status.Done = codes "done" ++ 10 ∷ []
last_of status.Usage = codes "usage" ++ 10 ∷ []
last_of (status.BadScript place) = codes "bad" ++ number_field place ++ 10 ∷ []
last_of status.Unsupported = codes "unsupported" ++ 10 ∷ []
last_of _ = []

-- WHAT WAS READ AND RUN

-- The source was read to its end, a script may be so long, and the source has these bytes back. (Where it tells, they are what it had left.)
pub record WasRead (Tells : Type 0) (old new : List ℕ) (HasBack : List ℕ → Type 0) (bytes : List ℕ) : Type 0 where
  pub all : Tells → TookAll bytes old new
  pub not_too_long : length bytes ≤ 16777216
  pub back : HasBack bytes

-- A script was read, of a form that is run, and its lives were run, which answered this and kept all that it promises. (`Gave` says that the source gave
-- these bytes to its end; `out` is the transcript before.)
pub record RanScript (Gave : List ℕ → Type 0) (o : DevicesAround) (out : List Entry) (result : Result (Unit {0}) Fault) (entries : List Entry) : Type 0 where
  pub bytes : List ℕ
  pub gave : Gave bytes
  pub script : Script
  pub spells : script_of false bytes ≡ Some script
  pub in_form : is_in_form script ≡ true
  pub form : IsFormOfInclusion script
  pub lives : RunsLives script o out result entries

-- no entry was written, and no device was called
pub record RanNothing (o : DevicesAround) (entries : List Entry) : Type 0 where
  pub no_entry : entries ≡ []
  pub untouched : o.same

-- The bytes are no script: from this place on stands the first line that no script has after the lines before it.
pub record NoScript (Gave : List ℕ → Type 0) (o : DevicesAround) (place : ℕ) (entries : List Entry) : Type 0 where
  pub bytes : List ℕ
  pub gave : Gave bytes
  pub no_script : script_or_place false bytes ≡ Err place
  pub nothing : RanNothing o entries

-- The bytes are a script, of a form that is not run yet.
pub record NotInForm (Gave : List ℕ → Type 0) (o : DevicesAround) (entries : List Entry) : Type 0 where
  pub bytes : List ℕ
  pub gave : Gave bytes
  pub script : Script
  pub spells : script_of false bytes ≡ Some script
  pub not_in_form : is_in_form script ≡ false
  pub nothing : RanNothing o entries

-- by the status
abbrev pub RanByStatus : (Gave : List ℕ → Type 0) → DevicesAround → (out : List Entry) → Status → (entries : List Entry) → Type 0
RanByStatus Gave o out status.Done entries = RanScript Gave o out (Ok tt) entries
RanByStatus Gave o out (status.Fault its) entries = IsNodeFault its × RanScript Gave o out (Err its) entries
RanByStatus Gave o out status.Device entries = RanScript Gave o out (Err fault.Disk) entries ⊎ RanScript Gave o out (Err fault.Secrets) entries
RanByStatus Gave o out status.NoMemory entries = RanNothing o entries ⊎ RanScript Gave o out (Err fault.NoMemory) entries
RanByStatus Gave o out (status.BadScript place) entries = NoScript Gave o place entries
RanByStatus Gave o out status.Unsupported entries = NotInForm Gave o entries
RanByStatus Gave o out status.ReadFault entries = RanNothing o entries
RanByStatus Gave o out status.TooLong entries = RanNothing o entries
RanByStatus Gave o out status.Usage entries = ⊥
RanByStatus Gave o out status.WriteFault entries = ⊥

-- HOW THE WORDS `run` END: the status says what was run, and the sink took the lines of the new entries and the status's last line. (`held` and `held_now`
-- are what it held and holds, where it tells.)
pub record Reported (Gave : List ℕ → Type 0) (o : DevicesAround) (out new : List Entry) (result : Status) (Tells : Type 0) (held held_now : List ℕ) : Type 0 where
  pub entries : List Entry
  pub added : new ≡ out ++ entries
  pub ended : Status
  pub runs : RanByStatus Gave o out ended entries
  pub told : IsTold ended result (lines_of entries ++ last_of ended) Tells held held_now

-- THE RUN OF A MADE SCRIPT

-- These bytes are the text of the made script of a number.
abbrev pub IsMade : (number : ℕ) → (bytes : List ℕ) → Type 0
IsMade number bytes = bytes ≡ text_of (made_script number)

abbrev pub fault_in_entry : Option Entry → Option Fault
fault_in_entry (Some (entry.Fault its)) = Some its
fault_in_entry its = None

-- the fault that entries end in, if they end in one
abbrev pub last_fault : List Entry → Option Fault
last_fault entries = fault_in_entry (slice_get entries (length entries - 1))

-- what there is to write, by the status: the summary of the entries, where the lives were run
abbrev pub summary_by : (number : ℕ) → List Entry → Status → List ℕ
summary_by number entries status.Done = summary_of number entries (last_fault entries)
summary_by number entries (status.Fault its) = summary_of number entries (last_fault entries)
summary_by number entries status.Device = summary_of number entries (last_fault entries)
summary_by number entries ended = last_of ended

-- HOW THE WORDS `make N` END: as `run` of that script's text does, and the sink took the summary.
pub record Summed (number : ℕ) (o : DevicesAround) (out new : List Entry) (result : Status) (Tells : Type 0) (held held_now : List ℕ) : Type 0 where
  pub entries : List Entry
  pub added : new ≡ out ++ entries
  pub ended : Status
  pub runs : RanByStatus (IsMade number) o out ended entries
  pub told : IsTold ended result (summary_by number entries ended) Tells held held_now

-- WHAT A STATUS BLAMES, outside, is so. (The source's and the sink's rises, and that the source has too many bytes, are handed in as facts.)
pub record Blamed (o : DevicesAround) (source_rose sink_rose TooMany : Type 0) (result : Status) : Type 0 where
  pub read_fault : result ≡ status.ReadFault → source_rose
  pub device : result ≡ status.Device → o.disk_rose ⊎ o.secrets_rose
  pub write_fault : result ≡ status.WriteFault → sink_rose
  pub too_long : result ≡ status.TooLong → TooMany
