-- How a run ends as its status says, by what running its lives answered, and how that status is told.
use Rattle.std.proofs.Common.{ℕ, List, [], ◌++◌, ◌+◌, ◌-◌, ◌<◌, ◌≤◌, ◌≡◌, ◌≢◌, ◌⊎◌, ◌∙◌, Bool, true, false, Option, Some, None, Result, Ok, Err, refl, sym, ap, subst, inl, inr, length, drop, arith}
use Rattle.std.proofs.lemmas.List.{length-append}
use Rattle.std.proofs.Math.Seq.{drop-append_seam}
use Rattle.std.specs.Result.{result_ok}
use Rattle.dkg_infos.specs.declared.entry.Entry.{Entry}
use Rattle.dkg_infos.specs.declared.fault.Fault.{Fault}
use Rattle.dkg_infos.specs.declared.fault.ConfigCause.{ConfigCause}
use Rattle.dkg_infos.specs.declared.fault.Fault.TheVariants.{NoMemory, Disk, Secrets, InvalidConfig}
use Rattle.dkg_reading.specs.Grammar.{reading_of, script_of, script_or_place, with_place}
use Rattle.dkg_text.specs.Printing.{lines_of}
use Rattle.dkg_text.specs.declared.script.Script.{Script}
use Rattle.dkg_script.specs.InForm.{is_in_form}
use Rattle.dkg_script.specs.Promise.{Adds}
use Rattle.dkg_run.specs.Command.{IsTold}
use Rattle.dkg_promises.specs.Complete.{IsSoundRun, IsValidAnyhow}
use Rattle.dkg_script.specs.Ends.{EndsFaulted, EndsScript, IsNodeFault}
use Rattle.dkg_lives.specs.Epochs.{refused_config}
use Rattle.dkg_outside.specs.Outside.{TookAll, TookMore}
use Rattle.dkg_promises.specs.Over.{DevicesAround}
use Rattle.dkg_promises.specs.Promised.{DoesRun, Promised, RunsLives, SaysRun}
use Rattle.dkg_run.specs.Reports.{Blamed, RanScript, RanNothing, WasRead, RanByStatus, fault_status, last_of}
use Rattle.dkg_outside.specs.declared.status.Status.{Status}
use Rattle.dkg_outside.specs.declared.status.Status.TheVariants as status
use Rattle.dkg_lives.proofs.Checked.{refused_so}
use Rattle.dkg_promises.proofs.Completing.{valid_as_cut}

-- the entries from an index on, where it is the end of what was there
pub from_index : (old new added : List Entry) (index : ℕ) → index ≡ length old → new ≡ old ++ added → drop index new ≡ added
from_index old new added index at is = rw (at, is) (drop-append_seam old added)

-- what was read, by the source before it was given back the bytes
pub reads : (Tells : Type 0) (old mid new bytes : List ℕ) (HasBack : List ℕ → Type 0) → new ≡ mid → (Tells → TookAll bytes old mid) → length bytes ≤ 16777216 → HasBack bytes → WasRead Tells old new HasBack bytes
reads Tells old mid new bytes HasBack same all short back = record { all = λ tells. subst (λ (left : List ℕ). TookAll bytes old left) (sym same) (all tells); not_too_long = short; back = back }

-- WHAT RUNNING THE LIVES PROMISES, of the entries that were added
pub runs_lives : (script : Script) (o : DevicesAround) (out new : List Entry) (result : Result (Unit {0}) Fault) (told : Adds out new (Promised script o result)) → SaysRun script o out result new → DoesRun script o out result new
    → RunsLives script o out result told.0
runs_lives script o out new result told lines run = record {
  lines = subst (λ (es : List Entry). SaysRun script o out result es) told.1 lines;
  run = subst (λ (es : List Entry). DoesRun script o out result es) told.1 run;
  promise = told.2;
}

-- A RUN THAT A FAULT ENDED

-- the configuration was refused, memory ran out, or a life ended so
abbrev EndedSo : Fault → List Entry → (disk_rose secrets_rose : Type 0) → Type 0
EndedSo its entries disk_rose secrets_rose = ((cause : ConfigCause) × (its ≡ InvalidConfig cause)) ⊎ ((its ≡ NoMemory) ⊎ EndsFaulted its entries disk_rose secrets_rose)

ended_so : (script : Script) (its : Fault) (entries : List Entry) (disk_rose secrets_rose : Type 0) → EndsScript (refused_config script) (Err its) entries disk_rose secrets_rose → EndedSo its entries disk_rose secrets_rose
ended_so script its entries disk_rose secrets_rose ends = by_config (refused_config script) refl ends
  where
    same_fault : {x y : Fault} → ◌≡◌ {A = Result (Unit {0}) Fault} (Err x) (Err y) → x ≡ y
    same_fault e = cc

    by_config : (o : Option Fault) → refused_config script ≡ o → EndsScript o (Err its) entries disk_rose secrets_rose → EndedSo its entries disk_rose secrets_rose
    by_config None checked ends = inr (inr ends)
    by_config (Some why) refused (inr wants) = inr (inl (same_fault wants.0))
    by_config (Some why) refused (inl told) = inl (refused_so script why refused (λ (x : Fault). its ≡ x → (cause : ConfigCause) × (its ≡ InvalidConfig cause)) (λ cause is. (cause, is)) (same_fault told.0))

pub runs_faulted : (Gave : List ℕ → Type 0) (o : DevicesAround) (out entries : List Entry) (its : Fault) → RanScript Gave o out (Err its) entries → RanByStatus Gave o out (fault_status its) entries
runs_faulted Gave o out entries its ran = by_its its ran (ended_so ran.script its entries o.disk_rose o.secrets_rose ran.lives.promise.ends)
  where
    by_its : (its : Fault) → RanScript Gave o out (Err its) entries → EndedSo its entries o.disk_rose o.secrets_rose → RanByStatus Gave o out (fault_status its) entries
    by_its NoMemory ran ended = inr ran
    by_its Disk ran ended = inl ran
    by_its Secrets ran ended = inr ran
    by_its (InvalidConfig cause) ran ended = (tt, ran)
    by_its its ran (inl refused) = absurd (let wrong : its ≡ InvalidConfig refused.0 = refused.1 in cc)
    by_its its ran (inr (inl wants)) = absurd (let wrong : its ≡ NoMemory = wants in cc)
    by_its its ran (inr (inr ends)) = (ends.1, ran)

-- It is none that tells of reading.
pub is_no_read : (its : Fault) → (fault_status its ≢ status.ReadFault) × (fault_status its ≢ status.TooLong)
is_no_read NoMemory = (λ e. cc, λ e. cc)
is_no_read Disk = (λ e. cc, λ e. cc)
is_no_read Secrets = (λ e. cc, λ e. cc)
is_no_read its = (λ e. cc, λ e. cc)

-- Of whatever is so of the bytes that were read
pub gives : (bytes : List ℕ) (Gave : List ℕ → Type 0) → Gave bytes → (o : DevicesAround) (out : List Entry) (ended : Status) (entries : List Entry)
    → RanByStatus (λ its. its ≡ bytes) o out ended entries → RanByStatus Gave o out ended entries
gives bytes Gave gave o out ended entries runs = by_status ended runs
  where
    given : (its : List ℕ) → its ≡ bytes → Gave its
    given its is = subst (λ (x : List ℕ). Gave x) (sym is) gave

    ran : (result : Result (Unit {0}) Fault) → RanScript (λ its. its ≡ bytes) o out result entries → RanScript Gave o out result entries
    ran result its = record {
      bytes = its.bytes;
      gave = given its.bytes its.gave;
      script = its.script;
      spells = its.spells;
      in_form = its.in_form;
      form = its.form;
      lives = its.lives;
    }

    by_status : (ended : Status) → RanByStatus (λ its. its ≡ bytes) o out ended entries → RanByStatus Gave o out ended entries
    by_status status.Done runs = ran (Ok tt) runs
    by_status (status.Fault its) runs = (runs.0, ran (Err its) runs.1)
    by_status status.Device (inl runs) = inl (ran (Err Disk) runs)
    by_status status.Device (inr runs) = inr (ran (Err Secrets) runs)
    by_status status.NoMemory (inl runs) = inl runs
    by_status status.NoMemory (inr runs) = inr (ran (Err NoMemory) runs)
    by_status (status.BadScript place) runs = record { bytes = runs.bytes; gave = given runs.bytes runs.gave; no_script = runs.no_script; nothing = runs.nothing }
    by_status status.Unsupported runs = record {
      bytes = runs.bytes;
      gave = given runs.bytes runs.gave;
      script = runs.script;
      spells = runs.spells;
      not_in_form = runs.not_in_form;
      nothing = runs.nothing;
    }
    by_status status.ReadFault runs = runs
    by_status status.TooLong runs = runs
    by_status status.Usage runs = absurd runs
    by_status status.WriteFault runs = absurd runs

-- HOW A STATUS IS TOLD

-- what is answered, but for a failed write and want of memory, is the status
pub status_told : (ended result its : Status) (text : List ℕ) (Tells : Type 0) (old new : List ℕ) → result ≡ its → its ≢ status.WriteFault → its ≢ status.NoMemory
    → IsTold ended result text Tells old new → ended ≡ its
status_told ended result its text Tells old new is not_write not_memory (inl told) = sym told.0 ∙ is
status_told ended result its text Tells old new is not_write not_memory (inr (inl told)) = absurd (not_write (sym is ∙ told.0))
status_told ended result its text Tells old new is not_write not_memory (inr (inr told)) = absurd (not_memory (sym is ∙ told.0))

-- a source that failed or has too much: there is nothing to write
pub is_silent : (Gave : List ℕ → Type 0) (o : DevicesAround) (out entries : List Entry) (ended result : Status) (text : List ℕ) (Tells : Type 0) (old new : List ℕ)
    → (result ≡ status.ReadFault) ⊎ (result ≡ status.TooLong) → IsTold ended result text Tells old new → RanByStatus Gave o out ended entries → lines_of entries ++ last_of ended ≡ []
is_silent Gave o out entries ended result text Tells old new (inl is) told runs =
    let its : ended ≡ status.ReadFault = status_told ended result status.ReadFault text Tells old new is (λ e. cc) (λ e. cc) told in
    let nothing : RanNothing o entries = subst (λ (x : Status). RanByStatus Gave o out x entries) its runs in
    rw (its, nothing.no_entry) refl
is_silent Gave o out entries ended result text Tells old new (inr is) told runs =
    let its : ended ≡ status.TooLong = status_told ended result status.TooLong text Tells old new is (λ e. cc) (λ e. cc) told in
    let nothing : RanNothing o entries = subst (λ (x : Status). RanByStatus Gave o out x entries) its runs in
    rw (its, nothing.no_entry) refl

-- what is answered as a device's failure ended the run so, and the device's count rose
pub device_rose : (Gave : List ℕ → Type 0) (o : DevicesAround) (out entries : List Entry) (ended : Status) → ended ≡ status.Device → RanByStatus Gave o out ended entries → o.disk_rose ⊎ o.secrets_rose
device_rose Gave o out entries ended is runs = rose (subst (λ (x : Status). RanByStatus Gave o out x entries) is runs)
  where
    rose : RanScript Gave o out (Err Disk) entries ⊎ RanScript Gave o out (Err Secrets) entries → o.disk_rose ⊎ o.secrets_rose
    rose (inl ran) = inl (by_disk (ended_so ran.script Disk entries o.disk_rose o.secrets_rose ran.lives.promise.ends))
      where
        by_disk : EndedSo Disk entries o.disk_rose o.secrets_rose → o.disk_rose
        by_disk (inl refused) = absurd (let wrong : Disk ≡ InvalidConfig refused.0 = refused.1 in cc)
        by_disk (inr (inl wants)) = absurd (let wrong : Disk ≡ NoMemory = wants in cc)
        by_disk (inr (inr ends)) = ends.1
    rose (inr ran) = inr (by_secrets (ended_so ran.script Secrets entries o.disk_rose o.secrets_rose ran.lives.promise.ends))
      where
        by_secrets : EndedSo Secrets entries o.disk_rose o.secrets_rose → o.secrets_rose
        by_secrets (inl refused) = absurd (let wrong : Secrets ≡ InvalidConfig refused.0 = refused.1 in cc)
        by_secrets (inr (inl wants)) = absurd (let wrong : Secrets ≡ NoMemory = wants in cc)
        by_secrets (inr (inr ends)) = ends.1

-- what blames the outside blames it rightly, where what the sink was told of does
pub blamed : (o : DevicesAround) (source_rose sink_rose TooMany : Type 0) (ended result : Status) (text : List ℕ) (Tells : Type 0) (old new : List ℕ) → IsTold ended result text Tells old new
    → (ended ≡ status.ReadFault → source_rose) → (ended ≡ status.Device → o.disk_rose ⊎ o.secrets_rose) → (result ≡ status.WriteFault → sink_rose) → (ended ≡ status.TooLong → TooMany) → Blamed o source_rose sink_rose TooMany result
blamed o source_rose sink_rose TooMany ended result text Tells old new told read device write long = record {
  read_fault = λ is. read (status_told ended result status.ReadFault text Tells old new is (λ e. cc) (λ e. cc) told);
  device = λ is. device (status_told ended result status.Device text Tells old new is (λ e. cc) (λ e. cc) told);
  write_fault = write;
  too_long = λ is. long (status_told ended result status.TooLong text Tells old new is (λ e. cc) (λ e. cc) told);
}

-- WHAT THE BYTES SPELL

some_same : {A : Type 0} (x y : A) (o : Option A) → o ≡ Some x → o ≡ Some y → x ≡ y
some_same x y o one other = let e : Some x ≡ Some y = sym one ∙ other in cc

true_false : {b : Bool} → b ≡ true → b ≡ false → ⊥
true_false is other = let e : true ≡ false = sym is ∙ other in cc

-- a text that is a script has no place where it is none
pub is_spelled : (addressed : Bool) (bytes : List ℕ) (script : Script) → script_or_place addressed bytes ≡ Ok script → script_of addressed bytes ≡ Some script
unfolding script_of script_or_place
is_spelled addressed bytes script is = by_reading (reading_of addressed bytes) is
  where
    by_reading : (r : Result Script ℕ) → with_place (length bytes) r ≡ Ok script → result_ok r ≡ Some script
    by_reading (Ok x) e = let same : Ok x ≡ Ok script = e in cc
    by_reading (Err left) e = absurd (let none : Err (length bytes - left) ≡ Ok script = e in cc)

no_place : (addressed : Bool) (bytes : List ℕ) (script : Script) (place : ℕ) → script_of addressed bytes ≡ Some script → script_or_place addressed bytes ≡ Err place → ⊥
unfolding script_of script_or_place
no_place addressed bytes script place is = by_reading (reading_of addressed bytes) is
  where
    by_reading : (r : Result Script ℕ) → result_ok r ≡ Some script → with_place (length bytes) r ≡ Err place → ⊥
    by_reading (Ok x) e none = let wrong : Ok x ≡ Err place = none in cc
    by_reading (Err left) e none = let wrong : None ≡ Some script = e in cc

-- A SOUND RUN

module _ (Gave : List ℕ → Type 0) (o : DevicesAround) (out entries : List Entry) (script : Script) (spells : (bytes : List ℕ) → Gave bytes → script_of false bytes ≡ Some script) (built : is_in_form script ≡ true)
    (sound : IsSoundRun o (IsValidAnyhow script)) where
  only_memory : (its : Fault) → RanScript Gave o out (Err its) entries → its ≡ NoMemory
  only_memory its ran =
      let valid : IsValidAnyhow ran.script o.before =
      subst (λ (x : Script). IsValidAnyhow x o.before) (some_same script ran.script (script_of false ran.bytes) (spells ran.bytes ran.gave) ran.spells) sound.valid in
      ran.lives.promise.complete (record {
        tells = sound.tells;
        valid = valid_as_cut ran.script entries o.before valid ran.lives.promise.in_order;
        no_disk_rose = sound.no_disk_rose;
        no_secrets_rose = sound.no_secrets_rose;
      })

  by_status : (ended : Status) → RanByStatus Gave o out ended entries → (ended ≡ status.ReadFault → ⊥) → (ended ≡ status.TooLong → ⊥) → (ended ≡ status.Done) ⊎ (ended ≡ status.NoMemory)
  by_status status.Done runs not_failed not_long = inl refl
  by_status status.NoMemory runs not_failed not_long = inr refl
  by_status status.Usage runs not_failed not_long = absurd runs
  by_status status.WriteFault runs not_failed not_long = absurd runs
  by_status status.ReadFault runs not_failed not_long = absurd (not_failed refl)
  by_status status.TooLong runs not_failed not_long = absurd (not_long refl)
  by_status (status.BadScript place) runs not_failed not_long = absurd (no_place false runs.bytes script place (spells runs.bytes runs.gave) runs.no_script)
  by_status status.Unsupported runs not_failed not_long =
      let same : runs.script ≡ script = some_same runs.script script (script_of false runs.bytes) runs.spells (spells runs.bytes runs.gave) in
      absurd (true_false (ap is_in_form same ∙ built) runs.not_in_form)
  by_status (status.Fault its) runs not_failed not_long = absurd (subst (λ (x : Fault). IsNodeFault x) (only_memory its runs.1) runs.0)
  by_status status.Device runs not_failed not_long = absurd (by_device runs)
    where
      by_device : RanScript Gave o out (Err Disk) entries ⊎ RanScript Gave o out (Err Secrets) entries → ⊥
      by_device (inl ran) = let wrong : Disk ≡ NoMemory = only_memory Disk ran in cc
      by_device (inr ran) = let wrong : Secrets ≡ NoMemory = only_memory Secrets ran in cc

  -- Where the source gave the text of a script of which a sound run is due, and no outside failed, every life was run, or memory ran out.
  pub done_or_memory : (ended result : Status) (text : List ℕ) (Tells : Type 0) (old new : List ℕ) → RanByStatus Gave o out ended entries → IsTold ended result text Tells old new
      → (result ≡ status.ReadFault → ⊥) → (result ≡ status.TooLong → ⊥) → (result ≡ status.WriteFault → ⊥) → (result ≡ status.Done) ⊎ (result ≡ status.NoMemory)
  done_or_memory ended result text Tells old new runs (inl told) not_failed not_long not_write =
      let by : (ended ≡ status.Done) ⊎ (ended ≡ status.NoMemory) = by_status ended runs (λ e. not_failed (told.0 ∙ e)) (λ e. not_long (told.0 ∙ e)) in rw told.0 by
  done_or_memory ended result text Tells old new runs (inr (inl told)) not_failed not_long not_write = absurd (not_write told.0)
  done_or_memory ended result text Tells old new runs (inr (inr told)) not_failed not_long not_write = inr told.0

-- what has so many bytes at most gives no more
pub not_more : (most : ℕ) (old new : List ℕ) → TookMore most old new → length old ≤ most → ⊥
not_more most old new took short = apart (length old) (length took.bytes) (length new) (ap length took.parts ∙ length-append took.bytes new) took.more short
  where
    apart : (all front rest : ℕ) → all ≡ front + rest → most < front → all ≤ most → ⊥
    apart all front rest parts more short = omega arith
