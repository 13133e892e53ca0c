use Rattle.std.proofs.Common.{◌≡◌, [], ℕ, List, Result, Ok, Err, false, inl, refl, subst, sym, ◌∙◌, ap}
use Rattle.std.specs.Prelude.{IfOk}
use Rattle.std.proofs.lemmas.List.{append-nil}
use Rattle.dkg_reading.specs.Grammar.{script_or_place}
use Rattle.dkg_text.specs.declared.script.Script.{Script}
use Rattle.dkg_script.specs.InForm.{ReadsInForm}
use Rattle.dkg_script.specs.Inclusion.{IsFormOfInclusion}
use Rattle.dkg_script.specs.declared.read.ReadError.{ReadError}
use Rattle.dkg_script.specs.declared.read.ReadError.TheVariants.{Bad, Unsupported}
use Rattle.dkg_run.proofs.Reported.{is_no_read, is_spelled, runs_faulted, runs_lives}
use Rattle.dkg_run.proofs.command.run_read.Goals as goal

-- what was read, where it is this
reads_so : (bytes : List ℕ) (read it : Result Script ReadError) → read ≡ it → ReadsInForm (script_or_place false bytes) read → ReadsInForm (script_or_place false bytes) it
reads_so bytes read it is = subst (λ (r : Result Script ReadError). ReadsInForm (script_or_place false bytes) r) is

form_so : (read it : Result Script ReadError) → read ≡ it → IfOk read IsFormOfInclusion → IfOk it IsFormOfInclusion
form_so read it is = subst (λ (r : Result Script ReadError). IfOk r IsFormOfInclusion) is

pub returns-in-Err-NoMemory-clause-ends : goal.returns-in-Err-NoMemory-clause-ends
returns-in-Err-NoMemory-clause-ends g c bytes reads = ([], sym (append-nil _), inl (record { no_entry = refl; untouched = (refl, refl) }))

pub returns-in-Err-Bad-clause-ends : goal.returns-in-Err-Bad-clause-ends
returns-in-Err-Bad-clause-ends g c bytes reads =
    let is : c.args.read ≡ Err (Bad c.in-Err-Bad.place) = c.in-Err-Bad.is ∙ ap (λ (e : ReadError). Err e) (rw c.in-Err-Bad.is at c.in-Err-Bad.field-0-is) in (
      [],
      sym (append-nil _),
      record {
        bytes = bytes;
        gave = refl;
        no_script = reads_so bytes c.args.read (Err (Bad c.in-Err-Bad.place)) is reads;
        nothing = record { no_entry = refl; untouched = (refl, refl) };
      },
    )

pub returns-in-Err-Unsupported-clause-ends : goal.returns-in-Err-Unsupported-clause-ends
returns-in-Err-Unsupported-clause-ends g c bytes reads =
    let is : c.args.read ≡ Err Unsupported = c.in-Err-Unsupported.is ∙ ap (λ (e : ReadError). Err e) (rw c.in-Err-Unsupported.is at c.in-Err-Unsupported.field-0-is) in
    let refused = reads_so bytes c.args.read (Err Unsupported) is reads in (
      [],
      sym (append-nil _),
      record {
        bytes = bytes;
        gave = refl;
        script = refused.0;
        spells = is_spelled _ _ _ refused.1;
        not_in_form = refused.2;
        nothing = record { no_entry = refl; untouched = (refl, refl) };
      },
    )

pub returns-in-Ok-run_lives-clause-ends : goal.returns-in-Ok-run_lives-clause-ends
returns-in-Ok-run_lives-clause-ends g c bytes reads =
    let is : c.args.read ≡ Ok c.in-Ok.script = search in
    let its = c.in-Ok-run_lives.ensures in
    let read = reads_so bytes c.args.read (Ok c.in-Ok.script) is reads in (
      its.promise.0,
      its.promise.1,
      record {
        bytes = bytes;
        gave = refl;
        script = c.in-Ok.script;
        spells = is_spelled _ _ _ read.0;
        in_form = read.1;
        form = form_so c.args.read (Ok c.in-Ok.script) is c.requires.form;
        lives = runs_lives _ _ _ _ _ its.promise its.lines its.run;
      },
    )

pub returns-clause-read : goal.returns-clause-read
returns-clause-read g c = rw c.status_of.ensures (is_no_read c.in-Err.fault)

pub returns-clause-ends : goal.returns-clause-ends
returns-clause-ends g c bytes reads =
    let is : c.args.read ≡ Ok c.in-Ok.script = search in
    let its = c.in-Err.ensures in
    let read = reads_so bytes c.args.read (Ok c.in-Ok.script) is reads in (
      its.promise.0,
      its.promise.1,
      rw c.status_of.ensures (runs_faulted _ _ _ _ c.in-Err.fault (record {
        bytes = bytes;
        gave = refl;
        script = c.in-Ok.script;
        spells = is_spelled _ _ _ read.0;
        in_form = read.1;
        form = form_so c.args.read (Ok c.in-Ok.script) is c.requires.form;
        lives = runs_lives _ _ _ _ _ its.promise its.lines its.run;
      })),
    )
