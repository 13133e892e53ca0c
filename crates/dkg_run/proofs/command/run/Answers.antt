use Rattle.std.proofs.Common.{[], inl, refl, sym}
use Rattle.std.proofs.lemmas.List.{append-nil}
use Rattle.dkg_run.proofs.Reported.{gives, reads}
use Rattle.dkg_run.proofs.command.run.Goals as goal

pub returns-in-Err-Failed-clause-ends : goal.returns-in-Err-Failed-clause-ends
returns-in-Err-Failed-clause-ends g c =
    ([], sym (append-nil _), record { no_entry = refl; untouched = (refl, refl) })

pub returns-in-Err-TooLong-clause-ends : goal.returns-in-Err-TooLong-clause-ends
returns-in-Err-TooLong-clause-ends g c =
    ([], sym (append-nil _), record { no_entry = refl; untouched = (refl, refl) })

pub returns-in-Err-NoMemory-clause-ends : goal.returns-in-Err-NoMemory-clause-ends
returns-in-Err-NoMemory-clause-ends g c =
    ([], sym (append-nil _), inl (record { no_entry = refl; untouched = (refl, refl) }))

pub returns-clause-ends : goal.returns-clause-ends
returns-clause-ends g c =
    let its = c.run_read.ensures.ends c.in-Ok.bytes.items c.script_in-read.ensures.reads in (
      its.0,
      its.1,
      gives c.in-Ok.bytes.items _ (reads _ _ _ _ _ _ c.script_in-read.ensures.left c.in-Ok.ensures.whole c.in-Ok.ensures.short c.script_in-read.ensures.back) _ _ _ _ its.2,
    )

pub returns-clause-read_fault : goal.returns-clause-read_fault
returns-clause-read_fault g c is = absurd (c.run_read.ensures.read.0 is)

pub returns-clause-too_long : goal.returns-clause-too_long
returns-clause-too_long g c is = absurd (c.run_read.ensures.read.1 is)
