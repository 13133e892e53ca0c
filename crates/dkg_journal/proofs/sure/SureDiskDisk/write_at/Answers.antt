use Rattle.dkg_journal.specs.Made.{made_one}
use Rattle.dkg_journal.specs.declared.disk.Op.TheVariants.{WriteAt}
use Rattle.dkg_journal.proofs.OnRows.{there_rows, same_inside, write_inside, did_write}
use Rattle.dkg_journal.proofs.sure.SureDiskDisk.write_at.Goals as goal

pub write-requires : goal.write-requires
write-requires c = there_rows c.args.self.now.files c.args.name c.args.place c.requires

pub returns-in-Ok-clause-done : goal.returns-in-Ok-clause-done
returns-in-Ok-clause-done c =
    let there = there_rows c.args.self.now.files c.args.name c.args.place c.requires in
    let done = c.in-Ok.ensures.done there.0 there.1 in
    did_write c.args.name c.args.place c.args.bytes.now there.0 _ _ there.1 done.1

pub returns-in-Ok-clause-crash : goal.returns-in-Ok-clause-crash
returns-in-Ok-clause-crash c =
    let there = there_rows c.args.self.now.files c.args.name c.args.place c.requires in
    let done = c.in-Ok.ensures.done there.0 there.1 in
    write_inside c.args.name c.args.place c.args.bytes.now there.0 _ _ there.1 there.2 done.0 done.1

pub returns-in-Ok-clause-calls : goal.returns-in-Ok-clause-calls
returns-in-Ok-clause-calls c =
    let there = there_rows c.args.self.now.files c.args.name c.args.place c.requires in
    let done = c.in-Ok.ensures.done there.0 there.1 in
    made_one (WriteAt c.args.name c.args.place c.args.bytes.now) _ _ _ _ c.one_more-self.ensures.counted (write_inside c.args.name c.args.place c.args.bytes.now there.0 _ _ there.1 there.2 done.0 done.1)

pub returns-in-Err-clause-crash : goal.returns-in-Err-clause-crash
returns-in-Err-clause-crash c = same_inside (WriteAt c.args.name c.args.place c.args.bytes.now) _ _ c.in-Err.ensures.kept

pub returns-in-Err-clause-calls : goal.returns-in-Err-clause-calls
returns-in-Err-clause-calls c = made_one (WriteAt c.args.name c.args.place c.args.bytes.now) _ _ _ _ c.one_more-self.ensures.counted (same_inside (WriteAt c.args.name c.args.place c.args.bytes.now) _ _ c.in-Err.ensures.kept)
