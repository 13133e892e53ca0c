use Rattle.std.proofs.Common.{[]}
use Rattle.dkg_lives.specs.Given.{limits_of}
use Rattle.dkg_lives.specs.Stopped.{picks_at_end}
use Rattle.dkg_run.proofs.Going.{went_then}
use Rattle.dkg_run.proofs.Lasting.{life_blames, life_lines, life_closes, life_scripted, narrowed_fit}
use Rattle.dkg_run.proofs.RecordsFound.{life_finds}
use Rattle.dkg_run.proofs.lives.run_life.Goals as goal

pub end_life-requires-clause-scripted : goal.end_life-requires-clause-scripted
end_life-requires-clause-scripted g c = life_scripted _ _ _ _ _ (c.live-how.ensures.lines.2 [])

pub returns-clause-lines : goal.returns-clause-lines
returns-clause-lines g c =
    let its = c.live-how.ensures.lines in (
      picks_at_end c.args.life.now c.live-how.result,
      went_then g.D.Disk.tells g.D.Disk.made g.X.SecretStore.made g.D.Disk.faults g.X.SecretStore.faults g.met.D.Disk.made_more g.met.X.SecretStore.made_more _ _ _ [] (picks_at_end c.args.life.now c.live-how.result)
          c.live-how.ensures.went c.end_life.ensures.went,
      life_lines _ _ _ _ _ _ _ _ _ its.0 its.1 its.2 c.end_life.ensures.ends,
    )

pub returns-clause-run : goal.returns-clause-run
returns-clause-run g c = λ disk secrets stands image here.
    life_closes _ _ _ _ _ _ _ _ _ image _ _ _ _ _ _ c.end_life.ensures.held c.end_life.ensures.fuse (c.live-how.ensures.run disk secrets stands image (c.end_life.ensures.narrows image here)) (c.end_life.ensures.ends [])

-- WHAT ELSE is handed on

pub live-how-requires-clause-form : goal.live-how-requires-clause-form
live-how-requires-clause-form g c = c.requires.form

pub live-how-requires-clause-checked : goal.live-how-requires-clause-checked
live-how-requires-clause-checked g c = c.requires.checked

pub live-how-requires-clause-here : goal.live-how-requires-clause-here
live-how-requires-clause-here g c = c.requires.here

pub live-how-requires-clause-bytes : goal.live-how-requires-clause-bytes
live-how-requires-clause-bytes g c = c.requires.bytes

pub returns-clause-stands : goal.returns-clause-stands
returns-clause-stands g c = c.end_life.ensures.stands

pub returns-clause-causes : goal.returns-clause-causes
returns-clause-causes g c = life_blames g.D.Disk.faults g.X.SecretStore.faults c.args.devices.now c.live-how.new.devices c.end_life.new.devices c.live-how.result c.end_life.result c.live-how.ensures.causes c.end_life.ensures.faulted c.end_life.ensures.same

pub returns-clause-found : goal.returns-clause-found
returns-clause-found g c = life_finds g.D.Disk.files (limits_of c.args.script.now).limit g.D.Disk.tells c.live-how.new.devices c.end_life.new.devices c.live-how.result c.end_life.result c.live-how.ensures.found c.end_life.ensures.faulted c.end_life.ensures.same

pub returns-clause-fit : goal.returns-clause-fit
returns-clause-fit g c = λ told fit. narrowed_fit (limits_of c.args.script.now).limit (g.D.Disk.image c.live-how.new.devices.disk.now) (g.D.Disk.image c.end_life.new.devices.disk.now) c.end_life.ensures.narrows (c.live-how.ensures.fit told fit)
