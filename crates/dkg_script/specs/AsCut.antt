-- A script as it was cut: what lies behind the step within which a life was cut never came, so it is none of the script's.
use Rattle.std.specs.Prelude.{List, [], ◌∷◌, Option, None, Some, ◌==◌, if◌then◌else◌, take}
use Rattle.dkg_journal.specs.Names.{Files}
use Rattle.dkg_secrets.specs.Secrets.{Secrets}
use Rattle.dkg_infos.specs.declared.entry.Entry.{Entry}
use Rattle.dkg_text.specs.declared.script.Event.{Event}
use Rattle.dkg_text.specs.declared.script.Life.{Life}
use Rattle.dkg_text.specs.declared.script.Script.{Script}
use Rattle.dkg_script.specs.Setting.{Setting, CutAt, setting_of}
use Rattle.dkg_script.specs.Progress.{progress}

-- The events up to the step within which a life was cut, that step's own among them. (Of a life that is cut before a step the script itself tells to
-- which events it comes.)
abbrev pub cut_within : Option CutAt → List Event → List Event
cut_within None events = events
cut_within (Some at) events = if at.call == 0 then events else take at.step events

abbrev pub life_as_cut : Option CutAt → Life → Life
life_as_cut end life = record life { events = cut_within end life.events }

-- the first lives ended so, and the others as the script has them
abbrev pub lives_as_cut : List (Option CutAt) → List Life → List Life
lives_as_cut [] lives = lives
lives_as_cut (end ∷ ends) [] = []
lives_as_cut (end ∷ ends) (life ∷ lives) = life_as_cut end life ∷ lives_as_cut ends lives

abbrev pub as_cut : List (Option CutAt) → Script → Script
as_cut ends script = record script { lives = lives_as_cut ends script.lives }

-- the same of what a run is judged against
abbrev pub with_cuts : List (Option CutAt) → Setting → Setting
with_cuts ends s = record s { script = as_cut ends s.script }

-- What a transcript is judged against: the script, cut where the transcript says that its lives were.
abbrev pub setting_as_cut : Script → Files → Secrets → List Entry → Setting
setting_as_cut script files secrets out = with_cuts (progress (setting_of script files secrets) out).cuts (setting_of script files secrets)
