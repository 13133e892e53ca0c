-- The players that a script's lines give the epochs.
use Rattle.std.specs.Prelude.{ℕ, ◌==◌, List, [], find, map}
use Rattle.std.specs.Option.{option_map_or}
use Rattle.dkg_text.specs.declared.script.PlayerLine.{PlayerLine}

-- the players of an epoch; without a line of it there are none
abbrev pub players_at : List PlayerLine → (epoch : ℕ) → List ℕ
players_at lines epoch = option_map_or (λ line. line.players) (find (λ line. line.epoch == epoch) lines) []

-- the epochs that have a line
abbrev pub epochs_of : List PlayerLine → List ℕ
epochs_of lines = map (λ line. line.epoch) lines
