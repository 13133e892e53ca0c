-- An output's parts are all that its spelling asks, but the limit and the version.
use Rattle.std.specs.Prelude.{◌≡◌, ℕ, length}
use Rattle.dkg_values.specs.Lists.{SetFits}
use Rattle.dkg_ceremony.specs.declared.output.Output.{Output}
use Rattle.dkg_ceremony.specs.Outputs.{OutputFits}
use Rattle.dkg_ceremony.specs.Sharings.{SharingFits}

pub output_fits : (most version : ℕ) (o : Output) → length o.summary ≡ 8 → SharingFits most version o.sharing → SetFits most o.dealers → SetFits most o.players → SetFits most o.revealed → OutputFits most version o
output_fits most version o mark sharing dealers players revealed = record { one = mark; other = record { one = sharing; other = record { one = dealers; other = record { one = players; other = revealed } } } }
