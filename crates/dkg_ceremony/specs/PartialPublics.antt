-- What of a player's share can be seen by all.
use Rattle.std.specs.Prelude.{ℕ, ◌+◌, Option, option_map}
use Rattle.dkg_values.specs.Rising.{index_of}
use Rattle.dkg_ceremony.specs.declared.output.Output.{Output}
use Rattle.dkg_ceremony.specs.Polynomials.{value_at}

-- a share's public element: here it is the share's number
abbrev pub share_public_of : ℕ → ℕ
share_public_of share = share

-- the value of an output's polynomial at the point of a player, where it is one
unfoldable pub partial_public_of : Output → (player : ℕ) → Option ℕ
partial_public_of output player = option_map (λ index. value_at output.sharing.poly (index + 1)) (index_of player output.players)
