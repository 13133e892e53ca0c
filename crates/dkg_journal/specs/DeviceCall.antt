-- The calls that change a device: made to their end, cut within, or a stop between two of them.
use Rattle.std.specs.Prelude.{ℕ, Option, Some, None}

pub data DeviceCall (O : Type 0) : Type 0 where
  -- it was made, whatever it answered
  CallMade : O → DeviceCall O
  -- it was begun and cut, with this pick (or found no memory to begin, and changed nothing)
  CutIn : O → (pick : ℕ) → DeviceCall O
  -- the device stopped between two calls, with this pick
  Crashes : (pick : ℕ) → DeviceCall O

-- a call, and the pick of the fuse if that is reached at it
abbrev pub call_at : {O : Type 0} → Option ℕ → O → DeviceCall O
call_at None op = CallMade op
call_at (Some pick) op = CutIn op pick
