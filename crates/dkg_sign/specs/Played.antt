-- Deeds as a test lists them, the last in front.
use Rattle.std.specs.Prelude.{ℕ, Bool, true, false, List, map}
use Rattle.dkg_journal.specs.Names.{Files}
use Rattle.dkg_sign.specs.Desks.{Desk}
use Rattle.dkg_sign.specs.Lives.{DeskDeed, Registered, Signed, Covers, KeepsPromise}
use Rattle.dkg_sign.specs.Recorded.{IsAsLeft}

-- whether an epoch was registered, or else signed for
abbrev pub deed_of : Bool × ℕ → DeskDeed
deed_of (true, epoch) = Registered epoch
deed_of (false, epoch) = Signed epoch

abbrev pub desk_deeds : List (Bool × ℕ) → List DeskDeed
desk_deeds done = map deed_of done

-- A desk in the middle of a life, behind these deeds.
pub record IsPlaying (deeds : List DeskDeed) (desk : Desk) (files : Files) (image : Files → Type 0) : Type 0 where
  pub keeps : KeepsPromise deeds image
  pub covers : Covers desk.current deeds
  pub stands : IsAsLeft desk files image
