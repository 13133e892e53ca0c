-- What a desk has done over all its lives, and what a crash may leave of it.
use Rattle.std.specs.Prelude.{◌≤◌, ℕ, List, [], ◌∷◌, Option, Some, None, Result, Ok, Err}
use Rattle.dkg_journal.specs.Names.{Files}
use Rattle.dkg_sign.specs.Recorded.{recorded}
use Rattle.dkg_sign.specs.declared.error.DeskError.{DeskError}

-- A registration that was answered Ok, or a partial that was given. Deeds are listed with the last in front.
pub data DeskDeed : Type 0 where
  Registered : (epoch : ℕ) → DeskDeed
  Signed : (epoch : ℕ) → DeskDeed

-- no epoch above this one was registered
abbrev pub NoneAbove : (epoch : ℕ) → List DeskDeed → Type 0
NoneAbove epoch [] = Unit {0}
NoneAbove epoch (Registered e ∷ deeds) = (e ≤ epoch) × NoneAbove epoch deeds
NoneAbove epoch (Signed e ∷ deeds) = NoneAbove epoch deeds

-- no epoch was registered
abbrev pub NoneRegistered : List DeskDeed → Type 0
NoneRegistered [] = Unit {0}
NoneRegistered (Registered e ∷ deeds) = ⊥
NoneRegistered (Signed e ∷ deeds) = NoneRegistered deeds

-- The promise: no partial of an epoch is given after a registration of a later epoch was answered Ok.
abbrev pub NeverBack : List DeskDeed → Type 0
NeverBack [] = Unit {0}
NeverBack (Registered e ∷ deeds) = NeverBack deeds
NeverBack (Signed e ∷ deeds) = NoneAbove e deeds × NeverBack deeds

-- the greatest epoch known is no less than each that was registered
abbrev pub Covers : Option ℕ → List DeskDeed → Type 0
Covers None deeds = NoneRegistered deeds
Covers (Some epoch) deeds = NoneAbove epoch deeds

-- what a record says covers them; a desk does not open over one that is no epoch
abbrev pub RecordCovers : Result (Option ℕ) DeskError → List DeskDeed → Type 0
RecordCovers (Ok epoch) deeds = Covers epoch deeds
RecordCovers (Err e) deeds = Unit {0}

-- The promise was kept, and whatever a crash now leaves, the record covers what was registered.
pub record KeepsPromise (deeds : List DeskDeed) (image : Files → Type 0) : Type 0 where
  pub never_back : NeverBack deeds
  pub recorded : (c : Files) → image c → RecordCovers (recorded c) deeds

-- One deed more: the promise is kept with it too, and what covers those before covers it.
pub record KeptWith (deed : DeskDeed) (current : Option ℕ) (deeds : List DeskDeed) : Type 0 where
  pub never_back : NeverBack (deed ∷ deeds)
  pub covers : Covers current (deed ∷ deeds)
  pub recorded : (c : Files) → RecordCovers (recorded c) deeds → RecordCovers (recorded c) (deed ∷ deeds)

-- the deeds behind a registration with this answer
abbrev pub deeds_with_registered : Result (Unit {0}) DeskError → (epoch : ℕ) → List DeskDeed → List DeskDeed
deeds_with_registered (Ok done) epoch deeds = Registered epoch ∷ deeds
deeds_with_registered (Err e) epoch deeds = deeds
