-- What every transcript keeps, whatever ended its run: each acknowledgement is that of the one valid dealing recorded
-- for its dealer and epoch, and each opening gives the recorded dealings back.
use Rattle.std.specs.Prelude.{ℕ, List, ◌≡◌, ◌<◌, ◌-◌, ◌+◌, Some, None, IsFalse, IsSome, IsSomeAnd, MatchOption, Contains, length, fold, map, T}
use Rattle.std.specs.List.{AllByRecursion, list_any}
use Rattle.std.specs.FinMap.{get, is_sorted}
use Rattle.dkg_ceremony.specs.Acks.{ack_of}
use Rattle.dkg_journal.specs.Names.{Files}
use Rattle.dkg_journal.specs.Records.{entries}
use Rattle.dkg_secrets.specs.Keys.{key_cmp}
use Rattle.dkg_store.specs.Pairs.{Pairs, IsWhole}
use Rattle.dkg_store.specs.Recorded.{restored_list}
use Rattle.dkg_secrets.specs.Secrets.{Secrets}
use Rattle.dkg_infos.specs.declared.entry.Entry.{Entry}
use Rattle.dkg_infos.specs.declared.entry.Entry.TheVariants.{Opened, Recorded, Ack}
use Rattle.dkg_infos.specs.declared.entry.Restored.{Restored}
use Rattle.dkg_text.specs.declared.script.Event.{Event}
use Rattle.dkg_text.specs.declared.script.Event.TheVariants.{Peer}
use Rattle.dkg_text.specs.declared.script.Life.{Life}
use Rattle.dkg_script.specs.Readings.{dealing_in}
use Rattle.dkg_script.specs.Setting.{Setting, me, limits, life_at, recovered_from}
use Rattle.dkg_script.specs.Blocks.{round_at}
use Rattle.dkg_script.specs.Position.{event_of_step, awaited_epoch, begun, begun_before, cut_of}
use Rattle.dkg_script.specs.Progress.{Progress, progress, AtEachEntry, pair_of, with_restored, IsValid, IsBrought}
use Rattle.dkg_script.specs.Order.{InLife}
use Rattle.dkg_script.specs.Due.{is_ack}

-- RECORDED DEALINGS

-- The dealing is the one recorded for its key from then on, and where it is new, it was brought.
pub record IsRecordedAs (before after : List Restored) (pair : Restored) (Brought : Type 0) : Type 0 where
  pub first : pair_of before pair.epoch pair.dealer ≡ None → Brought
  pub stays : pair_of after pair.epoch pair.dealer ≡ Some pair

-- by the step in hand
abbrev pub IsBroughtNow : Setting → Progress → Restored → Type 0
IsBroughtNow s p pair = InLife s p (λ life. IsBrought s (length p.cuts) life p.step pair)

-- by the step within which the life that opened last was cut
abbrev pub IsBroughtAtCut : Setting → Progress → Restored → Type 0
IsBroughtAtCut s p pair =
    IsSomeAnd p.opened (λ l. IsSomeAnd (cut_of p.cuts l) (λ cut.
    (0 < cut.call) × IsSomeAnd (life_at s l) (λ life. IsBrought s l life cut.step pair)))

-- OPENINGS

-- the recorded dealings whose epoch is not yet two below one that has begun
abbrev pub AllCurrent : ℕ → (Restored → Type 0) → List Restored → Type 0
AllCurrent begun P pairs = AllByRecursion (λ pair. begun < pair.epoch + 2 → P pair) pairs

-- by epoch and dealer, rising
abbrev pub ArePairsRising : List Restored → Type 0
ArePairsRising pairs = T (is_sorted key_cmp (map (λ pair. ((pair.epoch, pair.dealer), pair)) pairs))

-- A later opening lists each recorded dealing that is still current, and nothing but recorded dealings, by epoch and
-- dealer rising.
pub record IsLaterOpening (s : Setting) (p : Progress) (restored : List Restored) : Type 0 where
  pub lists : AllCurrent (begun_before s p.cuts (length p.cuts)) (Contains restored) p.recorded
  pub rising : ArePairsRising restored
  pub sound : AllByRecursion (λ pair. IsRecordedAs p.recorded (fold with_restored p.recorded restored) pair (IsBroughtAtCut s p pair)) restored

-- the first opening lists what the devices handed in give back
abbrev pub IsSoundOpening : Setting → Progress → List Restored → Type 0
IsSoundOpening s p restored =
    MatchOption p.opened (restored ≡ restored_list (recovered_from s.files s.secrets)) (λ _. IsLaterOpening s p restored)

-- ACKNOWLEDGEMENTS

-- The event is a dealing of this dealer.
abbrev pub IsDealingFrom : Setting → ℕ → Event → Type 0
IsDealingFrom s dealer (Peer from bytes) = (from ≡ dealer) × IsSome (dealing_in (limits s) bytes)
IsDealingFrom s dealer _ = ⊥

-- The acknowledgement of the one valid dealing recorded for its dealer and epoch, in a step that brings a dealing of
-- this dealer.
pub record IsSoundAck (s : Setting) (p : Progress) (epoch dealer : ℕ) (ack : List ℕ) (life : Life) : Type 0 where
  pub event : IsSomeAnd (event_of_step life p.step) (IsDealingFrom s dealer)
  pub awaited : epoch ≡ awaited_epoch s (length p.cuts) life (p.step - 1)
  pub of_recorded : IsSomeAnd (pair_of p.recorded epoch dealer) (λ pair. IsValid s pair
      × IsSomeAnd (round_at s epoch) (λ round. ack ≡ ack_of (me s) round dealer pair.public))
  pub once : IsFalse (list_any is_ack p.written)

-- THE TRANSCRIPT, ENTRY BY ENTRY

-- what an entry may say after what was written before it (where it may stand is `Order.IsInOrder`)
abbrev pub IsSound : Setting → Progress → Entry → Type 0
IsSound s p (Opened life restored) = IsSoundOpening s p restored
IsSound s p (Recorded epoch dealer public private) =
    let pair : Restored = record { epoch = epoch; dealer = dealer; public = public; private = private }
    in IsRecordedAs p.recorded (with_restored p.recorded pair) pair (IsBroughtNow s p pair)
IsSound s p (Ack epoch dealer ack) = InLife s p (IsSoundAck s p epoch dealer ack)
IsSound s p other = Unit {0}

-- THE DEVICES

-- both halves of the dealing are among these
abbrev pub Gives : Pairs → Restored → Type 0
Gives pairs pair = get pairs (pair.epoch, pair.dealer) ≡ Some (pair.public, pair.private)

-- Whatever a crash now leaves is whole, and gives back each recorded dealing that is still current.
pub record IsDurable (s : Setting) (p : Progress) (image : Files → Type 0) (secrets : Secrets) : Type 0 where
  pub whole : (c : Files) → image c → IsWhole (entries c) secrets
  pub gives : (c : Files) → image c → AllCurrent (begun s p.cuts (length p.cuts) p.step) (Gives (recovered_from c secrets)) p.recorded

-- THE PROMISE, of a transcript, of what a crash may now leave of the disk, and of what the secret store now holds
pub record Kept (s : Setting) (out : List Entry) (image : Files → Type 0) (secrets : Secrets) : Type 0 where
  pub each : AtEachEntry s (IsSound s) out
  pub durable : IsDurable s (progress s out) image secrets
