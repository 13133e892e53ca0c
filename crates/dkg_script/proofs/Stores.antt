-- Devices that keep one recorded dealing.
use Rattle.std.proofs.Common.{◌≡◌, ℕ, List, [], ◌∷◌, Some, refl, sym, subst}
use Rattle.std.specs.Prelude.{length}
use Rattle.std.specs.FinMap.{get, empty, get-from_entries}
use Rattle.dkg_values.specs.Bytes.{byte_at}
use Rattle.dkg_values.specs.Codec.{many_at}
use Rattle.dkg_values.specs.Uint.{groups_at}
use Rattle.dkg_journal.specs.Names.{Files}
use Rattle.dkg_journal.specs.Records.{entries, read32, read64}
use Rattle.dkg_store.specs.Events.{event_after}
use Rattle.dkg_store.specs.Pairs.{IsWhole, recorded_dealing}
use Rattle.dkg_secrets.specs.Secrets.{Secrets}
use Rattle.dkg_secrets.proofs.Map.{keys_total}
use Rattle.dkg_store.proofs.Pairs.{get_here}
use Rattle.dkg_infos.specs.declared.entry.Restored.{Restored}
use Rattle.dkg_script.specs.Setting.{Setting, recovered_from}
use Rattle.dkg_script.specs.Position.{begun}
use Rattle.dkg_script.specs.Progress.{Progress}
use Rattle.dkg_script.specs.Kept.{IsDurable, AllCurrent, Gives}
use Rattle.dkg_script.proofs.Worked.{body, flat, files_of, secrets_of, entries_are, OnlyThese}

-- dealer 2's dealing 15 + (middle)x + x², recorded in an epoch
abbrev pub pair_in : (epoch middle private : ℕ) → Restored
pair_in epoch middle private = record { epoch = epoch; dealer = 2; public = 15 ∷ middle ∷ 1 ∷ []; private = private }

-- what the journal and the secret store hold of it
pub record Stored (files : Files) (secrets : Secrets) (pair : Restored) : Type 0 where
  pub body : List ℕ
  pub entry : entries files ≡ (pair.epoch, body) ∷ []
  pub dealing : recorded_dealing (pair.epoch, body) ≡ Some (record { key = (pair.epoch, pair.dealer); public = pair.public })
  pub half : get secrets.privates (pair.epoch, pair.dealer) ≡ Some pair.private

module _ (files : Files) (secrets : Secrets) (pair : Restored) (h : Stored files secrets pair) where
  pub is_whole : IsWhole (entries files) secrets
  is_whole = rw (h.entry, h.dealing, h.half) (refl, tt)

  pub is_given : Gives (recovered_from files secrets) pair
  is_given = rw (h.entry, h.dealing, h.half) (get_here empty (pair.epoch, pair.dealer) (pair.public, pair.private))

  -- a crash that leaves these files leaves it
  pub is_durable : (s : Setting) (p : Progress) → AllCurrent (begun s p.cuts (length p.cuts) p.step) (Gives (recovered_from files secrets)) p.recorded → IsDurable s p (OnlyThese files) secrets
  is_durable s p given = record {
    whole = λ c is. subst (λ (f : Files). IsWhole (entries f) secrets) (sym is) is_whole;
    gives = λ c is. subst (λ (f : Files). AllCurrent (begun s p.cuts (length p.cuts) p.step) (Gives (recovered_from f secrets)) p.recorded) (sym is) given;
  }

-- the bytes of each
pub stored_seven : Stored (files_of (Some (flat 1 0 7))) (secrets_of (((0, 2), 23) ∷ [])) (pair_in 0 7 23)
unfolding read32 read64 many_at groups_at byte_at event_after
stored_seven = record { body = body 7; entry = entries_are (flat 1 0 7); dealing = refl; half = get-from_entries keys_total (((0, 2), 23) ∷ []) (0, 2) }

pub stored_nine : Stored (files_of (Some (flat 1 0 9))) (secrets_of (((0, 2), 25) ∷ [])) (pair_in 0 9 25)
unfolding read32 read64 many_at groups_at byte_at event_after
stored_nine = record { body = body 9; entry = entries_are (flat 1 0 9); dealing = refl; half = get-from_entries keys_total (((0, 2), 25) ∷ []) (0, 2) }

pub stored_next : Stored (files_of (Some (flat 1 1 7))) (secrets_of (((1, 2), 23) ∷ [])) (pair_in 1 7 23)
unfolding read32 read64 many_at groups_at byte_at event_after
stored_next = record { body = body 7; entry = entries_are (flat 1 1 7); dealing = refl; half = get-from_entries keys_total (((1, 2), 23) ∷ []) (1, 2) }
