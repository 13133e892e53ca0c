-- Calls that only look at the devices, one behind another.
use Rattle.std.proofs.Common.{ℕ, Bool, List, refl, ◌∙◌}
use Rattle.dkg_secrets.specs.Secrets.{Secrets}
use Rattle.dkg_store.specs.declared.devices.Devices.{Devices}
use Rattle.dkg_verifying.specs.Looks.{OnlyLooks}

module _ {L D X Dir : Type 0} {holds : X → Secrets} {tells : Bool} where
  -- nothing was done
  pub looked : {was : L} {devices : Devices D X} {participants : ℕ → List ℕ} {directory : ℕ → List ℕ → Dir}
      → OnlyLooks was was holds devices devices tells participants participants directory directory
  looked = record { same = refl; disk = refl; held = refl; provider = λ told. (λ epoch. refl, λ epoch peers. refl) }

  pub looked_then : {was mid now : L} {old between new : Devices D X} {participants participants_mid participants_now : ℕ → List ℕ} {directory directory_mid directory_now : ℕ → List ℕ → Dir}
      → OnlyLooks was mid holds old between tells participants participants_mid directory directory_mid
      → OnlyLooks mid now holds between new tells participants_mid participants_now directory_mid directory_now
      → OnlyLooks was now holds old new tells participants participants_now directory directory_now
  looked_then first next = record {
    same = next.same ∙ first.same;
    disk = next.disk ∙ first.disk;
    held = next.held ∙ first.held;
    provider = λ told. (λ epoch. (next.provider told).0 epoch ∙ (first.provider told).0 epoch, λ epoch peers. (next.provider told).1 epoch peers ∙ (first.provider told).1 epoch peers);
  }
