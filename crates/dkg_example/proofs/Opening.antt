-- What an opening of the node comes to.
use Rattle.std.proofs.Common.{◌≡◌, ◌⊎◌, inl, inr, ℕ, Bool, List, Some, Result, refl, subst, sym, ap, ◌∙◌}
use Rattle.std.specs.Prelude.{◌-◌, nat_le, not}
use Rattle.std.specs.FinMap.{retain_keys}
use Rattle.dkg_ceremony.specs.declared.ceremony.DealingError.{DealingError}
use Rattle.dkg_infos.specs.declared.fault.LocalCause.TheVariants.{StoredDealing}
use Rattle.dkg_journal.specs.Records.{SectionEntry}
use Rattle.dkg_secrets.specs.Secrets.{Secrets}
use Rattle.dkg_store.specs.Noted.{Notes, logs_in}
use Rattle.dkg_store.specs.Pairs.{Pairs, recovered}
use Rattle.dkg_store.specs.Player.{has_orphan}
use Rattle.dkg_store.specs.Recorded.{at_epoch, bare_logs, first_refused, of_epoch}
use Rattle.dkg_store.specs.declared.call.StoreError.{StoreError}
use Rattle.dkg_store.specs.declared.call.StoreError.TheVariants.{LocalState, NoMemory}
use Rattle.dkg_store.specs.declared.recorded_log.RecordedLog.{RecordedLog}
use Rattle.dkg_values.specs.declared.name.Name.{Name}
use Rattle.dkg_ceremony.specs.declared.dealer_log.DealerLog.{DealerLog}
use Rattle.dkg_example.specs.Sent.{NamesRefused, OpensDue, lost_dealing, since_below}

-- what is kept of what there was
pub kept_since : {V : Type 0} (epoch min : ℕ) (was now is : Notes V) → now ≡ retain_keys was (λ key. nat_le min key.0) → min ≡ epoch - 1 → was ≡ is → now ≡ since_below epoch is
kept_since {V} epoch min was now is kept low same = kept ∙ (λ i. retain_keys (same i) (λ key. nat_le (low i) key.0))

-- an error of the making of its player, over these dealings
pub due_playing : (Q : Type 0) (record_at : Name → ℕ → Type 0) (tells also : Type 0) (check : ℕ → List ℕ → ℕ → Result (Unit {0}) DealingError) (epoch : ℕ) (es : List SectionEntry) (held : Secrets) (pairs : Pairs) (e : StoreError) (disk secrets cut : Type 0)
    → (tells → also → pairs ≡ since_below epoch (recovered es held))
    → (e ≡ NoMemory) ⊎ ((dealer : ℕ) × (e ≡ LocalState (StoredDealing epoch dealer)) × (first_refused check (of_epoch epoch pairs) ≡ Some dealer) × Q)
    → OpensDue record_at (NamesRefused (tells × also) check epoch es held) e disk secrets cut
due_playing Q record_at tells also check epoch es held pairs e disk secrets cut are (inl none) = subst (λ (x : StoreError). OpensDue record_at (NamesRefused (tells × also) check epoch es held) x disk secrets cut) (sym none) tt
due_playing Q record_at tells also check epoch es held pairs e disk secrets cut are (inr is) =
    subst (λ (x : StoreError). OpensDue record_at (NamesRefused (tells × also) check epoch es held) x disk secrets cut) (sym is.1)
    (record { dealer = is.0; cause_is = refl; first = λ told. ap (λ (m : Pairs). first_refused check (of_epoch epoch m)) (sym (are told.0 told.1)) ∙ is.2 })

-- whether it is made
pub none_lost : (tells also : Type 0) (bears : ℕ → DealerLog → Bool) (epoch : ℕ) (es : List SectionEntry) (held : Secrets) (pairs : Pairs) (logs : Notes RecordedLog) (made : Bool)
    → (tells → also → pairs ≡ since_below epoch (recovered es held)) → (tells → also → logs ≡ since_below epoch (logs_in es))
    → made ≡ not (has_orphan bears (at_epoch epoch pairs) (bare_logs (at_epoch epoch logs))) → tells → also → made ≡ not (lost_dealing bears epoch es held)
none_lost tells also bears epoch es held pairs logs made dealings noted is = λ told too.
    is ∙ (λ i. not (has_orphan bears (at_epoch epoch (dealings told too i)) (bare_logs (at_epoch epoch (noted told too i)))))
