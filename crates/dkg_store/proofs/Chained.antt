-- Four calls one after another, as the acts of one.
use Rattle.std.proofs.Common.{◌≡◌, ℕ, Bool, false, sym, subst}
use Rattle.dkg_journal.specs.Names.{Files}
use Rattle.dkg_journal.specs.Records.{SectionEntry}
use Rattle.dkg_store.specs.Acts.{Acts, bind, Ended, Moment, MadeAt}
use Rattle.dkg_store.specs.Calls.{by_error, noting}
use Rattle.dkg_store.specs.Chain.{taken_by}
use Rattle.dkg_store.specs.declared.call.StoreError.{StoreError}
use Rattle.dkg_store.specs.declared.call.StoreError.TheVariants.{Disk, Secrets, Corrupt, LocalState, StateSyncEpochs, StateSyncMaterial, Cut, NoMemory}
use Rattle.dkg_store.proofs.Acts.{made_broken, made_stopped}

module _ {S T : Type 0} {acts : Acts StoreError S} (next : S → Acts StoreError T) {files files_now : Files} {image now : Files → Type 0} {old new : Moment} where
  -- A call that ends by an error ends all that stands behind it, by the same.
  pub ends_early : (e : StoreError) → MadeAt acts (by_error e) files image files_now now old new → MadeAt (bind acts next) (by_error e) files image files_now now old new
  ends_early Disk made = made_broken next made
  ends_early Secrets made = made_broken next made
  ends_early Cut made = made_broken next made
  ends_early NoMemory made = made_broken next made
  ends_early (Corrupt name place) made = made_stopped next made
  ends_early (LocalState cause) made = made_stopped next made
  ends_early (StateSyncEpochs info floor) made = made_stopped next made
  ends_early StateSyncMaterial made = made_stopped next made

module _ {how : Ended StoreError Bool} {files files_now : Files} {image now : Files → Type 0} {old new : Moment} where
  -- there was no share
  pub not_had : (dealing : Acts StoreError Bool) (known : Bool) (e : SectionEntry) (epoch : ℕ) (had : Bool) → had ≡ false
      → MadeAt (taken_by false dealing known e epoch) how files image files_now now old new → MadeAt (taken_by had dealing known e epoch) how files image files_now now old new
  not_had dealing known e epoch had is made = subst (λ (b : Bool). MadeAt (taken_by b dealing known e epoch) how files image files_now now old new) (sym is) made

  -- the same is known
  pub as_known : (next : Bool → Acts StoreError Bool) (known known_too : Bool) (e : SectionEntry) → known ≡ known_too
      → MadeAt (bind (noting known_too e) next) how files image files_now now old new → MadeAt (bind (noting known e) next) how files image files_now now old new
  as_known next known known_too e is made = subst (λ (b : Bool). MadeAt (bind (noting b e) next) how files image files_now now old new) (sym is) made
