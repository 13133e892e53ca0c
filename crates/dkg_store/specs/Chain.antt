-- Four calls of a store, one after another: what a caller makes of their acts.
use Rattle.std.specs.Prelude.{ℕ, Bool, true, false}
use Rattle.std.specs.Option.{is_some}
use Rattle.dkg_journal.specs.Records.{SectionEntry}
use Rattle.dkg_store.specs.Acts.{Acts, Goes, bind}
use Rattle.dkg_store.specs.Calls.{sharing, noting, pruning}
use Rattle.dkg_store.specs.declared.call.StoreError.{StoreError}

-- a dealing is recorded, something is noted, and what is below the epoch is pruned; nothing, where the epoch has a share
abbrev pub taken_by : (had : Bool) → (dealing : Acts StoreError Bool) → (known : Bool) → SectionEntry → (epoch : ℕ) → Acts StoreError Bool
taken_by true dealing known e epoch = Goes false
taken_by false dealing known e epoch = bind dealing (λ new. bind (noting known e) (λ noted. bind (pruning epoch) (λ gone. Goes new)))

abbrev pub taking : (dealing : Acts StoreError Bool) → (known : Bool) → SectionEntry → (epoch : ℕ) → Acts StoreError Bool
taking dealing known e epoch = bind (sharing epoch) (λ had. taken_by (is_some had) dealing known e epoch)
