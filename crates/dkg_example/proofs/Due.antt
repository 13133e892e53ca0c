-- What an error that the node hands on is due to.
use Rattle.std.proofs.Common.{◌≡◌, ◌⊎◌, inl, inr, ℕ}
use Rattle.dkg_infos.specs.declared.directory.Unit.{Unit as Directory}
use Rattle.dkg_store.specs.Both.{IsWant}
use Rattle.dkg_store.specs.Called.{ErrorIsDue}
use Rattle.dkg_store.specs.declared.call.StoreError.{StoreError}
use Rattle.dkg_store.specs.declared.call.StoreError.TheVariants.{Disk, Secrets, Corrupt, LocalState, StateSyncEpochs, StateSyncMaterial, Cut, NoMemory}
use Rattle.dkg_store.specs.declared.devices.Devices.{Devices}
use Rattle.dkg_store.specs.declared.player.Player.{Player}
use Rattle.dkg_store.specs.declared.store.Store.{Store}
use Rattle.dkg_example.specs.declared.Node.{Node}

-- causes that say more
due_less : (e : StoreError) (disk secrets a cut b want less : Type 0) → (want → less) → ErrorIsDue e disk (secrets × a) (cut × b) want → ErrorIsDue e disk secrets cut less
due_less Disk disk secrets a cut b want less so due = due
due_less Secrets disk secrets a cut b want less so due = due.0
due_less Cut disk secrets a cut b want less so due = due.0
due_less NoMemory disk secrets a cut b want less so due = so due
due_less (Corrupt name place) disk secrets a cut b want less so due = due
due_less (LocalState cause) disk secrets a cut b want less so due = due
due_less (StateSyncEpochs info floor) disk secrets a cut b want less so due = due
due_less StateSyncMaterial disk secrets a cut b want less so due = due

want_by : {U V W : Type 0} → (U → V) → U ⊎ W → V ⊎ W
want_by same (inl is) = inl (same is)
want_by same (inr is) = inr is

want_less : (U V : Type 0) (disk disk_now secrets secrets_now : ℕ) → (U → V) → IsWant U disk disk_now secrets secrets_now → IsWant V disk disk_now secrets secrets_now
want_less U V disk disk_now secrets secrets_now same want = record { so = want_by same want.so }

same_node : (node : Node) (player : Player) (store : Store Directory) → player ≡ node.player → store ≡ node.store → ◌≡◌ {A = Node} (record { store = store; player = player; epoch = node.epoch; limit = node.limit }) node
same_node node player store same_player same_store = λ i. record { store = same_store i; player = same_player i; epoch = node.epoch; limit = node.limit }

-- An error of the player's handling is the node's.
pub node_due : {D X : Type 0} (e : StoreError) (disk secrets a cut b : Type 0) (node : Node) (player : Player) (store : Store Directory) (old new : Devices D X) (v w x y : ℕ)
    → ErrorIsDue e disk (secrets × a) (cut × b) (IsWant ((player ≡ node.player) × (store ≡ node.store) × (new ≡ old)) v w x y)
    → ErrorIsDue e disk secrets cut (IsWant ((◌≡◌ {A = Node} (record { store = store; player = player; epoch = node.epoch; limit = node.limit }) node) × (new ≡ old)) v w x y)
node_due {D} {X} e disk secrets a cut b node player store old new v w x y due =
    due_less e disk secrets a cut b (IsWant ((player ≡ node.player) × (store ≡ node.store) × (new ≡ old)) v w x y)
    (IsWant ((◌≡◌ {A = Node} (record { store = store; player = player; epoch = node.epoch; limit = node.limit }) node) × (new ≡ old)) v w x y)
    (want_less ((player ≡ node.player) × (store ≡ node.store) × (new ≡ old)) ((◌≡◌ {A = Node} (record { store = store; player = player; epoch = node.epoch; limit = node.limit }) node) × (new ≡ old)) v w x y
    (λ all. (same_node node player store all.0 all.1, all.2))) due
