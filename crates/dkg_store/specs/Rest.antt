-- What a store keeps beside the dealings.
use Rattle.std.specs.Prelude.{◌≡◌, ℕ, nat_le, Bool, List, Option}
use Rattle.std.specs.FinMap.{insert, retain_keys}
use Rattle.dkg_store.specs.Called.{if_made}
use Rattle.dkg_store.specs.declared.recorded_log.RecordedLog.{RecordedLog}
use Rattle.dkg_store.specs.declared.store.Store.{Store}

-- all of it is as it was
pub record SameRest {Dir : Type 0} (old new : Store Dir) : Type 0 where
  pub acks : new.acks ≡ old.acks
  pub logs : new.logs ≡ old.logs
  pub restored : new.restored ≡ old.restored
  pub current : new.current ≡ old.current

-- .. and the dealing of a key is recorded, where the call ended in that
pub record KeepsPair {Dir : Type 0} (ends : Option Bool) (key : ℕ × ℕ) (pair : List ℕ × ℕ) (old new : Store Dir) : Type 0 where
  pub pairs : new.dealings ≡ if_made ends (insert old.dealings key pair) old.dealings
  pub rest : SameRest old new

-- .. or an acknowledgement
pub record KeepsAck {Dir : Type 0} (ends : Option Bool) (key : ℕ × ℕ) (ack : List ℕ) (old new : Store Dir) : Type 0 where
  pub acks : new.acks ≡ if_made ends (insert old.acks key ack) old.acks
  pub logs : new.logs ≡ old.logs
  pub dealings : new.dealings ≡ old.dealings
  pub restored : new.restored ≡ old.restored
  pub current : new.current ≡ old.current

-- .. or a log
pub record KeepsLog {Dir : Type 0} (ends : Option Bool) (key : ℕ × ℕ) (log : RecordedLog) (old new : Store Dir) : Type 0 where
  pub logs : new.logs ≡ if_made ends (insert old.logs key log) old.logs
  pub acks : new.acks ≡ old.acks
  pub dealings : new.dealings ≡ old.dealings
  pub restored : new.restored ≡ old.restored
  pub current : new.current ≡ old.current

-- what lies at or above a minimum is kept, where the call ended
pub record KeepsAbove {Dir : Type 0} (ends : Option Bool) (min : ℕ) (old new : Store Dir) : Type 0 where
  pub dealings : new.dealings ≡ if_made ends (retain_keys old.dealings (λ key. nat_le min key.0)) old.dealings
  pub acks : new.acks ≡ if_made ends (retain_keys old.acks (λ key. nat_le min key.0)) old.acks
  pub logs : new.logs ≡ if_made ends (retain_keys old.logs (λ key. nat_le min key.0)) old.logs
  pub restored : new.restored ≡ old.restored
  pub current : new.current ≡ old.current
