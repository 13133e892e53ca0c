-- What lives make of the devices, one call behind another.
use Rattle.std.proofs.Common.{◌≡◌, ◌++◌, ◌∷◌, [], ℕ, Bool, List, Option, Some, None, refl, ◌∙◌, ap, arith}
use Rattle.dkg_journal.specs.Burn.{Burn}
use Rattle.dkg_journal.specs.DeviceCall.{DeviceCall, CallMade, CutIn, Crashes, call_at}
use Rattle.dkg_journal.specs.Fuse.{calls_in, pick_now, spent_once}
use Rattle.dkg_journal.specs.declared.disk.Op.{Op}
use Rattle.dkg_store.specs.Both.{EitherOp, disk_calls, on_disk, on_secrets, secret_calls}
use Rattle.dkg_store.specs.declared.devices.Devices.{Devices}
use Rattle.dkg_secrets.specs.declared.secrets.SecretOp.{SecretOp}
use Rattle.dkg_life.specs.Moved.{Moved}
use Rattle.dkg_lives.specs.Moving.{Went}
use Rattle.dkg_lives.specs.Stopped.{stops_in}

-- STOPS AMONG CALLS

stops_then : {O : Type 0} (xs ys : List (DeviceCall O)) → stops_in (xs ++ ys) ≡ stops_in xs ++ stops_in ys
stops_then [] ys = refl
stops_then (CallMade op ∷ xs) ys = stops_then xs ys
stops_then (CutIn op pick ∷ xs) ys = stops_then xs ys
stops_then (Crashes pick ∷ xs) ys = ap (λ (l : List ℕ). pick ∷ l) (stops_then xs ys)

-- calls that a fuse counts stop nothing between two of them
disk_at : (pick : Option ℕ) (op : EitherOp) (calls : List (DeviceCall EitherOp)) → stops_in (disk_calls calls) ≡ [] → stops_in (disk_calls (call_at pick op ∷ calls)) ≡ []
disk_at None (on_disk op) calls is = is
disk_at None (on_secrets op) calls is = is
disk_at (Some pick) (on_disk op) calls is = is
disk_at (Some pick) (on_secrets op) calls is = is

secrets_at : (pick : Option ℕ) (op : EitherOp) (calls : List (DeviceCall EitherOp)) → stops_in (secret_calls calls) ≡ [] → stops_in (secret_calls (call_at pick op ∷ calls)) ≡ []
secrets_at None (on_disk op) calls is = is
secrets_at None (on_secrets op) calls is = is
secrets_at (Some pick) (on_disk op) calls is = is
secrets_at (Some pick) (on_secrets op) calls is = is

no_disk_stop : (f : Burn) (calls : List EitherOp) → stops_in (disk_calls (calls_in f calls)) ≡ []
no_disk_stop f [] = refl
no_disk_stop f (op ∷ ops) = disk_at (pick_now f) op (calls_in (spent_once f) ops) (no_disk_stop (spent_once f) ops)

no_secret_stop : (f : Burn) (calls : List EitherOp) → stops_in (secret_calls (calls_in f calls)) ≡ []
no_secret_stop f [] = refl
no_secret_stop f (op ∷ ops) = secrets_at (pick_now f) op (calls_in (spent_once f) ops) (no_secret_stop (spent_once f) ops)

-- ONE BEHIND ANOTHER

module _ {D X : Type 0} (tells : Bool) (disk : D → D → List (DeviceCall Op) → Type 0) (secrets : X → X → List (DeviceCall SecretOp) → Type 0) (disk_faults : D → ℕ) (secret_faults : X → ℕ) where
  -- (the fuse is no part of it)
  pub went_none : ((a : D) → disk a a []) → ((a : X) → secrets a a []) → (old new : Devices D X) → new.disk ≡ old.disk → new.secrets ≡ old.secrets
      → Went tells disk secrets disk_faults secret_faults old new []
  went_none no_disk no_secrets old new same_disk same_secrets = record {
    same_disk = rw same_disk refl;
    same_secrets = rw same_secrets refl;
    later_disk = rw same_disk (omega arith);
    later_secrets = rw same_secrets (omega arith);
    stopped = λ told. record {
      disk_calls = [];
      secret_calls = [];
      on_disk = rw same_disk (no_disk old.disk.now);
      on_secrets = rw same_secrets (no_secrets old.secrets.now);
      disk_stops = refl;
      secret_stops = refl;
    };
  }

  pub went_moved : (old new : Devices D X) → Moved tells disk secrets disk_faults secret_faults old new → Went tells disk secrets disk_faults secret_faults old new []
  went_moved old new moved = record {
    same_disk = moved.same_disk;
    same_secrets = moved.same_secrets;
    later_disk = moved.later_disk;
    later_secrets = moved.later_secrets;
    stopped = λ told.
        let ran = moved.ran told in
        record {
          disk_calls = disk_calls (calls_in old.fuse ran.0);
          secret_calls = secret_calls (calls_in old.fuse ran.0);
          on_disk = ran.1.each.on_the_disk;
          on_secrets = ran.1.each.on_the_secrets;
          disk_stops = no_disk_stop old.fuse ran.0;
          secret_stops = no_secret_stop old.fuse ran.0;
        };
  }

  pub went_then : ((a b c : D) (xs ys : List (DeviceCall Op)) → disk a b xs → disk b c ys → disk a c (xs ++ ys))
      → ((a b c : X) (xs ys : List (DeviceCall SecretOp)) → secrets a b xs → secrets b c ys → secrets a c (xs ++ ys))
      → (old mid new : Devices D X) (picks more : List ℕ) → Went tells disk secrets disk_faults secret_faults old mid picks → Went tells disk secrets disk_faults secret_faults mid new more
      → Went tells disk secrets disk_faults secret_faults old new (picks ++ more)
  went_then more_disk more_secrets old mid new picks more first second = record {
    same_disk = second.same_disk ∙ first.same_disk;
    same_secrets = second.same_secrets ∙ first.same_secrets;
    later_disk = omega (arith, first.later_disk, second.later_disk);
    later_secrets = omega (arith, first.later_secrets, second.later_secrets);
    stopped = λ told.
        let a = first.stopped told in
        let b = second.stopped told in
        record {
          disk_calls = a.disk_calls ++ b.disk_calls;
          secret_calls = a.secret_calls ++ b.secret_calls;
          on_disk = more_disk _ _ _ a.disk_calls b.disk_calls a.on_disk b.on_disk;
          on_secrets = more_secrets _ _ _ a.secret_calls b.secret_calls a.on_secrets b.on_secrets;
          disk_stops = stops_then a.disk_calls b.disk_calls ∙ ap (λ (l : List ℕ). l ++ stops_in b.disk_calls) a.disk_stops ∙ ap (λ (l : List ℕ). picks ++ l) b.disk_stops;
          secret_stops = stops_then a.secret_calls b.secret_calls ∙ ap (λ (l : List ℕ). l ++ stops_in b.secret_calls) a.secret_stops ∙ ap (λ (l : List ℕ). picks ++ l) b.secret_stops;
        };
  }
