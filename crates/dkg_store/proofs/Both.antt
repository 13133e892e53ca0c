-- The changing calls of both devices, one after another.
use Rattle.std.proofs.Common.{◌≡◌, ℕ, Option, Some, None, List, [], ◌∷◌, ◌++◌, map, refl, sym, ◌∙◌, ap, subst}
use Rattle.std.proofs.lemmas.List.{map-append}
use Rattle.dkg_journal.specs.Burn.{Burn}
use Rattle.dkg_journal.specs.DeviceCall.{DeviceCall, CallMade, CutIn, Crashes, call_at}
use Rattle.dkg_journal.specs.Fuse.{Ran, RanAll, burned, calls_in, pick_now, spent_once}
use Rattle.dkg_journal.specs.declared.disk.Op.{Op}
use Rattle.dkg_secrets.specs.declared.secrets.SecretOp.{SecretOp}
use Rattle.dkg_store.specs.Both.{EitherOp, on_disk, on_secrets, disk_calls, secret_calls, MadeBoth}

-- a call of one device, made or cut
at_disk : (pick : Option ℕ) (op : Op) (calls : List (DeviceCall EitherOp)) → disk_calls (call_at pick (on_disk op) ∷ calls) ≡ call_at pick op ∷ disk_calls calls
at_disk None op calls = refl
at_disk (Some pick) op calls = refl

not_at_disk : (pick : Option ℕ) (op : SecretOp) (calls : List (DeviceCall EitherOp)) → disk_calls (call_at pick (on_secrets op) ∷ calls) ≡ disk_calls calls
not_at_disk None op calls = refl
not_at_disk (Some pick) op calls = refl

at_secrets : (pick : Option ℕ) (op : SecretOp) (calls : List (DeviceCall EitherOp)) → secret_calls (call_at pick (on_secrets op) ∷ calls) ≡ call_at pick op ∷ secret_calls calls
at_secrets None op calls = refl
at_secrets (Some pick) op calls = refl

not_at_secrets : (pick : Option ℕ) (op : Op) (calls : List (DeviceCall EitherOp)) → secret_calls (call_at pick (on_disk op) ∷ calls) ≡ secret_calls calls
not_at_secrets None op calls = refl
not_at_secrets (Some pick) op calls = refl

pub disk_calls-map : (xs : List Op) (f : Burn) → disk_calls (calls_in f (map on_disk xs)) ≡ calls_in f xs
disk_calls-map [] f = refl
disk_calls-map (x ∷ xs) f = at_disk (pick_now f) x (calls_in (spent_once f) (map on_disk xs)) ∙ ap (λ (l : List (DeviceCall Op)). call_at (pick_now f) x ∷ l) (disk_calls-map xs (spent_once f))

pub secret_calls-map : (xs : List Op) (f : Burn) → secret_calls (calls_in f (map on_disk xs)) ≡ []
secret_calls-map [] f = refl
secret_calls-map (x ∷ xs) f = not_at_secrets (pick_now f) x (calls_in (spent_once f) (map on_disk xs)) ∙ secret_calls-map xs (spent_once f)

pub burned-map : (xs : List Op) (f : Burn) → burned (map on_disk xs) f ≡ burned xs f
burned-map [] f = refl
burned-map (x ∷ xs) f = burned-map xs (spent_once f)

pub disk_calls-append : (xs ys : List (DeviceCall EitherOp)) → disk_calls (xs ++ ys) ≡ disk_calls xs ++ disk_calls ys
disk_calls-append [] ys = refl
disk_calls-append (CallMade (on_disk op) ∷ xs) ys = ap (λ (l : List (DeviceCall Op)). CallMade op ∷ l) (disk_calls-append xs ys)
disk_calls-append (CallMade (on_secrets op) ∷ xs) ys = disk_calls-append xs ys
disk_calls-append (CutIn (on_disk op) pick ∷ xs) ys = ap (λ (l : List (DeviceCall Op)). CutIn op pick ∷ l) (disk_calls-append xs ys)
disk_calls-append (CutIn (on_secrets op) pick ∷ xs) ys = disk_calls-append xs ys
disk_calls-append (Crashes pick ∷ xs) ys = ap (λ (l : List (DeviceCall Op)). Crashes pick ∷ l) (disk_calls-append xs ys)

pub secret_calls-append : (xs ys : List (DeviceCall EitherOp)) → secret_calls (xs ++ ys) ≡ secret_calls xs ++ secret_calls ys
secret_calls-append [] ys = refl
secret_calls-append (CallMade (on_disk op) ∷ xs) ys = secret_calls-append xs ys
secret_calls-append (CallMade (on_secrets op) ∷ xs) ys = ap (λ (l : List (DeviceCall SecretOp)). CallMade op ∷ l) (secret_calls-append xs ys)
secret_calls-append (CutIn (on_disk op) pick ∷ xs) ys = secret_calls-append xs ys
secret_calls-append (CutIn (on_secrets op) pick ∷ xs) ys = ap (λ (l : List (DeviceCall SecretOp)). CutIn op pick ∷ l) (secret_calls-append xs ys)
secret_calls-append (Crashes pick ∷ xs) ys = ap (λ (l : List (DeviceCall SecretOp)). Crashes pick ∷ l) (secret_calls-append xs ys)

module _ {D X : Type 0} (disk : D → D → List (DeviceCall Op) → Type 0) (secrets : X → X → List (DeviceCall SecretOp) → Type 0) where
  pub both_more : ((a b c : D) (xs ys : List (DeviceCall Op)) → disk a b xs → disk b c ys → disk a c (xs ++ ys)) → ((a b c : X) (xs ys : List (DeviceCall SecretOp)) → secrets a b xs → secrets b c ys → secrets a c (xs ++ ys))
      → (a b c : D × X) (xs ys : List (DeviceCall EitherOp)) → MadeBoth disk secrets a b xs → MadeBoth disk secrets b c ys → MadeBoth disk secrets a c (xs ++ ys)
  both_more more_disk more_secrets a b c xs ys first second = record {
    on_the_disk = subst (λ (l : List (DeviceCall Op)). disk a.0 c.0 l) (sym (disk_calls-append xs ys)) (more_disk _ _ _ _ _ first.on_the_disk second.on_the_disk);
    on_the_secrets = subst (λ (l : List (DeviceCall SecretOp)). secrets a.1 c.1 l) (sym (secret_calls-append xs ys)) (more_secrets _ _ _ _ _ first.on_the_secrets second.on_the_secrets);
  }

  -- calls of the disk alone
  pub disk_all : (a b : D) (x : X) (f g : Burn) (xs : List Op) → secrets x x [] → RanAll disk a b f g xs → RanAll (MadeBoth disk secrets) (a, x) (b, x) f g (map on_disk xs)
  disk_all a b x f g xs none all = record {
    each = record {
      on_the_disk = subst (λ (l : List (DeviceCall Op)). disk a b l) (sym (disk_calls-map xs f)) all.each;
      on_the_secrets = subst (λ (l : List (DeviceCall SecretOp)). secrets x x l) (sym (secret_calls-map xs f)) none;
    };
    fuse = all.fuse ∙ sym (burned-map xs f);
  }

  pub disk_ran : (a b : D) (x : X) (f g : Burn) (xs : List Op) → secrets x x [] → Ran disk a b f g xs → Ran (MadeBoth disk secrets) (a, x) (b, x) f g (map on_disk xs)
  disk_ran a b x f g xs none ran = record {
    first = map on_disk ran.first;
    rest = map on_disk ran.rest;
    whole = ap (map on_disk) ran.whole ∙ map-append on_disk ran.first ran.rest;
    all = disk_all a b x f g ran.first none ran.all;
  }

  -- one call of the secrets
  pub secret_one : (a : D) (x y : X) (f g : Burn) (op : SecretOp) → disk a a [] → secrets x y (calls_in f (op ∷ [])) → g ≡ spent_once f → RanAll (MadeBoth disk secrets) (a, x) (a, y) f g (on_secrets op ∷ [])
  secret_one a x y f g op none made once = record {
    each = record {
      on_the_disk = subst (λ (l : List (DeviceCall Op)). disk a a l) (sym (not_at_disk (pick_now f) op [])) none;
      on_the_secrets = subst (λ (l : List (DeviceCall SecretOp)). secrets x y l) (sym (at_secrets (pick_now f) op [])) made;
    };
    fuse = once;
  }

  -- no calls at all
  pub none_ran : (a : D) (x : X) (f : Burn) (calls : List EitherOp) → disk a a [] → secrets x x [] → Ran (MadeBoth disk secrets) (a, x) (a, x) f f calls
  none_ran a x f calls no_disk no_secrets = record { first = []; rest = calls; whole = refl; all = record { each = record { on_the_disk = no_disk; on_the_secrets = no_secrets }; fuse = refl } }

-- one call, whatever it answered
pub one_call : {X : Type 0} (made : X → X → List (DeviceCall SecretOp) → Type 0) (x y : X) (f g : Burn) (op : SecretOp) → made x y (calls_in f (op ∷ [])) → g ≡ spent_once f → RanAll made x y f g (op ∷ [])
one_call made x y f g op did once = record { each = did; fuse = once }

-- CALLS OF THE SECRETS ALONE

pub none_of_disk : (calls : List SecretOp) (f : Burn) → disk_calls (calls_in f (map on_secrets calls)) ≡ []
none_of_disk [] f = refl
none_of_disk (one ∷ calls) f = not_at_disk (pick_now f) one (calls_in (spent_once f) (map on_secrets calls)) ∙ none_of_disk calls (spent_once f)

pub all_of_secrets : (calls : List SecretOp) (f : Burn) → secret_calls (calls_in f (map on_secrets calls)) ≡ calls_in f calls
all_of_secrets [] f = refl
all_of_secrets (one ∷ calls) f =
    at_secrets (pick_now f) one (calls_in (spent_once f) (map on_secrets calls)) ∙ ap (λ (l : List (DeviceCall SecretOp)). call_at (pick_now f) one ∷ l) (all_of_secrets calls (spent_once f))

pub burned_alike : (calls : List SecretOp) (f : Burn) → burned (map on_secrets calls) f ≡ burned calls f
burned_alike [] f = refl
burned_alike (one ∷ calls) f = burned_alike calls (spent_once f)
