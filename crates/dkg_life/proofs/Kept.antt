-- What a call of the store leaves of the devices, as the actor's clauses say it.
use Rattle.std.proofs.Common.{◌≡◌, ℕ, ◌≤◌, ◌+◌, Bool, true, false, cond, List, [], ◌++◌, Option, Some, None, refl, sym, ◌∙◌, ap, subst, nat_le, arith}
use Rattle.std.specs.Prelude.{IsSome}
use Rattle.std.specs.FinMap.{FinMap, get, get-retain_keys, retain_keys, same_map}
use Rattle.std.proofs.lemmas.Bool.Decides.{nat_tests}
use Rattle.dkg_journal.specs.DeviceCall.{DeviceCall}
use Rattle.dkg_journal.specs.Disk.{Lands}
use Rattle.dkg_journal.specs.Names.{Files}
use Rattle.dkg_journal.specs.Records.{entries}
use Rattle.dkg_journal.specs.declared.disk.Op.{Op}
use Rattle.dkg_journal.proofs.Steps.{then_all}
use Rattle.dkg_store.specs.Both.{MadeBoth}
use Rattle.dkg_secrets.specs.Keys.{key_cmp}
use Rattle.dkg_store.specs.Named.{SamePlan}
use Rattle.dkg_store.specs.Pairs.{HoldsDealings, HoldsPruned, IsWhole, Pairs, recovered}
use Rattle.dkg_secrets.specs.Secrets.{Secrets}
use Rattle.dkg_store.specs.declared.devices.Devices.{Devices}
use Rattle.dkg_secrets.specs.declared.secrets.SecretOp.{SecretOp}
use Rattle.dkg_store.proofs.Both.{both_more}
use Rattle.dkg_store.proofs.Counts.{counts_none, counts_then}
use Rattle.dkg_store.proofs.Halves.{recovered_at}
use Rattle.dkg_secrets.proofs.Map.{exact_keys, keys_total}
use Rattle.dkg_life.specs.Moved.{GivesFrom, Moved, StaysAbove, StaysFrom, StaysGiven, StaysSound, StaysWhole}

-- A disk that is as it was leaves the same images.
module _ {D : Type 0} (image : D → Files → Type 0) (old new : D) (same : new ≡ old) where
  stays_sound : (most : ℕ) → StaysSound most (image old) (image new)
  stays_sound most = subst (λ (d : D). StaysSound most (image old) (image d)) (sym same) (record { fit = λ a. a; plan = record { each = λ c has. (c, has, refl) } })

  pub stays_whole : (held held_now : Secrets) → ((pairs : Pairs) → HoldsDealings pairs (image old) held → HoldsDealings pairs (image new) held_now)
      → StaysWhole (image old) (image new) held held_now
  stays_whole held held_now holds = record { sound = stays_sound; holds = holds }

-- A prune keeps what lies at or above its minimum.
neither : {V : Type 0} (b : Bool) → cond {A = Option V} b None None ≡ None
neither true = refl
neither false = refl

kept_key : {V : Type 0} (key min least : ℕ) (found : Option V) → (IsSome found → min ≤ key) → least ≤ min → cond (nat_le least key) found None ≡ found
kept_key key min least None above low = neither (nat_le least key)
kept_key {V} key min least (Some v) above low = ap (λ (b : Bool). cond b (Some v) None) (within (above refl))
  where
    within : min ≤ key → nat_le least key ≡ true
    within here = grind (arith, nat_tests)

module _ {V : Type 0} (m : FinMap key_cmp V) (min least : ℕ) (above : (key : ℕ × ℕ) → IsSome (get m key) → min ≤ key.0) (low : least ≤ min) where
  kept_above : retain_keys m (λ key. nat_le least key.0) ≡ m
  kept_above = same_map keys_total exact_keys _ _ (λ q. get-retain_keys m (λ key. nat_le least key.0) q (λ x tied. ap (λ (y : ℕ × ℕ). nat_le least y.0) (sym (exact_keys q x tied)))
      ∙ kept_key q.0 min least (get m q) (above q) low)

-- .. and the same where it went only up to a lower one
twice : {V : Type 0} (key min least : ℕ) (found : Option V) → least ≤ min → cond (nat_le min key) (cond (nat_le least key) found None) None ≡ cond (nat_le min key) found None
twice {V} key min least found low = by_order (nat_le min key) refl
  where
    by_order : (b : Bool) → nat_le min key ≡ b → cond b (cond (nat_le least key) found None) None ≡ cond b found None
    by_order true is = let above : nat_le least key ≡ true = grind (arith, nat_tests) in ap (λ (t : Bool). cond t found None) above
    by_order false is = refl

got : {V : Type 0} (m : FinMap key_cmp V) (min : ℕ) (q : ℕ × ℕ) → get (retain_keys m (λ key. nat_le min key.0)) q ≡ cond (nat_le min q.0) (get m q) None
got m min q = get-retain_keys m (λ key. nat_le min key.0) q (λ x tied. ap (λ (y : ℕ × ℕ). nat_le min y.0) (sym (exact_keys q x tied)))

pub retained_again : {V : Type 0} (m : FinMap key_cmp V) (min least : ℕ) → least ≤ min
    → retain_keys (retain_keys m (λ key. nat_le least key.0)) (λ key. nat_le min key.0) ≡ retain_keys m (λ key. nat_le min key.0)
retained_again {V} m min least low = same_map keys_total exact_keys _ _ (λ q.
    got (retain_keys m (λ key. nat_le least key.0)) min q
    ∙ ap (λ (o : Option V). cond (nat_le min q.0) o None) (got m least q)
    ∙ twice q.0 min least (get m q) low
    ∙ sym (got m min q))

-- ONE CALL BEHIND ANOTHER

module _ (min : ℕ) where
  given_then : {a b c : Files} {r s t : Secrets} → StaysGiven min a b r s → StaysGiven min b c s t → StaysGiven min a c r t
  given_then first second = record {
    plan = second.plan ∙ first.plan;
    whole = λ whole. second.whole (first.whole whole);
    pairs = λ whole. second.pairs (first.whole whole) ∙ first.pairs whole;
  }

  pub above_then : {a b c : Files → Type 0} {r s t : Secrets} → StaysAbove min a b r s → StaysAbove min b c s t → StaysAbove min a c r t
  above_then first second = record {
    fit = λ most fits. second.fit most (first.fit most fits);
    each = λ x has. let m = second.each x has in let l = first.each m.0 m.1 in (l.0, l.1, given_then l.2 m.2);
  }

  pub above_itself : (image : Files → Type 0) (held : Secrets) → StaysAbove min image image held held
  above_itself image held = record { fit = λ most fits. fits; each = λ c has. (c, has, record { plan = refl; whole = λ whole. whole; pairs = λ whole. refl }) }

  -- the devices are as they were
  pub above_same : {D : Type 0} (image : D → Files → Type 0) (old new : D) (held now : Secrets) → new ≡ old → now ≡ held → StaysAbove min (image old) (image new) held now
  above_same {D} image old new held now same_disk same_secrets =
      subst (λ (d : D). StaysAbove min (image old) (image d) held now) (sym same_disk)
      (subst (λ (s : Secrets). StaysAbove min (image old) (image old) held s) (sym same_secrets) (above_itself (image old) held))

  -- what holds, holds from the first epoch on
  pub all_pruned : (pairs : Pairs) (image : Files → Type 0) (held : Secrets) → HoldsDealings pairs image held → HoldsPruned min pairs image held
  all_pruned pairs image held holds = record {
    whole = holds.whole;
    gives = λ c here. (0, omega arith, holds.gives c here ∙ sym (kept_above pairs 0 0 (λ key has. omega arith) (omega arith)));
  }

  -- Where nothing was loose, this is what holds of each image.
  pub above_of : (files : Files) (image next : Files → Type 0) (held now : Secrets) → Lands files image → ((most : ℕ) → StaysSound most image next)
      → ((pairs : Pairs) → HoldsDealings pairs image held → HoldsPruned min pairs next now) → StaysAbove min image next held now
  above_of files image next held now lands sound holds = record {
    fit = λ most. (sound most).fit;
    each = λ c here. let d = (sound 0).plan.each c here in (d.0, d.1, given d.0 d.1 c here d.2);
  }
    where
      once : (d : Files) → image d → IsWhole (entries d) held → HoldsDealings (recovered (entries d) held) image held
      once d has whole =
          let same : (c : Files) → image c → c ≡ d = λ c here. lands.only c here ∙ sym (lands.only d has) in
          record {
            whole = λ c here. subst (λ (f : Files). IsWhole (entries f) held) (sym (same c here)) whole;
            gives = λ c here. ap (λ (f : Files). recovered (entries f) held) (same c here);
          }

      given : (d : Files) → image d → (c : Files) → next c → SamePlan d c → StaysGiven min d c held now
      given d has c here plan = record {
        plan = plan;
        whole = λ whole. (holds (recovered (entries d) held) (once d has whole)).whole c here;
        pairs = λ whole.
            let its = (holds (recovered (entries d) held) (once d has whole)).gives c here in
            ap (λ (m : Pairs). retain_keys m (λ k. nat_le min k.0)) its.2 ∙ retained_again (recovered (entries d) held) min its.0 its.1;
      }

-- A seed was read, an epoch committed, and what lies below a minimum pruned.
module _ {D : Type 0} (min : ℕ) (files : D → Files) (image : D → Files → Type 0) (d0 d1 d2 d3 : D) (s0 s1 s2 s3 : Secrets) (firm : Lands (files d0) (image d0)) (read : d1 ≡ d0) (read_too : s1 ≡ s0) where
  pub above_committed : StaysWhole (image d1) (image d2) s1 s2 → StaysAbove min (image d0) (image d2) s0 s2
  above_committed whole =
      above_then min (above_same min image d0 d1 s0 s1 read read_too)
      (above_of min (files d1) (image d1) (image d2) s1 s2 (subst (λ (d : D). Lands (files d) (image d)) (sym read) firm) whole.sound (λ pairs holds. all_pruned min pairs (image d2) s2 (whole.holds pairs holds)))

  pub above_pruned : StaysWhole (image d1) (image d2) s1 s2 → (m : ℕ) → m ≡ min → StaysAbove m (image d2) (image d3) s2 s3 → StaysAbove min (image d0) (image d3) s0 s3
  above_pruned whole m is above = above_then min (above_committed whole) (subst (λ (n : ℕ). StaysAbove n (image d2) (image d3) s2 s3) is above)

  pub gives_pruned : d2 ≡ d1 → s2.privates ≡ s1.privates → (m : ℕ) → m ≡ min → StaysFrom m (image d2) (image d3) s2 s3 → StaysFrom min (image d0) (image d3) s0 s3
  gives_pruned same halves m is from pairs gives =
      let at_read : GivesFrom min pairs (image d1) s1 =
      subst (λ (d : D). GivesFrom min pairs (image d) s1) (sym read) (subst (λ (s : Secrets). GivesFrom min pairs (image d0) s) (sym read_too) gives) in
      let committed : GivesFrom min pairs (image d2) s2 =
      record {
        each = λ c here key above. recovered_at s1 s2 key (entries c) (ap (λ (p : FinMap key_cmp ℕ). get p key) halves)
            ∙ at_read.each c (subst (λ (d : D). image d c) same here) key above;
      } in
      (subst (λ (n : ℕ). StaysFrom n (image d2) (image d3) s2 s3) is from) pairs committed

-- ONE CALL BEHIND ANOTHER, of both devices

module _ {D X : Type 0} (tells : Bool) (disk : D → D → List (DeviceCall Op) → Type 0) (secrets : X → X → List (DeviceCall SecretOp) → Type 0) (disk_faults : D → ℕ) (secret_faults : X → ℕ) where
  pub moved_then : ((a b c : D) (xs ys : List (DeviceCall Op)) → disk a b xs → disk b c ys → disk a c (xs ++ ys))
      → ((a b c : X) (xs ys : List (DeviceCall SecretOp)) → secrets a b xs → secrets b c ys → secrets a c (xs ++ ys))
      → (old mid new : Devices D X) → Moved tells disk secrets disk_faults secret_faults old mid → Moved tells disk secrets disk_faults secret_faults mid new
      → Moved tells disk secrets disk_faults secret_faults old new
  moved_then more_disk more_secrets old mid new first second = record {
    counts = counts_then _ _ _ first.counts second.counts;
    ran = λ told.
        let a = first.ran told in
        let b = second.ran told in
        (a.0 ++ b.0, then_all (MadeBoth disk secrets) (both_more disk secrets more_disk more_secrets) _ _ _ _ _ _ a.0 b.0 a.1 b.1);
    same_disk = second.same_disk ∙ first.same_disk;
    same_secrets = second.same_secrets ∙ first.same_secrets;
    later_disk = omega (arith, first.later_disk, second.later_disk);
    later_secrets = omega (arith, first.later_secrets, second.later_secrets);
  }

  -- no call was made
  pub moved_none : ((a : D) → disk a a []) → ((a : X) → secrets a a []) → (devices : Devices D X) → Moved tells disk secrets disk_faults secret_faults devices devices
  moved_none no_disk no_secrets devices = record {
    counts = counts_none devices.fuse;
    ran = λ told. ([], record { each = record { on_the_disk = no_disk devices.disk.now; on_the_secrets = no_secrets devices.secrets.now }; fuse = refl });
    same_disk = refl;
    same_secrets = refl;
    later_disk = omega arith;
    later_secrets = omega arith;
  }
