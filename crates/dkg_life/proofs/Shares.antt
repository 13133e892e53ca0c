-- The share and the seed of an info's epoch, as they are read.
use Rattle.std.proofs.Common.{◌≡◌, ◌⊎◌, inl, inr, ℕ, ◌<◌, ◌==◌, arith, Bool, true, false, cond, List, Option, Some, None, refl, sym, ◌∙◌, ap, subst}
use denote.Enum.Bare.{sameb}
use Rattle.std.specs.Prelude.{is_some, not, if◌then◌else◌}
use Rattle.std.specs.FinMap as maps
use Rattle.std.specs.FinMap.{FinMap, empty, get, get-empty, get-insert, insert}
use Rattle.std.specs.Option.{option_map_or, option_or}
use Rattle.std.specs.Ordering.{eq_by_cmp, nat_cmp}
use Rattle.std.proofs.lemmas.Bool.Decides.{nat_tests}
use Rattle.std.proofs.lemmas.Cmp.{nat_cmp_total}
use Rattle.dkg_values.specs.Rising.{lookup}
use Rattle.dkg_journal.specs.Burn.{Burn}
use Rattle.dkg_journal.specs.Names.{Files}
use Rattle.dkg_infos.specs.declared.entry.Entry.{Entry}
use Rattle.dkg_infos.specs.declared.fault.Fault.{Fault}
use Rattle.dkg_infos.specs.declared.info.EpochInfo.{EpochInfo}
use Rattle.dkg_infos.specs.contracts.outcome.EpochOutcome.{the_type}
use Rattle.dkg_infos.specs.declared.outcome.EpochOutcome.{EpochOutcome}
use Rattle.dkg_infos.specs.declared.outcome.EpochOutcome.TheVariants.{Success, Failure}
use Rattle.dkg_secrets.specs.Secrets.{Secrets}
use Rattle.dkg_store.specs.Acts.{Acts, Ended, Held, MadeAt, by_secrets, by_want, held_in, moment, went}
use Rattle.dkg_store.specs.Called.{ErrorIsDue}
use Rattle.dkg_store.specs.declared.call.StoreError.{StoreError}
use Rattle.dkg_store.specs.declared.call.StoreError.TheVariants.{Disk, Secrets as SecretsFailed, Corrupt, LocalState, StateSyncEpochs, StateSyncMaterial, Cut, NoMemory}
use Rattle.dkg_store.proofs.Acts.{made_none_held, made_read}
use Rattle.dkg_core.specs.Courses.{on_devices}
use Rattle.dkg_core.specs.Fixed.{Fixed}
use Rattle.dkg_core.specs.Seen.{Seen}
use Rattle.dkg_core.specs.Setup as setup
use Rattle.dkg_life.specs.Ends.{by_stop, stop_of}
use Rattle.dkg_life.specs.Given.{GivesBoth, GivesSeed, GivesShare, ReadsPlanless}
use Rattle.dkg_life.specs.Made.{MakesAt}
use Rattle.dkg_life.specs.Rules.{PartialPublicOf, SharePublicOf}
use Rattle.dkg_life.specs.Steps.{reads_secrets, reads_seed}
use Rattle.dkg_life.proofs.Burning.{burns_still}
use Rattle.dkg_secrets.proofs.Newest.{newest_is, newest_none}
use Rattle.dkg_life.proofs.Setting.{looked_up}

-- THE SHARE, of what is stored

module _ {Dir : Type 0} (share_public_of : SharePublicOf) (partial_public_of : PartialPublicOf) (me : ℕ) (info : EpochInfo Dir) (stored : FinMap nat_cmp ℕ) where
  found_as : (found : Option ℕ) → get stored info.epoch ≡ found → (share : Option ℕ)
      → ((c : Fixed Dir) → c.rules.share_public_of ≡ share_public_of → c.rules.partial_public_of info.output c.me ≡ partial_public_of info.output me
      → (s : Seen) → s.shares ≡ maps.entries stored → option_or found (setup.carried_share c s info info.outcome) ≡ share)
      → GivesShare share_public_of partial_public_of me info share stored
  found_as found has share so = λ c mine shares s is.
      ap (λ (l : List (ℕ × ℕ)). option_or (lookup info.epoch l) (setup.carried_share c s info info.outcome)) is
      ∙ ap (λ (o : Option ℕ). option_or o (setup.carried_share c s info info.outcome)) (looked_up info.epoch stored ∙ has)
      ∙ so c shares.share_public (ap (λ (f : PartialPublicOf). f info.output c.me) shares.partial_public ∙ ap (λ (k : ℕ). partial_public_of info.output k) mine) s is

  -- the one that is stored, or none where the outcome carries none on
  pub gives_stored : (found : Option ℕ) → get stored info.epoch ≡ found → (is_some found ≡ true) ⊎ (info.outcome ≡ Failure → ⊥) → GivesShare share_public_of partial_public_of me info found stored
  gives_stored (Some share) has early = found_as (Some share) has (Some share) (λ c publics partials s is. refl)
  gives_stored None has (inl some) = absurd cc
  gives_stored None has (inr new) = found_as None has None (λ c publics partials s is. in_outcome c s info.outcome new)
    where
      in_outcome : (c : Fixed Dir) (s : Seen) (o : EpochOutcome) → (o ≡ Failure → ⊥) → setup.carried_share c s info o ≡ None
      in_outcome c s Success other = refl
      in_outcome c s Failure other = absurd (other refl)

  -- This node has no part in the output.
  pub gives_none : get stored info.epoch ≡ None → partial_public_of info.output me ≡ None → GivesShare share_public_of partial_public_of me info None stored
  gives_none has apart = found_as None has None (λ c publics partials s is. in_outcome c s info.outcome (partials ∙ apart))
    where
      unfit : (c : Fixed Dir) → c.rules.partial_public_of info.output c.me ≡ None → (o : Option ℕ) → setup.fitting c info o ≡ None
      unfit c apart None = refl
      unfit c apart (Some share) = ap (λ (p : Option ℕ). if option_map_or (λ p. p == c.rules.share_public_of share) p false then Some share else None) apart

      in_outcome : (c : Fixed Dir) (s : Seen) (o : EpochOutcome) → c.rules.partial_public_of info.output c.me ≡ None → setup.carried_share c s info o ≡ None
      in_outcome c s Success apart = refl
      in_outcome c s Failure apart = unfit c apart (setup.share_below s.shares info.epoch)

  carried : (below : Option ℕ) → setup.share_below (maps.entries stored) info.epoch ≡ below → info.outcome ≡ Failure → (c : Fixed Dir) (s : Seen) → s.shares ≡ maps.entries stored
      → setup.carried_share c s info info.outcome ≡ setup.fitting c info below
  carried below found fails c s is =
      ap (λ (o : EpochOutcome). setup.carried_share c s info o) fails
      ∙ ap (λ (l : List (ℕ × ℕ)). setup.fitting c info (setup.share_below l info.epoch)) is
      ∙ ap (λ (o : Option ℕ). setup.fitting c info o) found

  -- There is none below either.
  pub gives_none_below : get stored info.epoch ≡ None → info.outcome ≡ Failure → setup.share_below (maps.entries stored) info.epoch ≡ None → GivesShare share_public_of partial_public_of me info None stored
  gives_none_below has fails found = found_as None has None (λ c publics partials s is. carried None found fails c s is)

  module _ (has : get stored info.epoch ≡ None) (fails : info.outcome ≡ Failure) (share : ℕ) (found : setup.share_below (maps.entries stored) info.epoch ≡ Some share)
      (expected : ℕ) (part : partial_public_of info.output me ≡ Some expected)
    where
      tested : (same : Bool) → (expected == share_public_of share) ≡ same → (c : Fixed Dir) → c.rules.share_public_of ≡ share_public_of → c.rules.partial_public_of info.output c.me ≡ partial_public_of info.output me
          → (s : Seen) → s.shares ≡ maps.entries stored → setup.carried_share c s info info.outcome ≡ (if same then Some share else None)
      tested same is_same c publics partials s is =
          carried (Some share) found fails c s is
          ∙ ap (λ (p : Option ℕ). if option_map_or (λ p. p == c.rules.share_public_of share) p false then Some share else None) (partials ∙ part)
          ∙ ap (λ (f : SharePublicOf). if expected == f share then Some share else None) publics
          ∙ ap (λ (b : Bool). if b then Some share else None) is_same

      -- the newest one below, which is this node's of the output
      pub gives_below : share_public_of share ≡ expected → GivesShare share_public_of partial_public_of me info (Some share) stored
      gives_below fits = found_as None has (Some share) (λ c publics partials s is. tested true (let h = fits in grind (arith, nat_tests)) c publics partials s is)

      -- .. or isn't
      pub gives_none_fitting : (share_public_of share ≡ expected → ⊥) → GivesShare share_public_of partial_public_of me info None stored
      gives_none_fitting apart = found_as None has None (λ c publics partials s is. tested false (let h = apart in grind (arith, nat_tests)) c publics partials s is)

-- SOME STORED SHARES, whatever is told

-- one at an epoch, or none
pub one_at : {V : Type 0} → (epoch : ℕ) → Option V → FinMap nat_cmp V
one_at epoch None = empty
one_at epoch (Some value) = insert empty epoch value

pub one_is : {V : Type 0} (epoch : ℕ) (kept : Option V) → get (one_at epoch kept) epoch ≡ kept
unfolding one_at
one_is epoch None = get-empty nat_cmp epoch
one_is {V} epoch (Some value) =
    get-insert nat_cmp_total empty epoch value epoch
    ∙ ap (λ (b : Bool). cond b (Some value) (get (empty {X = V} {R = nat_cmp}) epoch)) (let yes : eq_by_cmp nat_cmp epoch epoch ≡ true = grind (arith, nat_tests) in yes)

not_there : {V : Type 0} (epoch other : ℕ) (value : V) → epoch < other → get (insert (empty {R = nat_cmp}) epoch value) other ≡ None
not_there {V} epoch other value far =
    get-insert nat_cmp_total empty epoch value other
    ∙ ap (λ (b : Bool). cond b (Some value) (get (empty {X = V} {R = nat_cmp}) other)) (let far_off : eq_by_cmp nat_cmp other epoch ≡ false = grind (arith, nat_tests) in far_off)
    ∙ get-empty nat_cmp other

-- one share below an epoch, and none at it
pub below_only : (share epoch : ℕ) → 0 < epoch → get (insert (empty {R = nat_cmp}) 0 share) epoch ≡ None
below_only share epoch some = not_there 0 epoch share some

pub below_found : (share epoch : ℕ) → 0 < epoch → setup.share_below (maps.entries (insert (empty {R = nat_cmp}) 0 share)) epoch ≡ Some share
unfolding one_at
below_found share epoch some = newest_is (insert empty 0 share) epoch 0 share some (one_is 0 (Some share)) (λ j above below. not_there 0 j share above)

-- .. or none anywhere
pub none_found : (epoch : ℕ) → setup.share_below (maps.entries (empty {X = ℕ} {R = nat_cmp})) epoch ≡ None
none_found epoch = newest_none empty epoch (λ j below. get-empty nat_cmp j)

-- BOTH ARE READ

-- acts that left the disk and the fuse as they were
pub still_makes : {D S : Type 0} (files : D → Files) (image : D → Files → Type 0) (acts : Acts Fault S) (how : Ended Fault S) {old new : D} {out : List Entry} {s t : Secrets} {f g : Burn} → new ≡ old → g ≡ f
    → MadeAt acts how (files old) (image old) (files old) (image old) (moment out s f) (moment out t f)
    → MakesAt acts how (files old) (image old) (files new) (image new) (moment out s f) (moment out t g)
still_makes {D} files image acts how {old} {new} {out} {s} {t} {f} {g} same still made =
    subst (λ (x : D). MakesAt acts how (files old) (image old) (files x) (image x) (moment out s f) (moment out t g)) (sym same)
    (subst (λ (x : Burn). MakesAt acts how (files old) (image old) (files old) (image old) (moment out s f) (moment out t x)) (sym still)
    (record { made = made; burns = burns_still how refl }))

none_read : {S : Type 0} (acts : Acts Fault S) (files : Files) (image : Files → Type 0) (secrets want : Type 0) (e : StoreError) → ErrorIsDue e ⊥ secrets ⊥ want → {out : List Entry} {s t : Secrets} {f : Burn} → t ≡ s
    → MadeAt acts (by_stop (stop_of e)) files image files image (moment out s f) (moment out t f)
none_read acts files image secrets want Disk due same = absurd due
none_read acts files image secrets want SecretsFailed due same = made_none_held files image acts by_secrets tt same refl
none_read acts files image secrets want (Corrupt name place) due same = absurd due
none_read acts files image secrets want (LocalState cause) due same = absurd due
none_read acts files image secrets want (StateSyncEpochs info floor) due same = absurd due
none_read acts files image secrets want StateSyncMaterial due same = absurd due
none_read acts files image secrets want Cut due same = absurd due
none_read acts files image secrets want NoMemory due same = made_none_held files image acts by_want tt same refl

-- a call that only read, and failed
pub read_fails : {D S : Type 0} (files : D → Files) (image : D → Files → Type 0) (acts : Acts Fault S) (secrets want : Type 0) (e : StoreError) → ErrorIsDue e ⊥ secrets ⊥ want
    → {old new : D} {out : List Entry} {s t : Secrets} {f g : Burn} → new ≡ old → t ≡ s → g ≡ f
    → MakesAt acts (by_stop (stop_of e)) (files old) (image old) (files new) (image new) (moment out s f) (moment out t g)
read_fails files image acts secrets want e due {old} same kept still =
    still_makes files image acts (by_stop (stop_of e)) same still (none_read acts (files old) (image old) secrets want e due kept)

module _ {Dir : Type 0} (c : Fixed Dir) (info : EpochInfo Dir) (share : Option ℕ) (seed : List ℕ) where
  abbrev both_in : Held → Option ℕ × List ℕ
  both_in h = (setup.recovered_share c (c.seen h) info, setup.seed_for c info.epoch (lookup info.epoch (c.seen h).seeds))

  pub both_read : {D : Type 0} (files : D → Files) (image : D → Files → Type 0) → ReadsPlanless c
      → {old new : D} {out : List Entry} {s t : Secrets} {f g : Burn} → new ≡ old → t ≡ s → g ≡ f
      → ((seen : Seen) → seen.shares ≡ maps.entries s.shares → setup.recovered_share c seen info ≡ share) → setup.seed_for c info.epoch (get s.seeds info.epoch) ≡ seed
      → MakesAt (on_devices (reads_secrets c info)) (went (share, seed)) (files old) (image old) (files new) (image new) (moment out s f) (moment out t g)
  both_read files image reads {old} {s = s} same kept still shared seeded =
      let h = held_in (files old) s in
      let one : share ≡ setup.recovered_share c (c.seen h) info = sym (shared (c.seen h) (ap (λ (seen : Held → Seen). (seen h).shares) reads)) in
      let other : seed ≡ setup.seed_for c info.epoch (lookup info.epoch (c.seen h).seeds) =
      sym seeded ∙ sym (ap (λ (o : Option (List ℕ)). setup.seed_for c info.epoch o) (ap (λ (seen : Held → Seen). lookup info.epoch (seen h).seeds) reads ∙ looked_up info.epoch s.seeds)) in
      still_makes files image (on_devices (reads_secrets c info)) (went (share, seed)) same still (made_read (files old) (image old) both_in kept (λ i. (one i, other i)))

  -- whatever is told: by these shares, and this seed or none
  pub both_given : (stored : FinMap nat_cmp ℕ) (kept : Option (List ℕ)) (h : Held) → h.secrets.shares ≡ stored → h.secrets.seeds ≡ one_at info.epoch kept
      → ((s : Seen) → s.shares ≡ maps.entries stored → setup.recovered_share c s info ≡ share) → setup.seed_for c info.epoch kept ≡ seed → GivesBoth c info share seed h
  both_given stored kept h shares seeds shared seeded = λ s is are. (
    shared s (is ∙ ap (λ (m : FinMap nat_cmp ℕ). maps.entries m) shares),
    ap (λ (l : List (ℕ × List ℕ)). setup.seed_for c info.epoch (lookup info.epoch l)) are
        ∙ ap (λ (m : FinMap nat_cmp (List ℕ)). setup.seed_for c info.epoch (lookup info.epoch (maps.entries m))) seeds
        ∙ ap (λ (o : Option (List ℕ)). setup.seed_for c info.epoch o) (looked_up info.epoch (one_at info.epoch kept) ∙ one_is info.epoch kept)
        ∙ seeded,
  )

-- THE SEED ALONE IS READ

module _ {Dir : Type 0} (c : Fixed Dir) (info : EpochInfo Dir) (seed : List ℕ) where
  abbrev seed_in : Held → List ℕ
  seed_in h = setup.seed_for c info.epoch (lookup info.epoch (c.seen h).seeds)

  pub seed_read : {D : Type 0} (files : D → Files) (image : D → Files → Type 0) → ReadsPlanless c
      → {old new : D} {out : List Entry} {s t : Secrets} {f g : Burn} → new ≡ old → t ≡ s → g ≡ f → setup.seed_for c info.epoch (get s.seeds info.epoch) ≡ seed
      → MakesAt (on_devices (reads_seed c info)) (went seed) (files old) (image old) (files new) (image new) (moment out s f) (moment out t g)
  seed_read files image reads {old} {s = s} same kept still seeded =
      let h = held_in (files old) s in
      let is : seed ≡ setup.seed_for c info.epoch (lookup info.epoch (c.seen h).seeds) =
      sym seeded ∙ sym (ap (λ (o : Option (List ℕ)). setup.seed_for c info.epoch o) (ap (λ (seen : Held → Seen). lookup info.epoch (seen h).seeds) reads ∙ looked_up info.epoch s.seeds)) in
      still_makes files image (on_devices (reads_seed c info)) (went seed) same still (made_read (files old) (image old) seed_in kept is)

  -- whatever is told: by this seed or none
  pub seed_given : (kept : Option (List ℕ)) (h : Held) → h.secrets.seeds ≡ one_at info.epoch kept → setup.seed_for c info.epoch kept ≡ seed → GivesSeed c info seed h
  seed_given kept h seeds seeded = λ s are.
      ap (λ (l : List (ℕ × List ℕ)). setup.seed_for c info.epoch (lookup info.epoch l)) are
      ∙ ap (λ (m : FinMap nat_cmp (List ℕ)). setup.seed_for c info.epoch (lookup info.epoch (maps.entries m))) seeds
      ∙ ap (λ (o : Option (List ℕ)). setup.seed_for c info.epoch o) (looked_up info.epoch (one_at info.epoch kept) ∙ one_is info.epoch kept)
      ∙ seeded

-- TESTS

pub is_failure : (o : EpochOutcome) → not (sameb the_type o Failure) ≡ false → o ≡ Failure
is_failure Success is = absurd cc
is_failure Failure is = refl

pub not_failure : (o : EpochOutcome) → not (sameb the_type o Failure) ≡ true → o ≡ Failure → ⊥
not_failure Success is fails = cc
not_failure Failure is fails = cc

pub not_some : (o : Option ℕ) → is_some o ≡ false → o ≡ None
not_some None is = refl
not_some (Some x) is = absurd cc

pub same_of : (t : Bool) (a b : ℕ) → t ≡ (a == b) → t ≡ true → a ≡ b
same_of t a b is alike = let h : (a == b) ≡ true = sym is ∙ alike in grind (arith, nat_tests)

pub apart_of : (t : Bool) (a b : ℕ) → t ≡ (a == b) → t ≡ false → a ≡ b → ⊥
apart_of t a b is unlike same = let h : (a == b) ≡ false = sym is ∙ unlike in grind (arith, nat_tests)
