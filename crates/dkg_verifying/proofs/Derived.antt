-- An artifact that is derived over the devices, and what is said of it: step by step as the code derives it.
use Rattle.std.proofs.Common.{◌≡◌, inl, inr, ℕ, ◌+◌, ◌<◌, ◌≤◌, ◌^◌, ◌==◌, arith, Bool, true, false, nat_le, nat_lt, List, [], length, Option, Some, None, refl, sym, ◌∙◌, ap, subst, append-nil}
use Rattle.std.specs.Prelude.{◌⊎◌, IfSome, IsSome, IsSomeAnd, option_map, if◌then◌else◌}
use Rattle.std.specs.FinMap.{get}
use Rattle.std.specs.FinMap as maps
use Rattle.std.proofs.lemmas.Bool.Decides.{nat_tests}
use Rattle.dkg_values.specs.Rising.{lookup}
use Rattle.dkg_journal.specs.Burn.{Burn}
use Rattle.dkg_journal.specs.Names.{Files}
use Rattle.dkg_secrets.specs.Secrets.{Secrets}
use Rattle.dkg_ceremony.specs.Outcomes.{LogMap}
use Rattle.dkg_ceremony.specs.declared.output.Output.{Output}
use Rattle.dkg_artifact.specs.declared.artifact.Artifact as artifact
use Rattle.dkg_artifact.specs.declared.verified.Verified as verified
use Rattle.dkg_infos.specs.declared.entry.Entry.{Entry}
use Rattle.dkg_infos.specs.declared.fault.Fault.{Fault}
use Rattle.dkg_infos.specs.declared.fault.Fault.TheVariants.{HeightRange, InvalidParticipants, DirectoryMismatch, NoMemory}
use Rattle.dkg_infos.specs.declared.fault.ParticipantsCause.TheVariants.{ProviderEmpty, ProviderAbove}
use Rattle.dkg_infos.specs.declared.info.EpochInfo.{EpochInfo}
use Rattle.dkg_infos.specs.NextInfos.{info_by}
use Rattle.dkg_store.specs.Acts.{Ended, Held, Moment, held_in, moment, went}
use Rattle.dkg_store.proofs.Acts.{made_read}
use Rattle.dkg_core.specs.Courses.{Course, Goes, bind, on_devices}
use Rattle.dkg_core.specs.Fixed.{Fixed, has}
use Rattle.dkg_core.specs.Including as including
use Rattle.dkg_core.specs.Live.{Artifact, Cached, Live, VerifiedLogs}
use Rattle.dkg_core.specs.Seen.{Seen}
use Rattle.dkg_core.specs.Setup.{looks}
use Rattle.dkg_life.specs.declared.stop.Stop.{Stop}
use Rattle.dkg_life.specs.declared.stop.Stop.TheVariants.{Fault as Faulted}
use Rattle.dkg_life.specs.Ends.{by_stop, cause_in}
use Rattle.dkg_life.specs.Given.{ReadsPlanless}
use Rattle.dkg_verifying.specs.Including.{caching, derives_in, mismatch_of, reads_share, stops_by, unprovided}
use Rattle.dkg_verifying.specs.InclusionOf.{artifact_of, cached_of, verified_of}
use Rattle.dkg_life.specs.Made.{MakesAt, Tells}
use Rattle.dkg_life.specs.Steps.{IsFaultOrWant}
use Rattle.dkg_life.proofs.Burning.{makes_nothing, speaks_makes}
use Rattle.dkg_life.proofs.Chained.{early_makes, early_told, then_makes, then_told}
use Rattle.dkg_verifying.proofs.Caching.{artifact_cached, artifact_derived, fault_speaks}
use Rattle.dkg_verifying.proofs.Keeping.{cached_none, cached_some}
use Rattle.dkg_life.proofs.Said.{nothing_held, speaks_tells}
use Rattle.dkg_life.proofs.Setting.{looked_up}
use Rattle.dkg_life.proofs.Speaking.{want_speaks, wants_speaks}
use Rattle.dkg_life.proofs.Shares.{one_at, one_is, still_makes}

-- THE PROVIDER'S SET

abbrev unprovided_by : (set : List ℕ) → (limit epoch : ℕ) → Option Fault
unprovided_by set limit epoch =
    if nat_le (2 ^ 64) (epoch + 2) then Some HeightRange
    else if length set == 0 then Some (InvalidParticipants ProviderEmpty)
    else if nat_lt limit (length set) then Some (InvalidParticipants (ProviderAbove (length set) limit))
    else None

-- the relation's provider says the same
pub unprovided_is : (provided participants : ℕ → List ℕ) (most limit epoch : ℕ) → ((epoch : ℕ) → provided epoch ≡ participants epoch) → most ≡ limit
    → unprovided provided most epoch ≡ unprovided participants limit epoch
unprovided_is provided participants most limit epoch says same = λ i. unprovided_by (says (epoch + 2) i) (same i) epoch

by_tests : (past none above : Bool) (a b c : Fault) → past ≡ false → none ≡ false → above ≡ false → (if past then Some a else if none then Some b else if above then Some c else None) ≡ None
by_tests past none above a b c is_past is_none is_above = λ i. if is_past i then Some a else if is_none i then Some b else if is_above i then Some c else None

pub is_provided : (participants : ℕ → List ℕ) (limit epoch : ℕ) (set : List ℕ) → set ≡ participants (epoch + 2) → epoch + 2 < 2 ^ 64 → 0 < length set → length set ≤ limit → unprovided participants limit epoch ≡ None
is_provided participants limit epoch set is below some within =
    let past : nat_le (2 ^ 64) (epoch + 2) ≡ false = grind (arith, nat_tests) in
    let none : (length set == 0) ≡ false = grind (arith, nat_tests) in
    let above : nat_lt limit (length set) ≡ false = grind (arith, nat_tests) in
    ap (λ (its : List ℕ). unprovided_by its limit epoch) (sym is)
    ∙ by_tests (nat_le (2 ^ 64) (epoch + 2)) (length set == 0) (nat_lt limit (length set)) HeightRange (InvalidParticipants ProviderEmpty) (InvalidParticipants (ProviderAbove (length set) limit)) past none above

pub past_range : (participants : ℕ → List ℕ) (limit epoch : ℕ) → 2 ^ 64 ≤ epoch + 2 → unprovided participants limit epoch ≡ Some HeightRange
past_range participants limit epoch past =
    let is : nat_le (2 ^ 64) (epoch + 2) ≡ true = grind (arith, nat_tests) in
    ap (λ (t : Bool). if t then Some HeightRange else if length (participants (epoch + 2)) == 0 then Some (InvalidParticipants ProviderEmpty)
    else if nat_lt limit (length (participants (epoch + 2))) then Some (InvalidParticipants (ProviderAbove (length (participants (epoch + 2))) limit)) else None) is

module _ (participants : ℕ → List ℕ) (limit epoch : ℕ) (set : List ℕ) (is : set ≡ participants (epoch + 2)) (below : epoch + 2 < 2 ^ 64) where
  within_range : unprovided participants limit epoch
      ≡ (if length set == 0 then Some (InvalidParticipants ProviderEmpty) else if nat_lt limit (length set) then Some (InvalidParticipants (ProviderAbove (length set) limit)) else None)
  within_range =
      let past : nat_le (2 ^ 64) (epoch + 2) ≡ false = grind (arith, nat_tests) in
      ap (λ (its : List ℕ). unprovided_by its limit epoch) (sym is)
      ∙ ap (λ (t : Bool). if t then Some HeightRange else if length set == 0 then Some (InvalidParticipants ProviderEmpty)
      else if nat_lt limit (length set) then Some (InvalidParticipants (ProviderAbove (length set) limit)) else None) past

  pub is_empty : (length set == 0) ≡ true → unprovided participants limit epoch ≡ Some (InvalidParticipants ProviderEmpty)
  is_empty none =
      within_range ∙ ap (λ (t : Bool). if t then Some (InvalidParticipants ProviderEmpty) else if nat_lt limit (length set) then Some (InvalidParticipants (ProviderAbove (length set) limit)) else None) none

  pub is_above : (length set == 0) ≡ false → limit < length set → unprovided participants limit epoch ≡ Some (InvalidParticipants (ProviderAbove (length set) limit))
  is_above some more =
      let above : nat_lt limit (length set) ≡ true = grind (arith, nat_tests) in
      within_range
      ∙ ap (λ (t : Bool). if t then Some (InvalidParticipants ProviderEmpty) else if nat_lt limit (length set) then Some (InvalidParticipants (ProviderAbove (length set) limit)) else None) some
      ∙ ap (λ (t : Bool). if t then Some (InvalidParticipants (ProviderAbove (length set) limit)) else None) above

-- THE SHARE

module _ {Dir : Type 0} (c : Fixed Dir) (info : EpochInfo Dir) where
  abbrev looking : Course Dir Fault (Option ℕ)
  looking = looks c (λ s. Goes (lookup info.epoch s.shares))

  abbrev share_in : Held → Option ℕ
  share_in h = lookup info.epoch (c.seen h).shares

  -- behind a failure a player of the output reads its share
  reads_holder : has info.output.players c.me ≡ true → reads_share c info None ≡ looking
  reads_holder holds = ap (λ (t : Bool). if t then looking else Goes None) holds

  reads_none : has info.output.players c.me ≡ false → reads_share c info None ≡ Goes None
  reads_none apart = ap (λ (t : Bool). if t then looking else Goes None) apart

  module _ (found : Option verified.Verified) where
    abbrev reads_its : Course Dir Fault (Option ℕ)
    reads_its = reads_share c info (option_map verified_of found)

    -- a result's own share
    pub own_made : (its : verified.Verified) → found ≡ Some its → (files : Files) (image : Files → Type 0) (m : Moment) → MakesAt (on_devices reads_its) (went its.share) files image files image m m
    own_made its is files image m =
        subst (λ (o : Option verified.Verified). MakesAt (on_devices (reads_share c info (option_map verified_of o))) (went its.share) files image files image m m) (sym is) (makes_nothing files image m refl)

    pub own_told : (its : verified.Verified) → found ≡ Some its → (out : List Entry) → Tells reads_its (went its.share) out out
    own_told its is out =
        subst (λ (o : Option verified.Verified). Tells (reads_share c info (option_map verified_of o)) (went its.share) out out) (sym is) (record { lines = []; added = sym (append-nil out); by = (refl, refl) })

    module _ (none : found ≡ None) where
      as_none : reads_its ≡ reads_share c info None
      as_none = ap (λ (o : Option verified.Verified). reads_share c info (option_map verified_of o)) none

      -- none, where this node is no player of the output
      module _ (apart : has info.output.players c.me ≡ false) where
        pub none_made : (files : Files) (image : Files → Type 0) (m : Moment) → MakesAt (on_devices reads_its) (went None) files image files image m m
        none_made files image m =
            subst (λ (x : Course Dir Fault (Option ℕ)). MakesAt (on_devices x) (went None) files image files image m m) (sym (as_none ∙ reads_none apart)) (makes_nothing files image m refl)

        pub none_told : (out : List Entry) → Tells reads_its (went None) out out
        none_told out =
            subst (λ (x : Course Dir Fault (Option ℕ)). Tells x (went None) out out) (sym (as_none ∙ reads_none apart)) (record { lines = []; added = sym (append-nil out); by = (refl, refl) })

      -- .. else the stored one
      module _ (holds : has info.output.players c.me ≡ true) (planless : ReadsPlanless c) where
        as_looked : reads_its ≡ looking
        as_looked = as_none ∙ reads_holder holds

        pub share_made : {D : Type 0} (files : D → Files) (image : D → Files → Type 0) (share : Option ℕ)
            → {old new : D} {out : List Entry} {s t : Secrets} {f g : Burn} → new ≡ old → t ≡ s → g ≡ f → share ≡ get s.shares info.epoch
            → MakesAt (on_devices reads_its) (went share) (files old) (image old) (files new) (image new) (moment out s f) (moment out t g)
        share_made files image share {old} {new} {out} {s} {t} {f} {g} same kept still is =
            let h = held_in (files old) s in
            let one : share ≡ share_in h = is ∙ sym (looked_up info.epoch s.shares) ∙ sym (ap (λ (seen : Held → Seen). lookup info.epoch (seen h).shares) planless) in
            subst (λ (x : Course Dir Fault (Option ℕ)). MakesAt (on_devices x) (went share) (files old) (image old) (files new) (image new) (moment out s f) (moment out t g)) (sym as_looked)
            (still_makes files image (on_devices looking) (went share) same still (made_read (files old) (image old) share_in kept one))

        -- whatever is told: one such share is held somewhere
        pub share_told : (share : Option ℕ) (out : List Entry) → Tells reads_its (went share) out out
        share_told share out =
            let h : Held = record { journaled = nothing_held.journaled; secrets = record { shares = one_at info.epoch share; seeds = maps.empty; privates = maps.empty } } in
            let one : share ≡ share_in h = sym (one_is info.epoch share) ∙ sym (looked_up info.epoch (one_at info.epoch share)) ∙ sym (ap (λ (seen : Held → Seen). lookup info.epoch (seen h).shares) planless) in
            subst (λ (x : Course Dir Fault (Option ℕ)). Tells x (went share) out out) (sym as_looked)
            (record { lines = []; added = sym (append-nil out); by = (h, (refl, one)) })

-- ALL OF IT

module _ {Dir : Type 0} (c : Fixed Dir) (info : EpochInfo Dir) (r : VerifiedLogs) where
  abbrev its_info : EpochInfo Dir
  its_info = info_by c.provided info (option_map (λ found. found.output) r.result)

  abbrev with_share : Option ℕ → Artifact Dir
  with_share share = record { info = Some its_info; share = share }

  abbrev reads : Course Dir Fault (Option ℕ)
  reads = reads_share c info r.result

  abbrev goes_on : Option ℕ → Course Dir Fault (Artifact Dir)
  goes_on share = stops_by (mismatch_of c its_info) (Goes (with_share share))

  own_mismatch : IfSome (mismatch_of c its_info) (λ its. cause_in its ≡ None)
  own_mismatch = by_test (c.directories.matches its_info.directory (including.info_peers its_info))
    where
      by_test : (t : Bool) → IfSome (if t then None else Some (DirectoryMismatch its_info.epoch)) (λ its. cause_in its ≡ None)
      by_test true = tt
      by_test false = refl

  -- what is tested of the directory
  pub mismatch_is : (matches : Dir → List ℕ → Bool) (its : EpochInfo Dir) (t : Bool) → c.directories.matches ≡ matches → its ≡ its_info → matches its.directory (including.info_peers its) ≡ t
      → mismatch_of c its_info ≡ (if t then None else Some (DirectoryMismatch its_info.epoch))
  mismatch_is matches its t are is tested =
      ap (λ (b : Bool). if b then None else Some (DirectoryMismatch its_info.epoch))
      (ap (λ (m : Dir → List ℕ → Bool). m its_info.directory (including.info_peers its_info)) are ∙ ap (λ (x : EpochInfo Dir). matches x.directory (including.info_peers x)) (sym is) ∙ tested)

  -- without a set nothing is read
  module _ (stop : Stop) (refused : IsFaultOrWant (unprovided c.provided.participants c.limit info.epoch) stop) (own : IfSome (unprovided c.provided.participants c.limit info.epoch) (λ its. cause_in its ≡ None)) where
    pub unprovided_made : (files : Files) (image : Files → Type 0) {out : List Entry} {s : Secrets} {f : Burn} → MakesAt (on_devices (derives_in c info r)) (by_stop stop) files image files image (moment out s f) (moment out s f)
    unprovided_made files image {out} = speaks_makes (derives_in c info r) (by_stop stop) files image (fault_speaks (bind reads goes_on) (unprovided c.provided.participants c.limit info.epoch) stop refused own out)

    pub unprovided_told : (out : List Entry) → Tells (derives_in c info r) (by_stop stop) out out
    unprovided_told out = speaks_tells (derives_in c info r) (by_stop stop) (fault_speaks (bind reads goes_on) (unprovided c.provided.participants c.limit info.epoch) stop refused own out)

  module _ (is_one : unprovided c.provided.participants c.limit info.epoch ≡ None) where
    as_read : derives_in c info r ≡ bind reads goes_on
    as_read = ap (λ (o : Option Fault). stops_by o (bind reads goes_on)) is_one

    -- the read failed
    pub unread_made : (stop : Stop) {files files_now : Files} {image now : Files → Type 0} {old new : Moment} → MakesAt (on_devices reads) (by_stop stop) files image files_now now old new
        → MakesAt (on_devices (derives_in c info r)) (by_stop stop) files image files_now now old new
    unread_made stop {files} {files_now} {image} {now} {old} {new} first =
        subst (λ (x : Course Dir Fault (Artifact Dir)). MakesAt (on_devices x) (by_stop stop) files image files_now now old new) (sym as_read) (early_makes reads goes_on stop first)

    pub unread_told : (stop : Stop) {out now : List Entry} → Tells reads (by_stop stop) out now → Tells (derives_in c info r) (by_stop stop) out now
    unread_told stop {out} {now} first = subst (λ (x : Course Dir Fault (Artifact Dir)). Tells x (by_stop stop) out now) (sym as_read) (early_told reads goes_on stop first)

    -- the directory is of other peers, or there was no memory for the info
    module _ (share : Option ℕ) (stop : Stop) (refused : IsFaultOrWant (mismatch_of c its_info) stop) where
      pub mismatch_made : {files files_now : Files} {image now : Files → Type 0} {old : Moment} {out : List Entry} {s : Secrets} {f : Burn}
          → MakesAt (on_devices reads) (went share) files image files_now now old (moment out s f)
          → MakesAt (on_devices (derives_in c info r)) (by_stop stop) files image files_now now old (moment out s f)
      mismatch_made {files} {files_now} {image} {now} {old} {out} {s} {f} first =
          subst (λ (x : Course Dir Fault (Artifact Dir)). MakesAt (on_devices x) (by_stop stop) files image files_now now old (moment out s f)) (sym as_read)
          (then_makes reads goes_on share (by_stop stop) first
          (speaks_makes (goes_on share) (by_stop stop) files_now now (fault_speaks (Goes (with_share share)) (mismatch_of c its_info) stop refused own_mismatch out)))

      pub mismatch_told : {out now : List Entry} → Tells reads (went share) out now → Tells (derives_in c info r) (by_stop stop) out now
      mismatch_told {out} {now} first =
          subst (λ (x : Course Dir Fault (Artifact Dir)). Tells x (by_stop stop) out now) (sym as_read)
          (then_told reads goes_on share (by_stop stop) first
          (speaks_tells (goes_on share) (by_stop stop) (fault_speaks (Goes (with_share share)) (mismatch_of c its_info) stop refused own_mismatch now)))

    -- it is derived
    module _ (share : Option ℕ) (fits : mismatch_of c its_info ≡ None) (end : Artifact Dir) (is : end ≡ with_share share) where
      as_done : goes_on share ≡ Goes (with_share share)
      as_done = ap (λ (o : Option Fault). stops_by o (Goes (with_share share))) fits

      pub derived_made : {files files_now : Files} {image now : Files → Type 0} {old new : Moment}
          → MakesAt (on_devices reads) (went share) files image files_now now old new → MakesAt (on_devices (derives_in c info r)) (went end) files image files_now now old new
      derived_made {files} {files_now} {image} {now} {old} {new} first =
          subst (λ (x : Course Dir Fault (Artifact Dir)). MakesAt (on_devices x) (went end) files image files_now now old new) (sym as_read)
          (then_makes reads goes_on share (went end) first
          (subst (λ (x : Course Dir Fault (Artifact Dir)). MakesAt (on_devices x) (went end) files_now now files_now now new new) (sym as_done) (makes_nothing files_now now new is)))

      pub derived_told : {out now : List Entry} → Tells reads (went share) out now → Tells (derives_in c info r) (went end) out now
      derived_told {out} {now} first =
          subst (λ (x : Course Dir Fault (Artifact Dir)). Tells x (went end) out now) (sym as_read)
          (then_told reads goes_on share (went end) first
          (subst (λ (x : Course Dir Fault (Artifact Dir)). Tells x (went end) now now) (sym as_done) (record { lines = []; added = sym (append-nil now); by = (refl, is) })))

module _ {Dir : Type 0} (c : Fixed Dir) (info : EpochInfo Dir) (r : VerifiedLogs) where
  epoch_is : (o : Option Output) → (info_by c.provided info o).epoch ≡ info.epoch + 1
  epoch_is None = refl
  epoch_is (Some output) = refl

  want_or : (o : Option Fault) (stop : Stop) → stop ≡ Faulted NoMemory → IsFaultOrWant o stop
  want_or None stop want = want
  want_or (Some its) stop want = inl want

  -- why the info that was made is refused
  pub refused_info : (stop : Stop) (made : EpochInfo Dir) → made ≡ its_info c info r → (matches : Dir → List ℕ → Bool) → c.directories.matches ≡ matches
      → (stop ≡ Faulted NoMemory) ⊎ ((stop ≡ Faulted (DirectoryMismatch (info.epoch + 1))) × (matches made.directory (including.info_peers made) ≡ false))
      → IsFaultOrWant (mismatch_of c (its_info c info r)) stop
  refused_info stop made is matches are (inl want) = want_or (mismatch_of c (its_info c info r)) stop want
  refused_info stop made is matches are (inr other) =
      subst (λ (o : Option Fault). IsFaultOrWant o stop) (sym (mismatch_is c info r matches made false are is other.1))
      (inr (other.0 ∙ ap (λ (n : ℕ). Faulted (DirectoryMismatch n)) (sym (epoch_is (option_map (λ found. found.output) r.result)))))

-- of an info and a result that are copied it is what it is of themselves
module _ {Dir : Type 0} (c : Fixed Dir) (info its : EpochInfo Dir) (r read : VerifiedLogs) (same : its ≡ info) (as_read : read ≡ r) {how : Ended Fault (Artifact Dir)} where
  pub for_info_made : {files files_now : Files} {image now : Files → Type 0} {old new : Moment} → MakesAt (on_devices (derives_in c its read)) how files image files_now now old new
      → MakesAt (on_devices (derives_in c info r)) how files image files_now now old new
  for_info_made {files} {files_now} {image} {now} {old} {new} made =
      subst (λ (x : EpochInfo Dir). MakesAt (on_devices (derives_in c x r)) how files image files_now now old new) same
      (subst (λ (x : VerifiedLogs). MakesAt (on_devices (derives_in c its x)) how files image files_now now old new) as_read made)

  pub for_info_told : {out now : List Entry} → Tells (derives_in c its read) how out now → Tells (derives_in c info r) how out now
  for_info_told {out} {now} told =
      subst (λ (x : EpochInfo Dir). Tells (derives_in c x r) how out now) same (subst (λ (x : VerifiedLogs). Tells (derives_in c its x) how out now) as_read told)

pub one_value : {A : Type 0} (a b : A) → Some a ≡ Some b → a ≡ b
one_value a b same = cc

pub has_one : {A : Type 0} (o : Option A) → IsSome o → (a : A) × (o ≡ Some a)
has_one None some = absurd cc
has_one (Some a) some = (a, refl)

-- There was no memory, before anything was done.
module _ {Dir S : Type 0} (course : Course Dir Fault S) where
  pub want_made : (files : Files) (image : Files → Type 0) {out : List Entry} {s : Secrets} {f : Burn} → MakesAt (on_devices course) (by_stop (Faulted NoMemory)) files image files image (moment out s f) (moment out s f)
  want_made files image {out} = speaks_makes course (by_stop (Faulted NoMemory)) files image (want_speaks course out)

  pub want_told : (out : List Entry) → Tells course (by_stop (Faulted NoMemory)) out out
  want_told out = speaks_tells course (by_stop (Faulted NoMemory)) (want_speaks course out)

-- WHICH ONE IS KEPT

module _ {Dir : Type 0} (c : Fixed Dir) (r : VerifiedLogs) (st : Live Dir) (cache : Option (LogMap × artifact.Artifact Dir)) (cached : st.inclusion.cached ≡ option_map cached_of cache) where
  abbrev keeps : Course Dir Fault (Live Dir)
  keeps = including.artifact c r st (λ made st. Goes st)

  -- the life, with what it had
  pub still_caching : caching cache st ≡ st
  still_caching = λ i. record st { inclusion = record st.inclusion { cached = sym cached i } }

  module _ (has_it : IsSomeAnd cache (λ k. k.0 ≡ r.logs)) where
    there : (its : Option (LogMap × artifact.Artifact Dir)) → IsSomeAnd its (λ k. k.0 ≡ r.logs) → (made : Artifact Dir) × (including.cached_for (option_map cached_of its) r.logs ≡ Some made)
    there None is = absurd is
    there (Some k) is = (artifact_of k.1, sym (cached_some r.logs (Some k) is k.1 refl))

    as_kept : keeps ≡ Goes st
    as_kept =
        let t = there cache has_it in
        artifact_cached c r st (λ made st. Goes st) t.0 (ap (λ (o : Option (Cached Dir)). including.cached_for o r.logs) cached ∙ t.1)

    pub kept_made : (files : Files) (image : Files → Type 0) (m : Moment) → MakesAt (on_devices keeps) (went (caching cache st)) files image files image m m
    kept_made files image m =
        subst (λ (x : Course Dir Fault (Live Dir)). MakesAt (on_devices x) (went (caching cache st)) files image files image m m) (sym as_kept) (makes_nothing files image m still_caching)

    pub kept_told : (out : List Entry) → Tells keeps (went (caching cache st)) out out
    kept_told out = subst (λ (x : Course Dir Fault (Live Dir)). Tells x (went (caching cache st)) out out) (sym as_kept) (record { lines = []; added = sym (append-nil out); by = (refl, still_caching) })

  module _ (reshare : c.oneshot ≡ None) (info : EpochInfo Dir) (current : st.participation.current ≡ Some info) (apart : IsSomeAnd cache (λ k. k.0 ≡ r.logs) → ⊥) where
    abbrev keeps_it : Artifact Dir → Course Dir Fault (Live Dir)
    keeps_it made = Goes (including.with_cached r.logs made st)

    as_derived : keeps ≡ bind (derives_in c info r) keeps_it
    as_derived =
        artifact_derived c info r st (λ made st. Goes st) reshare current (ap (λ (o : Option (Cached Dir)). including.cached_for o r.logs) cached ∙ sym (cached_none r.logs cache apart))

    -- it wasn't derived
    pub underived_made : (stop : Stop) {files files_now : Files} {image now : Files → Type 0} {old new : Moment} → MakesAt (on_devices (derives_in c info r)) (by_stop stop) files image files_now now old new
        → MakesAt (on_devices keeps) (by_stop stop) files image files_now now old new
    underived_made stop {files} {files_now} {image} {now} {old} {new} first =
        subst (λ (x : Course Dir Fault (Live Dir)). MakesAt (on_devices x) (by_stop stop) files image files_now now old new) (sym as_derived) (early_makes (derives_in c info r) keeps_it stop first)

    pub underived_told : (stop : Stop) {out now : List Entry} → Tells (derives_in c info r) (by_stop stop) out now → Tells keeps (by_stop stop) out now
    underived_told stop {out} {now} first = subst (λ (x : Course Dir Fault (Live Dir)). Tells x (by_stop stop) out now) (sym as_derived) (early_told (derives_in c info r) keeps_it stop first)

    -- it was, and there was no memory for its logs
    pub unkept_made : (made : Artifact Dir) (stop : Stop) → stop ≡ Faulted NoMemory → {files files_now : Files} {image now : Files → Type 0} {old : Moment} {out : List Entry} {s : Secrets} {f : Burn}
        → MakesAt (on_devices (derives_in c info r)) (went made) files image files_now now old (moment out s f) → MakesAt (on_devices keeps) (by_stop stop) files image files_now now old (moment out s f)
    unkept_made made stop want {files} {files_now} {image} {now} {old} {out} {s} {f} first =
        subst (λ (x : Course Dir Fault (Live Dir)). MakesAt (on_devices x) (by_stop stop) files image files_now now old (moment out s f)) (sym as_derived)
        (then_makes (derives_in c info r) keeps_it made (by_stop stop) first (speaks_makes (keeps_it made) (by_stop stop) files_now now (wants_speaks (keeps_it made) stop want out out refl)))

    pub unkept_told : (made : Artifact Dir) (stop : Stop) → stop ≡ Faulted NoMemory → {out now : List Entry} → Tells (derives_in c info r) (went made) out now → Tells keeps (by_stop stop) out now
    unkept_told made stop want {out} {now} first =
        subst (λ (x : Course Dir Fault (Live Dir)). Tells x (by_stop stop) out now) (sym as_derived)
        (then_told (derives_in c info r) keeps_it made (by_stop stop) first (speaks_tells (keeps_it made) (by_stop stop) (wants_speaks (keeps_it made) stop want now now refl)))

    -- it is kept
    pub newly_made : (made : Artifact Dir) (end : Live Dir) → end ≡ including.with_cached r.logs made st → {files files_now : Files} {image now : Files → Type 0} {old new : Moment}
        → MakesAt (on_devices (derives_in c info r)) (went made) files image files_now now old new → MakesAt (on_devices keeps) (went end) files image files_now now old new
    newly_made made end is {files} {files_now} {image} {now} {old} {new} first =
        subst (λ (x : Course Dir Fault (Live Dir)). MakesAt (on_devices x) (went end) files image files_now now old new) (sym as_derived)
        (then_makes (derives_in c info r) keeps_it made (went end) first (makes_nothing files_now now new is))

    pub newly_told : (made : Artifact Dir) (end : Live Dir) → end ≡ including.with_cached r.logs made st → {out now : List Entry} → Tells (derives_in c info r) (went made) out now → Tells keeps (went end) out now
    newly_told made end is {out} {now} first =
        subst (λ (x : Course Dir Fault (Live Dir)). Tells x (went end) out now) (sym as_derived)
        (then_told (derives_in c info r) keeps_it made (went end) first (record { lines = []; added = sym (append-nil now); by = (refl, is) }))
