-- A block that is applied: while dealing the dealings are offered, and a node that follows takes over at an epoch's last block.
use Rattle.std.proofs.Common.{◌≡◌, ℕ, ◌+◌, ◌-◌, Bool, true, false, List, Option, [], Some, None, Result, Ok, Err, refl, sym, ◌∙◌, ap, subst, arith, append-nil}
use Rattle.std.specs.Prelude.{IfErr, ◌==◌, is_some, if◌then◌else◌}
use Rattle.std.specs.Option.{option_map_or}
use Rattle.std.proofs.lemmas.Bool.Decides.{nat_tests}
use Rattle.dkg_ceremony.specs.Schedule.{epoch_of, last, midpoint}
use Rattle.dkg_ceremony.specs.declared.epocher.Bounds.{Bounds}
use Rattle.dkg_fence.specs.Readiness.{Readiness}
use Rattle.dkg_journal.specs.Names.{Files}
use Rattle.dkg_journal.specs.declared.journal.Journal.{Journal}
use Rattle.dkg_types.specs.BlockCodes.{info_of}
use Rattle.dkg_types.specs.Blocks.{Block}
use Rattle.dkg_infos.specs.declared.entry.Entry.{Entry}
use Rattle.dkg_infos.specs.declared.fault.Fault.{Fault}
use Rattle.dkg_infos.specs.declared.fault.Fault.TheVariants.{MissingEpochInfo, WrongEpoch}
use Rattle.dkg_infos.specs.declared.info.EpochInfo.{EpochInfo}
use Rattle.dkg_values.specs.Rising.{lookup}
use Rattle.dkg_store.specs.Acts.{Ended, Held, Moment, went}
use Rattle.dkg_core.specs.Blocks as blocks
use Rattle.dkg_core.specs.Courses.{Course, Ask, Goes, Stops, bind, on_devices}
use Rattle.dkg_core.specs.Dealing.{deals}
use Rattle.dkg_core.specs.Including.{advanced}
use Rattle.dkg_core.specs.Fixed.{Fixed, OneShot}
use Rattle.dkg_core.specs.Live.{Live, is_last_height, with_tip}
use Rattle.dkg_core.specs.Seen.{Seen}
use Rattle.dkg_core.specs.Setup as setup
use Rattle.dkg_core.specs.Setup.{begins_inclusion}
use Rattle.dkg_core.specs.Sources.{Tip}
use Rattle.dkg_life.specs.declared.config.Terms.{Terms}
use Rattle.dkg_life.specs.declared.life.Life.{Life}
use Rattle.dkg_life.specs.declared.stop.Stop.{Stop}
use Rattle.dkg_life.specs.declared.stop.Stop.TheVariants.{Fault as Faulted}
use Rattle.dkg_life.specs.Ends.{IsCaused, by_stop, cause_in}
use Rattle.dkg_life.specs.Given.{CanRead, GivesBoth, IsIn, ReadsPlanless}
use Rattle.dkg_life.specs.LiveOf.{Beside, live_of}
use Rattle.dkg_life.specs.Made.{MakesAt, Speaks, Tells}
use Rattle.dkg_life.specs.Moved.{IsFirm}
use Rattle.dkg_life.specs.Steps.{AreBoundsAt, carried_in, reads_secrets}
use Rattle.dkg_setup.proofs.OpeningCourses.{makes_as, tells_as}
use Rattle.dkg_life.proofs.Beside.{emptied}
use Rattle.dkg_life.proofs.Chained.{early_makes, early_told, then_makes, then_told}
use Rattle.dkg_life.proofs.Speaking.{goes_speaks, stops_speaks}

-- A TIP

abbrev pub tip_at : {Dir : Type 0} → Block Dir → Tip
tip_at b = record { height = b.height; digest = b.digest }

-- a life with the tip behind a block
pub tipped : {Dir : Type 0} (b : Block Dir) (beside : Beside Dir) (fence : Readiness) (life : Life Dir) (tip : Tip) → tip ≡ tip_at b
    → live_of beside fence (record life { tip = Some tip }) ≡ with_tip b (live_of beside fence life)
tipped b beside fence life tip is = ap (λ (t : Tip). live_of beside fence (record life { tip = Some t })) is

-- WHILE DEALING

-- No height counts as served.
abbrev pub unserving : {Dir : Type 0} → Beside Dir → Beside Dir
unserving beside = record beside { inclusion = record beside.inclusion { served = None } }

module _ {Dir : Type 0} (c : Fixed Dir) (b : Block Dir) where
  -- what follows the offers
  abbrev pub ends_offers : Live Dir → Course Dir Fault (Live Dir)
  ends_offers st = if b.height + 1 == midpoint c.blocks_per_epoch st.participation.epoch then advanced c (begins_inclusion c (with_tip b st)) else Goes (with_tip b st)

  module _ (beside : Beside Dir) (fence : Readiness) (mid : Life Dir) (n : ℕ) (same : c.blocks_per_epoch ≡ n) (middle : mid.midpoint ≡ midpoint n mid.epoch) where
    abbrev st : Live Dir
    st = live_of beside fence mid

    test_is : (q : Bool) → (b.height + 1 == mid.midpoint) ≡ q → (b.height + 1 == midpoint c.blocks_per_epoch mid.epoch) ≡ q
    test_is q is = ap (λ (m : ℕ). b.height + 1 == midpoint m mid.epoch) same ∙ ap (λ (m : ℕ). b.height + 1 == m) (sym middle) ∙ is

    abbrev at_test : Bool → Course Dir Fault (Live Dir)
    at_test q = if q then advanced c (begins_inclusion c (with_tip b st)) else Goes (with_tip b st)

    -- dealing goes on
    pub goes_on : (b.height + 1 == mid.midpoint) ≡ false → (tip : Tip) → tip ≡ tip_at b → (out : List Entry) → Speaks (ends_offers st) (went (live_of beside fence (record mid { tip = Some tip }))) out out
    goes_on is tip at out = goes_speaks (ends_offers st) (live_of beside fence (record mid { tip = Some tip })) (with_tip b st) (ap at_test (test_is false is)) (tipped b beside fence mid tip at) out

    -- or ends, and what waits is read
    pub dealing_ended : (b.height + 1 == mid.midpoint) ≡ true → (tip : Tip) → tip ≡ tip_at b → (new : Life Dir)
        → live_of (unserving beside) fence new ≡ begins_inclusion c (live_of (unserving beside) fence (record mid { tip = Some tip })) → ends_offers st ≡ advanced c (live_of (unserving beside) fence new)
    dealing_ended is tip at new begun = ap at_test (test_is true is) ∙ ap (advanced c) (sym (begun ∙ ap (begins_inclusion c) (tipped b (unserving beside) fence mid tip at)))

  -- BOTH

  pub offered_makes : (st mid : Live Dir) (how : Ended Fault (Live Dir)) {files files_mid files_now : Files} {image between now : Files → Type 0} {old at new : Moment}
      → MakesAt (on_devices (deals c st)) (went mid) files image files_mid between old at → MakesAt (on_devices (ends_offers mid)) how files_mid between files_now now at new
      → MakesAt (on_devices (blocks.deals_at c b st)) how files image files_now now old new
  offered_makes st mid how first second = then_makes (deals c st) ends_offers mid how first second

  pub unoffered_makes : (st : Live Dir) (stop : Stop) {files files_now : Files} {image now : Files → Type 0} {old new : Moment}
      → MakesAt (on_devices (deals c st)) (by_stop stop) files image files_now now old new → MakesAt (on_devices (blocks.deals_at c b st)) (by_stop stop) files image files_now now old new
  unoffered_makes st stop first = early_makes (deals c st) ends_offers stop first

  pub offered_told : (st mid : Live Dir) (how : Ended Fault (Live Dir)) {out at now : List Entry} → Tells (deals c st) (went mid) out at → Tells (ends_offers mid) how at now
      → Tells (blocks.deals_at c b st) how out now
  offered_told st mid how first second = then_told (deals c st) ends_offers mid how first second

  pub unoffered_told : (st : Live Dir) (stop : Stop) {out now : List Entry} → Tells (deals c st) (by_stop stop) out now → Tells (blocks.deals_at c b st) (by_stop stop) out now
  unoffered_told st stop first = early_told (deals c st) ends_offers stop first

-- WHAT A LAST BLOCK CARRIES

-- it carries none
abbrev pub refused_at : {Dir : Type 0} → (height : ℕ) → Result (EpochInfo Dir) Fault
refused_at height = Err (MissingEpochInfo height)

-- .. or another epoch's
abbrev pub refused_for : {Dir : Type 0} → (got expected : ℕ) → Result (EpochInfo Dir) Fault
refused_for got expected = Err (WrongEpoch expected got)

module _ {Dir : Type 0} (b : Block Dir) (epoch : ℕ) where
  abbrev by_info : Option (EpochInfo Dir) → Result (EpochInfo Dir) Fault
  by_info o = option_map_or (λ info. if info.epoch == epoch + 1 then Ok info else Err (WrongEpoch (epoch + 1) info.epoch)) o (Err (MissingEpochInfo b.height))

  -- by its payload
  pub carried_none : info_of b.payload ≡ None → carried_in epoch b ≡ Err (MissingEpochInfo b.height)
  carried_none is = ap by_info is

  module _ (info : EpochInfo Dir) (is : info_of b.payload ≡ Some info) where
    abbrev tested : Bool → Result (EpochInfo Dir) Fault
    tested p = if p then Ok info else Err (WrongEpoch (epoch + 1) info.epoch)

    pub carried_other : (info.epoch == epoch + 1) ≡ false → carried_in epoch b ≡ Err (WrongEpoch (epoch + 1) info.epoch)
    carried_other test = ap by_info is ∙ ap tested test

    pub carried_some : (info.epoch == epoch + 1) ≡ true → carried_in epoch b ≡ Ok info
    carried_some test = ap by_info is ∙ ap tested test

  cause_of : (o : Option (EpochInfo Dir)) → IfErr (by_info o) (λ e. cause_in e ≡ None)
  cause_of None = refl
  cause_of (Some info) = by_test (info.epoch == epoch + 1)
    where
      by_test : (p : Bool) → IfErr (if p then Ok info else Err (WrongEpoch (epoch + 1) info.epoch)) (λ e. cause_in e ≡ None)
      by_test true = tt
      by_test false = refl

  blames : (o : Option (EpochInfo Dir)) → IfErr (by_info o) (λ e. IsCaused (Faulted e) ⊥ ⊥ ⊥)
  blames None = tt
  blames (Some info) = by_test (info.epoch == epoch + 1)
    where
      by_test : (p : Bool) → IfErr (if p then Ok info else Err (WrongEpoch (epoch + 1) info.epoch)) (λ e. IsCaused (Faulted e) ⊥ ⊥ ⊥)
      by_test true = tt
      by_test false = tt

  -- what is refused blames no device
  pub carried_caused : (e : Fault) → carried_in epoch b ≡ Err e → IsCaused (Faulted e) ⊥ ⊥ ⊥
  carried_caused e is = let P : Result (EpochInfo Dir) Fault → Type 0 = λ r. IfErr r (λ its. IsCaused (Faulted its) ⊥ ⊥ ⊥) in subst P is (blames (info_of b.payload))

  pub own_cause : (e : Fault) → carried_in epoch b ≡ Err e → cause_in e ≡ None
  own_cause e is = let P : Result (EpochInfo Dir) Fault → Type 0 = λ r. IfErr r (λ its. cause_in its ≡ None) in subst P is (cause_of (info_of b.payload))

  same_ok : (x y : EpochInfo Dir) → ◌≡◌ {A = Result (EpochInfo Dir) Fault} (Ok x) (Ok y) → x ≡ y
  same_ok x y e = cc

  of_next : (o : Option (EpochInfo Dir)) (info : EpochInfo Dir) → by_info o ≡ Ok info → info.epoch ≡ epoch + 1
  of_next None info is = absurd cc
  of_next (Some its) info is = by_test (its.epoch == epoch + 1) refl is
    where
      by_test : (p : Bool) → (its.epoch == epoch + 1) ≡ p → (if p then Ok its else Err (WrongEpoch (epoch + 1) its.epoch)) ≡ Ok info → info.epoch ≡ epoch + 1
      by_test true test is = ap (λ (i : EpochInfo Dir). i.epoch) (sym (same_ok its info is)) ∙ grind (arith, nat_tests, test)
      by_test false test is = absurd cc

  -- what is carried is the next epoch's
  pub carried_next : (info : EpochInfo Dir) → carried_in epoch b ≡ Ok info → info.epoch ≡ epoch + 1
  carried_next info is = of_next (info_of b.payload) info is

-- AT AN EPOCH'S LAST BLOCK, and before it

module _ {Dir : Type 0} (c : Fixed Dir) (b : Block Dir) (n : ℕ) (same : c.blocks_per_epoch ≡ n) (reshare : c.oneshot ≡ None) (bounds : Bounds) (are : AreBoundsAt n bounds b.height) where
  pub last_is : (q : Bool) → (b.height == bounds.last) ≡ q → is_last_height c b.height ≡ q
  last_is q is = ap (λ (m : ℕ). b.height == last m (epoch_of m b.height)) same ∙ ap (λ (x : Bounds). b.height == x.last) (sym are.are) ∙ is

  expected_is : blocks.expected_epoch c b.height ≡ bounds.epoch + 1
  expected_is =
      ap (λ (o : Option (OneShot Dir)). if is_some o then 0 else epoch_of c.blocks_per_epoch b.height + 1) reshare
      ∙ ap (λ (m : ℕ). epoch_of m b.height + 1) same
      ∙ ap (λ (x : Bounds). x.epoch + 1) (sym are.are)

  -- how it goes on by what it carries
  module _ (goes_in : EpochInfo Dir → Course Dir Fault (Live Dir)) where
    abbrev by_carried : Result (EpochInfo Dir) Fault → Course Dir Fault (Live Dir)
    by_carried (Ok info) = goes_in info
    by_carried (Err e) = Stops e

    nested : (e : ℕ) (o : Option (EpochInfo Dir))
        → option_map_or (λ (info : EpochInfo Dir). if info.epoch == e then goes_in info else Stops (WrongEpoch e info.epoch)) o (Stops (MissingEpochInfo b.height))
        ≡ by_carried (option_map_or (λ (info : EpochInfo Dir). if info.epoch == e then Ok info else Err (WrongEpoch e info.epoch)) o (Err (MissingEpochInfo b.height)))
    nested e None = refl
    nested e (Some info) = by_test (info.epoch == e)
      where
        by_test : (p : Bool) → (if p then goes_in info else Stops (WrongEpoch e info.epoch)) ≡ by_carried (if p then Ok info else Err (WrongEpoch e info.epoch))
        by_test true = refl
        by_test false = refl

    carried_is : blocks.carried c b goes_in ≡ by_carried (carried_in bounds.epoch b)
    carried_is =
        ap (λ (e : ℕ). option_map_or (λ (info : EpochInfo Dir). if info.epoch == e then goes_in info else Stops (WrongEpoch e info.epoch)) (info_of b.payload) (Stops (MissingEpochInfo b.height))) expected_is
        ∙ nested (bounds.epoch + 1) (info_of b.payload)

    pub carried_well : (info : EpochInfo Dir) → carried_in bounds.epoch b ≡ Ok info → blocks.carried c b goes_in ≡ goes_in info
    carried_well info is = carried_is ∙ ap by_carried is

    pub carried_ill : (e : Fault) → carried_in bounds.epoch b ≡ Err e → blocks.carried c b goes_in ≡ Stops e
    carried_ill e is = carried_is ∙ ap by_carried is

-- WHILE FOLLOWING

module _ {Dir : Type 0} (c : Fixed Dir) (b : Block Dir) (st : Live Dir) (n : ℕ) (same : c.blocks_per_epoch ≡ n) (reshare : c.oneshot ≡ None) (bounds : Bounds) (are : AreBoundsAt n bounds b.height) where
  abbrev goes_in : EpochInfo Dir → Course Dir Fault (Live Dir)
  goes_in info = blocks.follows_into c b info st

  abbrev at_last : Bool → Course Dir Fault (Live Dir)
  at_last q = if q then blocks.carried c b goes_in else Goes (with_tip b st)

  -- below an epoch's last block its tip moves
  pub before_last : (b.height == bounds.last) ≡ false → blocks.follows_at c b st ≡ Goes (with_tip b st)
  before_last is = ap at_last (last_is c b n same reshare bounds are false is)

  module _ (at : (b.height == bounds.last) ≡ true) where
    -- at the last one it is looked at what it carries
    pub at_its_last : (info : EpochInfo Dir) → carried_in bounds.epoch b ≡ Ok info → blocks.follows_at c b st ≡ blocks.follows_into c b info st
    at_its_last info is = ap at_last (last_is c b n same reshare bounds are true at) ∙ carried_well c b n same reshare bounds are goes_in info is

    pub not_carried : (e : Fault) → carried_in bounds.epoch b ≡ Err e → (out : List Entry) → Speaks (blocks.follows_at c b st) (by_stop (Faulted e)) out out
    not_carried e is out =
        stops_speaks (blocks.follows_at c b st) e (ap at_last (last_is c b n same reshare bounds are true at) ∙ carried_ill c b n same reshare bounds are goes_in e is) (own_cause b bounds.epoch e is) out

-- INTO THE NEXT EPOCH

module _ {Dir : Type 0} (c : Fixed Dir) (b : Block Dir) (info : EpochInfo Dir) (st : Live Dir) where
  -- the commit and the registration, with a share and a seed
  abbrev pub commits_both : Option ℕ × List ℕ → Course Dir Fault (Live Dir)
  commits_both p = bind (setup.commits info p.1 p.0 st) (λ s. setup.registers c info p.0 s)

  abbrev pub sets_up_next : Live Dir → Course Dir Fault (Live Dir)
  sets_up_next s = setup.setup c None (with_tip b s)

  abbrev pub behind_secrets : Option ℕ × List ℕ → Course Dir Fault (Live Dir)
  behind_secrets p = bind (commits_both p) sets_up_next

  joined : (share : Option ℕ) (seed : List ℕ) → bind (setup.commits info seed share st) (λ s. bind (setup.registers c info share s) sets_up_next) ≡ behind_secrets (share, seed)
  joined None seed = refl
  joined (Some share) seed = refl

  follows_is : blocks.follows_into c b info st ≡ bind (reads_secrets c info) behind_secrets
  follows_is = λ i. Ask (λ h. joined (setup.recovered_share c (c.seen h) info) (setup.seed_for c info.epoch (lookup info.epoch (c.seen h).seeds)) i)

  -- MADE

  pub unread_makes : (stop : Stop) {files files_now : Files} {image now : Files → Type 0} {old new : Moment}
      → MakesAt (on_devices (reads_secrets c info)) (by_stop stop) files image files_now now old new → MakesAt (on_devices (blocks.follows_into c b info st)) (by_stop stop) files image files_now now old new
  unread_makes stop made = makes_as follows_is (by_stop stop) (early_makes (reads_secrets c info) behind_secrets stop made)

  module _ (share : Option ℕ) (seed : List ℕ) {files files1 files_now : Files} {image image1 now : Files → Type 0} {old m1 new : Moment}
      (read : MakesAt (on_devices (reads_secrets c info)) (went (share, seed)) files image files1 image1 old m1)
    where
      behind_makes : (how : Ended Fault (Live Dir)) → MakesAt (on_devices (behind_secrets (share, seed))) how files1 image1 files_now now m1 new
          → MakesAt (on_devices (blocks.follows_into c b info st)) how files image files_now now old new
      behind_makes how made = makes_as follows_is how (then_makes (reads_secrets c info) behind_secrets (share, seed) how read made)

      pub uncommitted_makes : (stop : Stop) → MakesAt (on_devices (commits_both (share, seed))) (by_stop stop) files1 image1 files_now now m1 new
          → MakesAt (on_devices (blocks.follows_into c b info st)) (by_stop stop) files image files_now now old new
      uncommitted_makes stop made = behind_makes (by_stop stop) (early_makes (commits_both (share, seed)) sets_up_next stop made)

      pub took_over_makes : (mid : Live Dir) (how : Ended Fault (Live Dir)) {files2 : Files} {image2 : Files → Type 0} {m2 : Moment}
          → MakesAt (on_devices (commits_both (share, seed))) (went mid) files1 image1 files2 image2 m1 m2 → MakesAt (on_devices (setup.setup c None (with_tip b mid))) how files2 image2 files_now now m2 new
          → MakesAt (on_devices (blocks.follows_into c b info st)) how files image files_now now old new
      took_over_makes mid how committed made = behind_makes how (then_makes (commits_both (share, seed)) sets_up_next mid how committed made)

  -- SAID

  pub unread_told : (stop : Stop) {out now : List Entry} → Tells (reads_secrets c info) (by_stop stop) out now → Tells (blocks.follows_into c b info st) (by_stop stop) out now
  unread_told stop told = tells_as follows_is (by_stop stop) (early_told (reads_secrets c info) behind_secrets stop told)

  module _ (share : Option ℕ) (seed : List ℕ) {out now : List Entry} (read : Tells (reads_secrets c info) (went (share, seed)) out out) where
    behind_told : (how : Ended Fault (Live Dir)) → Tells (behind_secrets (share, seed)) how out now → Tells (blocks.follows_into c b info st) how out now
    behind_told how told = tells_as follows_is how (then_told (reads_secrets c info) behind_secrets (share, seed) how read told)

    pub uncommitted_told : (stop : Stop) → Tells (commits_both (share, seed)) (by_stop stop) out now → Tells (blocks.follows_into c b info st) (by_stop stop) out now
    uncommitted_told stop told = behind_told (by_stop stop) (early_told (commits_both (share, seed)) sets_up_next stop told)

    pub took_over_told : (mid : Live Dir) (how : Ended Fault (Live Dir)) {at : List Entry} → Tells (commits_both (share, seed)) (went mid) out at → Tells (setup.setup c None (with_tip b mid)) how at now
        → Tells (blocks.follows_into c b info st) how out now
    took_over_told mid how committed told = behind_told how (then_told (commits_both (share, seed)) sets_up_next mid how committed told)

-- What some held shares and seeds give, a read without the plan can give.
pub secrets_told : {Dir : Type 0} (c : Fixed Dir) (info : EpochInfo Dir) (share : Option ℕ) (seed : List ℕ) (h : Held) → ReadsPlanless c → GivesBoth c info share seed h → (out : List Entry)
    → Tells (reads_secrets c info) (went (share, seed)) out out
secrets_told c info share seed h reads gives out =
    let given : (setup.recovered_share c (c.seen h) info ≡ share) × (setup.seed_for c info.epoch (lookup info.epoch (c.seen h).seeds) ≡ seed) =
    gives (c.seen h) (ap (λ (seen : Held → Seen). (seen h).shares) reads) (ap (λ (seen : Held → Seen). (seen h).seeds) reads) in
    record { lines = []; added = sym (append-nil out); by = (h, (refl, λ i. (sym given.0 i, sym given.1 i))) }

pub can_read : {Dir : Type 0} (c : Fixed Dir) (h : Held) → ReadsPlanless c → CanRead c h
can_read c h reads = (h, ap (λ (seen : Held → Seen). (seen h).shares) reads, ap (λ (seen : Held → Seen). (seen h).seeds) reads)

-- THE SAME LIFE

-- a life that is as it was
pub as_it_was : {Dir : Type 0} (c : Fixed Dir) (b : Block Dir) (info : EpochInfo Dir) (beside : Beside Dir) (fence : Readiness) (old new : Life Dir) → new ≡ old
    → blocks.follows_into c b info (live_of beside fence old) ≡ blocks.follows_into c b info (live_of beside fence new)
as_it_was {Dir} c b info beside fence old new same = ap (λ (l : Life Dir). blocks.follows_into c b info (live_of beside fence l)) (sym same)

-- one of which inclusion has nothing of the epoch before
pub follows_anew : {Dir : Type 0} (c : Fixed Dir) (b : Block Dir) (info : EpochInfo Dir) (beside : Beside Dir) (fence : Readiness) (life : Life Dir)
    → blocks.follows_into c b info (live_of beside fence life) ≡ blocks.follows_into c b info (live_of (record beside { inclusion = emptied beside.inclusion }) fence life)
follows_anew c b info beside fence life = λ i. Ask (λ h. anew_by (setup.recovered_share c (c.seen h) info) (setup.seed_for c info.epoch (lookup info.epoch (c.seen h).seeds)) i)
  where
    anew_by : (share : Option ℕ) (seed : List ℕ)
        → bind (setup.commits info seed share (live_of beside fence life)) (λ s. bind (setup.registers c info share s) (λ s. setup.setup c None (with_tip b s)))
        ≡ bind (setup.commits info seed share (live_of (record beside { inclusion = emptied beside.inclusion }) fence life)) (λ s. bind (setup.registers c info share s) (λ s. setup.setup c None (with_tip b s)))
    anew_by None seed = refl
    anew_by (Some share) seed = refl

-- the setup behind a block
pub set_up_behind : {Dir : Type 0} (c : Fixed Dir) (b : Block Dir) (beside : Beside Dir) (fence : Readiness) (life : Life Dir) (tip : Tip) → tip ≡ tip_at b
    → setup.setup c None (with_tip b (live_of beside fence life)) ≡ setup.setup c None (live_of beside fence (record life { tip = Some tip }))
set_up_behind {Dir} c b beside fence life tip is = ap (λ (st : Live Dir). setup.setup c None st) (sym (tipped b beside fence life tip is))

-- the word of a life that a call went on with
pub in_word : {Dir : Type 0} (terms : Terms) (word its : ℕ) (c : Fixed Dir) → its ≡ word → IsIn terms word c → IsIn terms its c
in_word terms word its c same is = record { of = is.of; word_is = is.word_is ∙ sym same }

-- A journal is firm where it and its disk are as they were.
pub firm_on : {D : Type 0} (files : D → Files) (image : D → Files → Type 0) (old new : D) → new ≡ old → (j k : Journal) → k ≡ j → IsFirm j (files old) (image old) → IsFirm k (files new) (image new)
firm_on {D} files image old new disk j k journal firm = subst (λ (d : D). IsFirm k (files d) (image d)) (sym disk) (subst (λ (x : Journal). IsFirm x (files old) (image old)) (sym journal) firm)
