-- Seeds and shares that are stored stay what they are.
use Rattle.std.proofs.Common.{◌≡◌, ◌≤◌, inl, inr, ℕ, Bool, true, false, cond, List, [], ◌∷◌, Option, Some, None, refl, sym, ◌∙◌, ap, subst, arith}
use Rattle.std.specs.Prelude.{◌+◌, ◌-◌, ◌==◌, ◌++◌, if◌then◌else◌, Result, Ok, Err, is_some, is_ok, option_and_then}
use Rattle.std.specs.Option.{option_map_or, option_or}
use Rattle.std.specs.Str.{bytes_eq}
use Rattle.std.specs.FinMap as maps
use Rattle.std.specs.FinMap.{FinMap, find, get, get-entries, nat_cmp-IsAntisymmetric}
use Rattle.std.specs.Ordering.{eq_by_cmp, nat_cmp}
use Rattle.std.specs.Cmp.{nat_cmp_total}
use Rattle.std.proofs.lemmas.Bool.Decides.{nat_tests}
use Rattle.dkg_values.specs.Codec.{whole as all_of}
use Rattle.dkg_values.specs.Rising.{lookup}
use Rattle.dkg_values.specs.declared.codec.CodecError.{CodecError}
use Rattle.dkg_ceremony.specs.declared.ceremony.AckError.{AckError}
use Rattle.dkg_ceremony.specs.declared.round.RoundParts.{RoundParts as Round}
use Rattle.dkg_ceremony.specs.declared.signed_log.SignedDealerLog.{SignedDealerLog}
use Rattle.dkg_ceremony.specs.Schedule.{epoch_of, last}
use Rattle.dkg_types.specs.Blocks.{Block}
use Rattle.dkg_types.specs.BlockCodes.{info_of}
use Rattle.dkg_infos.specs.declared.entry.Entry.TheVariants.{Offer}
use Rattle.dkg_infos.specs.declared.fault.Fault.{Fault}
use Rattle.dkg_infos.specs.declared.fault.Fault.TheVariants.{HeightRange, StateSyncEpochs, StateSyncMaterial, MissingEpochInfo, LocalState}
use Rattle.dkg_infos.specs.declared.fault.LocalCause.TheVariants.{OwnDealing}
use Rattle.dkg_infos.specs.declared.info.EpochInfo.{EpochInfo}
use Rattle.dkg_infos.specs.declared.outcome.EpochOutcome.{EpochOutcome}
use Rattle.dkg_infos.specs.declared.outcome.EpochOutcome.TheVariants.{Success, Failure}
use Rattle.dkg_infos.specs.declared.participants.ParticipantsError.{ParticipantsError}
use Rattle.dkg_types.specs.PayloadCodes.{its_log}
use Rattle.dkg_infos.specs.Validation.{validation}
use Rattle.dkg_journal.specs.Operations as of_journal
use Rattle.dkg_journal.specs.Operations.{Bars, Opens, PutsPlan, ClearsPlan}
use Rattle.dkg_secrets.specs.Keys.{StaysOrGoes}
use Rattle.dkg_secrets.specs.Secrets.{Secrets, Tries, after}
use Rattle.dkg_secrets.specs.declared.secrets.SecretOp.TheVariants.{PutShare, PutSeed, PutDealing, Prune}
use Rattle.dkg_secrets.proofs.Map.{same_key, get_here, get_other}
use Rattle.dkg_secrets.proofs.Tried.{all_done}
use Rattle.dkg_store.specs.Acts.{Held, Operation, OnDisk, Changes, World, does, Cause, Tears}
use Rattle.dkg_store.specs.declared.event.Event.TheVariants as events
use Rattle.dkg_store.proofs.Acts.{along_runs}
use Rattle.dkg_core.specs.Sources.{position, startup}
use Rattle.dkg_core.specs.Courses.{Course, Say, Do, CallOutside, Goes, Stops, bind, on_devices, Tracks, Throughout}
use Rattle.dkg_core.specs.Seen.{Seen}
use Rattle.dkg_core.specs.Fixed.{Fixed, Material, OneShot, start}
use Rattle.dkg_core.specs.Live.{Live, Dealer, Seat, Plays, Watches, Stage, Deals, Includes, Follows, Ends, Message, Mailed, Peer, Finalized, NextLog, ReleaseLog, EpochInfoOf, Feed, Over, Cancel, Work, awaited_height, recorded_at, with_used}
use Rattle.dkg_core.specs.Logs.{carried_log_event}
use Rattle.dkg_core.specs.Setup as s
use Rattle.dkg_core.specs.Dealing as d
use Rattle.dkg_core.specs.Including as i
use Rattle.dkg_core.specs.Blocks as b
use Rattle.dkg_core.specs.Plans as p
use Rattle.dkg_core.specs.OneShots as o
use Rattle.dkg_core.specs.Core.{opening, step, opens_in, begun_life}
use Rattle.dkg_core.specs.Laws.{LawKeeps, StartsWithin, reach_of}
use Rattle.dkg_core.specs.Forms.{share_read, seed_read, committed_by}
use Rattle.dkg_core.specs.Stepping.{CommitsAreRead}
use Rattle.dkg_core.specs.Storing.{ReadsSecrets, KeepsSeeds, KeepsShares, CommitsRecovered, OpeningsKeepSeeds, OpeningsKeepShares, StepsKeepSeeds, StepsKeepShares, NodeOpeningsKeepSecrets, NodeStepsKeepSecrets}
use Rattle.dkg_core.proofs.Behind.{openings_run_behind, steps_run_behind}
use Rattle.dkg_core.proofs.Holding.{along}
use Rattle.dkg_core.proofs.Opening.{above_floor}
use Rattle.dkg_core.proofs.Sparing.{sparing, peer_spares}
use Rattle.dkg_core.proofs.Upkeep.{along_if, along_option}
use Rattle.dkg_core.proofs.Walking as walk

-- WHAT A READ GIVES OF A MAP

equal_alike : (q k : ℕ) → eq_by_cmp nat_cmp q k ≡ (k == q)
equal_alike q k = grind (arith, nat_tests)

find_is_lookup : {V : Type 0} (q : ℕ) (es : List (ℕ × V)) → find nat_cmp q es ≡ lookup q es
find_is_lookup q [] = refl
find_is_lookup {V} q (e ∷ es) =
    ap (λ (b : Bool). cond b (Some e.1) (find nat_cmp q es)) (equal_alike q e.0)
    ∙ ap (λ (found : Option V). cond (e.0 == q) (Some e.1) found) (find_is_lookup q es)

pub looked_up : {V : Type 0} (k : ℕ) (m : FinMap nat_cmp V) → lookup k (maps.entries m) ≡ get m k
looked_up k m = sym (find_is_lookup k (maps.entries m)) ∙ sym (get-entries m k)

some_is : {A : Type 0} (a b : A) → ◌≡◌ {A = Option A} (Some a) (Some b) → a ≡ b
some_is a b e = cc

-- WHAT EACH CHANGE OF THE SECRETS KEEPS

-- Each change keeps R: a seed that is put is the stored one, or a fresh one where none is, and a share fits what is stored.
record IsKeeping {Dir : Type 0} (c : Fixed Dir) (R : Secrets → Type 0) (Fits : (epoch share : ℕ) → Secrets → Type 0) (most : ℕ) : Type 0 where
  half : (epoch dealer private : ℕ) (old new : Secrets) → Tries (PutDealing epoch dealer private) old new → R old → R new
  prune : (min : ℕ) (old new : Secrets) → min ≤ most → Tries (Prune min) old new → R old → R new
  seed : (epoch : ℕ) (seed : List ℕ) (old new : Secrets) → seed ≡ s.seed_for c epoch (get old.seeds epoch) → Tries (PutSeed epoch seed) old new → R old → R new
  share : (epoch share : ℕ) (old new : Secrets) → Fits epoch share old → Tries (PutShare epoch share) old new → R old → R new
  recovered : (h : Held) (info : EpochInfo Dir) (share : ℕ) → s.recovered_share c (c.seen h) info ≡ Some share → Fits info.epoch share h.secrets

module _ {V : Type 0} (most : ℕ) (held : FinMap nat_cmp V) where
  -- From this epoch on, what was held is held.
  abbrev Still : FinMap nat_cmp V → Type 0
  Still now = (epoch : ℕ) (value : V) → most ≤ epoch → get held epoch ≡ Some value → get now epoch ≡ Some value

  still_same : (old new : FinMap nat_cmp V) → new ≡ old → Still old → Still new
  still_same old new same was epoch value above got = ap (λ (m : FinMap nat_cmp V). get m epoch) same ∙ was epoch value above got

  -- a value is put that is the stored one, if there is one
  still_put : (old new : FinMap nat_cmp V) (at : ℕ) (value : V) → ((stored : V) → get old at ≡ Some stored → value ≡ stored) → new ≡ maps.insert old at value → Still old → Still new
  still_put old new at value fits is was epoch stored above got = elim (same_key nat_cmp_total nat_cmp-IsAntisymmetric epoch at) [
    | inl here ↦ (let old_one : get old at ≡ Some stored = ap (get old) (sym here) ∙ was epoch stored above got in
        ap (λ (m : FinMap nat_cmp V). get m epoch) is ∙ ap (get (maps.insert old at value)) here ∙ get_here nat_cmp_total nat_cmp-IsAntisymmetric old at value ∙ ap (λ (v : V). Some v) (fits stored old_one))
    | inr apart ↦ ap (λ (m : FinMap nat_cmp V). get m epoch) is ∙ get_other nat_cmp_total nat_cmp-IsAntisymmetric old at epoch value apart ∙ was epoch stored above got
  ]

  still_pruned : (min : ℕ) (old new : FinMap nat_cmp V) → min ≤ most → ((epoch : ℕ) → StaysOrGoes min epoch (get old epoch) (get new epoch)) → Still old → Still new
  still_pruned min old new low each was epoch value above got = either (each epoch)
    where
      either : StaysOrGoes min epoch (get old epoch) (get new epoch) → get new epoch ≡ Some value
      either (inl stays) = stays ∙ was epoch value above got
      either (inr goes) = absurd (let under = goes.0 in omega (arith, under, low, above))

seed_is : {Dir : Type 0} (c : Fixed Dir) (epoch : ℕ) (seed stored : List ℕ) (found : Option (List ℕ)) → seed ≡ s.seed_for c epoch found → found ≡ Some stored → seed ≡ stored
seed_is c epoch seed stored found is has = is ∙ ap (s.seed_for c epoch) has

module _ {Dir : Type 0} (c : Fixed Dir) (reads : ReadsSecrets c.seen) (most : ℕ) (h : Held) where
  abbrev HasSeeds : Secrets → Type 0
  HasSeeds now = Still most h.secrets.seeds now.seeds

  abbrev HasShares : Secrets → Type 0
  HasShares now = Still most h.secrets.shares now.shares

  abbrev AnyShare : (epoch share : ℕ) → Secrets → Type 0
  AnyShare epoch share now = Unit {0}

  abbrev StoredShare : (epoch share : ℕ) → Secrets → Type 0
  StoredShare epoch share now = (stored : ℕ) → get now.shares epoch ≡ Some stored → share ≡ stored

  seeds_kept : IsKeeping c HasSeeds AnyShare most
  seeds_kept = record {
    half = λ epoch dealer private old new tries was. elim tries.so [
      | inl same ↦ still_same most h.secrets.seeds old.seeds new.seeds (ap (λ (x : Secrets). x.seeds) same) was
      | inr done ↦ still_same most h.secrets.seeds old.seeds new.seeds (ap (λ (x : Secrets). x.seeds) done) was
    ];
    prune = λ min old new low tries was. still_pruned most h.secrets.seeds min old.seeds new.seeds low tries.so.seeds was;
    seed = λ epoch seed old new is tries was. elim tries.so [
      | inl same ↦ still_same most h.secrets.seeds old.seeds new.seeds (ap (λ (x : Secrets). x.seeds) same) was
      | inr done ↦ still_put most h.secrets.seeds old.seeds new.seeds epoch seed (λ stored has. seed_is c epoch seed stored (get old.seeds epoch) is has) (ap (λ (x : Secrets). x.seeds) done) was
    ];
    share = λ epoch share old new fits tries was. elim tries.so [
      | inl same ↦ still_same most h.secrets.seeds old.seeds new.seeds (ap (λ (x : Secrets). x.seeds) same) was
      | inr done ↦ still_same most h.secrets.seeds old.seeds new.seeds (ap (λ (x : Secrets). x.seeds) done) was
    ];
    recovered = λ held info share is. tt;
  }

  shares_kept : IsKeeping c HasShares StoredShare most
  shares_kept = record {
    half = λ epoch dealer private old new tries was. elim tries.so [
      | inl same ↦ still_same most h.secrets.shares old.shares new.shares (ap (λ (x : Secrets). x.shares) same) was
      | inr done ↦ still_same most h.secrets.shares old.shares new.shares (ap (λ (x : Secrets). x.shares) done) was
    ];
    prune = λ min old new low tries was. still_pruned most h.secrets.shares min old.shares new.shares low tries.so.shares was;
    seed = λ epoch seed old new is tries was. elim tries.so [
      | inl same ↦ still_same most h.secrets.shares old.shares new.shares (ap (λ (x : Secrets). x.shares) same) was
      | inr done ↦ still_same most h.secrets.shares old.shares new.shares (ap (λ (x : Secrets). x.shares) done) was
    ];
    share = λ epoch share old new fits tries was. elim tries.so [
      | inl same ↦ still_same most h.secrets.shares old.shares new.shares (ap (λ (x : Secrets). x.shares) same) was
      | inr done ↦ still_put most h.secrets.shares old.shares new.shares epoch share fits (ap (λ (x : Secrets). x.shares) done) was
    ];
    recovered = λ held info share is stored has.
        let found : lookup info.epoch (c.seen held).shares ≡ Some stored = ap (lookup info.epoch) (reads.shares held) ∙ looked_up info.epoch held.secrets.shares ∙ has in
        some_is share stored (sym is ∙ ap (λ (x : Option ℕ). option_or x (s.carried_share c (c.seen held) info info.outcome)) found);
  }

-- ALONG A STEP AND AN OPENING

-- of a peer's message: a private half is put
abbrev IsHalf : Operation → Type 0
IsHalf (OnDisk op) = Unit {0}
IsHalf (Changes (PutDealing epoch dealer private)) = Unit {0}
IsHalf (Changes op) = ⊥

module _ {Dir : Type 0} (c : Fixed Dir) (reads : ReadsSecrets c.seen) (R : Secrets → Type 0) (Fits : (epoch share : ℕ) → Secrets → Type 0) (most : ℕ) (keeping : IsKeeping c R Fits most) where
  abbrev P : World → Type 0
  P w = R w.held.secrets

  -- an operation on the disk leaves the secrets
  on_disk : (op : of_journal.JournalOperation) (cause : Cause) (w new : World) → Tears cause (OnDisk op) w new → P w → P new
  on_disk op cause w new tears q = subst R (sym tears.torn.0) q

  prunes : (min : ℕ) → min ≤ most → (st : Live Dir) (w : World) → P w → Throughout P (s.prunes min st) w
  prunes min low st w q = (
    λ cause new tears. on_disk (of_journal.Prunes min) cause w new tears q,
    (
      λ cause new tears. keeping.prune min w.held.secrets new.held.secrets low tears.torn.1 q,
      keeping.prune min w.held.secrets (after (Prune min) w.held.secrets) low (all_done (Prune min) w.held.secrets (after (Prune min) w.held.secrets) refl) q,
    ),
  )

  -- a seed that was read, and the line behind it
  abbrev read_seed : World → (epoch : ℕ) → List ℕ
  read_seed w epoch = s.seed_for c epoch (lookup epoch (c.seen w.held).seeds)

  seed_is_stored : (w : World) (epoch : ℕ) → read_seed w epoch ≡ s.seed_for c epoch (get w.held.secrets.seeds epoch)
  seed_is_stored w epoch = ap (s.seed_for c epoch) (ap (lookup epoch) (reads.seeds w.held) ∙ looked_up epoch w.held.secrets.seeds)

  commits : (info : EpochInfo Dir) (share : Option ℕ) (st : Live Dir) (w : World) → ((value : ℕ) → share ≡ Some value → Fits info.epoch value w.held.secrets) → P w
      → Throughout {Dir = Dir} P (s.commits info (read_seed w info.epoch) share st) w
  commits info None st w fits q =
      let seed = read_seed w info.epoch in
      let now = after (PutSeed info.epoch seed) w.held.secrets in
      let done = keeping.seed info.epoch seed w.held.secrets now (seed_is_stored w info.epoch) (all_done (PutSeed info.epoch seed) w.held.secrets now refl) q in
      (λ cause new tears. keeping.seed info.epoch seed w.held.secrets new.held.secrets (seed_is_stored w info.epoch) tears.torn.1 q, (done, done))
  commits info (Some share) st w fits q =
      let seed = read_seed w info.epoch in
      let shared = after (PutShare info.epoch share) w.held.secrets in
      let now = after (PutSeed info.epoch seed) shared in
      let first = keeping.share info.epoch share w.held.secrets shared (fits share refl) (all_done (PutShare info.epoch share) w.held.secrets shared refl) q in
      let done = keeping.seed info.epoch seed shared now (seed_is_stored w info.epoch) (all_done (PutSeed info.epoch seed) shared now refl) first in (
        λ cause new tears. keeping.share info.epoch share w.held.secrets new.held.secrets (fits share refl) tears.torn.1 q,
        (λ cause new tears. keeping.seed info.epoch seed shared new.held.secrets (seed_is_stored w info.epoch) tears.torn.1 first, (done, done)),
      )

  commits_read : (info : EpochInfo Dir) (st : Live Dir) (w : World) → P w → Throughout {Dir = Dir} P (s.commits info (read_seed w info.epoch) (s.recovered_share c (c.seen w.held) info) st) w
  commits_read info st w q = commits info (s.recovered_share c (c.seen w.held) info) st w (keeping.recovered w.held info) q

  setup : (m : Option (EpochInfo Dir × ℕ)) (st : Live Dir) (w : World) → (epoch_of c.blocks_per_epoch (awaited_height st) - 1) ≤ most → P w → Throughout P (s.setup c m st) w
  setup m st w low q = walk.setup c P (λ w line aside q. q) most commits_read prunes m st w low q

  -- A STEP

  -- peers
  half_done : (op : Operation) (w : World) → IsHalf op → P w → P (does w op)
  half_done (OnDisk op) w is q = q
  half_done (Changes (PutDealing epoch dealer private)) w is q =
      let now = after (PutDealing epoch dealer private) w.held.secrets in keeping.half epoch dealer private w.held.secrets now (all_done (PutDealing epoch dealer private) w.held.secrets now refl) q
  half_done (Changes (PutShare epoch share)) w is q = absurd is
  half_done (Changes (PutSeed epoch seed)) w is q = absurd is
  half_done (Changes (Prune min)) w is q = absurd is

  half_torn : (op : Operation) (cause : Cause) (w new : World) → IsHalf op → Tears cause op w new → P w → P new
  half_torn (OnDisk op) cause w new is tears q = on_disk op cause w new tears q
  half_torn (Changes (PutDealing epoch dealer private)) cause w new is tears q = keeping.half epoch dealer private w.held.secrets new.held.secrets tears.torn.1 q
  half_torn (Changes (PutShare epoch share)) cause w new is tears q = absurd is
  half_torn (Changes (PutSeed epoch seed)) cause w new is tears q = absurd is
  half_torn (Changes (Prune min)) cause w new is tears q = absurd is

  halves_keep : LawKeeps (sparing {Dir = Dir} {S = Live Dir} IsHalf) P
  halves_keep = record {
    said = λ past w line law q. q;
    done = λ past w op law q. half_done op w law q;
    torn = λ past cause w new op law q tears. half_torn op cause w new law tears q;
  }

  hears : (from : ℕ) (bytes : List ℕ) (st : Live Dir) (w : World) → P w → Throughout P (step c (Mailed (Peer from bytes)) st) w
  hears from bytes st w q =
      along (sparing IsHalf) P halves_keep [] (step c (Mailed (Peer from bytes)) st) w
      (peer_spares c IsHalf from bytes (λ epoch dealer private. tt) (λ epoch public private is. tt) (λ epoch ack is. tt) st) q

  -- its own dealing
  takes_ack : (epoch : ℕ) (dealer : Dealer) (player : ℕ) (ack : List ℕ) (st : Live Dir) (w : World) → P w → Throughout P (d.takes_ack epoch dealer player ack st) w
  takes_ack epoch dealer player ack st w q =
      let recorded : Course Dir Fault (Live Dir) = d.appends epoch (events.Ack player ack) (Goes (d.counts dealer player ack (d.with_ack epoch player ack st))) in
      along_if P w (is_some (lookup player dealer.acks)) (Goes st) (if is_some (recorded_at st.records.acks epoch player) then Goes (d.counts dealer player ack st) else recorded)
      (λ e. q) (λ e. along_if P w (is_some (recorded_at st.records.acks epoch player)) (Goes (d.counts dealer player ack st)) recorded (λ e. q) (λ e. (λ cause new tears. on_disk _ cause w new tears q, q)))

  checked_ack : (round : Round) (dealer : Dealer) (player : ℕ) (ack : List ℕ) (st : Live Dir) (check : Result (Unit {0}) AckError) (w : World) → P w → Throughout P (d.checked_ack round dealer player ack st check) w
  checked_ack round dealer player ack st (Err e) w q = (q, q)
  checked_ack round dealer player ack st (Ok passed) w q = takes_ack round.number dealer player ack st w q

  own_ack : (round : Round) (public : List ℕ) (st : Live Dir) (w : World) → P w → Throughout P (d.own_ack c round public st) w
  own_ack round public st w q =
      let ack = c.rules.ack_of c.me round c.me public in
      along_option P w st.participation.dealer (λ dealer. d.checked_ack round dealer c.me ack st (c.rules.check_ack_of round c.me dealer.public c.me ack)) (Goes st)
      (λ dealer e. checked_ack round dealer c.me ack st (c.rules.check_ack_of round c.me dealer.public c.me ack) w q) (λ e. q)

  to_itself_in : (round : Round) (public : List ℕ) (private : ℕ) (st : Live Dir) (found : Option (List ℕ × ℕ)) (w : World) → P w → Throughout P (d.deals_to_itself_in c round public private st found) w
  to_itself_in round public private st (Some pair) w q =
      along_if P w (bytes_eq pair.0 public) (d.own_ack c round public st) (Stops (LocalState (OwnDealing round.number pair.0 public))) (λ e. own_ack round public st w q) (λ e. q)
  to_itself_in round public private st None w q =
      let done = half_done (Changes (PutDealing round.number c.me private)) w tt q in (
        λ cause new tears. keeping.half round.number c.me private w.held.secrets new.held.secrets tears.torn.1 q,
        (λ cause new tears. on_disk _ cause (does w (Changes (PutDealing round.number c.me private))) new tears done, (done, own_ack round public (d.with_dealing_of round.number c.me public private st) _ done)),
      )

  to_itself : (round : Round) (public : List ℕ) (private : ℕ) (st : Live Dir) (seat : Seat) (w : World) → P w → Throughout P (d.offers_to_itself_in c round public private st seat) w
  to_itself round public private st Plays w q = to_itself_in round public private st (recorded_at st.records.dealings round.number c.me) w q
  to_itself round public private st Watches w q = q

  offers : (round : Round) (public : List ℕ) (ps : List (ℕ × ℕ)) (st : Live Dir) (w : World) → P w → Throughout P (d.offers c round public ps st) w
  offers round public [] st w q = q
  offers round public (p ∷ ps) st w q =
      let mine = d.offers_to_itself c round public p.1 st in
      along_if P w (p.0 == c.me) (bind mine (λ st. d.offers c round public ps st)) (Say (Offer round.number p.0 public p.1) (d.offers c round public ps st))
      (λ e. walk.then_next c P (λ w line aside q. q) mine (λ st. d.offers c round public ps st) w (to_itself round public p.1 st st.participation.seat w q) (λ end mid q. offers round public ps end mid q))
      (λ e. (q, offers round public ps st _ q))

  deals : (st : Live Dir) (w : World) → P w → Throughout P (d.deals c st) w
  deals st w q =
      walk.rounds c P (λ w line aside q. q) st (λ round. option_map_or (λ dealer. d.offers c round dealer.public (s.unsent_of_round round dealer) st) st.participation.dealer (Goes st)) w q
      (λ round. along_option P w st.participation.dealer (λ dealer. d.offers c round dealer.public (s.unsent_of_round round dealer) st) (Goes st) (λ dealer e. offers round dealer.public (s.unsent_of_round round dealer) st w q) (λ e. q))

  -- blocks
  module _ (block : Block Dir) (low : (epoch_of c.blocks_per_epoch (block.height + 1) - 1) ≤ most) where
    records_log : (epoch : ℕ) (log : SignedDealerLog) (st : Live Dir) (w : World) → P w → Throughout {Dir = Dir} P (b.records_log epoch block.height log st) w
    records_log epoch log st w q =
        along_if P w (is_some (recorded_at st.records.logs epoch log.dealer)) (Goes st)
        (d.appends epoch (carried_log_event log.dealer block.height log.log) (Goes (b.with_log_at epoch log.dealer block.height log.log st))) (λ e. q) (λ e. (λ cause new tears. on_disk _ cause w new tears q, q))

    applies : (st : Live Dir) (stage : Stage) (w : World) → (stage ≡ Includes → (epoch share : ℕ) (now : Secrets) → Fits epoch share now) → P w → Throughout P (b.applies_in c block st stage) w
    applies st Deals w any q = walk.ends_dealing c P (λ w line aside q. q) most commits_read prunes block low st w q (deals st w q)
    applies st Includes w any q =
        walk.including c P (λ w line aside q. q) most commits_read prunes block low (λ info share st w q. commits info share st w (λ value is. any refl info.epoch value w.held.secrets) q) st w (λ log is epoch. records_log epoch log st w q) q
    applies st Follows w any q = walk.follows_at c P (λ w line aside q. q) most commits_read prunes block low st w q
    applies st Ends w any q = q

  steps : (st : Live Dir) (message : Message Dir) (w : World) → reach_of c message ≤ most
      → ((b : Block Dir) → message ≡ Finalized b → st.participation.stage ≡ Includes → (epoch share : ℕ) (now : Secrets) → Fits epoch share now) → P w → Throughout P (step c message st) w
  steps st (Finalized block) w low any q =
      walk.delivered c P (λ w line aside q. q) most commits_read prunes block st w q (λ judged. applies block low st st.participation.stage w (any block refl) q) st.participation.stage
  steps st (Mailed (Peer from bytes)) w low any q = hears from bytes st w q
  steps st (Mailed (NextLog request height)) w low any q = walk.gives c P (λ w line aside q. q) request height (i.served_now st) (with_used request st) w q
  steps st (Mailed (ReleaseLog height)) w low any q = q
  steps st (Mailed (EpochInfoOf request)) w low any q = walk.asks_in c P (λ w line aside q. q) request (with_used request st) st.participation.stage w q
  steps st (Mailed (Feed request block)) w low any q =
      walk.advanced c P (λ w line aside q. q) (i.changed request (λ r. if r.ended then r else record r { blocks = r.blocks ++ block ∷ [] }) st) w q
  steps st (Mailed (Over request)) w low any q = walk.advanced c P (λ w line aside q. q) (i.changed request (λ r. record r { ended = true }) st) w q
  steps st (Mailed (Cancel request)) w low any q = walk.cancels c P (λ w line aside q. q) request st w q
  steps st (Mailed (Work handed)) w low any q = walk.works c P (λ w line aside q. q) handed st w q

  -- AN OPENING

  behind : (op : of_journal.JournalOperation) (course : Course Dir Fault (Live Dir)) (w : World) → P w → Throughout P course (does w (OnDisk op)) → Throughout P (Do (OnDisk op) course) w
  behind op course w q next = (λ cause new tears. on_disk op cause w new tears q, next)

  module _ (starts : StartsWithin c most) where
    starts_at : (m : Material Dir) (found : Option (Block Dir)) (st : Live Dir) (w : World) → c.source.by_digest m.floor.payload ≡ found → P w → Throughout P (p.starts_at c m found st) w
    starts_at m None st w is q = q
    starts_at m (Some floor) st w is q =
        setup (Some (m.info, floor.height)) (record st { tip = startup c.source.anchor (Some floor) }) w
        (above_floor (λ height. epoch_of c.blocks_per_epoch height - 1 ≤ most) (position c.source.anchor) floor starts.by_anchor (starts.by_floor m.floor.payload floor is)) q

    starts_from : (st : Live Dir) (m : Option (Material Dir)) (w : World) → P w → Throughout P (p.starts_from c st m) w
    starts_from st None w q = setup None (record st { tip = startup c.source.anchor None }) w starts.by_anchor q
    starts_from st (Some m) w q =
        let scheme = s.scheme_for c m.info (s.recovered_share c (c.seen w.held) m.info) in
        (q, starts_at m (c.source.by_digest m.floor.payload) (s.with_registered m.info.epoch scheme st) _ refl q)

    resolves : (st : Live Dir) (m : Option (Material Dir)) (w : World) → P w → Throughout P (p.resolves_plan c (p.starts_from c st) m) w
    resolves st None w q = starts_from st None w q
    resolves st (Some m) w q =
        along_if P w (p.is_outdated c m) (Do (OnDisk ClearsPlan) (p.starts_from c st None)) (p.starts_from c st (Some m))
        (λ e. behind ClearsPlan (p.starts_from c st None) w q (starts_from st None (does w (OnDisk ClearsPlan)) q)) (λ e. starts_from st (Some m) w q)

    abbrev next : Live Dir → Option (Material Dir) → Course Dir Fault (Live Dir)
    next st found = p.stays_in_range c (p.resolves_plan c (p.starts_from c st) found)

    in_range : (course : Course Dir Fault (Live Dir)) (w : World) → P w → Throughout P course w → Throughout P (p.stays_in_range c course) w
    in_range course w q t = along_if P w (option_map_or (λ t. s.is_past_range c (t.height + 1)) (start c) false) (Stops HeightRange) course (λ e. q) (λ e. t)

    goes : (st : Live Dir) (found : Option (Material Dir)) (w : World) → P w → Throughout P (next st found) w
    goes st found w q = in_range (p.resolves_plan c (p.starts_from c st) found) w q (resolves st found w q)

    of_one_epoch : (m : Material Dir) (course : Course Dir Fault (Live Dir)) (w : World) → P w → Throughout P course w → Throughout P (p.of_one_epoch m course) w
    of_one_epoch m course w q t = along_if P w (m.info.epoch == m.floor.epoch) course (Stops (StateSyncEpochs m.info.epoch m.floor.epoch)) (λ e. t) (λ e. q)

    stored : (st : Live Dir) (read : Result (Material Dir) CodecError) (w : World) → P w → Throughout P (p.stored (next st) read) w
    stored st (Err e) w q = q
    stored st (Ok m) w q = of_one_epoch m (next st (Some m)) w q (goes st (Some m) w q)

    reads_plan : (st : Live Dir) (plan : Option (List ℕ)) (w : World) → P w → Throughout P (p.reads_plan c plan (next st)) w
    reads_plan st (Some bytes) w q = stored st (all_of (p.material_at c bytes)) w q
    reads_plan st None w q = goes st None w q

    finds : (st : Live Dir) (m : Option (Material Dir)) (w : World) → P w → Throughout P (p.finds_material c m (next st)) w
    finds st (Some m) w q =
        let bytes = p.material_bytes c m in
        of_one_epoch m (if is_ok (all_of (p.material_at c bytes)) then Do (OnDisk (PutsPlan bytes)) (next st (Some m)) else Stops StateSyncMaterial) w q
        (along_if P w (is_ok (all_of (p.material_at c bytes))) (Do (OnDisk (PutsPlan bytes)) (next st (Some m))) (Stops StateSyncMaterial)
        (λ e. behind (PutsPlan bytes) (next st (Some m)) w q (goes st (Some m) (does w (OnDisk (PutsPlan bytes))) q)) (λ e. q))
    finds st None w q = reads_plan st (c.seen w.held).plan w q

    -- one-shot
    ends_with : (st : Live Dir) (found : Option (Block Dir)) (w : World) → P w → Throughout P (o.ends_with c st found) w
    ends_with st None w q = q
    ends_with st (Some block) w q =
        along_if P w (is_some (option_and_then its_log block.payload)) (Stops (MissingEpochInfo block.height)) (b.ends_once c (info_of block.payload) st) (λ e. q) (λ e. (q, q))

    begins_once : (once : OneShot Dir) (st : Live Dir) (w : World) → P w → Throughout P (o.begins_once c once (read_seed w 0) st) w
    begins_once once st w q =
        let seed = read_seed w 0 in
        let now = after (PutSeed 0 seed) w.held.secrets in (
          λ cause new tears. keeping.seed 0 seed w.held.secrets new.held.secrets (seed_is_stored w 0) tears.torn.1 q,
          walk.draws_up c P (λ w line aside q. q) (o.participants_in once) None None seed (s.anew c st) (does w (Changes (PutSeed 0 seed)))
              (keeping.seed 0 seed w.held.secrets now (seed_is_stored w 0) (all_done (PutSeed 0 seed) w.held.secrets now refl) q),
        )

    goes_once : (once : OneShot Dir) (share : Option ℕ) (st : Live Dir) (w : World) → P w → Throughout P (o.goes_once c once share (read_seed w 0) st) w
    goes_once once share st w q =
        let seed = read_seed w 0 in
        along_if P w (o.is_finished c st.tip share) (o.ends_with c st (c.source.block (last c.blocks_per_epoch 0))) (if o.is_refused c once then b.ends_once c None st else o.begins_once c once seed st)
        (λ e. ends_with st (c.source.block (last c.blocks_per_epoch 0)) w q)
        (λ e. along_if P w (o.is_refused c once) (b.ends_once c None st) (o.begins_once c once seed st) (λ e. (q, q)) (λ e. begins_once once st w q))

    tracks_once : (once : OneShot Dir) (course : Course Dir Fault (Live Dir)) (w : World) → Throughout P course w → Throughout P (o.tracks_once c once course) w
    tracks_once once course w t = along_if P w (o.is_refused c once) course (CallOutside (Tracks 0 (o.peers_in once) once.directory) course) (λ e. t) (λ e. t)

    valid_once : (once : OneShot Dir) (st : Live Dir) (valid : Result (Unit {0}) ParticipantsError) (w : World) → P w → Throughout P (o.valid_once c once st valid) w
    valid_once once st (Err e) w q = q
    valid_once once st (Ok passed) w q =
        tracks_once once (s.looks c (λ seen. o.goes_once c once (lookup 0 seen.shares) (s.seed_for c 0 (lookup 0 seen.seeds)) st)) w (goes_once once (lookup 0 (c.seen w.held).shares) st w q)

    opens : (once : Option (OneShot Dir)) (st : Live Dir) (w : World) → P w → Throughout P (opens_in c once st) w
    opens (Some once) st w q =
        in_range (o.opens_once c once st) w q (valid_once once (record st { tip = startup c.source.anchor None }) (validation (o.participants_in once) c.limit None 0) w q)
    opens None st w q = finds st c.material w q

    openings : (w : World) → P w → Throughout P (opening c) w
    openings w q = (
      λ cause new tears. on_disk Bars cause w new tears q,
      (λ cause new tears. on_disk (Opens c.opening_calls) cause (does w (OnDisk Bars)) new tears q, (q, opens c.oneshot (begun_life (c.seen (does (does w (OnDisk Bars)) (OnDisk (Opens c.opening_calls))).held)) _ q)),
    )

-- THE LAWS

-- what these devices hold
nothing_lost : {V : Type 0} (most : ℕ) (held : FinMap nat_cmp V) → Still most held held
nothing_lost most held epoch value above got = got

pub openings_keep_seeds : {Dir : Type 0} → OpeningsKeepSeeds Dir
openings_keep_seeds c most w reads starts =
    openings c reads (HasSeeds c reads most w.held) (AnyShare c reads most w.held) most (seeds_kept c reads most w.held) starts w (nothing_lost most w.held.secrets.seeds)

pub openings_keep_shares : {Dir : Type 0} → OpeningsKeepShares Dir
openings_keep_shares c most w reads starts =
    openings c reads (HasShares c reads most w.held) (StoredShare c reads most w.held) most (shares_kept c reads most w.held) starts w (nothing_lost most w.held.secrets.shares)

pub steps_keep_seeds : {Dir : Type 0} → StepsKeepSeeds Dir
steps_keep_seeds c st message most w reads low =
    steps c reads (HasSeeds c reads most w.held) (AnyShare c reads most w.held) most (seeds_kept c reads most w.held) st message w low (λ block is includes epoch share now. tt) (nothing_lost most w.held.secrets.seeds)

pub steps_keep_shares : {Dir : Type 0} → StepsKeepShares Dir
steps_keep_shares {Dir} c st message most w reads low recovers =
    steps c reads (HasShares c reads most w.held) (StoredShare c reads most w.held) most (shares_kept c reads most w.held) st message w low
    (λ block is includes. absurd (subst (λ (x : Message Dir). CommitsRecovered st x) is recovers includes)) (nothing_lost most w.held.secrets.shares)

-- behind the reshare half no device is touched
pub node_openings_keep_secrets : {Dir : Type 0} → NodeOpeningsKeepSecrets Dir
node_openings_keep_secrets c ended most w new reads starts run =
    let behind = openings_run_behind c ended w new run in
    let course = on_devices (opening c) in (
      (λ epoch seed above got. ap (λ (h : Held). get h.secrets.seeds epoch) behind.held
          ∙ along_runs (KeepsSeeds most w.held) course behind.half w behind.mid (openings_keep_seeds c most w reads starts) behind.run epoch seed above got),
      (λ epoch share above got. ap (λ (h : Held). get h.secrets.shares epoch) behind.held
          ∙ along_runs (KeepsShares most w.held) course behind.half w behind.mid (openings_keep_shares c most w reads starts) behind.run epoch share above got),
    )

pub node_steps_keep_secrets : {Dir : Type 0} → NodeStepsKeepSecrets Dir
node_steps_keep_secrets c st message ended most w new reads low run =
    let behind = steps_run_behind c st message ended w new run in
    let course = on_devices (step c message st) in (
      (λ epoch seed above got. ap (λ (h : Held). get h.secrets.seeds epoch) behind.held
          ∙ along_runs (KeepsSeeds most w.held) course behind.half w behind.mid (steps_keep_seeds c st message most w reads low) behind.run epoch seed above got),
      (λ recovers epoch share above got. ap (λ (h : Held). get h.secrets.shares epoch) behind.held
          ∙ along_runs (KeepsShares most w.held) course behind.half w behind.mid (steps_keep_shares c st message most w reads low recovers) behind.run epoch share above got),
    )

-- WHAT IS COMMITTED IS READ AGAIN

module _ {Dir : Type 0} (c : Fixed Dir) (info : EpochInfo Dir) where
  -- the recovered share goes by the shares alone
  carried_by : (one other : Seen) (outcome : EpochOutcome) → one.shares ≡ other.shares → s.carried_share c one info outcome ≡ s.carried_share c other info outcome
  carried_by one other Success same = refl
  carried_by one other Failure same = ap (λ (shares : List (ℕ × ℕ)). s.fitting c info (s.share_below shares info.epoch)) same

  recovered_by : (one other : Seen) → one.shares ≡ other.shares → s.recovered_share c one info ≡ s.recovered_share c other info
  recovered_by one other same =
      ap (λ (shares : List (ℕ × ℕ)). option_or (lookup info.epoch shares) (s.carried_share c one info info.outcome)) same ∙ ap (option_or (lookup info.epoch other.shares)) (carried_by one other info.outcome same)

  module _ (reads : ReadsSecrets c.seen) where
    found_share : (h : Held) → lookup info.epoch (c.seen h).shares ≡ get h.secrets.shares info.epoch
    found_share h = ap (lookup info.epoch) (reads.shares h) ∙ looked_up info.epoch h.secrets.shares

    found_seed : (h : Held) → lookup info.epoch (c.seen h).seeds ≡ get h.secrets.seeds info.epoch
    found_seed h = ap (lookup info.epoch) (reads.seeds h) ∙ looked_up info.epoch h.secrets.seeds

    -- behind a commit of this share, if there is one
    share_again : (h : Held) (seed : List ℕ) (share : Option ℕ) → s.recovered_share c (c.seen h) info ≡ share → s.recovered_share c (c.seen (committed_by s.Uncommitted info share seed h)) info ≡ share
    share_again h seed None is =
        let now = committed_by s.Uncommitted info None seed h in recovered_by (c.seen now) (c.seen h) (reads.shares now ∙ sym (reads.shares h)) ∙ is
    share_again h seed (Some share) is =
        let now = committed_by s.Uncommitted info (Some share) seed h in
        ap (λ (found : Option ℕ). option_or found (s.carried_share c (c.seen now) info info.outcome)) (found_share now ∙ get_here nat_cmp_total nat_cmp-IsAntisymmetric h.secrets.shares info.epoch share)

    seed_again : (h : Held) (seed : List ℕ) (share : Option ℕ) → s.seed_for c info.epoch (lookup info.epoch (c.seen (committed_by s.Uncommitted info share seed h)).seeds) ≡ seed
    seed_again h seed None =
        let now = committed_by s.Uncommitted info None seed h in
        ap (s.seed_for c info.epoch) (found_seed now ∙ get_here nat_cmp_total nat_cmp-IsAntisymmetric h.secrets.seeds info.epoch seed)
    seed_again h seed (Some share) =
        let now = committed_by s.Uncommitted info (Some share) seed h in
        ap (s.seed_for c info.epoch) (found_seed now ∙ get_here nat_cmp_total nat_cmp-IsAntisymmetric h.secrets.seeds info.epoch seed)

pub commits_are_read : {Dir : Type 0} → CommitsAreRead Dir
commits_are_read c info h reads = (share_again c info reads h (seed_read c info h) (share_read c info h) refl, seed_again c info reads h (seed_read c info h) (share_read c info h))
