-- What holds of all that a step may say: artifacts are of one epoch, and only a subscriber has peers tracked.
use Rattle.std.proofs.Common.{◌≡◌, inl, inr, ℕ, Bool, true, false, not, ◌-◌, ◌&&◌, ◌||◌, ◌==◌, nat_lt, List, [], ◌∷◌, ◌++◌, map, Option, Some, None, is_none, Result, Ok, Err, if◌then◌else◌, refl, sym, subst, ◌∙◌, append_assoc, append-nil, eqb-true}
use Rattle.dkg_values.specs.Codec.{whole}
use Rattle.dkg_values.specs.declared.codec.CodecError.{CodecError}
use Rattle.dkg_types.specs.BlockCodes.{info_of}
use Rattle.dkg_types.specs.Blocks.{Block}
use Rattle.dkg_infos.specs.declared.entry.BlockedWhy.TheVariants as why
use Rattle.dkg_infos.specs.declared.entry.BlockedWhy.{BlockedWhy}
use Rattle.dkg_infos.specs.declared.entry.Entry.{Entry}
use Rattle.dkg_infos.specs.declared.entry.Entry.TheVariants.{Blocked, Sent}
use Rattle.dkg_infos.specs.declared.participants.TrackedPeers.{TrackedPeers}
use Rattle.dkg_values.specs.Uint.{uint}
use Rattle.dkg_types.specs.declared.finalization.Finalization.{Finalization}
use Rattle.dkg_infos.specs.declared.info.EpochInfo.{EpochInfo}
use Rattle.dkg_probe.specs.declared.artifact.Artifact.{Artifact as Known}
use Rattle.dkg_probe.specs.declared.event.Event.{Event}
use Rattle.dkg_probe.specs.declared.event.Event.TheVariants.{Subscribe, Unsubscribe, Attach, Peer, Retry}
use Rattle.dkg_probe.specs.declared.state.State.{State}
use Rattle.dkg_probe.specs.declared.wire.Request.{Request}
use Rattle.dkg_probe.specs.Acts.{ProbeActs, Say, Track, Goes, Stops, says_all, ProbeCompletes, ProbeFaults, ProbeBreaks, ProbeEnded, went, stopped, broken, ProbeRuns, Each, tracked_after}
use Rattle.dkg_probe.specs.Candidates.{Awaiting, Candidate, is_candidate, with_candidate, first_candidate, next_asked}
use Rattle.dkg_probe.specs.OneEpoch.{OfOneEpoch, SaidSince}
use Rattle.dkg_probe.specs.Probing as probing
use Rattle.dkg_probe.specs.Probing.{ProbeFixed, Probes, latest_request, with_sample, with_awaited, asks_dealers, asks_peer_for, asks_next, one_more, is_done, is_first, activates, subscribes, retries_in, retries, with_known, artifact_entry, of_genesis, resolves, begins_at, awaits_block, from_floor, dealers_in, samples, chooses, is_dealer, hears_latest, adds_candidate, hears_boundary, info_for, info_at_height, found_in, from_body, hears_body, hears_block, hears_in, discovers, response_to, answers_peer, serves, hears, takes}
use Rattle.dkg_probe.specs.Sampling.{awaits, sample_recorded, selected, floor_of, sample_forgotten}
use Rattle.dkg_probe.specs.Sources.{ProbeSource}
use Rattle.dkg_probe.specs.Wire.{ProbeReply, BoundaryReply, BlockReply, LatestReply, with_commitment, request_of, reply_of}

-- what was said is of P where all that may be said is
pub none_more : (P : Entry → Type 0) (out new : List Entry) → new ≡ out → SaidSince P out new
none_more P out new e = ([], e ∙ sym (append-nil out), tt)

pub one_more_said : (P : Entry → Type 0) (line : Entry) (out new : List Entry) → P line → SaidSince P (out ++ line ∷ []) new → SaidSince P out new
one_more_said P line out new p (more, e, all) = (line ∷ more, e ∙ append_assoc out (line ∷ []) more, (p, all))

-- P of each line, whatever stands behind it
abbrev pub Said : {F S : Type 0} → (Entry → Type 0) → Entry → ProbeActs F S → Type 0
Said P line acts = P line

module _ {F S : Type 0} (P : Entry → Type 0) (Q : Type 0) where
  said_completing : (acts : ProbeActs F S) (end : S) (out new : List Entry) → Each (Said P) Q acts → ProbeCompletes acts end out new → SaidSince P out new
  said_completing (Say line acts) end out new all done = one_more_said P line out new all.0 (said_completing acts end (out ++ line ∷ []) new all.1 done)
  said_completing (Track epoch peers acts) end out new all done = said_completing acts end out new all.1 done
  said_completing (Goes its) end out new all done = none_more P out new done.0
  said_completing (Stops fault) end out new all done = absurd done

  said_faulting : (acts : ProbeActs F S) (fault : F) (out new : List Entry) → Each (Said P) Q acts → ProbeFaults acts fault out new → SaidSince P out new
  said_faulting (Say line acts) fault out new all done = one_more_said P line out new all.0 (said_faulting acts fault (out ++ line ∷ []) new all.1 done)
  said_faulting (Track epoch peers acts) fault out new all done = said_faulting acts fault out new all.1 done
  said_faulting (Goes its) fault out new all done = absurd done
  said_faulting (Stops its) fault out new all done = none_more P out new done.0

  said_breaking : (acts : ProbeActs F S) (out new : List Entry) → Each (Said P) Q acts → ProbeBreaks acts out new → SaidSince P out new
  said_breaking (Say line acts) out new all done = elim done [ inl e ↦ none_more P out new e | inr more ↦ one_more_said P line out new all.0 (said_breaking acts (out ++ line ∷ []) new all.1 more.1) ]
  said_breaking (Track epoch peers acts) out new all done = said_breaking acts out new all.1 done
  said_breaking (Goes its) out new all done = none_more P out new done
  said_breaking (Stops its) out new all done = none_more P out new done

  pub said_running : (acts : ProbeActs F S) (ended : ProbeEnded F S) (out new : List Entry) → Each (Said P) Q acts → ProbeRuns acts ended out new → SaidSince P out new
  said_running acts (went end) out new all done = said_completing acts end out new all done
  said_running acts (stopped fault) out new all done = said_faulting acts fault out new all done
  said_running acts broken out new all done = said_breaking acts out new all done

pub if_each : {F S : Type 0} (P : Entry → ProbeActs F S → Type 0) (Q : Type 0) (b : Bool) (x y : ProbeActs F S) → (b ≡ true → Each P Q x) → (b ≡ false → Each P Q y) → Each P Q (if b then x else y)
if_each P Q true x y p q = p refl
if_each P Q false x y p q = q refl

-- where nothing is tracked, the sets stay
none_tracked : {F S : Type 0} (P : Entry → ProbeActs F S → Type 0) (acts : ProbeActs F S) (sets : ℕ → Option TrackedPeers) (n : ℕ) → Each P ⊥ acts → tracked_after acts sets n ≡ sets n
none_tracked P (Say line acts) sets n all = none_tracked P acts sets n all.1
none_tracked P (Track epoch peers acts) sets n all = absurd all.0
none_tracked P (Goes its) sets n all = refl
none_tracked P (Stops its) sets n all = refl

module _ {Dir : Type 0} (c : ProbeFixed Dir) (P : Entry → Probes Dir → Type 0) (Q : Type 0) (sent : (to : Option ℕ) (bytes : List ℕ) (acts : Probes Dir) → P (Sent to bytes) acts) (blocked : (peer : ℕ) (reason : BlockedWhy) (acts : Probes Dir) → P (Blocked peer reason) acts)
    (found : (known : Known Dir) (st : State Dir) → known.info.epoch ≡ known.floor.epoch → P (artifact_entry c.spelling known) (Goes (with_known known st)))
    (genesis : (floor : Finalization) (st : State Dir) → floor.epoch ≡ 0 → P (artifact_entry c.spelling (of_genesis c floor)) (Goes (with_known (of_genesis c floor) st))) where
  abbrev Fine : Probes Dir → Type 0
  Fine = Each P Q

  if_fine : (b : Bool) (x y : Probes Dir) → (b ≡ true → Fine x) → (b ≡ false → Fine y) → Fine (if b then x else y)
  if_fine b x y p q = if_each P Q b x y p q

  each_asked : (dealers : List ℕ) (st : State Dir) → Fine (says_all (map latest_request dealers) (Goes st))
  each_asked [] st = tt
  each_asked (dealer ∷ dealers) st = (sent (Some dealer) (4 ∷ []) _, each_asked dealers st)

  asked_fine : (candidate : Option Candidate) (epoch : ℕ) (st : State Dir) → Fine (asks_peer_for candidate epoch st)
  asked_fine None epoch st = (sent None (0 ∷ uint epoch) _, tt)
  asked_fine (Some candidate) epoch st = (sent (Some candidate.0) (2 ∷ uint epoch) _, tt)

  next_fine : (a : Awaiting) (st : State Dir) → Fine (asks_next a st)
  next_fine a st = asked_fine (first_candidate a.others) a.floor.epoch (with_awaited (next_asked a) st)

  dealers_fine : (st : State Dir) → Fine (asks_dealers c st)
  dealers_fine st = each_asked c.bootstrap.participants.dealers (with_sample (sample_forgotten st.sample) st)

  retries_in_fine : (st : State Dir) (awaited : Option Awaiting) → Fine (retries_in c st awaited)
  retries_in_fine st (Some a) = next_fine a st
  retries_in_fine st None = if_fine (is_none st.sample.chosen) (asks_dealers c st) (Goes st) (λ e. dealers_fine st) (λ e. tt)

  retries_fine : (st : State Dir) → Fine (retries c st)
  retries_fine st = if_fine (is_done st || (st.subscribers == 0)) (Goes st) (retries_in c st st.awaited) (λ e. tt) (λ e. retries_in_fine st st.awaited)

  resolves_fine : (known : Known Dir) (st : State Dir) → known.info.epoch ≡ known.floor.epoch → Fine (resolves c.spelling known st)
  resolves_fine known st e = (found known st e, tt)

  awaits_fine : (floor : Finalization) (st : State Dir) (height : Option ℕ) → Fine (awaits_block floor st height)
  awaits_fine floor st None = tt
  awaits_fine floor st (Some height) = (sent None (0 ∷ uint floor.epoch) _, tt)

  found_for : (epoch : ℕ) (carried : Option (EpochInfo Dir)) (info : EpochInfo Dir) → info_for epoch carried ≡ Some info → info.epoch ≡ epoch
  found_for epoch None info e = absurd cc
  found_for epoch (Some carried) info e = tested (carried.epoch == epoch) refl e
    where
      tested : (b : Bool) → (carried.epoch == epoch) ≡ b → (if b then Some carried else None) ≡ Some info → info.epoch ≡ epoch
      tested true t s = let same : carried ≡ info = cc in subst (λ (i : EpochInfo Dir). i.epoch ≡ epoch) same (eqb-true carried.epoch epoch t)
      tested false t s = absurd cc

  found_at : (height epoch : ℕ) (read : Result (Block Dir) CodecError) (info : EpochInfo Dir) → info_at_height height epoch read ≡ Some info → info.epoch ≡ epoch
  found_at height epoch (Err e) info is = absurd cc
  found_at height epoch (Ok b) info is = tested (b.height == height) is
    where
      tested : (t : Bool) → (if t then info_for epoch (info_of b.payload) else None) ≡ Some info → info.epoch ≡ epoch
      tested true s = found_for epoch (info_of b.payload) info s
      tested false s = absurd cc

  body_fine : (a : Awaiting) (asked : Candidate) (st : State Dir) (found : Option (EpochInfo Dir)) → ((info : EpochInfo Dir) → found ≡ Some info → info.epoch ≡ a.floor.epoch) → Fine (from_body c a asked st found)
  body_fine a asked st None same = (blocked asked.0 why.Block _, next_fine a st)
  body_fine a asked st (Some info) same = resolves_fine (record { finalization = Some asked.1; info = info; floor = a.floor }) st (same info refl)

  block_fine : (a : Awaiting) (asked : Option Candidate) (peer epoch : ℕ) (body : List ℕ) (st : State Dir) → Fine (hears_block c a asked peer epoch body st)
  block_fine a None peer epoch body st = tt
  block_fine a (Some asked) peer epoch body st =
      if_fine ((asked.0 == peer) && (epoch == a.floor.epoch)) (hears_body c a asked body st) (Goes st)
      (λ e. body_fine a asked st (found_in c a.height a.floor.epoch asked.1.payload body) (found_at a.height a.floor.epoch (with_commitment asked.1.payload (whole (c.read body))))) (λ e. tt)

  adds_fine : (a : Awaiting) (st : State Dir) → Fine (adds_candidate a st)
  adds_fine a st = if_fine (is_none a.asked) (asks_next a st) (Goes (with_awaited a st)) (λ e. next_fine a st) (λ e. tt)

  boundary_fine : (a : Awaiting) (peer : ℕ) (f : Finalization) (st : State Dir) → Fine (hears_boundary c a peer f st)
  boundary_fine a peer f st =
      let x4 = adds_candidate (with_candidate a (peer, f)) st in
      let x3 : Probes Dir = if not (c.certifies f) then probing.blocks_peer peer why.Boundary st else x4 in
      let x2 : Probes Dir = if is_candidate a peer then Goes st else x3 in
      let x1 : Probes Dir = if nat_lt (a.floor.epoch - 1) f.epoch then probing.blocks_peer peer why.Boundary st else x2 in
      if_fine (nat_lt f.epoch (a.floor.epoch - 1)) (Goes st) x1 (λ e. tt)
      (λ e. if_fine (nat_lt (a.floor.epoch - 1) f.epoch) (probing.blocks_peer peer why.Boundary st) x2 (λ e. (blocked peer why.Boundary _, tt))
      (λ e. if_fine (is_candidate a peer) (Goes st) x3 (λ e. tt)
      (λ e. if_fine (not (c.certifies f)) (probing.blocks_peer peer why.Boundary st) x4 (λ e. (blocked peer why.Boundary _, tt)) (λ e. adds_fine (with_candidate a (peer, f)) st))))

  answers_fine : (peer : ℕ) (bytes : Option (List ℕ)) (st : State Dir) → Fine (answers_peer peer bytes st)
  answers_fine peer None st = tt
  answers_fine peer (Some bytes) st = (sent (Some peer) bytes _, tt)

  serves_fine : (source : ProbeSource Dir) (peer : ℕ) (asked : Result (Option Request) CodecError) (st : State Dir) → Fine (serves c source peer asked st)
  serves_fine source peer (Err e) st = (blocked peer why.Reply _, tt)
  serves_fine source peer (Ok None) st = tt
  serves_fine source peer (Ok (Some request)) st = answers_fine peer (response_to c source request) st

  from_fine : (st : State Dir) (floor : Option Finalization) → Fine (from_floor c st floor)
  from_fine st None = tt
  from_fine st (Some floor) =
      if_fine (floor.epoch == 0) (resolves c.spelling (of_genesis c floor) st) (awaits_block floor st (begins_at c.blocks_per_epoch floor.epoch))
      (λ e. (genesis floor st (eqb-true floor.epoch 0 e), tt)) (λ e. awaits_fine floor st (begins_at c.blocks_per_epoch floor.epoch))

  samples_fine : (peer : ℕ) (f : Finalization) (st : State Dir) → Fine (samples c peer f st)
  samples_fine peer f st =
      let s = sample_recorded st.sample peer f in
      if_fine (st.subscribers == 0) (Goes (with_sample (sample_forgotten st.sample) st)) (chooses c s st) (λ e. tt) (λ e. from_fine (with_sample (selected s (dealers_in c)) st) (floor_of s (dealers_in c)))

  latest_fine : (peer : ℕ) (f : Finalization) (st : State Dir) → Fine (hears_latest c peer f st)
  latest_fine peer f st =
      let x4 = samples c peer f st in
      let x3 : Probes Dir = if not (c.certifies f) then probing.blocks_peer peer why.Invalid st else x4 in
      let x2 : Probes Dir = if nat_lt f.epoch st.sample.minimum then Goes st else x3 in
      let x1 : Probes Dir = if not (is_dealer c peer) then probing.blocks_peer peer why.Member st else x2 in
      if_fine (not (awaits st.sample peer)) (Goes st) x1 (λ e. tt)
      (λ e. if_fine (not (is_dealer c peer)) (probing.blocks_peer peer why.Member st) x2 (λ e. (blocked peer why.Member _, tt))
      (λ e. if_fine (nat_lt f.epoch st.sample.minimum) (Goes st) x3 (λ e. tt)
      (λ e. if_fine (not (c.certifies f)) (probing.blocks_peer peer why.Invalid st) x4 (λ e. (blocked peer why.Invalid _, tt)) (λ e. samples_fine peer f st))))

  hears_in_fine : (awaited : Option Awaiting) (peer : ℕ) (reply : ProbeReply) (st : State Dir) → Fine (hears_in c awaited peer reply st)
  hears_in_fine awaited peer (LatestReply f) st = latest_fine peer f st
  hears_in_fine None peer (BoundaryReply f) st = tt
  hears_in_fine None peer (BlockReply epoch body) st = tt
  hears_in_fine (Some a) peer (BoundaryReply f) st = boundary_fine a peer f st
  hears_in_fine (Some a) peer (BlockReply epoch body) st = block_fine a a.asked peer epoch body st

  discovers_fine : (peer : ℕ) (reply : Result (Option ProbeReply) CodecError) (st : State Dir) → Fine (discovers c peer reply st)
  discovers_fine peer (Err e) st = (blocked peer why.Reply _, tt)
  discovers_fine peer (Ok None) st = tt
  discovers_fine peer (Ok (Some reply)) st = hears_in_fine st.awaited peer reply st

  hears_fine : (source : ProbeSource Dir) (peer : ℕ) (bytes : List ℕ) (st : State Dir) → Fine (hears c source peer bytes st)
  hears_fine source peer bytes st =
      if_fine st.serving (serves c source peer (request_of bytes) st) (discovers c peer (reply_of bytes) st) (λ e. serves_fine source peer (request_of bytes) st) (λ e. discovers_fine peer (reply_of bytes) st)

  module _ (q : Q) where
    activates_fine : (lack : Option ℕ) (st : State Dir) → Fine (activates c lack st)
    activates_fine None st = (q, dealers_fine st)
    activates_fine (Some peer) st = tt

    subscribes_fine : (lack : Option ℕ) (st : State Dir) → Fine (subscribes c lack st)
    subscribes_fine lack st =
        if_fine (is_done st) (Goes st) (if is_first st then activates c lack (one_more st) else Goes (one_more st)) (λ e. tt)
        (λ e. if_fine (is_first st) (activates c lack (one_more st)) (Goes (one_more st)) (λ f. activates_fine lack (one_more st)) (λ f. tt))

    pub takes_fine : (lack : Option ℕ) (source : ProbeSource Dir) (event : Event) (st : State Dir) → Fine (takes c lack source event st)
    takes_fine lack source Subscribe st = subscribes_fine lack st
    takes_fine lack source Unsubscribe st = tt
    takes_fine lack source Attach st = tt
    takes_fine lack source (Peer from bytes) st = hears_fine source from bytes st
    takes_fine lack source Retry st = retries_fine st

-- ---- what follows

-- Each artifact that a step tells is of one epoch, where genesis is of epoch zero.
pub one_epoch_since : {Dir : Type 0} (c : ProbeFixed Dir) (lack : Option ℕ) (source : ProbeSource Dir) (event : Event) (st : State Dir) (ended : ProbeEnded ℕ (State Dir)) (out new : List Entry) → c.genesis.epoch ≡ 0
    → ProbeRuns (takes c lack source event st) ended out new → SaidSince (OfOneEpoch c.spelling) out new
one_epoch_since {Dir} c lack source event st ended out new genesis ran =
    let P : Entry → Probes Dir → Type 0 = Said (OfOneEpoch c.spelling) in
    let from_genesis : (floor : Finalization) (st : State Dir) → floor.epoch ≡ 0 → P (artifact_entry c.spelling (of_genesis c floor)) (Goes (with_known (of_genesis c floor) st)) =
    λ floor st e. record { of = c.genesis; at = floor; info_is = refl; floor_is = refl; same = genesis ∙ sym e } in
    let all = takes_fine c P (Unit {0}) (λ to bytes acts. tt) (λ peer reason acts. tt) (λ known st e. record { of = known.info; at = known.floor; info_is = refl; floor_is = refl; same = e }) from_genesis tt lack source event st in
    said_running (OfOneEpoch c.spelling) (Unit {0}) (takes c lack source event st) ended out new all ran

-- Nothing is tracked by a peer's message, and by a retry.
abbrev Any : {F S : Type 0} → Entry → ProbeActs F S → Type 0
Any line acts = Unit {0}

pub hearing_tracks : {Dir : Type 0} (c : ProbeFixed Dir) (source : ProbeSource Dir) (peer : ℕ) (bytes : List ℕ) (st : State Dir) (sets : ℕ → Option TrackedPeers) (n : ℕ) → sets n ≡ tracked_after (hears c source peer bytes st) sets n
hearing_tracks c source peer bytes st sets n =
    sym (none_tracked Any (hears c source peer bytes st) sets n (hears_fine c Any ⊥ (λ to bytes acts. tt) (λ peer reason acts. tt) (λ known st e. tt) (λ floor st e. tt) source peer bytes st))

pub retrying_tracks : {Dir : Type 0} (c : ProbeFixed Dir) (st : State Dir) (sets : ℕ → Option TrackedPeers) (n : ℕ) → sets n ≡ tracked_after (retries c st) sets n
retrying_tracks c st sets n =
    sym (none_tracked Any (retries c st) sets n (retries_fine c Any ⊥ (λ to bytes acts. tt) (λ peer reason acts. tt) (λ known st e. tt) (λ floor st e. tt) st))

-- so of events that are one of these
pub peer_tracks : {Dir : Type 0} (c : ProbeFixed Dir) (lack : Option ℕ) (source : ProbeSource Dir) (event : Event) (peer : ℕ) (bytes : List ℕ) (st : State Dir) (sets : ℕ → Option TrackedPeers) → event ≡ Peer peer bytes → (n : ℕ)
    → sets n ≡ tracked_after (takes c lack source event st) sets n
peer_tracks c lack source event peer bytes st sets is n = rw is (hearing_tracks c source peer bytes st sets n)

pub retry_tracks : {Dir : Type 0} (c : ProbeFixed Dir) (lack : Option ℕ) (source : ProbeSource Dir) (event : Event) (st : State Dir) (sets : ℕ → Option TrackedPeers) → event ≡ Retry → (n : ℕ) → sets n ≡ tracked_after (takes c lack source event st) sets n
retry_tracks c lack source event st sets is n = rw is (retrying_tracks c st sets n)
