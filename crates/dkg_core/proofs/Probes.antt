-- A probe's steps keep the least epoch of its sample, and are the node's half of a step.
use Rattle.std.proofs.Common.{◌≡◌, ℕ, Bool, true, false, not, ◌-◌, ◌==◌, ◌&&◌, ◌||◌, nat_lt, List, [], ◌∷◌, ◌++◌, map, Option, Some, None, is_none, option_map, Result, Ok, Err, if◌then◌else◌, refl, sym, ◌∙◌, ap, subst}
use Rattle.std.specs.BTreeMap.{insert_entry}
use Rattle.std.specs.Ordering.{nat_cmp}
use Rattle.dkg_values.specs.declared.codec.CodecError.{CodecError}
use Rattle.dkg_infos.specs.declared.entry.BlockedWhy.TheVariants as why
use Rattle.dkg_infos.specs.declared.entry.Entry.{Entry}
use Rattle.dkg_types.specs.declared.finalization.Finalization.{Finalization}
use Rattle.dkg_infos.specs.declared.info.EpochInfo.{EpochInfo}
use Rattle.dkg_probe.specs.declared.artifact.Artifact.{Artifact as Known}
use Rattle.dkg_probe.specs.declared.event.Event.{Event as ProbeEvent}
use Rattle.dkg_probe.specs.declared.event.Event.TheVariants.{Subscribe, Unsubscribe, Attach, Peer, Retry}
use Rattle.dkg_probe.specs.declared.state.State.{State}
use Rattle.dkg_probe.specs.declared.wire.Request.{Request}
use Rattle.dkg_probe.specs.Acts.{Say, Track, Goes, Stops, probe_bind, says_all, ProbeCompletes, ProbeEnded, went, stopped, broken, ProbeRuns}
use Rattle.dkg_probe.specs.Candidates.{Awaiting, Candidate, with_candidate, is_candidate}
use Rattle.dkg_probe.specs.Probing as probing
use Rattle.dkg_probe.specs.Probing.{Probes, latest_request, with_sample, with_awaited, asks_dealers, asks_next, activates, one_more, is_done, is_first, subscribes, retries_in, retries, of_genesis, resolves, begins_at, awaits_block, from_floor, dealers_in, chooses, samples, is_dealer, blocks_peer, hears_latest, adds_candidate, hears_boundary, found_in, from_body, hears_body, hears_block, hears_in, discovers, response_to, answers_peer, serves, takes, then_serves, steps}
use Rattle.dkg_probe.specs.Sampling.{Sampled, awaits, sample_recorded, highest, is_enough, selected, floor_of, sample_forgotten}
use Rattle.dkg_probe.specs.Sources.{ProbeSource}
use Rattle.dkg_probe.specs.Wire.{ProbeReply, BoundaryReply, BlockReply, LatestReply, request_of, reply_of}
use Rattle.dkg_store.specs.Acts.{World}
use Rattle.dkg_core.specs.Courses.{EndsSo}
use Rattle.dkg_core.specs.Fixed.{Fixed, Snapshot}
use Rattle.dkg_core.specs.Joining.{probe_ended_as}
use Rattle.dkg_core.specs.Live.{Live, PeerSet}
use Rattle.dkg_core.specs.Probes.{HasState, IfProbeWentTo, ProbesStep}
use Rattle.dkg_core.specs.Probing.{least_epoch, given, lack_in, served_from, awaiting_of, awaited_view, known_of_discovered, discovered_of, state_of, probe_of, with_probe, steps_from, probe_event, probes_in}
use Rattle.dkg_core.specs.Transcripts.{with_out}
use Rattle.dkg_core.proofs.Joining.{probes_join}

-- THE LEAST EPOCH STAYS

of_either : (m : ℕ) (b : Bool) (x y : Sampled) → x.minimum ≡ m → y.minimum ≡ m → (if b then x else y).minimum ≡ m
of_either m true x y p q = p
of_either m false x y p q = q

module _ {Dir : Type 0} (m : ℕ) where
  -- wherever it goes, the least epoch is this
  abbrev Stays : Probes Dir → Type 0
  Stays (Say line acts) = Stays acts
  Stays (Track epoch peers acts) = Stays acts
  Stays (Goes end) = end.sample.minimum ≡ m
  Stays (Stops fault) = Unit {0}

  stays_at : (acts : Probes Dir) (end : State Dir) (out new : List Entry) → Stays acts → ProbeCompletes acts end out new → end.sample.minimum ≡ m
  stays_at (Say line acts) end out new all done = stays_at acts end (out ++ line ∷ []) new all done
  stays_at (Track epoch peers acts) end out new all done = stays_at acts end out new all done
  stays_at (Goes its) end out new all done = ap (λ (st : State Dir). st.sample.minimum) done.1 ∙ all
  stays_at (Stops fault) end out new all done = absurd done

  then_stays : (acts : Probes Dir) → Stays acts → Stays (probe_bind acts (λ st. Goes (then_serves st)))
  then_stays (Say line acts) all = then_stays acts all
  then_stays (Track epoch peers acts) all = then_stays acts all
  then_stays (Goes end) all = all
  then_stays (Stops fault) all = tt

  all_said : (lines : List Entry) (acts : Probes Dir) → Stays acts → Stays (says_all lines acts)
  all_said [] acts all = all
  all_said (line ∷ lines) acts all = all_said lines acts all

  either : (b : Bool) (x y : Probes Dir) → Stays x → Stays y → Stays (if b then x else y)
  either true x y p q = p
  either false x y p q = q

  module _ (c : probing.ProbeFixed Dir) where
    asking : (st : State Dir) → st.sample.minimum ≡ m → Stays (asks_dealers c st)
    asking st p = all_said (map latest_request c.bootstrap.participants.dealers) (Goes (with_sample (sample_forgotten st.sample) st)) p

    subscribing : (lack : Option ℕ) (st : State Dir) → st.sample.minimum ≡ m → Stays (subscribes c lack st)
    subscribing lack st p =
        either (is_done st) (Goes st) (if is_first st then activates c lack (one_more st) else Goes (one_more st)) p (either (is_first st) (activates c lack (one_more st)) (Goes (one_more st)) (activating lack) p)
      where
        activating : (lack : Option ℕ) → Stays (activates c lack (one_more st))
        activating None = asking (one_more st) p
        activating (Some peer) = tt

    retrying_in : (st : State Dir) (awaited : Option Awaiting) → st.sample.minimum ≡ m → Stays (retries_in c st awaited)
    retrying_in st (Some a) p = p
    retrying_in st None p = either (is_none st.sample.chosen) (asks_dealers c st) (Goes st) (asking st p) p

    retrying : (st : State Dir) → st.sample.minimum ≡ m → Stays (retries c st)
    retrying st p = either (is_done st || (st.subscribers == 0)) (Goes st) (retries_in c st st.awaited) p (retrying_in st st.awaited p)

    waiting : (floor : Finalization) (st : State Dir) (height : Option ℕ) → st.sample.minimum ≡ m → Stays (awaits_block floor st height)
    waiting floor st None p = p
    waiting floor st (Some height) p = p

    from_a_floor : (st : State Dir) (floor : Option Finalization) → st.sample.minimum ≡ m → Stays (from_floor c st floor)
    from_a_floor st None p = p
    from_a_floor st (Some floor) p =
        either (floor.epoch == 0) (resolves c.spelling (of_genesis c floor) st) (awaits_block floor st (begins_at c.blocks_per_epoch floor.epoch)) p (waiting floor st (begins_at c.blocks_per_epoch floor.epoch) p)

    selecting : (s : Sampled) → s.minimum ≡ m → (selected s (dealers_in c)).minimum ≡ m
    selecting s p = of_either m (is_enough s (dealers_in c)) (record s { chosen = highest s.replies }) s p p

    recording : (s : Sampled) (peer : ℕ) (f : Finalization) → s.minimum ≡ m → (sample_recorded s peer f).minimum ≡ m
    recording s peer f p = of_either m (awaits s peer) (record s { replies = insert_entry nat_cmp s.replies peer f }) s p p

    choosing : (s : Sampled) (st : State Dir) → s.minimum ≡ m → Stays (chooses c s st)
    choosing s st p = from_a_floor (with_sample (selected s (dealers_in c)) st) (floor_of s (dealers_in c)) (selecting s p)

    sampling : (peer : ℕ) (f : Finalization) (st : State Dir) → st.sample.minimum ≡ m → Stays (samples c peer f st)
    sampling peer f st p =
        either (st.subscribers == 0) (Goes (with_sample (sample_forgotten st.sample) st)) (chooses c (sample_recorded st.sample peer f) st) p (choosing (sample_recorded st.sample peer f) st (recording st.sample peer f p))

    if_certified : (peer : ℕ) (f : Finalization) (st : State Dir) → st.sample.minimum ≡ m → Stays (if not (c.certifies f) then blocks_peer peer why.Invalid st else samples c peer f st)
    if_certified peer f st p = either (not (c.certifies f)) (blocks_peer peer why.Invalid st) (samples c peer f st) p (sampling peer f st p)

    hearing_latest : (peer : ℕ) (f : Finalization) (st : State Dir) → st.sample.minimum ≡ m → Stays (hears_latest c peer f st)
    hearing_latest peer f st p =
        let certified = if not (c.certifies f) then blocks_peer peer why.Invalid st else samples c peer f st in
        let recent = if nat_lt f.epoch st.sample.minimum then Goes st else certified in
        let member = if not (is_dealer c peer) then blocks_peer peer why.Member st else recent in
        either (not (awaits st.sample peer)) (Goes st) member p
        (either (not (is_dealer c peer)) (blocks_peer peer why.Member st) recent p
        (either (nat_lt f.epoch st.sample.minimum) (Goes st) certified p (if_certified peer f st p)))

    adding : (a : Awaiting) (st : State Dir) → st.sample.minimum ≡ m → Stays (adds_candidate a st)
    adding a st p = either (is_none a.asked) (asks_next a st) (Goes (with_awaited a st)) p p

    hearing_boundary : (a : Awaiting) (peer : ℕ) (f : Finalization) (st : State Dir) → st.sample.minimum ≡ m → Stays (hears_boundary c a peer f st)
    hearing_boundary a peer f st p =
        let certified = if not (c.certifies f) then blocks_peer peer why.Boundary st else adds_candidate (with_candidate a (peer, f)) st in
        let new = if is_candidate a peer then Goes st else certified in
        let before = if nat_lt (a.floor.epoch - 1) f.epoch then blocks_peer peer why.Boundary st else new in
        either (nat_lt f.epoch (a.floor.epoch - 1)) (Goes st) before p
        (either (nat_lt (a.floor.epoch - 1) f.epoch) (blocks_peer peer why.Boundary st) new p
        (either (is_candidate a peer) (Goes st) certified p
        (either (not (c.certifies f)) (blocks_peer peer why.Boundary st) (adds_candidate (with_candidate a (peer, f)) st) p (adding (with_candidate a (peer, f)) st p))))

    hearing_body : (a : Awaiting) (asked : Candidate) (st : State Dir) (found : Option (EpochInfo Dir)) → st.sample.minimum ≡ m → Stays (from_body c a asked st found)
    hearing_body a asked st None p = p
    hearing_body a asked st (Some info) p = p

    hearing_block : (a : Awaiting) (asked : Option Candidate) (peer epoch : ℕ) (body : List ℕ) (st : State Dir) → st.sample.minimum ≡ m → Stays (hears_block c a asked peer epoch body st)
    hearing_block a None peer epoch body st p = p
    hearing_block a (Some asked) peer epoch body st p =
        either ((asked.0 == peer) && (epoch == a.floor.epoch)) (hears_body c a asked body st) (Goes st) (hearing_body a asked st (found_in c a.height a.floor.epoch asked.1.payload body) p) p

    hearing_in : (awaited : Option Awaiting) (peer : ℕ) (reply : ProbeReply) (st : State Dir) → st.sample.minimum ≡ m → Stays (hears_in c awaited peer reply st)
    hearing_in None peer (LatestReply f) st p = hearing_latest peer f st p
    hearing_in (Some a) peer (LatestReply f) st p = hearing_latest peer f st p
    hearing_in None peer (BoundaryReply f) st p = p
    hearing_in None peer (BlockReply epoch body) st p = p
    hearing_in (Some a) peer (BoundaryReply f) st p = hearing_boundary a peer f st p
    hearing_in (Some a) peer (BlockReply epoch body) st p = hearing_block a a.asked peer epoch body st p

    discovering : (peer : ℕ) (reply : Result (Option ProbeReply) CodecError) (st : State Dir) → st.sample.minimum ≡ m → Stays (discovers c peer reply st)
    discovering peer (Err e) st p = p
    discovering peer (Ok None) st p = p
    discovering peer (Ok (Some reply)) st p = hearing_in st.awaited peer reply st p

    answering : (peer : ℕ) (bytes : Option (List ℕ)) (st : State Dir) → st.sample.minimum ≡ m → Stays (answers_peer peer bytes st)
    answering peer None st p = p
    answering peer (Some bytes) st p = p

    serving : (source : ProbeSource Dir) (peer : ℕ) (asked : Result (Option Request) CodecError) (st : State Dir) → st.sample.minimum ≡ m → Stays (serves c source peer asked st)
    serving source peer (Err e) st p = p
    serving source peer (Ok None) st p = p
    serving source peer (Ok (Some request)) st p = answering peer (response_to c source request) st p

    taking : (lack : Option ℕ) (source : ProbeSource Dir) (event : ProbeEvent) (st : State Dir) → st.sample.minimum ≡ m → Stays (takes c lack source event st)
    taking lack source Subscribe st p = subscribing lack st p
    taking lack source Unsubscribe st p = p
    taking lack source Attach st p = p
    taking lack source (Peer from bytes) st p =
        either st.serving (serves c source from (request_of bytes) st) (discovers c from (reply_of bytes) st) (serving source from (request_of bytes) st p) (discovering from (reply_of bytes) st p)
    taking lack source Retry st p = retrying st p

    stepping : (lack : Option ℕ) (source : ProbeSource Dir) (event : ProbeEvent) (st : State Dir) → st.sample.minimum ≡ m → Stays (steps c lack source event st)
    stepping lack source event st p = then_stays (takes c lack source event st) (taking lack source event st p)

-- STATES, THERE AND BACK

awaited_again : (awaited : Option Awaiting) → option_map awaiting_of (option_map awaited_view awaited) ≡ awaited
awaited_again None = refl
awaited_again (Some a) = refl

known_again : {Dir : Type 0} (known : Option (Known Dir)) → option_map known_of_discovered (option_map discovered_of known) ≡ known
known_again None = refl
known_again (Some found) = refl

again : {Dir : Type 0} (state : State Dir) → state_of state.sample.minimum (probe_of state) ≡ state
again {Dir} state =
    ap (λ (awaited : Option Awaiting). record state { awaited = awaited; known = option_map known_of_discovered (option_map discovered_of state.known) }) (awaited_again state.awaited)
    ∙ ap (λ (known : Option (Known Dir)). record state { known = known }) (known_again state.known)

module _ {Dir : Type 0} (c : Fixed Dir) (s : Snapshot Dir) (event : ProbeEvent) (st : Live Dir) (state : State Dir) (has : HasState s st state) where
  its_state : state_of (least_epoch s) st.probe ≡ state
  its_state = ap (state_of (least_epoch s)) has.part ∙ ap (λ (minimum : ℕ). state_of minimum (probe_of state)) (sym has.minimum) ∙ again state

  still : (ended : ProbeEnded ℕ (State Dir)) (out new : List Entry) → ProbeRuns (steps_from c s event state) ended out new → IfProbeWentTo ended (λ end. HasState s (with_probe st end) end)
  still (went end) out new ran = record {
    part = refl;
    minimum = stays_at (least_epoch s) (steps_from c s event state) end out new (stepping (least_epoch s) (given c s) (lack_in c s) (served_from c.source) event state has.minimum) ran;
  }
  still (stopped fault) out new ran = tt
  still broken out new ran = tt

  runs : (ended : ProbeEnded ℕ (State Dir)) (w : World) (new : List Entry) → ProbeRuns (steps_from c s event state) ended w.out new
      → EndsSo (probes_in c (Some s) (Some event) st) (probe_ended_as PeerSet (with_probe st) ended) w (with_out new w)
  runs ended w new ran =
      probes_join s.directory PeerSet (with_probe st) (steps_from c s event (state_of (least_epoch s) st.probe)) ended w new
      (subst (λ (x : State Dir). ProbeRuns (steps_from c s event x) ended w.out new) (sym its_state) ran)

pub probes_step : {Dir : Type 0} → ProbesStep Dir
probes_step {Dir} c s event its st state ended w new snapshot is has ran = (
  subst (λ (o : Option (Snapshot Dir)). EndsSo (probes_in c o (probe_event event) st) (probe_ended_as PeerSet (with_probe st) ended) w (with_out new w)) (sym snapshot)
      (subst (λ (o : Option ProbeEvent). EndsSo (probes_in c (Some s) o st) (probe_ended_as PeerSet (with_probe st) ended) w (with_out new w)) (sym is) (runs c s its st state has ended w new ran)),
  still c s its st state has ended w.out new ran,
)
