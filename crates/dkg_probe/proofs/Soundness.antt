-- Each step leaves a probe whose finds rest on what they should, and keeps an artifact that is known.
use Rattle.std.proofs.Common.{◌≡◌, ◌⊎◌, inl, inr, ℕ, ◌+◌, ◌-◌, ◌<◌, ◌≤◌, Bool, true, false, not, ◌&&◌, ◌||◌, ◌==◌, nat_lt, List, [], ◌∷◌, ◌++◌, map, fold, Option, Some, None, is_some, is_none, IfSome, Result, Ok, Err, if◌then◌else◌, refl, sym, ap, subst, ◌∙◌, arith, eqb-true}
use Rattle.std.proofs.lemmas.Bool.Decides.{nat_tests}
use Rattle.std.proofs.lemmas.Slice.Eq.{bytes_eq-Decides}
use Rattle.std.specs.BTreeMap.{insert_entry}
use Rattle.std.specs.List.{AllByRecursion}
use Rattle.std.specs.Map.{values_of}
use Rattle.std.specs.Ordering.{nat_cmp}
use Rattle.std.specs.Str.{bytes_eq}
use Rattle.std.specs.declared.cmp.Ordering.{Ordering}
use Rattle.std.specs.declared.cmp.Ordering.TheVariants.{Less, Equal, Greater}
use Rattle.dkg_values.specs.Codec.{whole}
use Rattle.dkg_values.specs.declared.codec.CodecError.{CodecError}
use Rattle.dkg_values.specs.declared.codec.CodecError.TheVariants.{Invalid}
use Rattle.dkg_values.specs.declared.codec.What.TheVariants as what
use Rattle.dkg_ceremony.specs.Schedule.{in_range, last}
use Rattle.dkg_types.specs.BlockCodes.{info_of}
use Rattle.dkg_types.specs.Blocks.{Block}
use Rattle.dkg_infos.specs.declared.entry.BlockedWhy.TheVariants as why
use Rattle.dkg_infos.specs.declared.entry.Entry.{Entry}
use Rattle.dkg_types.specs.declared.finalization.Finalization.{Finalization}
use Rattle.dkg_infos.specs.declared.info.EpochInfo.{EpochInfo}
use Rattle.dkg_probe.specs.declared.artifact.Artifact.{Artifact as Known}
use Rattle.dkg_probe.specs.declared.event.Event.{Event}
use Rattle.dkg_probe.specs.declared.event.Event.TheVariants.{Subscribe, Unsubscribe, Attach, Peer, Retry}
use Rattle.dkg_probe.specs.declared.state.State.{State}
use Rattle.dkg_probe.specs.declared.wire.Request.{Request}
use Rattle.dkg_probe.specs.Acts.{Say, Track, Goes, Stops, says_all, ProbeCompletes}
use Rattle.dkg_probe.specs.Candidates.{Awaiting, Candidate, all_candidates, is_candidate, new_awaiting, with_candidate, first_candidate, later_of, next_asked}
use Rattle.dkg_probe.specs.Probing as probing
use Rattle.dkg_probe.specs.Probing.{ProbeFixed, Probes, latest_request, request_entry, with_sample, with_awaited, asks_dealers, asks_peer_for, asks_next, one_more, is_done, is_first, activates, subscribes, retries_in, retries, with_known, artifact_entry, of_genesis, resolves, begins_at, awaits_block, from_floor, dealers_in, samples, chooses, is_dealer, hears_latest, adds_candidate, hears_boundary, info_for, info_at_height, found_in, refuses, from_body, hears_body, hears_block, hears_in, discovers, response_to, answers_peer, serves, hears, takes, then_serves, new_state}
use Rattle.dkg_probe.specs.Sampling.{Sampled, Replies, reply_at, awaits, sample_recorded, better, is_higher, highest, is_enough, selected, floor_of, sample_forgotten}
use Rattle.dkg_probe.specs.Sound.{CountsAsReply, IsFloor, OffersBlock, Waits, FromBlock, FromGenesis, IsFound, IsSoundState, KeepsArtifact}
use Rattle.dkg_probe.specs.Sources.{ProbeSource}
use Rattle.dkg_probe.specs.Wire.{ProbeReply, BoundaryReply, BlockReply, LatestReply, with_commitment, request_of, reply_of}

-- ---- small things

if_none : {A : Type 0} (P : A → Type 0) (o : Option A) → o ≡ None → IfSome o P
if_none {A} P o e = subst (λ (x : Option A). IfSome x P) (sym e) tt

some_of : {A : Type 0} (P : A → Type 0) (o : Option A) (a : A) → IfSome o P → o ≡ Some a → P a
some_of {A} P o a all e = subst (λ (x : Option A). IfSome x P) e all

none_of : {A : Type 0} (o : Option A) → is_none o ≡ true → o ≡ None
none_of None e = refl
none_of (Some a) e = absurd cc

not_both : {A : Type 0} (o : Option A) (a : A) → o ≡ None → o ≡ Some a → ⊥
not_both {A} o a none some = let e : ◌≡◌ {A = Option A} None (Some a) = sym none ∙ some in cc

both_true : (a b : Bool) → (a && b) ≡ true → (a ≡ true) × (b ≡ true)
both_true true b e = (refl, e)
both_true false b e = absurd cc

neither_true : (a b : Bool) → (a || b) ≡ false → (a ≡ false) × (b ≡ false)
neither_true true b e = absurd cc
neither_true false b e = (refl, e)

was_true : (b : Bool) → not b ≡ false → b ≡ true
was_true true e = refl
was_true false e = absurd cc

same_bytes : (xs ys : List ℕ) → bytes_eq xs ys ≡ true → xs ≡ ys
same_bytes xs ys e = (bytes_eq-Decides xs ys).0 e

all_last : {A : Type 0} (P : A → Type 0) (xs : List A) (x : A) → AllByRecursion P xs → P x → AllByRecursion P (xs ++ x ∷ [])
all_last P [] x all p = (p, tt)
all_last P (y ∷ ys) x all p = (all.0, all_last P ys x all.1 p)

-- ---- how acts end

abbrev Ends : {Dir : Type 0} → (State Dir → Type 0) → Probes Dir → Type 0
Ends Q (Say line acts) = Ends Q acts
Ends Q (Track epoch peers acts) = Ends Q acts
Ends Q (Goes end) = Q end
Ends Q (Stops fault) = Unit {0}

module _ {Dir : Type 0} (Q : State Dir → Type 0) where
  ends_at : (acts : Probes Dir) (end : State Dir) (out new : List Entry) → Ends Q acts → ProbeCompletes acts end out new → Q end
  ends_at (Say line acts) end out new all done = ends_at acts end (out ++ line ∷ []) new all done
  ends_at (Track epoch peers acts) end out new all done = ends_at acts end out new all done
  ends_at (Goes its) end out new all done = subst Q (sym done.1) all
  ends_at (Stops fault) end out new all done = absurd done

  ends_any : (acts : Probes Dir) → ((end : State Dir) → Q end) → Ends Q acts
  ends_any (Say line acts) q = ends_any acts q
  ends_any (Track epoch peers acts) q = ends_any acts q
  ends_any (Goes end) q = q end
  ends_any (Stops fault) q = tt

  ends_after : (lines : List Entry) (acts : Probes Dir) → Ends Q acts → Ends Q (says_all lines acts)
  ends_after [] acts all = all
  ends_after (line ∷ lines) acts all = ends_after lines acts all

  if_ends : (b : Bool) (x y : Probes Dir) → (b ≡ true → Ends Q x) → (b ≡ false → Ends Q y) → Ends Q (if b then x else y)
  if_ends true x y p q = p refl
  if_ends false x y p q = q refl

  ends_asking : (candidate : Option Candidate) (epoch : ℕ) (st : State Dir) → Q st → Ends Q (asks_peer_for candidate epoch st)
  ends_asking None epoch st q = q
  ends_asking (Some candidate) epoch st q = q

  ends_answering : (peer : ℕ) (bytes : Option (List ℕ)) (st : State Dir) → Q st → Ends Q (answers_peer peer bytes st)
  ends_answering peer None st q = q
  ends_answering peer (Some bytes) st q = q

  ends_serving : (c : ProbeFixed Dir) (source : ProbeSource Dir) (peer : ℕ) (asked : Result (Option Request) CodecError) (st : State Dir) → Q st → Ends Q (serves c source peer asked st)
  ends_serving c source peer (Err e) st q = q
  ends_serving c source peer (Ok None) st q = q
  ends_serving c source peer (Ok (Some request)) st q = ends_answering peer (response_to c source request) st q

module _ {Dir : Type 0} (c : ProbeFixed Dir) where
  abbrev Held : (minimum : ℕ) → Replies → Type 0
  Held minimum replies = AllByRecursion (λ (reply : ℕ × Finalization). CountsAsReply c minimum reply.0 reply.1) replies

  -- ---- nothing is chosen

  none_awaited : (awaited : Option Awaiting) (chosen : Option Finalization) → IfSome awaited (λ a. chosen ≡ Some a.floor) → chosen ≡ None → awaited ≡ None
  none_awaited None chosen waits none = refl
  none_awaited (Some a) chosen waits none = absurd (not_both chosen a.floor none waits)

  none_known : (st : State Dir) (known : Option (Known Dir)) → IfSome known (λ _. (is_some st.sample.chosen ≡ true) × (st.awaited ≡ None) × (st.subscribers ≡ 0)) → st.sample.chosen ≡ None → known ≡ None
  none_known st None settled none = refl
  none_known st (Some k) settled none = absurd (let e : is_some st.sample.chosen ≡ false = rw none refl in let f : ◌≡◌ {A = Bool} true false = sym settled.0 ∙ e in cc)

  none_known_yet : (st : State Dir) (known : Option (Known Dir)) (a : Awaiting) → IfSome known (λ _. (is_some st.sample.chosen ≡ true) × (st.awaited ≡ None) × (st.subscribers ≡ 0)) → st.awaited ≡ Some a → known ≡ None
  none_known_yet st None a settled some = refl
  none_known_yet st (Some k) a settled some = absurd (not_both st.awaited a settled.1 some)

  blank : (st : State Dir) → Held st.sample.minimum st.sample.replies → st.sample.chosen ≡ None → st.awaited ≡ None → st.known ≡ None → IsSoundState c st
  blank st held chosen awaited known = record {
    replies = held;
    chosen = if_none (IsFloor c st.sample.minimum) st.sample.chosen chosen;
    awaited = if_none (Waits c st.sample.minimum) st.awaited awaited;
    known = if_none (IsFound c st.sample.minimum) st.known known;
    waits = if_none (λ (a : Awaiting). st.sample.chosen ≡ Some a.floor) st.awaited awaited;
    settled = if_none (λ (k : Known Dir). (is_some st.sample.chosen ≡ true) × (st.awaited ≡ None) × (st.subscribers ≡ 0)) st.known known;
  }

  forgets : (st : State Dir) → IsSoundState c st → st.sample.chosen ≡ None → IsSoundState c (with_sample (sample_forgotten st.sample) st)
  forgets st sound none = blank (with_sample (sample_forgotten st.sample) st) tt refl (none_awaited st.awaited st.sample.chosen sound.waits none) (none_known st st.known sound.settled none)

  -- ---- a subscriber

  one_more_sound : (st : State Dir) → IsSoundState c st → st.known ≡ None → IsSoundState c (one_more st)
  one_more_sound st sound none = record {
    replies = sound.replies;
    chosen = sound.chosen;
    awaited = sound.awaited;
    known = sound.known;
    waits = sound.waits;
    settled = if_none (λ (k : Known Dir). (is_some st.sample.chosen ≡ true) × (st.awaited ≡ None) × (st.subscribers + 1 ≡ 0)) st.known none;
  }

  dealers_sound : (st : State Dir) → IsSoundState c st → st.sample.chosen ≡ None → Ends (IsSoundState c) (asks_dealers c st)
  dealers_sound st sound none = ends_after (IsSoundState c) (map latest_request c.bootstrap.participants.dealers) (Goes (with_sample (sample_forgotten st.sample) st)) (forgets st sound none)

  activates_sound : (lack : Option ℕ) (st : State Dir) → IsSoundState c st → st.sample.chosen ≡ None → Ends (IsSoundState c) (activates c lack st)
  activates_sound None st sound none = dealers_sound st sound none
  activates_sound (Some peer) st sound none = tt

  not_known : (known : Option (Known Dir)) → is_some known ≡ false → known ≡ None
  not_known None e = refl
  not_known (Some k) e = absurd cc

  subscribes_sound : (lack : Option ℕ) (st : State Dir) → IsSoundState c st → Ends (IsSoundState c) (subscribes c lack st)
  subscribes_sound lack st sound =
      if_ends (IsSoundState c) (is_done st) (Goes st) (if is_first st then activates c lack (one_more st) else Goes (one_more st)) (λ e. sound)
      (λ e. let more = one_more_sound st sound (not_known st.known (neither_true st.serving (is_some st.known) e).1) in
      if_ends (IsSoundState c) (is_first st) (activates c lack (one_more st)) (Goes (one_more st))
      (λ f. activates_sound lack (one_more st) more (none_of st.sample.chosen (both_true (st.subscribers == 0) (is_none st.sample.chosen) f).1)) (λ f. more))

  -- ---- the next candidate

  next_offers : (floor : Finalization) (asked : Option Candidate) (others : List Candidate) → AllByRecursion (OffersBlock c floor) (all_candidates asked others) → AllByRecursion (OffersBlock c floor) (all_candidates (first_candidate others) (later_of others))
  next_offers floor None [] all = tt
  next_offers floor None (d ∷ ds) all = all
  next_offers floor (Some a) [] all = tt
  next_offers floor (Some a) (d ∷ ds) all = all.1

  next_waits : (minimum : ℕ) (a : Awaiting) → Waits c minimum a → Waits c minimum (next_asked a)
  next_waits minimum a waits = record { floor = waits.floor; height = waits.height; candidates = next_offers a.floor a.asked a.others waits.candidates }

  awaits_sound : (st : State Dir) (old new : Awaiting) → IsSoundState c st → st.awaited ≡ Some old → new.floor ≡ old.floor → Waits c st.sample.minimum new → IsSoundState c (with_awaited new st)
  awaits_sound st old new sound is floor waits = record {
    replies = sound.replies;
    chosen = sound.chosen;
    awaited = waits;
    known = sound.known;
    waits = some_of (λ (a : Awaiting). st.sample.chosen ≡ Some a.floor) st.awaited old sound.waits is ∙ ap (λ (f : Finalization). Some f) (sym floor);
    settled = if_none (λ (k : Known Dir). (is_some st.sample.chosen ≡ true) × (◌≡◌ {A = Option Awaiting} (Some new) None) × (st.subscribers ≡ 0)) st.known (none_known_yet st st.known old sound.settled is);
  }

  waits_at : (st : State Dir) (a : Awaiting) → IsSoundState c st → st.awaited ≡ Some a → Waits c st.sample.minimum a
  waits_at st a sound is = some_of (Waits c st.sample.minimum) st.awaited a sound.awaited is

  next_sound : (st : State Dir) (old a : Awaiting) → IsSoundState c st → st.awaited ≡ Some old → a.floor ≡ old.floor → Waits c st.sample.minimum a → Ends (IsSoundState c) (asks_next a st)
  next_sound st old a sound is floor waits =
      ends_asking (IsSoundState c) (first_candidate a.others) a.floor.epoch (with_awaited (next_asked a) st) (awaits_sound st old (next_asked a) sound is floor (next_waits st.sample.minimum a waits))

  retries_in_sound : (st : State Dir) (awaited : Option Awaiting) → IsSoundState c st → st.awaited ≡ awaited → Ends (IsSoundState c) (retries_in c st awaited)
  retries_in_sound st (Some a) sound is = next_sound st a a sound is refl (waits_at st a sound is)
  retries_in_sound st None sound is = if_ends (IsSoundState c) (is_none st.sample.chosen) (asks_dealers c st) (Goes st) (λ e. dealers_sound st sound (none_of st.sample.chosen e)) (λ e. sound)

  retries_sound : (st : State Dir) → IsSoundState c st → Ends (IsSoundState c) (retries c st)
  retries_sound st sound = if_ends (IsSoundState c) (is_done st || (st.subscribers == 0)) (Goes st) (retries_in c st st.awaited) (λ e. sound) (λ e. retries_in_sound st st.awaited sound refl)

  -- ---- a floor

  held_entry : (minimum peer : ℕ) (f : Finalization) (e : ℕ × Finalization) (es : Replies) (order : Ordering) → nat_cmp peer e.0 ≡ order → CountsAsReply c minimum peer f → Held minimum (e ∷ es) → Held minimum (insert_entry nat_cmp es peer f)
      → Held minimum (insert_entry nat_cmp (e ∷ es) peer f)
  held_entry minimum peer f e es Less is counts held more = rw is (counts, held)
  held_entry minimum peer f e es Equal is counts held more = rw is (subst (λ (k : ℕ). CountsAsReply c minimum k f) (equal peer e.0 is) counts, held.1)
    where
      equal : (p k : ℕ) → nat_cmp p k ≡ Equal → p ≡ k
      equal p k e = grind (arith, nat_tests)
  held_entry minimum peer f e es Greater is counts held more = rw is (held.0, more)

  held_more : (minimum peer : ℕ) (f : Finalization) (es : Replies) → CountsAsReply c minimum peer f → Held minimum es → Held minimum (insert_entry nat_cmp es peer f)
  held_more minimum peer f [] counts held = (counts, tt)
  held_more minimum peer f (e ∷ es) counts held = held_entry minimum peer f e es (nat_cmp peer e.0) refl counts held (held_more minimum peer f es counts held.1)

  -- the best so far is a floor, and so is each reply
  best_is_floor : (minimum : ℕ) (best : Option Finalization) (es : Replies) → IfSome best (IsFloor c minimum) → Held minimum es → IfSome (fold better best (values_of es)) (IsFloor c minimum)
  best_is_floor minimum best [] is held = is
  best_is_floor minimum None (e ∷ es) is held = best_is_floor minimum (Some e.1) es (e.0, held.0) held.1
  best_is_floor minimum (Some b) (e ∷ es) is held = tested (is_higher e.1 b) (best_is_floor minimum (Some e.1) es (e.0, held.0) held.1) (best_is_floor minimum (Some b) es is held.1)
    where
      tested : (t : Bool) → IfSome (fold better (Some e.1) (values_of es)) (IsFloor c minimum) → IfSome (fold better (Some b) (values_of es)) (IsFloor c minimum) → IfSome (fold better (if t then Some e.1 else Some b) (values_of es)) (IsFloor c minimum)
      tested true its old = its
      tested false its old = old

  floor_is : (s : Sampled) (dealers : ℕ) → Held s.minimum s.replies → IfSome (floor_of s dealers) (IsFloor c s.minimum)
  floor_is s dealers held = tested (is_enough s dealers)
    where
      tested : (t : Bool) → IfSome (if t then highest s.replies else None) (IsFloor c s.minimum)
      tested true = best_is_floor s.minimum None s.replies tt held
      tested false = tt

  -- what a choice leaves
  record Chose (s : Sampled) (dealers : ℕ) : Type 0 where
    least : (selected s dealers).minimum ≡ s.minimum
    same : (selected s dealers).replies ≡ s.replies
    is : (selected s dealers).chosen ≡ floor_of s dealers

  abbrev choice : Sampled → Bool → Sampled
  choice s t = if t then record s { chosen = highest s.replies } else s

  chose_as : (s : Sampled) (t : Bool) → s.chosen ≡ None → ((choice s t).minimum ≡ s.minimum) × ((choice s t).replies ≡ s.replies) × ((choice s t).chosen ≡ (if t then highest s.replies else None))
  chose_as s true none = (refl, refl, refl)
  chose_as s false none = (refl, refl, none)

  chose : (s : Sampled) (dealers : ℕ) → s.chosen ≡ None → Chose s dealers
  chose s dealers none = let did = chose_as s (is_enough s dealers) none in record { least = did.0; same = did.1; is = did.2 }

  height_sound : (st : State Dir) (floor : Finalization) (height : Option ℕ) → Held st.sample.minimum st.sample.replies → st.sample.chosen ≡ Some floor → st.awaited ≡ None → st.known ≡ None → IsFloor c st.sample.minimum floor
      → begins_at c.blocks_per_epoch floor.epoch ≡ height → Ends (IsSoundState c) (awaits_block floor st height)
  height_sound st floor None held chosen awaited known is at = blank (with_sample (sample_forgotten st.sample) st) tt refl awaited known
  height_sound st floor (Some height) held chosen awaited known is at = record {
    replies = held;
    chosen = subst (λ (o : Option Finalization). IfSome o (IsFloor c st.sample.minimum)) (sym chosen) is;
    awaited = record { floor = is; height = at; candidates = tt };
    known = if_none (IsFound c st.sample.minimum) st.known known;
    waits = chosen;
    settled = if_none (λ (k : Known Dir). (is_some st.sample.chosen ≡ true) × (◌≡◌ {A = Option Awaiting} (Some (new_awaiting height floor)) None) × (st.subscribers ≡ 0)) st.known known;
  }

  known_sound : (st : State Dir) (known : Known Dir) → Held st.sample.minimum st.sample.replies → st.sample.chosen ≡ Some known.floor → IsFloor c st.sample.minimum known.floor → FromGenesis c known ⊎ FromBlock c known → IsSoundState c (with_known known st)
  known_sound st known held chosen is from = record {
    replies = held;
    chosen = subst (λ (o : Option Finalization). IfSome o (IsFloor c st.sample.minimum)) (sym chosen) is;
    awaited = tt;
    known = record { floor = is; from = from };
    waits = tt;
    settled = (ap (λ (o : Option Finalization). is_some o) chosen, refl, refl);
  }

  from_sound : (st : State Dir) (floor : Option Finalization) → Held st.sample.minimum st.sample.replies → st.sample.chosen ≡ floor → st.awaited ≡ None → st.known ≡ None → IfSome floor (IsFloor c st.sample.minimum)
      → Ends (IsSoundState c) (from_floor c st floor)
  from_sound st None held chosen awaited known is = blank st held chosen awaited known
  from_sound st (Some floor) held chosen awaited known is =
      if_ends (IsSoundState c) (floor.epoch == 0) (resolves c.spelling (of_genesis c floor) st) (awaits_block floor st (begins_at c.blocks_per_epoch floor.epoch))
      (λ e. known_sound st (of_genesis c floor) held chosen is (inl (eqb-true floor.epoch 0 e, refl, refl)))
      (λ e. height_sound st floor (begins_at c.blocks_per_epoch floor.epoch) held chosen awaited known is refl)

  recorded_held : (s : Sampled) (peer : ℕ) (f : Finalization) → awaits s peer ≡ true → CountsAsReply c s.minimum peer f → Held s.minimum s.replies → sample_recorded s peer f ≡ record s { replies = insert_entry nat_cmp s.replies peer f }
  recorded_held s peer f is counts held = rw is refl

  chooses_sound : (s : Sampled) (st : State Dir) → Held s.minimum s.replies → s.chosen ≡ None → st.awaited ≡ None → st.known ≡ None → Ends (IsSoundState c) (chooses c s st)
  chooses_sound s st held none awaited known =
      let did = chose s (dealers_in c) none in
      let after = with_sample (selected s (dealers_in c)) st in
      let still : Held after.sample.minimum after.sample.replies =
      subst (λ (m : ℕ). Held m after.sample.replies) (sym did.least) (subst (λ (es : Replies). Held s.minimum es) (sym did.same) held) in
      let is : IfSome (floor_of s (dealers_in c)) (IsFloor c after.sample.minimum) =
      subst (λ (m : ℕ). IfSome (floor_of s (dealers_in c)) (IsFloor c m)) (sym did.least) (floor_is s (dealers_in c) held) in
      from_sound after (floor_of s (dealers_in c)) still did.is awaited known is

  samples_sound : (peer : ℕ) (f : Finalization) (st : State Dir) → IsSoundState c st → awaits st.sample peer ≡ true → CountsAsReply c st.sample.minimum peer f → Ends (IsSoundState c) (samples c peer f st)
  samples_sound peer f st sound is counts =
      let none : st.sample.chosen ≡ None = none_of st.sample.chosen (both_true (is_none st.sample.chosen) (is_none (reply_at peer st.sample.replies)) is).0 in
      let more = record st.sample { replies = insert_entry nat_cmp st.sample.replies peer f } in
      if_ends (IsSoundState c) (st.subscribers == 0) (Goes (with_sample (sample_forgotten st.sample) st)) (chooses c (sample_recorded st.sample peer f) st) (λ e. forgets st sound none)
      (λ e. subst (λ (s : Sampled). Ends (IsSoundState c) (chooses c s st)) (sym (recorded_held st.sample peer f is counts sound.replies))
      (chooses_sound more st (held_more st.sample.minimum peer f st.sample.replies counts sound.replies) none (none_awaited st.awaited st.sample.chosen sound.waits none) (none_known st st.known sound.settled none)))

  not_below : (n m : ℕ) → nat_lt n m ≡ false → m ≤ n
  not_below n m e = grind (arith, nat_tests)

  latest_sound : (peer : ℕ) (f : Finalization) (st : State Dir) → IsSoundState c st → Ends (IsSoundState c) (hears_latest c peer f st)
  latest_sound peer f st sound =
      let x4 = samples c peer f st in
      let x3 : Probes Dir = if not (c.certifies f) then probing.blocks_peer peer why.Invalid st else x4 in
      let x2 : Probes Dir = if nat_lt f.epoch st.sample.minimum then Goes st else x3 in
      let x1 : Probes Dir = if not (is_dealer c peer) then probing.blocks_peer peer why.Member st else x2 in
      if_ends (IsSoundState c) (not (awaits st.sample peer)) (Goes st) x1 (λ e. sound)
      (λ one. if_ends (IsSoundState c) (not (is_dealer c peer)) (probing.blocks_peer peer why.Member st) x2 (λ e. sound)
      (λ two. if_ends (IsSoundState c) (nat_lt f.epoch st.sample.minimum) (Goes st) x3 (λ e. sound)
      (λ three. if_ends (IsSoundState c) (not (c.certifies f)) (probing.blocks_peer peer why.Invalid st) x4 (λ e. sound)
      (λ four. samples_sound peer f st sound (was_true (awaits st.sample peer) one)
      (record { dealer = was_true (is_dealer c peer) two; certified = was_true (c.certifies f) four; recent = not_below f.epoch st.sample.minimum three })))))

  -- ---- a candidate

  offers_one_more : (floor : Finalization) (asked : Option Candidate) (others : List Candidate) (one : Candidate) → AllByRecursion (OffersBlock c floor) (all_candidates asked others) → OffersBlock c floor one
      → AllByRecursion (OffersBlock c floor) (all_candidates asked (others ++ one ∷ []))
  offers_one_more floor None others one all offers = all_last (OffersBlock c floor) others one all offers
  offers_one_more floor (Some a) others one all offers = (all.0, all_last (OffersBlock c floor) others one all.1 offers)

  not_zero : (epoch height : ℕ) (other : Option ℕ) → (if epoch == 0 then None else other) ≡ Some height → 0 < epoch
  not_zero epoch height other at = tested (epoch == 0) refl at
    where
      tested : (t : Bool) → (epoch == 0) ≡ t → (if t then None else other) ≡ Some height → 0 < epoch
      tested true e is = absurd cc
      tested false e is = grind (arith, nat_tests)

  has_height : (epoch height : ℕ) → begins_at c.blocks_per_epoch epoch ≡ Some height → 0 < epoch
  has_height epoch height at = not_zero epoch height (in_range c.blocks_per_epoch (epoch - 1) (last c.blocks_per_epoch (epoch - 1))) at

  just_before : (epoch floor : ℕ) → 0 < floor → nat_lt epoch (floor - 1) ≡ false → nat_lt (floor - 1) epoch ≡ false → epoch + 1 ≡ floor
  just_before epoch floor some low high = grind (arith, nat_tests)

  adds_sound : (st : State Dir) (old a : Awaiting) → IsSoundState c st → st.awaited ≡ Some old → a.floor ≡ old.floor → Waits c st.sample.minimum a → Ends (IsSoundState c) (adds_candidate a st)
  adds_sound st old a sound is floor waits =
      if_ends (IsSoundState c) (is_none a.asked) (asks_next a st) (Goes (with_awaited a st)) (λ e. next_sound st old a sound is floor waits) (λ e. awaits_sound st old a sound is floor waits)

  boundary_sound : (a : Awaiting) (peer : ℕ) (f : Finalization) (st : State Dir) → IsSoundState c st → st.awaited ≡ Some a → Ends (IsSoundState c) (hears_boundary c a peer f st)
  boundary_sound a peer f st sound is =
      let waits = waits_at st a sound is in
      let x4 = adds_candidate (with_candidate a (peer, f)) st in
      let x3 : Probes Dir = if not (c.certifies f) then probing.blocks_peer peer why.Boundary st else x4 in
      let x2 : Probes Dir = if is_candidate a peer then Goes st else x3 in
      let x1 : Probes Dir = if nat_lt (a.floor.epoch - 1) f.epoch then probing.blocks_peer peer why.Boundary st else x2 in
      if_ends (IsSoundState c) (nat_lt f.epoch (a.floor.epoch - 1)) (Goes st) x1 (λ e. sound)
      (λ low. if_ends (IsSoundState c) (nat_lt (a.floor.epoch - 1) f.epoch) (probing.blocks_peer peer why.Boundary st) x2 (λ e. sound)
      (λ high. if_ends (IsSoundState c) (is_candidate a peer) (Goes st) x3 (λ e. sound)
      (λ new. if_ends (IsSoundState c) (not (c.certifies f)) (probing.blocks_peer peer why.Boundary st) x4 (λ e. sound)
      (λ certified.
      let one : OffersBlock c a.floor (peer, f) = record {
        certified = was_true (c.certifies f) certified;
        before = just_before f.epoch a.floor.epoch (has_height a.floor.epoch a.height waits.height) low high;
      } in
      let more : Waits c st.sample.minimum (with_candidate a (peer, f)) = record { floor = waits.floor; height = waits.height; candidates = offers_one_more a.floor a.asked a.others (peer, f) waits.candidates one } in
      adds_sound st a (with_candidate a (peer, f)) sound is refl more))))

  -- ---- its block

  -- what an info that was found is in
  record Carried (height epoch : ℕ) (commitment body : List ℕ) (info : EpochInfo Dir) : Type 0 where
    block : Block Dir
    read : whole (c.read body) ≡ Ok block
    digest : block.digest ≡ commitment
    at : block.height ≡ height
    carries : info_of block.payload ≡ Some info
    of : info.epoch ≡ epoch

  carried_for : (epoch : ℕ) (carried : Option (EpochInfo Dir)) (info : EpochInfo Dir) → info_for epoch carried ≡ Some info → (carried ≡ Some info) × (info.epoch ≡ epoch)
  carried_for epoch None info e = absurd cc
  carried_for epoch (Some one) info e = tested (one.epoch == epoch) refl e
    where
      tested : (b : Bool) → (one.epoch == epoch) ≡ b → (if b then Some one else None) ≡ Some info → (Some one ≡ Some info) × (info.epoch ≡ epoch)
      tested true t s = let same : one ≡ info = cc in (s, subst (λ (i : EpochInfo Dir). i.epoch ≡ epoch) same (eqb-true one.epoch epoch t))
      tested false t s = absurd cc

  carried_in : (height epoch : ℕ) (commitment body : List ℕ) (reading : Result (Block Dir) CodecError) (info : EpochInfo Dir) → whole (c.read body) ≡ reading → info_at_height height epoch (with_commitment commitment reading) ≡ Some info
      → Carried height epoch commitment body info
  carried_in height epoch commitment body (Err e) info read is = absurd cc
  carried_in height epoch commitment body (Ok block) info read is = tested (bytes_eq block.digest commitment) refl is
    where
      at_height : (t : Bool) → block.digest ≡ commitment → (block.height == height) ≡ t → (if t then info_for epoch (info_of block.payload) else None) ≡ Some info → Carried height epoch commitment body info
      at_height true digest h s = let f = carried_for epoch (info_of block.payload) info s in
          record { block = block; read = read; digest = digest; at = eqb-true block.height height h; carries = f.0; of = f.1 }
      at_height false digest h s = absurd cc

      tested : (t : Bool) → bytes_eq block.digest commitment ≡ t → info_at_height height epoch (if t then Ok block else Err (Invalid what.Commitment)) ≡ Some info → Carried height epoch commitment body info
      tested true d s = at_height (block.height == height) (same_bytes block.digest commitment d) refl s
      tested false d s = absurd cc

  body_sound : (a : Awaiting) (asked : Candidate) (body : List ℕ) (st : State Dir) (info : Option (EpochInfo Dir)) → IsSoundState c st → st.awaited ≡ Some a → OffersBlock c a.floor asked
      → found_in c a.height a.floor.epoch asked.1.payload body ≡ info → Ends (IsSoundState c) (from_body c a asked st info)
  body_sound a asked body st None sound is offers found = next_sound st a a sound is refl (waits_at st a sound is)
  body_sound a asked body st (Some info) sound is offers found =
      let waits = waits_at st a sound is in
      let in_block = carried_in a.height a.floor.epoch asked.1.payload body (whole (c.read body)) info refl found in
      let artifact : Known Dir = record { finalization = Some asked.1; info = info; floor = a.floor } in
      let from : FromBlock c artifact = record {
        of = asked.1;
        is = refl;
        certified = offers.certified;
        before = offers.before;
        body = body;
        block = in_block.block;
        read = in_block.read;
        digest = in_block.digest;
        height = waits.height ∙ ap (λ (h : ℕ). Some h) (sym in_block.at);
        info = in_block.carries;
        epoch = in_block.of;
      } in
      known_sound st artifact sound.replies (some_of (λ (b : Awaiting). st.sample.chosen ≡ Some b.floor) st.awaited a sound.waits is) waits.floor (inr from)

  block_sound : (a : Awaiting) (asked : Option Candidate) (peer epoch : ℕ) (body : List ℕ) (st : State Dir) → IsSoundState c st → st.awaited ≡ Some a → AllByRecursion (OffersBlock c a.floor) (all_candidates asked a.others)
      → Ends (IsSoundState c) (hears_block c a asked peer epoch body st)
  block_sound a None peer epoch body st sound is offer = sound
  block_sound a (Some asked) peer epoch body st sound is offer =
      if_ends (IsSoundState c) ((asked.0 == peer) && (epoch == a.floor.epoch)) (hears_body c a asked body st) (Goes st)
      (λ e. body_sound a asked body st (found_in c a.height a.floor.epoch asked.1.payload body) sound is offer.0 refl) (λ e. sound)

  -- ---- a step

  hears_in_sound : (awaited : Option Awaiting) (peer : ℕ) (reply : ProbeReply) (st : State Dir) → IsSoundState c st → st.awaited ≡ awaited → Ends (IsSoundState c) (hears_in c awaited peer reply st)
  hears_in_sound awaited peer (LatestReply f) st sound is = latest_sound peer f st sound
  hears_in_sound None peer (BoundaryReply f) st sound is = sound
  hears_in_sound None peer (BlockReply epoch body) st sound is = sound
  hears_in_sound (Some a) peer (BoundaryReply f) st sound is = boundary_sound a peer f st sound is
  hears_in_sound (Some a) peer (BlockReply epoch body) st sound is = block_sound a a.asked peer epoch body st sound is (waits_at st a sound is).candidates

  discovers_sound : (peer : ℕ) (reply : Result (Option ProbeReply) CodecError) (st : State Dir) → IsSoundState c st → Ends (IsSoundState c) (discovers c peer reply st)
  discovers_sound peer (Err e) st sound = sound
  discovers_sound peer (Ok None) st sound = sound
  discovers_sound peer (Ok (Some reply)) st sound = hears_in_sound st.awaited peer reply st sound refl

  hears_sound : (source : ProbeSource Dir) (peer : ℕ) (bytes : List ℕ) (st : State Dir) → IsSoundState c st → Ends (IsSoundState c) (hears c source peer bytes st)
  hears_sound source peer bytes st sound =
      if_ends (IsSoundState c) st.serving (serves c source peer (request_of bytes) st) (discovers c peer (reply_of bytes) st) (λ e. ends_serving (IsSoundState c) c source peer (request_of bytes) st sound) (λ e. discovers_sound peer (reply_of bytes) st sound)

  fewer : (st : State Dir) (known : Option (Known Dir)) → IfSome known (λ _. (is_some st.sample.chosen ≡ true) × (st.awaited ≡ None) × (st.subscribers ≡ 0)) → IfSome known (λ _. (is_some st.sample.chosen ≡ true) × (st.awaited ≡ None) × (st.subscribers - 1 ≡ 0))
  fewer st None settled = tt
  fewer st (Some k) settled = (settled.0, settled.1, omega (arith, settled.2))

  takes_sound : (lack : Option ℕ) (source : ProbeSource Dir) (event : Event) (st : State Dir) → IsSoundState c st → Ends (IsSoundState c) (takes c lack source event st)
  takes_sound lack source Subscribe st sound = subscribes_sound lack st sound
  takes_sound lack source Unsubscribe st sound = record { replies = sound.replies; chosen = sound.chosen; awaited = sound.awaited; known = sound.known; waits = sound.waits; settled = fewer st st.known sound.settled }
  takes_sound lack source Attach st sound = record { replies = sound.replies; chosen = sound.chosen; awaited = sound.awaited; known = sound.known; waits = sound.waits; settled = sound.settled }
  takes_sound lack source (Peer from bytes) st sound = hears_sound source from bytes st sound
  takes_sound lack source Retry st sound = retries_sound st sound

  -- ---- what is known stays

  module _ (st : State Dir) (k : Known Dir) (is : st.known ≡ Some k) (chosen : is_some st.sample.chosen ≡ true) (awaited : st.awaited ≡ None) where
    here : KeepsArtifact st st
    here = inl refl

    done : is_done st ≡ true
    done = rw is (or_true st.serving)
      where
        or_true : (b : Bool) → (b || true) ≡ true
        or_true true = refl
        or_true false = refl

    hears_kept : (peer : ℕ) (reply : ProbeReply) → Ends (KeepsArtifact st) (hears_in c None peer reply st)
    hears_kept peer (LatestReply f) = let no : awaits st.sample peer ≡ false = not_awaited st.sample.chosen chosen in rw no here
      where
        not_awaited : (o : Option Finalization) → is_some o ≡ true → (is_none o && is_none (reply_at peer st.sample.replies)) ≡ false
        not_awaited None e = absurd cc
        not_awaited (Some f) e = refl
    hears_kept peer (BoundaryReply f) = here
    hears_kept peer (BlockReply epoch body) = here

    discovers_kept : (peer : ℕ) (reply : Result (Option ProbeReply) CodecError) → Ends (KeepsArtifact st) (discovers c peer reply st)
    discovers_kept peer (Err e) = here
    discovers_kept peer (Ok None) = here
    discovers_kept peer (Ok (Some reply)) = subst (λ (a : Option Awaiting). Ends (KeepsArtifact st) (hears_in c a peer reply st)) (sym awaited) (hears_kept peer reply)

    known_kept : (lack : Option ℕ) (source : ProbeSource Dir) (event : Event) → Ends (KeepsArtifact st) (takes c lack source event st)
    known_kept lack source Subscribe = rw done here
    known_kept lack source Unsubscribe = here
    known_kept lack source Attach = here
    known_kept lack source (Peer from bytes) =
        if_ends (KeepsArtifact st) st.serving (serves c source from (request_of bytes) st) (discovers c from (reply_of bytes) st) (λ e. ends_serving (KeepsArtifact st) c source from (request_of bytes) st here) (λ e. discovers_kept from (reply_of bytes))
    known_kept lack source Retry = rw done here

  takes_kept_in : (st : State Dir) (known : Option (Known Dir)) → st.known ≡ known → IfSome known (λ _. (is_some st.sample.chosen ≡ true) × (st.awaited ≡ None) × (st.subscribers ≡ 0)) → (lack : Option ℕ) (source : ProbeSource Dir) (event : Event)
      → Ends (KeepsArtifact st) (takes c lack source event st)
  takes_kept_in st None is settled lack source event = ends_any (KeepsArtifact st) (takes c lack source event st) (λ end. inr is)
  takes_kept_in st (Some k) is settled lack source event = known_kept st k is settled.0 settled.1 lack source event

  -- ---- what follows

  pub step_sound : (lack : Option ℕ) (source : ProbeSource Dir) (event : Event) (st mid new : State Dir) (out after : List Entry) → IsSoundState c st → new ≡ then_serves mid → ProbeCompletes (takes c lack source event st) mid out after → IsSoundState c new
  step_sound lack source event st mid new out after sound is ran =
      let mid_sound = ends_at (IsSoundState c) (takes c lack source event st) mid out after (takes_sound lack source event st sound) ran in
      subst (λ (s : State Dir). IsSoundState c s) (sym is)
      (record { replies = mid_sound.replies; chosen = mid_sound.chosen; awaited = mid_sound.awaited; known = mid_sound.known; waits = mid_sound.waits; settled = mid_sound.settled })

  pub step_keeps : (lack : Option ℕ) (source : ProbeSource Dir) (event : Event) (st mid new : State Dir) (out after : List Entry) → IsSoundState c st → new ≡ then_serves mid → ProbeCompletes (takes c lack source event st) mid out after → KeepsArtifact st new
  step_keeps lack source event st mid new out after sound is ran =
      let kept = ends_at (KeepsArtifact st) (takes c lack source event st) mid out after (takes_kept_in st st.known refl sound.settled lack source event) ran in
      subst (λ (s : State Dir). KeepsArtifact st s) (sym is) (elim kept [ inl same ↦ inl same | inr none ↦ inr none ])

  pub new_sound : (minimum : ℕ) → IsSoundState c (new_state minimum)
  new_sound minimum = blank (new_state minimum) tt refl refl refl
