-- A probe that serves says nothing but what is held.
use Rattle.std.proofs.Common.{◌≡◌, ℕ, Bool, true, false, ◌||◌, ◌==◌, List, ◌∷◌, ◌++◌, Option, Some, None, is_some, Result, Ok, Err, if◌then◌else◌, refl}
use Rattle.std.specs.Prelude.{option_map, option_and_then}
use Rattle.dkg_values.specs.Uint.{uint}
use Rattle.dkg_values.specs.declared.codec.CodecError.{CodecError}
use Rattle.dkg_types.specs.BlockCodes.{block_spelling}
use Rattle.dkg_types.specs.Blocks.{Block}
use Rattle.dkg_types.specs.FinalizationCodes.{finalization_spelling}
use Rattle.dkg_infos.specs.declared.entry.Entry.{Entry}
use Rattle.dkg_types.specs.declared.finalization.Finalization.{Finalization}
use Rattle.dkg_probe.specs.declared.event.Event.{Event}
use Rattle.dkg_probe.specs.declared.event.Event.TheVariants.{Subscribe, Unsubscribe, Attach, Peer, Retry}
use Rattle.dkg_probe.specs.declared.state.State.{State}
use Rattle.dkg_probe.specs.declared.wire.Request.{Request}
use Rattle.dkg_probe.specs.declared.wire.Request.TheVariants as request
use Rattle.dkg_probe.specs.Acts.{Goes, ProbeEnded, ProbeRuns, Each}
use Rattle.dkg_probe.specs.OneEpoch.{SaidSince}
use Rattle.dkg_probe.specs.Probing.{ProbeFixed, one_more, is_done, is_first, activates, retries_in, begins_at, discovers, response_to, answers_peer, serves, takes}
use Rattle.dkg_probe.specs.Serving.{HoldsFor, AnswersAsker, Serves}
use Rattle.dkg_probe.specs.Sources.{ProbeSource}
use Rattle.dkg_probe.specs.Wire.{request_of, reply_of}
use Rattle.dkg_probe.proofs.Saying.{Said, if_each, said_running}

mapped : {A B : Type 0} (f : A → B) (o : Option A) (b : B) → option_map f o ≡ Some b → (a : A) × (o ≡ Some a) × (b ≡ f a)
mapped f None b e = absurd cc
mapped f (Some a) b e = (a, refl, cc)

chained : {A B : Type 0} (f : A → Option B) (o : Option A) (b : B) → option_and_then f o ≡ Some b → (a : A) × (o ≡ Some a) × (f a ≡ Some b)
chained f None b e = absurd cc
chained f (Some a) b e = (a, refl, e)

never_both : (b : Bool) → b ≡ true → b ≡ false → ⊥
never_both true t f = cc
never_both false t f = cc

or_first : (a b : Bool) → a ≡ true → (a || b) ≡ true
or_first true b e = refl
or_first false b e = absurd cc

module _ {Dir : Type 0} (c : ProbeFixed Dir) (source : ProbeSource Dir) where
  holds_for : (r : Request) (bytes : List ℕ) → response_to c source r ≡ Some bytes → HoldsFor c source r bytes
  holds_for request.Latest bytes e = mapped (λ (f : Finalization). 5 ∷ finalization_spelling f) source.latest bytes e
  holds_for (request.Boundary epoch) bytes e =
      let m = mapped (λ (f : Finalization). 1 ∷ finalization_spelling f) (option_and_then source.finalization (begins_at c.blocks_per_epoch epoch)) bytes e in
      let h = chained source.finalization (begins_at c.blocks_per_epoch epoch) m.0 m.1 in
      (h.0, m.0, h.1, h.2, m.2)
  holds_for (request.Block epoch) bytes e =
      let m = mapped (λ (b : Block Dir). 3 ∷ (uint epoch ++ block_spelling c.spelling b)) (option_and_then source.block (begins_at c.blocks_per_epoch epoch)) bytes e in
      let h = chained source.block (begins_at c.blocks_per_epoch epoch) m.0 m.1 in
      (h.0, m.0, h.1, h.2, m.2)

  module _ (peer : ℕ) (asked : List ℕ) (st : State Dir) where
    answered : (r : Request) (bytes : Option (List ℕ)) → request_of asked ≡ Ok (Some r) → response_to c source r ≡ bytes → Each (Said (AnswersAsker c source peer asked)) (Unit {0}) (answers_peer peer bytes st)
    answered r None read e = tt
    answered r (Some bytes) read e = ((refl, (r, read, holds_for r bytes e)), tt)

    served : (reading : Result (Option Request) CodecError) → request_of asked ≡ reading → Each (Said (AnswersAsker c source peer asked)) (Unit {0}) (serves c source peer reading st)
    served (Err e) read = ((refl, (e, read)), tt)
    served (Ok None) read = tt
    served (Ok (Some r)) read = answered r (response_to c source r) read refl

  -- where it serves, it only serves
  serving : (event : Event) (lack : Option ℕ) (st : State Dir) → st.serving ≡ true → Each (Said (Serves c source event)) (Unit {0}) (takes c lack source event st)
  serving Subscribe lack st on =
      if_each (Said (Serves c source Subscribe)) (Unit {0}) (is_done st) (Goes st) (if is_first st then activates c lack (one_more st) else Goes (one_more st)) (λ e. tt)
      (λ e. absurd (never_both (is_done st) (or_first st.serving (is_some st.known) on) e))
  serving Unsubscribe lack st on = tt
  serving Attach lack st on = tt
  serving (Peer from bytes) lack st on =
      if_each (Said (Serves c source (Peer from bytes))) (Unit {0}) st.serving (serves c source from (request_of bytes) st) (discovers c from (reply_of bytes) st)
      (λ e. served from bytes st (request_of bytes) refl) (λ e. absurd (never_both st.serving on e))
  serving Retry lack st on =
      if_each (Said (Serves c source Retry)) (Unit {0}) (is_done st || (st.subscribers == 0)) (Goes st) (retries_in c st st.awaited) (λ e. tt)
      (λ e. absurd (never_both (is_done st || (st.subscribers == 0)) (or_first (is_done st) (st.subscribers == 0) (or_first st.serving (is_some st.known) on)) e))

  pub served_since : (lack : Option ℕ) (event : Event) (st : State Dir) (ended : ProbeEnded ℕ (State Dir)) (out new : List Entry) → st.serving ≡ true → ProbeRuns (takes c lack source event st) ended out new → SaidSince (Serves c source event) out new
  served_since lack event st ended out new on ran = said_running (Serves c source event) (Unit {0}) (takes c lack source event st) ended out new (serving event lack st on) ran
