-- The node: its halves in their order, the application and the probe, at an opening and in each step.
use Rattle.std.specs.Prelude.{List, [], ◌∷◌, ◌≡◌, is_some, option_and_then, if◌then◌else◌}
use Rattle.std.specs.Result.{result_ok}
use Rattle.dkg_values.specs.Codec.{whole}
use Rattle.dkg_types.specs.Blocks.{Block}
use Rattle.dkg_infos.specs.declared.entry.Entry.TheVariants.{Acked}
use Rattle.dkg_infos.specs.declared.fault.Fault.{Fault}
use Rattle.dkg_store.specs.Acts.{Held, World, Ended}
use Rattle.dkg_core.specs.Courses.{Course, Say, Goes, bind, under, EndsSo}
use Rattle.dkg_core.specs.Sources.{SourceAnswers}
use Rattle.dkg_core.specs.Fixed.{Fixed, lending}
use Rattle.dkg_core.specs.Live.{Live, NodeStop, Faulted, Mailed, Finalized, Event, Reshare, Delivers, Later, Prepare, Propose, Verify}
use Rattle.dkg_core.specs.Setup.{looks}
use Rattle.dkg_core.specs.Plans.{material_at}
use Rattle.dkg_core.specs.Core.{opening, step, StepReply, State, IsReplyOf, Answered}
use Rattle.dkg_core.specs.Entering.{acked_at, opens_half, asks_again, takes_delivered, hints}
use Rattle.dkg_core.specs.Desk.{prepares, proposes, verifies_ancestry}
use Rattle.dkg_core.specs.Probing.{probes}

-- A one-shot node has no orchestrator's half.
abbrev pub unless_once : {Dir S : Type 0} → Fixed Dir → Course Dir NodeStop S → Course Dir NodeStop S → Course Dir NodeStop S
unless_once c course once = if is_some c.oneshot then once else course

-- what the plan holds once it is resolved
abbrev pub kept_material : {Dir : Type 0} → Fixed Dir → Live Dir → Course Dir NodeStop (Live Dir)
kept_material c st =
    looks c (λ s. bind (opens_half c (option_and_then (λ bytes. result_ok (whole (material_at c bytes))) s.plan) st) (λ half. Goes half.live))

-- AN OPENING: the reshare half's, then the orchestrator's.
abbrev pub node_opening : {Dir : Type 0} → Fixed Dir → Course Dir NodeStop (Live Dir)
node_opening c = bind (under Faulted (opening c)) (λ st. unless_once c (kept_material c st) (Goes st))

-- A block is acknowledged once both halves did.
abbrev pub delivers_to_both : {Dir : Type 0} → Fixed Dir → Block Dir → Live Dir → Course Dir NodeStop (Live Dir)
delivers_to_both c b st =
    bind (under Faulted (step c (Finalized b) st)) (λ st.
    unless_once c (bind (takes_delivered c b st) (λ half. acked_at b.height half.answer half.live)) (Say (Acked b.height) (Goes st)))

-- the reshare half of a step, and then a waiting orchestrator asks again
abbrev pub then_again : {Dir : Type 0} → Fixed Dir → Course Dir Fault (Live Dir) → Course Dir NodeStop (Live Dir)
then_again c course = bind (under Faulted course) (λ st. unless_once c (asks_again c st) (Goes st))

-- A STEP
abbrev pub node_step : {Dir : Type 0} → Fixed Dir → Event Dir → Live Dir → Course Dir NodeStop (Live Dir)
node_step c (Delivers b) st = delivers_to_both c b st
node_step c (Reshare mail) st = then_again c (step c (Mailed mail) st)
node_step c (Later from epoch) st = unless_once c (hints c from epoch st) (Goes st)
node_step c (Prepare ancestry) st = then_again c (prepares c ancestry st)
node_step c (Propose ancestry) st = then_again c (proposes c ancestry st)
node_step c (Verify ancestry) st = then_again c (verifies_ancestry c ancestry st)
node_step c event st = bind (probes c event st) (λ st. unless_once c (asks_again c st) (Goes st))

-- THE RELATIONS: of an opening, of a step, of a run of calls that were answered, and of a last step

abbrev pub NodeOpens : {Dir : Type 0} → Fixed Dir → Held → StepReply Dir → State (Live Dir) → Type 0
NodeOpens c held reply new = IsReplyOf (node_opening c) held reply new

abbrev pub NodeCore : {Dir : Type 0} → Fixed Dir → State (Live Dir) → Event Dir → StepReply Dir → State (Live Dir) → Type 0
NodeCore c old event reply new = IsReplyOf (node_step c event old.live) old.held reply new

abbrev pub NodeRun : {Dir : Type 0} → Fixed Dir → State (Live Dir) → List (Answered Dir (Event Dir)) → State (Live Dir) → Type 0
NodeRun c start [] end = end ≡ start
NodeRun {Dir} c start (call ∷ calls) end = (mid : State (Live Dir)) × NodeCore (lending call.source c) start call.event call.reply mid × NodeRun c mid calls end

abbrev pub NodeEnds : {Dir : Type 0} → Fixed Dir → State (Live Dir) → Event Dir → Ended NodeStop (Live Dir) → (before now : World) → Type 0
NodeEnds c old event ended before now = (before.held ≡ old.held) × EndsSo (node_step c event old.live) ended before now

abbrev pub NodeRunEnds : {Dir : Type 0} → Fixed Dir → State (Live Dir) → List (Answered Dir (Event Dir)) → SourceAnswers Dir → Event Dir → Ended NodeStop (Live Dir) → (before now : World) → Type 0
NodeRunEnds {Dir} c start calls source event ended before now =
    (mid : State (Live Dir)) × NodeRun c start calls mid × NodeEnds (lending source c) mid event ended before now
