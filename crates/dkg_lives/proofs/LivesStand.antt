-- Each state in which a step of a life begins stands where the script says, in either way; and has what steps of the form keep.
use Rattle.std.proofs.Common.{◌≡◌, ℕ, suc, ◌<◌, Option, Some, None, subst, arith}
use Rattle.std.specs.Prelude.{slice_get}
use Rattle.dkg_journal.specs.Burn.{Burn}
use Rattle.dkg_infos.specs.declared.directory.Unit as directory
use Rattle.dkg_text.specs.declared.script.Cut.{Cut}
use Rattle.dkg_text.specs.declared.script.Event.{Event}
use Rattle.dkg_store.specs.Acts.{Held, went}
use Rattle.dkg_core.specs.Behind.{event_of}
use Rattle.dkg_core.specs.Courses.{Course}
use Rattle.dkg_core.specs.Fixed.{Fixed}
use Rattle.dkg_core.specs.Forms.{IsForm, IsNodeBegun, held_behind}
use Rattle.dkg_core.specs.Live.{Live, Message, NodeStop}
use Rattle.dkg_core.specs.Node.{node_opening, node_step}
use Rattle.dkg_core.specs.NodeEndings.{IsFaultBy, LacksNobody}
use Rattle.dkg_laws.specs.NodeThrough.{IsActiveThrough, IsNodeThrough}
use Rattle.dkg_core.specs.Seen.{Seen}
use Rattle.dkg_core.specs.Through.{IsFormThrough, IsLiveThrough, IsStopThrough, IsTakenThrough}
use Rattle.dkg_core.proofs.Setups.{comes_anywhere}
use Rattle.dkg_core.proofs.Splitting.{came_to}
use Rattle.dkg_laws.proofs.NodeThrough.{node_openings_through, node_steps_come_through, node_steps_lead_through_over}
use Rattle.dkg_laws.proofs.Openings.{node_openings_lead, node_openings_lead_over}
use Rattle.dkg_lives.specs.Epochs.{IsAtEvent, IsLifeInForm, any_shares}
use Rattle.dkg_lives.specs.Given.{Lived, at_step, step_of}
use Rattle.dkg_lives.specs.Ways.{Way, by_entries, by_worlds}
use Rattle.dkg_lives.proofs.Awaiting.{IsBefore, IsReached}
use Rattle.dkg_lives.proofs.Former.{IsMessage, event_in_form, form_at, lacks_nobody, live_at, message_in, step_taken, through_at}
use Rattle.dkg_lives.proofs.Stood.{begun_stands, step_stands}

pub before_suc : (its : Option Cut) (j : ℕ) → IsReached its j → IsBefore its (suc j)
before_suc None j reached = tt
before_suc (Some cut) j reached = λ none. let low : j < cut.step = reached none in omega (arith, low)

-- WHERE THE COURSES OF A WAY LEAD

-- what a step of a node leaves, where its devices hold what is known
abbrev pub IsStepped : Fixed directory.Unit → Live directory.Unit → Message directory.Unit → Live directory.Unit → Type 0
IsStepped c st message end = (devices left : Option Held) × IsNodeThrough c any_shares st message devices end left

-- an opening leaves such a life, and so does a step
pub record LeadsAlong {W : Type 0} (way : Way W) : Type 0 where
  pub opens : (c : Fixed directory.Unit) (st : Live directory.Unit) (f : Burn) (w new : W) → IsForm c → LacksNobody c → way.goes (node_opening c) (went st) f w new → (seen : Seen) × (k : Held) × IsNodeBegun c seen k st
  pub steps : (c : Fixed directory.Unit) (st end : Live directory.Unit) (message : Message directory.Unit) (f : Burn) (w new : W) → IsFormThrough c → LacksNobody c → IsTakenThrough c message st
      → IsLiveThrough c any_shares st → IsActiveThrough st → way.goes (node_step c (event_of message) st) (went end) f w new → IsStepped c st message end

pub lines_lead : LeadsAlong by_entries
lines_lead = record {
  opens = λ c st f t new form lacks goes. let its = node_openings_lead c (went st) t.out new.out form lacks goes.0 in (c.seen its.0, its.1, its.2);
  steps = λ c st end message f t new form lacks taken live active goes. (
    None,
    None,
    came_to (IsFaultBy (IsStopThrough c any_shares st message None)) (λ end. IsNodeThrough c any_shares st message None end None) (node_step c (event_of message) st) (went end) t.out new.out
        (comes_anywhere (IsFaultBy (IsStopThrough c any_shares st message None)) (IsNodeThrough c any_shares st message None) (node_step c (event_of message) st)
        (node_steps_come_through c any_shares st message None form lacks (λ h epoch found. tt) taken live active)) goes.0,
  );
}

pub worlds_lead : LeadsAlong by_worlds
worlds_lead = record {
  opens = λ c st f w new form lacks goes.
      let its = node_openings_lead_over c (went st) (record w { fuse = f }) new form lacks goes.0 in
      (c.seen (held_behind c w.held), held_behind c w.held, its.0);
  steps = λ c st end message f w new form lacks taken live active goes. (
    Some w.held,
    Some new.held,
    node_steps_lead_through_over c any_shares st message (went end) (record w { fuse = f }) new form lacks (λ h epoch found. tt) taken live active goes.0,
  );
}

-- what an opening leaves stands where the script says
pub begun_at : (g : Lived) → IsLifeInForm g → (seen : Seen) (k : Held) (st : Live directory.Unit) → IsNodeBegun (at_step g 0) seen k st → IsAtEvent g 0 st
begun_at g here seen k st begun =
    let lives = node_openings_through (at_step g 0) any_shares seen k st (form_at g here 0) begun in
    record { live = lives.0; active = lives.1; stands = begun_stands g here seen k st begun }

module _ {W : Type 0} (way : Way W) (leads : LeadsAlong way) (g : Lived) (here : IsLifeInForm g) where
  -- ONE STEP, in a way

  pub opened_at : (st : Live directory.Unit) (f : Burn) (w new : W) → way.goes (node_opening (at_step g 0)) (went st) f w new → (seen : Seen) × (k : Held) × IsNodeBegun (at_step g 0) seen k st × IsAtEvent g 0 st
  opened_at st f w new goes =
      let its = leads.opens (at_step g 0) st f w new (form_at g here 0) (lacks_nobody g 0) goes in
      (its.0, its.1, its.2, begun_at g here its.0 its.1 st its.2)

  module _ (i : ℕ) (its : Event) (is : slice_get g.life.events i ≡ Some its) (st : Live directory.Unit) (at : IsAtEvent g i st) where
    pub message : IsMessage g its
    message = message_in g its (event_in_form g here i its is)

    pub live_here : IsLiveThrough (at_step g (suc i)) any_shares st
    live_here = live_at g i (suc i) st at.live

    pub taken_here : IsTakenThrough (at_step g (suc i)) message.message st
    taken_here = step_taken g its message.message message.brings (at_step g (suc i)) st

    pub stepped_at : (reached : IsReached g.life.cut (suc i)) (end : Live directory.Unit) (f : Burn) (w new : W) → way.goes (step_of g (suc i) its st) (went end) f w new
        → IsStepped (at_step g (suc i)) st message.message end × IsAtEvent g (suc i) end
    stepped_at reached end f w new goes =
        let led = leads.steps (at_step g (suc i)) st end message.message f w new (through_at g here (suc i)) (lacks_nobody g (suc i)) taken_here live_here at.active
        (subst (λ (course : Course directory.Unit NodeStop (Live directory.Unit)). way.goes course (went end) f w new) (message.course (suc i) st) goes) in
        (led, record { live = (led.2).live; active = (led.2).active; stands = step_stands g here i its is reached message st live_here at.stands led.0 end led.1 led.2 })
