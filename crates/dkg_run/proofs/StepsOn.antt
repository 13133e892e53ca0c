-- A life of the form goes on with each of its steps that is reached, and the node takes what the step's event brings.
use Rattle.std.proofs.Common.{◌≡◌, inl, inr, ◌+◌, ℕ, suc, List, Option, Some, None, Result, Ok, refl, sym, ◌∙◌, ap, subst, add-one}
use Rattle.std.specs.Prelude.{IsSome, IsSomeAnd, slice_get}
use Rattle.std.specs.Int.NonZero.{non_zero_u32_get}
use Rattle.dkg_journal.specs.Burn.{Burn}
use Rattle.dkg_types.specs.Blocks.{Block}
use Rattle.dkg_infos.specs.declared.directory.Unit as directory
use Rattle.dkg_infos.specs.declared.entry.Entry.{Entry}
use Rattle.dkg_text.specs.declared.script.Event.{Event}
use Rattle.dkg_text.specs.declared.script.Event.TheVariants as event
use Rattle.dkg_text.specs.declared.script.Life.{Life}
use Rattle.dkg_script.specs.Inclusion.{IsEventIn}
use Rattle.dkg_store.specs.Acts.{went}
use Rattle.dkg_core.specs.Live.{Live, NodeStop}
use Rattle.dkg_blocks.specs.CarriedLogs.{CarriesWithin}
use Rattle.dkg_life.specs.Planless.{seen_planless}
use Rattle.dkg_life.specs.declared.stop.Stop.{Stop}
use Rattle.dkg_lives.specs.Epochs.{IsAtEvent, IsLifeInForm, MayStep}
use Rattle.dkg_lives.specs.Given.{AreBytes, Lived, at_step, blocks_in, step_of}
use Rattle.dkg_lives.specs.Lives.{Steps, fuse_for}
use Rattle.dkg_node.specs.Nodes.{GoesIn, IsEventOfBlocks, IsOfLife, IsStepHere, IsView}
use Rattle.dkg_lives.specs.Ways.{Way}
use Rattle.dkg_node.specs.declared.node.Node.{Node}
use Rattle.dkg_lives.proofs.Awaiting.{IsBefore, IsReached, before_all, reached_lit}
use Rattle.dkg_lives.proofs.Former.{IsMadeOf, event_in_form, live_at, made_of, through_at}
use Rattle.dkg_lives.proofs.LivesStand.{LeadsAlong, before_suc, stepped_at}
use Rattle.dkg_lives.proofs.LogsFit.{block_within}

-- A node that is of each life of which it was before is in the same one's next step.
pub step_here : (g : Lived) (a b : Node) (blocks now : List (Block directory.Unit)) (life : Life) → ((g : Lived) → IsOfLife g a → IsOfLife g b) → now ≡ blocks → IsStepHere g a blocks life → IsStepHere g b now life
step_here g a b blocks now life of same is = record {
  of = of g is.of;
  blocks_are = same ∙ is.blocks_are;
  life_is = is.life_is;
}

-- A NODE behind the first i events

pub record IsHere (g : Lived) (node : Node) (i : ℕ) (st : Live directory.Unit) : Type 0 where
  pub view : IsView node st
  pub at : IsAtEvent g i st
  pub before : IsBefore g.life.cut (suc i)

-- .. behind none of them, where the opening was reached
pub here_first : (g : Lived) (node : Node) (st : Live directory.Unit) (life : Life) → g.life ≡ life → (f : Burn) → fuse_for life.cut 0 ≡ Some f → IsView node st → IsAtEvent g 0 st → IsHere g node 0 st
here_first g node st life same f lit view at = record {
  view = view;
  at = at;
  before = before_suc g.life.cut 0 (reached_lit g.life.cut 0 f (ap (λ (l : Life). fuse_for l.cut 0) same ∙ lit) (before_all g.life.cut));
}

-- WHAT A STEP IS GIVEN

reads_planless : (g : Lived) (i : ℕ) → (at_step g (suc i)).seen ≡ seen_planless
unfolding at_step
reads_planless g i = refl

limit_at : (g : Lived) (taken : ℕ) → (at_step g taken).limit ≡ non_zero_u32_get g.script.config.limit
unfolding at_step
limit_at g taken = refl

module _ (g : Lived) (here : IsLifeInForm g) (i : ℕ) (its : Event) (life : Life) (same : g.life ≡ life) (of_life : slice_get life.events i ≡ Some its) (node : Node) (st : Live directory.Unit) (at : IsHere g node i st) where
  is : slice_get g.life.events i ≡ Some its
  is = ap (λ (l : Life). slice_get l.events i) same ∙ of_life

  pub may_step : MayStep g (i + 1) st
  may_step = subst (λ (k : ℕ). MayStep g k st) (sym (add-one i)) (record { reads = reads_planless g i; form = through_at g here (suc i); live = live_at g i (suc i) st at.at.live; active = at.at.active })

  -- it goes on in the node
  pub goes_in : IsOfLife g node → GoesIn node
  goes_in of = record { g = g; number = i + 1; st = st; of = of; may = may_step; view = at.view }

  lit_suc : (f : Burn) → fuse_for life.cut (i + 1) ≡ Some f → fuse_for g.life.cut (suc i) ≡ Some f
  lit_suc f lit = ap (λ (l : Life). fuse_for l.cut (suc i)) same ∙ ap (fuse_for life.cut) (sym (add-one i)) ∙ lit

  pub reached : (f : Burn) → fuse_for life.cut (i + 1) ≡ Some f → IsReached g.life.cut (suc i)
  reached f lit = reached_lit g.life.cut (suc i) f (lit_suc f lit) at.before

  -- .. and is taken by it, of a node that has the life's limit
  module _ (bytes : AreBytes g.script.blocks) (blocks : List (Block directory.Unit)) (blocks_are : blocks ≡ blocks_in g.script) (limit : ℕ) (limit_is : (at_step g (i + 1)).limit ≡ limit) where
    of_number : (number : ℕ) (P : Block directory.Unit → Type 0) (made : IsMadeOf g.script number) → P made.block → IsSomeAnd (slice_get blocks number) P
    of_number number P made so =
        subst (λ (o : Option (Block directory.Unit)). IsSomeAnd o P) (sym (ap (λ (bs : List (Block directory.Unit)). slice_get bs number) blocks_are ∙ made.is)) so

    pub taken_event : IsEventOfBlocks limit blocks its
    taken_event = by_event its (event_in_form g here i its is)
      where
        by_event : (e : Event) → IsEventIn g.script.blocks e → IsEventOfBlocks limit blocks e
        by_event (event.Peer from bytes) form = tt
        by_event (event.Final number) form =
            let made = made_of g.script number form in
            of_number number (CarriesWithin limit) made
            (subst (λ (n : ℕ). CarriesWithin n made.block) (sym (limit_at g (i + 1)) ∙ limit_is) (block_within g bytes here.form.placed here.form.in_bound i number made))
        by_event (event.Next request height) form = tt
        by_event (event.Release height) form = tt
        by_event (event.Info request) form = tt
        by_event (event.Feed request number) form =
            let made = made_of g.script number form in
            subst (λ (o : Option (Block directory.Unit)). IsSome o) (sym (ap (λ (bs : List (Block directory.Unit)). slice_get bs number) blocks_are ∙ made.is)) refl
        by_event (event.Over request) form = tt
        by_event (event.Cancel request) form = tt
        by_event event.Work form = tt
        by_event other form = absurd form

  -- BEHIND A STEP that was answered Ok stands the next state

  module _ {W : Type 0} (way : Way W) (leads : LeadsAlong way) (line : Entry) (next : Node) (w mid : W) where
    abbrev Before : Live directory.Unit → W → Type 0
    Before end m = (◌≡◌ {A = Result (Unit {0}) Stop} (Ok tt) (Ok tt)) × IsView next end × (m ≡ mid)

    abbrev Behind : Live directory.Unit → W → Type 0
    Behind end m = (◌≡◌ {A = Result (Unit {0}) Stop} (Ok tt) (Ok tt)) × IsHere g next (i + 1) end × (m ≡ mid)

    pub steps_here : Steps way line (fuse_for life.cut (i + 1)) (step_of g (i + 1) its st) w (Ok tt) mid Before → Steps way line (fuse_for life.cut (i + 1)) (step_of g (i + 1) its st) w (Ok tt) mid Behind
    steps_here steps = in_fuse (fuse_for life.cut (i + 1)) refl steps
      where
        goes_suc : (end : Live directory.Unit) (f : Burn) (m : W) → way.goes (step_of g (i + 1) its st) (went end) f w m → way.goes (step_of g (suc i) its st) (went end) f w m
        goes_suc end f m = subst (λ (k : ℕ). way.goes (step_of g k its st) (went end) f w m) (add-one i)

        in_fuse : (o : Option Burn) → fuse_for life.cut (i + 1) ≡ o → Steps way line o (step_of g (i + 1) its st) w (Ok tt) mid Before → Steps way line o (step_of g (i + 1) its st) w (Ok tt) mid Behind
        in_fuse None lit its = its
        in_fuse (Some f) lit (inl wants) = inl wants
        in_fuse (Some f) lit (inr (inl stops)) = inr (inl stops)
        in_fuse (Some f) lit (inr (inr (end, m, goes, inl wants))) = inr (inr (end, m, goes, inl wants))
        in_fuse (Some f) lit (inr (inr (end, m, goes, inr more))) =
            let led = stepped_at way leads g here i its is st at.at (reached f lit) end f w m (goes_suc end f m goes) in
            inr (inr (
              end,
              m,
              goes,
              inr (
                more.0,
                record {
                  view = more.1;
                  at = subst (λ (k : ℕ). IsAtEvent g k end) (sym (add-one i)) led.1;
                  before = subst (λ (k : ℕ). IsBefore g.life.cut (suc k)) (sym (add-one i)) (before_suc g.life.cut (suc i) (reached f lit));
                },
                more.2,
              ),
            ))
