-- What a fault of the node's own state blames is among what the devices give back, where memory has what they do.
use Rattle.std.proofs.Common.{◌≡◌, ◌⊎◌, inl, inr, refl, ℕ, ◌==◌, ◌&&◌, ◌^◌, Bool, true, false, List, Option, Some, None, Result, Ok, Err, sym, ap, subst, ◌∙◌, filter, nat_lt}
use Rattle.std.specs.FinMap as maps
use Rattle.std.specs.FinMap.{get, get-entries}
use Rattle.dkg_values.specs.Rising.{lookup}
use Rattle.dkg_ceremony.specs.Dealings.{dealing_of}
use Rattle.dkg_ceremony.specs.Deals.{deal_of}
use Rattle.dkg_ceremony.specs.RoundLaws as rounds
use Rattle.dkg_ceremony.specs.Schedule.{boundary}
use Rattle.dkg_ceremony.specs.declared.mode.Reveal.TheVariants.{V1}
use Rattle.dkg_ceremony.specs.declared.output.Output.{Output}
use Rattle.dkg_ceremony.specs.declared.round.RoundParts.{RoundParts as Round}
use Rattle.dkg_ceremony.specs.declared.round.RoundError.{RoundError}
use Rattle.std.specs.Prelude.{◌||◌, IfOk, IsSomeAnd, is_none, is_some, slice_get}
use Rattle.dkg_types.specs.BlockCodes.{info_of}
use Rattle.dkg_types.specs.Blocks.{Block}
use Rattle.dkg_infos.specs.declared.directory.Unit as directory
use Rattle.dkg_infos.specs.declared.fault.Fault.TheVariants.{LocalState}
use Rattle.dkg_infos.specs.declared.fault.LocalCause.TheVariants.{StoredDealing}
use Rattle.dkg_infos.specs.declared.info.EpochInfo.{EpochInfo}
use Rattle.dkg_script.specs.Blocks.{round_by}
use Rattle.dkg_store.specs.Acts.{Held}
use Rattle.dkg_store.specs.Pairs.{Pairs}
use Rattle.dkg_store.specs.Recorded.{Pair, first_refused, of_epoch}
use Rattle.dkg_ceremony.specs.declared.deal.DealError.{DealError}
use Rattle.dkg_core.specs.Fixed.{has, stand_in}
use Rattle.dkg_core.specs.Forms.{IsSetupFault, round_for}
use Rattle.dkg_core.specs.Endings.{validity}
use Rattle.dkg_core.specs.Heard.{recovered_in}
use Rattle.dkg_core.specs.Live.{Live, recorded_at}
use Rattle.dkg_core.specs.Logs.{logs_of}
use Rattle.dkg_core.specs.Setup.{may_deal, refused_in}
use Rattle.dkg_core.specs.Stepping.{OwnDiffers}
use Rattle.dkg_core.proofs.Sound.{first_of_three}
use Rattle.dkg_lives.specs.Blamed.{Draws, per_epoch}
use Rattle.dkg_promises.specs.Found.{IsBegunBy, IsCarriedShare, IsFirstRefusedIn, IsRefusedBy}
use Rattle.dkg_lives.specs.Given.{Lived, at_step, blocks_in}
use Rattle.dkg_lives.proofs.Former.{is_ceremony}
use Rattle.dkg_promises.proofs.Sharing.{carried_serves}

module _ (g : Lived) (taken : ℕ) (st : Live directory.Unit) (now : Held) (same : st.records.dealings ≡ maps.entries (recovered_in now)) where
  -- a stored dealing, by the block that the info stands in
  pub stored_found : (epoch : ℕ) (info : EpochInfo directory.Unit) (share : Option ℕ) (seed : List ℕ) (number dealer : ℕ) → IsSetupFault (at_step g taken) epoch info share seed st (LocalState (StoredDealing number dealer))
      → (at : ℕ) (b : Block directory.Unit) → slice_get (blocks_in g.script) at ≡ Some b → b.height ≡ boundary (per_epoch g.script) epoch → info_of b.payload ≡ Some info → IsFirstRefusedIn g.script (recovered_in now) number dealer
  unfolding at_step
  stored_found epoch info share seed number dealer why at b there begins carries =
      subst (λ (e : ℕ). IsFirstRefusedIn g.script (recovered_in now) e dealer) (sym why.0)
      (record { number = at; block = b; is = there; begins = begins; info = info; carries = carries; refused = (why.1.0, why.1.1, (round, why.1.2.1, refused)) })
    where
      round : Round
      round = why.1.2.0

      number_is : round.number ≡ epoch
      number_is = (is_ceremony g taken).round_has _ epoch _ _ _ _ _ round why.1.2.1

      refused : first_refused (dealing_of round g.script.config.me) (of_epoch epoch (recovered_in now)) ≡ Some dealer
      refused = ap (λ (e : ℕ). first_refused (dealing_of round g.script.config.me) (filter (λ (p : Pair). (p.0.0 == e) && nat_lt p.0.1 (2 ^ 32)) (maps.entries (recovered_in now)))) (sym number_is)
          ∙ ap (λ (ps : List Pair). first_refused (dealing_of round g.script.config.me) (filter (λ (p : Pair). (p.0.0 == round.number) && nat_lt p.0.1 (2 ^ 32)) ps)) (sym same)
          ∙ why.1.2.2.2

  -- this node's own
  pub own_found : (epoch : ℕ) (kept dealt : List ℕ) → OwnDiffers (at_step g taken) st epoch kept dealt → (private : ℕ) × (get (recovered_in now) (epoch, g.script.config.me) ≡ Some (kept, private))
  unfolding at_step
  own_found epoch kept dealt why = (
    why.private,
    get-entries (recovered_in now) (epoch, g.script.config.me)
        ∙ ap (λ (ps : List Pair). recorded_at ps epoch g.script.config.me) (sym same) ∙ ap (λ (e : ℕ). recorded_at st.records.dealings e g.script.config.me) why.of_round ∙ why.recorded,
  )

module _ (g : Lived) (taken : ℕ) (st : Live directory.Unit) (pairs : Pairs) (same : st.records.dealings ≡ maps.entries pairs) where
  -- .. and one that is refused as a request is read, by the block whose info draws the life's round
  pub asked_found : (round : Round) (dealer : ℕ) → IsBegunBy g.script round.number (λ its. its ≡ round) → refused_in (at_step g taken) round st ≡ Some dealer → IsFirstRefusedIn g.script pairs round.number dealer
  unfolding at_step
  asked_found round dealer drawn refused = record {
    number = drawn.number;
    block = drawn.block;
    is = drawn.is;
    begins = drawn.begins;
    info = drawn.info;
    carries = drawn.carries;
    refused = (
      (drawn.draws).0,
      (drawn.draws).1,
      ((drawn.draws).2.0, (drawn.draws).2.1, subst (λ (r : Round). first_refused (dealing_of r g.script.config.me) (of_epoch round.number pairs) ≡ Some dealer) (sym (drawn.draws).2.2) here),
    );
  }
    where
      here : first_refused (dealing_of round g.script.config.me) (of_epoch round.number pairs) ≡ Some dealer
      here = ap (λ (ps : List Pair). first_refused (dealing_of round g.script.config.me) (filter (λ (p : Pair). (p.0.0 == round.number) && nat_lt p.0.1 (2 ^ 32)) ps)) (sym same) ∙ refused

module _ (g : Lived) (taken : ℕ) (now : Held) where
  -- A share that is refused is stored, with its seed.
  module _ (epoch : ℕ) (info : EpochInfo directory.Unit) (share : Option ℕ) (seed : List ℕ) (of_epoch : info.epoch ≡ epoch) (seed_is : get now.secrets.seeds epoch ≡ Some seed)
      (shared : (its : ℕ) → share ≡ Some its → (get now.secrets.shares epoch ≡ Some its) ⊎ (stand_in.partial_public_of info.output g.script.config.me ≡ Some (stand_in.share_public_of its)))
      (round : Round) (why : DealError) (at : Live directory.Unit) (may : may_deal (at_step g taken) round share at ≡ true) where
    previous_is : round_by g.script epoch info ≡ Ok round → round.previous ≡ Some info.output
    previous_is drawn = of_answer (round_by g.script epoch info) (rounds.round_has g.script.config.namespace epoch (Some info.output) g.script.config.mode V1 info.output.players info.players) drawn
      where
        of_answer : (r : Result Round RoundError)
            → IfOk r (λ x. x ≡ record { namespace = g.script.config.namespace; number = epoch; previous = Some info.output; mode = g.script.config.mode; reveal = V1; dealers = info.output.players; players = info.players })
            → r ≡ Ok round → round.previous ≡ Some info.output
        of_answer (Ok x) so is = ap (λ (r : Round). r.previous) (sym (the_ok is) ∙ so)
          where
            the_ok : {x y : Round} → ◌≡◌ {A = Result Round RoundError} (Ok x) (Ok y) → x ≡ y
            the_ok e = cc
        of_answer (Err e) so is = absurd (let no : ◌≡◌ {A = Result Round RoundError} (Err e) (Ok round) = is in cc)

    dealer : has round.dealers g.script.config.me ≡ true
    unfolding at_step
    dealer = first_of_three (has round.dealers g.script.config.me) (is_some share || is_none round.previous) (is_none (lookup g.script.config.me (logs_of at round.number))) may

    -- one that the round carries on isn't refused
    held : round_by g.script epoch info ≡ Ok round → deal_of round g.script.config.me share seed ≡ Err why → get now.secrets.shares epoch ≡ share
    unfolding at_step
    held drawn deals = by_share share refl may
      where
        lacks : (m x : Bool) → (m && false && x) ≡ true → ⊥
        lacks true x e = let wrong : ◌≡◌ {A = Bool} false true = e in cc
        lacks false x e = let wrong : ◌≡◌ {A = Bool} false true = e in cc

        carried : (its : ℕ) → stand_in.partial_public_of info.output g.script.config.me ≡ Some (stand_in.share_public_of its) → IsCarriedShare g.script.config.me round its
        carried its fits = subst (λ (o : Option Output). IsSomeAnd o (λ output. stand_in.partial_public_of output g.script.config.me ≡ Some (stand_in.share_public_of its))) (sym (previous_is drawn)) fits

        by_share : (o : Option ℕ) → share ≡ o → may_deal (at_step g taken) round o at ≡ true → get now.secrets.shares epoch ≡ o
        by_share (Some its) is may = elim (shared its is) [
          | inl there ↦ there
          | inr fits ↦ absurd (carried_serves round g.script.config.me its seed why (carried its fits) (subst (λ (o : Option ℕ). deal_of round g.script.config.me o seed ≡ Err why) is deals))
        ]
        by_share None is may = absurd (lacks (has round.dealers g.script.config.me) (is_none (lookup g.script.config.me (logs_of at round.number)))
            (subst (λ (o : Option Output). (has round.dealers g.script.config.me && (is_some {T = ℕ} None || is_none o) && is_none (lookup g.script.config.me (logs_of at round.number))) ≡ true) (previous_is drawn) may))

    pub refused_drawn : validity (at_step g taken) info ≡ Ok tt → round_for (at_step g taken) epoch info ≡ Ok round → (at_step g taken).rules.deal_of round (at_step g taken).me share seed ≡ Err why
        → Draws g.script epoch info (IsRefusedBy g.script now.secrets epoch)
    unfolding at_step
    refused_drawn valid drawn deals =
        (of_epoch, valid, (round, drawn, (dealer, (seed, why, seed_is, subst (λ (o : Option ℕ). deal_of round g.script.config.me o seed ≡ Err why) (sym (held drawn deals)) deals))))

  -- .. by the block that the info stands in
  pub refused_found : (epoch : ℕ) (info : EpochInfo directory.Unit) (number : ℕ) → number ≡ epoch → Draws g.script epoch info (IsRefusedBy g.script now.secrets epoch)
      → (at : ℕ) (b : Block directory.Unit) → slice_get (blocks_in g.script) at ≡ Some b → b.height ≡ boundary (per_epoch g.script) epoch → info_of b.payload ≡ Some info
      → IsBegunBy g.script number (IsRefusedBy g.script now.secrets number)
  refused_found epoch info number is draws at b there begins carries =
      subst (λ (e : ℕ). IsBegunBy g.script e (IsRefusedBy g.script now.secrets e)) (sym is) (record { number = at; block = b; is = there; begins = begins; info = info; carries = carries; draws = draws })
