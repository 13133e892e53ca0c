-- A round that a life over many epochs takes part in has no more players than the limit; so what this node deals there fits a record.
use Rattle.std.proofs.Common.{◌≡◌, ◌⊎◌, inl, inr, ℕ, ◌≤◌, ◌^◌, Bool, true, false, List, length, Option, Some, None, Ok, Err, refl, sym, ap, subst, ◌∙◌, arith}
use Rattle.std.specs.Prelude.{◌==◌, IfOk, IsSomeAnd, Result, nat_lt, if◌then◌else◌}
use Rattle.std.proofs.lemmas.Bool.Decides.{nat_tests}
use Rattle.dkg_ceremony.specs.RoundLaws as rounds
use Rattle.dkg_ceremony.specs.Rounds.{round_of}
use Rattle.dkg_ceremony.specs.declared.mode.Mode.{Mode}
use Rattle.dkg_ceremony.specs.declared.mode.Reveal.{Reveal}
use Rattle.dkg_ceremony.specs.declared.output.Output.{Output}
use Rattle.dkg_ceremony.specs.declared.round.RoundParts.{RoundParts as Round}
use Rattle.dkg_ceremony.specs.declared.round.RoundError.{RoundError}
use Rattle.dkg_types.specs.Blocks.{Block}
use Rattle.dkg_types.specs.BlockCodes.{info_of}
use Rattle.dkg_infos.specs.Validation.{validation}
use Rattle.dkg_infos.specs.declared.directory.Unit as directory
use Rattle.dkg_infos.specs.declared.info.EpochInfo.{EpochInfo}
use Rattle.dkg_infos.specs.declared.participants.Participants.{Participants}
use Rattle.dkg_infos.specs.declared.participants.ParticipantsError.{ParticipantsError}
use Rattle.dkg_infos.specs.declared.participants.ParticipantsError.TheVariants.{EmptyDealers, EmptyPlayers, TooManyParticipants}
use Rattle.dkg_store.specs.Acts.{Held}
use Rattle.dkg_store.specs.Events.{IsEvent}
use Rattle.dkg_store.specs.declared.event.Event.TheVariants as events
use Rattle.dkg_core.specs.Forms.{IsNodeBegun, IsSeated, IsSetUpIn, seed_read, share_read, started}
use Rattle.dkg_core.specs.Live.{Dealer, Live, Message}
use Rattle.dkg_laws.specs.NodeThrough.{IsNodeThrough}
use Rattle.dkg_core.specs.Seen.{Seen}
use Rattle.dkg_core.specs.Setup.{Standing, Uncommitted}
use Rattle.dkg_core.specs.Through.{IsLiveThrough, unasked}
use Rattle.dkg_core.specs.Endings.{first_block}
use Rattle.dkg_lives.specs.Epochs.{IsLifeInForm, any_shares}
use Rattle.dkg_lives.specs.Given.{Lived, at_step}
use Rattle.dkg_lives.proofs.FitsOwn.{dealt_fits}
use Rattle.dkg_lives.proofs.Former.{form_at}
use Rattle.dkg_lives.proofs.NextLives.{GoesOn, TakesOver, next_so}

some_is : {A : Type 0} {x y : A} → ◌≡◌ {A = Option A} (Some x) (Some y) → x ≡ y
some_is e = cc

not_there : {A : Type 0} (x : A) → ◌≡◌ {A = Option A} None (Some x) → ⊥
not_there x e = cc

-- VALID PARTICIPANTS are within the limit

past : (t : Bool) (e : ParticipantsError) (rest : Result (Unit {0}) ParticipantsError) → (if t then Err e else rest) ≡ Ok tt → (t ≡ false) × (rest ≡ Ok tt)
past true e rest is = absurd (let no : ◌≡◌ {A = Result (Unit {0}) ParticipantsError} (Err e) (Ok tt) = is in cc)
past false e rest is = (refl, is)

within : (p : Participants) (max : ℕ) (previous : Option Output) (round : ℕ) → validation p max previous round ≡ Ok tt → length p.players ≤ max
unfolding validation
within p max previous round is =
    let a = past (length p.dealers == 0) EmptyDealers _ is in
    let b = past (length p.players == 0) EmptyPlayers _ a.1 in
    let c = past (nat_lt max (length p.dealers)) (TooManyParticipants (length p.dealers) max) _ b.1 in
    let d = past (nat_lt max (length p.players)) (TooManyParticipants (length p.players) max) _ c.1 in
    low max (length p.players) d.0
  where
    low : (a b : ℕ) → nat_lt a b ≡ false → b ≤ a
    low a b test = grind (arith, nat_tests)

players_are : (namespace : List ℕ) (number : ℕ) (previous : Option Output) (mode : Mode) (reveal : Reveal) (dealers players : List ℕ) (round : Round)
    → round_of namespace number previous mode reveal dealers players ≡ Ok round → round.players ≡ players
players_are namespace number previous mode reveal dealers players round made =
    ap (λ (r : Round). r.players)
    (of_answer (round_of namespace number previous mode reveal dealers players) (rounds.round_has namespace number previous mode reveal dealers players) made)
  where
    Made : Round → Type 0
    Made r = r ≡ record { namespace = namespace; number = number; previous = previous; mode = mode; reveal = reveal; dealers = dealers; players = players }

    of_answer : (r : Result Round RoundError) → IfOk r Made → r ≡ Ok round → Made round
    of_answer (Ok x) so is = subst Made (let same : x ≡ round = cc in same) so
    of_answer (Err e) so is = absurd (let no : ◌≡◌ {A = Result Round RoundError} (Err e) (Ok round) = is in cc)

-- no more players than a script may have
abbrev pub HasFew : Live directory.Unit → Type 0
HasFew st = (round : Round) → st.participation.round ≡ Some round → length round.players ≤ 2 ^ 30

module _ (g : Lived) (here : IsLifeInForm g) where
  pub seated_few : (taken : ℕ) (standing : Standing) (info : EpochInfo directory.Unit) (share : Option ℕ) (seed : List ℕ) (st end : Live directory.Unit) → IsSeated (at_step g taken) standing info share seed st end → HasFew end
  unfolding at_step
  seated_few taken standing info share seed st end seated round is =
      let same : seated.round ≡ round = some_is (sym seated.in_round ∙ is) in
      let players : (seated.round).players ≡ info.players = players_are g.script.config.namespace st.participation.epoch (Some info.output) g.script.config.mode _ info.output.players info.players seated.round seated.drawn in
      subst (λ (r : Round). length r.players ≤ 2 ^ 30) same (low _ _ (ap length players) (within _ _ (Some info.output) info.epoch seated.valid) here.form.in_bound)
    where
      low : (xs ys : ℕ) {max : ℕ} → xs ≡ ys → ys ≤ max → max ≤ 2 ^ 30 → xs ≤ 2 ^ 30
      low xs ys is few high = omega (arith, is, few, high)

  pub begun_few : (read : Seen) (k : Held) (st : Live directory.Unit) → IsNodeBegun (at_step g 0) read k st → HasFew st
  begun_few read k st begun round is = by_block (first_block (at_step g 0)) (begun.opened).set_up round (sym (ap (λ (x : Live directory.Unit). x.participation.round) (begun.entered).same) ∙ is)
    where
      by_info : (o : Option (EpochInfo directory.Unit))
          → IsSomeAnd o (λ info. IsSeated (at_step g 0) Uncommitted info (share_read (at_step g 0) info k) (seed_read (at_step g 0) info k) (started (at_step g 0) read) begun.before) → HasFew begun.before
      by_info None none = absurd none
      by_info (Some info) seated = seated_few 0 Uncommitted info (share_read (at_step g 0) info k) (seed_read (at_step g 0) info k) (started (at_step g 0) read) begun.before seated

      by_block : (o : Option (Block directory.Unit)) → IsSetUpIn (at_step g 0) read k begun.before o → HasFew begun.before
      by_block None set_up = λ round there. absurd (not_there round (sym set_up.0 ∙ there))
      by_block (Some b) set_up = by_info (info_of b.payload) set_up

  pub next_few : (taken : ℕ) (st end : Live directory.Unit) (message : Message directory.Unit) (devices left : Option Held) → IsLiveThrough (at_step g taken) any_shares st
      → IsNodeThrough (at_step g taken) any_shares st message devices end left → HasFew st → HasFew end
  next_few taken st end message devices left live through few = λ round there. either (next_so (at_step g taken) any_shares st message devices through.mid left (form_at g here taken) live through.next)
      round (sym (ap (λ (x : Live directory.Unit). x.participation.round) through.same) ∙ there)
    where
      either : GoesOn (at_step g taken) st message through.mid ⊎ TakesOver (at_step g taken) any_shares st message devices through.mid left → HasFew through.mid
      either (inl goes) = λ round there. few round (sym (goes.same).round ∙ there)
      either (inr over) = seated_few taken _ _ _ _ _ (unasked through.mid) (over.taken).seated

  -- what this node deals fits a record
  pub own_fits : (taken : ℕ) (st : Live directory.Unit) → IsLiveThrough (at_step g taken) any_shares st → HasFew st → (dealer : Dealer) → st.participation.dealer ≡ Some dealer → IsEvent (events.Dealing (at_step g taken).me dealer.public)
  unfolding at_step
  own_fits taken st live few dealer is =
      let mine = (live.stands).mine dealer is in
      record { one = here.form.own; other = dealt_fits mine.0 g.script.config.me mine.2.share mine.2.seed dealer.public dealer.privates (few mine.0 mine.1) mine.2.dealt }
