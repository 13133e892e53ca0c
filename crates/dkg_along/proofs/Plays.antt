-- How a life over many epochs plays: in the seat that the script says, over dealings that pass their check, and dealing below the midpoint.
use Rattle.std.proofs.Common.{◌≡◌, ℕ, ◌<◌, ◌^◌, List, Option, Some, None, Ok, Bool, true, arith, sym, ap, subst, ◌∙◌}
use Rattle.std.specs.Prelude.{nat_eq, nat_lt, if◌then◌else◌}
use Rattle.std.specs.FinMap.{get}
use Rattle.std.proofs.lemmas.Bool.Decides.{nat_tests}
use Rattle.dkg_values.specs.IndexLaws.{index_of-Contains}
use Rattle.dkg_values.specs.Rising.{has_key}
use Rattle.dkg_values.specs.RisingLaws.{has_key-to}
use Rattle.dkg_ceremony.specs.Dealings.{dealing_of}
use Rattle.dkg_ceremony.specs.Schedule.{epoch_of, midpoint, phase_at}
use Rattle.dkg_ceremony.specs.declared.phase.Phase.TheVariants.{Early, Midpoint, Late}
use Rattle.dkg_ceremony.specs.declared.round.RoundParts.{RoundParts as Round}
use Rattle.dkg_types.specs.BlockCodes.{info_of}
use Rattle.dkg_types.specs.Blocks.{Block}
use Rattle.dkg_infos.specs.declared.directory.Unit as directory
use Rattle.dkg_infos.specs.declared.entry.Restored.{Restored}
use Rattle.dkg_infos.specs.declared.info.EpochInfo.{EpochInfo}
use Rattle.std.specs.Prelude.{IsSomeAnd}
use Rattle.dkg_text.specs.declared.script.Life.{Life}
use Rattle.dkg_journal.specs.Names.{Files}
use Rattle.dkg_store.specs.Acts.{Held, notes}
use Rattle.dkg_store.specs.Noted.{logs_in}
use Rattle.dkg_script.specs.Setting.{Setting, me}
use Rattle.dkg_core.specs.Agreeing.{AreAgreed}
use Rattle.dkg_core.specs.Fixed.{Fixed}
use Rattle.dkg_core.specs.Forms.{IsLiveIn, IsNodeBegun, IsSeated, IsSetUpIn, seed_read, share_read, started}
use Rattle.dkg_core.specs.Heard.{recovered_in}
use Rattle.dkg_core.specs.Live.{Deals, Live, Plays, Records, awaited_height}
use Rattle.dkg_core.specs.Seen.{Seen}
use Rattle.dkg_core.specs.Setup.{Standing, Uncommitted}
use Rattle.dkg_core.specs.Endings.{first_block, stage_in}
use Rattle.dkg_lives.specs.Given.{Lived, at_step, lived}
use Rattle.dkg_along.proofs.Drawn.{HasRoundOf}
use Rattle.dkg_along.proofs.MarksAt.{GivesRecorded, KnowsMarks, lacks_none}
use Rattle.dkg_lives.proofs.Seats.{plays_so, valid_so}

some_is : {A : Type 0} {x y : A} → ◌≡◌ {A = Option A} (Some x) (Some y) → x ≡ y
some_is e = cc

not_there : {A : Type 0} (x : A) → ◌≡◌ {A = Option A} None (Some x) → ⊥
not_there x e = cc

-- BELOW THE MIDPOINT of the awaited epoch a life that takes part deals
pub deals_early : {Dir : Type 0} (c : Fixed Dir) (st : Live Dir) (round : Round) → IsLiveIn c st → st.participation.round ≡ Some round
    → awaited_height st < midpoint c.blocks_per_epoch (epoch_of c.blocks_per_epoch (awaited_height st)) → st.participation.stage ≡ Deals
deals_early c st round live is low = live.in_round round is ∙ early_of (midpoint c.blocks_per_epoch (epoch_of c.blocks_per_epoch (awaited_height st))) (awaited_height st) low
  where
    early_of : (middle height : ℕ) → height < middle → stage_in (phase_at middle height) ≡ Deals
    early_of middle height low =
        let is : nat_lt height middle ≡ true = grind (arith, nat_tests, low) in
        ap (λ (t : Bool). stage_in (if t then Early else (if nat_eq height middle then Midpoint else Late))) is

-- ITS SEAT: it plays where it is one of the round's players
abbrev pub PlaysWhere : Setting → Live directory.Unit → Type 0
PlaysWhere s st = (round : Round) → st.participation.round ≡ Some round → has_key (me s) round.players ≡ true → st.participation.seat ≡ Plays

-- WHAT IS GIVEN BACK of its round passes its check
abbrev pub ValidWhere : Setting → Held → Live directory.Unit → Type 0
ValidWhere s now st =
    (round : Round) (dealer : ℕ) (pair : List ℕ × ℕ) → st.participation.round ≡ Some round → st.participation.seat ≡ Plays → dealer < 2 ^ 32
    → get (recovered_in now) (round.number, dealer) ≡ Some pair → dealing_of round (me s) dealer pair.0 pair.1 ≡ Ok tt

-- the seat stays where the same life goes on
pub plays_on : (s : Setting) (st end : Live directory.Unit) → end.participation.round ≡ st.participation.round → end.participation.seat ≡ st.participation.seat → PlaysWhere s st → PlaysWhere s end
plays_on s st end round_is seat_is plays = λ round there key. seat_is ∙ plays round (sym round_is ∙ there) key

-- What the devices hold of an epoch: its recorded dealings, and logs that are known by them.
pub record HoldsKnown (s : Setting) (recorded : List Restored) (now : Held) (epoch : ℕ) : Type 0 where
  pub dealings : GivesRecorded recorded epoch (recovered_in now)
  pub logs : KnowsMarks s recorded epoch (logs_in (notes now))

module _ (s : Setting) (l : ℕ) (life : Life) (seen : Held → Seen) (files : Files) where
  abbrev g : Lived
  g = lived s.script l life seen files

  -- BEHIND A SETUP
  module _ (taken : ℕ) (standing : Standing) (info : EpochInfo directory.Unit) (share : Option ℕ) (seed : List ℕ) (st end : Live directory.Unit) (seated : IsSeated (at_step g taken) standing info share seed st end)
      (now : Held) (agreed : AreAgreed end.records now) where
    pub seated_plays : (recorded : List Restored) → HoldsKnown s recorded now (seated.round).number → HasRoundOf s end → PlaysWhere s end
    seated_plays recorded holds of_round = λ round there key.
        let same : seated.round ≡ round = some_is (sym seated.in_round ∙ there) in
        let its_key : has_key (me s) (seated.round).players ≡ true = subst (λ (r : Round). has_key (me s) r.players ≡ true) (sym same) key in
        plays_so g taken standing info share seed st end seated now agreed (index_of-Contains (me s) (seated.round).players (has_key-to (seated.round).players (me s) its_key))
        (lacks_none s (seated.round).number recorded (recovered_in now) (logs_in (notes now)) seated.round holds.dealings holds.logs (of_round seated.round seated.in_round))

    pub seated_valid : ValidWhere s now end
    seated_valid = λ round dealer pair there plays low gives.
        let same : seated.round ≡ round = some_is (sym seated.in_round ∙ there) in
        subst (λ (r : Round). dealing_of r (me s) dealer pair.0 pair.1 ≡ Ok tt) same
        (valid_so g taken standing info share seed st end seated now agreed plays dealer pair low (subst (λ (r : Round). get (recovered_in now) (r.number, dealer) ≡ Some pair) (sym same) gives))

  -- BEHIND AN OPENING
  module _ (read : Seen) (k : Held) (st : Live directory.Unit) (begun : IsNodeBegun (at_step g 0) read k st) (now : Held) (agreed : AreAgreed st.records now) where
    same_participation : st.participation ≡ (begun.before).participation
    same_participation = ap (λ (x : Live directory.Unit). x.participation) (begun.entered).same

    before_agreed : AreAgreed (begun.before).records now
    before_agreed = subst (λ (r : Records). AreAgreed r now) (ap (λ (x : Live directory.Unit). x.records) (begun.entered).same) agreed

    -- what it was seated by, if it takes part
    abbrev Seats : Type 0
    Seats = (info : EpochInfo directory.Unit) × IsSeated (at_step g 0) Uncommitted info (share_read (at_step g 0) info k) (seed_read (at_step g 0) info k) (started (at_step g 0) read) begun.before

    seats : (round : Round) → st.participation.round ≡ Some round → Seats
    seats round is = by_block (first_block (at_step g 0)) (begun.opened).set_up
      where
        by_info : (o : Option (EpochInfo directory.Unit))
            → IsSomeAnd o (λ info. IsSeated (at_step g 0) Uncommitted info (share_read (at_step g 0) info k) (seed_read (at_step g 0) info k) (started (at_step g 0) read) begun.before) → Seats
        by_info None none = absurd none
        by_info (Some info) seated = (info, seated)

        by_block : (o : Option (Block directory.Unit)) → IsSetUpIn (at_step g 0) read k begun.before o → Seats
        by_block None set_up = absurd (not_there round (sym set_up.0 ∙ sym (ap (λ p. p.round) same_participation) ∙ is))
        by_block (Some b) set_up = by_info (info_of b.payload) set_up

    pub begun_plays : (recorded : List Restored) → ((round : Round) → st.participation.round ≡ Some round → HoldsKnown s recorded now round.number) → HasRoundOf s st → PlaysWhere s st
    begun_plays recorded holds of_round = λ round there key.
        let its = seats round there in
        let in_round : st.participation.round ≡ Some (its.1).round = ap (λ p. p.round) same_participation ∙ (its.1).in_round in
        ap (λ p. p.seat) same_participation
        ∙ seated_plays 0 Uncommitted its.0 (share_read (at_step g 0) its.0 k) (seed_read (at_step g 0) its.0 k) (started (at_step g 0) read) begun.before its.1 now before_agreed recorded (holds (its.1).round in_round)
        (λ r is. of_round r (ap (λ p. p.round) same_participation ∙ is)) round (sym (ap (λ p. p.round) same_participation) ∙ there) key

    pub begun_valid : ValidWhere s now st
    begun_valid = λ round dealer pair there plays low gives.
        let its = seats round there in
        seated_valid 0 Uncommitted its.0 (share_read (at_step g 0) its.0 k) (seed_read (at_step g 0) its.0 k) (started (at_step g 0) read) begun.before its.1 now before_agreed
        round dealer pair (sym (ap (λ p. p.round) same_participation) ∙ there) (sym (ap (λ p. p.seat) same_participation) ∙ plays) low gives
