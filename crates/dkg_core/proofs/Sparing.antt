-- What openings and steps leave of the plan, and which laws of operations alone a peer's message keeps.
use Rattle.std.proofs.Common.{◌≡◌, inl, inr, ℕ, false, List, [], Option, Some, None, Ok, refl, sym, ◌∙◌, ap, subst}
use Rattle.std.specs.Prelude.{◌+◌, if◌then◌else◌, Result, Err, is_some}
use Rattle.std.specs.Option.{option_map_or}
use Rattle.dkg_values.specs.Codec.{whole as all_of}
use Rattle.dkg_values.specs.Rising.{lookup}
use Rattle.dkg_values.specs.declared.codec.CodecError.{CodecError}
use Rattle.dkg_ceremony.specs.declared.ceremony.AckError.{AckError}
use Rattle.dkg_ceremony.specs.declared.ceremony.DealingError.{DealingError}
use Rattle.dkg_ceremony.specs.declared.round.RoundParts.{RoundParts as Round}
use Rattle.dkg_ceremony.specs.Schedule.{epoch_of}
use Rattle.dkg_journal.specs.Operations as of_journal
use Rattle.dkg_journal.specs.Operations.{Bars, Opens, Appends, Prunes, PutsPlan, ClearsPlan, Journaled, InPart}
use Rattle.dkg_infos.specs.declared.fault.Fault.{Fault}
use Rattle.dkg_infos.specs.declared.fault.Fault.TheVariants.{HeightRange}
use Rattle.dkg_types.specs.declared.message.Message.{Message as Channel}
use Rattle.dkg_types.specs.declared.message.Message.TheVariants.{Dealer as ADealing, Ack as AnAck}
use Rattle.dkg_types.specs.MessageCodes.{message_at}
use Rattle.dkg_store.specs.Acts.{Held, Operation, OnDisk, Changes, World, does, Cause, Tears, IsDiskLeft, plan}
use Rattle.dkg_store.specs.Events.{event_spelling}
use Rattle.dkg_store.specs.declared.event.Event.TheVariants as events
use Rattle.dkg_secrets.specs.declared.secrets.SecretOp.TheVariants.{PutDealing}
use Rattle.dkg_core.specs.Courses.{Course, Goes, Stops, Deed, Throughout}
use Rattle.dkg_core.specs.Sources.{startup}
use Rattle.dkg_core.specs.Fixed.{Fixed, Material, start}
use Rattle.dkg_core.specs.Live.{Live, Dealer, Seat, Plays, Watches, Stage, Deals, Includes, Follows, Ends, Mailed, Peer, awaited_height, recorded_at}
use Rattle.dkg_core.specs.Setup as s
use Rattle.dkg_core.specs.Dealing as d
use Rattle.dkg_core.specs.Plans as p
use Rattle.dkg_core.specs.Core.{opening, step, opens_in, begun_life}
use Rattle.dkg_core.specs.Laws.{Law, Holds, LawKeeps, Anything, PrunesAtMost, prune_law}
use Rattle.dkg_core.proofs.Holding.{holds_as, holds_if, holds_option, along}
use Rattle.dkg_core.proofs.Pruning.{setups_prune}

-- a law of operations alone
abbrev pub sparing : {Dir S : Type 0} → (Operation → Type 0) → Law Dir S
sparing Spares = record { line = Anything; operation = λ past op. Spares op; end = Anything }

-- what each operation on the disk leaves as it was, done or in part, holds along a course of such operations
module _ {A : Type 0} (Spares : Operation → Type 0) (of : Journaled → A) (kept : (op : of_journal.JournalOperation) (j : Journaled) → Spares (OnDisk op) → of (of_journal.after_operation op j) ≡ of j)
    (in_part : (op : of_journal.JournalOperation) (j new : Journaled) → Spares (OnDisk op) → InPart op j new → of new ≡ of j) where
  abbrev pub Stays : Held → World → Type 0
  Stays h w = of w.held.journaled ≡ of h.journaled

  left : (op : of_journal.JournalOperation) (j new : Journaled) → Spares (OnDisk op) → IsDiskLeft op j new → of new ≡ of j
  left op j new spares (inl is) = ap of is
  left op j new spares (inr (inl is)) = ap of is ∙ kept op j spares
  left op j new spares (inr (inr part)) = in_part op j new spares part

  done : (op : Operation) (w : World) → Spares op → of (does w op).held.journaled ≡ of w.held.journaled
  done (OnDisk op) w spares = kept op w.held.journaled spares
  done (Changes op) w spares = refl

  torn : (cause : Cause) (op : Operation) (w new : World) → Spares op → Tears cause op w new → of new.held.journaled ≡ of w.held.journaled
  torn cause (OnDisk op) w new spares tears = left op w.held.journaled new.held.journaled spares tears.torn.1
  torn cause (Changes op) w new spares tears = ap of tears.torn.0

  keeps : {Dir S : Type 0} (h : Held) → LawKeeps (sparing {Dir = Dir} {S = S} Spares) (Stays h)
  keeps h = record {
    said = λ past w line law stays. stays;
    done = λ past w op law stays. done op w law ∙ stays;
    torn = λ past cause w new op law stays tears. torn cause op w new law tears ∙ stays;
  }

  pub spared : {Dir F S : Type 0} (course : Course Dir F S) (w : World) → Holds (sparing Spares) [] course → Throughout (Stays w.held) course w
  spared course w holds = along (sparing Spares) (Stays w.held) (keeps w.held) [] course w holds refl

-- THE PLAN

abbrev pub SparesPlan : Operation → Type 0
SparesPlan (OnDisk (PutsPlan bytes)) = ⊥
SparesPlan (OnDisk ClearsPlan) = ⊥
SparesPlan op = Unit {0}

plan_kept : (op : of_journal.JournalOperation) (j : Journaled) → SparesPlan (OnDisk op) → (of_journal.after_operation op j).plan ≡ j.plan
plan_kept Bars j spares = refl
plan_kept (Opens calls) j spares = refl
plan_kept (Appends e) j spares = refl
plan_kept (Prunes min) j spares = refl
plan_kept (PutsPlan bytes) j spares = absurd spares
plan_kept ClearsPlan j spares = absurd spares

plan_in_part : (op : of_journal.JournalOperation) (j new : Journaled) → SparesPlan (OnDisk op) → InPart op j new → new.plan ≡ j.plan
plan_in_part Bars j new spares part = absurd part
plan_in_part (Opens calls) j new spares part = part.1
plan_in_part (Appends e) j new spares part = ap (λ (x : Journaled). x.plan) part
plan_in_part (Prunes min) j new spares part = ap (λ (x : Journaled). x.plan) part.2
plan_in_part (PutsPlan bytes) j new spares part = absurd part
plan_in_part ClearsPlan j new spares part = absurd part

pub plan_spared : {Dir F S : Type 0} (course : Course Dir F S) (w : World) → Holds (sparing SparesPlan) [] course → Throughout (λ new. plan new.held ≡ plan w.held) course w
plan_spared course w holds = spared SparesPlan (λ j. j.plan) plan_kept plan_in_part course w holds

-- AN OPENING

prunes_spare : {Dir : Type 0} (most : ℕ) (past : List (Deed Dir)) (op : Operation) → PrunesAtMost most past op → SparesPlan op
prunes_spare most past (OnDisk Bars) h = tt
prunes_spare most past (OnDisk (Opens calls)) h = tt
prunes_spare most past (OnDisk (Appends e)) h = tt
prunes_spare most past (OnDisk (Prunes min)) h = tt
prunes_spare most past (OnDisk (PutsPlan bytes)) h = absurd h
prunes_spare most past (OnDisk ClearsPlan) h = absurd h
prunes_spare most past (Changes op) h = tt

module _ {Dir : Type 0} (c : Fixed Dir) (reshare : c.oneshot ≡ None) (bare : c.material ≡ None) (unplanned : (h : Held) → (c.seen h).plan ≡ None) where
  abbrev plans : Law Dir (Live Dir)
  plans = sparing SparesPlan

  sets_up : (past : List (Deed Dir)) (st : Live Dir) → Holds plans past (s.setup c None st)
  sets_up past st =
      let epoch = epoch_of c.blocks_per_epoch (awaited_height st) in
      holds_as (prune_law epoch) plans past (s.setup c None st) (λ past line h. tt) (prunes_spare _) (λ past end h. tt) (setups_prune c None st past)

  abbrev next : Live Dir → Option (Material Dir) → Course Dir Fault (Live Dir)
  next st found = p.stays_in_range c (p.resolves_plan c (p.starts_from c st) found)

  goes : (past : List (Deed Dir)) (st : Live Dir) → Holds plans past (next st None)
  goes past st =
      holds_if plans past (option_map_or (λ t. s.is_past_range c (t.height + 1)) (start c) false) (Stops HeightRange) (p.starts_from c st None)
      (λ e. tt) (λ e. sets_up past (record st { tip = startup c.source.anchor None }))

  opens : (past : List (Deed Dir)) (st : Live Dir) → Holds plans past (opens_in c c.oneshot st)
  opens past st = subst (λ (o : _). Holds plans past (opens_in c o st)) (sym reshare)
      (subst (λ (m : Option (Material Dir)). Holds plans past (p.finds_material c m (next st))) (sym bare)
      (λ k. subst (λ (found : Option (List ℕ)). Holds plans past (p.reads_plan c found (next st))) (sym (unplanned k)) (goes past st)))

  pub opening_plan : Holds plans [] (opening c)
  opening_plan = (tt, (tt, λ h. (tt, opens _ (begun_life (c.seen h)))))

-- A PEER'S MESSAGE puts a private half, and appends the record of a dealing or of an acknowledgement of its sender

module _ {Dir : Type 0} (c : Fixed Dir) (Spares : Operation → Type 0) (from : ℕ) (bytes : List ℕ)
    (puts : (epoch dealer private : ℕ) → Spares (Changes (PutDealing epoch dealer private)))
    (notes_dealing : (epoch : ℕ) (public : List ℕ) (private : ℕ) → all_of (message_at c.limit bytes) ≡ Ok (ADealing public private) → Spares (OnDisk (Appends (epoch, event_spelling (events.Dealing from public)))))
    (notes_ack : (epoch : ℕ) (ack : List ℕ) → all_of (message_at c.limit bytes) ≡ Ok (AnAck ack) → Spares (OnDisk (Appends (epoch, event_spelling (events.Ack from ack))))) where
  abbrev law : Law Dir (Live Dir)
  law = sparing Spares

  module _ (st : Live Dir) (round : Round) (past : List (Deed Dir)) where
    checked : (public : List ℕ) (private : ℕ) (check : Result (Unit {0}) DealingError) → all_of (message_at c.limit bytes) ≡ Ok (ADealing public private)
        → Holds law past (d.checked_dealing c round from public private st check)
    checked public private (Err e) is = (tt, tt)
    checked public private (Ok passed) is = (puts round.number from private, (notes_dealing round.number public private is, (tt, (tt, tt))))

    of_recorded : (public : List ℕ) (private : ℕ) (found : Option (List ℕ × ℕ)) → all_of (message_at c.limit bytes) ≡ Ok (ADealing public private)
        → Holds law past (d.hears_dealing_in c round from public private st found)
    of_recorded public private (Some kept) is = (tt, tt)
    of_recorded public private None is = checked public private (c.rules.dealing_of round c.me from public private) is

    a_dealing : (public : List ℕ) (private : ℕ) (seat : Seat) → all_of (message_at c.limit bytes) ≡ Ok (ADealing public private) → Holds law past (d.seats_dealing_in c round from public private st seat)
    a_dealing public private Plays is = of_recorded public private (recorded_at st.records.dealings round.number from) is
    a_dealing public private Watches is = (tt, tt)

    taken : (its : Dealer) (ack : List ℕ) → all_of (message_at c.limit bytes) ≡ Ok (AnAck ack) → Holds law past (d.takes_ack round.number its from ack st)
    taken its ack is =
        let recorded : Course Dir Fault (Live Dir) = d.appends round.number (events.Ack from ack) (Goes (d.counts its from ack (d.with_ack round.number from ack st))) in
        holds_if law past (is_some (lookup from its.acks)) (Goes st) (if is_some (recorded_at st.records.acks round.number from) then Goes (d.counts its from ack st) else recorded) (λ e. tt)
        (λ e. holds_if law past (is_some (recorded_at st.records.acks round.number from)) (Goes (d.counts its from ack st)) recorded (λ e. tt) (λ e. (notes_ack round.number ack is, tt)))

    checked_ack : (its : Dealer) (ack : List ℕ) (check : Result (Unit {0}) AckError) → all_of (message_at c.limit bytes) ≡ Ok (AnAck ack) → Holds law past (d.checked_ack round its from ack st check)
    checked_ack its ack (Err e) is = (tt, tt)
    checked_ack its ack (Ok passed) is = taken its ack is

    an_ack : (dealer : Option Dealer) (ack : List ℕ) → all_of (message_at c.limit bytes) ≡ Ok (AnAck ack) → Holds law past (d.hears_ack c round dealer from ack st)
    an_ack None ack is = (tt, tt)
    an_ack (Some its) ack is = checked_ack its ack (c.rules.check_ack_of round c.me its.public from ack) is

    reads : (read : Result Channel CodecError) → all_of (message_at c.limit bytes) ≡ read → Holds law past (d.reads c round from st read)
    reads (Err e) is = (tt, tt)
    reads (Ok (ADealing public private)) is = a_dealing public private st.participation.seat is
    reads (Ok (AnAck ack)) is = an_ack st.participation.dealer ack is

  hears : (st : Live Dir) (stage : Stage) → Holds law [] (d.hears_peer_in c from bytes st stage)
  hears st Deals =
      holds_option law [] st.participation.round (λ round. d.reads c round from st (all_of (message_at c.limit bytes))) (Goes st)
      (λ round e. reads st round [] (all_of (message_at c.limit bytes)) refl) (λ e. tt)
  hears st Includes = tt
  hears st Follows = tt
  hears st Ends = tt

  pub peer_spares : (st : Live Dir) → Holds law [] (step c (Mailed (Peer from bytes)) st)
  peer_spares st = hears st st.participation.stage
