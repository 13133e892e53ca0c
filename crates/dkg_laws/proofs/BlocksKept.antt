-- What openings, steps and blocks leave of what was recorded, wherever they end.
use Rattle.std.proofs.Common.{◌≡◌, ℕ, List, [], ◌∷◌, ◌++◌, None, refl, sym, ◌∙◌, ap, subst, append_assoc, append-nil}
use Rattle.std.specs.List.{AllByRecursion}
use Rattle.std.specs.FinMap.{get}
use Rattle.dkg_infos.specs.declared.entry.Entry.{Entry}
use Rattle.dkg_infos.specs.declared.entry.Entry.TheVariants.{Recorded, Ack, Offer}
use Rattle.dkg_store.specs.Acts.{Held, Operation, OnDisk, World, notes, plan}
use Rattle.dkg_store.specs.Noted.{noted_ack, noted_log, acks_in, logs_in}
use Rattle.dkg_store.specs.Pairs.{IsWhole}
use Rattle.dkg_store.proofs.Acts.{along_runs}
use Rattle.dkg_core.specs.Courses.{Deed, on_devices}
use Rattle.dkg_core.specs.Fixed.{Fixed}
use Rattle.dkg_core.specs.Live.{Live, Message, Mailed, Peer, Finalized, NextLog, ReleaseLog, EpochInfoOf, Feed, Over, Cancel, Work}
use Rattle.dkg_core.specs.Core.{step}
use Rattle.dkg_core.specs.Behind.{IsAside}
use Rattle.dkg_core.specs.Laws.{Law, Holds, PeerOperation, peer_law, IsDealtToItself, IsOffered, OtherEntry, OtherOperation, other_law, reach_of}
use Rattle.dkg_core.specs.Heard.{recovered_in}
use Rattle.dkg_core.specs.Enduring.{IsKeptFrom}
use Rattle.dkg_core.specs.Forms.{IsTakenIn}
use Rattle.dkg_core.specs.Transcripts.{deed_entries}
use Rattle.dkg_laws.specs.BlocksKept.{IsLineOfBlock, NodeStepsKeepNotes, NodeStepsKeepPlans, BlocksKeep, NodeStepsSpareTheirLogs}
use Rattle.dkg_core.proofs.Behind.{steps_run_behind}
use Rattle.dkg_laws.proofs.Enduring.{steps_keep}
use Rattle.dkg_core.proofs.Hearing.{heard}
use Rattle.dkg_core.proofs.Holding.{holds_as}
use Rattle.dkg_core.proofs.Lines.{lines_obey, all_lines}
use Rattle.dkg_core.proofs.Sparing.{sparing, SparesPlan, plan_spared}
use Rattle.dkg_journal.specs.Operations.{PutsPlan, ClearsPlan}
use Rattle.dkg_laws.proofs.Noting.{Still, Same, step_keeps, acks_keep, acks_keep_log, logs_keep, logs_keep_log, logs_stay}
use Rattle.dkg_core.proofs.Others.{others_acknowledge_nothing}
use Rattle.dkg_laws.proofs.Returning.{steps_give_back}
use Rattle.dkg_laws.proofs.Said.{runs_say}
use Rattle.dkg_core.proofs.Stepping.{not_included}

module _ {Dir : Type 0} (c : Fixed Dir) (st : Live Dir) where
  any_past : (past : List (Deed Dir)) (line : Entry) → OtherEntry c (IsDealtToItself c st) (IsOffered c st) past line → IsLineOfBlock c st line
  any_past past (Recorded epoch dealer public private) h = h
  any_past past (Ack epoch dealer ack) h = h
  any_past past (Offer epoch player public private) h = h
  any_past past line h = h

  aside_line : (line : Entry) → IsAside line → IsLineOfBlock c st line
  aside_line (Recorded epoch dealer public private) aside = absurd aside
  aside_line (Ack epoch dealer ack) aside = absurd aside
  aside_line (Offer epoch player public private) aside = absurd aside
  aside_line line aside = aside

  with_aside : (lines more : List Entry) → AllByRecursion (IsLineOfBlock c st) lines → AllByRecursion IsAside more → AllByRecursion (IsLineOfBlock c st) (lines ++ more)
  with_aside [] [] all aside = tt
  with_aside [] (line ∷ more) all aside = (aside_line line aside.0, with_aside [] more tt aside.1)
  with_aside (line ∷ lines) more all aside = (all.0, with_aside lines more all.1 aside)

-- THE PLAN

module _ {Dir : Type 0} (c : Fixed Dir) (st : Live Dir) where
  peer_spares_plan : (from : ℕ) (past : List (Deed Dir)) (op : Operation) → PeerOperation c st from past op → SparesPlan op
  peer_spares_plan from past (OnDisk (PutsPlan bytes)) h = absurd h
  peer_spares_plan from past (OnDisk ClearsPlan) h = absurd h
  peer_spares_plan from past op h = tt

  other_spares_plan : (most : ℕ) (past : List (Deed Dir)) (op : Operation) → OtherOperation c (IsDealtToItself c st) most past op → SparesPlan op
  other_spares_plan most past (OnDisk (PutsPlan bytes)) h = absurd h
  other_spares_plan most past (OnDisk ClearsPlan) h = absurd h
  other_spares_plan most past op h = tt

  abbrev plans : Law Dir (Live Dir)
  plans = sparing SparesPlan

  of_other : (message : Message Dir) → Holds (other_law c (IsDealtToItself c st) (IsOffered c st) (reach_of c message)) [] (step c message st) → Holds plans [] (step c message st)
  of_other message holds =
      holds_as (other_law c (IsDealtToItself c st) (IsOffered c st) (reach_of c message)) plans [] (step c message st) (λ past line h. tt) (other_spares_plan (reach_of c message)) (λ past end h. tt) holds

  step_plan : (message : Message Dir) → Holds plans [] (step c message st)
  step_plan (Finalized b) = of_other (Finalized b) (others_acknowledge_nothing c st (Finalized b) tt)
  step_plan (Mailed (Peer from bytes)) = holds_as (peer_law c st from) plans [] (step c (Mailed (Peer from bytes)) st) (λ past line h. tt) (peer_spares_plan from) (λ past end h. tt) (heard c st from bytes)
  step_plan (Mailed (NextLog request height)) = of_other (Mailed (NextLog request height)) (others_acknowledge_nothing c st (Mailed (NextLog request height)) tt)
  step_plan (Mailed (ReleaseLog height)) = of_other (Mailed (ReleaseLog height)) (others_acknowledge_nothing c st (Mailed (ReleaseLog height)) tt)
  step_plan (Mailed (EpochInfoOf request)) = of_other (Mailed (EpochInfoOf request)) (others_acknowledge_nothing c st (Mailed (EpochInfoOf request)) tt)
  step_plan (Mailed (Feed request b)) = of_other (Mailed (Feed request b)) (others_acknowledge_nothing c st (Mailed (Feed request b)) tt)
  step_plan (Mailed (Over request)) = of_other (Mailed (Over request)) (others_acknowledge_nothing c st (Mailed (Over request)) tt)
  step_plan (Mailed (Cancel request)) = of_other (Mailed (Cancel request)) (others_acknowledge_nothing c st (Mailed (Cancel request)) tt)
  step_plan (Mailed (Work handed)) = of_other (Mailed (Work handed)) (others_acknowledge_nothing c st (Mailed (Work handed)) tt)

pub node_steps_keep_plans : {Dir : Type 0} → NodeStepsKeepPlans Dir
node_steps_keep_plans c st message ended w new run =
    let behind = steps_run_behind c st message ended w new run in
    ap plan behind.held ∙ along_runs (λ (x : World). plan x.held ≡ plan w.held) (on_devices (step c message st)) behind.half w behind.mid (plan_spared (step c message st) w (step_plan c st message)) behind.run

-- NOTES

pub node_steps_keep_notes : {Dir : Type 0} → NodeStepsKeepNotes Dir
node_steps_keep_notes c st message ended most w new low agreed can run =
    let behind = steps_run_behind c st message ended w new run in
    let course = on_devices (step c message st) in
    let acks = acks_in (notes w.held) in
    let logs = logs_in (notes w.held) in (
      (λ key ack above got. ap (λ (h : Held). get (acks_in (notes h)) key) behind.held
          ∙ along_runs (λ (x : World). Still noted_ack most acks (notes x.held)) course behind.half w behind.mid
          (step_keeps c (Still noted_ack most acks) most (acks_keep most acks) st message w low can agreed (λ block is judged includes. acks_keep_log most acks block) (λ key ack above got. got)) behind.run key ack above got),
      (λ key log above got. ap (λ (h : Held). get (logs_in (notes h)) key) behind.held
          ∙ along_runs (λ (x : World). Still noted_log most logs (notes x.held)) course behind.half w behind.mid
          (step_keeps c (Still noted_log most logs) most (logs_keep most logs) st message w low can agreed (λ block is judged includes. logs_keep_log most logs block) (λ key log above got. got)) behind.run key log above got),
    )

pub blocks_keep : {Dir : Type 0} → BlocksKeep Dir
blocks_keep {Dir} c block st ended most w new low agreed can run =
    let message : Message Dir = Finalized block in
    let behind = steps_run_behind c st message ended w new run in
    let course = on_devices (step c message st) in
    let law = other_law c (IsDealtToItself c st) (IsOffered c st) (reach_of c message) in
    let front = lines_obey law [] (step c message st) behind.half w.out behind.mid.out (others_acknowledge_nothing c st message tt) (runs_say course behind.half w behind.mid behind.run) in
    record {
      lines = deed_entries front.deeds ++ behind.lines;
      out = behind.out ∙ ap (λ (ls : List Entry). ls ++ behind.lines) front.added ∙ append_assoc w.out (deed_entries front.deeds) behind.lines;
      said = with_aside c st (deed_entries front.deeds) behind.lines (all_lines law (IsLineOfBlock c st) (any_past c st) [] front.deeds front.obeys) behind.aside;
      whole = subst (λ (h : Held). IsWhole (notes h) h.secrets) (sym behind.held)
          (along_runs (IsKeptFrom (c.rules.ack_of c.me) most w.out) course behind.half w behind.mid
          (steps_keep c st message most w.out w low agreed can (record { whole = agreed.whole; added = []; out = sym (append-nil w.out); said = tt })) behind.run).whole;
      dealings = λ key pair above got. ap (λ (h : Held). get (recovered_in h) key) behind.held ∙ steps_give_back c st message behind.half most w behind.mid low agreed can behind.run key pair above got;
      acks = (node_steps_keep_notes c st message ended most w new low agreed can run).0;
      logs = (node_steps_keep_notes c st message ended most w new low agreed can run).1;
    }

pub node_steps_spare_their_logs : {Dir : Type 0} → NodeStepsSpareTheirLogs Dir
node_steps_spare_their_logs {Dir} c st message ended most w new form taken live low agreed can run =
    let behind = steps_run_behind c st message ended w new run in
    let logs = logs_in (notes w.held) in
    λ key above. ap (λ (h : Held). get (logs_in (notes h)) key) behind.held
    ∙ along_runs (λ (x : World). Same noted_log most logs (notes x.held)) (on_devices (step c message st)) behind.half w behind.mid
    (step_keeps c (Same noted_log most logs) most (logs_stay most logs) st message w low can agreed
    (λ block is judged includes. absurd (not_included c form st live None block (subst (λ (m : Message Dir). IsTakenIn c m st) is taken) judged includes)) (λ key above. refl)) behind.run key above
