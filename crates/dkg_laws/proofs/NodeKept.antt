-- What a node's opening and its steps leave on the devices: what the reshare half's course leaves, behind which none is touched.
use Rattle.std.proofs.Common.{◌≡◌, inl, inr, ℕ, List, [], ◌∷◌, ◌++◌, map, Option, refl, sym, ◌∙◌, ap, subst, append_assoc, append-nil}
use Rattle.std.specs.List.{AllByRecursion}
use Rattle.std.specs.FinMap.{get}
use Rattle.dkg_ceremony.specs.Schedule.{epoch_of}
use Rattle.dkg_ceremony.specs.declared.round.RoundParts.{RoundParts as Round}
use Rattle.dkg_infos.specs.declared.entry.Entry.{Entry}
use Rattle.dkg_infos.specs.declared.entry.Entry.TheVariants.{Opened, Recorded, Ack}
use Rattle.dkg_infos.specs.declared.entry.Restored.{Restored}
use Rattle.dkg_infos.specs.declared.fault.Fault.{Fault}
use Rattle.dkg_infos.specs.declared.info.EpochInfo.{EpochInfo}
use Rattle.dkg_journal.specs.Operations.{Bars, Opens}
use Rattle.dkg_store.specs.Acts.{Held, World, OnDisk, says, does, Cause, Ended, went, stopped, broken, notes}
use Rattle.dkg_store.specs.Pairs.{Pairs, IsWhole}
use Rattle.dkg_store.specs.Recorded.{Pair, restored_of, restored_list}
use Rattle.dkg_store.proofs.Acts.{along_runs}
use Rattle.dkg_core.specs.Courses.{Course, on_devices, Deed, EndsSo}
use Rattle.dkg_core.specs.Behind.{EndsBehind, IfEarly, IsAside}
use Rattle.dkg_core.specs.Seen.{Seen}
use Rattle.dkg_core.specs.Fixed.{Fixed}
use Rattle.dkg_core.specs.Live.{Live, NodeStop, Faulted, Message, Mailed, Peer, awaited_height}
use Rattle.dkg_core.specs.Setup.{setup}
use Rattle.dkg_core.specs.Core.{opening, step, opens_in, begun_life}
use Rattle.dkg_core.specs.Laws.{Law, Holds, Anything, IsSilent, prune_law}
use Rattle.dkg_core.specs.Meant.{ReadsRecords}
use Rattle.dkg_core.specs.Heard.{recovered_in, KeepsFrom, IsSaid, MayHave, IsKeptAt}
use Rattle.dkg_core.specs.Agreeing.{AreAgreed}
use Rattle.dkg_core.specs.Enduring.{IsKeptFrom}
use Rattle.dkg_core.specs.Transcripts.{deed_entries}
use Rattle.dkg_laws.specs.NodeKept.{BeginsRestored, NodeOpeningsRestore, NodeOpeningsKeep, NodeOpeningsAgree, NodePeersAreKept, NodeStepsAgree, NodeStepsGiveBack}
use Rattle.dkg_core.proofs.Agreeing.{openings_agree, steps_agree}
use Rattle.dkg_core.proofs.Behind.{openings_run_behind, steps_run_behind}
use Rattle.dkg_core.proofs.Holding.{holds_as}
use Rattle.dkg_core.proofs.Keeping.{kept}
use Rattle.dkg_core.proofs.Lasting.{openings_keep}
use Rattle.dkg_core.proofs.Lines.{lines_obey, all_lines}
use Rattle.dkg_core.proofs.Opening.{Reaches, opens}
use Rattle.dkg_core.proofs.Pruning.{setups_prune}
use Rattle.dkg_laws.proofs.Reopening.{openings_endure}
use Rattle.dkg_laws.proofs.Returning.{steps_give_back}
use Rattle.dkg_laws.proofs.Said.{runs_say}

all_of_both : {A : Type 0} (P : A → Type 0) (xs ys : List A) → AllByRecursion P xs → AllByRecursion P ys → AllByRecursion P (xs ++ ys)
all_of_both P [] ys all more = more
all_of_both P (x ∷ xs) ys all more = (all.0, all_of_both P xs ys all.1 more)

all_still : {A : Type 0} (P R : A → Type 0) → ((a : A) → P a → R a) → (xs : List A) → AllByRecursion P xs → AllByRecursion R xs
all_still P R so [] all = tt
all_still P R so (x ∷ xs) all = (so x all.0, all_still P R so xs all.1)

-- WHAT AN OPENING LISTS

silent_aside : {Dir : Type 0} (past : List (Deed Dir)) (line : Entry) → IsSilent past line → IsAside line
silent_aside past (Recorded epoch dealer public private) h = absurd h
silent_aside past (Ack epoch dealer ack) h = absurd h
silent_aside past line h = h

abbrev aside_law : {Dir S : Type 0} → Law Dir S
aside_law = record { line = λ past line. IsAside line; operation = Anything; end = Anything }

module _ {Dir : Type 0} (c : Fixed Dir) where
  sets_up : (past : List (Deed Dir)) (material : Option (EpochInfo Dir × ℕ)) (st : Live Dir) → Holds aside_law past (setup c material st)
  sets_up past material st =
      holds_as (prune_law (epoch_of c.blocks_per_epoch (awaited_height st))) aside_law past (setup c material st) silent_aside (λ past op h. tt) (λ past st h. tt) (setups_prune c material st past)

  reaching : Reaches c aside_law (λ height. Unit {0})
  reaching = record {
    by_anchor = tt;
    by_floor = λ digest b is. tt;
    lines = silent_aside;
    operations = λ past op h. tt;
    ends = λ past st. tt;
    sets_up = λ past material st within. sets_up past material st;
  }

  module _ (reads : ReadsRecords c.seen) (w : World) where
    abbrev opened : World
    opened = does (does w (OnDisk Bars)) (OnDisk (Opens c.opening_calls))

    abbrev seen : Seen
    seen = c.seen opened.held

    abbrev first_line : Entry
    first_line = Opened c.life (map restored_of seen.dealings)

    abbrev Lists : Ended Fault (Live Dir) → World → Type 0
    Lists ended new = (lines : List Entry) × (new.out ≡ w.out ++ lines) × BeginsRestored c.life (restored_list (recovered_in w.held)) lines ended

    -- behind the first line
    listed : (ended : Ended Fault (Live Dir)) (new : World) → EndsSo (opens_in c c.oneshot (begun_life seen)) ended (says opened first_line) new → Lists ended new
    listed ended new run =
        let rest : Course Dir Fault (Live Dir) = opens_in c c.oneshot (begun_life seen) in
        let said = runs_say (on_devices rest) ended (says opened first_line) new run in
        let front = lines_obey aside_law [] rest ended (says opened first_line).out new.out (opens c aside_law (λ height. Unit {0}) reaching [] c.oneshot (begun_life seen)) said in (
          first_line ∷ deed_entries front.deeds,
          front.added ∙ append_assoc w.out (first_line ∷ []) (deed_entries front.deeds),
          (
            refl,
            ap (λ (dealings : List Pair). map restored_of dealings) (reads.dealings opened.held),
            all_lines {S = Live Dir} aside_law IsAside (λ past line h. h) [] front.deeds front.obeys,
          ),
        )

    -- nothing was said
    unlisted : (cause : Cause) (new : World) → new.out ≡ w.out → Lists (broken cause) new
    unlisted cause new same = ([], same ∙ sym (append-nil w.out), tt)

    lists : (ended : Ended Fault (Live Dir)) (new : World) → EndsSo (opening c) ended w new → Lists ended new
    lists (went end) new run = listed (went end) new run
    lists (stopped fault) new run = listed (stopped fault) new run
    lists (broken cause) new (inl tears) = unlisted cause new tears.same
    lists (broken cause) new (inr (inl tears)) = unlisted cause new tears.same
    lists (broken cause) new (inr (inr (inl none))) = unlisted cause new (ap (λ (x : World). x.out) none.1)
    lists (broken cause) new (inr (inr (inr run))) = listed (broken cause) new run

-- with the lines behind it
with_more : {Dir : Type 0} (life : ℕ) (restored : List Restored) (lines rest : List Entry) (half : Ended Fault (Live Dir)) (ended : Ended NodeStop (Live Dir))
    → BeginsRestored life restored lines half → EndsBehind half ended → IfEarly half (rest ≡ []) → AllByRecursion IsAside rest → BeginsRestored life restored (lines ++ rest) ended
with_more life restored (Opened its list ∷ lines) rest half ended begins ends early aside = (begins.0, begins.1, all_of_both IsAside lines rest begins.2 aside)
with_more life restored [] rest (broken cause) ended begins ends early aside =
    subst (λ (ls : List Entry). BeginsRestored life restored ls ended) (sym early) (subst (BeginsRestored life restored []) (sym ends) tt)
with_more life restored lines rest half ended begins ends early aside = absurd begins

pub node_openings_restore : {Dir : Type 0} → NodeOpeningsRestore Dir
node_openings_restore c ended w new reads run =
    let b = openings_run_behind c ended w new run in
    let first = lists c reads w b.half b.mid b.run in (
      first.0 ++ b.lines,
      b.out ∙ ap (λ (ls : List Entry). ls ++ b.lines) first.1 ∙ append_assoc w.out first.0 b.lines,
      with_more c.life (restored_list (recovered_in w.held)) first.0 b.lines b.half ended first.2 b.ends b.silent b.aside,
    )

-- WHAT IT KEEPS

pub node_openings_keep : {Dir : Type 0} → NodeOpeningsKeep Dir
node_openings_keep c ended most w new starts run =
    let b = openings_run_behind c ended w new run in (
      (λ key above. ap (λ (h : Held). get (recovered_in h) key) b.held
          ∙ along_runs (KeepsFrom most w.held) (on_devices (opening c)) b.half w b.mid (openings_keep c most w starts) b.run key above),
      (λ whole. subst (λ (h : Held). IsWhole (notes h) h.secrets) (sym b.held)
          (along_runs (IsKeptFrom (c.rules.ack_of c.me) most w.out) (on_devices (opening c)) b.half w b.mid
          (openings_endure c (c.rules.ack_of c.me) most w.out w starts (record { whole = whole; added = []; out = sym (append-nil w.out); said = tt })) b.run).whole),
    )

-- MEMORY AND DEVICES

went_apart : {F S : Type 0} (end : S) (fault : F) → ◌≡◌ {A = Ended F S} (went end) (stopped fault) → ⊥
went_apart end fault e = cc

went_unbroken : {F S : Type 0} (end : S) (cause : Cause) → ◌≡◌ {A = Ended F S} (went end) (broken cause) → ⊥
went_unbroken end cause e = cc

-- what the reshare half's end and its devices agree on, the node's do
module _ {Dir : Type 0} (course : Course Dir Fault (Live Dir)) (w : World) (agree : (end : Live Dir) (mid : World) → EndsSo course (went end) w mid → AreAgreed end.records mid.held) where
  pub agree_behind : (half : Ended Fault (Live Dir)) (end : Live Dir) (mid : World) (held : Held) → EndsSo course half w mid → EndsBehind half (went end) → held ≡ mid.held → AreAgreed end.records held
  agree_behind (went st) end mid held run same is =
      subst (λ (h : Held). AreAgreed end.records h) (sym is) (subst (λ (x : Live Dir). AreAgreed x.records mid.held) (sym same) (agree st mid run))
  agree_behind (stopped fault) end mid held run ends is = absurd (went_apart end (Faulted fault) ends)
  agree_behind (broken cause) end mid held run ends is = absurd (went_unbroken {F = NodeStop} end cause ends)

pub node_openings_agree : {Dir : Type 0} → NodeOpeningsAgree Dir
node_openings_agree c end w new reads whole run =
    let b = openings_run_behind c (went end) w new run in
    agree_behind (opening c) w (λ end mid run. openings_agree c end w mid reads whole run) b.half end b.mid new.held b.run b.ends b.held

pub node_steps_agree : {Dir : Type 0} → NodeStepsAgree Dir
node_steps_agree c st end message w new agreed can run =
    let b = steps_run_behind c st message (went end) w new run in
    agree_behind (step c message st) w (λ end mid run. steps_agree c st end message w mid agreed can run) b.half end b.mid new.held b.run b.ends b.held

-- A PEER'S MESSAGE

aside_said : {Dir : Type 0} (c : Fixed Dir) (round : Round) (h : Held) (line : Entry) → IsAside line → IsSaid c round h line
aside_said c round h (Recorded epoch dealer public private) aside = absurd aside
aside_said c round h (Ack epoch dealer ack) aside = absurd aside
aside_said c round h line aside = tt

module _ {Dir : Type 0} (c : Fixed Dir) (st : Live Dir) (from : ℕ) (round : Round) (base : List Entry) (pairs : Pairs) where
  -- lines behind it that are no dealing's
  kept_behind : (mid new : World) (lines : List Entry) → new.held ≡ mid.held → new.out ≡ mid.out ++ lines → AllByRecursion IsAside lines → IsKeptAt c st from round base pairs mid
      → IsKeptAt c st from round base pairs new
  kept_behind mid new lines held out aside was = record {
    whole = subst (λ (h : Held). IsWhole (notes h) h.secrets) (sym held) was.whole;
    gives = subst (λ (h : Held). MayHave c st from round pairs (recovered_in h)) (sym held) was.gives;
    added = was.added ++ lines;
    out = out ∙ ap (λ (ls : List Entry). ls ++ lines) was.out ∙ append_assoc base was.added lines;
    said = all_of_both (IsSaid c round new.held) was.added lines (subst (λ (h : Held). AllByRecursion (IsSaid c round h) was.added) (sym held) was.said)
        (all_still IsAside (IsSaid c round new.held) (aside_said c round new.held) lines aside);
  }

pub node_peers_are_kept : {Dir : Type 0} → NodePeersAreKept Dir
node_peers_are_kept {Dir} c st from bytes round ended w new pairs is_round agrees run =
    let message : Message Dir = Mailed (Peer from bytes) in
    let b = steps_run_behind c st message ended w new run in
    kept_behind c st from round w.out pairs b.mid new b.lines b.held b.out b.aside
    (along_runs (IsKeptAt c st from round w.out pairs) (on_devices (step c message st)) b.half w b.mid (kept c st from bytes round w pairs is_round agrees) b.run)

-- WHAT A STEP GIVES BACK

pub node_steps_give_back : {Dir : Type 0} → NodeStepsGiveBack Dir
node_steps_give_back c st message ended most w new low agreed can run key pair above got =
    let b = steps_run_behind c st message ended w new run in
    ap (λ (h : Held). get (recovered_in h) key) b.held ∙ steps_give_back c st message b.half most w b.mid low agreed can b.run key pair above got
