-- What a run's completed steps leave of requests, whatever the devices tell: its lines tell it.
use Rattle.std.proofs.Common.{◌≡◌, ◌⊎◌, inl, inr, Bool, true, false, ℕ, suc, ◌+◌, ◌-◌, ◌<◌, ◌≤◌, ◌||◌, ◌++◌, ◌∷◌, [], List, Option, Some, None, Result, Ok, Err, arith, refl, sym, ◌∙◌, ap, subst, add-one, append_assoc, append-nil, drop, length}
use Rattle.std.specs.Prelude.{⊤, fold, slice_get, IsFalse, IsSomeAnd, nat_lt, ◌==◌, if◌then◌else◌}
use Rattle.std.specs.List.{AllByRecursion, list_any}
use Rattle.std.proofs.lemmas.Bool.Decides.{nat_tests}
use Rattle.std.proofs.lemmas.List.{append_cancel_left, length-drop}
use Rattle.dkg_ceremony.specs.Schedule.{epoch_of, midpoint, phase_at}
use Rattle.dkg_ceremony.specs.ValidLogs.{check_log_of}
use Rattle.dkg_ceremony.specs.declared.phase.Phase.TheVariants.{Early, Midpoint, Late}
use Rattle.dkg_ceremony.specs.declared.round.RoundParts.{RoundParts as Round}
use Rattle.dkg_journal.specs.Burn.{Burn}
use Rattle.dkg_journal.specs.Names.{Files}
use Rattle.dkg_infos.specs.declared.directory.Unit as directory
use Rattle.dkg_infos.specs.declared.entry.Entry.{Entry}
use Rattle.dkg_infos.specs.declared.entry.Entry.TheVariants as entry
use Rattle.dkg_infos.specs.declared.entry.Restored.{Restored}
use Rattle.dkg_infos.specs.declared.fault.Fault.{Fault}
use Rattle.dkg_infos.specs.declared.fault.Fault.TheVariants.{NoMemory}
use Rattle.dkg_text.specs.declared.script.Cut as cut
use Rattle.dkg_text.specs.declared.script.Event.{Event}
use Rattle.dkg_text.specs.declared.script.Event.TheVariants as event
use Rattle.dkg_text.specs.declared.script.Life.{Life}
use Rattle.dkg_text.specs.declared.script.Script.{Script}
use Rattle.dkg_script.specs.Epochs.{alone}
use Rattle.dkg_script.specs.Order.{is_opened}
use Rattle.dkg_script.specs.Position.{life_follows}
use Rattle.dkg_script.specs.Promise.{Adds}
use Rattle.dkg_store.specs.Acts.{Held, went}
use Rattle.dkg_core.specs.Asked.{FirstNeeds}
use Rattle.dkg_core.specs.Behind.{event_of}
use Rattle.dkg_core.specs.Courses.{Course, on_devices}
use Rattle.dkg_core.specs.Endings.{stage_in}
use Rattle.dkg_core.specs.Fixed.{Fixed}
use Rattle.dkg_core.specs.Including.{Fed, Found, Lacks, Need, is_need, read_of}
use Rattle.dkg_core.specs.Laws.{IsAmong, IsQuiet}
use Rattle.dkg_core.specs.Live.{Follows, Includes, Inclusion, Job, Live, NodeStop, Request, Stage}
use Rattle.dkg_core.specs.Node.{node_opening, node_step}
use Rattle.dkg_core.specs.NodeEndings.{IsFaultBy}
use Rattle.dkg_laws.specs.NodeThrough.{IsNodeThrough}
use Rattle.dkg_core.specs.Said.{Said}
use Rattle.dkg_core.specs.Through.{IsLiveThrough, IsStopThrough}
use Rattle.dkg_core.specs.Seen.{Seen}
use Rattle.dkg_laws.proofs.NodeThrough.{node_steps_come_through}
use Rattle.dkg_laws.proofs.Openings.{node_openings_lead}
use Rattle.dkg_core.proofs.Setups.{comes_anywhere}
use Rattle.dkg_core.proofs.Splitting.{came_to}
use Rattle.dkg_life.specs.declared.stop.Stop.{Stop}
use Rattle.dkg_life.specs.declared.stop.Stop.TheVariants.{Cut as AtCut, Failed, Fault as FaultOf}
use Rattle.dkg_lives.specs.Asks.{IsUncancelled, bounds_in, scan_tip}
use Rattle.dkg_lives.specs.Blamed.{per_epoch}
use Rattle.dkg_lives.specs.Ended.{by_node_stop}
use Rattle.dkg_lives.specs.Epochs.{IsChecked, IsLifeInForm, any_shares, awaited_by, epoch_by}
use Rattle.dkg_lives.specs.Given.{Lived, at_step, lived, step_of}
use Rattle.dkg_promises.specs.Leaves.{IsOldest, IsOpenRequest, LeavesNone, LeavesSo, NeedsBlocks, Verifies}
use Rattle.dkg_lives.specs.Lives.{AnyFiles, EndsLife, LivesFrom, LivesSo, RunsAllSo, RunsSo, Steps, TakesAll, TellsEnd, fuse_for}
use Rattle.dkg_lives.specs.Ways.{ReadsSomething, Trace, by_entries}
use Rattle.dkg_lives.proofs.Accounting.{IsAnsweredIn, IsWaiting, none_in}
use Rattle.dkg_promises.proofs.Answered.{IsSaidAt}
use Rattle.dkg_lives.proofs.Apart.{IsApart, Reads, node_apart}
use Rattle.dkg_promises.proofs.Ancestry.{IsRead}
use Rattle.dkg_lives.proofs.Awaiting.{IsBefore as IsUncut, IsReached, before_all, reached_lit}
use Rattle.dkg_promises.proofs.Blaming.{Known, its_live, m, next_known, opening_comes, reshare, step_lines}
use Rattle.dkg_along.proofs.Following.{item_at, rest_at}
use Rattle.dkg_lives.proofs.Former.{IsMessage, form_at, lacks_nobody, step_taken, through_at}
use Rattle.dkg_lives.proofs.LivesStand.{before_suc}
use Rattle.dkg_along.proofs.Ordered.{opened_in, opening_added, step_is_quiet, tells_fault, went_opened}
use Rattle.dkg_promises.proofs.Requested.{IsHeld, read_here, sent_new, stands_as, untold}
use Rattle.dkg_lives.proofs.Standing.{AddsOpening, AddsQuiet, TellsFault}
use Rattle.dkg_along.proofs.Steps.{Opening}
use Rattle.dkg_promises.proofs.Tracking.{AreTracked, InOrder, made_once, order_first, step_tracked}
use Rattle.dkg_lives.proofs.Unanswered.{IsUnanswered, opening_lines}

abbrev U : Type 0
U = directory.Unit

none_some : {A : Type 0} {x : A} → ◌≡◌ {A = Option A} None (Some x) → ⊥
none_some e = cc

the_same : {A : Type 0} {x y : A} → ◌≡◌ {A = Option A} (Some x) (Some y) → x ≡ y
the_same e = cc

-- WHAT A STATE LEAVES

module _ (g : Lived) (here : IsLifeInForm g) (j : ℕ) (st : Live U) (said : List Entry) (known : Known g here j st) (tracked : AreTracked g j st said) where
  abbrev c : Fixed U
  c = at_step g j

  abbrev e : ℕ
  e = epoch_by g j

  live : IsLiveThrough (at_step g j) any_shares st
  live = ((known.stood).at).live

  module _ (takes : life_follows (alone g.script) g.number g.life e ≡ false) (late : midpoint (per_epoch g.script) e ≤ awaited_by g j) (request : ℕ) (its : IsOpenRequest g.life j said request) where
    apart : st.participation.stage ≡ Follows → ⊥
    apart life_follows = let no : ◌≡◌ {A = Bool} true false = sym (((known.stood).at).stands.blind life_follows) ∙ takes in cc

    its_epoch : st.participation.epoch ≡ e
    its_epoch = ((known.stood).at).stands.epoch apart

    includes : (round : Round) → st.participation.round ≡ Some round → st.participation.stage ≡ Includes
    unfolding at_step
    includes round of =
        (live.stands).in_round round of ∙ ap (λ (h : ℕ). stage_in (phase_at (midpoint (per_epoch g.script) (epoch_of (per_epoch g.script) h)) h)) (((known.stood).at).stands.awaits)
        ∙ by_tests (nat_lt (awaited_by g j) (midpoint (per_epoch g.script) e)) (awaited_by g j == midpoint (per_epoch g.script) e) refl
      where
        by_tests : (p q : Bool) → nat_lt (awaited_by g j) (midpoint (per_epoch g.script) e) ≡ p → stage_in (if p then Early else (if q then Midpoint else Late)) ≡ Includes
        by_tests true q test = absurd (not_below (awaited_by g j) (midpoint (per_epoch g.script) e) late test)
          where
            not_below : (a b : ℕ) → b ≤ a → nat_lt a b ≡ true → ⊥
            not_below a b low test = let less : a < b = grind (arith, nat_tests) in omega (arith, low, less)
        by_tests false true test = refl
        by_tests false false test = refl

    waiting : IsWaiting request st.inclusion ⊎ IsAnsweredIn request said
    waiting = tracked.all request its.at its.before its.made its.uncancelled

    abbrev Needs : Type 0
    Needs = (oldest : ℕ) × IsOldest g.script g.number g.life j said oldest × NeedsBlocks g.script g.life e j oldest

    -- the first request needs blocks, where none is waited for
    of_first : (round : Round) → st.inclusion.waiter ≡ None → (r : Request U) (rs : List (Request U)) → st.inclusion.queue ≡ r ∷ rs → is_need (read_of c round st r) ≡ true → Needs
    of_first round none r rs queue needs = (r.number, oldest, needing)
      where
        one : IsHeld g e j r
        one = (subst (λ (q : List (Request U)). AllByRecursion (IsHeld g e j) q) queue ((known.held).ready).queue).0

        order : InOrder g j 0 (r ∷ rs)
        order = subst (InOrder g j 0) queue tracked.order

        oldest : IsOldest g.script g.number g.life j said r.number
        oldest = record {
          its = record {
            at = one.at;
            before = one.before;
            made = one.made;
            uncancelled = subst IsUncancelled (sym one.stands) (uncut r.ended);
            unanswered = λ answer among. tracked.absent r.number (inl (r, subst (IsAmong r) (sym queue) (inl refl), refl)) (answer, among);
          };
          of_epoch = one.same;
          first = λ other one_open. by_waiting other one_open (tracked.all other one_open.at one_open.before one_open.made one_open.uncancelled);
        }
          where
            uncut : (ended : Bool) → IsUncancelled (stands_as ended)
            uncut true = tt
            uncut false = tt

            itself : (a b : ℕ) → a ≡ b → a ≤ b
            itself a b same = omega (arith, same)

            earlier : (other : ℕ) (one_open : IsOpenRequest g.life j said other) (x : Request U) → x.number ≡ other → IsAmong x (r ∷ rs) → order.0 ≤ one_open.at
            earlier other one_open x same (inl is) =
                itself (order.0) one_open.at (made_once g here one_open.at (order.0) other one_open.made (order.3 ∙ ap (λ (k : ℕ). Some (event.Info k)) (ap (λ (y : Request U). y.number) is ∙ same)))
            earlier other one_open x same (inr rest) = order_first g j (order.0) other one_open.at rs (λ k made. made_once g here one_open.at k other one_open.made made) (order.4) x rest same

            by_waiting : (other : ℕ) (one_open : IsOpenRequest g.life j said other) → IsWaiting other st.inclusion ⊎ IsAnsweredIn other said → one.at ≤ one_open.at
            by_waiting other one_open (inr (answer, among)) = absurd (one_open.unanswered answer among)
            by_waiting other one_open (inl (inr waits)) = absurd (none_some (sym none ∙ waits))
            by_waiting other one_open (inl (inl (x, among, same))) =
                subst (λ (k : ℕ). k ≤ one_open.at) (made_once g here one.at (order.0) r.number one.made (order.3)) (earlier other one_open x same (subst (IsAmong x) queue among))

        need_is : (f : Fed) → is_need f ≡ true → f ≡ Need
        need_is Need is = refl
        need_is (Found found) is = absurd (let no : ◌≡◌ {A = Bool} false true = is in cc)
        need_is (Lacks why) is = absurd (let no : ◌≡◌ {A = Bool} false true = is in cc)

        on : IsRead check_log_of round (bounds_in g.script e) (scan_tip g.script g.life j) r.blocks r.ended Need
        on = subst (IsRead check_log_of round (bounds_in g.script e) (scan_tip g.script g.life j) r.blocks r.ended) (need_is (read_of c round st r) needs)
            (read_here g here j e st (known.stood).tip its_epoch round r)

        needing : NeedsBlocks g.script g.life e j r.number
        needing = record { goes_on = one.stands ∙ ap stands_as on.1; path = (on.0).path; fed = sym one.fed ∙ (on.0).fed; under_way = (on.0).under_way }

    -- where none runs
    idle : st.inclusion.running ≡ None → (round : Round) → st.participation.round ≡ Some round → IsWaiting request st.inclusion → Needs
    idle none round of waits = by_queue waits st.inclusion.queue refl (live.asked.read (includes round of) none round of)
      where
        by_queue : IsWaiting request st.inclusion → (queue : List (Request U)) → st.inclusion.queue ≡ queue → FirstNeeds c round st queue → Needs
        by_queue (inr waited) queue is needs = absurd (none_some (sym (live.asked.has.waits none) ∙ waited))
        by_queue (inl (x, among, same)) [] is needs = absurd (subst (IsAmong x) is among)
        by_queue (inl (x, among, same)) (r ∷ rs) is needs = of_first round (live.asked.has.waits none) r rs is needs

    leaves : Verifies g.script g.number g.life e j said ⊎ Needs
    leaves = by_round st.participation.round refl
      where
        by_running : (round : Round) → st.participation.round ≡ Some round → (o : Option Job) → st.inclusion.running ≡ o → IsWaiting request st.inclusion ⊎ IsAnsweredIn request said
            → Verifies g.script g.number g.life e j said ⊎ Needs
        by_running round of o running (inr (answer, among)) = absurd (its.unanswered answer among)
        by_running round of (Some job) running (inl waits) = inl (tracked.runs job running).verifies
        by_running round of None running (inl waits) = inr (idle running round of waits)

        by_round : (o : Option Round) → st.participation.round ≡ o → Verifies g.script g.number g.life e j said ⊎ Needs
        by_round None nothing = absurd (apart ((live.stands).without nothing).0)
        by_round (Some round) of = by_running round of st.inclusion.running refl waiting

  -- A LIFE THAT FOLLOWS answers at once.
  module _ (follows_it : life_follows (alone g.script) g.number g.life e ≡ true) (request : ℕ) (its : IsOpenRequest g.life j said request) where
    none_waits : st.participation.stage ≡ Follows → IsWaiting request st.inclusion → ⊥
    none_waits stage (inl (x, among, same)) = subst (IsAmong x) (live.asked.has.none stage) among
    none_waits stage (inr waits) = none_some (sym (live.asked.has.waits (live.asked.has.early (λ includes. let no : ◌≡◌ {A = Stage} Follows Includes = sym stage ∙ includes in cc)).0) ∙ waits)

    at_stage : st.participation.stage ≡ Follows → ⊥
    at_stage stage = by_waiting (tracked.all request its.at its.before its.made its.uncancelled)
      where
        by_waiting : IsWaiting request st.inclusion ⊎ IsAnsweredIn request said → ⊥
        by_waiting (inl waits) = none_waits stage waits
        by_waiting (inr (answer, among)) = its.unanswered answer among

    answered_all : ⊥
    answered_all = let no : ◌≡◌ {A = Bool} true false = sym follows_it ∙ ((known.stood).at).stands.parts at_stage in cc

  pub leaves_none : LeavesNone g.script g.number g.life j said
  leaves_none = (λ takes late request its. leaves takes late request its, λ follows_it request its. answered_all follows_it request its)

-- ONE STEP MORE

-- the life that opened last, and what it has written since
abbrev Now : Type 0
Now = Option (ℕ × List Entry)

abbrev after : Now → Entry → Now
after now (entry.Opened l restored) = Some (l, [])
after None one = None
after (Some (l, said)) one = Some (l, said ++ one ∷ [])

abbrev IsLeftAt : Script → Now → Entry → Type 0
IsLeftAt script (Some (l, said)) (entry.Step j) = (life : Life) → slice_get script.lives l ≡ Some life → LeavesNone script l life j said
IsLeftAt script now one = Unit {0}

abbrev Scan : Script → Now → List Entry → Type 0
Scan script now [] = Unit {0}
Scan script now (one ∷ out) = IsLeftAt script now one × Scan script (after now one) out

scan_both : (script : Script) (now : Now) (xs ys : List Entry) → Scan script now xs → Scan script (fold after now xs) ys → Scan script now (xs ++ ys)
scan_both script now [] ys one other = other
scan_both script now (x ∷ xs) ys one other = (one.0, scan_both script (after now x) xs ys one.1 other)

scan_behind : (script : Script) (now : Now) (xs ys : List Entry) → Scan script now (xs ++ ys) → Scan script (fold after now xs) ys
scan_behind script now [] ys both = both
scan_behind script now (x ∷ xs) ys both = scan_behind script (after now x) xs ys both.1

fold_both : (now : Now) (xs ys : List Entry) → fold after now (xs ++ ys) ≡ fold after (fold after now xs) ys
fold_both now [] ys = refl
fold_both now (x ∷ xs) ys = fold_both (after now x) xs ys

-- entries by which no life opens
said_on : (l : ℕ) (said xs : List Entry) → IsFalse (list_any is_opened xs) → fold after (Some (l, said)) xs ≡ Some (l, said ++ xs)
said_on l said [] none = ap (λ (ys : List Entry). Some (l, ys)) (sym (append-nil said))
said_on l said (x ∷ xs) none =
    let both = neither (is_opened x) (list_any is_opened xs) none in
    ap (λ (now : Now). fold after now xs) (one x both.0) ∙ said_on l (said ++ x ∷ []) xs both.1 ∙ ap (λ (ys : List Entry). Some (l, ys)) (append_assoc said (x ∷ []) xs)
  where
    neither : (a b : Bool) → (a || b) ≡ false → (a ≡ false) × (b ≡ false)
    neither true b e = absurd (let wrong : ◌≡◌ {A = Bool} true false = e in cc)
    neither false b e = (refl, e)

    one : (x : Entry) → is_opened x ≡ false → after (Some (l, said)) x ≡ Some (l, said ++ x ∷ [])
    one (entry.Opened life restored) test = absurd (let wrong : ◌≡◌ {A = Bool} true false = test in cc)
    one x test = refl

quiet_unopened : (xs : List Entry) → AllByRecursion IsQuiet xs → IsFalse (list_any is_opened xs)
quiet_unopened [] quiet = refl
quiet_unopened (x ∷ xs) quiet = neither (one x quiet.0) (quiet_unopened xs quiet.1)
  where
    one : (x : Entry) → IsQuiet x → is_opened x ≡ false
    one (entry.Opened life restored) its = absurd its
    one x its = refl

    neither : {a b : Bool} → a ≡ false → b ≡ false → (a || b) ≡ false
    neither {a} {b} one other = ap (λ (t : Bool). t || b) one ∙ other

quiet_scan : (script : Script) (now : Now) (xs : List Entry) → AllByRecursion IsQuiet xs → Scan script now xs
quiet_scan script now [] quiet = tt
quiet_scan script now (x ∷ xs) quiet = (one now x quiet.0, quiet_scan script (after now x) xs quiet.1)
  where
    one : (now : Now) (x : Entry) → IsQuiet x → IsLeftAt script now x
    one None x its = tt
    one (Some (l, said)) (entry.Step j) its = absurd its
    one (Some (l, said)) x its = tt

-- THE CLAUSE
pub scan_leaves : (script : Script) (now : Now) (out : List Entry) → Scan script now out → LeavesSo script out
scan_leaves script now out scan front said rest l restored j life is unopened life_is =
    let at : Scan script (fold after now front) (entry.Opened l restored ∷ (said ++ (entry.Step j ∷ rest))) = scan_behind script now front (entry.Opened l restored ∷ (said ++ (entry.Step j ∷ rest))) (subst (Scan script now) is scan) in
    let step : Scan script (fold after (Some (l, [])) said) (entry.Step j ∷ rest) = scan_behind script (Some (l, [])) said (entry.Step j ∷ rest) at.1 in
    (subst (λ (x : Now). Scan script x (entry.Step j ∷ rest)) (said_on l [] said unopened) step).0 life life_is

-- WHAT IS ADDED on the way

-- from what a life has written
record GrowsOn (script : Script) (now : Now) (old new : List Entry) : Type 0 where
  pub added : List Entry
  pub parts : new ≡ old ++ added
  pub scan : Scan script now added

grows_none : (script : Script) (now : Now) (old new : List Entry) → new ≡ old → GrowsOn script now old new
grows_none script now old new same = record { added = []; parts = same ∙ sym (append-nil old); scan = tt }

grows_then : (script : Script) (now : Now) (old mid new more : List Entry) → mid ≡ old ++ more → Scan script now more → GrowsOn script (fold after now more) mid new → GrowsOn script now old new
grows_then script now old mid new more is scan next = record {
  added = more ++ next.added;
  parts = next.parts ∙ ap (λ (xs : List Entry). xs ++ next.added) is ∙ append_assoc old more next.added;
  scan = scan_both script now more next.added scan next.scan;
}

module _ (g : Lived) (here : IsLifeInForm g) where
  -- what is known behind a step that was completed
  module _ (i : ℕ) (its : Event) (is : slice_get g.life.events i ≡ Some its) (reached : IsReached g.life.cut (suc i)) (st : Live U) (said : List Entry) (known : Known g here i st) (tracked : AreTracked g i st said) where
    abbrev the_step : Fixed U
    the_step = at_step g (suc i)

    abbrev sent : IsMessage g its
    sent = m g here i its is reached st known.stood

    abbrev course : Course U NodeStop (Live U)
    course = node_step the_step (event_of sent.message) st

    abbrev bare : the_step.oneshot ≡ None
    bare = reshare g here i its is reached st known.stood known.held

    module _ (end : Live U) (out now : List Entry) (lines : Said (on_devices course) (went end) out now) where
      node : IsNodeThrough the_step any_shares st sent.message None end None
      node = came_to (IsFaultBy (IsStopThrough the_step any_shares st sent.message None)) (λ end. IsNodeThrough the_step any_shares st sent.message None end None) course (went end) out now
          (comes_anywhere (IsFaultBy (IsStopThrough the_step any_shares st sent.message None)) (IsNodeThrough the_step any_shares st sent.message None) course
          (node_steps_come_through the_step any_shares st sent.message None (through_at g here (suc i)) (lacks_nobody g (suc i)) (λ h epoch found. tt) (step_taken g its sent.message sent.brings the_step st)
          (its_live g here i its is reached st known.stood) ((known.stood).at).active)) lines

      next : Known g here (suc i) end
      next = next_known g here i its is reached st known.stood known.held end node
          (came_to (λ (stop : NodeStop). ⊤) (λ end. Reads the_step bare st (known.held).apart sent.message → IsApart end.inclusion) course (went end) out now
          (node_apart the_step bare st (known.held).apart sent.message (λ mail mail_sent. sent_new g here i its is st known.held sent the_step bare mail mail_sent)) lines)

      -- its lines say so of requests
      says : AllByRecursion (IsSaidAt untold g.script g.number g.life (suc i)) lines.lines
      says =
          let all = step_lines g here i its is reached st known.stood known.held (went end) out now (subst (λ (k : Course U NodeStop (Live U)). Said (on_devices k) (went end) out now) (sym (sent.course (suc i) st)) lines) in
          subst (AllByRecursion (IsSaidAt untold g.script g.number g.life (suc i))) (append_cancel_left out all.0 lines.lines (sym all.1 ∙ lines.added)) all.2

      next_tracked : AreTracked g (suc i) end ((said ++ entry.Step i ∷ []) ++ lines.lines)
      next_tracked = step_tracked g here i its is sent st (its_live g here i its is reached st known.stood) ((known.stood).at).stands known.held end node ((next.stood).at).stands (next.stood).tip said tracked bare out now lines says

  -- the step's entry
  left_at : (j : ℕ) (st : Live U) (said : List Entry) → Known g here j st → AreTracked g j st said → IsLeftAt g.script (Some (g.number, said)) (entry.Step j)
  left_at j st said known tracked life life_is = subst (λ (x : Life). LeavesNone g.script g.number x j said) (the_same (sym here.life_is ∙ life_is)) (leaves_none g here j st said known tracked)

  abbrev Mine : List Entry → Now
  Mine said = Some (g.number, said)

  -- lines, and the entry of the step that said them
  said_then : (j : ℕ) (st : Live U) (said lines : List Entry) (old mid new : List Entry) → mid ≡ old ++ lines → AllByRecursion IsQuiet lines → Known g here j st → AreTracked g j st (said ++ lines)
      → GrowsOn g.script (Mine ((said ++ lines) ++ entry.Step j ∷ [])) (mid ++ entry.Step j ∷ []) new → GrowsOn g.script (Mine said) old new
  said_then j st said lines old mid new is quiet known tracked next =
      grows_then g.script (Mine said) old (mid ++ entry.Step j ∷ []) new (lines ++ entry.Step j ∷ [])
      (ap (λ (xs : List Entry). xs ++ entry.Step j ∷ []) is ∙ append_assoc old lines (entry.Step j ∷ []))
      (scan_both g.script (Mine said) lines (entry.Step j ∷ []) (quiet_scan g.script (Mine said) lines quiet) (subst (λ (now : Now). IsLeftAt g.script now (entry.Step j)) (sym so_far) (left_at j st (said ++ lines) known tracked), tt))
      (subst (λ (now : Now). GrowsOn g.script now (mid ++ entry.Step j ∷ []) new) (sym (fold_both (Mine said) lines (entry.Step j ∷ []) ∙ ap (λ (now : Now). after now (entry.Step j)) so_far)) next)
    where
      so_far : fold after (Mine said) lines ≡ Mine (said ++ lines)
      so_far = said_on g.number said lines (quiet_unopened lines quiet)

  quiet_on : (now : Now) (old mid new : List Entry) → AddsQuiet old mid → new ≡ mid → GrowsOn g.script now old new
  quiet_on now old mid new adds same = record { added = adds.added; parts = same ∙ adds.parts; scan = quiet_scan g.script now adds.added adds.quiet }

  -- .. with the step's entry
  abbrev past : ℕ → List Entry → List Entry
  past i said = said ++ entry.Step i ∷ []

  event_leaves : (i : ℕ) (its : Event) (st : Live U) (said : List Entry) → slice_get g.life.events i ≡ Some its → IsUncut g.life.cut (suc i) → Known g here i st → AreTracked g i st said → (fuse : Option Burn) → fuse_for g.life.cut (suc i) ≡ fuse
      → (t new : Trace) (how : Result (Unit {0}) Stop) (goes_on : Live U → Trace → Type 0)
      → (IsReached g.life.cut (suc i) → (end : Live U) (mid : Trace) (more : List Entry) → Known g here (suc i) end → AreTracked g (suc i) end more → goes_on end mid → GrowsOn g.script (Mine (past (suc i) more)) mid.out new.out)
      → Steps by_entries (entry.Step (suc i)) fuse (step_of g (suc i) its st) t how new goes_on → GrowsOn g.script (Mine (past i said)) t.out new.out
  event_leaves i its st said is uncut known tracked None none t new how goes_on more steps = grows_none g.script (Mine (past i said)) t.out new.out (ap (λ (x : Trace). x.out) steps.1)
  event_leaves i its st said is uncut known tracked (Some f) lit t new how goes_on more (inl wants) = grows_none g.script (Mine (past i said)) t.out new.out (ap (λ (x : Trace). x.out) wants.1)
  event_leaves i its st said is uncut known tracked (Some f) lit t new how goes_on more (inr (inl (stop, ended, goes))) =
      quiet_on (Mine (past i said)) t.out new.out new.out (step_is_quiet g (suc i) its st (by_node_stop stop) t.out new.out goes.0) refl
  event_leaves i its st said is uncut known tracked (Some f) lit t new how goes_on more (inr (inr (end, mid, goes, inl wants))) =
      quiet_on (Mine (past i said)) t.out mid.out new.out (step_is_quiet g (suc i) its st (went end) t.out mid.out goes.0) (ap (λ (x : Trace). x.out) wants.1)
  event_leaves i its st said is uncut known tracked (Some f) lit t new how goes_on more (inr (inr (end, mid, goes, inr so))) =
      let reached : IsReached g.life.cut (suc i) = reached_lit g.life.cut (suc i) f lit uncut in
      let adds : AddsQuiet t.out mid.out = step_is_quiet g (suc i) its st (went end) t.out mid.out goes.0 in
      let lines : Said (on_devices (course i its is reached st said known tracked)) (went end) t.out mid.out
      = subst (λ (k : Course U NodeStop (Live U)). Said (on_devices k) (went end) t.out mid.out) ((sent i its is reached st said known tracked).course (suc i) st) goes.0 in
      let known_end : Known g here (suc i) end = next i its is reached st said known tracked end t.out mid.out lines in
      let tracked_end : AreTracked g (suc i) end (past i said ++ lines.lines) = next_tracked i its is reached st said known tracked end t.out mid.out lines in
      said_then (suc i) end (past i said) lines.lines t.out mid.out new.out lines.added (subst (AllByRecursion IsQuiet) (append_cancel_left t.out adds.added lines.lines (sym adds.parts ∙ lines.added)) adds.quiet) known_end tracked_end
      (more reached end (by_entries.says mid (entry.Step (suc i))) (past i said ++ lines.lines) known_end tracked_end so)

  takes_leave : (i : ℕ) (events : List Event) (st : Live U) (said : List Entry) (t new : Trace) (how : Result (Unit {0}) Stop) → i ≤ length g.life.events → events ≡ drop i g.life.events → IsUncut g.life.cut (suc i) → Known g here i st
      → AreTracked g i st said → TakesAll by_entries g (suc i) events st t how new → GrowsOn g.script (Mine (past i said)) t.out new.out
  takes_leave i [] st said t new how within rest uncut known tracked its = grows_none g.script (Mine (past i said)) t.out new.out (ap (λ (x : Trace). x.out) its.1)
  takes_leave i (x ∷ events) st said t new how within rest uncut known tracked takes =
      event_leaves i x st said (item_at g.life.events i x events rest) uncut known tracked (fuse_for g.life.cut (suc i)) refl t new how (λ end mid. TakesAll by_entries g (suc i + 1) events end mid how new)
      (λ reached end mid more known_end tracked_end so. takes_leave (suc i) events end more mid new how (omega (arith, below)) (rest_at g.life.events i x events rest) (before_suc g.life.cut (suc i) reached) known_end tracked_end
      (subst (λ (j : ℕ). TakesAll by_entries g j events end mid how new) (add-one (suc i)) so)) takes
    where
      below : i < length g.life.events
      below = let some : suc (length events) ≡ length g.life.events - i = ap length rest ∙ length-drop i g.life.events in omega (arith, some)

  -- AN OPENING

  opened_known : (end : Live U) (out now : List Entry) → Said (on_devices (node_opening (at_step g 0))) (went end) out now → (Known g here 0 end) × (end.inclusion.running ≡ None)
  opened_known end out now said =
      let came = node_openings_lead (at_step g 0) (went end) out now (form_at g here 0) (lacks_nobody g 0) said in
      let begun = came.2 in
      let same = (begun.entered).same in
      let idle = ((begun.opened).live).idle in
      ((opening_comes g here (went end) out now said).0, ap (λ (x : Live U). x.inclusion.running) same ∙ ap (λ (x : Inclusion U). x.running) idle)

  opened_tracked : (st : Live U) (said : List Entry) → Known g here 0 st → st.inclusion.running ≡ None → AllByRecursion IsUnanswered said → AreTracked g 0 st said
  opened_tracked st said known running unanswered = record {
    all = λ n at low made left_open. absurd (none at low);
    absent = λ n waits answered. none_in n said unanswered answered;
    asked = λ n answered. absurd (none_in n said unanswered answered);
    order = by_queue st.inclusion.queue ((known.held).ready).queue;
    runs = λ job runs. absurd (none_some (sym running ∙ runs));
  }
    where
      none : (a : ℕ) → a < 0 → ⊥
      none a low = omega (arith, low)

      by_queue : (queue : List (Request U)) → AllByRecursion (IsHeld g (epoch_by g 0) 0) queue → InOrder g 0 0 queue
      by_queue [] held = tt
      by_queue (r ∷ rs) held = absurd (none (held.0).at (held.0).before)

  -- an opening answers none
  opened_lines : (end : Live U) (out now : List Entry) (adds : AddsOpening g.number out now) → Said (on_devices (node_opening (at_step g 0))) (went end) out now → AllByRecursion IsUnanswered adds.more
  opened_lines end out now adds said =
      let lines = opening_lines (at_step g 0) (form_at g here 0).reshare (went end) out now said in
      (subst (λ (xs : List Entry). AllByRecursion IsUnanswered xs) (append_cancel_left out lines.0 (entry.Opened g.number adds.restored ∷ adds.more) (sym lines.1 ∙ adds.parts)) lines.2).1

  opened_scan : (now : Now) (restored : List Restored) (more : List Entry) → Scan g.script (Mine []) more → Scan g.script now (entry.Opened g.number restored ∷ more)
  opened_scan None restored more scan = (tt, scan)
  opened_scan (Some (l, said)) restored more scan = (tt, scan)

  opened_after : (now : Now) (restored : List Restored) → after now (entry.Opened g.number restored) ≡ Mine []
  opened_after None restored = refl
  opened_after (Some (l, said)) restored = refl

  opening_part : (now : Now) (old mid new : List Entry) → AddsOpening g.number old mid → new ≡ mid → GrowsOn g.script now old new
  opening_part now old mid new adds same =
      record { added = entry.Opened g.number adds.restored ∷ adds.more; parts = same ∙ adds.parts; scan = opened_scan now adds.restored adds.more (quiet_scan g.script (Mine []) adds.more adds.quiet) }

  opening_leaves : (now : Now) (fuse : Option Burn) → fuse_for g.life.cut 0 ≡ fuse → (t new : Trace) (how : Result (Unit {0}) Stop)
      → Steps by_entries (entry.Step 0) fuse (node_opening (at_step g 0)) t how new (λ end mid. TakesAll by_entries g 1 g.life.events end mid how new) → GrowsOn g.script now t.out new.out
  opening_leaves now None none t new how steps = grows_none g.script now t.out new.out (ap (λ (x : Trace). x.out) steps.1)
  opening_leaves now (Some f) lit t new how (inl wants) = grows_none g.script now t.out new.out (ap (λ (x : Trace). x.out) wants.1)
  opening_leaves now (Some f) lit t new how (inr (inl (stop, ended, goes))) = by_opening (opening_added g.number t.out new.out (by_node_stop stop) (opened_in g (by_node_stop stop) t.out new.out goes.0))
    where
      by_opening : Opening g.number t.out new.out → GrowsOn g.script now t.out new.out
      by_opening (inl same) = grows_none g.script now t.out new.out same
      by_opening (inr adds) = opening_part now t.out new.out new.out adds refl
  opening_leaves now (Some f) lit t new how (inr (inr (end, mid, goes, inl wants))) =
      opening_part now t.out mid.out new.out (went_opened g.number t.out mid.out end (opened_in g (went end) t.out mid.out goes.0)) (ap (λ (x : Trace). x.out) wants.1)
  opening_leaves now (Some f) lit t new how (inr (inr (end, mid, goes, inr so))) =
      let reached : IsReached g.life.cut 0 = reached_lit g.life.cut 0 f lit (before_all g.life.cut) in
      let adds : AddsOpening g.number t.out mid.out = went_opened g.number t.out mid.out end (opened_in g (went end) t.out mid.out goes.0) in
      let known = opened_known end t.out mid.out goes.0 in
      let tracked : AreTracked g 0 end adds.more = opened_tracked end adds.more known.0 known.1 (opened_lines end t.out mid.out adds goes.0) in
      let one : List Entry = entry.Opened g.number adds.restored ∷ [] in
      grows_then g.script now t.out (t.out ++ one) new.out one refl (opened_scan now adds.restored [] tt)
      (subst (λ (x : Now). GrowsOn g.script x (t.out ++ one) new.out) (sym (opened_after now adds.restored))
      (said_then 0 end [] adds.more (t.out ++ one) mid.out new.out (adds.parts ∙ sym (append_assoc t.out one adds.more)) adds.quiet known.0 tracked
      (takes_leave 0 g.life.events end adds.more (by_entries.says mid (entry.Step 0)) new how (omega arith) refl (before_suc g.life.cut 0 reached) known.0 tracked so)))

  life_leaves : (files : Files) (t new : Trace) (how : Result (Unit {0}) Stop) → LivesSo by_entries g files t how new → (now : Now) → GrowsOn g.script now t.out new.out
  life_leaves files t new how (inl steps) now = opening_leaves now (fuse_for g.life.cut 0) refl t new how steps
  life_leaves files t new how (inr refused) now = absurd refused.1.2

-- ALL LIVES

grows_join : (script : Script) (now : Now) (old mid new : List Entry) → GrowsOn script now old mid → ((next : Now) → GrowsOn script next mid new) → GrowsOn script now old new
grows_join script now old mid new first next = grows_then script now old mid new first.added first.parts first.scan (next (fold after now first.added))

cut_left : (script : Script) (now : Now) (step call : ℕ) → IsLeftAt script now (entry.Cut step call)
cut_left script None step call = tt
cut_left script (Some (l, said)) step call = tt

fault_left : (script : Script) (now : Now) (its : Fault) → IsLeftAt script now (entry.Fault its)
fault_left script None its = tt
fault_left script (Some (l, said)) its = tt

grows_one : (script : Script) (now : Now) (old new : List Entry) (one : Entry) → new ≡ old ++ one ∷ [] → IsLeftAt script now one → GrowsOn script now old new
grows_one script now old new one is left = record { added = one ∷ []; parts = is; scan = (left, tt) }

module _ (script : Script) (checked : IsChecked script) (each_over : (l : ℕ) (life : Life) (seen : Held → Seen) (files : Files) → slice_get script.lives l ≡ Some life → ReadsSomething seen → IsLifeInForm (lived script l life seen files)) where
  ends_leave : (life : Life) (how : Result (Unit {0}) Stop) (mid new : Trace) (result : Result (Unit {0}) Fault) (goes_on : Trace → Type 0) → ((t : Trace) → goes_on t → (now : Now) → GrowsOn script now t.out new.out)
      → EndsLife by_entries life how mid result new goes_on → (now : Now) → GrowsOn script now mid.out new.out
  ends_leave life (Ok done) mid new result goes_on more ends now = more (by_entries.stops mid life.pick) ends now
  ends_leave life (Err (FaultOf its)) mid new result goes_on more ends now = grows_none script now mid.out new.out (ap (λ (x : Trace). x.out) ends.1)
  ends_leave life (Err Failed) mid new result goes_on more ends now = absurd ends
  ends_leave life (Err AtCut) mid new result goes_on more ends now = by_cut life.cut ends
    where
      by_cut : (o : Option cut.Cut) → IsSomeAnd o (λ its. ((result ≡ Err NoMemory) × (new ≡ by_entries.stops mid its.pick)) ⊎ goes_on (by_entries.says (by_entries.stops mid its.pick) (entry.Cut its.step its.call))) → GrowsOn script now mid.out new.out
      by_cut None its = absurd its
      by_cut (Some its) (inl wants) = grows_none script now mid.out new.out (ap (λ (x : Trace). x.out) wants.1)
      by_cut (Some its) (inr so) =
          grows_join script now mid.out (mid.out ++ entry.Cut its.step its.call ∷ []) new.out
          (grows_one script now mid.out (mid.out ++ entry.Cut its.step its.call ∷ []) (entry.Cut its.step its.call) refl (cut_left script now its.step its.call))
          (more (by_entries.says (by_entries.stops mid its.pick) (entry.Cut its.step its.call)) so)

  lives_leave : (first : Files → Type 0) (l : ℕ) (lives : List Life) (t new : Trace) (result : Result (Unit {0}) Fault) → l ≤ length script.lives → lives ≡ drop l script.lives → LivesFrom by_entries script first l lives t result new
      → (now : Now) → GrowsOn script now t.out new.out
  lives_leave first l [] t new result within rest its now = grows_none script now t.out new.out (ap (λ (x : Trace). x.out) its.1)
  lives_leave first l (life ∷ lives) t new result within rest (seen, files, how, mid, reads, known, begins, so, ends) now =
      grows_join script now t.out mid.out new.out (life_leaves (lived script l life seen files) (each_over l life seen files at reads) files t mid how so now)
      (ends_leave life how mid new result (λ mid. LivesFrom by_entries script AnyFiles (l + 1) lives mid result new)
      (λ t its. lives_leave AnyFiles (l + 1) lives t new result (omega (arith, below)) (subst (λ (k : ℕ). lives ≡ drop k script.lives) (sym (add-one l)) (rest_at script.lives l life lives rest)) its) ends)
    where
      below : l < length script.lives
      below = let some : suc (length lives) ≡ length script.lives - l = ap length rest ∙ length-drop l script.lives in omega (arith, some)

      at : slice_get script.lives l ≡ Some life
      at = item_at script.lives l life lives rest

  all_leave : (first : Files → Type 0) (t new : Trace) (result : Result (Unit {0}) Fault) → RunsAllSo by_entries script first t result new → (now : Now) → GrowsOn script now t.out new.out
  all_leave first t new result (inl (its, refused, is, same)) now = grows_none script now t.out new.out (ap (λ (x : Trace). x.out) same)
  all_leave first t new result (inr (its, inl wants)) now = grows_none script now t.out new.out (ap (λ (x : Trace). x.out) wants.1)
  all_leave first t new result (inr (its, inr lives)) now = lives_leave first 0 script.lives t new result (omega arith) refl lives now

  pub run_leaves : (first : Files → Type 0) (t new : Trace) (answered : Result (Unit {0}) Fault) → RunsSo by_entries script first t answered new → Adds t.out new.out (LeavesSo script)
  run_leaves first t new answered run = by_result run.result (all_leave first t run.mid run.result run.lives) answered run.told
    where
      whole : GrowsOn script None t.out new.out → Adds t.out new.out (LeavesSo script)
      whole grows = (grows.added, grows.parts, scan_leaves script None grows.added grows.scan)

      by_told : (its answered : Fault) → ((now : Now) → GrowsOn script now t.out run.mid.out) → TellsFault its answered run.mid.out new.out → Adds t.out new.out (LeavesSo script)
      by_told its answered grows (inl none) = whole (grows_join script None t.out run.mid.out new.out (grows None) (λ now. grows_none script now run.mid.out new.out none.1))
      by_told its answered grows (inr told) = whole (grows_join script None t.out run.mid.out new.out (grows None) (λ now. grows_one script now run.mid.out new.out (entry.Fault its) told.2 (fault_left script now its)))

      not_ok : (its : Fault) → TellsEnd by_entries (Err its) (Ok tt) run.mid new → ⊥
      not_ok its (inl wants) = let wrong : ◌≡◌ {A = Result (Unit {0}) Fault} (Ok tt) (Err NoMemory) = wants.0 in cc
      not_ok its (inr told) = let wrong : ◌≡◌ {A = Result (Unit {0}) Fault} (Ok tt) (Err its) = told.0 in cc

      by_result : (result : Result (Unit {0}) Fault) → ((now : Now) → GrowsOn script now t.out run.mid.out) → (answered : Result (Unit {0}) Fault) → TellsEnd by_entries result answered run.mid new → Adds t.out new.out (LeavesSo script)
      by_result (Ok done) grows answered told = whole (grows_join script None t.out run.mid.out new.out (grows None) (λ now. grows_none script now run.mid.out new.out (ap (λ (x : Trace). x.out) told.1)))
      by_result (Err its) grows (Ok done) told = absurd (not_ok its told)
      by_result (Err its) grows (Err answered) told = by_told its answered grows (tells_fault its answered run.mid new told)
