-- How the lives of a run end is what its lines tell, over worlds and over lines alike.
use Rattle.std.proofs.Common.{◌≡◌, inl, inr, ℕ, suc, ◌+◌, ◌<◌, ◌≤◌, List, [], ◌∷◌, ◌++◌, Option, Some, None, Bool, true, false, cond, refl, sym, ◌∙◌, ap, subst, length, arith, append_assoc, append-nil}
use Rattle.std.specs.Prelude.{fold, Result, Ok, Err, ◌==◌}
use Rattle.std.specs.List.{AllByRecursion}
use Rattle.std.proofs.lemmas.Bool.{eq-eqb, eqb-true}
use Rattle.std.proofs.lemmas.List.Sums.{fold-append}
use Rattle.dkg_journal.specs.Burn.{Burn}
use Rattle.dkg_journal.specs.Names.{Files}
use Rattle.dkg_infos.specs.declared.directory.Unit as directory
use Rattle.dkg_infos.specs.declared.entry.Entry.{Entry}
use Rattle.dkg_infos.specs.declared.entry.Entry.TheVariants as entry
use Rattle.dkg_infos.specs.declared.fault.Fault.TheVariants.{NoMemory}
use Rattle.dkg_text.specs.declared.script.Event.{Event}
use Rattle.dkg_text.specs.declared.script.Life.{Life}
use Rattle.dkg_store.specs.Acts.{Ended, at, by_cut, broken, went}
use Rattle.dkg_script.specs.Progress.{Progress, is_last_step, read, with_life_ended}
use Rattle.dkg_script.specs.Setting.{CutAt, Setting, life_at}
use Rattle.dkg_core.specs.Courses.{Course, on_devices}
use Rattle.dkg_core.specs.Laws.{IsQuiet}
use Rattle.dkg_core.specs.Live.{Live, NodeStop}
use Rattle.dkg_core.specs.Node.{node_opening}
use Rattle.dkg_core.specs.Said.{Said}
use Rattle.dkg_core.proofs.Counted.{cuts_fall}
use Rattle.dkg_laws.proofs.Said.{runs_say}
use Rattle.dkg_life.specs.declared.stop.Stop.{Stop}
use Rattle.dkg_life.specs.declared.stop.Stop.TheVariants.{Cut, Fault as FaultOf}
use Rattle.dkg_lives.specs.Ended.{by_node_stop}
use Rattle.dkg_lives.specs.Given.{Lived, at_step, step_of}
use Rattle.dkg_lives.specs.Lives.{LivesSo, Steps, TakesAll, fuse_for}
use Rattle.dkg_lives.specs.Ways.{Way, by_entries, by_worlds}
use Rattle.dkg_along.proofs.Ordered.{opened_in, opening_added, step_is_quiet}
use Rattle.dkg_lives.proofs.Standing.{AddsQuiet}
use Rattle.dkg_along.proofs.Steps.{Opening}
use Rattle.dkg_along.proofs.LivesKept.{Rest, all_rest}

abbrev U : Type 0
U = directory.Unit

-- WHAT EITHER WAY TELLS: lines are those of the courses, and a cut is the fuse's
pub record TellsLines {W : Type 0} (way : Way W) : Type 0 where
  pub out : W → List Entry
  pub said : (course : Course U NodeStop (Live U)) (ended : Ended NodeStop (Live U)) (f : Burn) (w new : W) → way.goes course ended f w new → Said (on_devices course) ended (out w) (out new)
  pub burns : (course : Course U NodeStop (Live U)) (f : Burn) (w new : W) → way.goes course (broken by_cut) f w new → 0 < f.call
  pub says : (w : W) (line : Entry) → out (way.says w line) ≡ out w ++ line ∷ []
  pub stops : (w : W) (pick : ℕ) → out (way.stops w pick) ≡ out w
  pub refuses : (stop : Stop) (w new : W) → way.refuses stop w new → out new ≡ out w

unfoldable pub lines_tell : TellsLines by_entries
lines_tell = record {
  out = λ t. t.out;
  said = λ course ended f w new goes. goes.0;
  burns = λ course f w new goes. goes.2 refl;
  says = λ w line. refl;
  stops = λ w pick. refl;
  refuses = λ stop w new refused. absurd refused;
}

unfoldable pub worlds_tell : TellsLines by_worlds
worlds_tell = record {
  out = λ w. w.out;
  said = λ course ended f w new goes. runs_say (on_devices course) ended (record w { fuse = f }) new goes.0;
  burns = λ course f w new goes. some f ((cuts_fall course (broken by_cut) (record w { fuse = f }) new goes.0).0);
  says = λ w line. refl;
  stops = λ w pick. refl;
  refuses = λ stop w new refused. refused.1;
}
  where
    some : (f : Burn) → f.spent < f.call → 0 < f.call
    some f more = omega (arith, more)

-- LINES THAT ARE ADDED, as a progress reads them

pub record Leads (s : Setting) (p : Progress) (old new : List Entry) (Q : Progress → Type 0) : Type 0 where
  pub added : List Entry
  pub out : new ≡ old ++ added
  pub to : Q (fold (read s) p added)

pub leads_none : (s : Setting) (p : Progress) (old new : List Entry) (Q : Progress → Type 0) → new ≡ old → Q p → Leads s p old new Q
leads_none s p old new Q same to = record { added = []; out = same ∙ sym (append-nil old); to = to }

pub leads_then : (s : Setting) (p : Progress) (old mid new : List Entry) (P Q : Progress → Type 0) → Leads s p old mid P → ((q : Progress) → P q → Leads s q mid new Q) → Leads s p old new Q
leads_then s p old mid new P Q a next = record {
  added = a.added ++ b.added;
  out = b.out ∙ ap (λ (xs : List Entry). xs ++ b.added) a.out ∙ append_assoc old a.added b.added;
  to = subst Q (sym (fold-append (read s) p a.added b.added)) b.to;
}
  where
    b : Leads s (fold (read s) p a.added) mid new Q
    b = next (fold (read s) p a.added) a.to

pub leads_as : (s : Setting) (p : Progress) (old new : List Entry) (P Q : Progress → Type 0) → Leads s p old new P → ((q : Progress) → P q → Q q) → Leads s p old new Q
leads_as s p old new P Q a so = record { added = a.added; out = a.out; to = so (fold (read s) p a.added) a.to }

-- so many lives ended so, and this step is in hand
pub record IsInStep (cs : List (Option CutAt)) (j : ℕ) (p : Progress) : Type 0 where
  pub cuts : p.cuts ≡ cs
  pub step : p.step ≡ j

quiet_stays : (s : Setting) (cs : List (Option CutAt)) (j : ℕ) (lines : List Entry) (p : Progress) → AllByRecursion IsQuiet lines → IsInStep cs j p → IsInStep cs j (fold (read s) p lines)
quiet_stays s cs j [] p quiet at = at
quiet_stays s cs j (entry.Opened n restored ∷ lines) p quiet at = absurd quiet.0
quiet_stays s cs j (entry.Cut step call ∷ lines) p quiet at = absurd quiet.0
quiet_stays s cs j (entry.Step step ∷ lines) p quiet at = absurd quiet.0
quiet_stays s cs j (entry.Fault fault ∷ lines) p quiet at = absurd quiet.0
quiet_stays s cs j (one ∷ lines) p quiet at = quiet_stays s cs j lines (read s p one) quiet.1 (record { cuts = at.cuts; step = at.step })

quiet_leads : (s : Setting) (cs : List (Option CutAt)) (j : ℕ) (p : Progress) (old new : List Entry) → AddsQuiet old new → IsInStep cs j p → Leads s p old new (IsInStep cs j)
quiet_leads s cs j p old new adds at = record { added = adds.added; out = adds.parts; to = quiet_stays s cs j adds.added p adds.quiet at }

opening_leads : (s : Setting) (cs : List (Option CutAt)) (p : Progress) (l : ℕ) (old new : List Entry) → Opening l old new → IsInStep cs 0 p → Leads s p old new (IsInStep cs 0)
opening_leads s cs p l old new (inl same) at = leads_none s p old new (IsInStep cs 0) same at
opening_leads s cs p l old new (inr adds) at = record {
  added = entry.Opened l adds.restored ∷ adds.more;
  out = adds.parts;
  to = quiet_stays s cs 0 adds.more (read s p (entry.Opened l adds.restored)) adds.quiet (record { cuts = at.cuts; step = at.step });
}

-- THE LINES OF A LIFE: at its end it is one more that was not cut

module _ (s : Setting) (life : Life) (cs : List (Option CutAt)) (life_is : life_at s (length cs) ≡ Some life) where
  abbrev pub After : Result (Unit {0}) Stop → Progress → Type 0
  After (Ok done) q = IsInStep (cs ++ None ∷ []) 0 q
  After (Err stop) q = q.cuts ≡ cs

  -- before the first of these events, the first of which is step j, or behind the life
  abbrev Stands : ℕ → List Event → Progress → Type 0
  Stands j [] p = IsInStep (cs ++ None ∷ []) 0 p
  Stands j (event ∷ events) p = IsInStep cs j p

  module _ (j : ℕ) (q : Progress) (at : IsInStep cs j q) where
    last_is : is_last_step s q ≡ (j == length life.events)
    last_is = rw (at.cuts, life_is, at.step) refl

    abbrev Read : Bool → Progress
    Read last = cond last (with_life_ended q None) (record q { step = suc q.step; written = [] })

    behind : (events : List Event) → Rest life (j + 1) events → Stands (j + 1) events (read s q (entry.Step j))
    behind [] rest = subst (λ (last : Bool). IsInStep (cs ++ None ∷ []) 0 (Read last)) (sym (last_is ∙ eq-eqb j (length life.events) (omega (arith, rest))))
        (record { cuts = ap (λ (xs : List (Option CutAt)). xs ++ None ∷ []) at.cuts; step = refl })
    behind (event ∷ events) rest = subst (λ (last : Bool). IsInStep cs (j + 1) (Read last)) (sym (last_is ∙ differs (j == length life.events) refl))
        (record { cuts = at.cuts; step = let is : q.step ≡ j = at.step in omega (arith, is) })
      where
        differs : (b : Bool) → (j == length life.events) ≡ b → b ≡ false
        differs false e = refl
        differs true e = let same : j ≡ length life.events = eqb-true j (length life.events) e in let low : j + 1 ≤ length life.events = rest.1 in absurd (omega (arith, same, low))

  module _ {W : Type 0} (way : Way W) (tells : TellsLines way) where
    steps_lead : (j : ℕ) (course : Course U NodeStop (Live U)) (events : List Event) → Rest life (j + 1) events
        → ((q : Progress) (ended : Ended NodeStop (Live U)) (out now : List Entry) → IsInStep cs j q → Said (on_devices course) ended out now → Leads s q out now (IsInStep cs j))
        → (o : Option Burn) (w : W) (how : Result (Unit {0}) Stop) (new : W) (next : Live U → W → Type 0)
        → ((end : Live U) (mid : W) (q : Progress) → Stands (j + 1) events q → next end mid → Leads s q (tells.out mid) (tells.out new) (After how))
        → (p : Progress) → IsInStep cs j p → Steps way (entry.Step j) o course w how new next → Leads s p (tells.out w) (tells.out new) (After how)
    steps_lead j course events rest leads None w how new next on p at its =
        subst (λ (r : Result (Unit {0}) Stop). Leads s p (tells.out w) (tells.out new) (After r)) (sym its.0) (leads_none s p (tells.out w) (tells.out new) (After (Err Cut)) (ap tells.out its.1) at.cuts)
    steps_lead j course events rest leads (Some f) w how new next on p at (inl wants) =
        subst (λ (r : Result (Unit {0}) Stop). Leads s p (tells.out w) (tells.out new) (After r)) (sym wants.0)
        (leads_none s p (tells.out w) (tells.out new) (After (Err (FaultOf NoMemory))) (ap tells.out wants.1) at.cuts)
    steps_lead j course events rest leads (Some f) w how new next on p at (inr (inl (stop, is, goes))) =
        let a : Leads s p (tells.out w) (tells.out new) (IsInStep cs j) = leads p (by_node_stop stop) (tells.out w) (tells.out new) at (tells.said course (by_node_stop stop) f w new goes) in
        subst (λ (r : Result (Unit {0}) Stop). Leads s p (tells.out w) (tells.out new) (After r)) (sym is) (record { added = a.added; out = a.out; to = a.to.cuts })
    steps_lead j course events rest leads (Some f) w how new next on p at (inr (inr (end, mid, goes, inl wants))) =
        let a : Leads s p (tells.out w) (tells.out mid) (IsInStep cs j) = leads p (went end) (tells.out w) (tells.out mid) at (tells.said course (went end) f w mid goes) in
        subst (λ (r : Result (Unit {0}) Stop). Leads s p (tells.out w) (tells.out new) (After r)) (sym wants.0) (record { added = a.added; out = ap tells.out wants.1 ∙ a.out; to = a.to.cuts })
    steps_lead j course events rest leads (Some f) w how new next on p at (inr (inr (end, mid, goes, inr so))) =
        leads_then s p (tells.out w) (tells.out mid) (tells.out new) (IsInStep cs j) (After how) (leads p (went end) (tells.out w) (tells.out mid) at (tells.said course (went end) f w mid goes))
        (λ q here. leads_then s q (tells.out mid) (tells.out (way.says mid (entry.Step j))) (tells.out new) (Stands (j + 1) events) (After how)
        (record { added = entry.Step j ∷ []; out = tells.says mid (entry.Step j); to = behind j q here events rest })
        (λ r there. on end (way.says mid (entry.Step j)) r there so))

    module _ (g : Lived) (same : g.life ≡ life) where
      events_lead : (events : List Event) (j : ℕ) (st : Live U) (w : W) (how : Result (Unit {0}) Stop) (new : W) (p : Progress) → Rest life j events → Stands j events p
          → TakesAll way g j events st w how new → Leads s p (tells.out w) (tells.out new) (After how)
      events_lead [] j st w how new p rest stands takes =
          leads_none s p (tells.out w) (tells.out new) (After how) (ap tells.out takes.1) (subst (λ (r : Result (Unit {0}) Stop). After r p) (sym takes.0) stands)
      events_lead (event ∷ events) j st w how new p rest stands takes =
          steps_lead j (step_of g j event st) events rest.2
          (λ q ended out now at said. quiet_leads s cs j q out now (step_is_quiet g j event st ended out now said) at)
          (fuse_for g.life.cut j) w how new (λ end mid. TakesAll way g (j + 1) events end mid how new)
          (λ end mid q there so. events_lead events (j + 1) end mid how new q rest.2 there so) p stands takes

      pub life_leads : (files : Files) (w : W) (how : Result (Unit {0}) Stop) (new : W) (p : Progress) → IsInStep cs 0 p → LivesSo way g files w how new → Leads s p (tells.out w) (tells.out new) (After how)
      life_leads files w how new p at (inl steps) =
          steps_lead 0 (node_opening (at_step g 0)) g.life.events (subst (λ (its : Life). Rest its 1 g.life.events) same (all_rest g.life))
          (λ q ended out now at said. opening_leads s cs q g.number out now (opening_added g.number out now ended (opened_in g ended out now said)) at)
          (fuse_for g.life.cut 0) w how new (λ end mid. TakesAll way g 1 g.life.events end mid how new)
          (λ end mid q there so. events_lead g.life.events 1 end mid how new q (subst (λ (its : Life). Rest its 1 g.life.events) same (all_rest g.life)) there so) p at steps
      life_leads files w how new p at (inr refused) =
          subst (λ (r : Result (Unit {0}) Stop). Leads s p (tells.out w) (tells.out new) (After r)) (sym refused.1.1)
          (leads_none s p (tells.out w) (tells.out new) (After (Err refused.1.0)) (tells.refuses refused.1.0 w new refused.1.2) at.cuts)
