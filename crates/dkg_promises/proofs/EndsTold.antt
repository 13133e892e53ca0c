-- How the lives of a run over worlds ended is what its entries tell.
use Rattle.std.proofs.Common.{◌≡◌, ◌⊎◌, inl, inr, ℕ, ◌+◌, ◌++◌, ◌∷◌, [], List, Option, Some, None, Result, Ok, Err, refl, sym, ◌∙◌, ap, length, append_assoc, append-nil, length-append}
use Rattle.std.specs.Prelude.{IsSomeAnd}
use Rattle.dkg_journal.specs.Names.{Files}
use Rattle.dkg_infos.specs.declared.entry.Entry.TheVariants as entry
use Rattle.dkg_infos.specs.declared.fault.Fault.{Fault}
use Rattle.dkg_infos.specs.declared.fault.Fault.TheVariants.{NoMemory}
use Rattle.dkg_text.specs.declared.script.Cut as cut
use Rattle.dkg_text.specs.declared.script.Life.{Life}
use Rattle.dkg_script.specs.Progress.{Progress, at_start}
use Rattle.dkg_script.specs.Setting.{Setting, CutAt, life_at}
use Rattle.dkg_store.specs.Acts.{World, says}
use Rattle.dkg_life.specs.declared.stop.Stop.{Stop}
use Rattle.dkg_life.specs.declared.stop.Stop.TheVariants.{Cut, Failed, Fault as FaultOf}
use Rattle.dkg_lives.specs.Given.{lived}
use Rattle.dkg_lives.specs.Lives.{AnyFiles, EndsLife, LivesFrom, RunsAllSo, RunsSo, TellsEnd}
use Rattle.dkg_lives.specs.Ways.{by_worlds}
use Rattle.dkg_promises.proofs.OfferingRuns.{AreLivesFrom, ends_by, ends_cut, ends_of, run_ends, script_lives}
use Rattle.dkg_along.proofs.Leading.{After, IsInStep, Leads, leads_as, leads_none, leads_then, life_leads, worlds_tell}

-- ALL LIVES
module _ (s : Setting) where
  longer : (cs : List (Option CutAt)) (end : Option CutAt) (l : ℕ) → length cs ≡ l → length (cs ++ end ∷ []) ≡ l + 1
  longer cs end l is = length-append cs (end ∷ []) ∙ ap (λ (n : ℕ). n + 1) is

  from_ends : (lives : List Life) (first : Files → Type 0) (l : ℕ) (w : World) (result : Result (Unit {0}) Fault) (new : World) (cs : List (Option CutAt)) (p : Progress) → AreLivesFrom s l lives → length cs ≡ l → IsInStep cs 0 p
      → (run : LivesFrom by_worlds s.script first l lives w result new) → Leads s p w.out new.out (λ q. q.cuts ≡ cs ++ ends_of s.script lives first l w result new run)
  unfolding worlds_tell
  from_ends [] first l w result new cs p are count at run = leads_none s p w.out new.out (λ q. q.cuts ≡ cs ++ []) (ap (λ (x : World). x.out) run.1) (at.cuts ∙ sym (append-nil cs))
  from_ends (life ∷ lives) first l w result new cs p are count at run =
      by_how run.2 run.8 (life_leads s life cs (ap (life_at s) count ∙ are.0) by_worlds worlds_tell (lived s.script l life run.0 run.1) refl run.1 w run.2 run.3 p at run.7)
      (λ now cs q are count at more. from_ends lives AnyFiles (l + 1) now result new cs q are count at more)
    where
      mid : World
      mid = run.3

      Rests : World → Type 0
      Rests now = LivesFrom by_worlds s.script AnyFiles (l + 1) lives now result new

      on : (now : World) → Rests now → List (Option CutAt)
      on now more = ends_of s.script lives AnyFiles (l + 1) now result new more

      On : Type 0
      On = (now : World) (cs : List (Option CutAt)) (q : Progress) → AreLivesFrom s (l + 1) lives → length cs ≡ l + 1 → IsInStep cs 0 q → (more : Rests now) → Leads s q now.out new.out (λ q. q.cuts ≡ cs ++ on now more)

      by_cut : (o : Option cut.Cut) (ends : IsSomeAnd o (λ its. ((result ≡ Err NoMemory) × (new ≡ mid)) ⊎ Rests (says mid (entry.Cut its.step its.call)))) → Leads s p w.out mid.out (λ q. q.cuts ≡ cs) → On
          → Leads s p w.out new.out (λ q. q.cuts ≡ cs ++ ends_cut life mid result new Rests on o ends)
      by_cut None ends leads next = absurd ends
      by_cut (Some its) (inl wants) leads next = record { added = leads.added; out = ap (λ (x : World). x.out) wants.1 ∙ leads.out; to = leads.to ∙ sym (append-nil cs) }
      by_cut (Some its) (inr more) leads next =
          let end : Option CutAt = Some (record { step = its.step; call = its.call }) in
          let here : World = says mid (entry.Cut its.step its.call) in
          leads_then s p w.out here.out new.out (IsInStep (cs ++ end ∷ []) 0) (λ q. q.cuts ≡ cs ++ end ∷ on here more)
          (leads_then s p w.out mid.out here.out (λ q. q.cuts ≡ cs) (IsInStep (cs ++ end ∷ []) 0) leads
          (λ q cuts. record { added = entry.Cut its.step its.call ∷ []; out = refl; to = record { cuts = ap (λ (xs : List (Option CutAt)). xs ++ end ∷ []) cuts; step = refl } }))
          (λ q there. leads_as s q here.out new.out (λ q. q.cuts ≡ (cs ++ end ∷ []) ++ on here more) (λ q. q.cuts ≡ cs ++ end ∷ on here more) (next here (cs ++ end ∷ []) q are.1 (longer cs end l count) there more)
          (λ q is. is ∙ append_assoc cs (end ∷ []) (on here more)))

      by_how : (how : Result (Unit {0}) Stop) (ends : EndsLife by_worlds life how mid result new Rests) → Leads s p w.out mid.out (After s life cs (ap (life_at s) count ∙ are.0) how) → On
          → Leads s p w.out new.out (λ q. q.cuts ≡ cs ++ ends_by life mid result new Rests on how ends)
      by_how (Ok done) ends leads next =
          leads_then s p w.out mid.out new.out (IsInStep (cs ++ None ∷ []) 0) (λ q. q.cuts ≡ cs ++ None ∷ on mid ends) leads
          (λ q there. leads_as s q mid.out new.out (λ q. q.cuts ≡ (cs ++ None ∷ []) ++ on mid ends) (λ q. q.cuts ≡ cs ++ None ∷ on mid ends) (next mid (cs ++ None ∷ []) q are.1 (longer cs None l count) there ends)
          (λ q is. is ∙ append_assoc cs (None ∷ []) (on mid ends)))
      by_how (Err Cut) ends leads next = by_cut life.cut ends leads next
      by_how (Err (FaultOf fault)) ends leads next = record { added = leads.added; out = ap (λ (x : World). x.out) ends.1 ∙ leads.out; to = leads.to ∙ sym (append-nil cs) }
      by_how (Err Failed) ends leads next = absurd ends

  -- THE RUN, from no entry on
  pub ends_are_told : (first : Files → Type 0) (w : World) (answered : Result (Unit {0}) Fault) (new : World) (run : RunsSo by_worlds s.script first w answered new)
      → Leads s (at_start s) w.out new.out (λ q. q.cuts ≡ run_ends s.script first w run.result run.mid run.lives)
  ends_are_told first w answered new run = by_told run.result run.told
    where
      by_lives : (lives : RunsAllSo by_worlds s.script first w run.result run.mid) → Leads s (at_start s) w.out run.mid.out (λ q. q.cuts ≡ run_ends s.script first w run.result run.mid lives)
      by_lives (inl (fault, refused, is, same)) = leads_none s (at_start s) w.out run.mid.out (λ q. q.cuts ≡ []) (ap (λ (x : World). x.out) same) refl
      by_lives (inr (checked, inl wants)) = leads_none s (at_start s) w.out run.mid.out (λ q. q.cuts ≡ []) (ap (λ (x : World). x.out) wants.1) refl
      by_lives (inr (checked, inr lives)) = from_ends s.script.lives first 0 w run.result run.mid [] (at_start s) (script_lives s [] s.script.lives refl) refl (record { cuts = refl; step = refl }) lives

      ends : List (Option CutAt)
      ends = run_ends s.script first w run.result run.mid run.lives

      by_told : (result : Result (Unit {0}) Fault) → TellsEnd by_worlds result answered run.mid new → Leads s (at_start s) w.out new.out (λ q. q.cuts ≡ ends)
      by_told (Ok done) told = let a = by_lives run.lives in record { added = a.added; out = ap (λ (x : World). x.out) told.1 ∙ a.out; to = a.to }
      by_told (Err fault) (inl wants) = let a = by_lives run.lives in record { added = a.added; out = ap (λ (x : World). x.out) wants.1 ∙ a.out; to = a.to }
      by_told (Err fault) (inr told) =
          leads_then s (at_start s) w.out run.mid.out new.out (λ q. q.cuts ≡ ends) (λ q. q.cuts ≡ ends) (by_lives run.lives)
          (λ q is. record { added = entry.Fault fault ∷ []; out = ap (λ (x : World). x.out) told.2; to = is })
