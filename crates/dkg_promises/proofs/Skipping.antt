-- In a consistent script a life stops at a block only where the block skips a height, or where the life has no position and the block is none that it may begin with.
use Rattle.std.proofs.Common.{◌≡◌, ◌⊎◌, inl, inr, ℕ, zero, suc, ◌<◌, ◌++◌, List, [], ◌∷◌, Option, Some, None, Result, Ok, Err, arith, refl, sym, ◌∙◌, ap, subst, append_assoc}
use Rattle.std.specs.Prelude.{IfErr, IfSome, IsSomeAnd, fold, length, slice_get, true}
use Rattle.std.proofs.lemmas.List.{append_cancel_left}
use Rattle.dkg_ceremony.specs.Schedule.{epoch_of}
use Rattle.dkg_journal.specs.Names.{Files}
use Rattle.dkg_secrets.specs.Secrets.{Secrets}
use Rattle.dkg_types.specs.BlockCodes.{info_of}
use Rattle.dkg_types.specs.Blocks.{Block}
use Rattle.dkg_infos.specs.declared.directory.Unit as directory
use Rattle.dkg_infos.specs.declared.entry.Entry.{Entry}
use Rattle.dkg_infos.specs.declared.entry.Entry.TheVariants as entry
use Rattle.dkg_infos.specs.declared.fault.Fault.{Fault}
use Rattle.dkg_infos.specs.declared.fault.Fault.TheVariants as fault
use Rattle.dkg_infos.specs.declared.info.EpochInfo.{EpochInfo}
use Rattle.dkg_text.specs.declared.script.Cut.{Cut}
use Rattle.dkg_text.specs.declared.script.Event.{Event}
use Rattle.dkg_text.specs.declared.script.Event.TheVariants as event
use Rattle.dkg_text.specs.declared.script.Life.{Life}
use Rattle.dkg_text.specs.declared.script.Script.{Script}
use Rattle.dkg_script.specs.AsCut.{as_cut, setting_as_cut}
use Rattle.dkg_script.specs.Consistent.{IsConsistentScript}
use Rattle.dkg_script.specs.Epochs.{alone}
use Rattle.dkg_script.specs.Inclusion.{IsFormOfInclusion}
use Rattle.dkg_script.specs.Position.{awaited_epoch}
use Rattle.dkg_script.specs.Order.{LetsBegin, InLife, IsInOrder}
use Rattle.dkg_script.specs.Progress.{Progress, at_start, progress, read}
use Rattle.dkg_script.specs.Promise.{cuts_in}
use Rattle.dkg_script.specs.Setting.{CutAt, Setting, found, life_at, setting_of}
use Rattle.dkg_script.proofs.EachEntry.{progress-more}
use Rattle.dkg_script.proofs.InclusionAsCut.{inclusion_as_cut}
use Rattle.dkg_lives.specs.Blamed.{IsAskedOwn, IsBlockCause, IsBlockOwn, IsFromOutside, IsLastCause, IsLastOwn, IsNextCause, IsOpeningCause, IsOwnCause, IsOwnDealing, IsProviderCause, IsWhy, IsWhyNow, OnBlock, OnCarried, first_epoch_in, is_beyond, epoch_behind, opening_block, per_epoch, refusal_in}
use Rattle.dkg_lives.specs.Epochs.{IsAnchorAbove, IsChecked}
use Rattle.dkg_lives.specs.Given.{AreBytes, blocks_in}
use Rattle.dkg_lives.specs.Lives.{AnyFiles, RunsSo, TellsEnd}
use Rattle.dkg_promises.specs.Refusals.{BlamesOnlySkips, IsNoFirst, IsRefusal, Skips, SkipsIn, SkipsNow}
use Rattle.dkg_lives.specs.Ways.{by_entries, trace}
use Rattle.dkg_lives.proofs.Awaiting.{IsReached}
use Rattle.dkg_promises.proofs.Blaming.{Judges, TellsWhy, all_judged}
use Rattle.dkg_along.proofs.Chaining.{IsOutside, IsSkipped, Tips, refused_so, tips_so}
use Rattle.dkg_lives.proofs.Checked.{anchor_above}
use Rattle.dkg_along.proofs.EachLife.{lives_over}
use Rattle.dkg_along.proofs.Following.{RunEndsBy}
use Rattle.dkg_promises.proofs.Keeping.{history_of}
use Rattle.dkg_along.proofs.Ordered.{all_in_order, tells_fault}
use Rattle.dkg_along.proofs.Runs.{starts}
use Rattle.dkg_lives.proofs.Standing.{IsBetweenOf, MayTell, Moves, TellsFault}

-- NO INFO, no share and no dealing is a reason for a block's refusal

own_apart : (script : Script) (epoch : ℕ) (info : EpochInfo directory.Unit) (its : Fault) → IsRefusal its → IsOwnCause script epoch info its → ⊥
own_apart script epoch info (fault.ConflictingBlock height) refusal why = why
own_apart script epoch info (fault.DetachedBlock height) refusal why = why
own_apart script epoch info (fault.SkippedHeight awaited got) refusal why = why
own_apart script epoch info (fault.OutOfWindow height) refusal why = why
own_apart script epoch info its refusal why = refusal

dealing_apart : (script : Script) (l : ℕ) (life : Life) (j : ℕ) (its : Fault) → IsRefusal its → IsOwnDealing script l life j its → ⊥
dealing_apart script l life j (fault.ConflictingBlock height) refusal why = why
dealing_apart script l life j (fault.DetachedBlock height) refusal why = why
dealing_apart script l life j (fault.SkippedHeight awaited got) refusal why = why
dealing_apart script l life j (fault.OutOfWindow height) refusal why = why
dealing_apart script l life j its refusal why = refusal

outside_apart : (its : Fault) → IsRefusal its → IsFromOutside its → ⊥
outside_apart (fault.ConflictingBlock height) refusal out = out
outside_apart (fault.DetachedBlock height) refusal out = out
outside_apart (fault.SkippedHeight awaited got) refusal out = out
outside_apart (fault.OutOfWindow height) refusal out = out
outside_apart its refusal out = refusal

carried_none : (P : EpochInfo directory.Unit → Type 0) → ((info : EpochInfo directory.Unit) → P info → ⊥) → (o : Option (Block directory.Unit)) → OnCarried o P → ⊥
carried_none P none None so = so
carried_none P none (Some b) so = by_info (info_of b.payload) so
  where
    by_info : (o : Option (EpochInfo directory.Unit)) → IsSomeAnd o P → ⊥
    by_info None so = so
    by_info (Some info) so = none info so

next_apart : (script : Script) (b : Block directory.Unit) (its : Fault) → IsRefusal its → IsNextCause script b its → ⊥
next_apart script b (fault.ConflictingBlock height) refusal why = carried_none (λ info. ⊥) (λ info none. none) (Some b) why
next_apart script b (fault.DetachedBlock height) refusal why = carried_none (λ info. ⊥) (λ info none. none) (Some b) why
next_apart script b (fault.SkippedHeight awaited got) refusal why = carried_none (λ info. ⊥) (λ info none. none) (Some b) why
next_apart script b (fault.OutOfWindow height) refusal why = carried_none (λ info. ⊥) (λ info none. none) (Some b) why
next_apart script b its refusal why = refusal

-- .. nor what the provider says

provider_apart : (script : Script) (epoch : ℕ) (its : Fault) → IsRefusal its → IsProviderCause script epoch its → ⊥
provider_apart script epoch (fault.ConflictingBlock height) refusal why = why
provider_apart script epoch (fault.DetachedBlock height) refusal why = why
provider_apart script epoch (fault.SkippedHeight awaited got) refusal why = why
provider_apart script epoch (fault.OutOfWindow height) refusal why = why
provider_apart script epoch its refusal why = refusal

asked_apart : (script : Script) (life : Life) (j epoch : ℕ) (its : Fault) → IsRefusal its → IsAskedOwn script life j epoch its → ⊥
asked_apart script life j epoch (fault.ConflictingBlock height) refusal why = why
asked_apart script life j epoch (fault.DetachedBlock height) refusal why = why
asked_apart script life j epoch (fault.SkippedHeight awaited got) refusal why = why
asked_apart script life j epoch (fault.OutOfWindow height) refusal why = why
asked_apart script life j epoch its refusal why = refusal

last_apart : (script : Script) (l : ℕ) (life : Life) (j : ℕ) (b : Block directory.Unit) (its : Fault) → IsRefusal its → IsLastCause script l life j b its → ⊥
last_apart script l life j b its refusal (inl provider) = provider_apart script (epoch_of (per_epoch script) b.height) its refusal provider.1
last_apart script l life j b its refusal (inr next) = next_apart script b its refusal next

last_own_apart : (script : Script) (l : ℕ) (life : Life) (j : ℕ) (b : Block directory.Unit) (its : Fault) → IsRefusal its → IsLastOwn script l life j b its → ⊥
last_own_apart script l life j b its refusal (inl next) =
    carried_none (λ info. IsOwnCause script (epoch_behind script b) info its) (λ info why. own_apart script (epoch_behind script b) info its refusal why) (Some b) next
last_own_apart script l life j b its refusal (inr asked) = asked_apart script life j (epoch_of (per_epoch script) b.height) its refusal asked.1

opening_apart : (script : Script) (l : ℕ) (life : Life) (its : Fault) → IsRefusal its → IsOpeningCause script l life its → ⊥
opening_apart script l life (fault.ConflictingBlock height) refusal why = carried_none (λ info. ⊥) (λ info none. none) (opening_block script l life) why
opening_apart script l life (fault.DetachedBlock height) refusal why = carried_none (λ info. ⊥) (λ info none. none) (opening_block script l life) why
opening_apart script l life (fault.SkippedHeight awaited got) refusal why = carried_none (λ info. ⊥) (λ info none. none) (opening_block script l life) why
opening_apart script l life (fault.OutOfWindow height) refusal why = carried_none (λ info. ⊥) (λ info none. none) (opening_block script l life) why
opening_apart script l life its refusal why = refusal

-- A REFUSED BLOCK is one that a step brings

pub record Refuses (script : Script) (l : ℕ) (life : Life) (step : ℕ) (its : Fault) : Type 0 where
  pub j : ℕ
  pub step_is : step ≡ suc j
  pub number : ℕ
  pub event_is : slice_get life.events j ≡ Some (event.Final number)
  pub block : Block directory.Unit
  pub block_is : slice_get (blocks_in script) number ≡ Some block
  pub refused : refusal_in script l life j block ≡ Some its

module _ (script : Script) (l : ℕ) (life : Life) (its : Fault) (refusal : IsRefusal its) where
  -- by the cause of the block that an event brings
  module _ (j : ℕ) (Why : Block directory.Unit → Type 0) (each : (b : Block directory.Unit) → Why b → refusal_in script l life j b ≡ Some its) where
    by_event : (o : Option Event) → slice_get life.events j ≡ o → IsSomeAnd o (λ e. OnBlock script e Why) → Refuses script l life (suc j) its
    by_event None at why = absurd why
    by_event (Some (event.Final number)) at why = by_block (slice_get (blocks_in script) number) refl why
      where
        by_block : (o : Option (Block directory.Unit)) → slice_get (blocks_in script) number ≡ o → IsSomeAnd o Why → Refuses script l life (suc j) its
        by_block None there why = absurd why
        by_block (Some b) there why = record { j = j; step_is = refl; number = number; event_is = at; block = b; block_is = there; refused = each b why }
    by_event (Some other) at why = absurd why

  block_refuses : (j : ℕ) (b : Block directory.Unit) → IsBlockCause script l life j b its → refusal_in script l life j b ≡ Some its
  block_refuses j b (inl refused) = refused
  block_refuses j b (inr last) = absurd (last_apart script l life j b its refusal last.1)

  own_none : (j : ℕ) (b : Block directory.Unit) → IsBlockOwn script l life j b its → ⊥
  own_none j b (inl last) = last_own_apart script l life j b its refusal last.1
  own_none j b (inr dealing) = dealing_apart script l life j its refusal dealing.1

  refuses : (step : ℕ) → IsWhy script l life step its → Refuses script l life step its
  refuses step (inl out) = absurd (outside_apart its refusal out)
  refuses zero (inr (inl (inl why))) = absurd (opening_apart script l life its refusal why)
  refuses zero (inr (inl (inr may))) = absurd may
  refuses zero (inr (inr (inl own))) = absurd (carried_none (λ info. IsOwnCause script (first_epoch_in script l life) info its) (λ info why. own_apart script (first_epoch_in script l life) info its refusal why) (opening_block script l life) own)
  refuses zero (inr (inr (inr asked))) = absurd asked
  refuses (suc j) (inr (inl (inl why))) = by_event j (λ b. IsBlockCause script l life j b its) (block_refuses j) (slice_get life.events j) refl why
  refuses (suc j) (inr (inl (inr may))) = absurd (provider_apart script (awaited_epoch (alone script) l life j) its refusal may.1)
  refuses (suc j) (inr (inr (inl own))) = by_event j (λ b. IsBlockOwn script l life j b its) (λ b why. absurd (own_none j b why)) (slice_get life.events j) refl own
  refuses (suc j) (inr (inr (inr asked))) = absurd (asked_apart script life (suc j) (awaited_epoch (alone script) l life j) its refusal asked.1)

-- OF A CONSISTENT SCRIPT

-- the events before one that is there
earlier_there : {A : Type 0} (xs : List A) (n : ℕ) (x : A) → slice_get xs n ≡ Some x → (i : ℕ) → i < n → (y : A) × (slice_get xs i ≡ Some y)
earlier_there {A} [] n x is i low = absurd (let wrong : ◌≡◌ {A = Option A} None (Some x) = is in cc)
earlier_there (y ∷ ys) n x is zero low = (y, refl)
earlier_there (y ∷ ys) zero x is (suc i) low = absurd (omega (arith, low))
earlier_there (y ∷ ys) (suc n) x is (suc i) low = earlier_there ys n x is i (omega (arith, low))

reached_before : (its : Option Cut) (j : ℕ) → IsReached its (suc j) → IsReached its j
reached_before None j reached = tt
reached_before (Some cut) j reached = λ none. let more : suc j < cut.step = reached none in omega (arith, more)

module _ (s : Setting) (ends : List (Option CutAt)) (form : IsFormOfInclusion s.script) (bytes : AreBytes s.script.blocks) (no_plans : s.plans ≡ []) (consistent : IsConsistentScript s ends) where
  life_skips : (l : ℕ) (life : Life) → life_at s l ≡ Some life → (step : ℕ) → IsReached life.cut step → (its : Fault) → IsRefusal its → Refuses s.script l life step its → SkipsIn s l life its
  life_skips l life life_is step comes its refusal refuses = record {
    taken = refuses.j;
    number = refuses.number;
    block = refuses.block;
    event_is = refuses.event_is;
    reached = reached;
    block_is = refuses.block_is;
    so = by_cause (refused_so s ends consistent form bytes l life life_is anchored no_sync none_found refuses.j refuses.number refuses.block refuses.event_is reached refuses.block_is tips its refuses.refused);
  }
    where
      no_sync : life.sync ≡ None
      no_sync = (form.lives l life life_is).no_sync

      none_found : found s l ≡ None
      none_found = rw no_plans refl

      anchored : IfSome life.anchor (IsAnchorAbove s.script.blocks)
      anchored = anchor_above s.script.blocks life.anchor (form.lives l life life_is).anchor

      reached : IsReached life.cut (suc refuses.j)
      reached = subst (IsReached life.cut) refuses.step_is comes

      tips : Tips s ends consistent form bytes l life life_is anchored no_sync none_found refuses.j
      tips = tips_so s ends consistent form bytes l life life_is anchored no_sync none_found (form.lives l life life_is).events refuses.j (reached_before life.cut refuses.j reached)
          (earlier_there life.events refuses.j (event.Final refuses.number) refuses.event_is)

      by_cause : ((its ≡ fault.HeightRange) × (is_beyond s.script (refuses.block).height ≡ true)) ⊎ (IsSkipped s ends consistent form bytes l life life_is anchored no_sync none_found refuses.j refuses.block its ⊎ IsOutside s ends consistent form bytes l life life_is anchored no_sync none_found refuses.j refuses.block its)
          → Skips s l life refuses.j refuses.block its ⊎ IsNoFirst s l life refuses.j refuses.block its
      by_cause (inl range) = absurd (subst IsRefusal range.0 refusal)
      by_cause (inr (inl skipped)) = inl (record { fault_is = skipped.fault_is; positioned = skipped.some; above = skipped.above })
      by_cause (inr (inr outside)) = inr (record { fault_is = outside.fault_is; unpositioned = outside.first; untaken = outside.untaken })

-- a fault ends no life
cuts_before : (s : Setting) (es : List Entry) (its : Fault) → cuts_in s (es ++ entry.Fault its ∷ []) ≡ (fold (read s) (at_start s) es).cuts
unfolding progress
cuts_before s es its = ap (λ (q : Progress). q.cuts) (progress-more s es (entry.Fault its))

-- IN A RUN of a script as it was cut

module _ (script : Script) (form : IsFormOfInclusion script) (checked : IsChecked script) (bytes : AreBytes script.blocks) (files : Files) (image : Files → Type 0) (held : Secrets) (answered : Result (Unit {0}) Fault) (old new added : List Entry)
    (is : new ≡ old ++ added) (picks : List ℕ) where
  abbrev cut_script : Script
  cut_script = as_cut (progress (setting_of script files held) added).cuts script

  abbrev s : Setting
  s = setting_as_cut script files held added

  cut_form : IsFormOfInclusion cut_script
  cut_form = inclusion_as_cut (progress (setting_of script files held) added).cuts script form

  -- THE CLAUSE of skips
  pub run_skips : RunsSo by_entries cut_script AnyFiles (trace old []) answered (trace new picks) → IfErr answered (BlamesOnlySkips s image (cuts_in s added))
  run_skips run = by_result run.result (all_judged cut_script checked (lives_over cut_script cut_form checked) AnyFiles (trace old []) run.mid run.result run.lives) (all_in_order cut_script AnyFiles (trace old []) run.mid run.result run.lives) answered run.told
    where
      -- where the fault is told
      told_here : (its : Fault) → (judged : Moves (Judges cut_script) (IsBetweenOf cut_script 0) (TellsWhy cut_script its) old run.mid.out) → Moves IsInOrder (IsBetweenOf cut_script 0) (MayTell its) old run.mid.out → new ≡ run.mid.out ++ entry.Fault its ∷ []
          → BlamesOnlySkips s image (cuts_in s added) its
      told_here its judged ordered told built honest refusal = by_life (life_at s (length p.cuts)) refl where_told placed
        where
          its_added : added ≡ judged.added ++ entry.Fault its ∷ []
          its_added = append_cancel_left old added (judged.added ++ entry.Fault its ∷ [])
              (sym is ∙ told ∙ ap (λ (es : List Entry). es ++ entry.Fault its ∷ []) judged.parts ∙ append_assoc old judged.added (entry.Fault its ∷ []))

          p : Progress
          p = fold (read s) (at_start s) judged.added

          ends_are : cuts_in s added ≡ p.cuts
          ends_are = ap (λ (es : List Entry). cuts_in s es) its_added ∙ cuts_before s judged.added its

          -- why, and that the script lets the step in hand begin
          where_told : IsSomeAnd (life_at s (length p.cuts)) (λ life. IsWhy cut_script (length p.cuts) life p.step its)
          where_told = of_cause (judged.to s (at_start s) (starts cut_script files held))
            where
              of_cause : IsWhyNow cut_script p its → IsSomeAnd (life_at s (length p.cuts)) (λ life. IsWhy cut_script (length p.cuts) life p.step its)
              of_cause (inl out) = absurd (outside_apart its refusal out)
              of_cause (inr why) = why

          placed : ((p.cuts ≡ []) × (p.step ≡ 0) × (p.written ≡ [])) ⊎ InLife s p (LetsBegin p)
          placed = of_order (subst (λ (es : List Entry). MayTell its s (fold (read s) (at_start s) es)) (append_cancel_left old ordered.added judged.added (sym ordered.parts ∙ judged.parts)) (ordered.to s (at_start s) (starts cut_script files held)))
            where
              of_order : MayTell its s p → ((p.cuts ≡ []) × (p.step ≡ 0) × (p.written ≡ [])) ⊎ InLife s p (LetsBegin p)
              of_order (inl wants) = absurd (subst IsRefusal wants refusal)
              of_order (inr so) = so

          consistent : IsConsistentScript s (cuts_in s added)
          consistent = honest.source [] (history_of s (cuts_in s added) cut_form built.no_plan refl)

          by_life : (o : Option Life) → life_at s (length p.cuts) ≡ o → IsSomeAnd o (λ life. IsWhy cut_script (length p.cuts) life p.step its) → ((p.cuts ≡ []) × (p.step ≡ 0) × (p.written ≡ [])) ⊎ IsSomeAnd o (LetsBegin p)
              → SkipsNow s (cuts_in s added) its
          by_life None life_is why so = absurd why
          by_life (Some life) life_is why (inl start) =
              let refused : Refuses cut_script (length p.cuts) life p.step its = refuses cut_script (length p.cuts) life its refusal p.step why in
              absurd (let first : 0 ≡ suc refused.j = sym start.1 ∙ refused.step_is in omega (arith, first))
          by_life (Some life) life_is why (inr begins) =
              let skips : SkipsIn s (length p.cuts) life its = life_skips s (cuts_in s added) cut_form bytes refl consistent (length p.cuts) life life_is p.step begins its refusal (refuses cut_script (length p.cuts) life its refusal p.step why) in
              let same : length p.cuts ≡ length (cuts_in s added) = ap length (sym ends_are) in
              record {
                life = life;
                life_is = subst (λ (l : ℕ). life_at s l ≡ Some life) same life_is;
                skips = subst (λ (l : ℕ). SkipsIn s l life its) same skips;
              }

      by_result : (result : Result (Unit {0}) Fault) → Moves (Judges cut_script) (IsBetweenOf cut_script 0) (RunEndsBy (TellsWhy cut_script) cut_script result) old run.mid.out → Moves IsInOrder (IsBetweenOf cut_script 0) (RunEndsBy MayTell cut_script result) old run.mid.out
          → (answered : Result (Unit {0}) Fault) → TellsEnd by_entries result answered run.mid (trace new picks) → IfErr answered (BlamesOnlySkips s image (cuts_in s added))
      by_result (Ok done) judged ordered answered told = subst (λ (r : Result (Unit {0}) Fault). IfErr r (BlamesOnlySkips s image (cuts_in s added))) (sym told.0) tt
      by_result (Err its) judged ordered (Ok done) told = tt
      by_result (Err its) judged ordered (Err answered) told = by_told (tells_fault its answered run.mid (trace new picks) told)
        where
          by_told : TellsFault its answered run.mid.out new → BlamesOnlySkips s image (cuts_in s added) answered
          by_told (inl none) = λ built honest refusal. absurd (subst IsRefusal none.0 refusal)
          by_told (inr so) = subst (BlamesOnlySkips s image (cuts_in s added)) (sym so.0) (told_here its judged ordered so.2)
