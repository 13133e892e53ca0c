-- Lives, one after another, in either way.
use Rattle.std.proofs.Common.{◌≡◌, ◌⊎◌, inl, inr, ℕ, suc, ◌+◌, ◌++◌, ◌∷◌, [], ◌≤◌, List, Option, Some, None, Result, Ok, Err, refl, sym, ◌∙◌, ap, subst, drop, length, add-one}
use Rattle.std.specs.Prelude.{IsSomeAnd, slice_get}
use Rattle.std.proofs.Math.ListN.{drop_of_length-le}
use Rattle.dkg_journal.specs.Burn.{Burn}
use Rattle.dkg_journal.specs.Names.{Files}
use Rattle.dkg_infos.specs.declared.entry.Entry.{Entry}
use Rattle.dkg_infos.specs.declared.entry.Entry.TheVariants as entry
use Rattle.dkg_infos.specs.declared.fault.Fault.{Fault}
use Rattle.dkg_infos.specs.declared.fault.Fault.TheVariants.{NoMemory}
use Rattle.dkg_text.specs.declared.script.Cut as cut
use Rattle.dkg_text.specs.declared.script.Life.{Life}
use Rattle.dkg_text.specs.declared.script.Script.{Script}
use Rattle.dkg_store.specs.Acts.{World, at, moment}
use Rattle.dkg_secrets.specs.Secrets.{Secrets}
use Rattle.dkg_life.specs.declared.stop.Stop.{Stop}
use Rattle.dkg_life.specs.declared.stop.Stop.TheVariants.{Cut, Failed, Fault as FaultOf}
use Rattle.dkg_lives.specs.Lives.{AnyFiles, EndsLife, LivesFrom, LivesHere, RunsAllSo, RunsSo, TellsEnd}
use Rattle.dkg_lives.specs.Ways.{Way, Trace, by_entries, by_worlds, trace}
use Rattle.dkg_around.proofs.Stepping.{drop_item}

-- A LIFE'S END over worlds, from that over lines: the devices' stops change nothing of what is held

module _ (life : Life) (out now : List Entry) (picks after : List ℕ) (w new : World) (result : Result (Unit {0}) Fault) (same_out : new ≡ record w { out = now }) (starts : w.out ≡ out) where
  pub ends_over : (how : Result (Unit {0}) Stop) → EndsLife by_entries life how (trace out picks) result (trace now after) (λ t. (result ≡ Ok tt) × (t ≡ trace now after))
      → EndsLife by_worlds life how w result new (λ v. (result ≡ Ok tt) × (v ≡ new))
  ends_over (Ok done) ends = (ends.0, at_out out starts (ap (λ (t : Trace). t.out) ends.1))
    where
      at_out : (lines : List Entry) → w.out ≡ lines → lines ≡ now → w ≡ new
      at_out lines is same = ap (λ (l : List Entry). record w { out = l }) (is ∙ same) ∙ sym same_out
  ends_over (Err (FaultOf its)) ends = (ends.0, same_out ∙ ap (λ (l : List Entry). record w { out = l }) (ap (λ (t : Trace). t.out) ends.1 ∙ sym starts))
  ends_over (Err Failed) ends = absurd ends
  ends_over (Err Cut) ends = by_cut life.cut ends
    where
      by_cut : (o : Option cut.Cut)
          → IsSomeAnd o (λ its. ((result ≡ Err NoMemory) × (trace now after ≡ by_entries.stops (trace out picks) its.pick))
          ⊎ ((result ≡ Ok tt) × (by_entries.says (by_entries.stops (trace out picks) its.pick) (entry.Cut its.step its.call) ≡ trace now after)))
          → IsSomeAnd o (λ its. ((result ≡ Err NoMemory) × (new ≡ w)) ⊎ ((result ≡ Ok tt) × (by_worlds.says w (entry.Cut its.step its.call) ≡ new)))
      by_cut None ends = ends
      by_cut (Some its) (inl wants) = inl (wants.0, same_out ∙ ap (λ (l : List Entry). record w { out = l }) (ap (λ (t : Trace). t.out) wants.1 ∙ sym starts))
      by_cut (Some its) (inr told) = inr (told.0, ap (λ (l : List Entry). record w { out = l }) (ap (λ (l : List Entry). l ++ entry.Cut its.step its.call ∷ []) starts ∙ ap (λ (t : Trace). t.out) told.1) ∙ sym same_out)

-- ALL LIVES

-- it was answered Ok
abbrev pub IsDone : Result (Unit {0}) Fault → Type 0
IsDone result = result ≡ Ok tt

module _ {W : Type 0} (way : Way W) (script : Script) where
  -- what is known of the first files may be less
  pub from_any : (P : Files → Type 0) (l : ℕ) (lives : List Life) (w new : W) (result : Result (Unit {0}) Fault) → LivesFrom way script P l lives w result new → LivesFrom way script AnyFiles l lives w result new
  from_any P l [] w new result its = its
  from_any P l (life ∷ lives) w new result (seen, files, how, mid, reads, known, begins, so, ends) = (seen, files, how, mid, reads, tt, begins, so, ends)

  -- a life that was answered so, whatever was to come
  life_ends : (life : Life) (how : Result (Unit {0}) Stop) (mid new : W) (its : Fault) (next : W → Type 0) → EndsLife way life how mid (Err its) new (λ v. IsDone (Err its) × (v ≡ new)) → EndsLife way life how mid (Err its) new next
  life_ends life (Ok done) mid new its next ends = absurd (let wrong : ◌≡◌ {A = Result (Unit {0}) Fault} (Err its) (Ok tt) = ends.0 in cc)
  life_ends life (Err (FaultOf own)) mid new its next ends = ends
  life_ends life (Err Failed) mid new its next ends = ends
  life_ends life (Err Cut) mid new its next ends = by_cut life.cut ends
    where
      by_cut : (o : Option cut.Cut)
          → IsSomeAnd o (λ c. ((◌≡◌ {A = Result (Unit {0}) Fault} (Err its) (Err NoMemory)) × (new ≡ way.stops mid c.pick)) ⊎ (IsDone (Err its) × (way.says (way.stops mid c.pick) (entry.Cut c.step c.call) ≡ new)))
          → IsSomeAnd o (λ c. ((◌≡◌ {A = Result (Unit {0}) Fault} (Err its) (Err NoMemory)) × (new ≡ way.stops mid c.pick)) ⊎ next (way.says (way.stops mid c.pick) (entry.Cut c.step c.call)))
      by_cut None ends = ends
      by_cut (Some c) (inl wants) = inl wants
      by_cut (Some c) (inr told) = absurd (let wrong : ◌≡◌ {A = Result (Unit {0}) Fault} (Err its) (Ok tt) = told.0 in cc)

  pub life_stops : (P : Files → Type 0) (l : ℕ) (life : Life) (w new : W) (its : Fault) (next : W → Type 0) → LivesHere way script P l life w (Err its) new (λ v. IsDone (Err its) × (v ≡ new))
      → LivesHere way script P l life w (Err its) new next
  life_stops P l life w new its next (seen, files, how, mid, reads, known, begins, so, ends) = (seen, files, how, mid, reads, known, begins, so, life_ends life how mid new its next ends)

  -- .. and what comes behind one that was answered Ok
  life_goes : (life : Life) (how : Result (Unit {0}) Stop) (mid new end : W) (result : Result (Unit {0}) Fault) (next : W → Type 0) → EndsLife way life how mid (Ok tt) new (λ v. IsDone (Ok tt) × (v ≡ new)) → next new
      → EndsLife way life how mid result end next
  life_goes life (Ok done) mid new end result next ends then = subst next (sym ends.1) then
  life_goes life (Err (FaultOf own)) mid new end result next ends then = absurd (let wrong : ◌≡◌ {A = Result (Unit {0}) Fault} (Ok tt) (Err own) = ends.0 in cc)
  life_goes life (Err Failed) mid new end result next ends then = absurd ends
  life_goes life (Err Cut) mid new end result next ends then = by_cut life.cut ends
    where
      by_cut : (o : Option cut.Cut)
          → IsSomeAnd o (λ c. ((◌≡◌ {A = Result (Unit {0}) Fault} (Ok tt) (Err NoMemory)) × (new ≡ way.stops mid c.pick)) ⊎ (IsDone (Ok tt) × (way.says (way.stops mid c.pick) (entry.Cut c.step c.call) ≡ new)))
          → IsSomeAnd o (λ c. ((result ≡ Err NoMemory) × (end ≡ way.stops mid c.pick)) ⊎ next (way.says (way.stops mid c.pick) (entry.Cut c.step c.call)))
      by_cut None ends = ends
      by_cut (Some c) (inl wants) = absurd (let wrong : ◌≡◌ {A = Result (Unit {0}) Fault} (Ok tt) (Err NoMemory) = wants.0 in cc)
      by_cut (Some c) (inr told) = inr (subst next (sym told.1) then)

  pub life_goes_on : (P : Files → Type 0) (l : ℕ) (life : Life) (w mid end : W) (result : Result (Unit {0}) Fault) (next : W → Type 0) → LivesHere way script P l life w (Ok tt) mid (λ v. IsDone (Ok tt) × (v ≡ mid))
      → next mid → LivesHere way script P l life w result end next
  life_goes_on P l life w mid end result next (seen, files, how, at, reads, known, begins, so, ends) then = (seen, files, how, at, reads, known, begins, so, life_goes life how at mid end result next ends then)

  -- A LOOP over all lives: to live the rest from here is to live all
  module _ (first : Files → Type 0) (lives : List Life) (w : W) where
    abbrev pub LivesOn : (i : ℕ) (known : Files → Type 0) (here : W) → Type 0
    LivesOn i known here = (result : Result (Unit {0}) Fault) (new : W) → LivesFrom way script known i (drop i lives) here result new → LivesFrom way script first 0 lives w result new

    pub lives_first : LivesOn 0 first w
    lives_first result new its = its

    module _ (i : ℕ) (known : Files → Type 0) (life : Life) (at_life : slice_get lives i ≡ Some life) (here : W) (on : LivesOn i known here) where
      rest : (result : Result (Unit {0}) Fault) (new : W) → LivesHere way script known i life here result new (λ mid. LivesFrom way script AnyFiles (i + 1) (drop (suc i) lives) mid result new) → LivesFrom way script first 0 lives w result new
      rest result new its = on result new (subst (λ (ls : List Life). LivesFrom way script known i ls here result new) (sym (drop_item lives i life at_life)) its)

      pub lives_next : (mid : W) (after : Files → Type 0) → LivesHere way script known i life here (Ok tt) mid (λ v. IsDone (Ok tt) × (v ≡ mid)) → LivesOn (i + 1) after mid
      lives_next mid after its result new more = rest result new
          (life_goes_on known i life here mid new result (λ mid. LivesFrom way script AnyFiles (i + 1) (drop (suc i) lives) mid result new) its
          (from_any after (i + 1) (drop (suc i) lives) mid new result (subst (λ (k : ℕ). LivesFrom way script after (i + 1) (drop k lives) mid result new) (add-one i) more)))

      pub lives_stop : (its : Fault) (new : W) → LivesHere way script known i life here (Err its) new (λ v. IsDone (Err its) × (v ≡ new)) → LivesFrom way script first 0 lives w (Err its) new
      lives_stop its new so = rest (Err its) new (life_stops known i life here new its (λ mid. LivesFrom way script AnyFiles (i + 1) (drop (suc i) lives) mid (Err its) new) so)

    pub lives_end : (i : ℕ) (known : Files → Type 0) (here : W) → length lives ≤ i → LivesOn i known here → LivesFrom way script first 0 lives w (Ok tt) here
    lives_end i known here all on = on (Ok tt) here (subst (λ (ls : List Life). LivesFrom way script known i ls here (Ok tt) here) (sym (drop_of_length-le lives all)) (refl, refl))

-- THE RUN, with the line of its fault

pub runs_well : {W : Type 0} (way : Way W) (script : Script) (first : Files → Type 0) (w new : W) → RunsAllSo way script first w (Ok tt) new → RunsSo way script first w (Ok tt) new
runs_well way script first w new lives = record { result = Ok tt; mid = new; lives = lives; told = (refl, refl) }

pub runs_faulted : {W : Type 0} (way : Way W) (script : Script) (first : Files → Type 0) (w mid new : W) (its answered : Fault) → RunsAllSo way script first w (Err its) mid → TellsEnd way (Err its) (Err answered) mid new
    → RunsSo way script first w (Err answered) new
runs_faulted way script first w mid new its answered lives told = record { result = Err its; mid = mid; lives = lives; told = told }

-- a line that is added over lines is added over worlds
pub tells_over : (its answered : Fault) (out now : List Entry) (picks : List ℕ) (held : Secrets) (f : Burn) (files : Files) → TellsEnd by_entries (Err its) (Err answered) (trace out picks) (trace now picks)
    → TellsEnd by_worlds (Err its) (Err answered) (at (moment out held f) files) (at (moment now held f) files)
tells_over its answered out now picks held f files (inl wants) = inl (wants.0, ap (λ (t : Trace). at (moment t.out held f) files) wants.1)
tells_over its answered out now picks held f files (inr told) = inr (told.0, told.1, ap (λ (t : Trace). at (moment t.out held f) files) told.2)
