-- What the lives of a run make of where it stands, one life after another, from any entry predicate E.
use Rattle.std.proofs.Common.{◌≡◌, ◌⊎◌, inl, inr, ℕ, zero, suc, ◌+◌, ◌-◌, ◌<◌, ◌≤◌, ◌++◌, ◌∷◌, [], List, Option, Some, None, Result, Ok, Err, refl, sym, ◌∙◌, ap, subst, length, drop, arith, add-one}
use Rattle.std.specs.Prelude.{IsSomeAnd, slice_get}
use Rattle.std.proofs.lemmas.List.{length-drop}
use Rattle.dkg_journal.specs.Names.{Files}
use Rattle.dkg_infos.specs.declared.entry.Entry.{Entry}
use Rattle.dkg_infos.specs.declared.entry.Entry.TheVariants as entry
use Rattle.dkg_infos.specs.declared.fault.Fault.{Fault}
use Rattle.dkg_infos.specs.declared.fault.Fault.TheVariants.{NoMemory}
use Rattle.dkg_text.specs.declared.script.Cut as cut
use Rattle.dkg_text.specs.declared.script.Life.{Life}
use Rattle.dkg_text.specs.declared.script.Script.{Script}
use Rattle.dkg_script.specs.Progress.{Progress}
use Rattle.dkg_script.specs.Setting.{Setting}
use Rattle.dkg_store.specs.Acts.{Held}
use Rattle.dkg_core.specs.Seen.{Seen}
use Rattle.dkg_life.specs.declared.stop.Stop.{Stop}
use Rattle.dkg_life.specs.declared.stop.Stop.TheVariants.{Cut, Failed, Fault as FaultOf}
use Rattle.dkg_lives.specs.Epochs.{refused_config}
use Rattle.dkg_lives.specs.Given.{lived}
use Rattle.dkg_lives.specs.Lives.{AnyFiles, EndsLife, LivesFrom, LivesSo, RunsAllSo}
use Rattle.dkg_lives.specs.Ways.{ReadsSomething, Trace, by_entries}
use Rattle.dkg_along.proofs.InOrder.{life_begins}
use Rattle.dkg_lives.proofs.Moving.{moves_none, moves_then, moves_within}
use Rattle.dkg_lives.proofs.Standing.{IsAtCut, IsBefore, IsBetween, IsBetweenOf, Moves}

-- WHAT IS LEFT of a list

pub rest_at : {A : Type 0} (all : List A) (i : ℕ) (its : A) (more : List A) → its ∷ more ≡ drop i all → more ≡ drop (suc i) all
rest_at [] zero its more is = absurd (let wrong : its ∷ more ≡ [] = is in cc)
rest_at [] (suc i) its more is = absurd (let wrong : its ∷ more ≡ [] = is in cc)
rest_at (x ∷ all) zero its more is = let so : its ∷ more ≡ x ∷ all = is in cc
rest_at (x ∷ all) (suc i) its more is = rest_at all i its more is

pub item_at : {A : Type 0} (all : List A) (i : ℕ) (its : A) (more : List A) → its ∷ more ≡ drop i all → slice_get all i ≡ Some its
item_at [] zero its more is = absurd (let wrong : its ∷ more ≡ [] = is in cc)
item_at [] (suc i) its more is = absurd (let wrong : its ∷ more ≡ [] = is in cc)
item_at (x ∷ all) zero its more is = let so : its ∷ more ≡ x ∷ all = is in cc
item_at (x ∷ all) (suc i) its more is = item_at all i its more is

-- WHERE A RUN STANDS, if a fault is told only where `Told` holds of it

module _ (Told : Fault → Setting → Progress → Type 0) where
  -- behind a life that ended so
  abbrev pub EndsBy : Life → (l : ℕ) → Result (Unit {0}) Stop → Setting → Progress → Type 0
  EndsBy life l (Ok done) s p = IsBetween (l + 1) s p
  EndsBy life l (Err Cut) s p = IsAtCut life l s p
  EndsBy life l (Err (FaultOf its)) s p = Told its s p
  EndsBy life l (Err Failed) s p = Unit {0}

  -- .. and behind all lives
  abbrev pub RunEndsBy : Script → Result (Unit {0}) Fault → Setting → Progress → Type 0
  RunEndsBy script (Ok done) s p = IsBetweenOf script (length script.lives) s p
  RunEndsBy script (Err its) s p = Told its s p

-- ONE LIFE OF A SCRIPT

module _ (E : Setting → Progress → Entry → Type 0) (script : Script) (life : Life) (l : ℕ) (life_is : slice_get script.lives l ≡ Some life) where
  begins : (s : Setting) (p : Progress) → IsBetweenOf script l s p → IsBefore life l 0 s p
  begins s p is = life_begins life l s p (ap (λ (x : Script). slice_get x.lives l) is.of_script ∙ life_is) is.between

  moves_life : (old new : List Entry) → Moves E (IsBefore life l 0) (IsBetween (l + 1)) old new → Moves E (IsBetweenOf script l) (IsBetweenOf script (l + 1)) old new
  moves_life old new a = record {
    added = a.added;
    parts = a.parts;
    each = λ s p is. a.each s p (begins s p is);
    to = λ s p is. record { of_script = is.of_script; between = a.to s p (begins s p is) };
    no_fault = a.no_fault;
  }

  moves_in_life : (Q : Setting → Progress → Type 0) (old new : List Entry) → Moves E (IsBefore life l 0) Q old new → Moves E (IsBetweenOf script l) Q old new
  moves_in_life Q old new a = moves_within E (IsBefore life l 0) (IsBetweenOf script l) Q Q old new begins (λ s p is. is) a

-- ALL LIVES, where each one moves so

module _ (E : Setting → Progress → Entry → Type 0) (Told : Fault → Setting → Progress → Type 0) (untold : (s : Setting) (p : Progress) → Told NoMemory s p)
    (cuts : (life : Life) (l : ℕ) (its : cut.Cut) (old new : List Entry) → life.cut ≡ Some its → new ≡ old ++ entry.Cut its.step its.call ∷ [] → Moves E (IsAtCut life l) (IsBetween (l + 1)) old new)
    (script : Script) where
  life_moves : (l : ℕ) (life : Life) → slice_get script.lives l ≡ Some life → (how : Result (Unit {0}) Stop) (t mid new : Trace) (result : Result (Unit {0}) Fault) (next : Trace → Type 0)
      → Moves E (IsBefore life l 0) (EndsBy Told life l how) t.out mid.out
      → ((t : Trace) → next t → Moves E (IsBetweenOf script (l + 1)) (RunEndsBy Told script result) t.out new.out)
      → EndsLife by_entries life how mid result new next → Moves E (IsBetweenOf script l) (RunEndsBy Told script result) t.out new.out
  life_moves l life at (Ok done) t mid new result next moves after ends =
      moves_then E (IsBetweenOf script l) (IsBetweenOf script (l + 1)) (RunEndsBy Told script result) t.out mid.out new.out
      (moves_life E script life l at t.out mid.out moves) (after (by_entries.stops mid life.pick) ends)
  life_moves l life at (Err (FaultOf its)) t mid new result next moves after ends =
      subst (λ (r : Result (Unit {0}) Fault). Moves E (IsBetweenOf script l) (RunEndsBy Told script r) t.out new.out) (sym ends.0)
      (moves_in_life E script life l at (Told its) t.out new.out (subst (λ (x : Trace). Moves E (IsBefore life l 0) (Told its) t.out x.out) (sym ends.1) moves))
  life_moves l life at (Err Failed) t mid new result next moves after ends = absurd ends
  life_moves l life at (Err Cut) t mid new result next moves after ends = by_cut life.cut refl ends
    where
      by_cut : (o : Option cut.Cut) → life.cut ≡ o
          → IsSomeAnd o (λ its. ((result ≡ Err NoMemory) × (new ≡ by_entries.stops mid its.pick)) ⊎ next (by_entries.says (by_entries.stops mid its.pick) (entry.Cut its.step its.call)))
          → Moves E (IsBetweenOf script l) (RunEndsBy Told script result) t.out new.out
      by_cut None none its = absurd its
      by_cut (Some its) is (inl wants) = subst (λ (r : Result (Unit {0}) Fault). Moves E (IsBetweenOf script l) (RunEndsBy Told script r) t.out new.out) (sym wants.0)
          (moves_in_life E script life l at (Told NoMemory) t.out new.out (moves_then E (IsBefore life l 0) (IsAtCut life l) (Told NoMemory) t.out mid.out new.out moves
          (moves_none E (IsAtCut life l) (Told NoMemory) mid.out new.out (ap (λ (x : Trace). x.out) wants.1) (λ s p is. untold s p))))
      by_cut (Some its) is (inr so) =
          moves_then E (IsBetweenOf script l) (IsBetweenOf script (l + 1)) (RunEndsBy Told script result) t.out (mid.out ++ entry.Cut its.step its.call ∷ []) new.out
          (moves_life E script life l at t.out (mid.out ++ entry.Cut its.step its.call ∷ [])
          (moves_then E (IsBefore life l 0) (IsAtCut life l) (IsBetween (l + 1)) t.out mid.out (mid.out ++ entry.Cut its.step its.call ∷ []) moves
          (cuts life l its mid.out (mid.out ++ entry.Cut its.step its.call ∷ []) is refl)))
          (after (by_entries.says (by_entries.stops mid its.pick) (entry.Cut its.step its.call)) so)

  module _ (lives_move : (l : ℕ) (life : Life) (seen : Held → Seen) (files : Files) → slice_get script.lives l ≡ Some life → ReadsSomething seen → (t mid : Trace) (how : Result (Unit {0}) Stop)
      → LivesSo by_entries (lived script l life seen files) files t how mid → Moves E (IsBefore life l 0) (EndsBy Told life l how) t.out mid.out) where
    from_moves : (first : Files → Type 0) (l : ℕ) (lives : List Life) (t new : Trace) (result : Result (Unit {0}) Fault) → l ≤ length script.lives → lives ≡ drop l script.lives
        → LivesFrom by_entries script first l lives t result new → Moves E (IsBetweenOf script l) (RunEndsBy Told script result) t.out new.out
    from_moves first l [] t new result within rest its =
        subst (λ (r : Result (Unit {0}) Fault). Moves E (IsBetweenOf script l) (RunEndsBy Told script r) t.out new.out) (sym its.0)
        (moves_none E (IsBetweenOf script l) (IsBetweenOf script (length script.lives)) t.out new.out (ap (λ (x : Trace). x.out) its.1) (λ s p at. subst (λ (n : ℕ). IsBetweenOf script n s p) all at))
      where
        all : l ≡ length script.lives
        all = let none : 0 ≡ length script.lives - l = ap length rest ∙ length-drop l script.lives in omega (arith, within, none)
    from_moves first l (life ∷ lives) t new result within rest (seen, files, how, mid, reads, known, begins, so, ends) =
        life_moves l life at how t mid new result (λ mid. LivesFrom by_entries script AnyFiles (l + 1) lives mid result new) (lives_move l life seen files at reads t mid how so)
        (λ t its. from_moves AnyFiles (l + 1) lives t new result (omega (arith, below)) (subst (λ (k : ℕ). lives ≡ drop k script.lives) (sym (add-one l)) (rest_at script.lives l life lives rest)) its)
        ends
      where
        below : l < length script.lives
        below = let some : suc (length lives) ≡ length script.lives - l = ap length rest ∙ length-drop l script.lives in omega (arith, some)

        at : slice_get script.lives l ≡ Some life
        at = item_at script.lives l life lives rest

    -- .. of a script whose configuration is refused, only where that may be told
    pub all_move : ((its : Fault) → refused_config script ≡ Some its → (s : Setting) (p : Progress) → IsBetweenOf script 0 s p → Told its s p) → (first : Files → Type 0) (t new : Trace) (result : Result (Unit {0}) Fault)
        → RunsAllSo by_entries script first t result new → Moves E (IsBetweenOf script 0) (RunEndsBy Told script result) t.out new.out
    all_move refusal first t new result (inl (its, refused, is, same)) = subst (λ (r : Result (Unit {0}) Fault). Moves E (IsBetweenOf script 0) (RunEndsBy Told script r) t.out new.out) (sym is)
        (moves_none E (IsBetweenOf script 0) (Told its) t.out new.out (ap (λ (x : Trace). x.out) same) (refusal its refused))
    all_move refusal first t new result (inr (checked, inl wants)) = subst (λ (r : Result (Unit {0}) Fault). Moves E (IsBetweenOf script 0) (RunEndsBy Told script r) t.out new.out) (sym wants.0)
        (moves_none E (IsBetweenOf script 0) (Told NoMemory) t.out new.out (ap (λ (x : Trace). x.out) wants.1) (λ s p at. untold s p))
    all_move refusal first t new result (inr (checked, inr lives)) = from_moves first 0 script.lives t new result (omega arith) refl lives
