-- A consistent script is consistent as it was cut: it uses no other block, and each life comes as far by the events that it has.
use Rattle.std.proofs.Common.{ℕ, zero, suc, ◌+◌, ◌<◌, ◌≤◌, ◌⊎◌, inl, inr, List, [], ◌∷◌, ◌++◌, ◌≡◌, refl, sym, ap, subst, ◌∙◌, Option, Some, None, Bool, true, false, length, take, arith, take-take}
use Rattle.std.specs.Prelude.{cond, fold, find, filter_map, map, max, slice_get, option_map, option_to_list, IfSome, ◌==◌, ◌-◌}
use Rattle.std.specs.List.{AllByRecursion, cons_option}
use Rattle.std.specs.Option.{option_map_or}
use Rattle.std.proofs.lemmas.Bool.{cases_lt}
use Rattle.std.proofs.lemmas.Option.{slice_get_within}
use Rattle.dkg_journal.specs.Names.{Files}
use Rattle.dkg_infos.specs.declared.entry.Entry.{Entry}
use Rattle.dkg_text.specs.declared.script.Cut.{Cut as ScriptCut}
use Rattle.dkg_text.specs.declared.script.Event.{Event}
use Rattle.dkg_text.specs.declared.script.Life.{Life}
use Rattle.dkg_script.specs.Readings.{Info, SyncMaterial}
use Rattle.dkg_script.specs.Schedule.{epoch_of}
use Rattle.dkg_script.specs.Setting.{Setting, CutAt, blocks_per_epoch, life_at, found, setting_of}
use Rattle.dkg_script.specs.Blocks.{ScriptBlock, numbered_block, carried_infos, chain, chain_below, delivered_number, events_come_to, handed_in, held_at_opening, info_at_boundary, provided_material, used, used_in}
use Rattle.dkg_script.specs.Position.{IsLeft, IsPlanHistory, awaited_before, awaited_epoch, awaited_epoch_in, awaited_height_after, cut_of, delivered, event_of_step, events_taken, last_awaited, first_height}
use Rattle.dkg_script.specs.Progress.{Progress, progress}
use Rattle.dkg_script.specs.Consistent.{IsConsistentScript, IsFromAnother}
use Rattle.dkg_script.specs.Order.{InOrder}
use Rattle.dkg_script.specs.Promise.{IsHonestRun, with_plans}
use Rattle.dkg_script.specs.Valid.{IsValidScript}
use Rattle.dkg_script.specs.AsCut.{cut_within, life_as_cut, lives_as_cut, with_cuts}
use Rattle.dkg_script.specs.AsCutLaws.{HonestAnyhow, ValidAsCut}
use Rattle.dkg_script.proofs.AsCut.{all_within, its_life, same_progress}
use Rattle.dkg_script.proofs.Members.{IsIn, all_of, found_within, in_either, in_first, in_joined, in_mapped, in_second, in_taken, joined_in, map_in, named_within, of_all}
use Rattle.dkg_script.proofs.ScriptedCuts.{ends_as_scripted}
use Rattle.dkg_script.proofs.Plain.{IsPlain, all_at, finds_none}
use Rattle.dkg_script.proofs.EarlyScripts.{plain_of, start_is}

-- EVENTS of a life as it was cut

in_cut : (end : Option CutAt) (events : List Event) (event : Event) → IsIn event (cut_within end events) → IsIn event events
in_cut None events event is = is
in_cut (Some at) events event is = by_call (at.call == 0) is
  where
    by_call : (b : Bool) → IsIn event (cond b events (take at.step events)) → IsIn event events
    by_call true is = is
    by_call false is = in_taken event at.step events is

taken_twice : {A : Type 0} (a : A) (n m : ℕ) (xs : List A) → IsIn a (take n (take m xs)) → IsIn a (take n xs)
taken_twice a zero zero [] is = is
taken_twice a zero (suc m) [] is = is
taken_twice a (suc n) zero [] is = is
taken_twice a (suc n) (suc m) [] is = is
taken_twice a zero zero (x ∷ xs) is = is
taken_twice a zero (suc m) (x ∷ xs) is = is
taken_twice a (suc n) zero (x ∷ xs) is = absurd is
taken_twice a (suc n) (suc m) (x ∷ xs) (inl same) = inl same
taken_twice a (suc n) (suc m) (x ∷ xs) (inr later) = inr (taken_twice a n m xs later)

in_cut_taken : (n : ℕ) (end : Option CutAt) (events : List Event) (event : Event) → IsIn event (take n (cut_within end events)) → IsIn event (take n events)
in_cut_taken n None events event is = is
in_cut_taken n (Some at) events event is = by_call (at.call == 0) is
  where
    by_call : (b : Bool) → IsIn event (take n (cond b events (take at.step events))) → IsIn event (take n events)
    by_call true is = is
    by_call false is = taken_twice event n at.step events is

comes_to_it : (cut : Option ScriptCut) (end : Option CutAt) (events : List Event) (event : Event) → IsIn event (events_come_to cut (cut_within end events)) → IsIn event (events_come_to cut events)
comes_to_it None end events event is = in_cut end events event is
comes_to_it (Some cut) end events event is = by_call (cut.call == 0) is
  where
    by_call : (b : Bool) → IsIn event (cond b (take (cut.step - 1) (cut_within end events)) (cut_within end events)) → IsIn event (cond b (take (cut.step - 1) events) events)
    by_call true is = in_cut_taken (cut.step - 1) end events event is
    by_call false is = in_cut end events event is

life_of : (ends : List (Option CutAt)) (lives : List Life) (life : Life) → IsIn life (lives_as_cut ends lives) → (end : Option CutAt) × (whole : Life) × IsIn whole lives × (life ≡ life_as_cut end whole)
life_of [] lives life is = (None, life, is, refl)
life_of (end ∷ ends) [] life is = absurd is
life_of (end ∷ ends) (first ∷ lives) life (inl same) = (end, first, inl refl, same)
life_of (end ∷ ends) (first ∷ lives) life (inr later) = let its = life_of ends lives life later in (its.0, its.1, inr its.2, its.3)

module _ (s : Setting) (ends : List (Option CutAt)) where
  -- BLOCKS

  abbrev synced : Life → List ℕ
  synced life = option_to_list (option_map (λ line. line.block) life.sync)

  used_in_whole : (end : Option CutAt) (life : Life) (b : ScriptBlock) → IsIn b (used_in (with_cuts ends s) (life_as_cut end life)) → IsIn b (used_in s life)
  used_in_whole end life b is = elim (in_either b (held_at_opening s life) (filter_map (numbered_block s) (synced life ++ filter_map delivered_number (events_come_to life.cut (cut_within end life.events)))) is) [
    | inl held ↦ in_first b (held_at_opening s life) (filter_map (numbered_block s) (synced life ++ filter_map delivered_number (events_come_to life.cut life.events))) held
    | inr other ↦ in_second b (held_at_opening s life) (filter_map (numbered_block s) (synced life ++ filter_map delivered_number (events_come_to life.cut life.events))) (by_number (in_mapped (numbered_block s) b (synced life ++ filter_map delivered_number (events_come_to life.cut (cut_within end life.events))) other))
  ]
    where
      by_event : (number : ℕ) → (event : Event) × IsIn event (events_come_to life.cut (cut_within end life.events)) × (delivered_number event ≡ Some number)
          → IsIn number (filter_map delivered_number (events_come_to life.cut life.events))
      by_event number its = map_in delivered_number its.0 number (events_come_to life.cut life.events) (comes_to_it life.cut end life.events its.0 its.1) its.2

      its_number : (number : ℕ) → IsIn number (synced life ++ filter_map delivered_number (events_come_to life.cut (cut_within end life.events)))
          → IsIn number (synced life ++ filter_map delivered_number (events_come_to life.cut life.events))
      its_number number is = elim (in_either number (synced life) (filter_map delivered_number (events_come_to life.cut (cut_within end life.events))) is) [
        | inl sync ↦ in_first number (synced life) (filter_map delivered_number (events_come_to life.cut life.events)) sync
        | inr event ↦ in_second number (synced life) (filter_map delivered_number (events_come_to life.cut life.events)) (by_event number (in_mapped delivered_number number (events_come_to life.cut (cut_within end life.events)) event))
      ]

      by_number : (number : ℕ) × IsIn number (synced life ++ filter_map delivered_number (events_come_to life.cut (cut_within end life.events))) × (numbered_block s number ≡ Some b)
          → IsIn b (filter_map (numbered_block s) (synced life ++ filter_map delivered_number (events_come_to life.cut life.events)))
      by_number its = map_in (numbered_block s) its.0 b (synced life ++ filter_map delivered_number (events_come_to life.cut life.events)) (its_number its.0 its.1) its.2

  -- it uses no other
  pub used_within : (b : ScriptBlock) → IsIn b (used (with_cuts ends s)) → IsIn b (used s)
  unfolding used
  used_within b is =
      let at = in_joined (used_in (with_cuts ends s)) b (lives_as_cut ends s.script.lives) is in
      let of = life_of ends s.script.lives at.0 at.1 in
      joined_in (used_in s) of.1 b s.script.lives of.2 (used_in_whole of.0 of.1 b (subst (λ (life : Life). IsIn b (used_in (with_cuts ends s) life)) of.3 at.2))

  -- INFOS

  same_provided : (ends : List (Option CutAt)) (lives : List Life) → filter_map (provided_material s) (lives_as_cut ends lives) ≡ filter_map (provided_material s) lives
  same_provided [] lives = refl
  same_provided (end ∷ ends) [] = refl
  same_provided (end ∷ ends) (life ∷ lives) = ap (λ (rest : List SyncMaterial). cons_option (provided_material s life) rest) (same_provided ends lives)

  abbrev given : List SyncMaterial → List Info
  given ms = map (λ m. m.info) (ms ++ option_to_list (handed_in s))

  carried_within : (info : Info) → IsIn info (carried_infos (with_cuts ends s)) → IsIn info (carried_infos s)
  carried_within info is = elim (in_either info (filter_map (info_at_boundary s) (used (with_cuts ends s))) (given (filter_map (provided_material s) (lives_as_cut ends s.script.lives))) is) [
    | inl carried ↦ in_first info (filter_map (info_at_boundary s) (used s)) (given (filter_map (provided_material s) s.script.lives)) (by_block (in_mapped (info_at_boundary s) info (used (with_cuts ends s)) carried))
    | inr other ↦ in_second info (filter_map (info_at_boundary s) (used s)) (given (filter_map (provided_material s) s.script.lives)) (subst (λ (ms : List SyncMaterial). IsIn info (given ms)) (same_provided ends s.script.lives) other)
  ]
    where
      by_block : (b : ScriptBlock) × IsIn b (used (with_cuts ends s)) × (info_at_boundary s b ≡ Some info) → IsIn info (filter_map (info_at_boundary s) (used s))
      by_block its = map_in (info_at_boundary s) its.0 info (used s) (used_within its.0 its.1) its.2

  -- .. so an info that is known there is the one that is known
  pub known_within : AllByRecursion (λ info. find (λ (i : Info). i.epoch == info.epoch) (carried_infos s) ≡ Some info) (carried_infos s)
      → (epoch : ℕ) (info : Info) → find (λ (i : Info). i.epoch == epoch) (carried_infos (with_cuts ends s)) ≡ Some info → find (λ (i : Info). i.epoch == epoch) (carried_infos s) ≡ Some info
  known_within one epoch info is = found_within (λ i. i.epoch) (carried_infos (with_cuts ends s)) (carried_infos s) carried_within one epoch info is

  -- THE SCRIPT

  linked_below : AllByRecursion (λ b. chain s b.height ≡ Some b) (used s) → (n : ℕ) (P : ScriptBlock → Type 0) → IfSome (chain_below s n) P → IfSome (chain_below (with_cuts ends s) n) P
  linked_below one zero P is = tt
  linked_below one (suc n) P is = by_case (chain (with_cuts ends s) n) refl
    where
      by_case : (o : Option ScriptBlock) → chain (with_cuts ends s) n ≡ o → IfSome o P
      by_case None e = tt
      by_case (Some below) e =
          subst (λ (o : Option ScriptBlock). IfSome o P) (found_within (λ b. b.height) (used (with_cuts ends s)) (used s) used_within one n below e) is

  still_others : (me : ℕ) (ends : List (Option CutAt)) (lives : List Life) → AllByRecursion (λ life. AllByRecursion (IsFromAnother me) life.events) lives
      → AllByRecursion (λ life. AllByRecursion (IsFromAnother me) life.events) (lives_as_cut ends lives)
  still_others me [] lives all = all
  still_others me (end ∷ ends) [] all = tt
  still_others me (end ∷ ends) (life ∷ lives) all = (all_within (IsFromAnother me) end life.events all.0, still_others me ends lives all.1)

  pub history_of : (cuts : List (Option CutAt)) → IsPlanHistory (with_cuts ends s) cuts → IsPlanHistory s cuts
  history_of cuts history = record { first = history.first; next = λ l below. by_life l (life_at s l) (at_life l (history.next l below)) }
    where
      at_life : (l : ℕ) → IfSome (life_at (with_cuts ends s) l) (λ life. IsLeft (with_cuts ends s) l life (cut_of cuts l) (found s (suc l)))
          → IfSome (option_map (life_as_cut (cut_of ends l)) (life_at s l)) (λ life. IsLeft (with_cuts ends s) l life (cut_of cuts l) (found s (suc l)))
      at_life l left = subst (λ (o : Option Life). IfSome o (λ life. IsLeft (with_cuts ends s) l life (cut_of cuts l) (found s (suc l)))) (its_life ends s.script.lives l) left

      by_life : (l : ℕ) (o : Option Life) → IfSome (option_map (life_as_cut (cut_of ends l)) o) (λ life. IsLeft (with_cuts ends s) l life (cut_of cuts l) (found s (suc l)))
          → IfSome o (λ life. IsLeft s l life (cut_of cuts l) (found s (suc l)))
      by_life l None left = tt
      by_life l (Some life) left = left

-- DELIVERIES

in_front : {A : Type 0} (n i : ℕ) (xs : List A) (x : A) → slice_get (take n xs) i ≡ Some x → (suc i ≤ n) × (slice_get xs i ≡ Some x)
in_front zero i [] x is = absurd (nothing is)
  where
    nothing : {A : Type 0} {x : A} → None ≡ Some x → ⊥
    nothing e = cc
in_front (suc n) i [] x is = absurd (nothing is)
  where
    nothing : {A : Type 0} {x : A} → None ≡ Some x → ⊥
    nothing e = cc
in_front zero i (y ∷ ys) x is = absurd (nothing is)
  where
    nothing : {A : Type 0} {x : A} → None ≡ Some x → ⊥
    nothing e = cc
in_front (suc n) zero (y ∷ ys) x is = (omega arith, is)
in_front (suc n) (suc i) (y ∷ ys) x is = let rest = in_front n i ys x is in (let less : suc i ≤ n = rest.0 in omega arith, rest.1)

-- a step of the life as it was cut is one of the life, and none behind the cut
abbrev pub IsBefore : ℕ → Option CutAt → Type 0
IsBefore n None = Unit {0}
IsBefore n (Some at) = (n ≤ at.step) ⊎ ((at.call == 0) ≡ true)

pub step_of_life : (end : Option CutAt) (life : Life) (step : ℕ) (event : Event) → event_of_step (life_as_cut end life) step ≡ Some event
    → (event_of_step life step ≡ Some event) × IsBefore step end
step_of_life None life step event is = (by_step step is, tt)
  where
    by_step : (step : ℕ) → event_of_step (life_as_cut None life) step ≡ Some event → event_of_step life step ≡ Some event
    by_step zero is = is
    by_step (suc step) is = is
step_of_life (Some at) life zero event is = (is, inl (omega arith))
step_of_life (Some at) life (suc step) event is = by_call (at.call == 0) refl is
  where
    by_call : (b : Bool) → (at.call == 0) ≡ b → slice_get (cond b life.events (take at.step life.events)) step ≡ Some event
        → (slice_get life.events step ≡ Some event) × ((suc step ≤ at.step) ⊎ ((at.call == 0) ≡ true))
    by_call true e is = (is, inr e)
    by_call false e is = let front = in_front at.step step life.events event is in (front.1, inl front.0)

-- up to there the life comes to the same events
same_thrice : {A : Type 0} (n k m : ℕ) (xs : List A) → n ≤ m → take n (take k (take m xs)) ≡ take n (take k xs)
same_thrice n k m xs below = elim (cases_lt k n) [
  | inl less ↦ ap (λ ys. take n ys) (take-take k m xs (omega (arith, below, less)))
  | inr more ↦ take-take n k (take m xs) more ∙ take-take n m xs below ∙ sym (take-take n k xs more)
]

pub same_comes : (n : ℕ) (cut : Option ScriptCut) (end : Option CutAt) (events : List Event) → IsBefore n end → take n (events_come_to cut (cut_within end events)) ≡ take n (events_come_to cut events)
same_comes n None None events before = refl
same_comes n (Some cut) None events before = refl
same_comes n None (Some at) events before = by_call (at.call == 0) refl before
  where
    by_call : (b : Bool) → (at.call == 0) ≡ b → (n ≤ at.step) ⊎ (b ≡ true) → take n (cond b events (take at.step events)) ≡ take n events
    by_call true e before = refl
    by_call false e (inl below) = take-take n at.step events below
    by_call false e (inr not) = absurd (differ not)
      where
        differ : false ≡ true → ⊥
        differ e = cc
same_comes n (Some cut) (Some at) events before = by_calls (cut.call == 0) (at.call == 0) before
  where
    differ : false ≡ true → ⊥
    differ e = cc

    by_calls : (a b : Bool) → (n ≤ at.step) ⊎ (b ≡ true)
        → take n (cond a (take (cut.step - 1) (cond b events (take at.step events))) (cond b events (take at.step events))) ≡ take n (cond a (take (cut.step - 1) events) events)
    by_calls true true before = refl
    by_calls false true before = refl
    by_calls true false (inl below) = same_thrice n (cut.step - 1) at.step events below
    by_calls false false (inl below) = take-take n at.step events below
    by_calls true false (inr not) = absurd (differ not)
    by_calls false false (inr not) = absurd (differ not)

pub before_all : (end : Option CutAt) → IsBefore 0 end
before_all None = tt
before_all (Some at) = inl (omega arith)

pub before_it : (j : ℕ) (end : Option CutAt) → IsBefore (suc j) end → IsBefore j end
before_it j None before = tt
before_it j (Some at) (inl below) = inl (omega arith)
before_it j (Some at) (inr before) = inr before

-- a life without material comes as far
module _ (s : Setting) (ends : List (Option CutAt)) (l : ℕ) (life : Life) (no_sync : life.sync ≡ None) (none : found s l ≡ None) (end : Option CutAt) where
  pub start_as_cut : first_height (with_cuts ends s) l (life_as_cut end life) ≡ first_height s l life
  start_as_cut = start_is (with_cuts ends s) l (life_as_cut end life) no_sync none ∙ sym (start_is s l life no_sync none)

  pub height_as_cut : (n : ℕ) → IsBefore n end → awaited_height_after (with_cuts ends s) l (life_as_cut end life) n ≡ awaited_height_after s l life n
  unfolding awaited_height_after
  height_as_cut n before =
      ap (λ (events : List Event). fold (λ height b. max height (suc b.height)) (first_height (with_cuts ends s) l (life_as_cut end life)) (filter_map (numbered_block s) (filter_map delivered_number events)))
      (same_comes n life.cut end life.events before)
      ∙ ap (λ (height : ℕ). fold (λ height b. max height (suc b.height)) height (delivered s life n)) start_as_cut

module _ (s : Setting) (ends cuts : List (Option CutAt)) (plain : IsPlain s) (history : IsPlanHistory (with_cuts ends s) cuts) (l : ℕ) (begun : l ≤ length cuts) where
  pub is_plain : (life : Life) → life_at s l ≡ Some life → (life.sync ≡ None) × (found s l ≡ None)
  is_plain life is = (
    all_at (λ life. life.sync ≡ None) s.script.lives l life plain.no_sync is,
    finds_none s cuts plain (history_of s ends cuts history) l begun (slice_get_within s.script.lives l life is),
  )

  same_height : (end : Option CutAt) (life : Life) (n : ℕ) → life_at s l ≡ Some life → IsBefore n end
      → awaited_height_after (with_cuts ends s) l (life_as_cut end life) n ≡ awaited_height_after s l life n
  same_height end life n is before = let its = is_plain life is in height_as_cut s ends l life its.0 its.1 end n before

  -- .. so it begins as far, and comes as far until it ends
  same_first : awaited_epoch_in (with_cuts ends s) l 0 ≡ awaited_epoch_in s l 0
  same_first = ap (λ (o : Option Life). option_map_or (λ life. awaited_epoch (with_cuts ends s) l life 0) o 0) (its_life ends s.script.lives l) ∙ by_life (life_at s l) refl
    where
      by_life : (o : Option Life) → life_at s l ≡ o
          → option_map_or (λ life. awaited_epoch (with_cuts ends s) l life 0) (option_map (life_as_cut (cut_of ends l)) o) 0 ≡ option_map_or (λ life. awaited_epoch s l life 0) o 0
      by_life None is = refl
      by_life (Some life) is = ap (λ (height : ℕ). epoch_of (blocks_per_epoch s) height) (same_height (cut_of ends l) life 0 is (before_all (cut_of ends l)))

  same_last : last_awaited (with_cuts ends s) ends l ≡ last_awaited s ends l
  same_last =
      ap (λ (o : Option Life). option_map_or (λ life. awaited_epoch (with_cuts ends s) l life (events_taken life (cut_of ends l))) o 0) (its_life ends s.script.lives l) ∙ by_life (life_at s l) refl
    where
      taken : (end : Option CutAt) (life : Life) → events_taken (life_as_cut end life) end ≡ events_taken life end
      taken None life = refl
      taken (Some at) life = refl

      before : (end : Option CutAt) (life : Life) → IsBefore (events_taken life end) end
      before None life = tt
      before (Some at) life = by_call (at.call == 0)
        where
          by_call : (b : Bool) → (cond b (at.step - 1) at.step ≤ at.step) ⊎ ((at.call == 0) ≡ true)
          by_call true = inl (omega arith)
          by_call false = inl (omega arith)

      by_life : (o : Option Life) → life_at s l ≡ o
          → option_map_or (λ life. awaited_epoch (with_cuts ends s) l life (events_taken life (cut_of ends l))) (option_map (life_as_cut (cut_of ends l)) o) 0
          ≡ option_map_or (λ life. awaited_epoch s l life (events_taken life (cut_of ends l))) o 0
      by_life None is = refl
      by_life (Some life) is =
          ap (λ (n : ℕ). awaited_epoch (with_cuts ends s) l (life_as_cut (cut_of ends l) life) n) (taken (cut_of ends l) life)
          ∙ ap (λ (height : ℕ). epoch_of (blocks_per_epoch s) height) (same_height (cut_of ends l) life (events_taken life (cut_of ends l)) is (before (cut_of ends l) life))

as_many : (ends : List (Option CutAt)) (lives : List Life) → length (lives_as_cut ends lives) ≡ length lives
as_many [] lives = refl
as_many (end ∷ ends) [] = refl
as_many (end ∷ ends) (life ∷ lives) = ap suc (as_many ends lives)

module _ (s : Setting) (ends : List (Option CutAt)) (plain : IsPlain s) (history : IsPlanHistory (with_cuts ends s) ends) where
  same_before : (l : ℕ) → l ≤ length ends → awaited_before (with_cuts ends s) ends l ≡ awaited_before s ends l
  same_before zero begun = refl
  same_before (suc l) begun =
      let before : awaited_before (with_cuts ends s) ends l ≡ awaited_before s ends l = same_before l (omega arith) in
      let last : last_awaited (with_cuts ends s) ends l ≡ last_awaited s ends l = same_last s ends ends plain history l (omega arith) in
      ap (λ (n : ℕ). max n (last_awaited (with_cuts ends s) ends l)) before ∙ ap (λ (n : ℕ). max (awaited_before s ends l) n) last

  pub consistent_as_cut : IsConsistentScript s ends → IsConsistentScript (with_cuts ends s) ends
  consistent_as_cut c = record {
    one_chain = named_within (λ b. b.height) (used (with_cuts ends s)) (used s) (used_within s ends) c.one_chain;
    linked = all_of (λ b. IfSome (chain_below (with_cuts ends s) b.height) (λ below. b.parent ≡ below.digest)) (used (with_cuts ends s))
        (λ b is. linked_below s ends c.one_chain b.height (λ below. b.parent ≡ below.digest)
        (of_all (λ b. IfSome (chain_below s b.height) (λ below. b.parent ≡ below.digest)) (used s) b c.linked (used_within s ends b is)));
    one_info = named_within (λ i. i.epoch) (carried_infos (with_cuts ends s)) (carried_infos s) (carried_within s ends) c.one_info;
    never_back = λ l below began.
        let there : l < length s.script.lives = subst (λ (n : ℕ). l < n) (as_many ends s.script.lives) below in
        let its : awaited_before s ends l ≤ awaited_epoch_in s l 0 + 1 = c.never_back l there began in
        let first : awaited_epoch_in (with_cuts ends s) l 0 ≡ awaited_epoch_in s l 0 = same_first s ends ends plain history l began in
        let before : awaited_before (with_cuts ends s) ends l ≡ awaited_before s ends l = same_before l began in
        omega (arith, its, first, before);
    others = still_others s ends s.script.config.me ends s.script.lives c.others;
  }

-- THE PREMISES, of a transcript in order

pub same_ends : (s : Setting) (out : List Entry) → InOrder s out → (progress (with_cuts (progress s out).cuts s) out).cuts ≡ (progress s out).cuts
same_ends s out ordered = ap (λ (p : Progress). p.cuts) (same_progress s (progress s out).cuts out ordered refl)

pub plain_case : (s : Setting) (plans : List (Option SyncMaterial)) → IsPlain s → IsPlain (with_plans s plans)
plain_case s plans plain = record { no_record = plain.no_record; no_sync = plain.no_sync }

pub honest_as_cut : (s : Setting) (image : Files → Type 0) (ends : List (Option CutAt)) → IsPlain s → IsHonestRun s image ends → IsHonestRun (with_cuts ends s) image ends
honest_as_cut s image ends plain honest = record {
  stores = record { whole = honest.stores.whole; nothing_loose = honest.stores.nothing_loose };
  source = λ plans history. consistent_as_cut (with_plans s plans) ends (plain_case s plans plain) history (honest.source plans (history_of (with_plans s plans) ends ends history));
}

pub honest_anyhow : {D : Type 0} (image : D → Files → Type 0) → HonestAnyhow image
honest_anyhow image script files secrets out disk built each ordered =
    let s : Setting = setting_of script files secrets in
    let ends = (progress s out).cuts in
    subst (λ (cs : List (Option CutAt)). IsHonestRun (with_cuts ends s) (image disk) cs) (sym (same_ends s out ordered))
    (honest_as_cut s (image disk) ends (plain_of s built) (each ends (ends_as_scripted s out ordered)))

pub valid_if_cut : ValidAsCut
valid_if_cut script files secrets out each ordered =
    let s : Setting = setting_of script files secrets in
    let ends = (progress s out).cuts in
    subst (λ (cs : List (Option CutAt)). IsValidScript (with_cuts ends s) cs) (sym (same_ends s out ordered)) (each ends (ends_as_scripted s out ordered))
