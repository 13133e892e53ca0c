-- A transcript in order over the script as it was cut: each front of it comes as far, and stands in order.
use Rattle.std.proofs.Common.{ℕ, zero, suc, ◌≤◌, inl, inr, List, [], ◌∷◌, ◌++◌, ◌≡◌, refl, sym, ap, subst, ◌∙◌, Option, Some, None, Bool, true, false, length, take, arith, append_assoc, append-nil, length-take}
use Rattle.std.specs.Prelude.{fold, cond, slice_get, min, IsSomeAnd, option_map, ◌==◌}
use Rattle.std.specs.List.{AllByRecursion}
use Rattle.std.specs.Option.{option_map_or}
use Rattle.std.proofs.lemmas.Bool.{eq-eqb, eqb-true}
use Rattle.dkg_infos.specs.declared.entry.Entry.{Entry}
use Rattle.dkg_infos.specs.declared.entry.Entry.TheVariants.{Opened, Cut, Step, Fault}
use Rattle.dkg_text.specs.declared.script.Event.{Event}
use Rattle.dkg_text.specs.declared.script.Life.{Life}
use Rattle.dkg_script.specs.Setting.{Setting, CutAt, life_at}
use Rattle.dkg_script.specs.Position.{cut_of}
use Rattle.dkg_script.specs.Progress.{Progress, read, at_start, progress, is_last_step, with_life_ended}
use Rattle.dkg_script.specs.Order.{InLife, IsInOrder, InOrder, IsOrderedCut, IsOrderedStep, LetsBegin}
use Rattle.dkg_script.specs.AsCut.{cut_within, life_as_cut, lives_as_cut, with_cuts}
use Rattle.dkg_script.specs.AsCutLaws.{ComesAsFar, StaysInOrderAsCut}
use Rattle.dkg_script.proofs.EachEntry.{EachAfter, all_splits}

-- LIVES

-- a life as it was cut, by its number
pub its_life : (ends : List (Option CutAt)) (lives : List Life) (l : ℕ) → slice_get (lives_as_cut ends lives) l ≡ option_map (life_as_cut (cut_of ends l)) (slice_get lives l)
its_life [] lives l = by_life (slice_get lives l)
  where
    by_life : (o : Option Life) → o ≡ option_map (life_as_cut None) o
    by_life None = refl
    by_life (Some life) = refl
its_life (end ∷ ends) [] l = refl
its_life (end ∷ ends) (life ∷ lives) zero = refl
its_life (end ∷ ends) (life ∷ lives) (suc l) = its_life ends lives l

-- THE LIFE IN HAND ends by the first end behind those before it

end_behind : List (Option CutAt) → Option CutAt
end_behind [] = None
end_behind (end ∷ rest) = end

behind : (first rest : List (Option CutAt)) → cut_of (first ++ rest) (length first) ≡ end_behind rest
unfolding end_behind
behind [] [] = refl
behind [] (end ∷ rest) = refl
behind (end ∷ first) rest = behind first rest

-- where it is cut, that is at this step or a later one
IsCutLater : ℕ → Option CutAt → Type 0
IsCutLater step None = Unit {0}
IsCutLater step (Some at) = step ≤ at.step

earlier : (step : ℕ) (end : Option CutAt) → IsCutLater (suc step) end → IsCutLater step end
unfolding IsCutLater
earlier step None later = tt
earlier step (Some at) later = omega arith

-- These are the ends of a transcript that has come so far.
record EndsFrom (p : Progress) (ends : List (Option CutAt)) : Type 0 where
  rest : List (Option CutAt)
  ends_are : ends ≡ p.cuts ++ rest
  later : IsCutLater p.step (end_behind rest)

cut_in_hand : (p : Progress) (step call : ℕ) (life : Option Life) → IsSomeAnd life (IsOrderedCut p step call) → step ≡ p.step
cut_in_hand p step call None ordered = absurd ordered
cut_in_hand p step call (Some life) ordered = ordered.in_hand

module _ (s : Setting) where
  before_it : (p : Progress) (entry : Entry) (ends : List (Option CutAt)) → IsInOrder s p entry → EndsFrom (read s p entry) ends → EndsFrom p ends
  unfolding IsCutLater end_behind
  before_it p (Cut step call) ends ordered e =
      let here : step ≡ p.step = cut_in_hand p step call (life_at s (length p.cuts)) ordered in
      let end : Option CutAt = Some (record { step = step; call = call }) in
      record { rest = end ∷ e.rest; ends_are = e.ends_are ∙ append_assoc p.cuts (end ∷ []) e.rest; later = omega arith }
  before_it p (Step step) ends ordered e = by_case (is_last_step s p) e
    where
      by_case : (last : Bool) → EndsFrom (cond last (with_life_ended p None) (record p { step = suc p.step; written = [] })) ends → EndsFrom p ends
      by_case true e = record { rest = None ∷ e.rest; ends_are = e.ends_are ∙ append_assoc p.cuts (None ∷ []) e.rest; later = tt }
      by_case false e = record { rest = e.rest; ends_are = e.ends_are; later = earlier p.step (end_behind e.rest) e.later }
  before_it p other ends ordered e = record { rest = e.rest; ends_are = e.ends_are; later = e.later }

  ends_from : (out : List Entry) (p : Progress) → EachAfter s (IsInOrder s) p out → EndsFrom p (fold (read s) p out).cuts
  unfolding IsCutLater end_behind
  ends_from [] p each = record { rest = []; ends_are = sym (append-nil p.cuts); later = tt }
  ends_from (entry ∷ out) p each = before_it p entry (fold (read s) p (entry ∷ out)).cuts each.0 (ends_from out (read s p entry) each.1)

-- SO A STEP ENDS THE LIFE where it did

not_last : (step n : ℕ) (events : List Event) → suc step ≤ n → (step == length events) ≡ false → (step == length (take n events)) ≡ false
not_last step n events before differs = by_case (step == length (take n events)) refl
  where
    both : (b : Bool) → b ≡ true → b ≡ false → ⊥
    both b is not = cc

    same : step ≡ length events → ⊥
    same is = both (step == length events) (eq-eqb step (length events) is) differs

    by_case : (b : Bool) → (step == length (take n events)) ≡ b → b ≡ false
    by_case false e = refl
    by_case true e =
        let is : step ≡ length (take n events) = eqb-true step (length (take n events)) e in
        let least : length (take n events) ≡ min n (length events) = length-take n events in
        absurd (same (omega (arith, is, least)))

last_of : Progress → Option Life → Bool
last_of p life = option_map_or (λ life. p.step == length life.events) life false

same_last_of : (p : Progress) (end : Option CutAt) (life : Option Life) → IsCutLater (suc p.step) end → last_of p life ≡ false → last_of p (option_map (life_as_cut end) life) ≡ false
unfolding IsCutLater last_of
same_last_of p end None later not = refl
same_last_of p None (Some life) later not = not
same_last_of p (Some at) (Some life) later not = by_call (at.call == 0)
  where
    by_call : (b : Bool) → (p.step == length (cond b life.events (take at.step life.events))) ≡ false
    by_call true = not
    by_call false = not_last p.step at.step life.events later not

not_cut : (life : Option Life) → life ≡ option_map (life_as_cut None) life
not_cut None = refl
not_cut (Some life) = refl

module _ (s : Setting) (ends : List (Option CutAt)) where
  its_end : (p : Progress) (rest : List (Option CutAt)) → ends ≡ p.cuts ++ rest → cut_of ends (length p.cuts) ≡ end_behind rest
  its_end p rest is = ap (λ (its : List (Option CutAt)). cut_of its (length p.cuts)) is ∙ behind p.cuts rest

  last_as_cut : (p : Progress) (end : Option CutAt) → cut_of ends (length p.cuts) ≡ end → is_last_step (with_cuts ends s) p ≡ last_of p (option_map (life_as_cut end) (life_at s (length p.cuts)))
  unfolding last_of
  last_as_cut p end is = ap (last_of p) (its_life ends s.script.lives (length p.cuts)) ∙ ap (λ (its : Option CutAt). last_of p (option_map (life_as_cut its) (life_at s (length p.cuts)))) is

  same_last : (p : Progress) (step : ℕ) → EndsFrom (read s p (Step step)) ends → is_last_step (with_cuts ends s) p ≡ is_last_step s p
  unfolding last_of end_behind
  same_last p step e = by_case (is_last_step s p) refl e
    where
      by_case : (last : Bool) → is_last_step s p ≡ last → EndsFrom (cond last (with_life_ended p None) (record p { step = suc p.step; written = [] })) ends → is_last_step (with_cuts ends s) p ≡ last
      by_case true is e =
          let ended : ends ≡ p.cuts ++ None ∷ e.rest = e.ends_are ∙ append_assoc p.cuts (None ∷ []) e.rest in
          last_as_cut p None (its_end p (None ∷ e.rest) ended) ∙ ap (last_of p) (sym (not_cut (life_at s (length p.cuts)))) ∙ is
      by_case false is e = last_as_cut p (end_behind e.rest) (its_end p e.rest e.ends_are) ∙ same_last_of p (end_behind e.rest) (life_at s (length p.cuts)) e.later is

  same_read : (p : Progress) (entry : Entry) → EndsFrom (read s p entry) ends → read (with_cuts ends s) p entry ≡ read s p entry
  same_read p (Step step) e = ap (λ (last : Bool). cond last (with_life_ended p None) (record p { step = suc p.step; written = [] })) (same_last p step e)
  same_read p other e = refl

  same_fold : (front rest : List Entry) (p : Progress) → EachAfter s (IsInOrder s) p (front ++ rest) → (fold (read s) p (front ++ rest)).cuts ≡ ends
      → fold (read (with_cuts ends s)) p front ≡ fold (read s) p front
  same_fold [] rest p each is = refl
  same_fold (entry ∷ front) rest p each is =
      let from : EndsFrom (read s p entry) ends = subst (λ (its : List (Option CutAt)). EndsFrom (read s p entry) its) is (ends_from s (front ++ rest) (read s p entry) each.1) in
      ap (λ (q : Progress). fold (read (with_cuts ends s)) q front) (same_read p entry from) ∙ same_fold front rest (read s p entry) each.1 is

pub comes_as_far : ComesAsFar
unfolding progress InOrder
comes_as_far s front rest ordered =
    same_fold s (progress s (front ++ rest)).cuts front rest (at_start s) (all_splits s (IsInOrder s) (front ++ rest) (at_start s) ordered) refl

-- of the whole
pub same_progress : (s : Setting) (ends : List (Option CutAt)) (out : List Entry) → InOrder s out → (progress s out).cuts ≡ ends → progress (with_cuts ends s) out ≡ progress s out
unfolding progress InOrder
same_progress s ends out ordered is =
    let all : out ++ [] ≡ out = append-nil out in
    same_fold s ends out [] (at_start s)
    (subst (λ (its : List Entry). EachAfter s (IsInOrder s) (at_start s) its) (sym all) (all_splits s (IsInOrder s) out (at_start s) ordered))
    (ap (λ (its : List Entry). (fold (read s) (at_start s) its).cuts) all ∙ is)

-- ORDER

module _ (s : Setting) (ends : List (Option CutAt)) where
  in_life : (p : Progress) (P Q : Life → Type 0) → ((end : Option CutAt) (life : Life) → P life → Q (life_as_cut end life)) → InLife s p P → InLife (with_cuts ends s) p Q
  in_life p P Q leads its = subst (λ (o : Option Life). IsSomeAnd o Q) (sym (its_life ends s.script.lives (length p.cuts))) (by_life (life_at s (length p.cuts)) its)
    where
      by_life : (o : Option Life) → IsSomeAnd o P → IsSomeAnd (option_map (life_as_cut (cut_of ends (length p.cuts))) o) Q
      by_life None none = absurd none
      by_life (Some life) its = leads (cut_of ends (length p.cuts)) life its

  same_order : (p : Progress) (entry : Entry) → IsInOrder s p entry → IsInOrder (with_cuts ends s) p entry
  same_order p (Opened life restored) ordered = record {
    in_life = in_life p (λ its. (life ≡ length p.cuts) × LetsBegin p its) (λ its. (life ≡ length p.cuts) × LetsBegin p its) (λ end its is. is) ordered.in_life;
    at_opening = ordered.at_opening;
    once = ordered.once;
  }
  same_order p (Step step) ordered =
      in_life p (IsOrderedStep p step) (IsOrderedStep p step) (λ end life is. record { in_hand = is.in_hand; begins = is.begins; has_opened = is.has_opened }) ordered
  same_order p (Cut step call) ordered =
      in_life p (IsOrderedCut p step call) (IsOrderedCut p step call) (λ end life is. record { in_hand = is.in_hand; of_script = is.of_script; before_step = is.before_step }) ordered
  same_order p (Fault fault) (inl at_start) = inl at_start
  same_order p (Fault fault) (inr begins) = inr (in_life p (LetsBegin p) (LetsBegin p) (λ end life is. is) begins)
  same_order p other ordered = in_life p (LetsBegin p) (LetsBegin p) (λ end life is. is) ordered

pub in_order_as_cut : StaysInOrderAsCut
unfolding InOrder
in_order_as_cut s out ordered before entry after is =
    let whole : InOrder s (before ++ entry ∷ after) = subst (λ (its : List Entry). InOrder s its) is ordered in
    let far : progress (with_cuts (progress s (before ++ entry ∷ after)).cuts s) before ≡ progress s before = comes_as_far s before (entry ∷ after) whole in
    let same : progress (with_cuts (progress s out).cuts s) before ≡ progress s before =
    subst (λ (its : List Entry). progress (with_cuts (progress s its).cuts s) before ≡ progress s before) (sym is) far in
    subst (λ (p : Progress). IsInOrder (with_cuts (progress s out).cuts s) p entry) (sym same)
    (same_order s (progress s out).cuts (progress s before) entry (ordered before entry after is))

-- THE FORM

all_taken : {A : Type 0} (P : A → Type 0) (n : ℕ) (xs : List A) → AllByRecursion P xs → AllByRecursion P (take n xs)
all_taken P zero [] all = tt
all_taken P (suc n) [] all = tt
all_taken P zero (x ∷ xs) all = tt
all_taken P (suc n) (x ∷ xs) all = (all.0, all_taken P n xs all.1)

-- what holds of all events holds of those up to a cut
pub all_within : (P : Event → Type 0) (end : Option CutAt) (events : List Event) → AllByRecursion P events → AllByRecursion P (cut_within end events)
all_within P None events all = all
all_within P (Some at) events all = by_call (at.call == 0)
  where
    by_call : (b : Bool) → AllByRecursion P (cond b events (take at.step events))
    by_call true = all
    by_call false = all_taken P at.step events all
