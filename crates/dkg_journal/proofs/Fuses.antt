-- How calls, one behind the other, spend their fuse.
use Rattle.std.proofs.Common.{◌≡◌, inl, inr, ⊎_elim, ℕ, zero, suc, ◌+◌, ◌<◌, ◌≤◌, ◌^◌, List, [], ◌∷◌, length, Result, Ok, Err, OnOk, IsErrOf, refl, ◌∙◌, ap, arith, length-append}
use Rattle.std.proofs.lemmas.Bool.{cases_lt}
use Rattle.std.proofs.lemmas.Bool.Decides.{nat_tests}
use Rattle.dkg_journal.specs.Burn.{Burn}
use Rattle.dkg_journal.specs.DeviceCall.{DeviceCall}
use Rattle.dkg_journal.specs.Fuse.{counted, spent_once, burned, burnt, Reached, SpentUpTo, Fused, Ran, RanAll}

counted_low : (n : ℕ) → n ≤ counted n
counted_low n = grind (arith, nat_tests)

counted_high : (n : ℕ) → counted n ≤ n + 1
counted_high n = grind (arith, nat_tests)

pub err_as : {T S E : Type 0} (d e : E) → ◌≡◌ {A = Result T E} (Err d) (Err e) → ◌≡◌ {A = Result S E} (Err d) (Err e)
err_as d e same = cc

pub not_ok : {T E : Type 0} (e : E) (x : T) → ◌≡◌ {A = Result T E} (Err e) (Ok x) → ⊥
not_ok e x same = cc

pub not_err : {T E : Type 0} (x : T) (e : E) → ◌≡◌ {A = Result T E} (Ok x) (Err e) → ⊥
not_err x e same = cc

-- no call was counted
pub fused_none : {T E : Type 0} (cut want : E) (r : Result T E) (f : Burn) → (r ≡ Err cut → ⊥) → Fused cut want r f f
fused_none cut want r f not_cut = record {
  call = refl;
  pick = refl;
  later = omega arith;
  whole = λ x is low. low;
  at_most = λ low. omega (arith, low);
  cut_there = λ is. absurd (not_cut is);
  reached = λ reached. absurd (omega (arith, reached.not_yet, reached.by_now));
}

-- one call, that isn't the one that is cut
pub fused_on : {T E : Type 0} (cut want : E) (r : Result T E) (f g : Burn) → g ≡ spent_once f → (Reached f g → ⊥) → (r ≡ Err cut → ⊥) → Fused cut want r f g
fused_on cut want r f g once on not_cut =
    let call : g.call ≡ f.call = ap (λ (b : Burn). b.call) once in
    let spent : g.spent ≡ counted f.spent = ap (λ (b : Burn). b.spent) once in
    record {
      call = call;
      pick = ap (λ (b : Burn). b.pick) once;
      later = omega (arith, spent, counted_low f.spent);
      whole = λ x is low. below call low;
      at_most = λ low. omega (arith, spent, counted_high f.spent, low);
      cut_there = λ is. absurd (not_cut is);
      reached = λ reached. absurd (on reached);
    }
  where
    below : g.call ≡ f.call → f.spent < f.call → g.spent < f.call
    below call low = elim (cases_lt g.spent f.call) [
      | inl under ↦ under
      | inr over ↦ absurd (on (record { not_yet = omega (arith, low, call); by_now = omega (arith, over, call) }))
    ]

-- the call that is cut
pub fused_cut : {T E : Type 0} (cut want : E) (f g : Burn) → g ≡ spent_once f → Reached f g → Fused {T = T} cut want (Err cut) f g
fused_cut cut want f g once there =
    let call : g.call ≡ f.call = ap (λ (b : Burn). b.call) once in
    let spent : g.spent ≡ counted f.spent = ap (λ (b : Burn). b.spent) once in
    record {
      call = call;
      pick = ap (λ (b : Burn). b.pick) once;
      later = omega (arith, spent, counted_low f.spent);
      whole = λ x is low. absurd (not_ok cut x is);
      at_most = λ low. omega (arith, spent, counted_high f.spent, low);
      cut_there = λ is. (omega (arith, there.not_yet, call), omega (arith, spent, counted_high f.spent, there.not_yet, there.by_now, call));
      reached = λ reached. inl refl;
    }

-- .. which found no memory
pub fused_want : {T E : Type 0} (cut want : E) (f g : Burn) → g ≡ spent_once f → (want ≡ cut → ⊥) → Fused {T = T} cut want (Err want) f g
fused_want {T} {E} cut want f g once apart =
    let call : g.call ≡ f.call = ap (λ (b : Burn). b.call) once in
    let spent : g.spent ≡ counted f.spent = ap (λ (b : Burn). b.spent) once in
    record {
      call = call;
      pick = ap (λ (b : Burn). b.pick) once;
      later = omega (arith, spent, counted_low f.spent);
      whole = λ x is low. absurd (not_ok want x is);
      at_most = λ low. omega (arith, spent, counted_high f.spent, low);
      cut_there = λ is. absurd (apart (inner is));
      reached = λ reached. inr refl;
    }
  where
    inner : ◌≡◌ {A = Result T E} (Err want) (Err cut) → want ≡ cut
    inner is = cc

-- an error passed on
pub fused_err : {T S E : Type 0} (cut want e : E) (f g : Burn) → Fused {T = T} cut want (Err e) f g → Fused {T = S} cut want (Err e) f g
fused_err cut want e f g fused = record {
  call = fused.call;
  pick = fused.pick;
  later = fused.later;
  whole = λ x is low. absurd (not_ok e x is);
  at_most = fused.at_most;
  cut_there = λ is. fused.cut_there (err_as e cut is);
  reached = λ reached. ⊎_elim (λ c. inl (err_as e cut c)) (λ w. inr (err_as e want w)) (fused.reached reached);
}

-- .. and a value
pub fused_ok : {T S E : Type 0} (cut want : E) (x : T) (y : S) (f g : Burn) → Fused cut want (Ok x) f g → Fused cut want (Ok y) f g
fused_ok cut want x y f g fused = record {
  call = fused.call;
  pick = fused.pick;
  later = fused.later;
  whole = λ z is low. fused.whole x refl low;
  at_most = fused.at_most;
  cut_there = λ is. absurd (not_err y cut is);
  reached = λ reached. absurd (⊎_elim (λ c. not_err x cut c) (λ w. not_err x want w) (fused.reached reached));
}

-- calls that ended well, and calls behind them
pub fused_then : {T S E : Type 0} (cut want : E) (x : S) (r : Result T E) (f g h : Burn) → Fused cut want (Ok x) f g → Fused cut want r g h → Fused cut want r f h
fused_then cut want x r f g h first second = record {
  call = second.call ∙ first.call;
  pick = second.pick ∙ first.pick;
  later = omega (arith, first.later, second.later);
  whole = λ y is low.
      let mid = first.whole x refl low in
      let end = second.whole y is (omega (arith, mid, first.call)) in omega (arith, end, first.call);
  at_most = λ low.
      let mid = first.whole x refl low in
      let end = second.at_most (omega (arith, mid, first.call)) in omega (arith, end, first.call);
  cut_there = λ is. let end = second.cut_there is in (omega (arith, end.0, first.call, first.later), end.1 ∙ first.call);
  reached = λ reached.
      let mid = first.whole x refl (omega (arith, reached.not_yet, second.call, first.call)) in
      second.reached (record { not_yet = omega (arith, mid, second.call, first.call); by_now = reached.by_now });
}

-- WHAT A CALLER MAY READ OFF: Cut comes where the fuse reached its call
pub cut_reached : {T E : Type 0} (cut want : E) (r : Result T E) (f g : Burn) → Fused cut want r f g → IsErrOf r cut → Reached f g
cut_reached cut want r f g fused is =
    let there = fused.cut_there is in
    record { not_yet = omega (arith, there.0, fused.call); by_now = omega (arith, there.1, fused.call) }

-- .. and Ok where it did not
pub ok_unreached : {T E : Type 0} (cut want : E) (r : Result T E) (f g : Burn) → Fused cut want r f g → OnOk r (Reached f g → ⊥)
ok_unreached cut want (Ok x) f g fused = λ reached. ⊎_elim (λ c. not_err x cut c) (λ w. not_err x want w) (fused.reached reached)
ok_unreached cut want (Err e) f g fused = tt

-- so many calls
pub burned_burnt : {O : Type 0} (calls : List O) (f : Burn) → burned calls f ≡ burnt (length calls) f
burned_burnt [] f = refl
burned_burnt (c ∷ cs) f = burned_burnt cs (spent_once f)

pub all_burnt : {D O : Type 0} (made : D → D → List (DeviceCall O) → Type 0) (a b : D) (f g : Burn) (calls : List O) (n : ℕ) → length calls ≡ n → RanAll made a b f g calls → g ≡ burnt n f
all_burnt made a b f g calls n size all = all.fuse ∙ burned_burnt calls f ∙ ap (λ (k : ℕ). burnt k f) size

pub ran_spent : {D O : Type 0} (made : D → D → List (DeviceCall O) → Type 0) (a b : D) (f g : Burn) (calls : List O) (n : ℕ) → length calls ≡ n → Ran made a b f g calls → SpentUpTo n f g
ran_spent made a b f g calls n size ran = record {
  calls = length ran.first;
  in_bound = omega (arith, size, ap length ran.whole, length-append ran.first ran.rest);
  is = ran.all.fuse ∙ burned_burnt ran.first f;
}

pub none_spent : (n : ℕ) (f : Burn) → SpentUpTo n f f
none_spent n f = record { calls = 0; in_bound = omega arith; is = refl }

-- what a fuse has counted then, where it doesn't stand at its last value
pub burnt_call : (n : ℕ) (f : Burn) → (burnt n f).call ≡ f.call
burnt_call zero f = refl
burnt_call (suc n) f = burnt_call n (spent_once f)

pub burnt_spent : (n : ℕ) (f : Burn) → f.spent + n < 2 ^ 64 → (burnt n f).spent ≡ f.spent + n
burnt_spent zero f low = omega arith
burnt_spent (suc n) f low =
    let one : counted f.spent ≡ f.spent + 1 = step f.spent (omega (arith, low)) in
    burnt_spent n (spent_once f) (omega (arith, one, low)) ∙ omega (arith, one)
  where
    step : (m : ℕ) → m + 1 < 2 ^ 64 → counted m ≡ m + 1
    step m low = grind (arith, nat_tests)
