-- How the calls of an append follow each other.
use Rattle.std.proofs.Common.{◌≡◌, inl, inr, ℕ, cond, List, [], ◌∷◌, ◌++◌, length, Option, Some, Result, Ok, Err, OnOk, refl, sym, ◌∙◌, ap, subst, arith, append_assoc}
use Rattle.std.proofs.lemmas.Bool.{cases_lt}
use Rattle.std.proofs.lemmas.List.{append-nil}
use Rattle.std.specs.FinMap.{get, insert, get-insert}
use Rattle.std.specs.Cmp.{IsTotalOrder, nat_cmp_total}
use Rattle.std.specs.FinMap.{nat_cmp-IsAntisymmetric, IsAntisymmetric}
use Rattle.std.specs.Ordering.{eq_by_cmp, nat_cmp, on}
use Rattle.std.proofs.lemmas.Cmp.{on_total, tied_itself}
use Rattle.dkg_journal.specs.Names.{Files, name_cmp, name_number, name_at, name_at-name_number}
use Rattle.dkg_journal.specs.Disk.{Torn, written, Inside, ImagesFollow, Did, after_write}
use Rattle.dkg_journal.specs.Steps.{Firm, Into}
use Rattle.dkg_journal.specs.Burn.{Burn}
use Rattle.dkg_journal.specs.DeviceCall.{DeviceCall, call_at}
use Rattle.dkg_journal.specs.Fuse.{spent_once, pick_now, burned, calls_in, HasRun, Reached, Ran, RanAll}
use Rattle.dkg_values.specs.declared.name.Name.{Name}
use Rattle.dkg_journal.specs.declared.disk.Op.TheVariants.{WriteAt, Sync}

pub names_total : IsTotalOrder name_cmp
names_total = on_total name_number nat_cmp_total

pub exact_names : IsAntisymmetric name_cmp
exact_names a b tied = sym (name_at-name_number a) ∙ ap name_at (nat_cmp-IsAntisymmetric (name_number a) (name_number b) tied) ∙ name_at-name_number b

-- what stands at a name that was just set
pub get_here : (f : Files) (name : Name) (bytes : List ℕ) → get (insert f name bytes) name ≡ Some bytes
get_here f name bytes = get-insert names_total f name bytes name ∙ ap (λ r. cond (Rattle.std.specs.Ordering.is_eq r) (Some bytes) (get f name)) (tied_itself names_total name)

pub compose : (P Q R : Files → Files → Type 0) (a b c : Files → Type 0) → ((x y z : Files) → P x y → Q y z → R x z) → ImagesFollow P a b → ImagesFollow Q b c → ImagesFollow R a c
compose P Q R a b c joins first second = record {
  each = λ z now.
      let y = second.each z now in
      let x = first.each y.0 y.1 in (x.0, x.1, joins x.0 y.0 z x.2 y.2);
}

pub weaken : (P Q : Files → Files → Type 0) (a b : Files → Type 0) → ((x y : Files) → a x → P x y → Q x y) → ImagesFollow P a b → ImagesFollow Q a b
weaken P Q a b so step = record { each = λ y now. let x = step.each y now in (x.0, x.1, so x.0 y x.1 x.2) }

-- a write to a firm file
pub torn_into : (name : Name) (x bytes : List ℕ) (place : ℕ) (files : Files) (image next : Files → Type 0) → Firm name x files image → ImagesFollow (Inside (WriteAt name place bytes)) image next → ImagesFollow (Into name (Torn place (length bytes) x)) image next
torn_into name x bytes place files image next firm step = weaken _ _ image next (λ d c now into. (into.0, into.1 x (firm.only d now))) step

pub synced_into : (name : Name) (P : List ℕ → Type 0) (a b c : Files → Type 0) → ImagesFollow (Into name P) a b → ImagesFollow (Inside (Sync name)) b c → ImagesFollow (Into name P) a c
synced_into name P a b c first second = compose _ _ _ a b c (λ x y z into same. subst (λ (f : Files). Into name P x f) (sym same) into) first second

pub firm_write : (name : Name) (x bytes : List ℕ) (place : ℕ) (files mid last : Files) (image between next : Files → Type 0) → Firm name x files image → Did (WriteAt name place bytes) files mid between → Did (Sync name) mid last next → Firm name (written place bytes x) last next
firm_write name x bytes place files mid last image between next firm wrote synced =
    let is_mid : mid ≡ insert files name (written place bytes x) = wrote.reads ∙ ap (λ (o : Option (List ℕ)). after_write o name place bytes files) firm.there in
    let here : get mid name ≡ Some (written place bytes x) = ap (λ (m : Files). get m name) is_mid ∙ get_here files name (written place bytes x) in
    record {
      there = ap (λ (m : Files). get m name) synced.reads ∙ here;
      only = λ c now. synced.durable c now ∙ here;
    }

pub not_reached : (a b c : Burn) → b.call ≡ c.call → (Reached a b → ⊥) → (Reached b c → ⊥) → Reached a c → ⊥
not_reached a b c same no_first no_second reached = elim (cases_lt b.spent c.call) [
  | inr early ↦ no_first (record { not_yet = omega (arith, reached.not_yet, same); by_now = omega (arith, early, same) })
  | inl late ↦ no_second (record { not_yet = omega (arith, late); by_now = reached.by_now })
]

pub burned-append : {O : Type 0} (xs ys : List O) (f : Burn) → burned (xs ++ ys) f ≡ burned ys (burned xs f)
burned-append [] ys f = refl
burned-append (x ∷ xs) ys f = burned-append xs ys (spent_once f)

-- what a device sees of calls one behind the other
pub calls_append : {O : Type 0} (xs ys : List O) (f : Burn) → calls_in f (xs ++ ys) ≡ calls_in f xs ++ calls_in (burned xs f) ys
calls_append [] ys f = refl
calls_append (x ∷ xs) ys f = ap (λ (l : List (DeviceCall _)). call_at (pick_now f) x ∷ l) (calls_append xs ys (spent_once f))

module _ {D O : Type 0} (made : D → D → List (DeviceCall O) → Type 0) (made_more : (a b c : D) (xs ys : List (DeviceCall O)) → made a b xs → made b c ys → made a c (xs ++ ys)) where
  pub then_all : (a b c : D) (f g h : Burn) (xs ys : List O) → RanAll made a b f g xs → RanAll made b c g h ys → RanAll made a c f h (xs ++ ys)
  then_all a b c f g h xs ys first second = record {
    each = subst (λ (l : List (DeviceCall O)). made a c l) (sym (calls_append xs ys f)) (made_more a b c (calls_in f xs) (calls_in (burned xs f) ys) first.each (subst (λ (k : Burn). made b c (calls_in k ys)) first.fuse second.each));
    fuse = second.fuse ∙ ap (burned ys) first.fuse ∙ sym (burned-append xs ys f);
  }

  pub then_ran : (a b c : D) (f g h : Burn) (xs ys : List O) → RanAll made a b f g xs → Ran made b c g h ys → Ran made a c f h (xs ++ ys)
  then_ran a b c f g h xs ys first second = record {
    first = xs ++ second.first;
    rest = second.rest;
    whole = ap (λ (l : List O). xs ++ l) second.whole ∙ sym (append_assoc xs second.first second.rest);
    all = then_all a b c f g h xs second.first first second.all;
  }

-- one call, by another name
pub one_call : {D O : Type 0} (made : D → D → List (DeviceCall O) → Type 0) (a b : D) (f g : Burn) (op same : O) → op ≡ same → made a b (calls_in f (op ∷ [])) → g ≡ spent_once f → RanAll made a b f g (same ∷ [])
one_call made a b f g op same is each once = subst (λ (o : _). RanAll made a b f g (o ∷ [])) is (record { each = each; fuse = once })

pub ran_first : {D O : Type 0} (made : D → D → List (DeviceCall O) → Type 0) (a b : D) (f g : Burn) (xs ys : List O) → RanAll made a b f g xs → Ran made a b f g (xs ++ ys)
ran_first made a b f g xs ys all = record { first = xs; rest = ys; whole = refl; all = all }

module _ {D O : Type 0} (made : D → D → List (DeviceCall O) → Type 0) (a b : D) (f g : Burn) where
  -- the same calls by another name
  pub all_same : (xs ys : List O) → xs ≡ ys → RanAll made a b f g xs → RanAll made a b f g ys
  all_same xs ys same all = subst (λ (l : List O). RanAll made a b f g l) same all

  pub ran_same : (xs ys : List O) → xs ≡ ys → Ran made a b f g xs → Ran made a b f g ys
  ran_same xs ys same ran = subst (λ (l : List O). Ran made a b f g l) same ran

  -- of more calls these are still the first
  pub ran_more : (xs ys : List O) → Ran made a b f g xs → Ran made a b f g (xs ++ ys)
  ran_more xs ys ran = record {
    first = ran.first;
    rest = ran.rest ++ ys;
    whole = ap (λ (l : List O). l ++ ys) ran.whole ∙ append_assoc ran.first ran.rest ys;
    all = ran.all;
  }

pub ran_all : {D O : Type 0} (made : D → D → List (DeviceCall O) → Type 0) (a b : D) (f g : Burn) (xs : List O) → RanAll made a b f g xs → Ran made a b f g xs
ran_all made a b f g xs all = record { first = xs; rest = []; whole = sym (append-nil xs); all = all }

-- a call that came to its end
pub run_ok : {D O T E : Type 0} (made : D → D → List (DeviceCall O) → Type 0) (a b : D) (f g : Burn) (xs : List O) (x : T) → RanAll made a b f g xs → HasRun {E = E} made (Ok x) a b f g xs
run_ok made a b f g xs x all = record { ran = ran_all made a b f g xs all; all = all }

-- .. and one that did not
pub run_err : {D O T E : Type 0} (made : D → D → List (DeviceCall O) → Type 0) (r : Result T E) (a b : D) (f g : Burn) (xs : List O) (e : E) → r ≡ Err e → Ran made a b f g xs → HasRun made r a b f g xs
run_err {T = T} {E = E} made r a b f g xs e is ran = record { ran = ran; all = subst (λ (q : Result T E). OnOk q (RanAll made a b f g xs)) (sym is) tt }

-- .. and one whose calls were made, whatever it answered
pub run_each : {D O T E : Type 0} (made : D → D → List (DeviceCall O) → Type 0) (r : Result T E) (a b : D) (f g : Burn) (xs : List O) → RanAll made a b f g xs → HasRun made r a b f g xs
run_each made (Ok x) a b f g xs all = record { ran = ran_all made a b f g xs all; all = all }
run_each made (Err e) a b f g xs all = record { ran = ran_all made a b f g xs all; all = tt }
