-- The dealings that a map gives, and those that are recorded.
use Rattle.std.proofs.Common.{ℕ, List, [], ◌∷◌, ◌++◌, ◌≡◌, refl, Option, Some, None, Bool, true, false, cond, sym, ap, subst, ◌∙◌}
use Rattle.std.specs.Prelude.{fold, ◌==◌, is_some}
use Rattle.std.specs.FinMap.{get}
use Rattle.std.specs.List.{AllByRecursion}
use Rattle.std.specs.Option.{option_or}
use Rattle.std.proofs.lemmas.Bool.{and_parts, eqb-true}
use Rattle.std.proofs.lemmas.List.Folds.{find-append}
use Rattle.dkg_store.specs.Pairs.{Pairs}
use Rattle.dkg_infos.specs.declared.entry.Restored.{Restored}
use Rattle.dkg_script.specs.Kept.{Gives}
use Rattle.dkg_script.specs.Progress.{pair_of, has_pair_key, with_restored}

-- FOUND IN A LIST

-- what is found has the key, and what holds of each
pub found_is : (P : Restored → Type 0) (pairs : List Restored) (epoch dealer : ℕ) (x : Restored) → AllByRecursion P pairs
    → pair_of pairs epoch dealer ≡ Some x → P x × (x.epoch ≡ epoch) × (x.dealer ≡ dealer)
found_is P [] epoch dealer x all e = absurd (none_there e)
  where
    none_there : None ≡ Some x → ⊥
    none_there e = cc
found_is P (y ∷ pairs) epoch dealer x all e = by_key (found_is P pairs epoch dealer x all.1) (has_pair_key epoch dealer y) refl e
  where
    same : Some y ≡ Some x → y ≡ x
    same e = cc

    by_key : (pair_of pairs epoch dealer ≡ Some x → P x × (x.epoch ≡ epoch) × (x.dealer ≡ dealer)) → (b : Bool) → has_pair_key epoch dealer y ≡ b → cond b (Some y) (pair_of pairs epoch dealer) ≡ Some x
        → P x × (x.epoch ≡ epoch) × (x.dealer ≡ dealer)
    by_key later true is e =
        let parts = and_parts (y.epoch == epoch) (y.dealer == dealer) is in
        subst (λ (z : Restored). P z × (z.epoch ≡ epoch) × (z.dealer ≡ dealer)) (same e) (all.0, eqb-true y.epoch epoch parts.0, eqb-true y.dealer dealer parts.1)
    by_key later false is e = later e

-- A LIST WITH MORE

-- the first of a key stays
pub with_pair_finds : (pairs : List Restored) (x : Restored) (epoch dealer : ℕ)
    → pair_of (with_restored pairs x) epoch dealer ≡ option_or (pair_of pairs epoch dealer) (pair_of (x ∷ []) epoch dealer)
with_pair_finds pairs x epoch dealer = by_own (pair_of pairs x.epoch x.dealer) refl
  where
    later : {A : Type 0} (o : Option A) → o ≡ option_or o None
    later None = refl
    later (Some y) = refl

    kept : (y : Restored) → pair_of pairs x.epoch x.dealer ≡ Some y → with_restored pairs x ≡ pairs
    kept y e = rw e refl

    by_key : (y : Restored) → pair_of pairs x.epoch x.dealer ≡ Some y → (b : Bool) → has_pair_key epoch dealer x ≡ b
        → pair_of pairs epoch dealer ≡ option_or (pair_of pairs epoch dealer) (cond b (Some x) None)
    by_key y e true is =
        let parts = and_parts (x.epoch == epoch) (x.dealer == dealer) is in
        let there : pair_of pairs epoch dealer ≡ Some y = rw (← eqb-true x.epoch epoch parts.0, ← eqb-true x.dealer dealer parts.1) e
        in rw there refl
    by_key y e false is = later (pair_of pairs epoch dealer)

    by_own : (o : Option Restored) → pair_of pairs x.epoch x.dealer ≡ o
        → pair_of (with_restored pairs x) epoch dealer ≡ option_or (pair_of pairs epoch dealer) (pair_of (x ∷ []) epoch dealer)
    by_own (Some y) e = ap (λ (ps : List Restored). pair_of ps epoch dealer) (kept y e) ∙ by_key y e (has_pair_key epoch dealer x) refl
    by_own None e = ap (λ (b : Bool). pair_of (cond b pairs (pairs ++ x ∷ [])) epoch dealer) (ap is_some e) ∙ find-append (has_pair_key epoch dealer) pairs (x ∷ [])

or_assoc : {A : Type 0} (a b c : Option A) → option_or (option_or a b) c ≡ option_or a (option_or b c)
or_assoc None b c = refl
or_assoc (Some x) b c = refl

cons_found : (x : Restored) (xs : List Restored) (epoch dealer : ℕ) → option_or (pair_of (x ∷ []) epoch dealer) (pair_of xs epoch dealer) ≡ pair_of (x ∷ xs) epoch dealer
cons_found x xs epoch dealer = by_key (has_pair_key epoch dealer x)
  where
    by_key : (b : Bool) → option_or (cond b (Some x) None) (pair_of xs epoch dealer) ≡ cond b (Some x) (pair_of xs epoch dealer)
    by_key true = refl
    by_key false = refl

pub with_all_finds : (xs pairs : List Restored) (epoch dealer : ℕ)
    → pair_of (fold with_restored pairs xs) epoch dealer ≡ option_or (pair_of pairs epoch dealer) (pair_of xs epoch dealer)
with_all_finds [] pairs epoch dealer = or_none (pair_of pairs epoch dealer)
  where
    or_none : {A : Type 0} (o : Option A) → o ≡ option_or o None
    or_none None = refl
    or_none (Some y) = refl
with_all_finds (x ∷ xs) pairs epoch dealer =
    with_all_finds xs (with_restored pairs x) epoch dealer
    ∙ ap (λ (o : Option Restored). option_or o (pair_of xs epoch dealer)) (with_pair_finds pairs x epoch dealer)
    ∙ or_assoc (pair_of pairs epoch dealer) (pair_of (x ∷ []) epoch dealer) (pair_of xs epoch dealer)
    ∙ ap (λ (o : Option Restored). option_or (pair_of pairs epoch dealer) o) (cons_found x xs epoch dealer)

all_and_one : (P : Restored → Type 0) (pairs : List Restored) (x : Restored) → AllByRecursion P pairs → P x → AllByRecursion P (pairs ++ x ∷ [])
all_and_one P [] x all one = (one, tt)
all_and_one P (y ∷ pairs) x all one = (all.0, all_and_one P pairs x all.1 one)

pub all_with_pair : (P : Restored → Type 0) (pairs : List Restored) (x : Restored) → AllByRecursion P pairs → P x → AllByRecursion P (with_restored pairs x)
all_with_pair P pairs x all one = by_own (is_some (pair_of pairs x.epoch x.dealer))
  where
    by_own : (b : Bool) → AllByRecursion P (cond b pairs (pairs ++ x ∷ []))
    by_own true = all
    by_own false = all_and_one P pairs x all one

pub all_with_all : (P : Restored → Type 0) (xs pairs : List Restored) → AllByRecursion P pairs → AllByRecursion P xs → AllByRecursion P (fold with_restored pairs xs)
all_with_all P [] pairs all more = all
all_with_all P (x ∷ xs) pairs all more = all_with_all P xs (with_restored pairs x) (all_with_pair P pairs x all more.0) more.1

-- WHAT A MAP GIVES

same_value : {A : Type 0} (x y : A) → Some x ≡ Some y → x ≡ y
same_value x y e = cc

-- a map gives one dealing of a key
pub gives_one : (m : Pairs) (x y : Restored) → Gives m x → Gives m y → x.epoch ≡ y.epoch → x.dealer ≡ y.dealer → x ≡ y
gives_one m x y gx gy e d =
    let same : ◌≡◌ {A = List ℕ × ℕ} (x.public, x.private) (y.public, y.private) = same_value (x.public, x.private) (y.public, y.private) (sym gx ∙ ap (λ (k : ℕ × ℕ). get m k) (keys x y e d) ∙ gy) in
    rebuilt x y e d (ap (λ (v : List ℕ × ℕ). v.0) same) (ap (λ (v : List ℕ × ℕ). v.1) same)
  where
    keys : (x y : Restored) → x.epoch ≡ y.epoch → x.dealer ≡ y.dealer → ◌≡◌ {A = ℕ × ℕ} (x.epoch, x.dealer) (y.epoch, y.dealer)
    keys x y e d = rw (e, d) refl

    rebuilt : (x y : Restored) → x.epoch ≡ y.epoch → x.dealer ≡ y.dealer → x.public ≡ y.public → x.private ≡ y.private → x ≡ y
    rebuilt x y e d p q = ap (λ (n : ℕ). record { epoch = n; dealer = x.dealer; public = x.public; private = x.private }) e
        ∙ ap (λ (n : ℕ). record { epoch = y.epoch; dealer = n; public = x.public; private = x.private }) d
        ∙ ap (λ (n : List ℕ). record { epoch = y.epoch; dealer = y.dealer; public = n; private = x.private }) p
        ∙ ap (λ (n : ℕ). record { epoch = y.epoch; dealer = y.dealer; public = y.public; private = n }) q

abbrev pub restored_at : ℕ → ℕ → List ℕ × ℕ → Restored
restored_at epoch dealer v = record { epoch = epoch; dealer = dealer; public = v.0; private = v.1 }
