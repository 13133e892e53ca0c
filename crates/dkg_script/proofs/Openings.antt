-- A later opening that lists what the devices give back.
use Rattle.std.proofs.Common.{ℕ, suc, List, [], ◌∷◌, ◌≡◌, refl, Option, Some, None, Bool, true, false, cond, sym, subst, ap, ◌∙◌, arith, length}
use Rattle.std.specs.Prelude.{map, fold, T, Contains, ◌&&◌, unwrap_or}
use Rattle.std.specs.FinMap.{get-entries, entries as pairs_in, entries_sorted, find, is_sorted}
use Rattle.std.specs.FinMap.Entries.{below_all}
use Rattle.std.specs.List.{AllByRecursion}
use Rattle.std.specs.Ordering.{eq_by_cmp, is_eq, is_lt}
use Rattle.std.specs.declared.cmp.Ordering.{Ordering}
use Rattle.std.specs.declared.cmp.Ordering.TheVariants.{Less, Equal, Greater}
use Rattle.dkg_secrets.specs.Keys.{key_cmp}
use Rattle.dkg_store.specs.Pairs.{Pairs}
use Rattle.dkg_store.specs.Recorded.{restored_list, restored_of}
use Rattle.dkg_secrets.proofs.Map.{exact_keys}
use Rattle.dkg_infos.specs.declared.entry.Restored.{Restored}
use Rattle.dkg_script.specs.Setting.{Setting}
use Rattle.dkg_script.specs.Position.{begun_before}
use Rattle.dkg_script.specs.Progress.{Progress, with_restored}
use Rattle.dkg_script.specs.Kept.{AllCurrent, Gives, IsBroughtAtCut, IsLaterOpening, IsRecordedAs, ArePairsRising}
use Rattle.dkg_script.proofs.Listed.{gives_all}

-- IT RISES

abbrev keyed : Restored → (ℕ × ℕ) × Restored
keyed pair = ((pair.epoch, pair.dealer), pair)

same_below : (key : ℕ × ℕ) (es : List ((ℕ × ℕ) × (List ℕ × ℕ))) → below_all key_cmp key (map keyed (map restored_of es)) ≡ below_all key_cmp key es
same_below key [] = refl
same_below key (e ∷ es) = ap (λ (b : Bool). is_lt (key_cmp key e.0) && b) (same_below key es)

same_sorted : (es : List ((ℕ × ℕ) × (List ℕ × ℕ))) → is_sorted key_cmp (map keyed (map restored_of es)) ≡ is_sorted key_cmp es
same_sorted [] = refl
same_sorted (e ∷ es) = ap (λ (b : Bool). b && is_sorted key_cmp (map keyed (map restored_of es))) (same_below e.0 es) ∙ ap (λ (b : Bool). below_all key_cmp e.0 es && b) (same_sorted es)

pub listed_rises : (m : Pairs) → ArePairsRising (restored_list m)
listed_rises m = subst T (sym (same_sorted (pairs_in m))) (entries_sorted m)

-- IT LISTS WHAT THE MAP GIVES

contains_more : (x y : Restored) (xs : List Restored) → Contains xs x → Contains (y ∷ xs) x
contains_more x y xs (k, below, is) = (suc k, omega arith, is)

equal : (r : Ordering) → is_eq r ≡ true → r ≡ Equal
equal Less e = absurd (let h : false ≡ true = e in cc)
equal Equal e = refl
equal Greater e = absurd (let h : false ≡ true = e in cc)

same_value : (v w : List ℕ × ℕ) → Some v ≡ Some w → v ≡ w
same_value v w e = ap (λ (o : Option (List ℕ × ℕ)). unwrap_or o v) e

none_found : (v : List ℕ × ℕ) → None ≡ Some v → ⊥
none_found v e = cc

in_list : (key : ℕ × ℕ) (v : List ℕ × ℕ) (es : List ((ℕ × ℕ) × (List ℕ × ℕ))) → find key_cmp key es ≡ Some v → Contains (map restored_of es) (restored_of (key, v))
in_list key v [] e = absurd (none_found v e)
in_list key v (x ∷ es) e = by_case (in_list key v es) (eq_by_cmp key_cmp key x.0) refl e
  where
    here : key ≡ x.0 → x.1 ≡ v → restored_of x ≡ restored_of (key, v)
    here p q = ap (λ (k : ℕ × ℕ). restored_of (k, x.1)) (sym p) ∙ ap (λ (w : List ℕ × ℕ). restored_of (key, w)) q

    by_case : (find key_cmp key es ≡ Some v → Contains (map restored_of es) (restored_of (key, v))) → (b : Bool) → eq_by_cmp key_cmp key x.0 ≡ b → cond b (Some x.1) (find key_cmp key es) ≡ Some v → Contains (map restored_of (x ∷ es)) (restored_of (key, v))
    by_case later true is found = (0, omega arith, here (exact_keys key x.0 (equal (key_cmp key x.0) is)) (same_value x.1 v found))
    by_case later false is found = contains_more (restored_of (key, v)) (restored_of x) (map restored_of es) (later found)

pub given_is_listed : (m : Pairs) (pair : Restored) → Gives m pair → Contains (restored_list m) pair
given_is_listed m pair given = in_list (pair.epoch, pair.dealer) (pair.public, pair.private) (pairs_in m) (sym (get-entries m (pair.epoch, pair.dealer)) ∙ given)

-- SO IT IS A LATER OPENING

weaker_current : (begun : ℕ) (P Q : Restored → Type 0) → ((x : Restored) → P x → Q x) → (xs : List Restored) → AllCurrent begun P xs → AllCurrent begun Q xs
weaker_current begun P Q leads [] all = tt
weaker_current begun P Q leads (x ∷ xs) all = ((λ current. leads x (all.0 current)), weaker_current begun P Q leads xs all.1)

weaker : (P Q : Restored → Type 0) → ((x : Restored) → P x → Q x) → (xs : List Restored) → AllByRecursion P xs → AllByRecursion Q xs
weaker P Q leads [] all = tt
weaker P Q leads (x ∷ xs) all = (leads x all.0, weaker P Q leads xs all.1)

pub lists_them : (s : Setting) (p : Progress) (m : Pairs)
    → AllCurrent (begun_before s p.cuts (length p.cuts)) (Gives m) p.recorded
    → ((pair : Restored) → Gives m pair → IsRecordedAs p.recorded (fold with_restored p.recorded (restored_list m)) pair (IsBroughtAtCut s p pair))
    → IsLaterOpening s p (restored_list m)
lists_them s p m current sound = record {
  lists = weaker_current (begun_before s p.cuts (length p.cuts)) (Gives m) (Contains (restored_list m)) (given_is_listed m) p.recorded current;
  rising = listed_rises m;
  sound = weaker (Gives m) (λ pair. IsRecordedAs p.recorded (fold with_restored p.recorded (restored_list m)) pair (IsBroughtAtCut s p pair)) sound (restored_list m) (gives_all m);
}
