-- What the devices give back, as the list that an opening tells: each dealing of it is given, and what is given stands in it.
use Rattle.std.proofs.Common.{ℕ, List, [], ◌∷◌, ◌≡◌, refl, Option, Some, Bool, true, false, cond, sym, subst, ap, ◌∙◌, arith}
use Rattle.std.specs.Prelude.{map, T, option_map, ◌==◌, ◌&&◌}
use Rattle.std.specs.Cmp.{IsTotalOrder}
use Rattle.std.specs.FinMap.{get, entries as pairs_in, entries_sorted, get-entries, find, is_sorted}
use Rattle.std.specs.FinMap.Entries.{below_all}
use Rattle.std.specs.List.{AllByRecursion}
use Rattle.std.specs.Ordering.{eq_by_cmp, is_eq, is_lt, ordering_reverse}
use Rattle.std.specs.declared.cmp.Ordering.{Ordering}
use Rattle.std.specs.declared.cmp.Ordering.TheVariants.{Less, Equal, Greater}
use Rattle.std.proofs.lemmas.Bool.{and_parts, eqb-true}
use Rattle.std.proofs.lemmas.Bool.Decides.{nat_tests}
use Rattle.std.proofs.lemmas.Cmp.{tied_itself}
use Rattle.dkg_secrets.specs.Keys.{key_cmp}
use Rattle.dkg_store.specs.Pairs.{Pairs}
use Rattle.dkg_store.specs.Recorded.{restored_list, restored_of}
use Rattle.dkg_secrets.proofs.Map.{keys_total}
use Rattle.dkg_infos.specs.declared.entry.Restored.{Restored}
use Rattle.dkg_script.specs.Progress.{pair_of}
use Rattle.dkg_script.specs.Kept.{Gives}

-- WHAT A MAP LISTS, IT GIVES

split : (a b : Bool) → T (a && b) → T a × T b
split true b h = (tt, h)
split false b h = absurd h

less : (r : Ordering) → T (is_lt r) → r ≡ Less
less Less h = refl
less Equal h = absurd h
less Greater h = absurd h

module _ {K X : Type 0} {R : K → K → Ordering} (o : IsTotalOrder R) where
  behind : (e : K × X) (whole es : List (K × X)) → T (below_all R e.0 es) → AllByRecursion (λ f. find R f.0 whole ≡ Some f.1) es
      → AllByRecursion (λ f. find R f.0 (e ∷ whole) ≡ Some f.1) es
  behind e whole [] below all = tt
  behind e whole (f ∷ es) below all =
      let parts = split (is_lt (R e.0 f.0)) (below_all R e.0 es) below in
      let above : R f.0 e.0 ≡ Greater = o.antisymm f.0 e.0 ∙ ap ordering_reverse (less (R e.0 f.0) parts.0) in
      (ap (λ r. cond (is_eq r) (Some e.1) (find R f.0 whole)) above ∙ all.0, behind e whole es parts.1 all.1)

  pub each_found : (es : List (K × X)) → T (is_sorted R es) → AllByRecursion (λ e. find R e.0 es ≡ Some e.1) es
  each_found [] sorted = tt
  each_found (e ∷ es) sorted =
      let parts = split (below_all R e.0 es) (is_sorted R es) sorted in
      (ap (λ r. cond (is_eq r) (Some e.1) (find R e.0 es)) (tied_itself o e.0), behind e es es parts.0 (each_found es parts.1))

all_given : (m : Pairs) (es : List ((ℕ × ℕ) × (List ℕ × ℕ))) → AllByRecursion (λ e. find key_cmp e.0 (pairs_in m) ≡ Some e.1) es → AllByRecursion (Gives m) (map restored_of es)
all_given m [] all = tt
all_given m (e ∷ es) all = (get-entries m e.0 ∙ all.0, all_given m es all.1)

pub gives_all : (m : Pairs) → AllByRecursion (Gives m) (restored_list m)
gives_all m = all_given m (pairs_in m) (each_found keys_total (pairs_in m) (entries_sorted m))

-- .. and what is found in the list is what the map has
same_key : (epoch dealer epoch' dealer' : ℕ) → ((epoch' == epoch) && (dealer' == dealer)) ≡ eq_by_cmp key_cmp (epoch, dealer) (epoch', dealer')
same_key epoch dealer epoch' dealer' = grind (arith, nat_tests)

renamed : (epoch dealer epoch' dealer' : ℕ) (v : List ℕ × ℕ) → epoch' ≡ epoch → dealer' ≡ dealer → restored_of ((epoch', dealer'), v) ≡ restored_of ((epoch, dealer), v)
renamed epoch dealer epoch' dealer' v e f = cc

taken : (epoch dealer epoch' dealer' : ℕ) (v : List ℕ × ℕ) (rest : Option Restored) (rest' : Option (List ℕ × ℕ)) (b : Bool) → ((epoch' == epoch) && (dealer' == dealer)) ≡ b
    → rest ≡ option_map (λ v. restored_of ((epoch, dealer), v)) rest'
    → cond b (Some (restored_of ((epoch', dealer'), v))) rest ≡ option_map (λ v. restored_of ((epoch, dealer), v)) (cond b (Some v) rest')
taken epoch dealer epoch' dealer' v rest rest' true is e =
    let parts = and_parts (epoch' == epoch) (dealer' == dealer) is in
    ap (λ (x : Restored). Some x) (renamed epoch dealer epoch' dealer' v (eqb-true epoch' epoch parts.0) (eqb-true dealer' dealer parts.1))
taken epoch dealer epoch' dealer' v rest rest' false is e = e

found_in : (epoch dealer : ℕ) (es : List ((ℕ × ℕ) × (List ℕ × ℕ))) → pair_of (map restored_of es) epoch dealer ≡ option_map (λ v. restored_of ((epoch, dealer), v)) (find key_cmp (epoch, dealer) es)
found_in epoch dealer [] = refl
found_in epoch dealer (e ∷ es) =
    subst (λ (b : Bool). cond ((e.0.0 == epoch) && (e.0.1 == dealer)) (Some (restored_of e)) (pair_of (map restored_of es) epoch dealer)
    ≡ option_map (λ v. restored_of ((epoch, dealer), v)) (cond b (Some e.1) (find key_cmp (epoch, dealer) es)))
    (same_key epoch dealer e.0.0 e.0.1)
    (taken epoch dealer e.0.0 e.0.1 e.1 (pair_of (map restored_of es) epoch dealer) (find key_cmp (epoch, dealer) es) ((e.0.0 == epoch) && (e.0.1 == dealer)) refl (found_in epoch dealer es))

pub pair_of-restored_list : (m : Pairs) (epoch dealer : ℕ) → pair_of (restored_list m) epoch dealer ≡ option_map (λ v. restored_of ((epoch, dealer), v)) (get m (epoch, dealer))
pair_of-restored_list m epoch dealer = found_in epoch dealer (pairs_in m) ∙ ap (option_map (λ v. restored_of ((epoch, dealer), v))) (sym (get-entries m (epoch, dealer)))
