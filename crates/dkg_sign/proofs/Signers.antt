-- Which participants were met among the signers of partials.
use Rattle.std.proofs.Common.{◌≡◌, ◌⊎◌, inl, inr, ℕ, zero, suc, ◌+◌, ◌<◌, ◌≤◌, ◌||◌, Bool, true, false, not, eqb, List, [], ◌∷◌, length, get_or, drop, Some, None, replicate, refl, sym, ◌∙◌, ap, add-one, arith}
use Rattle.std.proofs.Math.ListN.{set}
use Rattle.std.proofs.Math.Seq.{drop-cons, drop-length}
use Rattle.std.specs.Bool.{OnTrue}
use Rattle.std.proofs.lemmas.Bool.{cases_Bool, cases_eq, eq-eqb, eqb-true, ne_eqb}
use Rattle.std.proofs.lemmas.List.{get_or-set_same, get_or-set_other}
use Rattle.std.specs.List.{position_from}
use Rattle.dkg_values.specs.Rising.{index_of, has_key}
use Rattle.dkg_types.specs.declared.scheme.SchemeInfo.{SchemeInfo}
use Rattle.dkg_sign.specs.Materials.{scheme_participants}
use Rattle.dkg_sign.specs.Signs.{AreMet, fault_from, is_valid_partial}
use Rattle.dkg_sign.specs.declared.error.CombineError.TheVariants.{Invalid, Doubled}
use Rattle.dkg_sign.specs.declared.partial.Partial.{Partial}

-- ---- a key's index

-- a key stands at its index
placed_from : (key i : ℕ) (keys : List ℕ) (index : ℕ) → position_from (λ x. eqb x key) i keys ≡ Some index → (k : ℕ) × (index ≡ i + k) × ((d : ℕ) → get_or keys k d ≡ key)
placed_from key i [] index is = absurd cc
placed_from key i (x ∷ xs) index is = elim (cases_Bool (eqb x key)) [
  | inl e ↦ let here : Some i ≡ Some index = rw e at is in let at : i ≡ index = cc in (0, omega arith, λ d. eqb-true x key e)
  | inr e ↦ let r = placed_from key (i + 1) xs index (rw e at is) in (suc r.0, omega (arith, r.1), r.2)
]

placed : (key : ℕ) (keys : List ℕ) (index d : ℕ) → index_of key keys ≡ Some index → get_or keys index d ≡ key
placed key keys index d is =
    let r = placed_from key 0 keys index is in
    let at : index ≡ r.0 = omega (arith, r.1) in
    ap (λ (k : ℕ). get_or keys k d) at ∙ r.2 d

-- two keys at one index are one
one_key : (a b : ℕ) (keys : List ℕ) (index : ℕ) → index_of a keys ≡ Some index → index_of b keys ≡ Some index → a ≡ b
one_key a b keys index at_a at_b = sym (placed a keys index 0 at_a) ∙ placed b keys index 0 at_b

some_is : (a b : ℕ) → Some a ≡ Some b → a ≡ b
some_is a b e = cc

-- ---- the flags

none_at : (n i : ℕ) → get_or (replicate n false) i false ≡ false
none_at zero i = refl
none_at (suc n) zero = refl
none_at (suc n) (suc i) = none_at n i

pub none_met : (participants : List ℕ) (n : ℕ) → AreMet participants [] (replicate n false)
none_met participants n = record { each = λ key index is. none_at n index }

met_more : (participants met : List ℕ) (flags : List Bool) (key index : ℕ) → index_of key participants ≡ Some index → index < length flags → AreMet participants met flags → AreMet participants (key ∷ met) (set flags index true)
met_more participants met flags key index is lt are = record { each = λ k p at. here k p at (cases_eq p index) }
  where
    here : (k p : ℕ) → index_of k participants ≡ Some p → (p ≡ index) ⊎ (p ≡ index → ⊥) → get_or (set flags index true) p false ≡ has_key k (key ∷ met)
    here k p at (inl same) =
        let one : k ≡ key = one_key k key participants index (at ∙ ap (λ (n : ℕ). Some n) same) is in
        ap (λ (n : ℕ). get_or (set flags index true) n false) same ∙ get_or-set_same flags index true false lt ∙ sym (ap (λ (b : Bool). b || has_key k met) (eq-eqb k key one))
    here k p at (inr other) =
        let two : eqb k key ≡ false = ne_eqb k key (λ e. other (some_is p index (sym at ∙ ap (λ (n : ℕ). index_of n participants) e ∙ is))) in
        get_or-set_other flags index p true false other ∙ are.each k p at ∙ sym (ap (λ (b : Bool). b || has_key k met) two)

on_true : (b : Bool) (P : Type 0) → P → OnTrue b P
on_true true P p = p
on_true false P p = tt

-- a participant is met: whether it was before, and the flags then
pub meets : (participants met : List ℕ) (flags : List Bool) (key index : ℕ) → index_of key participants ≡ Some index → index < length flags → AreMet participants met flags
    → (not (get_or flags index false) ≡ not (has_key key met)) × OnTrue (not (get_or flags index false)) (AreMet participants (key ∷ met) (set flags index true))
meets participants met flags key index is lt are = (
  ap not (are.each key index is),
  on_true (not (get_or flags index false)) (AreMet participants (key ∷ met) (set flags index true)) (met_more participants met flags key index is lt are),
)

-- ---- the partials so far

-- they had no fault, and their signers were met
pub record IsChecked (info : SchemeInfo) (epoch hash : ℕ) (partials : List Partial) (flags : List Bool) (index : ℕ) : Type 0 where
  pub met : List ℕ
  pub flagged : AreMet (scheme_participants info) met flags
  pub rest : fault_from info epoch hash [] 0 partials ≡ fault_from info epoch hash met index (drop index partials)

pub none_checked : (info : SchemeInfo) (epoch hash : ℕ) (partials : List Partial) (n : ℕ) → IsChecked info epoch hash partials (replicate n false) 0
none_checked info epoch hash partials n = record { met = []; flagged = none_met (scheme_participants info) n; rest = refl }

here_is : (info : SchemeInfo) (epoch hash : ℕ) (partials : List Partial) (met : List ℕ) (index : ℕ) (p : Partial) → index < length partials → p ≡ get_or partials index p
    → fault_from info epoch hash met index (drop index partials) ≡ fault_from info epoch hash met index (p ∷ drop (suc index) partials)
here_is info epoch hash partials met index p lt is =
    ap (λ (ps : List Partial). fault_from info epoch hash met index ps) (drop-cons partials index p lt ∙ ap (λ (q : Partial). q ∷ drop (suc index) partials) (sym is))

-- .. one that is not valid
pub one_invalid : (info : SchemeInfo) (epoch hash : ℕ) (partials : List Partial) (flags : List Bool) (index : ℕ) (p : Partial) → index < length partials → p ≡ get_or partials index p
    → IsChecked info epoch hash partials flags index → is_valid_partial info epoch hash p ≡ false → fault_from info epoch hash [] 0 partials ≡ Some (Invalid index)
one_invalid info epoch hash partials flags index p lt is so invalid =
    so.rest ∙ here_is info epoch hash partials so.met index p lt is ∙ rw invalid refl

-- .. one whose signer was met
pub one_doubled : (info : SchemeInfo) (epoch hash : ℕ) (partials : List Partial) (flags : List Bool) (index : ℕ) (p : Partial) → index < length partials → p ≡ get_or partials index p
    → (so : IsChecked info epoch hash partials flags index) → is_valid_partial info epoch hash p ≡ true → has_key p.signer so.met ≡ true → fault_from info epoch hash [] 0 partials ≡ Some (Doubled index)
one_doubled info epoch hash partials flags index p lt is so valid met =
    so.rest ∙ here_is info epoch hash partials so.met index p lt is ∙ rw (valid, met) refl

-- .. one without a fault
pub one_more : (info : SchemeInfo) (epoch hash : ℕ) (partials : List Partial) (flags next : List Bool) (index : ℕ) (p : Partial) → index < length partials → p ≡ get_or partials index p
    → (so : IsChecked info epoch hash partials flags index) → is_valid_partial info epoch hash p ≡ true → has_key p.signer so.met ≡ false → AreMet (scheme_participants info) (p.signer ∷ so.met) next
    → IsChecked info epoch hash partials next (index + 1)
one_more info epoch hash partials flags next index p lt is so valid unmet are = record {
  met = p.signer ∷ so.met;
  flagged = are;
  rest = so.rest ∙ here_is info epoch hash partials so.met index p lt is ∙ rw (valid, unmet, add-one) refl;
}

-- .. all of them
pub all_checked : (info : SchemeInfo) (epoch hash : ℕ) (partials : List Partial) (flags : List Bool) (index : ℕ) → length partials ≤ index → index ≤ length partials → IsChecked info epoch hash partials flags index → fault_from info epoch hash [] 0 partials ≡ None
all_checked info epoch hash partials flags index low high so =
    let end : index ≡ length partials = omega arith in
    so.rest ∙ ap (λ (n : ℕ). fault_from info epoch hash so.met n (drop n partials)) end ∙ ap (λ (ps : List Partial). fault_from info epoch hash so.met (length partials) ps) (drop-length partials)
