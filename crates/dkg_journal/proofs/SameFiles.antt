-- Files that differ nowhere, and their names.
use Rattle.std.proofs.Common.{◌≡◌, ◌≢◌, ◌⊎◌, inl, inr, Bool, true, false, cond, List, [], ◌∷◌, map, Option, Some, None, is_some, refl, sym, ◌∙◌, ap, subst}
use Rattle.std.specs.Prelude.{filter, not, ℕ, T, ◌&&◌}
use Rattle.std.specs.Ordering.{eq_by_cmp, is_eq, is_lt}
use Rattle.std.specs.declared.cmp.Ordering.TheVariants.{Less, Equal, Greater}
use Rattle.std.specs.FinMap.{get, insert, entries, keys, same_map, contains_key-keys, entries-insert, entries_sorted, get-entries}
use Rattle.std.specs.FinMap.Entries.{below_all, by_order, find, find-where_key, is_sorted, is_sorted-where_key, put, same_entries, where_key}
use Rattle.std.proofs.lemmas.Bool.{cases_eq}
use Rattle.std.proofs.lemmas.Cmp.{tied_itself}
use Rattle.dkg_values.specs.declared.name.Name.{Name}
use Rattle.dkg_journal.specs.Names.{Files, name_cmp, name_number, name_at, name_at-name_number}
use Rattle.dkg_journal.specs.Disk.{SameElse}
use Rattle.dkg_journal.specs.Operations.{has_name, with_name, without_name}
use Rattle.dkg_journal.proofs.Steps.{names_total, exact_names, get_here}
use Rattle.dkg_journal.proofs.AtOnce.{get_other}

-- the same name, or another
pub same_name : (q name : Name) → (q ≡ name) ⊎ (q ≢ name)
same_name q name = elim (cases_eq (name_number q) (name_number name)) [
  | inl same ↦ inl (sym (name_at-name_number q) ∙ ap name_at same ∙ name_at-name_number name)
  | inr apart ↦ inr (λ e. apart (ap name_number e))
]

-- files that differ nowhere
pub same_files : (name : Name) (d c : Files) → SameElse name d c → get c name ≡ get d name → c ≡ d
same_files name d c others is = same_map names_total exact_names c d (λ q. elim (same_name q name) [
  | inl at ↦ subst (λ (x : Name). get c x ≡ get d x) (sym at) is
  | inr apart ↦ others q apart
])

pub name_itself : (name : Name) → eq_by_cmp name_cmp name name ≡ true
name_itself name = ap is_eq (tied_itself names_total name)

pub name_apart : (q name : Name) → q ≢ name → eq_by_cmp name_cmp q name ≡ false
name_apart q name ne = elim (name_cmp q name) as (λ o. name_cmp q name ≡ o → is_eq o ≡ false) [
  | Less ↦ λ e. refl
  | Equal ↦ λ e. absurd (ne (exact_names q name e))
  | Greater ↦ λ e. refl
] refl

-- THE NAMES OF FILES

-- names with nothing behind them
abbrev bare : List (Name × List ℕ) → List (Name × Unit {0})
bare rows = map (λ e. (e.0, tt)) rows

abbrev present : Bool → Option (Unit {0})
present true = Some tt
present false = None

bare_below : (x : Name) (rows : List (Name × List ℕ)) → below_all name_cmp x (bare rows) ≡ below_all name_cmp x rows
bare_below x [] = refl
bare_below x (r ∷ rows) = ap (λ (b : Bool). is_lt (name_cmp x r.0) && b) (bare_below x rows)

bare_is_sorted : (rows : List (Name × List ℕ)) → is_sorted name_cmp (bare rows) ≡ is_sorted name_cmp rows
bare_is_sorted [] = refl
bare_is_sorted (r ∷ rows) = λ i. bare_below r.0 rows i && bare_is_sorted rows i

bare_sorted : (f : Files) → T (is_sorted name_cmp (bare (entries f)))
bare_sorted f = subst T (sym (bare_is_sorted (entries f))) (entries_sorted f)

bare_keys : (rows : List (Name × List ℕ)) → map (λ (e : Name × Unit {0}). e.0) (bare rows) ≡ map (λ (e : Name × List ℕ). e.0) rows
bare_keys [] = refl
bare_keys (r ∷ rows) = ap (λ (l : List Name). r.0 ∷ l) (bare_keys rows)

bare_find : (q : Name) (rows : List (Name × List ℕ)) → find name_cmp q (bare rows) ≡ present (is_some (find name_cmp q rows))
bare_find q [] = refl
bare_find q (r ∷ rows) = elim (eq_by_cmp name_cmp q r.0) as (λ (b : Bool). cond b (Some tt) (find name_cmp q (bare rows)) ≡ present (is_some (cond b (Some r.1) (find name_cmp q rows)))) [ true ↦ refl | false ↦ bare_find q rows ]

bare_get : (f : Files) (q : Name) → find name_cmp q (bare (entries f)) ≡ present (is_some (get f q))
bare_get f q = bare_find q (entries f) ∙ ap (λ (o : Option (List ℕ)). present (is_some o)) (sym (get-entries f q))

-- the names are those at which something stands
pub same_keys : (c d : Files) → ((q : Name) → is_some (get c q) ≡ is_some (get d q)) → keys c ≡ keys d
same_keys c d same =
    let es : bare (entries c) ≡ bare (entries d) = same_entries name_cmp names_total exact_names (bare (entries c)) (bare (entries d)) (bare_sorted c) (bare_sorted d) (λ q. bare_get c q ∙ ap present (same q) ∙ sym (bare_get d q)) in
    sym (bare_keys (entries c)) ∙ ap (λ (l : List (Name × Unit {0})). map (λ (e : Name × Unit {0}). e.0) l) es ∙ bare_keys (entries d)

filter_bare : (p : Name → Bool) (rows : List (Name × List ℕ)) → map (λ (e : Name × Unit {0}). e.0) (where_key name_cmp p (bare rows)) ≡ filter p (map (λ (e : Name × List ℕ). e.0) rows)
filter_bare p [] = refl
filter_bare p (r ∷ rows) = elim (p r.0) as (λ (b : Bool). map (λ (e : Name × Unit {0}). e.0) (cond b ((r.0, tt) ∷ where_key name_cmp p (bare rows)) (where_key name_cmp p (bare rows))) ≡ cond b (r.0 ∷ filter p (map (λ (e : Name × List ℕ). e.0) rows)) (filter p (map (λ (e : Name × List ℕ). e.0) rows))) [
  | true ↦ ap (λ (l : List Name). r.0 ∷ l) (filter_bare p rows)
  | false ↦ filter_bare p rows
]

-- .. of which those that pass a test
pub some_keys : (p : Name → Bool) (c d : Files) → ((q : Name) → is_some (get c q) ≡ (p q && is_some (get d q))) → keys c ≡ filter p (keys d)
some_keys p c d same =
    let alike : (q x : Name) → name_cmp q x ≡ Equal → p x ≡ p q = λ q x tied. ap p (sym (exact_names q x tied)) in
    let es : bare (entries c) ≡ where_key name_cmp p (bare (entries d)) = same_entries name_cmp names_total exact_names (bare (entries c)) (where_key name_cmp p (bare (entries d))) (bare_sorted c) (is_sorted-where_key name_cmp p (bare (entries d)) (bare_sorted d)) (λ q.
    bare_get c q ∙ ap present (same q) ∙ both (p q) (is_some (get d q))
    ∙ sym (find-where_key name_cmp p q (alike q) (bare (entries d)) ∙ ap (λ (o : Option (Unit {0})). cond (p q) o None) (bare_get d q))) in
    sym (bare_keys (entries c)) ∙ ap (λ (l : List (Name × Unit {0})). map (λ (e : Name × Unit {0}). e.0) l) es ∙ filter_bare p (entries d)
  where
    both : (a b : Bool) → present (a && b) ≡ cond a (present b) None
    both true b = refl
    both false b = refl

put_keys : (name : Name) (v : List ℕ) (rows : List (Name × List ℕ)) → map (λ (e : Name × List ℕ). e.0) (put name_cmp name v rows) ≡ with_name name (map (λ (e : Name × List ℕ). e.0) rows)
put_keys name v [] = refl
put_keys name v (r ∷ rows) = elim (name_cmp name r.0) as (λ o. map (λ (e : Name × List ℕ). e.0) (by_order o ((name, v) ∷ r ∷ rows) ((r.0, v) ∷ rows) (r ∷ put name_cmp name v rows)) ≡ by_order o (name ∷ r.0 ∷ map (λ (e : Name × List ℕ). e.0) rows) (r.0 ∷ map (λ (e : Name × List ℕ). e.0) rows) (r.0 ∷ with_name name (map (λ (e : Name × List ℕ). e.0) rows))) [
  | Less ↦ refl
  | Equal ↦ refl
  | Greater ↦ ap (λ (l : List Name). r.0 ∷ l) (put_keys name v rows)
]

pub insert_keys : (f : Files) (name : Name) (v : List ℕ) → keys (insert f name v) ≡ with_name name (keys f)
insert_keys f name v = ap (λ (l : List (Name × List ℕ)). map (λ (e : Name × List ℕ). e.0) l) (entries-insert names_total f name v) ∙ put_keys name v (entries f)

pub has_key : (f : Files) (name : Name) → has_name name (keys f) ≡ is_some (get f name)
has_key f name = sym (contains_key-keys f name)

-- with one name more, or without one
pub named : (name : Name) (old c : Files) → SameElse name old c → is_some (get c name) ≡ true → keys c ≡ with_name name (keys old)
named name old c others here = same_keys c (insert old name []) (λ q. elim (same_name q name) [
  | inl at ↦ ap (λ (n : Name). is_some (get c n)) at ∙ here ∙ sym (ap (λ (n : Name). is_some (get (insert old name []) n)) at ∙ ap is_some (get_here old name []))
  | inr ne ↦ ap is_some (others q ne) ∙ sym (ap is_some (get_other old name [] q ne))
]) ∙ insert_keys old name []

pub unnamed : (name : Name) (old c : Files) → SameElse name old c → get c name ≡ None → keys c ≡ without_name name (keys old)
unnamed name old c others gone = some_keys (λ n. not (eq_by_cmp name_cmp name n)) c old (λ q. elim (same_name q name) [
  | inl at ↦ ap (λ (n : Name). is_some (get c n)) at ∙ ap is_some gone ∙ sym (ap (λ (b : Bool). not b && is_some (get old q)) (ap (λ (n : Name). eq_by_cmp name_cmp name n) at ∙ name_itself name))
  | inr ne ↦ ap is_some (others q ne) ∙ sym (ap (λ (b : Bool). not b && is_some (get old q)) (name_apart name q (λ e. ne (sym e))))
])

pub named_same : (name : Name) (old c : Files) → SameElse name old c → is_some (get c name) ≡ is_some (get old name) → keys c ≡ keys old
named_same name old c others here = same_keys c old (λ q. elim (same_name q name) [
  | inl at ↦ ap (λ (n : Name). is_some (get c n)) at ∙ here ∙ ap (λ (n : Name). is_some (get old n)) (sym at)
  | inr ne ↦ ap is_some (others q ne)
])
