-- A memory disk's tree of files as rows.
use Rattle.std.proofs.Common.{◌≡◌, ℕ, ◌/◌, Bool, true, false, cond, [], ◌∷◌, map, Option, Some, None, is_some, IsSome, refl, sym, ◌∙◌, ap, subst}
use Rattle.std.specs.Prelude.{IsTrue}
use Rattle.std.specs.BTreeMap.{is_at}
use Rattle.std.specs.Map.{lookup, set_value}
use Rattle.std.specs.Map.Calls.{RetainsPairs}
use Rattle.std.specs.List.Sorted.{IsStrictlySortedBy}
use Rattle.std.specs.Ordering.{eq_by_cmp, is_eq}
use Rattle.std.specs.declared.cmp.Ordering.TheVariants.{Less, Equal, Greater}
use Rattle.std.specs.FinMap.Entries.{is_sorted}
use Rattle.std.proofs.lemmas.Map.Steps.{set_value_same}
use Rattle.std.proofs.lemmas.Cmp.{eq_by_cmp_equiv}
use Rattle.dkg_values.specs.declared.name.Name.{Name}
use Rattle.dkg_journal.specs.Names.{name_cmp}
use Rattle.dkg_journal.specs.Kept.{KeptBytes, settled, FileImage}
use Rattle.dkg_journal.specs.Table.{Rows, file_at, IsUpdate, made_sure, FileLands, PickedRow, Crashed, CrashedBy}
use Rattle.dkg_journal.proofs.Map.{find_lookup, is_sorted_true}
use Rattle.dkg_journal.proofs.Steps.{names_total, exact_names}

-- what a tree has at a name
abbrev pub tree_at : Name → Rows → Option KeptBytes
tree_at q rows = lookup (is_at (name_cmp q)) rows

-- .. is the file of that name
pub tree_file : (q : Name) (rows : Rows) → file_at q rows ≡ tree_at q rows
tree_file q rows = find_lookup names_total exact_names q rows

pub tree_update : (name : Name) (o : Option KeptBytes) (old new : Rows) → ((q : Name) → tree_at q new ≡ cond (is_at (name_cmp name) q) o (tree_at q old)) → IsUpdate name o old new
tree_update name o old new updates q =
    tree_file q new ∙ updates q ∙ ap (λ (b : Bool). cond b o (tree_at q old)) ((eq_by_cmp_equiv names_total).symm name q) ∙ ap (cond (eq_by_cmp name_cmp q name) o) (sym (tree_file q old))

pub rising : (rows : Rows) → IsStrictlySortedBy name_cmp (map (λ e. e.0) rows) → IsTrue (is_sorted name_cmp rows)
rising rows ordered = is_sorted_true names_total exact_names rows ordered

tied : (a b : Name) → eq_by_cmp name_cmp a b ≡ true → a ≡ b
tied a b is = elim (name_cmp a b) as (λ o. name_cmp a b ≡ o → is_eq o ≡ true → a ≡ b) [
  | Less ↦ λ e t. cc
  | Equal ↦ λ e t. exact_names a b e
  | Greater ↦ λ e t. cc
] refl is

-- where nothing has the name, nothing is changed
pub none_update : (rows : Rows) (name : Name) (o : Option KeptBytes) → file_at name rows ≡ None → o ≡ None → IsUpdate name o rows rows
none_update rows name o none is q = sym (ap (λ (x : Option KeptBytes). cond (eq_by_cmp name_cmp q name) x (file_at q rows)) is ∙ by_test)
  where
    by_test : cond (eq_by_cmp name_cmp q name) None (file_at q rows) ≡ file_at q rows
    by_test = elim (eq_by_cmp name_cmp q name) as (λ (b : Bool). eq_by_cmp name_cmp q name ≡ b → cond b None (file_at q rows) ≡ file_at q rows) [
      | true ↦ λ t. sym (ap (λ (n : Name). file_at n rows) (tied q name t) ∙ none)
      | false ↦ λ t. refl
    ] refl

pub as_update : (old new : Rows) (name : Name) (o p : Option KeptBytes) → o ≡ p → IsUpdate name o old new → IsUpdate name p old new
as_update old new name o p same update q = update q ∙ ap (λ (x : Option KeptBytes). cond (eq_by_cmp name_cmp q name) x (file_at q old)) same

-- a file that was found by its name, and what was written to it
module _ (name : Name) (es rows : Rows) (f : KeptBytes) (view : es ≡ rows) (found : Some f ≡ tree_at name es) where
  pub found_file : file_at name rows ≡ Some f
  found_file = ap (file_at name) (sym view) ∙ tree_file name es ∙ sym found

  pub found_some : IsSome (tree_at name es)
  found_some = ap is_some (sym found)

  pub found_update : (g : KeptBytes) (new : Rows) → ((q : Name) → tree_at q new ≡ cond (is_at (name_cmp name) q) (Some g) (tree_at q es)) → IsUpdate name (Some g) rows new
  found_update g new updates = subst (λ (l : Rows). IsUpdate name (Some g) l new) view (tree_update name (Some g) es new updates)

  -- the same written back
  pub found_same : (g : KeptBytes) (new : Rows) → g ≡ f → new ≡ set_value (is_at (name_cmp name)) es g → new ≡ rows
  found_same g new same is = is ∙ set_value_same (is_at (name_cmp name)) es g (sym found ∙ ap (λ (k : KeptBytes). Some k) (sym same)) ∙ view

pub missing_file : (name : Name) (es rows : Rows) → es ≡ rows → None ≡ tree_at name es → file_at name rows ≡ None
missing_file name es rows view none = ap (file_at name) (sym view) ∙ tree_file name es ∙ sym none

-- every file made sure of
pub all_sure : (rows : Rows) (q : Name) → file_at q (map (λ e. (e.0, settled e.1.bytes)) rows) ≡ made_sure (file_at q rows)
all_sure [] q = refl
all_sure (r ∷ rows) q = elim (eq_by_cmp name_cmp q r.0) as (λ (b : Bool). cond b (Some (settled r.1.bytes)) (file_at q (map (λ e. (e.0, settled e.1.bytes)) rows)) ≡ made_sure (cond b (Some r.1) (file_at q rows))) [
  | true ↦ refl
  | false ↦ all_sure rows q
]

-- A crash goes through the files in turn, and so many loose bytes may be kept of each.
module _ {F : Type 0} (T : F → Name → KeptBytes → Bool → KeptBytes → F → Type 0) (Holds : F → Type 0) (count_of : F → ℕ) (pick : ℕ) (but : Option Name)
    (one : (f g : F) (name : Name) (v w : KeptBytes) (b : Bool) → Holds f → T f name v b w g
    → (b ≡ true) × Holds g × FileImage v w.bytes × (w ≡ settled w.bytes) × PickedRow pick (count_of f) but name v w (count_of g)) where
  walk_crashed : (f : F) → Holds f → (old new : Rows) → RetainsPairs T f old new → (left : ℕ) × Crashed pick (count_of f) but old new left
  walk_crashed f holds [] new ran = (count_of f, subst (λ (l : Rows). Crashed pick (count_of f) but [] l (count_of f)) (sym ran) refl)
  walk_crashed f holds (r ∷ old) new (b, w, g, rest, call, ran, is) =
      let met = one f g r.0 r.1 w b holds call in
      let more = walk_crashed g met.1 old rest ran in
      let same : new ≡ (r.0, w) ∷ rest = is ∙ ap (λ (x : Bool). cond x ((r.0, w) ∷ rest) rest) met.0 in
      (more.0, subst (λ (l : Rows). Crashed pick (count_of f) but (r ∷ old) l more.0) (sym same) (count_of g, (refl, met.4, more.1)))

  walk_lands : (f : F) → Holds f → (old new : Rows) → RetainsPairs T f old new → (q : Name) → FileLands (file_at q old) (file_at q new)
  walk_lands f holds [] new ran q = subst (λ (l : Rows). FileLands None (file_at q l)) (sym ran) tt
  walk_lands f holds (r ∷ old) new (b, w, g, rest, call, ran, is) q =
      let met = one f g r.0 r.1 w b holds call in
      let same : new ≡ (r.0, w) ∷ rest = is ∙ ap (λ (x : Bool). cond x ((r.0, w) ∷ rest) rest) met.0 in
      let more = walk_lands g met.1 old rest ran q in
      subst (λ (l : Rows). FileLands (file_at q (r ∷ old)) (file_at q l)) (sym same)
      (elim (eq_by_cmp name_cmp q r.0) as (λ (b : Bool). FileLands (cond b (Some r.1) (file_at q old)) (cond b (Some w) (file_at q rest))) [
        | true ↦ (met.2, met.3)
        | false ↦ more
      ])

  pub walked : (f : F) → Holds f → count_of f ≡ pick / 4 → (old new rows : Rows) → old ≡ rows → RetainsPairs T f old new → ((q : Name) → FileLands (file_at q rows) (file_at q new)) × CrashedBy pick but rows new
  walked f holds first old new rows view ran =
      let all = walk_crashed f holds old new ran in
      let each : Crashed pick (pick / 4) but old new all.0 = subst (λ (n : ℕ). Crashed pick n but old new all.0) first all.1 in (
        (λ q. subst (λ (l : Rows). FileLands (file_at q l) (file_at q new)) view (walk_lands f holds old new ran q)),
        subst (λ (l : Rows). CrashedBy pick but l new) view (record { left = all.0; each = each }),
      )
