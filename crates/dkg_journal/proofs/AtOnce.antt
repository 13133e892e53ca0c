-- What one call makes of files.
use Rattle.std.proofs.Common.{◌≡◌, ◌≢◌, inl, inr, ℕ, ◌+◌, ◌≤◌, cond, List, ◌++◌, length, take, drop, Option, Some, None, refl, sym, ◌∙◌, ap, subst, arith, length-append, append_assoc}
use Rattle.std.proofs.lemmas.List.{take_at, drop_at, length-take-le, length-drop}
use Rattle.std.proofs.lemmas.Option.{same_Some}
use Rattle.std.specs.FinMap.{get, insert, remove, get-insert, get-remove}
use Rattle.std.specs.Ordering.{is_eq}
use Rattle.std.specs.declared.cmp.Ordering.TheVariants.{Less, Equal, Greater}
use Rattle.std.proofs.lemmas.Cmp.{tied_itself}
use Rattle.dkg_journal.specs.Names.{Files, name_cmp}
use Rattle.dkg_journal.specs.Disk.{Inside, SameElse, Torn, written}
use Rattle.dkg_values.specs.declared.name.Name.{Name}
use Rattle.dkg_journal.specs.declared.disk.Op.{Op}
use Rattle.dkg_journal.specs.declared.disk.Op.TheVariants.{WriteAt, Sync, Barrier, Install, Remove}
use Rattle.dkg_journal.proofs.Steps.{names_total, exact_names, get_here}

pick : (q name : Name) (b x : Option (List ℕ)) → q ≢ name → cond (is_eq (name_cmp q name)) b x ≡ x
pick q name b x ne = elim (name_cmp q name) as (λ o. name_cmp q name ≡ o → cond (is_eq o) b x ≡ x) [
  | Less ↦ λ e. refl
  | Equal ↦ λ e. absurd (ne (exact_names q name e))
  | Greater ↦ λ e. refl
] refl

pub get_other : (f : Files) (name : Name) (b : List ℕ) → SameElse name f (insert f name b)
get_other f name b q ne = get-insert names_total f name b q ∙ pick q name (Some b) (get f q) ne

pub get_gone : (f : Files) (name : Name) → SameElse name f (remove f name)
get_gone f name q ne = get-remove names_total f name q ∙ pick q name None (get f q) ne

pub gone_here : (f : Files) (name : Name) → get (remove f name) name ≡ None
gone_here f name = get-remove names_total f name name ∙ ap (λ r. cond (is_eq r) None (get f name)) (tied_itself names_total name)

pub torn_same : (at n : ℕ) (x : List ℕ) → Torn at n x x
torn_same at n x = record { before = refl; after = λ le. refl; no_shorter = omega arith }

-- a write that is done is one that a crash may leave
pub torn_written : (place : ℕ) (bytes old : List ℕ) → place ≤ length old → Torn place (length bytes) old (written place bytes old)
torn_written place bytes old le =
    let front : length (take place old) ≡ place = length-take-le place old le in
    let both : length (take place old ++ bytes) ≡ place + length bytes = omega (arith, length-append (take place old) bytes, front) in
    record {
      before = ap (take place) (append_assoc (take place old) bytes (drop (place + length bytes) old)) ∙ take_at (take place old) (bytes ++ drop (place + length bytes) old) place front;
      after = λ fits. drop_at (take place old ++ bytes) (drop (place + length bytes) old) (place + length bytes) both;
      no_shorter = omega (arith, length-append (take place old ++ bytes) (drop (place + length bytes) old), both, length-drop (place + length bytes) old);
    }

pub inside_write : (f : Files) (name : Name) (place : ℕ) (bytes file : List ℕ) → get f name ≡ Some file → place ≤ length file → Inside (WriteAt name place bytes) f (insert f name (written place bytes file))
inside_write f name place bytes file is le = (
  get_other f name _,
  λ x at. record {
    bytes = written place bytes file;
    there = get_here f name _;
    so = subst (λ (y : List ℕ). Torn place (length bytes) y (written place bytes file)) (same_Some file x (sym is ∙ at)) (torn_written place bytes file le);
  },
)

pub inside_install : (f : Files) (name : Name) (bytes : List ℕ) → Inside (Install name bytes) f (insert f name bytes)
inside_install f name bytes = (get_other f name bytes, inr (get_here f name bytes))

pub inside_remove : (f : Files) (name : Name) → Inside (Remove name) f (remove f name)
inside_remove f name = (get_gone f name, inr (gone_here f name))

-- nothing of the call may have been done
pub inside_none : (op : Op) (f : Files) → Inside op f f
inside_none (WriteAt name place bytes) f = (λ q ne. refl, λ x at. record { bytes = x; there = at; so = torn_same place (length bytes) x })
inside_none (Sync name) f = refl
inside_none Barrier f = refl
inside_none (Install name bytes) f = (λ q ne. refl, inl refl)
inside_none (Remove name) f = (λ q ne. refl, inl refl)
