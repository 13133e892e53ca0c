-- What follows for the crates above from a journal that is open.
use Rattle.std.proofs.Common.{◌≡◌, ℕ, ◌<◌, ◌==◌, nat_lt, Bool, true, false, cond, not, List, [], ◌∷◌, length, Option, Some, None, is_some, refl, sym, ◌∙◌, ap, arith}
use Rattle.std.specs.Prelude.{◌||◌, ◌&&◌, filter, if◌then◌else◌}
use Rattle.std.specs.List.{list_any}
use Rattle.std.specs.FinMap.{get, keys}
use Rattle.std.proofs.lemmas.Bool.Decides.{nat_tests}
use Rattle.dkg_values.specs.declared.name.Name.{Name}
use Rattle.dkg_values.specs.declared.name.Name.TheVariants.{Plan, Flat, Segment}
use Rattle.dkg_journal.specs.Names.{Files}
use Rattle.dkg_journal.specs.Disk.{ImagesFollow, IsUnchanged}
use Rattle.dkg_journal.specs.Gated.{OpensAlike}
use Rattle.dkg_journal.specs.Opening.{first_break}
use Rattle.dkg_journal.specs.Journals.{IsOpen, append_calls, has_file}
use Rattle.dkg_journal.specs.Places.{place_at}
use Rattle.dkg_journal.specs.Pruning.{LeavesAbove, is_below}
use Rattle.dkg_journal.specs.Records.{SectionEntry, entries, placed}
use Rattle.dkg_journal.specs.Steps.{AddsEntry, append_calls_at}
use Rattle.dkg_journal.specs.declared.journal.Journal.{Journal}
use Rattle.dkg_journal.proofs.Append.{flat_plan}
use Rattle.dkg_journal.proofs.Order.{of_section}
use Rattle.dkg_journal.proofs.SameFiles.{some_keys}
use Rattle.dkg_journal.proofs.Sections.{bodies_at, entries_section, with_section}

size_at : (place : Option ℕ) (e : SectionEntry) → length (append_calls_at place e) ≡ (if is_some place then 4 else 5)
size_at None e = refl
size_at (Some place) e = refl

-- how many calls an append makes
pub append_size : (journal : Journal) (e : SectionEntry) → length (append_calls journal e) ≡ (if has_file journal e.0 then 4 else 5)
append_size journal e = size_at (place_at journal.places e.0) e

abbrev nonempty : List SectionEntry → Bool
nonempty [] = false
nonempty (e ∷ es) = true

same_number : (n : ℕ) → (n == n) ≡ true
same_number n = grind (arith, nat_tests)

or_true : (a : Bool) → (a || true) ≡ true
or_true true = refl
or_true false = refl

any_placed : (es : List SectionEntry) (e : SectionEntry) → list_any (λ x. x.0 == e.0) (placed es e) ≡ true
any_placed [] e = ap (λ (b : Bool). b || false) (same_number e.0)
any_placed (x ∷ xs) e = elim (nat_lt e.0 x.0) as (λ (b : Bool). list_any (λ (y : SectionEntry). y.0 == e.0) (cond b (e ∷ x ∷ xs) (x ∷ placed xs e)) ≡ true) [
  | true ↦ ap (λ (b : Bool). b || list_any (λ (y : SectionEntry). y.0 == e.0) (x ∷ xs)) (same_number e.0)
  | false ↦ ap (λ (b : Bool). (x.0 == e.0) || b) (any_placed xs e) ∙ or_true (x.0 == e.0)
]

any_of : (section : ℕ) (es : List SectionEntry) → list_any (λ x. x.0 == section) es ≡ nonempty (of_section section es)
any_of section [] = refl
any_of section (e ∷ es) = elim (e.0 == section) as (λ (b : Bool). (b || list_any (λ (y : SectionEntry). y.0 == section) es) ≡ nonempty (cond b (e ∷ of_section section es) (of_section section es))) [ true ↦ refl | false ↦ any_of section es ]

-- the file of an entry that was added is there
pub added_there : (journal : Journal) (files : Files) (e : SectionEntry) (image next : Files → Type 0) → IsOpen journal files next → ImagesFollow (AddsEntry e) image next → (c : Files) → next c → is_some (get c (Segment e.0)) ≡ true
added_there journal files e image next at adds c here =
    let from = adds.each c here in
    let no_flat : get c Flat ≡ None = at.only c here Flat flat_plan ∙ at.no_flat in
    by_file (get c (Segment e.0)) refl (sym (ap nonempty (ap (of_section e.0) from.2.added)) ∙ ap nonempty (entries_section c no_flat e.0)) (sym (any_of e.0 (placed (entries from.0) e)) ∙ any_placed (entries from.0) e)
  where
    by_file : (o : Option (List ℕ)) → get c (Segment e.0) ≡ o → {b : Bool} → b ≡ nonempty (with_section e.0 (bodies_at (get c (Segment e.0)))) → b ≡ true → is_some (get c (Segment e.0)) ≡ true
    by_file (Some x) is same some = ap is_some is
    by_file None is same some = absurd (let h : ◌≡◌ {A = Bool} true false = sym some ∙ same ∙ ap (λ (o : Option (List ℕ)). nonempty (with_section e.0 (bodies_at o))) is in cc)

-- the names behind a prune
pub leaves_names : (least : ℕ) (old c : Files) → LeavesAbove least old c → keys c ≡ filter (λ n. not (is_below least n)) (keys old)
leaves_names least old c left = some_keys (λ n. not (is_below least n)) c old (λ q. by_below q (is_below least q) refl)
  where
    by_name : (q : Name) → is_below least q ≡ true → get c q ≡ None
    by_name Plan is = absurd (let h : ◌≡◌ {A = Bool} false true = is in cc)
    by_name Flat is = absurd (let h : ◌≡◌ {A = Bool} false true = is in cc)
    by_name (Segment s) is = left.gone s (under s is)
      where
        under : (s : ℕ) → nat_lt s least ≡ true → s < least
        under s is = grind (arith, nat_tests)

    by_below : (q : Name) (b : Bool) → is_below least q ≡ b → is_some (get c q) ≡ (not (is_below least q) && is_some (get old q))
    by_below q true is = ap is_some (by_name q is) ∙ sym (ap (λ (b : Bool). not b && is_some (get old q)) is)
    by_below q false is = ap is_some (left.others q is) ∙ sym (ap (λ (b : Bool). not b && is_some (get old q)) is)

-- where nothing changed, another opening finds the same
pub unchanged_alike : {D : Type 0} (files : D → Files) (image : D → Files → Type 0) (a b : D) → IsUnchanged files image a b → OpensAlike (files a) (files b)
unchanged_alike files image a b same = record { same_broken = ap first_break same.same_files; same_entries = ap entries same.same_files }
