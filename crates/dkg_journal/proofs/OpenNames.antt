-- The names of a journal's files behind an opening.
use Rattle.std.proofs.Common.{◌≡◌, ◌≢◌, inl, inr, ℕ, ◌==◌, Bool, true, false, cond, List, [], ◌∷◌, fold, Option, Some, None, is_some, refl, sym, ◌∙◌, ap, arith}
use Rattle.std.specs.Prelude.{◌||◌, ◌&&◌, filter}
use Rattle.std.specs.List.{list_any}
use Rattle.std.specs.FinMap.{get, insert, keys, retain_keys, get-retain_keys}
use Rattle.std.proofs.lemmas.Bool.{cases_eq}
use Rattle.std.specs.declared.cmp.Ordering.TheVariants.{Equal}
use Rattle.dkg_values.specs.declared.name.Name.{Name}
use Rattle.dkg_values.specs.declared.name.Name.TheVariants.{Plan, Flat, Segment}
use Rattle.dkg_journal.specs.Names.{Files, name_cmp, name_number}
use Rattle.dkg_journal.specs.Found.{EndsAtPlace, FindsSegments, IsWholeFlat}
use Rattle.dkg_journal.specs.Operations.{is_plan, opened_names, with_segments}
use Rattle.dkg_journal.specs.Places.{Places, place_at}
use Rattle.dkg_journal.specs.Records.{SectionEntry, entries}
use Rattle.dkg_journal.specs.Segments.{Segments, parted, segments}
use Rattle.dkg_journal.specs.Steps.{IsSegmentAt}
use Rattle.dkg_journal.specs.Wholes.{after_all}
use Rattle.dkg_journal.specs.declared.disk.Op.{Op}
use Rattle.dkg_journal.specs.declared.opening.JournalEntry.{JournalEntry}
use Rattle.dkg_journal.proofs.Amid.{amid_all}
use Rattle.dkg_journal.proofs.Append.{segments_apart}
use Rattle.dkg_journal.proofs.AtOnce.{get_other}
use Rattle.dkg_journal.proofs.Finding.{are_parted}
use Rattle.dkg_journal.proofs.Gates.{flat_entries_section}
use Rattle.dkg_journal.proofs.Opened.{finds_keeps, finds_open, these}
use Rattle.dkg_journal.proofs.Order.{of_section, other_section, same_section}
use Rattle.dkg_journal.proofs.Parted.{IsPart, of_one, parted_at}
use Rattle.dkg_journal.proofs.SameFiles.{has_key, insert_keys, same_keys, some_keys}
use Rattle.dkg_journal.proofs.Sections.{with_section}
use Rattle.dkg_journal.proofs.Steps.{exact_names, get_here}

-- what is there has a place
ends_some : (place : Option ℕ) (file : Option (List ℕ)) → EndsAtPlace place file → is_some file ≡ is_some place
ends_some None file ends = ap is_some ends
ends_some (Some p) file ends = ap is_some ends.2

pub at_some : (place : Option ℕ) (file : Option (List ℕ)) → IsSegmentAt place file → is_some file ≡ is_some place
at_some None file at = ap is_some at
at_some (Some p) file at = ap is_some at.2

-- whether there is an entry of a section
abbrev any_at : ℕ → List SectionEntry → Bool
any_at section es = list_any (λ e. e.0 == section) es

abbrev nonempty : {A : Type 0} → List A → Bool
nonempty [] = false
nonempty (x ∷ xs) = true

any_of : (section : ℕ) (es : List SectionEntry) → any_at section es ≡ nonempty (of_section section es)
any_of section [] = refl
any_of section (e ∷ es) = elim (e.0 == section) as (λ (b : Bool). (b || any_at section es) ≡ nonempty (cond b (e ∷ of_section section es) (of_section section es))) [ true ↦ refl | false ↦ any_of section es ]

nonempty_with : (section : ℕ) (bs : List (List ℕ)) → nonempty (with_section section bs) ≡ nonempty bs
nonempty_with section [] = refl
nonempty_with section (b ∷ bs) = refl

part_some : (bs : List (List ℕ)) (o : Option (List ℕ)) → IsPart bs o → is_some o ≡ nonempty bs
part_some bs None is = ap nonempty (sym is)
part_some [] (Some file) is = absurd (omega (arith, is.1))
part_some (b ∷ bs) (Some file) is = refl

-- segments put in, one for each entry
abbrev with_files : Files → List SectionEntry → Files
with_files h es = fold (λ m e. insert m (Segment e.0) []) h es

files_keys : (es : List SectionEntry) (h : Files) → keys (with_files h es) ≡ with_segments es (keys h)
files_keys [] h = refl
files_keys (e ∷ es) h = files_keys es (insert h (Segment e.0) []) ∙ ap (λ (l : List Name). with_segments es l) (insert_keys h (Segment e.0) [])

files_other : (q : Name) → ((s : ℕ) → q ≢ Segment s) → (es : List SectionEntry) (h : Files) → get (with_files h es) q ≡ get h q
files_other q none [] h = refl
files_other q none (e ∷ es) h = files_other q none es (insert h (Segment e.0) []) ∙ get_other h (Segment e.0) [] q (none e.0)

or_true : (a b : Bool) → b ≡ true → (a || b) ≡ true
or_true true b is = refl
or_true false b is = is

files_at : (section : ℕ) (es : List SectionEntry) (h : Files) → is_some (get (with_files h es) (Segment section)) ≡ (any_at section es || is_some (get h (Segment section)))
files_at section [] h = refl
files_at section (e ∷ es) h =
    let next = insert h (Segment e.0) [] in
    files_at section es next ∙ elim (cases_eq e.0 section) [
      | inl is ↦
          let here : is_some (get next (Segment section)) ≡ true = ap (λ (n : ℕ). is_some (get next (Segment n))) (sym is) ∙ ap is_some (get_here h (Segment e.0) []) in
          or_true (any_at section es) (is_some (get next (Segment section))) here
          ∙ sym (ap (λ (b : Bool). (b || any_at section es) || is_some (get h (Segment section))) (ap (λ (n : ℕ). n == section) is ∙ same_section section))
      | inr ne ↦
          ap (λ (o : Option (List ℕ)). any_at section es || is_some o) (get_other h (Segment e.0) [] (Segment section) (segments_apart section e.0 (λ x. ne (sym x))))
          ∙ sym (ap (λ (b : Bool). (b || any_at section es) || is_some (get h (Segment section))) (other_section e.0 section ne))
    ]

or_false : (a b : Bool) → b ≡ false → (a || b) ≡ a
or_false true b is = refl
or_false false b is = is

plan_alike : (q x : Name) → name_cmp q x ≡ Equal → is_plan x ≡ is_plan q
plan_alike q x tied = ap is_plan (sym (exact_names q x tied))

module _ (f : Files) (waiting : List JournalEntry) (places : Places) (calls : List Op) (finds : FindsSegments f waiting places calls) where
  abbrev g : Files
  g = after_all calls f

  at_end : (s : ℕ) → IsSegmentAt (place_at places s) (get g (Segment s))
  at_end s = (finds_open f waiting places calls finds g (λ c. c ≡ g) refl (record { only = λ c is. is })).each s

  segment_there : (s : ℕ) → is_some (get g (Segment s)) ≡ is_some (get (segments f) s)
  segment_there s = at_some (place_at places s) (get g (Segment s)) (at_end s) ∙ sym (ends_some (place_at places s) (get (segments f) s) (finds.ends s))

  plan_there : get g Plan ≡ get f Plan
  plan_there = (finds_keeps f waiting places calls finds g (amid_all calls f g refl)).0.plan

  no_flat : get g Flat ≡ None
  no_flat = (finds_open f waiting places calls finds g (λ c. c ≡ g) refl (record { only = λ c is. is })).no_flat

  pub names_opened : keys g ≡ opened_names (entries f) (keys f)
  names_opened = by_flat (get f Flat) refl finds.flat
    where
      by_flat : (o : Option (List ℕ)) → get f Flat ≡ o → IsWholeFlat o → keys g ≡ opened_names (entries f) (keys f)
      by_flat None is flat =
          same_keys g f (λ q. at q) ∙ sym (ap (λ (b : Bool). cond b (with_segments (entries f) (filter is_plan (keys f))) (keys f)) (has_key f Flat ∙ ap is_some is))
        where
          at : (q : Name) → is_some (get g q) ≡ is_some (get f q)
          at Plan = ap is_some plan_there
          at Flat = ap is_some (no_flat ∙ sym is)
          at (Segment s) = segment_there s ∙ ap is_some (these f is s)
      by_flat (Some file) is flat =
          let bs = flat.0 in
          let base = retain_keys f is_plan in
          same_keys g (with_files base (entries f)) (λ q. at q) ∙ files_keys (entries f) base
          ∙ ap (λ (l : List Name). with_segments (entries f) l) (some_keys is_plan base f (λ q. kept q))
          ∙ sym (ap (λ (b : Bool). cond b (with_segments (entries f) (filter is_plan (keys f))) (keys f)) (has_key f Flat ∙ ap is_some is))
        where
          both : (a : Bool) (o : Option (List ℕ)) → is_some (cond a o None) ≡ (a && is_some o)
          both true o = refl
          both false o = refl

          kept : (q : Name) → is_some (get (retain_keys f is_plan) q) ≡ (is_plan q && is_some (get f q))
          kept q = ap is_some (get-retain_keys f is_plan q (plan_alike q)) ∙ both (is_plan q) (get f q)

          at : (q : Name) → is_some (get g q) ≡ is_some (get (with_files (retain_keys f is_plan) (entries f)) q)
          at Plan = ap is_some plan_there ∙ sym (ap is_some (files_other Plan (λ s e. absurd (omega (arith, ap name_number e))) (entries f) (retain_keys f is_plan)) ∙ kept Plan)
          at Flat = ap is_some no_flat ∙ sym (ap is_some (files_other Flat (λ s e. absurd (omega (arith, ap name_number e))) (entries f) (retain_keys f is_plan)) ∙ kept Flat)
          at (Segment s) =
              segment_there s ∙ ap (λ (m : Segments). is_some (get m s)) (are_parted f file is flat.0 flat.1 flat.2)
              ∙ part_some (of_one s flat.0) (get (parted flat.0) s) (parted_at s flat.0)
              ∙ sym (nonempty_with s (of_one s flat.0)) ∙ ap nonempty (sym (flat_entries_section f file is flat.0 flat.1 flat.2 s)) ∙ sym (any_of s (entries f))
              ∙ sym (files_at s (entries f) (retain_keys f is_plan) ∙ or_false (any_at s (entries f)) (is_some (get (retain_keys f is_plan) (Segment s))) (kept (Segment s)))
