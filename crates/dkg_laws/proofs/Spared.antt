-- What a node's opening leaves on the devices as it was.
use Rattle.std.proofs.Common.{◌≡◌, ◌≤◌, ℕ, cond, Bool, true, nat_le, List, [], Option, None, refl, ◌∙◌, sym, ap, arith}
use Rattle.std.proofs.lemmas.Bool.Decides.{nat_tests}
use Rattle.std.specs.FinMap.{get, retain_keys, get-retain_keys}
use Rattle.dkg_journal.specs.Operations as of_journal
use Rattle.dkg_journal.specs.Operations.{Bars, Opens, Appends, Prunes, PutsPlan, ClearsPlan, Journaled, InPart}
use Rattle.dkg_journal.specs.Records.{SectionEntry, from_section}
use Rattle.dkg_secrets.proofs.Map.{exact_keys}
use Rattle.dkg_store.specs.Acts.{Held, Operation, OnDisk, Changes, World, notes, plan}
use Rattle.dkg_store.specs.Noted.{Note, Notes, noted, noted_ack, noted_log, acks_in, logs_in}
use Rattle.dkg_store.proofs.Acts.{along_runs}
use Rattle.dkg_store.proofs.Pruned.{acks_from, logs_from}
use Rattle.dkg_core.specs.Courses.{Course, Deed, Throughout, on_devices}
use Rattle.dkg_core.specs.Fixed.{Fixed}
use Rattle.dkg_core.specs.Core.{opening}
use Rattle.dkg_core.specs.Laws.{Holds, OpeningOperation, opening_law, StartsWithin}
use Rattle.dkg_laws.specs.Spared.{NodeOpeningsKeepPlans, NodeOpeningsKeepNotes}
use Rattle.dkg_core.proofs.Behind.{openings_run_behind}
use Rattle.dkg_core.proofs.Holding.{holds_as}
use Rattle.dkg_core.proofs.Opening.{openings_prune}
use Rattle.dkg_core.proofs.Sparing.{sparing, spared, opening_plan, plan_spared}

pub node_openings_keep_plans : {Dir : Type 0} → NodeOpeningsKeepPlans Dir
node_openings_keep_plans c ended w new form run =
    let b = openings_run_behind c ended w new run in
    ap plan b.held
    ∙ along_runs (λ (x : World). plan x.held ≡ plan w.held) (on_devices (opening c)) b.half w b.mid (plan_spared (opening c) w (opening_plan c form.reshare form.bare form.unplanned)) b.run

-- nothing is appended, and nothing pruned from here on
abbrev SparesNotes : (most : ℕ) → Operation → Type 0
SparesNotes most (OnDisk (Appends e)) = ⊥
SparesNotes most (OnDisk (Prunes min)) = min ≤ most
SparesNotes most op = Unit {0}

opening_spares : {Dir : Type 0} (most : ℕ) (past : List (Deed Dir)) (op : Operation) → OpeningOperation most past op → SparesNotes most op
opening_spares most past (OnDisk Bars) h = tt
opening_spares most past (OnDisk (Opens calls)) h = tt
opening_spares most past (OnDisk (Appends e)) h = absurd h
opening_spares most past (OnDisk (Prunes min)) h = h
opening_spares most past (OnDisk (PutsPlan bytes)) h = tt
opening_spares most past (OnDisk ClearsPlan) h = tt
opening_spares most past (Changes op) h = tt

opening_notes : {Dir : Type 0} (c : Fixed Dir) (most : ℕ) → StartsWithin c most → Holds (sparing (SparesNotes most)) [] (opening c)
opening_notes c most starts =
    holds_as (opening_law c most) (sparing (SparesNotes most)) [] (opening c) (λ past line h. tt) (opening_spares most) (λ past end h. tt) (openings_prune c most starts)

reaches : (min n : ℕ) → min ≤ n → nat_le min n ≡ true
reaches min n low = grind (arith, nat_tests, low)

module _ {V : Type 0} (note_of : SectionEntry → Option (Note V)) (from_is : (min : ℕ) (es : List SectionEntry) → noted note_of (from_section min es) ≡ retain_keys (noted note_of es) (λ k. nat_le min k.0))
    (most : ℕ) (key : ℕ × ℕ) (above : most ≤ key.0) where
  abbrev at_key : Journaled → Option V
  at_key j = get (noted note_of j.entries) key

  kept_at : (min : ℕ) (es : List SectionEntry) → min ≤ most → get (noted note_of (from_section min es)) key ≡ get (noted note_of es) key
  kept_at min es low =
      ap (λ (m : Notes V). get m key) (from_is min es)
      ∙ get-retain_keys (noted note_of es) (λ (x : ℕ × ℕ). nat_le min x.0) key (λ x tied. ap (λ (y : ℕ × ℕ). nat_le min y.0) (sym (exact_keys key x tied)))
      ∙ ap (λ (t : Bool). cond t (get (noted note_of es) key) None) (reaches min key.0 (omega (arith, low, above)))

  notes_kept : (op : of_journal.JournalOperation) (j : Journaled) → SparesNotes most (OnDisk op) → at_key (of_journal.after_operation op j) ≡ at_key j
  notes_kept Bars j spares = refl
  notes_kept (Opens calls) j spares = refl
  notes_kept (Appends e) j spares = absurd spares
  notes_kept (Prunes min) j spares = kept_at min j.entries spares
  notes_kept (PutsPlan bytes) j spares = refl
  notes_kept ClearsPlan j spares = refl

  notes_in_part : (op : of_journal.JournalOperation) (j new : Journaled) → SparesNotes most (OnDisk op) → InPart op j new → at_key new ≡ at_key j
  notes_in_part Bars j new spares part = absurd part
  notes_in_part (Opens calls) j new spares part = ap (λ (es : List SectionEntry). get (noted note_of es) key) part.0
  notes_in_part (Appends e) j new spares part = absurd spares
  notes_in_part (Prunes min) j new spares part =
      ap (λ (x : Journaled). get (noted note_of x.entries) key) part.2 ∙ kept_at part.0 j.entries (let least = part.1 in omega (arith, least, spares))
  notes_in_part (PutsPlan bytes) j new spares part = absurd part
  notes_in_part ClearsPlan j new spares part = absurd part

  notes_spared : {Dir F S : Type 0} (course : Course Dir F S) (w : World) → Holds (sparing (SparesNotes most)) [] course
      → Throughout (λ new. get (noted note_of (notes new.held)) key ≡ get (noted note_of (notes w.held)) key) course w
  notes_spared course w holds = spared (SparesNotes most) at_key notes_kept notes_in_part course w holds

pub node_openings_keep_notes : {Dir : Type 0} → NodeOpeningsKeepNotes Dir
node_openings_keep_notes c ended most w new starts run key above =
    let b = openings_run_behind c ended w new run in (
      ap (λ (h : Held). get (logs_in (notes h)) key) b.held
          ∙ along_runs (λ (x : World). get (logs_in (notes x.held)) key ≡ get (logs_in (notes w.held)) key) (on_devices (opening c)) b.half w b.mid
          (notes_spared noted_log logs_from most key above (opening c) w (opening_notes c most starts)) b.run,
      ap (λ (h : Held). get (acks_in (notes h)) key) b.held
          ∙ along_runs (λ (x : World). get (acks_in (notes x.held)) key ≡ get (acks_in (notes w.held)) key) (on_devices (opening c)) b.half w b.mid
          (notes_spared noted_ack acks_from most key above (opening c) w (opening_notes c most starts)) b.run,
    )
