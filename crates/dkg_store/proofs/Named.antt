-- Which names the journal's calls leave.
use Rattle.std.proofs.Common.{◌≡◌, inl, inr, ⊎_elim, ℕ, Bool, true, false, is_some, not, refl, sym, ap, subst, ◌∙◌}
use Rattle.std.specs.FinMap.{get, keys}
use Rattle.dkg_values.specs.declared.name.Name.TheVariants.{Segment}
use Rattle.dkg_journal.specs.Burn.{Burn}
use Rattle.dkg_journal.specs.Names.{Files}
use Rattle.dkg_journal.specs.Disk.{ImagesFollow}
use Rattle.dkg_journal.specs.Operations.{Journaled, Opens, Appends, Tried, FinishedOperation, opened_names}
use Rattle.dkg_journal.specs.Pruning.{MayLeave}
use Rattle.dkg_journal.specs.Records.{SectionEntry, entries}
use Rattle.dkg_journal.specs.Steps.{AddsEntry}
use Rattle.dkg_journal.proofs.SameFiles.{named}
use Rattle.dkg_journal.proofs.Journals.{leaves_names}
use Rattle.dkg_store.specs.Named.{Named, MayBeNamed, NamesOpened, NamesPruned}

-- nothing was called
pub same_names : (section : ℕ) (image : Files → Type 0) → ImagesFollow (Named false section) image image
same_names section image = record { each = λ c here. (c, here, record { names = refl }) }

pub may_same : (section : ℕ) (image : Files → Type 0) → ImagesFollow (MayBeNamed section) image image
may_same section image = record { each = λ c here. (c, here, record { either = inl refl }) }

-- .. for what was recorded already is not appended
pub known_names : (known : Bool) (section : ℕ) (image : Files → Type 0) → known ≡ true → ImagesFollow (Named (not known) section) image image
known_names known section image is = subst (λ (b : Bool). ImagesFollow (Named (not b) section) image image) (sym is) (same_names section image)

-- an append, wherever it ended
pub append_names : (e : SectionEntry) (old : Files) (image next : Files → Type 0) (f g : Burn) → image old → Tried (Appends e) old next f g → ImagesFollow (MayBeNamed e.0) image next
append_names e old image next f g itself tried = record {
  each = λ c here. (
    old,
    itself,
    record {
      either = ⊎_elim
          (λ same. inl (ap (λ (j : Journaled). j.names) same))
          (λ more. inr (⊎_elim (λ after. ap (λ (j : Journaled). j.names) after) (λ part. ap (λ (j : Journaled). j.names) part) more))
          (tried.each c here);
    },
  );
}

-- .. and one that is done
pub made_name : (e : SectionEntry) (image next : Files → Type 0) → ((c : Files) → next c → is_some (get c (Segment e.0)) ≡ true) → ImagesFollow (AddsEntry e) image next → ImagesFollow (Named true e.0) image next
made_name e image next there adds = record {
  each = λ c here. let from = adds.each c here in (from.0, from.1, record { names = named (Segment e.0) from.0 c from.2.others (there c here) });
}

-- a prune, wherever it ended
pub prune_names : (min : ℕ) (image next : Files → Type 0) → ImagesFollow (MayLeave min) image next → ImagesFollow (NamesPruned min) image next
prune_names min image next may = record {
  each = λ c here. let from = may.each c here in (from.0, from.1, record { least = from.2.least; low = from.2.low; names = leaves_names from.2.least from.0 c from.2.leaves });
}

-- all of an opening
pub opened_too : (n : ℕ) (old mid new : Files) (next : Files → Type 0) (f g : Burn) → mid ≡ old → FinishedOperation (Opens n) mid new next f g → (c : Files) → next c → NamesOpened old c
opened_too n old mid new next f g same done c here = record {
  names = ap keys (done.settled.only c here) ∙ ap (λ (j : Journaled). j.names) done.after ∙ ap (λ (m : Files). opened_names (entries m) (keys m)) same;
}
