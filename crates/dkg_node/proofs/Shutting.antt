-- What an opening leaves of a journal that it doesn't open.
use Rattle.std.proofs.Common.{◌≡◌, ◌⊎◌, inl, inr, ℕ, ◌++◌, Bool, true, false, List, [], ◌∷◌, Option, Some, None, Err, refl, sym, ◌∙◌, ap, subst}
use Rattle.dkg_journal.specs.Names.{Files}
use Rattle.dkg_journal.specs.Opening.{first_break}
use Rattle.dkg_journal.specs.Records.{SectionEntry, entries}
use Rattle.dkg_journal.specs.Steps.{Keeps}
use Rattle.dkg_values.specs.declared.name.Name.{Name}
use Rattle.dkg_infos.specs.declared.directory.Unit as directory
use Rattle.dkg_infos.specs.declared.entry.Entry.{Entry}
use Rattle.dkg_infos.specs.declared.fault.Fault.{Fault}
use Rattle.dkg_infos.specs.declared.fault.Fault.TheVariants as fault
use Rattle.dkg_store.specs.Acts.{Ended, Stands, by_cut, by_disk, by_secrets, by_want, held_in, stopped}
use Rattle.dkg_store.specs.Corrupt.{AreEvents}
use Rattle.dkg_store.specs.Events.{is_event_body}
use Rattle.dkg_secrets.specs.Secrets.{Secrets}
use Rattle.dkg_core.specs.Courses.{on_devices}
use Rattle.dkg_core.specs.Fixed.{Fixed}
use Rattle.dkg_core.specs.Live.{Faulted, Live, NodeStop}
use Rattle.dkg_core.specs.Node.{node_opening}
use Rattle.dkg_core.specs.Said.{Said}
use Rattle.dkg_core.specs.Transcripts.{BeginsOpened}
use Rattle.dkg_laws.proofs.NodeEndings.{node_openings_are_quiet}
use Rattle.dkg_life.specs.Opened.{IsInGrammar, OpensReadable, StaysShut}
use Rattle.dkg_life.specs.declared.stop.Stop.{Stop}
use Rattle.dkg_life.specs.declared.stop.Stop.TheVariants.{Cut, Failed, Fault as FaultOf}
use Rattle.dkg_lives.specs.Ended.{by_node_stop}
use Rattle.dkg_lives.specs.Ways.{IsBroken, StaysHeld}
use Rattle.dkg_node.proofs.OwnFaults.{IsOutside, own_or_outside}

shut_none : (image : Files → Type 0) (held : Secrets) → StaysShut image image held held
shut_none image held = record { images = record { each = λ c here. (c, here, record { plan = refl; same = refl }) }; same = refl }

-- no journal was opened
pub unopened : (T Readable : Type 0) (stop : Stop) (out : List Entry) (image : Files → Type 0) (held : Secrets) → OpensReadable {T = T} Readable (Err stop) out out image image held held
unopened T Readable stop out image held = record { ok = tt; untold = λ no. refl; shut = λ no. shut_none image held }

-- .. or its opening ended so
pub readable_ended : (T U : Type 0) (limit most : ℕ) → limit ≡ most → (files : Files) (stop : Stop) {out now : List Entry} {image next : Files → Type 0} {held held_now : Secrets}
    → OpensReadable {T = T} (IsInGrammar limit files) (Err stop) out now image next held held_now → OpensReadable {T = U} (IsInGrammar most files) (Err stop) out now image next held held_now
readable_ended T U limit most same files stop {out} {now} {image} {next} {held} {held_now} its =
    subst (λ (n : ℕ). OpensReadable {T = U} (IsInGrammar n files) (Err stop) out now image next held held_now) same (record { ok = tt; untold = its.untold; shut = its.shut })

pub grammar_as : (limit most : ℕ) → limit ≡ most → (files : Files) → IsInGrammar limit files → IsInGrammar most files
grammar_as limit most same files its = subst (λ (n : ℕ). IsInGrammar n files) same its

-- WHETHER A JOURNAL is in its grammar

events_or : (limit : ℕ) (es : List SectionEntry) → AreEvents limit es ⊎ (AreEvents limit es → ⊥)
events_or limit [] = inl tt
events_or limit (e ∷ es) = by_first (is_event_body limit e.1) refl (events_or limit es)
  where
    apart : is_event_body limit e.1 ≡ false → is_event_body limit e.1 ≡ true → ⊥
    apart isnt is = let wrong : true ≡ false = sym is ∙ isnt in cc

    by_first : (t : Bool) → is_event_body limit e.1 ≡ t → AreEvents limit es ⊎ (AreEvents limit es → ⊥) → AreEvents limit (e ∷ es) ⊎ (AreEvents limit (e ∷ es) → ⊥)
    by_first true is (inl are) = inl (is, are)
    by_first true is (inr not) = inr (λ are. not are.1)
    by_first false is rest = inr (λ are. apart is are.0)

pub grammar_or : (limit : ℕ) (files : Files) → IsInGrammar limit files ⊎ (IsInGrammar limit files → ⊥)
grammar_or limit files = by_broken (first_break files) refl (events_or limit (entries files))
  where
    some_none : {A : Type 0} {x : A} → ◌≡◌ {A = Option A} (Some x) None → ⊥
    some_none e = cc

    by_broken : (o : Option (Name × ℕ)) → first_break files ≡ o → AreEvents limit (entries files) ⊎ (AreEvents limit (entries files) → ⊥) → IsInGrammar limit files ⊎ (IsInGrammar limit files → ⊥)
    by_broken None is (inl are) = inl (record { whole = is; events = are })
    by_broken None is (inr not) = inr (λ its. not its.events)
    by_broken (Some at) is events = inr (λ its. some_none (sym is ∙ its.whole))

-- THE STOP of an opening that said nothing came from outside

ends_none : (old added : List Entry) → old ≡ old ++ added → added ≡ []
ends_none [] added is = sym is
ends_none (x ∷ old) added is = ends_none old added (rest is)
  where
    rest : x ∷ old ≡ x ∷ (old ++ added) → old ≡ old ++ added
    rest e = cc

broken_outside : (its : Fault) → IsOutside its → IsBroken (FaultOf its)
broken_outside fault.NoMemory is = record { cause = by_want; by = refl }
broken_outside fault.Disk is = record { cause = by_disk; by = refl }
broken_outside fault.Secrets is = record { cause = by_secrets; by = refl }
broken_outside (fault.Corrupt name place) is = record { cause = by_disk; by = refl }
broken_outside its is = absurd is

module _ (c : Fixed directory.Unit) (out now : List Entry) (untold : now ≡ out) where
  pub unsaid_stop : (stop : Stop) → Said (on_devices (node_opening c)) (by_node_stop stop) out now → IsBroken stop
  unsaid_stop Cut said = record { cause = by_cut; by = refl }
  unsaid_stop Failed said = record { cause = by_want; by = refl }
  unsaid_stop (FaultOf its) said = by_kind (own_or_outside its)
    where
      nothing : (added : List Entry) → added ≡ [] → BeginsOpened {F = NodeStop} {S = Live directory.Unit} c.life added (stopped (Faulted its)) → ⊥
      nothing added is begins = subst (λ (l : List Entry). BeginsOpened {F = NodeStop} {S = Live directory.Unit} c.life l (stopped (Faulted its))) is begins

      by_kind : IsOutside its ⊎ (by_node_stop {S = Live directory.Unit} (FaultOf its) ≡ stopped (Faulted its)) → IsBroken (FaultOf its)
      by_kind (inl is) = broken_outside its is
      by_kind (inr own) =
          let quiet = node_openings_are_quiet c (stopped (Faulted its)) out now (subst (λ (e : Ended NodeStop (Live directory.Unit)). Said (on_devices (node_opening c)) e out now) own said) in
          absurd (nothing quiet.0 (ends_none out quiet.0 (sym untold ∙ quiet.1)) quiet.2)

-- WHAT IS HELD stays

pub shut_holds : (files : Files) (image next : Files → Type 0) (held now : Secrets) → Stands files image → StaysShut image next held now → (c : Files) → next c → StaysHeld (held_in files held) (held_in c now)
shut_holds files image next held now stands shut c here = record {
  entries = (from.2).same ∙ ap entries at;
  plan = (from.2).plan ∙ ap (λ (f : Files). (held_in f held).journaled.plan) at;
  secrets = shut.same;
}
  where
    from : (d : Files) × image d × Keeps d c
    from = shut.images.each c here

    at : from.0 ≡ files
    at = stands.lands.only from.0 from.1
