-- A line that was told, or found no memory: what was made of it, and what was said.
use Rattle.std.proofs.Common.{◌≡◌, List, [], ◌∷◌, ◌++◌, Result, Ok, Err, refl, sym, ◌∙◌, ap, subst, inl, append-nil}
use Rattle.std.specs.Prelude.{OnOk, OnErr, IfErr}
use Rattle.dkg_journal.specs.Burn.{Burn}
use Rattle.dkg_journal.specs.Names.{Files}
use Rattle.dkg_infos.specs.declared.entry.Entry.{Entry}
use Rattle.dkg_infos.specs.declared.fault.Fault.{Fault}
use Rattle.dkg_infos.specs.declared.fault.Fault.TheVariants.{NoMemory}
use Rattle.dkg_store.specs.Acts as acts_of
use Rattle.dkg_store.specs.Acts.{moment, MadeAt, Ended, by_want}
use Rattle.dkg_secrets.specs.Secrets.{Secrets}
use Rattle.dkg_store.proofs.Acts.{made_say, made_none_said}
use Rattle.dkg_life.specs.declared.stop.Stop.{Stop}
use Rattle.dkg_life.specs.declared.stop.Stop.TheVariants.{Fault as Faulted}
use Rattle.dkg_life.specs.Ends.{by_stop, ends_in}
use Rattle.dkg_core.specs.Said.{Said}

module _ {S : Type 0} (line : Entry) (end : S) {out now : List Entry} where
  -- over the devices, which it doesn't touch
  pub line_made : (result : Result (Unit {0}) Stop) (files : Files) (image : Files → Type 0) (s : Secrets) (f : Burn)
      → OnOk result (now ≡ out ++ line ∷ []) → OnErr result (now ≡ out) → IfErr result (λ stop. stop ≡ Faulted NoMemory)
      → MadeAt (acts_of.Say line (acts_of.Goes end)) (ends_in end result) files image files image (moment out s f) (moment now s f)
  line_made (Ok done) files image s f told untold memory = made_say files image line end out now s f told
  line_made (Err stop) files image s f told untold memory =
      made_none_said files image (acts_of.Say line (acts_of.Goes end)) by_want tt untold (ap (λ (its : Stop). by_stop {S = S} its) memory)

  -- .. and whatever they tell
  pub line_said : (result : Result (Unit {0}) Stop) → OnOk result (now ≡ out ++ line ∷ []) → OnErr result (now ≡ out) → IfErr result (λ stop. stop ≡ Faulted NoMemory)
      → Said (acts_of.Say line (acts_of.Goes end)) (ends_in end result) out now
  line_said (Ok done) told untold memory = record { lines = line ∷ []; added = told; by = ([], refl, (refl, refl)) }
  line_said (Err stop) told untold memory =
      subst (λ (its : Ended Fault S). Said (acts_of.Say line (acts_of.Goes end)) its out now) (sym (ap (λ (its : Stop). by_stop {S = S} its) memory))
      (record { lines = []; added = untold ∙ sym (append-nil out); by = inl refl })
