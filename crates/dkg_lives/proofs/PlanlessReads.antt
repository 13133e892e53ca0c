-- A read that gives what the devices hold, all but the plan, gives records and secrets, and no plan.
use Rattle.std.proofs.Common.{◌≡◌, None, refl, sym, subst}
use Rattle.dkg_store.specs.Acts.{Held}
use Rattle.dkg_core.specs.Meant.{ReadsRecords}
use Rattle.dkg_core.specs.Seen.{Seen}
use Rattle.dkg_core.specs.Storing.{ReadsSecrets}
use Rattle.dkg_life.specs.Planless.{seen_planless}

pub planless_secrets : (seen : Held → Seen) → seen ≡ seen_planless → ReadsSecrets seen
planless_secrets seen is = subst ReadsSecrets (sym is) (record { shares = λ h. refl; seeds = λ h. refl })

pub planless_records : (seen : Held → Seen) → seen ≡ seen_planless → ReadsRecords seen
planless_records seen is = subst ReadsRecords (sym is) (record { dealings = λ h. refl; acks = λ h. refl; logs = λ h. refl })

pub planless : (seen : Held → Seen) → seen ≡ seen_planless → (h : Held) → (seen h).plan ≡ None
planless seen is = subst (λ (read : Held → Seen). (h : Held) → (read h).plan ≡ None) (sym is) (λ h. refl)
