-- What a run offers: to each player of an epoch one half alone, over all its lives.
use Rattle.std.specs.Prelude.{ℕ, List, ◌≡◌, Contains}
use Rattle.dkg_journal.specs.Names.{Files}
use Rattle.dkg_secrets.specs.Secrets.{Secrets}
use Rattle.dkg_infos.specs.declared.entry.Entry.{Entry}
use Rattle.dkg_infos.specs.declared.entry.Entry.TheVariants.{Offer}
use Rattle.dkg_text.specs.declared.script.Script.{Script}
use Rattle.dkg_script.specs.AsCut.{setting_as_cut}
use Rattle.dkg_script.specs.Consistent.{IsConsistentScript}
use Rattle.dkg_script.specs.Inclusion.{IsFormOfInclusion}
use Rattle.dkg_script.specs.Progress.{progress}

-- Whatever is offered to a player in an epoch is the same at each time.
pub record SameOffers (out : List Entry) : Type 0 where
  pub one : (epoch player : ℕ) (public other_public : List ℕ) (private other_private : ℕ) → Contains out (Offer epoch player public private) → Contains out (Offer epoch player other_public other_private)
      → (public ≡ other_public) × (private ≡ other_private)

-- Over the entries that a run adds, whatever ends it: so it is of a script of the form that is consistent where its lives ended so. (It is judged as it was cut.)
abbrev pub OffersTheSame : Script → Files → Secrets → List Entry → Type 0
OffersTheSame script files secrets out = let s = setting_as_cut script files secrets out in IsFormOfInclusion s.script → IsConsistentScript s (progress s out).cuts → SameOffers out
